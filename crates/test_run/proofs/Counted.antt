-- Flags that say what a test says of their numbers are as many as the numbers that pass.
use Rattle.std.proofs.Common.{◌≡◌, ℕ, suc, ◌+◌, ◌<◌, Bool, false, List, [], ◌∷◌, length, get_or, count_by, cond, refl, sym, ap, ◌∙◌, arith}
use Rattle.std.proofs.lemmas.List.Sums.{sum_by-cons}
use Rattle.std.specs.List.{list_any, range_with_len}
use Rattle.test_run.specs.Coverage.{is_sent_to, covered_among}
use Rattle.cfg_types.specs.declared.answers.Choice.{Choice}

flags_from : (flags : List Bool) (p : ℕ → Bool) (a : ℕ) → ((k : ℕ) → k < length flags → get_or flags k false ≡ p (a + k)) → count_by (λ f. f) flags ≡ count_by p (range_with_len a (length flags))
flags_from [] p a h = refl
flags_from (f ∷ fs) p a h =
    let here : f ≡ p a = h 0 (omega arith) ∙ ap p (omega arith) in
    let rest : count_by (λ f. f) fs ≡ count_by p (range_with_len (a + 1) (length fs)) = flags_from fs p (a + 1) (λ k lt. h (suc k) (omega arith) ∙ ap p (omega arith)) in
    sum_by-cons (λ x. cond x 1 0) f fs
    ∙ ap (λ (b : Bool). cond b 1 0 + count_by (λ x. x) fs) here
    ∙ ap (λ (n : ℕ). cond (p a) 1 0 + n) rest
    ∙ sym (sum_by-cons (λ x. cond (p x) 1 0) a (range_with_len (a + 1) (length fs)))

pub covered_flags : (flags : List Bool) (cs : List Choice) (n : ℕ) → length flags ≡ n → ((r : ℕ) → r < n → get_or flags r false ≡ list_any (is_sent_to r) cs) → count_by (λ f. f) flags ≡ covered_among cs n
covered_flags flags cs n e h =
    flags_from flags (λ r. list_any (is_sent_to r) cs) 0 (λ k lt. h k (omega arith) ∙ ap (λ r. list_any (is_sent_to r) cs) (omega arith))
    ∙ ap (λ m. count_by (λ r. list_any (is_sent_to r) cs) (range_with_len 0 m)) e
