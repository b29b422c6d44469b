-- The words of a call, as lists of strings and as lists of bytes.
use Rattle.std.proofs.Common.{◌≡◌, Bool, ◌&&◌, ◌||◌, ◌+◌, nat_le, List, [], ◌∷◌, map, Some, None, slice_get, refl, ap}
use Rattle.std.specs.Prelude.{count_by, if◌then◌else◌}
use Rattle.std.specs.List.{list_any, list_all}
use Rattle.std.proofs.lemmas.List.Folds.{list_all-map, fold-map}
use Rattle.text_base.specs.Asked.{Bytes}
use Rattle.check_core.specs.Words.{is_argument, is_percent, is_only_failures, is_check_word, are_check_words, is_splits, is_states, is_reach_word, are_reach_words}

module _ {X : Type 0} (h : X → Bytes) where
  count_by-map : (p : Bytes → Bool) (xs : List X) → count_by p (map h xs) ≡ count_by (λ x. p (h x)) xs
  count_by-map p xs = fold-map (λ n b. n + (if p b then 1 else 0)) h 0 xs

  pub list_any-map : (p : Bytes → Bool) (xs : List X) → list_any p (map h xs) ≡ list_any (λ x. p (h x)) xs
  list_any-map p [] = refl
  list_any-map p (x ∷ xs) = ap (λ b. p (h x) || b) (list_any-map p xs)

  -- whether words stand in a call, by their strings
  pub check_words_stand : (xs : List X) → are_check_words (map h xs) ≡
      (list_all (λ x. is_check_word (h x)) xs && nat_le (count_by (λ x. is_percent (h x)) xs) 1 && nat_le (count_by (λ x. is_only_failures (h x)) xs) 1)
  check_words_stand xs = rw (list_all-map is_check_word h xs, count_by-map is_percent xs, count_by-map is_only_failures xs) refl

  pub reach_words_stand : (xs : List X) → are_reach_words (map h xs) ≡
      (list_all (λ x. is_reach_word (h x)) xs && nat_le (count_by (λ x. is_splits (h x)) xs) 1 && nat_le (count_by (λ x. is_states (h x)) xs) 1)
  reach_words_stand xs = rw (list_all-map is_reach_word h xs, count_by-map is_splits xs, count_by-map is_states xs) refl

  pub arguments_stand : (xs : List X) → list_all is_argument (map h xs) ≡ list_all (λ x. is_argument (h x)) xs
  arguments_stand xs = list_all-map is_argument h xs

-- what two arguments and no third are
pub two_arguments : (given : List Bytes) (a b : Bytes) → Some a ≡ slice_get given 0 → Some b ≡ slice_get given 1 → slice_get given 2 ≡ None →
    given ≡ a ∷ b ∷ []
two_arguments [] a b p q r = absurd (cc (p))
two_arguments (x ∷ []) a b p q r = absurd (cc (q))
two_arguments (x ∷ y ∷ []) a b p q r =
    let e : a ≡ x = cc (p) in
    let f : b ≡ y = cc (q) in
    rw (e, f) refl
two_arguments (x ∷ y ∷ z ∷ rest) a b p q r = absurd (cc (r))

-- what one argument and no second is
pub one_argument : (given : List Bytes) (a : Bytes) → Some a ≡ slice_get given 0 → slice_get given 1 ≡ None → given ≡ a ∷ []
one_argument [] a p q = absurd (cc (p))
one_argument (x ∷ []) a p q = let e : a ≡ x = cc (p) in rw e refl
one_argument (x ∷ y ∷ rest) a p q = absurd (cc (q))
