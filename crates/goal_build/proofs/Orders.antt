-- Numbers that come by first places.
use Rattle.std.proofs.Common.{◌≡◌, ℕ, zero, suc, ◌+◌, ◌<◌, Bool, true, false, not, ◌||◌, ◌==◌, inl, inr, List, [], ◌∷◌, ◌++◌, length, length-append, Some, slice_get, refl, sym, ap, subst, ◌∙◌, arith, append_assoc, if◌then◌else◌}
use Rattle.std.specs.Prelude.{filter}
use Rattle.std.specs.List.{list_any, range_with_len}
use Rattle.std.proofs.lemmas.Bool.{eqb-true, eq-eqb, both_ways, not_from_false}
use Rattle.std.proofs.lemmas.List.{append-nil}
use Rattle.std.proofs.lemmas.List.Elements.{filter-append}
use Rattle.std.proofs.lemmas.Option.{slice_get_within}
use Rattle.rx_term.specs.Language.{Has}
use Rattle.cfg_types.proofs.Members.{any-true, any-none}
use Rattle.goal_form.specs.declared.atom.Atom.{Atom}
use Rattle.goal_form.specs.Numbers.{Numbers, found, added}
use Rattle.goal_build.specs.Numbering.{firsts}
use Rattle.goal_build.specs.Renumbering.{InOrder}
use Rattle.goal_build.proofs.HostLaws.{filter_has}
use Rattle.goal_build.proofs.WellFormed.{firsts_has, range_has}

-- the number stands among these
abbrev is_among : ℕ → List ℕ → Bool
is_among k ks = list_any (λ j. j == k) ks

push_step : (p k : ℕ) (ks : List ℕ) (v w : Bool) → is_among k ks ≡ v → (p == k) ≡ w →
    firsts (ks ++ k ∷ []) ≡ (if v then firsts ks else firsts ks ++ k ∷ []) →
    firsts ((p ∷ ks) ++ k ∷ []) ≡ (if w || v then firsts (p ∷ ks) else firsts (p ∷ ks) ++ k ∷ [])
push_step p k ks true true e f h = ap (λ l. p ∷ filter (λ j. not (j == p)) l) h
push_step p k ks true false e f h = ap (λ l. p ∷ filter (λ j. not (j == p)) l) h
push_step p k ks false true e f h =
    let same : p ≡ k = eqb-true p k f in
    let none : filter (λ j. not (j == p)) (k ∷ []) ≡ [] = rw (eq-eqb k p (sym same)) refl in
    ap (λ l. p ∷ filter (λ j. not (j == p)) l) h
    ∙ ap (λ l. p ∷ l) (filter-append (λ j. not (j == p)) (firsts ks) (k ∷ []) ∙ ap (λ l. filter (λ j. not (j == p)) (firsts ks) ++ l) none ∙ append-nil (filter (λ j. not (j == p)) (firsts ks)))
push_step p k ks false false e f h =
    let other : (k == p) ≡ false = turned_round (k == p) refl in
    let one : filter (λ j. not (j == p)) (k ∷ []) ≡ k ∷ [] = rw other refl in
    ap (λ l. p ∷ filter (λ j. not (j == p)) l) h
    ∙ ap (λ l. p ∷ l) (filter-append (λ j. not (j == p)) (firsts ks) (k ∷ []) ∙ ap (λ l. filter (λ j. not (j == p)) (firsts ks) ++ l) one)
  where
    turned_round : (v : Bool) → (k == p) ≡ v → (k == p) ≡ false
    turned_round false g = g
    turned_round true g = absurd (both_ways (p == k) f (eq-eqb p k (sym (eqb-true k p g))))

-- one more number is a first where it hasn't come before
firsts_push : (ks : List ℕ) (k : ℕ) → firsts (ks ++ k ∷ []) ≡ (if is_among k ks then firsts ks else firsts ks ++ k ∷ [])
firsts_push [] k = refl
firsts_push (p ∷ ks) k = push_step p k ks (is_among k ks) (p == k) refl refl (firsts_push ks k)

firsts_keep : (ks : List ℕ) (k : ℕ) → Has ks k → Has (firsts ks) k
firsts_keep [] k h = h
firsts_keep (p ∷ ks) k (inl e) = inl e
firsts_keep (p ∷ ks) k (inr h) = keep_step p k ks (firsts_keep ks k h) (k == p) refl
  where
    keep_step : (p k : ℕ) (ks : List ℕ) → Has (firsts ks) k → (v : Bool) → (k == p) ≡ v → Has (p ∷ filter (λ j. not (j == p)) (firsts ks)) k
    keep_step p k ks h true e = inl (sym (eqb-true k p e))
    keep_step p k ks h false e = inr (filter_has (λ j. not (j == p)) (firsts ks) k h (not_from_false (k == p) e))

has_range : (n from k : ℕ) → Has (range_with_len from n) k → k < from + n
has_range zero from k h = elim h [ ]
has_range (suc n) from k (inl e) = omega (arith, e)
has_range (suc n) from k (inr h) = let l = has_range n (from + 1) k h in omega (arith, l)

range_push : (n from : ℕ) → range_with_len from (suc n) ≡ range_with_len from n ++ (from + n) ∷ []
range_push zero from = ap (λ k. k ∷ []) (omega arith)
range_push (suc n) from = ap (λ l. from ∷ l) (range_push n (from + 1) ∙ ap (λ k. range_with_len (from + 1) n ++ k ∷ []) (omega arith))

-- ---- orders

pub order_none : (a : List Atom) → InOrder a a []
order_none a before h = ap firsts (append-nil before) ∙ h

pub order_on : (a b c : List Atom) (ks js : List ℕ) → InOrder a b ks → InOrder b c js → InOrder a c (ks ++ js)
order_on a b c ks js f g before h = ap firsts (sym (append_assoc before ks js)) ∙ g (before ++ ks) (f before h)

-- a number that is kept for an atom of the list
pub order_kept : (a : List Atom) (x : Atom) (k : ℕ) → slice_get a k ≡ Some x → InOrder a a (k ∷ [])
order_kept a x k e before h =
    let l = slice_get_within a k x e in
    let there : Has (range_with_len 0 (length a)) k = subst (Has (range_with_len 0 (length a))) (omega arith) (range_has (length a) 0 k l) in
    let among : is_among k before ≡ true = any-true (λ j. j == k) before k (firsts_has before k (subst (λ ks. Has ks k) (sym h) there)) (eq-eqb k k refl) in
    firsts_push before k ∙ rw among h

order_added : (a : List Atom) (x : Atom) (k : ℕ) → k ≡ length a → InOrder a (a ++ x ∷ []) (k ∷ [])
order_added a x k e before h =
    let none : is_among k before ≡ false = any-none (λ j. j == k) before other in
    let at : k ≡ 0 + length a = omega (arith, e) in
    let long : length (a ++ x ∷ []) ≡ suc (length a) = length-append a (x ∷ []) ∙ omega arith in
    firsts_push before k ∙ rw none (rw h (ap (λ n. range_with_len 0 (length a) ++ n ∷ []) at ∙ sym (range_push (length a) 0) ∙ ap (range_with_len 0) (sym long)))
  where
    other : (j : ℕ) → Has before j → (j == k) ≡ false
    other j i = by_test (j == k) refl
      where
        by_test : (v : Bool) → (j == k) ≡ v → (j == k) ≡ false
        by_test false t = t
        by_test true t =
            let s = eqb-true j k t in
            let l = has_range (length a) 0 j (subst (λ ks. Has ks j) h (firsts_keep before j i)) in
            absurd (omega (arith, s, l, e))

pub order_numbered : (a b : List Atom) (x : Atom) (k : ℕ) → Numbers a b x k → InOrder a b (k ∷ [])
order_numbered a b x k (found e s) = subst (λ l. InOrder a l (k ∷ [])) (sym s) (order_kept a x k e)
order_numbered a b x k (added n e s) = subst (λ l. InOrder a l (k ∷ [])) (sym s) (order_added a x k e)

pub order_to : (a b : List Atom) (ks js : List ℕ) → ks ≡ js → InOrder a b ks → InOrder a b js
order_to a b ks js e h = subst (InOrder a b) e h
