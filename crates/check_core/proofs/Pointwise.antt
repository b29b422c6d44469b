-- What holds of each element of a list by its number.
use Rattle.std.proofs.Common.{◌≡◌, inl, inr, ◌+◌, ◌<◌, ℕ, List, [], ◌∷◌, ◌++◌, length, Some, slice_get, sym, ◌∙◌, subst, arith}
use Rattle.std.proofs.lemmas.Bool.{cases_lt}
use Rattle.std.proofs.lemmas.List.{length_push}
use Rattle.std.proofs.lemmas.Option.{slice_get_within}
use Rattle.text_base.proofs.Lists.{slice_get-front, slice_get-past}

abbrev pub Each : {A : Type 0} → (ℕ → A → Type 0) → List A → Type 0
Each P xs = (i : ℕ) (x : _) → slice_get xs i ≡ Some x → P i x

pub each_none : {A : Type 0} (P : ℕ → A → Type 0) → Each P []
each_none P i x e = absurd (cc e)

module _ {A : Type 0} (P : ℕ → A → Type 0) (xs : List A) (x : A) (last : P (length xs) x) where
  at_last : (i : ℕ) (y : A) → i ≡ length xs → x ≡ y → P i y
  at_last i y e f = subst (λ z. P i z) f (subst (λ k. P k x) (sym e) last)

  -- one element more
  pub each_more : Each P xs → Each P (xs ++ x ∷ [])
  each_more each i y e = elim (cases_lt i (length xs)) [
    | inl lt ↦ each i y (sym (slice_get-front xs (x ∷ []) i lt) ∙ e)
    | inr ge ↦
        let within : i < length (xs ++ x ∷ []) = slice_get_within (xs ++ x ∷ []) i y e in
        let at : i ≡ length xs = omega (arith, ge, within, length_push xs x) in
        let past : i ≡ 0 + length xs = omega (arith, at) in
        let there : Some x ≡ Some y = sym (slice_get-past xs (x ∷ []) i 0 past) ∙ e in
        at_last i y at (cc there)
  ]
