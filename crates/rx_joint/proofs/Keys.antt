-- The lists of a map's keys.
use Rattle.std.proofs.Common.{◌≡◌, ℕ, ◌+◌, ◌<◌, ◌≤◌, Bool, true, false, nat_eq, cond, ◌⊎◌, inl, inr, List, [], ◌∷◌, ◌++◌, map, length, refl, sym, ◌∙◌, ap, subst, arith, Vec, Global, length-append}
use Rattle.std.specs.List.{list_any}
use Rattle.std.specs.Cmp.Lexicographic.{pointwise, bytes_decides}
use Rattle.std.proofs.lemmas.Bool.{cases_lt}
use Rattle.std.proofs.lemmas.List.{get_or_append_left}
use Rattle.std.proofs.Math.Seq.{get_or-append_seam}
use Rattle.indexmap.specs.IndexSet.{insert_key}
use Rattle.rx_term.specs.Language.{Has}
use Rattle.rx_term.proofs.Language.{or_cases, or_left, or_right}
use Rattle.rx_auto.proofs.Likeness.{Has_get}
use Rattle.rx_joint.specs.Lists.{list_at, AreApart}

abbrev pub Key : Type 0
Key = Vec ℕ Global

pub found : (keys : List Key) (xs : List ℕ) → list_any (λ k. pointwise nat_eq xs k.items) keys ≡ true → Has (map (λ k. k.items) keys) xs
found [] xs h = absurd (no h)
  where
    no : false ≡ true → ⊥
    no h = cc
found (k ∷ keys) xs h = elim (or_cases (pointwise nat_eq xs k.items) (list_any (λ k. pointwise nat_eq xs k.items) keys) h) [
  | inl e ↦ inl (sym ((bytes_decides xs k.items).0 e))
  | inr e ↦ inr (found keys xs e)
]

pub finds : (keys : List Key) (xs : List ℕ) → Has (map (λ k. k.items) keys) xs → list_any (λ k. pointwise nat_eq xs k.items) keys ≡ true
finds [] xs h = absurd h
finds (k ∷ keys) xs (inl e) = or_left (pointwise nat_eq xs k.items) (list_any (λ k. pointwise nat_eq xs k.items) keys) ((bytes_decides xs k.items).1 (sym e))
finds (k ∷ keys) xs (inr h) = or_right (pointwise nat_eq xs k.items) (list_any (λ k. pointwise nat_eq xs k.items) keys) (finds keys xs h)

pub inserted : (keys : List Key) (v : Key) → (Has (map (λ k. k.items) keys) v.items → ⊥) →
    map (λ k. k.items) (insert_key (λ x y. pointwise nat_eq x.items y.items) keys v) ≡ map (λ k. k.items) keys ++ v.items ∷ []
inserted keys v none = by (list_any (λ k. pointwise nat_eq v.items k.items) keys) refl
  where
    items_push : (ks : List Key) → map (λ k. k.items) (ks ++ v ∷ []) ≡ map (λ k. k.items) ks ++ v.items ∷ []
    items_push [] = refl
    items_push (k ∷ ks) = ap (λ z. k.items ∷ z) (items_push ks)

    by : (b : Bool) → list_any (λ k. pointwise nat_eq v.items k.items) keys ≡ b →
        map (λ k. k.items) (insert_key (λ x y. pointwise nat_eq x.items y.items) keys v) ≡ map (λ k. k.items) keys ++ v.items ∷ []
    by true e = absurd (none (found keys v.items e))
    by false e = ap (λ b. map (λ k. k.items) (cond b keys (keys ++ v ∷ []))) e ∙ items_push keys

-- a list that isn't there yet stands apart
pub apart_push : (lists : List (List ℕ)) (list : List ℕ) → AreApart lists → (Has lists list → ⊥) → AreApart (lists ++ list ∷ [])
apart_push lists list a none i j l h e = by (cases_lt j (length lists))
  where
    li : j < length lists + 1
    li = omega (arith, h, length-append lists (list ∷ []))

    left : (k : ℕ) → k < length lists → list_at (lists ++ list ∷ []) k ≡ list_at lists k
    left k q = get_or_append_left lists (list ∷ []) [] k q

    by : (j < length lists) ⊎ (length lists ≤ j) → ⊥
    by (inl q) = a i j l q (sym (left i (omega arith)) ∙ e ∙ left j q)
    by (inr q) =
        let m : j ≡ length lists = omega (arith, li) in
        let n : i < length lists = omega arith in
        let f : list_at lists i ≡ list = sym (left i n) ∙ e ∙ ap (list_at (lists ++ list ∷ [])) m ∙ get_or-append_seam lists list [] [] in
        none (subst (Has lists) f (Has_get lists i [] n))
