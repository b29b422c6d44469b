-- Tables have finitely many states together.
use Rattle.std.proofs.Common.{◌≡◌, ℕ, zero, suc, ◌*◌, ◌^◌, ◌/◌, ◌<◌, ◌≤◌, Bool, true, false, nat_eq, ◌||◌, inl, inr, List, [], ◌∷◌, map, length, get_or, refl, sym, ◌∙◌, ap, subst, arith}
use Rattle.std.proofs.Math.ListN.{length-map}
use Rattle.std.proofs.lemmas.List.{get_or-map}
use Rattle.std.proofs.lemmas.Bool.{cases_eq}
use Rattle.rx_term.specs.declared.terms.Term.{Term}
use Rattle.rx_term.specs.Language.{Has}
use Rattle.rx_term.proofs.Language.{or_cases, or_left, or_right}
use Rattle.rx_term.proofs.Counting.{at_most}
use Rattle.rx_auto.proofs.Ascending.{ascending_same}
use Rattle.rx_joint.specs.Lists.{list_at}
use Rattle.rx_joint.specs.Claims.{AreListed}
use Rattle.rx_joint.proofs.Spelling.{Entry, Each_at}
use Rattle.rx_joint.proofs.Lawful.{Apart_at}

member : List ℕ → ℕ → Bool
member [] g = false
member (x ∷ xs) g = nat_eq x g || member xs g

-- a mark for each number below n, the greatest first
row : ℕ → List ℕ → List Bool
row zero xs = []
row (suc n) xs = member xs n ∷ row n xs

row_long : (n : ℕ) (xs : List ℕ) → length (row n xs) ≡ n
unfolding row
row_long zero xs = refl
row_long (suc n) xs = omega (arith, row_long n xs)

has_member : (xs : List ℕ) (g : ℕ) → Has xs g → member xs g ≡ true
unfolding member
has_member [] g h = absurd h
has_member (x ∷ xs) g (inl e) = or_left (nat_eq x g) (member xs g) (same x g e)
  where
    same : (a b : ℕ) → a ≡ b → nat_eq a b ≡ true
    same a b e = grind arith
has_member (x ∷ xs) g (inr h) = or_right (nat_eq x g) (member xs g) (has_member xs g h)

member_has : (xs : List ℕ) (g : ℕ) → member xs g ≡ true → Has xs g
unfolding member
member_has [] g h = absurd (no h)
  where
    no : false ≡ true → ⊥
    no h = cc
member_has (x ∷ xs) g h = elim (or_cases (nat_eq x g) (member xs g) h) [ inl e ↦ inl (same x g e) | inr k ↦ inr (member_has xs g k) ]
  where
    same : (a b : ℕ) → nat_eq a b ≡ true → a ≡ b
    same a b e = grind arith

rows_member : (n : ℕ) (xs ys : List ℕ) → row n xs ≡ row n ys → (g : ℕ) → g < n → member xs g ≡ member ys g
unfolding row
rows_member zero xs ys e g h = absurd (no h)
  where
    no : g < 0 → ⊥
    no h = omega arith
rows_member (suc n) xs ys e g h = elim (cases_eq g n) [
  | inl q ↦ ap (member xs) q ∙ first ∙ ap (member ys) (sym q)
  | inr q ↦ rows_member n xs ys rest g (less g n h q)
]
  where
    first : member xs n ≡ member ys n
    first = cc

    rest : row n xs ≡ row n ys
    rest = cc

    less : (g n : ℕ) → g < suc n → (g ≡ n → ⊥) → g < n
    less g n h q = omega (arith, q)

pub few_states : (tables : List (List Term)) (holds : List Bool) (es : List Entry) (states : List (List ℕ)) → AreListed tables holds es states →
    length states ≤ 2 ^ (length tables * 4294967296)
few_states tables holds es states l = subst (λ n. n ≤ 2 ^ (length tables * 4294967296)) (length-map states (row bound))
    (at_most bound (map (row bound) states)
    (Each_at (λ r. length r ≡ bound) (map (row bound) states) [] (λ k h. ap length (at k (subst (λ n. k < n) (length-map states (row bound)) h)) ∙ row_long bound (list_at states k)))
    (Apart_at (λ r s. r ≡ s) (map (row bound) states) [] (λ i j h k e.
    let m : j < length states = subst (λ n. j < n) (length-map states (row bound)) k in
    let n : i < length states = omega arith in
    l.apart i j h m (same i j n m (sym (at i n) ∙ e ∙ at j m)))))
  where
    bound : ℕ
    bound = length tables * 4294967296

    at : (k : ℕ) → k < length states → get_or (map (row bound) states) k [] ≡ row bound (list_at states k)
    at k h = get_or-map (row bound) states k [] [] h

    below : (t g : ℕ) → g / 4294967296 < t → g < t * 4294967296
    below t g h = omega arith

    same : (i j : ℕ) → i < length states → j < length states → row bound (list_at states i) ≡ row bound (list_at states j) → list_at states i ≡ list_at states j
    same i j n m e =
        let s = l.stands i n in
        let t = l.stands j m in
        ascending_same (list_at states i) (list_at states j) s.ascending t.ascending
        (λ g h. member_has (list_at states j) g (sym (rows_member bound (list_at states i) (list_at states j) e g (below (length tables) g (s.back g h).table)) ∙ has_member (list_at states i) g h))
        (λ g h. member_has (list_at states i) g (rows_member bound (list_at states i) (list_at states j) e g (below (length tables) g (t.back g h).table) ∙ has_member (list_at states j) g h))
