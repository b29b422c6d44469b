-- The first bytes of classes are determined, and so are the numbers of the classes.
use Rattle.std.proofs.Common.{◌≡◌, ℕ, zero, suc, ◌+◌, ◌<◌, ◌≤◌, ◌⊎◌, inl, inr, List, length, get_or, sym, ◌∙◌, ap, subst, arith}
use Rattle.std.proofs.lemmas.Bool.{cases_lt}
use Rattle.rx_term.specs.declared.sets.ByteSet.{ByteSet}
use Rattle.rx_auto.specs.Classes.{sets_of, AreAlike, AreFirsts, IsClassOf, ClassLaw, BelowLaw, ApartLaw}
use Rattle.rx_auto.proofs.Likeness.{alike_back, alike_through, alike_law}

three : (a b : ℕ) → (a < b) ⊎ ((b < a) ⊎ (a ≡ b))
three a b = grind arith

module _ (sets : List ByteSet) where
  -- of two first bytes that are alike neither is smaller
  same_first : (f g : List ℕ) → AreFirsts sets f → AreFirsts sets g → (i j : ℕ) → i < length f → j < length g →
      AreAlike sets (get_or f i 0) (get_or g j 0) → get_or f i 0 ≡ get_or g j 0
  same_first f g x y i j h k e = by (three (get_or f i 0) (get_or g j 0))
    where
      by : (get_or f i 0 < get_or g j 0) ⊎ ((get_or g j 0 < get_or f i 0) ⊎ (get_or f i 0 ≡ get_or g j 0)) → get_or f i 0 ≡ get_or g j 0
      by (inl l) = absurd (y.least j (get_or f i 0) k l e)
      by (inr (inl l)) = absurd (x.least i (get_or g j 0) h l (alike_back sets (get_or f i 0) (get_or g j 0) e))
      by (inr (inr q)) = q

  -- where the lists agree below a place, the first byte there isn't below the other one
  not_below : (f g : List ℕ) → AreFirsts sets f → AreFirsts sets g → (i : ℕ) → ((j : ℕ) → j < i → get_or f j 0 ≡ get_or g j 0) → i < length f → i < length g →
      get_or f i 0 ≤ get_or g i 0
  not_below f g x y i agree h k =
      let r = x.each (get_or g i 0) in
      let e : get_or f r.0 0 ≡ get_or g i 0 = same_first f g x y r.0 i r.1 k r.2 in
      by r.0 r.1 e (three r.0 i)
    where
      by : (j : ℕ) → j < length f → get_or f j 0 ≡ get_or g i 0 → (j < i) ⊎ ((i < j) ⊎ (j ≡ i)) → get_or f i 0 ≤ get_or g i 0
      by j l e (inl a) = absurd (less (get_or g j 0) (get_or g i 0) (y.ascending j i a k) (sym (agree j a) ∙ e))
        where
          less : (m n : ℕ) → m < n → m ≡ n → ⊥
          less m n a b = omega arith
      by j l e (inr (inl a)) = omega (arith, x.ascending i j a l, e)
      by j l e (inr (inr a)) = omega (arith, ap (λ z. get_or f z 0) a, e)

  -- one more place of agreement
  agree_more : (f g : List ℕ) → AreFirsts sets f → AreFirsts sets g → (n j : ℕ) → ((i : ℕ) → i < n → get_or f i 0 ≡ get_or g i 0) → n < length f → n < length g →
      (j < n) ⊎ (n ≤ j) → j < n + 1 → get_or f j 0 ≡ get_or g j 0
  agree_more f g x y n j agree h k (inl m) l = agree j m
  agree_more f g x y n j agree h k (inr m) l =
      let p = not_below f g x y n agree h k in
      let q = not_below g f y x n (λ i a. sym (agree i a)) k h in
      let e : n ≡ j = omega arith in
      let r : get_or f n 0 ≡ get_or g n 0 = omega arith in
      subst (λ z. get_or f z 0 ≡ get_or g z 0) e r

  pub agree_below : (f g : List ℕ) → AreFirsts sets f → AreFirsts sets g → (n : ℕ) → n ≤ length f → n ≤ length g → (j : ℕ) → j < n → get_or f j 0 ≡ get_or g j 0
  agree_below f g x y zero h k j l = absurd (omega (arith, l))
  agree_below f g x y (suc n) h k j l =
      agree_more f g x y n j (agree_below f g x y n (omega (arith, h)) (omega (arith, k))) (omega (arith, h)) (omega (arith, k)) (cases_lt j n) (omega (arith, l))

  -- the second list isn't longer
  not_longer : (f g : List ℕ) → AreFirsts sets f → AreFirsts sets g → length f < length g → ⊥
  not_longer f g x y h =
      let n : ℕ = length f in
      let r = x.each (get_or g n 0) in
      let e : get_or f r.0 0 ≡ get_or g n 0 = same_first f g x y r.0 n r.1 h r.2 in
      let a : get_or f r.0 0 ≡ get_or g r.0 0 = agree_below f g x y n (omega arith) (omega arith) r.0 r.1 in
      absurd (less (get_or g r.0 0) (get_or g n 0) (y.ascending r.0 n r.1 h) (sym a ∙ e))
    where
      less : (m n : ℕ) → m < n → m ≡ n → ⊥
      less m n a b = omega arith

  pub same_long : (f g : List ℕ) → AreFirsts sets f → AreFirsts sets g → length f ≡ length g
  same_long f g x y = by (three (length f) (length g))
    where
      by : (length f < length g) ⊎ ((length g < length f) ⊎ (length f ≡ length g)) → length f ≡ length g
      by (inl h) = absurd (not_longer f g x y h)
      by (inr (inl h)) = absurd (not_longer g f y x h)
      by (inr (inr e)) = e

  -- the first bytes at one place are one byte
  pub same_at : (f g : List ℕ) → AreFirsts sets f → AreFirsts sets g → (n : ℕ) → n < length f → get_or f n 0 ≡ get_or g n 0
  same_at f g x y n h = agree_below f g x y (n + 1) (omega arith) (omega (arith, same_long f g x y)) n (omega arith)

  pub class_alike : (a b n : ℕ) → IsClassOf sets a n → IsClassOf sets b n → AreAlike sets a b
  class_alike a b n p q =
      alike_through sets a (get_or p.0 n 0) b (alike_back sets (get_or p.0 n 0) a p.3)
      (subst (λ z. AreAlike sets z b) (sym (same_at p.0 q.0 p.1 q.1 n p.2)) q.3)

  -- two places of one list whose first bytes are alike are one place
  same_place : (f : List ℕ) → AreFirsts sets f → (i j : ℕ) → i < length f → j < length f → AreAlike sets (get_or f i 0) (get_or f j 0) → i ≡ j
  same_place f x i j h k e = by (three i j)
    where
      less : (m n : ℕ) → m < n → m ≡ n → ⊥
      less m n a b = omega arith

      by : (i < j) ⊎ ((j < i) ⊎ (i ≡ j)) → i ≡ j
      by (inl l) = absurd (less (get_or f i 0) (get_or f j 0) (x.ascending i j l k) (same_first f f x x i j h k e))
      by (inr (inl l)) = absurd (less (get_or f j 0) (get_or f i 0) (x.ascending j i l h) (sym (same_first f f x x i j h k e)))
      by (inr (inr q)) = q

  pub alike_class : (a b m n : ℕ) → AreAlike sets a b → IsClassOf sets a m → IsClassOf sets b n → m ≡ n
  alike_class a b m n e p q =
      let same : get_or p.0 n 0 ≡ get_or q.0 n 0 = sym (same_at q.0 p.0 q.1 p.1 n q.2) in
      let at : AreAlike sets (get_or p.0 n 0) b = subst (λ z. AreAlike sets z b) (sym same) q.3 in
      same_place p.0 p.1 m n p.2 (omega (arith, q.2, same_long p.0 q.0 p.1 q.1))
      (alike_through sets (get_or p.0 m 0) b (get_or p.0 n 0) (alike_through sets (get_or p.0 m 0) a b p.3 e) (alike_back sets (get_or p.0 n 0) b at))

pub class_law : ClassLaw
class_law t a b n p q w = alike_law t a b (class_alike (sets_of t) a b n p q) w

pub below_law : BelowLaw
below_law sets b n count p q = omega (arith, p.2, same_long sets p.0 q.0 p.1 q.1, q.2)

pub apart_law : ApartLaw
apart_law = alike_class
