-- Classes that are numbered one byte after another.
use Rattle.std.proofs.Common.{◌≡◌, ℕ, ◌+◌, ◌<◌, ◌≤◌, ◌⊎◌, inl, inr, List, [], ◌∷◌, ◌++◌, length, get_or, min, refl, sym, ◌∙◌, ap, subst, arith, length-append}
use Rattle.std.proofs.lemmas.List.{get_or_append_left}
use Rattle.std.proofs.Math.Seq.{get_or-append_seam}
use Rattle.std.proofs.lemmas.Bool.{cases_lt}
use Rattle.rx_term.specs.declared.sets.ByteSet.{ByteSet}
use Rattle.rx_auto.specs.Classes.{AreAlike, AreClasses, IsClassOf}
use Rattle.rx_term.specs.Term.{has_byte}
use Rattle.rx_term.specs.Language.{Has}
use Rattle.rx_auto.proofs.Likeness.{Each_has, Each_from, alike_same, alike_through, alike_beyond}

-- the classes of the bytes below n
pub record AreNumbered (sets : List ByteSet) (firsts numbers : List ℕ) (n : ℕ) : Type 0 where
  pub long : length numbers ≡ n
  pub few : length firsts ≤ n
  pub below : (i : ℕ) → i < length firsts → get_or firsts i 0 < n
  pub ascending : (i j : ℕ) → i < j → j < length firsts → get_or firsts i 0 < get_or firsts j 0
  pub least : (i a : ℕ) → i < length firsts → a < get_or firsts i 0 → AreAlike sets a (get_or firsts i 0) → ⊥
  pub number : (b : ℕ) → b < n → (get_or numbers b 0 < length firsts) × AreAlike sets (get_or firsts (get_or numbers b 0) 0) b

pub numbered_none : (sets : List ByteSet) → AreNumbered sets [] [] 0
numbered_none sets = record {
  long = refl;
  few = omega arith;
  below = λ i h. absurd (none i h);
  ascending = λ i j h k. absurd (none j k);
  least = λ i a h k e. none i h;
  number = λ b h. absurd (none b h);
}
  where
    none : (i : ℕ) → i < 0 → ⊥
    none i h = omega arith

-- what is at each place of a list, and at the place of one more
pub at_push : (P : ℕ → ℕ → Type 0) (xs : List ℕ) (x : ℕ) → ((i : ℕ) → i < length xs → P i (get_or xs i 0)) → P (length xs) x →
    (i : ℕ) → i < length (xs ++ x ∷ []) → P i (get_or (xs ++ x ∷ []) i 0)
at_push P xs x f y i h = by (cases_lt i (length xs))
  where
    by : (i < length xs) ⊎ (length xs ≤ i) → P i (get_or (xs ++ x ∷ []) i 0)
    by (inl l) = subst (P i) (sym (get_or_append_left xs (x ∷ []) 0 i l)) (f i l)
    by (inr l) =
        let e : length xs ≡ i = omega (arith, length-append xs (x ∷ [])) in
        subst (λ k. P k (get_or (xs ++ x ∷ []) k 0)) e (subst (P (length xs)) (sym (get_or-append_seam xs x [] 0)) y)

module _ (sets : List ByteSet) (firsts numbers : List ℕ) (n : ℕ) (old : AreNumbered sets firsts numbers n) where
  -- the next byte is like a first byte
  pub numbered_old : (i : ℕ) → i < length firsts → AreAlike sets (get_or firsts i 0) n → AreNumbered sets firsts (numbers ++ i ∷ []) (n + 1)
  numbered_old i h e = record {
    long = omega (arith, length-append numbers (i ∷ []), old.long);
    few = omega (arith, old.few);
    below = λ k l. omega (arith, old.below k l);
    ascending = old.ascending;
    least = old.least;
    number = λ b l. at_push (λ b m. (m < length firsts) × AreAlike sets (get_or firsts m 0) b) numbers i
        (λ b l. old.number b (omega (arith, old.long))) (h, subst (AreAlike sets (get_or firsts i 0)) (sym old.long) e)
        b (omega (arith, length-append numbers (i ∷ []), old.long));
  }

  -- no smaller byte is like the next one
  none_smaller : ((i : ℕ) → i < length firsts → AreAlike sets (get_or firsts i 0) n → ⊥) → (a : ℕ) → a < n → AreAlike sets a n → ⊥
  none_smaller none a h e =
      let r = old.number a h in
      none (get_or numbers a 0) r.0 (alike_through sets (get_or firsts (get_or numbers a 0) 0) a n r.1 e)

  -- the next byte begins a class
  pub numbered_new : ((i : ℕ) → i < length firsts → AreAlike sets (get_or firsts i 0) n → ⊥) → AreNumbered sets (firsts ++ n ∷ []) (numbers ++ length firsts ∷ []) (n + 1)
  numbered_new none = record {
    long = omega (arith, length-append numbers (length firsts ∷ []), old.long);
    few = omega (arith, length-append firsts (n ∷ []), old.few);
    below = at_push (λ i x. x < n + 1) firsts n (λ i h. omega (arith, old.below i h)) (omega arith);
    ascending = λ i j h k. at_push (λ j y. i < j → get_or (firsts ++ n ∷ []) i 0 < y) firsts n
        (λ j k h. subst (λ x. x < get_or firsts j 0) (sym (get_or_append_left firsts (n ∷ []) 0 i (omega arith))) (old.ascending i j h k))
        (λ h. subst (λ x. x < n) (sym (get_or_append_left firsts (n ∷ []) 0 i h)) (old.below i h)) j k h;
    least = λ i a h l e. at_push (λ i x. a < x → AreAlike sets a x → ⊥) firsts n (λ i h l e. old.least i a h l e) (λ l e. none_smaller none a l e) i h l e;
    number = λ b l. at_push (λ b m. (m < length (firsts ++ n ∷ [])) × AreAlike sets (get_or (firsts ++ n ∷ []) m 0) b) numbers (length firsts)
        (λ b l.
        let r = old.number b (omega (arith, old.long)) in
        (omega (arith, r.0, length-append firsts (n ∷ [])), subst (λ x. AreAlike sets x b) (sym (get_or_append_left firsts (n ∷ []) 0 (get_or numbers b 0) r.0)) r.1))
        (omega (arith, length-append firsts (n ∷ [])), subst (λ x. AreAlike sets x (length numbers)) (sym (get_or-append_seam firsts n [] 0)) (subst (AreAlike sets n) (sym old.long) (alike_same sets n)))
        b (omega (arith, length-append numbers (length firsts ∷ []), old.long));
  }

-- the bytes up to 128 have all classes
pub numbered_all : (sets : List ByteSet) (firsts numbers : List ℕ) → AreNumbered sets firsts numbers 129 → AreClasses sets firsts numbers
numbered_all sets firsts numbers all = record {
  first = record {
    ascending = all.ascending;
    least = all.least;
    each = λ b. each b (cases_lt b 129);
  };
  number = λ b h. all.number b (omega (arith, h));
}
  where
    each : (b : ℕ) → (b < 129) ⊎ (129 ≤ b) → (i : ℕ) × (i < length firsts) × AreAlike sets (get_or firsts i 0) b
    each b (inl h) = let r = all.number b h in (get_or numbers b 0, r.0, r.1)
    each b (inr h) =
        let r = all.number 128 (omega arith) in
        (get_or numbers 128 0, r.0, alike_through sets (get_or firsts (get_or numbers 128 0) 0) 128 b r.1 (alike_beyond sets b (omega arith)))

-- the class of a byte, those from 128 on being alike
pub class_is : (sets : List ByteSet) (firsts numbers : List ℕ) → AreClasses sets firsts numbers → (b n : ℕ) → n ≡ get_or numbers (min b 128) 0 → IsClassOf sets b n
class_is sets firsts numbers c b n e = by (cases_lt b 128)
  where
    at : (k : ℕ) → k ≤ 128 → min b 128 ≡ k → AreAlike sets k b → IsClassOf sets b n
    at k h m a =
        let r = c.number k h in
        let f : n ≡ get_or numbers k 0 = e ∙ ap (λ z. get_or numbers z 0) m in (
          firsts,
          c.first,
          subst (λ z. z < length firsts) (sym f) r.0,
          alike_through sets (get_or firsts n 0) k b (subst (λ z. AreAlike sets (get_or firsts z 0) k) (sym f) r.1) a,
        )

    by : (b < 128) ⊎ (128 ≤ b) → IsClassOf sets b n
    by (inl h) = at b (omega arith) (omega arith) (alike_same sets b)
    by (inr h) = at 128 (omega arith) (omega arith) (alike_beyond sets b h)

-- what the next byte brings, as one of two ways: the place of a first byte that it is like, or none
pub numbered_found : (sets : List ByteSet) (firsts seen numbers : List ℕ) (n i : ℕ) (firsts' numbers' : List ℕ) → AreNumbered sets firsts numbers n → seen ≡ firsts →
    (i < length seen) × AreAlike sets (get_or seen i 0) n → firsts' ≡ firsts → numbers' ≡ numbers ++ i ∷ [] → AreNumbered sets firsts' numbers' (n + 1)
numbered_found sets firsts seen numbers n i firsts' numbers' old e f p q =
    let g : (i < length firsts) × AreAlike sets (get_or firsts i 0) n = subst (λ s. (i < length s) × AreAlike sets (get_or s i 0) n) e f in
    subst (λ z. AreNumbered sets z numbers' (n + 1)) (sym p)
    (subst (λ z. AreNumbered sets firsts z (n + 1)) (sym q) (numbered_old sets firsts numbers n old i g.0 g.1))

pub numbered_begun : (sets : List ByteSet) (firsts seen numbers : List ℕ) (n i : ℕ) (firsts' numbers' : List ℕ) → AreNumbered sets firsts numbers n → seen ≡ firsts →
    ((k : ℕ) → k < length seen → AreAlike sets (get_or seen k 0) n → ⊥) → i ≡ length firsts → firsts' ≡ firsts ++ n ∷ [] → numbers' ≡ numbers ++ i ∷ [] →
    AreNumbered sets firsts' numbers' (n + 1)
numbered_begun sets firsts seen numbers n i firsts' numbers' old e none l p q =
    let none' = subst (λ (s : List ℕ). (k : ℕ) → k < length s → AreAlike sets (get_or s k 0) n → ⊥) e none in
    subst (λ z. AreNumbered sets z numbers' (n + 1)) (sym p)
    (subst (λ z. AreNumbered sets (firsts ++ n ∷ []) z (n + 1)) (sym (q ∙ ap (λ z. numbers ++ z ∷ []) l)) (numbered_new sets firsts numbers n old none'))

-- lists with the same sets have the same classes
pub classes_for : (xs ys : List ByteSet) (firsts numbers : List ℕ) → ((s : ByteSet) → Has xs s → Has ys s) → ((s : ByteSet) → Has ys s → Has xs s) →
    AreClasses xs firsts numbers → AreClasses ys firsts numbers
classes_for xs ys firsts numbers f g c = record {
  first = record {
    ascending = c.first.ascending;
    least = λ i a h l e. c.first.least i a h l (like xs ys f a (get_or firsts i 0) e);
    each = λ b. let r = c.first.each b in (r.0, r.1, like ys xs g (get_or firsts r.0 0) b r.2);
  };
  number = λ b h. let r = c.number b h in (r.0, like ys xs g (get_or firsts (get_or numbers b 0) 0) b r.1);
}
  where
    like : (us vs : List ByteSet) → ((s : ByteSet) → Has us s → Has vs s) → (a b : ℕ) → AreAlike vs a b → AreAlike us a b
    like us vs h a b e = Each_from (λ s. has_byte s a ≡ has_byte s b) us (λ s k. Each_has (λ s. has_byte s a ≡ has_byte s b) vs s e (h s k))
