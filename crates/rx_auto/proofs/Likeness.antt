-- Bytes that no set tells apart have the same derivatives.
use Rattle.std.proofs.Common.{◌≡◌, ℕ, ◌+◌, ◌-◌, ◌/◌, ◌%◌, ◌^◌, ◌<◌, ◌≤◌, nat_lt, ◌==◌, ◌&&◌, Bool, true, false, cond, ◌⊎◌, inl, inr, List, [], ◌∷◌, ◌++◌, map, length, get_or, take, refl, sym, ◌∙◌, ap, subst, arith, add-one}
use Rattle.std.specs.Prelude.{Result, Ok, Err, OnOk}
use Rattle.std.proofs.lemmas.List.{take_more}
use Rattle.std.proofs.lemmas.Bool.{cases_eq}
use Rattle.std.proofs.lemmas.Bool.Decides.{nat_tests}
use Rattle.rx_term.specs.declared.sets.ByteSet.{ByteSet}
use Rattle.rx_term.specs.declared.terms.Term.{Term, Nothing, Empty, One}
use Rattle.rx_term.specs.Term.{row_of, choice_of, star_of, star, has_byte}
use Rattle.rx_term.specs.Language.{Has, Each, nullable, join, derive, after, state_from, state}
use Rattle.rx_term.proofs.Language.{Has_left, Has_right, Has_cases, Has_unmap, Has_unflat}
use Rattle.rx_auto.specs.Classes.{sets_of, AreAlike, AddsSets, AlikeLaw}

-- ---- lists

pub Each_left : {A : Type 0} → (P : A → Type 0) (xs ys : List A) → Each P (xs ++ ys) → Each P xs
Each_left P [] ys h = tt
Each_left P (x ∷ xs) ys h = (h.0, Each_left P xs ys h.1)

pub Each_right : {A : Type 0} → (P : A → Type 0) (xs ys : List A) → Each P (xs ++ ys) → Each P ys
Each_right P [] ys h = h
Each_right P (x ∷ xs) ys h = Each_right P xs ys h.1

pub Each_append : {A : Type 0} → (P : A → Type 0) (xs ys : List A) → Each P xs → Each P ys → Each P (xs ++ ys)
Each_append P [] ys h k = k
Each_append P (x ∷ xs) ys h k = (h.0, Each_append P xs ys h.1 k)

pub Each_has : {A : Type 0} → (P : A → Type 0) (xs : List A) (x : A) → Each P xs → Has xs x → P x
Each_has P [] x h k = absurd k
Each_has P (y ∷ xs) x h (inl e) = subst P e h.0
Each_has P (y ∷ xs) x h (inr k) = Each_has P xs x h.1 k

pub Each_from : {A : Type 0} → (P : A → Type 0) (xs : List A) → ((x : A) → Has xs x → P x) → Each P xs
Each_from P [] f = tt
Each_from P (x ∷ xs) f = (f x (inl refl), Each_from P xs (λ y h. f y (inr h)))

abbrev pub no_set : ByteSet
no_set = record { 0 = 0 }

pub Has_get : {A : Type 0} → (xs : List A) (i : ℕ) (d : A) → i < length xs → Has xs (get_or xs i d)
Has_get [] i d h = absurd (no h)
  where
    no : i < 0 → ⊥
    no h = omega arith
Has_get (x ∷ xs) i d h = elim (cases_eq i 0) [
  | inl e ↦ inl (ap (λ z. get_or (x ∷ xs) z d) (sym e))
  | inr e ↦ inr (subst (Has xs) (step (i - 1) (omega (arith, e))) (Has_get xs (i - 1) d (omega (arith, e, len))))
]
  where
    len : length (x ∷ xs) ≡ length xs + 1
    len = omega arith

    step : (j : ℕ) → i ≡ j + 1 → get_or xs j d ≡ get_or (x ∷ xs) i d
    step j e = rw (e, add-one)

-- the place of an element
pub Has_place : {A : Type 0} → (xs : List A) (x d : A) → Has xs x → (i : ℕ) × (i < length xs) × (get_or xs i d ≡ x)
Has_place [] x d h = absurd h
Has_place (y ∷ xs) x d (inl e) = (0, omega arith, e)
Has_place (y ∷ xs) x d (inr h) = let r = Has_place xs x d h in (r.0 + 1, omega (arith, r.1), later r.0 ∙ r.2)
  where
    later : (i : ℕ) → get_or (y ∷ xs) (i + 1) d ≡ get_or xs i d
    later i = rw add-one

pub Has_taken : {A : Type 0} → (xs : List A) (i : ℕ) (d x : A) → i < length xs → Has (take (i + 1) xs) x → Has (take i xs) x ⊎ (get_or xs i d ≡ x)
Has_taken xs i d x l h = elim (Has_cases (take i xs) (get_or xs i d ∷ []) x (subst (λ z. Has z x) (take_more xs i d l) h)) [
  | inl k ↦ inl k
  | inr k ↦ elim k [ inl e ↦ inr e | inr z ↦ absurd z ]
]

-- ---- the sets that a list has

pub adds_there : (old : List ByteSet) (set : ByteSet) → Has old set → AddsSets old old (One set)
adds_there old set h = record {
  kept = λ s k. k;
  made = λ s k. elim k [ inl e ↦ subst (Has old) e h | inr z ↦ absurd z ];
  only = λ s k. inl k;
}

pub adds_new : (old : List ByteSet) (set : ByteSet) → AddsSets old (old ++ set ∷ []) (One set)
adds_new old set = record {
  kept = λ s k. Has_left old (set ∷ []) s k;
  made = λ s k. Has_right old (set ∷ []) s k;
  only = λ s k. Has_cases old (set ∷ []) s k;
}

pub adds_both : (old mid new : List ByteSet) (t u v : Term) → AddsSets old mid t → AddsSets mid new u → sets_of v ≡ sets_of t ++ sets_of u → AddsSets old new v
adds_both old mid new t u v f g e = record {
  kept = λ s k. g.kept s (f.kept s k);
  made = λ s k. elim (Has_cases (sets_of t) (sets_of u) s (subst (λ z. Has z s) e k)) [ inl a ↦ g.kept s (f.made s a) | inr a ↦ g.made s a ];
  only = λ s k. elim (g.only s k) [
    | inl a ↦ elim (f.only s a) [ inl b ↦ inl b | inr b ↦ inr (subst (λ z. Has z s) (sym e) (Has_left (sets_of t) (sets_of u) s b)) ]
    | inr a ↦ inr (subst (λ z. Has z s) (sym e) (Has_right (sets_of t) (sets_of u) s a))
  ];
}

pub adds_as : (old new : List ByteSet) (t v : Term) → AddsSets old new t → sets_of v ≡ sets_of t → AddsSets old new v
adds_as old new t v f e = record {
  kept = f.kept;
  made = λ s k. f.made s (subst (λ z. Has z s) e k);
  only = λ s k. elim (f.only s k) [ inl a ↦ inl a | inr a ↦ inr (subst (λ z. Has z s) (sym e) a) ];
}

-- ---- derivatives

pub derive_alike : (t : Term) (a b : ℕ) → AreAlike (sets_of t) a b → derive a t ≡ derive b t
derive_alike Nothing a b h = refl
derive_alike Empty a b h = refl
derive_alike (One set) a b h = ap (λ c. cond c (Empty ∷ []) []) h.0
derive_alike (row_of p s q u) a b h =
    let l = derive_alike s a b (Each_left (λ z. has_byte z a ≡ has_byte z b) (sets_of s) (sets_of u) h) in
    let r = derive_alike u a b (Each_right (λ z. has_byte z a ≡ has_byte z b) (sets_of s) (sets_of u) h) in
    ap (λ z. map (λ x. join x u) z ++ cond (nullable s) (derive a u) []) l ∙ ap (λ z. map (λ x. join x u) (derive b s) ++ cond (nullable s) z []) r
derive_alike (choice_of p s q u) a b h =
    let l = derive_alike s a b (Each_left (λ z. has_byte z a ≡ has_byte z b) (sets_of s) (sets_of u) h) in
    let r = derive_alike u a b (Each_right (λ z. has_byte z a ≡ has_byte z b) (sets_of s) (sets_of u) h) in
    ap (λ z. z ++ derive a u) l ∙ ap (λ z. derive b s ++ z) r
derive_alike (star_of p s) a b h = ap (λ z. map (λ x. join x (star s)) z) (derive_alike s a b h)

module _ (P : ByteSet → Type 0) where
  join_sets : (x u : Term) → Each P (sets_of x) → Each P (sets_of u) → Each P (sets_of (join x u))
  join_sets Nothing u h k = k
  join_sets Empty u h k = k
  join_sets (One set) u h k = (h.0, k)
  join_sets (row_of p s q t) u h k = Each_append P (sets_of s ++ sets_of t) (sets_of u) h k
  join_sets (choice_of p s q t) u h k = Each_append P (sets_of s ++ sets_of t) (sets_of u) h k
  join_sets (star_of p s) u h k = Each_append P (sets_of s) (sets_of u) h k

  cond_sets : (c : Bool) (xs : List Term) (x : Term) → Has (cond c xs []) x → Has xs x
  cond_sets true xs x h = h
  cond_sets false xs x h = absurd h

  -- what holds of each set of a term holds of each set of its derivatives
  derive_sets : (t : Term) (b : ℕ) (x : Term) → Has (derive b t) x → Each P (sets_of t) → Each P (sets_of x)
  derive_sets Nothing b x h k = absurd h
  derive_sets Empty b x h k = absurd h
  derive_sets (One set) b x h k =
      elim (cond_sets (has_byte set b) (Empty ∷ []) x h) [ inl e ↦ subst (λ z. Each P (sets_of z)) e tt | inr z ↦ absurd z ]
  derive_sets (row_of p s q u) b x h k =
      let l = Each_left P (sets_of s) (sets_of u) k in
      let r = Each_right P (sets_of s) (sets_of u) k in
      elim (Has_cases (map (λ y. join y u) (derive b s)) (cond (nullable s) (derive b u) []) x h) [
        | inl g ↦ let m = Has_unmap (λ y. join y u) (derive b s) x g in
            subst (λ z. Each P (sets_of z)) (sym m.2) (join_sets m.0 u (derive_sets s b m.0 m.1 l) r)
        | inr g ↦ derive_sets u b x (cond_sets (nullable s) (derive b u) x g) r
      ]
  derive_sets (choice_of p s q u) b x h k =
      elim (Has_cases (derive b s) (derive b u) x h) [
        | inl g ↦ derive_sets s b x g (Each_left P (sets_of s) (sets_of u) k)
        | inr g ↦ derive_sets u b x g (Each_right P (sets_of s) (sets_of u) k)
      ]
  derive_sets (star_of p s) b x h k =
      let m = Has_unmap (λ y. join y (star s)) (derive b s) x h in
      subst (λ z. Each P (sets_of z)) (sym m.2) (join_sets m.0 (star s) (derive_sets s b m.0 m.1 k) k)

  after_sets : (ts : List Term) (b : ℕ) → Each (λ t. Each P (sets_of t)) ts → Each (λ t. Each P (sets_of t)) (after b ts)
  after_sets ts b h = Each_from (λ t. Each P (sets_of t)) (after b ts) (λ x k.
      let f = Has_unflat (derive b) ts x k in derive_sets f.0 b x f.2 (Each_has (λ t. Each P (sets_of t)) ts f.0 h f.1))

  pub state_sets : (w : List ℕ) (ts : List Term) → Each (λ t. Each P (sets_of t)) ts → Each (λ t. Each P (sets_of t)) (state_from ts w)
  state_sets [] ts h = h
  state_sets (b ∷ w) ts h = state_sets w (after b ts) (after_sets ts b h)

after_alike : (ts : List Term) (a b : ℕ) → Each (λ t. AreAlike (sets_of t) a b) ts → after a ts ≡ after b ts
after_alike [] a b h = refl
after_alike (t ∷ ts) a b h = ap (λ z. z ++ after a ts) (derive_alike t a b h.0) ∙ ap (λ z. derive b t ++ z) (after_alike ts a b h.1)

pub alike_law : AlikeLaw
alike_law t a b h w = after_alike (state t w) a b (state_sets (λ s. has_byte s a ≡ has_byte s b) w (t ∷ []) (h, tt))

pub on_ok : {A E : Type 0} → (r : Result A E) (P Q : Type 0) → (P → Q) → OnOk r P → OnOk r Q
on_ok (Ok x) P Q f h = f h
on_ok (Err e) P Q f h = tt

pub alike_same : (sets : List ByteSet) (b : ℕ) → AreAlike sets b b
alike_same [] b = tt
alike_same (s ∷ sets) b = (refl, alike_same sets b)

pub alike_back : (sets : List ByteSet) (a b : ℕ) → AreAlike sets a b → AreAlike sets b a
alike_back [] a b h = tt
alike_back (s ∷ sets) a b h = (sym h.0, alike_back sets a b h.1)

pub alike_through : (sets : List ByteSet) (a b c : ℕ) → AreAlike sets a b → AreAlike sets b c → AreAlike sets a c
alike_through [] a b c h k = tt
alike_through (s ∷ sets) a b c h k = (h.0 ∙ k.0, alike_through sets a b c h.1 k.1)

-- no set has a byte from 128 on, so no set tells them apart
pub alike_beyond : (sets : List ByteSet) (b : ℕ) → 128 ≤ b → AreAlike sets 128 b
alike_beyond [] b h = tt
alike_beyond (s ∷ sets) b h = (sym (none s b h), alike_beyond sets b h)
  where
    none : (s : ByteSet) (b : ℕ) → 128 ≤ b → has_byte s b ≡ false
    none s b h = ap (λ z. z && (s.0 / 2 ^ b % 2 == 1)) (not_below b h)
      where
        not_below : (b : ℕ) → 128 ≤ b → nat_lt b 128 ≡ false
        not_below b h = grind (arith, nat_tests)
