-- The laws of partial derivatives.
use Rattle.std.proofs.Common.{◌≡◌, ℕ, Bool, true, false, ◌&&◌, ◌||◌, cond, ◌⊎◌, inl, inr, List, [], ◌∷◌, ◌++◌, map, refl, sym, ◌∙◌, ap, subst}
use Rattle.std.specs.List.{concat, flat_map}
use Rattle.rx_term.specs.declared.terms.Term.{Term, Nothing, Empty, One}
use Rattle.rx_term.specs.Term.{row_of, choice_of, star_of, cat, star, has_byte}
use Rattle.rx_term.specs.Language.{Has, Each, In, nullable, join, derive, after, state_from, state, accepting, DerivativeLaw, MembershipLaw}

-- ---- lists and tests

pub and_left : (a b : Bool) → a && b ≡ true → a ≡ true
and_left true b h = refl
and_left false b h = cc

pub and_right : (a b : Bool) → a && b ≡ true → b ≡ true
and_right true b h = h
and_right false b h = cc

pub both_true : (a b : Bool) → a ≡ true → b ≡ true → a && b ≡ true
both_true true b h k = k
both_true false b h k = cc

pub or_cases : (a b : Bool) → a || b ≡ true → (a ≡ true) ⊎ (b ≡ true)
or_cases true b h = inl refl
or_cases false b h = inr h

pub or_left : (a b : Bool) → a ≡ true → a || b ≡ true
or_left true b h = refl
or_left false b h = cc

pub or_right : (a b : Bool) → b ≡ true → a || b ≡ true
or_right true b h = refl
or_right false b h = h

pub nil_parts : (v z : List ℕ) → [] ≡ v ++ z → (v ≡ []) × (z ≡ [])
nil_parts [] z e = (refl, sym e)
nil_parts (x ∷ v) z e = cc

pub Has_left : {A : Type 0} → (xs ys : List A) (x : A) → Has xs x → Has (xs ++ ys) x
Has_left [] ys x h = elim h [ ]
Has_left (y ∷ xs) ys x (inl e) = inl e
Has_left (y ∷ xs) ys x (inr h) = inr (Has_left xs ys x h)

pub Has_right : {A : Type 0} → (xs ys : List A) (x : A) → Has ys x → Has (xs ++ ys) x
Has_right [] ys x h = h
Has_right (y ∷ xs) ys x h = inr (Has_right xs ys x h)

pub Has_cases : {A : Type 0} → (xs ys : List A) (x : A) → Has (xs ++ ys) x → Has xs x ⊎ Has ys x
Has_cases [] ys x h = inr h
Has_cases (y ∷ xs) ys x (inl e) = inl (inl e)
Has_cases (y ∷ xs) ys x (inr h) = elim (Has_cases xs ys x h) [ inl k ↦ inl (inr k) | inr k ↦ inr k ]

pub Has_map : {A B : Type 0} → (f : A → B) (xs : List A) (x : A) → Has xs x → Has (map f xs) (f x)
Has_map f [] x h = elim h [ ]
Has_map f (y ∷ xs) x (inl e) = inl (ap f e)
Has_map f (y ∷ xs) x (inr h) = inr (Has_map f xs x h)

pub Has_unmap : {A B : Type 0} → (f : A → B) (xs : List A) (z : B) → Has (map f xs) z → (x : A) × Has xs x × (z ≡ f x)
Has_unmap f [] z h = elim h [ ]
Has_unmap f (y ∷ xs) z (inl e) = (y, inl refl, sym e)
Has_unmap f (y ∷ xs) z (inr h) = let k = Has_unmap f xs z h in (k.0, inr k.1, k.2)

pub Has_flat : {A B : Type 0} → (f : A → List B) (xs : List A) (x : A) (z : B) → Has xs x → Has (f x) z → Has (flat_map f xs) z
Has_flat f [] x z h k = elim h [ ]
Has_flat f (y ∷ xs) x z (inl e) k = Has_left (f y) (flat_map f xs) z (subst (λ t. Has (f t) z) (sym e) k)
Has_flat f (y ∷ xs) x z (inr h) k = Has_right (f y) (flat_map f xs) z (Has_flat f xs x z h k)

pub Has_unflat : {A B : Type 0} → (f : A → List B) (xs : List A) (z : B) → Has (flat_map f xs) z → (x : A) × Has xs x × Has (f x) z
Has_unflat f [] z h = elim h [ ]
Has_unflat f (y ∷ xs) z h =
    elim (Has_cases (f y) (flat_map f xs) z h) [
      | inl k ↦ (y, inl refl, k)
      | inr k ↦ let r = Has_unflat f xs z k in (r.0, inr r.1, r.2)
    ]

-- ---- the empty text

pub nullable_in : (t : Term) → nullable t ≡ true → In [] t
nullable_in Nothing h = cc
nullable_in Empty h = refl
nullable_in (One set) h = cc
nullable_in (row_of p s q u) h = ([], [], refl, nullable_in s (and_left (nullable s) (nullable u) h), nullable_in u (and_right (nullable s) (nullable u) h))
nullable_in (choice_of p s q u) h =
    elim (or_cases (nullable s) (nullable u) h) [ inl k ↦ inl (nullable_in s k) | inr k ↦ inr (nullable_in u k) ]
nullable_in (star_of p s) h = ([], refl, tt)

pub in_nullable : (t : Term) → In [] t → nullable t ≡ true
in_nullable Nothing h = elim h [ ]
in_nullable Empty h = refl
in_nullable (One set) h = let e = h.1 in cc
in_nullable (row_of p s q u) h =
    let k = nil_parts h.0 h.1 h.2 in
    both_true (nullable s) (nullable u)
    (in_nullable s (subst (λ w. In w s) k.0 h.3))
    (in_nullable u (subst (λ w. In w u) k.1 h.4))
in_nullable (choice_of p s q u) (inl h) = or_left (nullable s) (nullable u) (in_nullable s h)
in_nullable (choice_of p s q u) (inr h) = or_right (nullable s) (nullable u) (in_nullable u h)
in_nullable (star_of p s) h = refl

-- ---- join

pub join_in : (x u : Term) (v z : List ℕ) → In v x → In z u → In (v ++ z) (join x u)
join_in Nothing u v z h k = elim h [ ]
join_in Empty u v z h k = subst (λ w. In (w ++ z) u) (sym h) k
join_in (One set) u v z h k = (v, z, refl, h, k)
join_in (row_of p a q b) u v z h k = (v, z, refl, h, k)
join_in (choice_of p a q b) u v z h k = (v, z, refl, h, k)
join_in (star_of p a) u v z h k = (v, z, refl, h, k)

pub in_join : (x u : Term) (w : List ℕ) → In w (join x u) → (v z : List ℕ) × (w ≡ v ++ z) × In v x × In z u
in_join Nothing u w h = h
in_join Empty u w h = ([], w, refl, refl, h)
in_join (One set) u w h = h
in_join (row_of p a q b) u w h = h
in_join (choice_of p a q b) u w h = h
in_join (star_of p a) u w h = h

-- ---- derivatives

cond_has : {A : Type 0} → (c : Bool) (xs : List A) (x : A) → Has (cond c xs []) x → (c ≡ true) × Has xs x
cond_has true xs x h = (refl, h)
cond_has false xs x h = elim h [ ]

has_cond : {A : Type 0} → (c : Bool) (xs : List A) (x : A) → c ≡ true → Has xs x → Has (cond c xs []) x
has_cond true xs x e h = h
has_cond false xs x e h = absurd (elim_false e)
  where
    elim_false : false ≡ true → ⊥
    elim_false e = cc

pub derive_sound : (t : Term) (b : ℕ) (w : List ℕ) (x : Term) → Has (derive b t) x → In w x → In (b ∷ w) t
derive_sound Nothing b w x h k = elim h [ ]
derive_sound Empty b w x h k = elim h [ ]
derive_sound (One set) b w x h k =
    let c = cond_has (has_byte set b) (Empty ∷ []) x h in
    elim c.1 [
      | inl e ↦ (b, ap (λ v. b ∷ v) (subst (λ y. In w y) (sym e) k), c.0)
      | inr z ↦ absurd z
    ]
derive_sound (row_of p s q u) b w x h k =
    elim (Has_cases (map (λ y. join y u) (derive b s)) (cond (nullable s) (derive b u) []) x h) [
      | inl g ↦
          let m = Has_unmap (λ y. join y u) (derive b s) x g in
          let j = in_join m.0 u w (subst (λ y. In w y) m.2 k) in
          (b ∷ j.0, j.1, ap (λ v. b ∷ v) j.2, derive_sound s b j.0 m.0 m.1 j.3, j.4)
      | inr g ↦
          let c = cond_has (nullable s) (derive b u) x g in
          ([], b ∷ w, refl, nullable_in s c.0, derive_sound u b w x c.1 k)
    ]
derive_sound (choice_of p s q u) b w x h k =
    elim (Has_cases (derive b s) (derive b u) x h) [
      | inl g ↦ inl (derive_sound s b w x g k)
      | inr g ↦ inr (derive_sound u b w x g k)
    ]
derive_sound (star_of p s) b w x h k =
    let m = Has_unmap (λ y. join y (star s)) (derive b s) x h in
    let j = in_join m.0 (star s) w (subst (λ y. In w y) m.2 k) in
    ((b ∷ j.0) ∷ j.4.0, ap (λ v. b ∷ v) (j.2 ∙ ap (λ z. j.0 ++ z) j.4.1), (derive_sound s b j.0 m.0 m.1 j.3, j.4.2))

-- a text of a star that isn't empty begins with a text of the body that isn't empty
star_first : (P : List ℕ → Type 0) (b : ℕ) (w : List ℕ) (ws : List (List ℕ)) → b ∷ w ≡ concat ws → Each P ws →
    (v : List ℕ) × (zs : List (List ℕ)) × (w ≡ v ++ concat zs) × P (b ∷ v) × Each P zs
star_first P b w [] e h = absurd (cc_no e)
  where
    cc_no : b ∷ w ≡ [] → ⊥
    cc_no e = cc
star_first P b w ([] ∷ ws) e h = star_first P b w ws e h.1
star_first P b w ((c ∷ v) ∷ ws) e h =
    let e1 : b ≡ c = cc in
    let e2 : w ≡ v ++ concat ws = cc in
    (v, ws, e2, subst (λ y. P (y ∷ v)) (sym e1) h.0, h.1)

-- a text of a row begins in the first part, or the first part has the empty text
row_first : (s u : Term) (b : ℕ) (w v z : List ℕ) → b ∷ w ≡ v ++ z → In v s → In z u →
    ((v : List ℕ) → In (b ∷ v) s → (x : Term) × Has (derive b s) x × In v x) →
    (In (b ∷ w) u → (x : Term) × Has (derive b u) x × In w x) →
    (x : Term) × Has (derive b (cat s u)) x × In w x
row_first s u b w [] z e hs hu first second =
    let r = second (subst (λ y. In y u) (sym e) hu) in (
      r.0,
      Has_right (map (λ y. join y u) (derive b s)) (cond (nullable s) (derive b u) []) r.0
          (has_cond (nullable s) (derive b u) r.0 (in_nullable s hs) r.1),
      r.2,
    )
row_first s u b w (c ∷ v) z e hs hu first second =
    let e1 : b ≡ c = cc in
    let e2 : w ≡ v ++ z = cc in
    let r = first v (subst (λ y. In (y ∷ v) s) (sym e1) hs) in (
      join r.0 u,
      Has_left (map (λ y. join y u) (derive b s)) (cond (nullable s) (derive b u) []) (join r.0 u)
          (Has_map (λ y. join y u) (derive b s) r.0 r.1),
      subst (λ y. In y (join r.0 u)) (sym e2) (join_in r.0 u v z r.2 hu),
    )

pub derive_complete : (t : Term) (b : ℕ) (w : List ℕ) → In (b ∷ w) t → (x : Term) × Has (derive b t) x × In w x
derive_complete Nothing b w h = elim h [ ]
derive_complete Empty b w h = absurd (no h)
  where
    no : b ∷ w ≡ [] → ⊥
    no e = cc
derive_complete (One set) b w h =
    let e : b ≡ h.0 = let k = h.1 in cc in
    let f : w ≡ [] = let k = h.1 in cc in
    (Empty, has_cond (has_byte set b) (Empty ∷ []) Empty (ap (has_byte set) e ∙ h.2) (inl refl), f)
derive_complete (row_of p s q u) b w h =
    row_first s u b w h.0 h.1 h.2 h.3 h.4 (λ v k. derive_complete s b v k) (λ k. derive_complete u b w k)
derive_complete (choice_of p s q u) b w (inl h) =
    let r = derive_complete s b w h in (r.0, Has_left (derive b s) (derive b u) r.0 r.1, r.2)
derive_complete (choice_of p s q u) b w (inr h) =
    let r = derive_complete u b w h in (r.0, Has_right (derive b s) (derive b u) r.0 r.1, r.2)
derive_complete (star_of p s) b w h =
    let f = star_first (λ v. In v s) b w h.0 h.1 h.2 in
    let r = derive_complete s b f.0 f.3 in (
      join r.0 (star s),
      Has_map (λ y. join y (star s)) (derive b s) r.0 r.1,
      subst (λ y. In y (join r.0 (star s))) (sym f.2) (join_in r.0 (star s) f.0 (concat f.1) r.2 (f.1, refl, f.4)),
    )

pub derivative_law : DerivativeLaw
derivative_law t b w = (derive_complete t b w, λ x h k. derive_sound t b w x h k)

-- ---- states

pub accepting_from : (ts : List Term) (x : Term) → Has ts x → nullable x ≡ true → accepting ts ≡ true
accepting_from [] x h n = elim h [ ]
accepting_from (t ∷ ts) x (inl e) n = or_left (nullable t) (accepting ts) (ap nullable e ∙ n)
accepting_from (t ∷ ts) x (inr h) n = or_right (nullable t) (accepting ts) (accepting_from ts x h n)

pub accepting_has : (ts : List Term) → accepting ts ≡ true → (x : Term) × Has ts x × (nullable x ≡ true)
accepting_has [] h = absurd (no h)
  where
    no : false ≡ true → ⊥
    no e = cc
accepting_has (t ∷ ts) h =
    elim (or_cases (nullable t) (accepting ts) h) [
      | inl k ↦ (t, inl refl, k)
      | inr k ↦ let r = accepting_has ts k in (r.0, inr r.1, r.2)
    ]

pub state_accepts : (w : List ℕ) (ts : List Term) (x : Term) → Has ts x → In w x → accepting (state_from ts w) ≡ true
state_accepts [] ts x h k = accepting_from ts x h (in_nullable x k)
state_accepts (b ∷ w) ts x h k =
    let r = derive_complete x b w k in
    state_accepts w (after b ts) r.0 (Has_flat (derive b) ts x r.0 h r.1) r.2

pub accepts_state : (w : List ℕ) (ts : List Term) → accepting (state_from ts w) ≡ true → (x : Term) × Has ts x × In w x
accepts_state [] ts h = let r = accepting_has ts h in (r.0, r.1, nullable_in r.0 r.2)
accepts_state (b ∷ w) ts h =
    let r = accepts_state w (after b ts) h in
    let f = Has_unflat (derive b) ts r.0 r.1 in
    (f.0, f.1, derive_sound f.0 b w r.0 f.2 r.2)

-- a text is in a term exactly where its state accepts
pub state_law : (t : Term) (w : List ℕ) → (In w t → accepting (state t w) ≡ true) × (accepting (state t w) ≡ true → In w t)
state_law t w = (
  λ h. state_accepts w (t ∷ []) t (inl refl) h,
  λ h.
      let r = accepts_state w (t ∷ []) h in
      elim r.1 [ inl e ↦ subst (λ y. In w y) (sym e) r.2 | inr z ↦ absurd z ],
)

pub membership_law : MembershipLaw
membership_law t w = ((state_law t w).1, (state_law t w).0)
