-- How the front of a class grows, and how it ends.
use Rattle.std.proofs.Common.{◌≡◌, ◌≢◌, ℕ, ◌≤◌, Bool, true, false, ◌==◌, ◌⊎◌, inl, inr, List, [], ◌∷◌, ◌++◌, slice_index, refl, sym, ◌∙◌, ap, subst, append_assoc, append-nil, arith}
use Rattle.rx_term.specs.declared.sets.ByteSet.{ByteSet}
use Rattle.rx_term.specs.Term.{has_byte}
use Rattle.rx_term.specs.Language.{Has}
use Rattle.rx_term.specs.Pattern.{IsPunct, IsFold, IsSetOf, IsSetLetter, InSome, IsSingle, IsItem, AreItems, IsClass, Before, Other, Slash, behind, IsAllowedBehind, HasNoNamed}
use Rattle.rx_term.specs.Pattern.IsSingle.{plain, escaped, bracket}
use Rattle.rx_term.specs.Pattern.IsItem.{single, among, range, dash}
use Rattle.rx_term.specs.Pattern.AreItems.{only, then}
use Rattle.rx_term.specs.Pattern.IsClass.{of, none_of}
use Rattle.rx_parse.specs.declared.bytes.Bytes.TheVariants.{Range, Escape, Both}
use Rattle.rx_parse.specs.declared.place.Class.{Class}
use Rattle.rx_parse.specs.declared.place.Class.TheVariants.{Fresh, Negated, Single, Item, Ranged, Dashed, Slashed, RangeSlashed}
use Rattle.rx_parse.specs.Sets.{holds, IsSetBy}
use Rattle.rx_parse.proofs.Held.{bare_if, sort, behind_all, BeforeItems, SoFar, IsBody, opening, HasNoCaret, Starts, IsClassFront, IsClosed}
use Rattle.rx_parse.proofs.Classes.{behind_all_append}
use Rattle.rx_parse.proofs.ByteTests.{same_set, range_set, fold_set, escape_set, both_set, complement_set}

false_true : false ≡ true → ⊥
false_true e = cc

-- ---- lists of items

relabel : (f first : Bool) (v : List ℕ) (s : ByteSet) → IsItem f first false v s → IsItem f first true v s
relabel f first v s (single a h i) = single a h i
relabel f first v s (among l i) = among l i
relabel f first v s (range x z a b e h g l i) = range x z a b e h g l i
relabel f first v s (dash (inl e) i) = dash (inl e) i
relabel f first v s (dash (inr e) i) = absurd (false_true e)

before_snoc : (f first after : Bool) (v z : List ℕ) (sets : List ByteSet) (s : ByteSet) → BeforeItems f first after v sets → IsItem f after false z s →
    BeforeItems f first false (v ++ z) (sets ++ s ∷ [])
before_snoc f first after v z [] s (e, g) i =
    (z, [], ap (λ x. x ++ z) e ∙ sym (append-nil z), subst (λ x. IsItem f x false z s) (sym g) i, (refl, refl))
before_snoc f first after v z (x ∷ sets) s (a, b, e, i, r) j =
    (a, b ++ z, ap (λ y. y ++ z) e ∙ append_assoc a b z, i, before_snoc f false after b z sets s r j)

items_last : (f first after : Bool) (v z : List ℕ) (sets : List ByteSet) (s : ByteSet) → BeforeItems f first after v sets → IsItem f after true z s →
    AreItems f first (v ++ z) (sets ++ s ∷ [])
items_last f first after v z [] s (e, g) i =
    subst (λ y. AreItems f first y (s ∷ [])) (sym (ap (λ x. x ++ z) e)) (only (subst (λ x. IsItem f x true z s) (sym g) i))
items_last f first after v z (x ∷ sets) s (a, b, e, i, r) j =
    then a (b ++ z) (ap (λ y. y ++ z) e ∙ append_assoc a b z) i (items_last f false after b z sets s r j)

items_whole : (f first : Bool) (v : List ℕ) (sets : List ByteSet) → BeforeItems f first false v sets → (first ≡ true) ⊎ (sets ≢ []) → AreItems f first v sets
items_whole f first v [] (e, g) (inl h) = absurd (false_true (sym g ∙ h))
items_whole f first v [] (e, g) (inr h) = absurd (h refl)
items_whole f first v (s ∷ []) (a, b, e, i, (n, g)) h =
    subst (λ y. AreItems f first y (s ∷ [])) (sym (e ∙ (ap (λ y. a ++ y) n ∙ append-nil a))) (only (relabel f first a s i))
items_whole f first v (s ∷ x ∷ sets) (a, b, e, i, r) h = then a b e i (items_whole f false b (x ∷ sets) r (inr (λ n. no n)))
  where
    no : x ∷ sets ≡ [] → ⊥
    no n = cc

-- ---- their bytes

has_snoc : (sets : List ByteSet) (u s : ByteSet) → Has (sets ++ u ∷ []) s → Has sets s ⊎ (u ≡ s)
has_snoc [] u s (inl e) = inr e
has_snoc [] u s (inr z) = absurd z
has_snoc (x ∷ sets) u s (inl e) = inl (inl e)
has_snoc (x ∷ sets) u s (inr h) = elim (has_snoc sets u s h) [ inl k ↦ inl (inr k) | inr k ↦ inr k ]

snoc_has : (sets : List ByteSet) (u s : ByteSet) → Has sets s ⊎ (u ≡ s) → Has (sets ++ u ∷ []) s
snoc_has [] u s (inl z) = absurd z
snoc_has [] u s (inr e) = inl e
snoc_has (x ∷ sets) u s (inl (inl e)) = inl e
snoc_has (x ∷ sets) u s (inl (inr h)) = inr (snoc_has sets u s (inl h))
snoc_has (x ∷ sets) u s (inr e) = inr (snoc_has sets u s (inr e))

pub joined_set : (sets : List ByteSet) (s u r : ByteSet) (p : ℕ → Bool) → IsSetOf (InSome sets) s → IsSetBy p u → IsSetBy (holds (Both s u)) r →
    IsSetOf (InSome (sets ++ u ∷ [])) r
joined_set sets s u r p h g k =
    same_set (λ b. InSome sets b ⊎ (has_byte u b ≡ true)) (InSome (sets ++ u ∷ [])) r
    (both_set (InSome sets) (λ b. has_byte u b ≡ true) s u r h (record { small = g.small; forth = λ b j. j; back = λ b l j. j }) k)
    (λ b j. elim j [ inl i ↦ (i.0, snoc_has sets u i.0 (inl i.1), i.2) | inr i ↦ (u, snoc_has sets u u (inr refl), i) ])
    (λ b j. elim (has_snoc sets u j.0 j.1) [ inl i ↦ inl (j.0, i, j.2) | inr i ↦ inr (subst (λ x. has_byte x b ≡ true) (sym i) j.2) ])

so_far_item : (f after : Bool) (v z : List ℕ) (s u r : ByteSet) (p : ℕ → Bool) → SoFar f s v after → IsItem f after false z u → IsSetBy p u → IsSetBy (holds (Both s u)) r →
    SoFar f r (v ++ z) false
so_far_item f after v z s u r p h i g k =
    (h.0 ++ u ∷ [], before_snoc f true after v z h.0 u h.1 i, joined_set h.0 s u r p h.2 g k)

-- ---- growth by one byte

no_named_snoc : (y : List ℕ) (b : ℕ) (s : Before) → HasNoNamed s y → IsAllowedBehind (behind_all s y) b → HasNoNamed s (y ++ b ∷ [])
no_named_snoc [] b s h k = (k, tt)
no_named_snoc (x ∷ y) b s h k = (h.0, no_named_snoc y b (behind s x) h.1 k)

pub later_caret : (n : Bool) (y : List ℕ) (b : ℕ) → (y ≢ []) × HasNoCaret n y → HasNoCaret n (y ++ b ∷ [])
later_caret true y b h = tt
later_caret false [] b h = absurd (h.0 refl)
later_caret false (x ∷ y) b h = h.1

snoc_more : (y : List ℕ) (b : ℕ) → y ++ b ∷ [] ≢ []
snoc_more [] b = λ e. no e
  where
    no : b ∷ [] ≡ [] → ⊥
    no e = cc
snoc_more (x ∷ y) b = λ e. no e
  where
    no : x ∷ (y ++ b ∷ []) ≡ [] → ⊥
    no e = cc

grow : (f n : Bool) (s r : ByteSet) (c d : Class) (p : List ℕ) (b : ℕ) (x : IsClassFront f n s c p) → HasNoCaret n (x.body ++ b ∷ []) → IsBody f r d (x.body ++ b ∷ []) →
    ((x.body ++ b ∷ [] ≢ []) × HasNoCaret n (x.body ++ b ∷ []) → Starts d n (x.body ++ b ∷ [])) → IsAllowedBehind (sort c) b → sort d ≡ behind (sort c) b →
    IsClassFront f n r d (p ++ b ∷ [])
grow f n s r c d p b x h i st a e = record {
  body = x.body ++ b ∷ [];
  is = ap (λ y. y ++ b ∷ []) x.is ∙ append_assoc (opening n) x.body (b ∷ []);
  items = i;
  start = st (snoc_more x.body b, h);
  named = no_named_snoc x.body b Other x.named (subst (λ y. IsAllowedBehind y b) x.before a);
  before = e ∙ (ap (λ y. behind y b) x.before ∙ sym (behind_all_append x.body (b ∷ []) Other));
}

-- an item may begin behind what was read
abbrev pub Awaits : Bool → Bool → ByteSet → Class → List ℕ → Bool → Type 0
Awaits f n s c p after = (x : IsClassFront f n s c p) × SoFar f s x.body after

abbrev pub awaits_fresh : (f n : Bool) (s : ByteSet) (p : List ℕ) → IsClassFront f n s Fresh p → Awaits f n s Fresh p true
awaits_fresh f n s p x = (x, x.items.1)

abbrev pub awaits_negated : (f n : Bool) (s : ByteSet) (p : List ℕ) → IsClassFront f n s Negated p → Awaits f n s Negated p true
awaits_negated f n s p x = (x, x.items.1)

abbrev pub awaits_item : (f n bare : Bool) (s : ByteSet) (p : List ℕ) → IsClassFront f n s (Item bare) p → Awaits f n s (Item bare) p false
awaits_item f n bare s p x = (x, x.items)

-- no caret begins the class
pub caret_fresh : (f n : Bool) (s : ByteSet) (p : List ℕ) (b : ℕ) (x : IsClassFront f n s Fresh p) → b ≢ 94 → HasNoCaret n (x.body ++ b ∷ [])
caret_fresh f n s p b x h = subst (λ y. HasNoCaret n (y ++ b ∷ [])) (sym x.items.0) (any n)
  where
    any : (m : Bool) → HasNoCaret m (b ∷ [])
    any true = tt
    any false = h

pub caret_negated : (f n : Bool) (s : ByteSet) (p : List ℕ) (b : ℕ) (x : IsClassFront f n s Negated p) → HasNoCaret n (x.body ++ b ∷ [])
caret_negated f n s p b x = subst (λ m. HasNoCaret m (x.body ++ b ∷ [])) (sym x.start) tt

pub front_negated : (f n : Bool) (s : ByteSet) (p : List ℕ) → IsClassFront f n s Fresh p → IsClassFront f true s Negated (p ++ 94 ∷ [])
front_negated f n s p x = record {
  body = [];
  is = ap (λ y. y ++ 94 ∷ []) (x.is ∙ (ap (λ m. opening m ++ x.body) x.start ∙ ap (λ y. opening false ++ y) x.items.0));
  items = (refl, subst (λ y. SoFar f s y true) x.items.0 x.items.1);
  start = refl;
  named = tt;
  before = refl;
}

-- a single that is one byte
pub front_single : (f n after : Bool) (s : ByteSet) (c : Class) (p : List ℕ) (b : ℕ) (x : Awaits f n s c p after) → HasNoCaret n (x.0.body ++ b ∷ []) →
    IsSingle after (b ∷ []) b → IsAllowedBehind (sort c) b → bare_if (b == 91) ≡ behind (sort c) b → IsClassFront f n s (Single b (b == 91)) (p ++ b ∷ [])
front_single f n after s c p b x h i a e =
    grow f n s s c (Single b (b == 91)) p b x.0 h (x.0.body, b ∷ [], after, refl, x.1, i) (λ g. g) a e

pub front_slash : (f n after : Bool) (s : ByteSet) (c : Class) (p : List ℕ) (x : Awaits f n s c p after) → HasNoCaret n (x.0.body ++ 92 ∷ []) →
    IsAllowedBehind (sort c) 92 → Slash ≡ behind (sort c) 92 → IsClassFront f n s Slashed (p ++ 92 ∷ [])
front_slash f n after s c p x h a e = grow f n s s c Slashed p 92 x.0 h (x.0.body, after, refl, x.1) (λ g. g) a e

-- a dash that is the first item
pub front_first_dash : (f n : Bool) (s u r : ByteSet) (c : Class) (p : List ℕ) (x : Awaits f n s c p true) → HasNoCaret n (x.0.body ++ 45 ∷ []) →
    IsAllowedBehind (sort c) 45 → Other ≡ behind (sort c) 45 → IsSetBy (holds (Range false 45 45)) u → IsSetBy (holds (Both s u)) r →
    IsClassFront f n r (Item false) (p ++ 45 ∷ [])
front_first_dash f n s u r c p x h a e i k =
    grow f n s r c (Item false) p 45 x.0 h
    (so_far_item f true x.0.body (45 ∷ []) s u r _ x.1 (dash (inl refl) (dash_set u i)) i k) (λ g. g) a e
  where
    dash_set : (v : ByteSet) → IsSetBy (holds (Range false 45 45)) v → IsSetOf (λ b. b ≡ 45) v
    dash_set v j = same_set (IsFold false 45) (λ b. b ≡ 45) v (fold_set false 45 v j) (λ b o. sym o) (λ b o. sym o)

pub front_dash : (f n bare : Bool) (s : ByteSet) (p : List ℕ) → IsClassFront f n s (Item bare) p → IsClassFront f n s Dashed (p ++ 45 ∷ [])
front_dash f n bare s p x =
    grow f n s s (Item bare) Dashed p 45 x (later_caret n x.body 45 x.start) (x.body, refl, x.items) (λ g. g) (allowed bare) (other bare)
  where
    allowed : (m : Bool) → IsAllowedBehind (bare_if m) 45
    allowed true = λ e. let k : ⊥ = omega arith in k
    allowed false = tt

    other : (m : Bool) → Other ≡ behind (bare_if m) 45
    other true = refl
    other false = refl

pub front_ranged : (f n bare : Bool) (a : ℕ) (s : ByteSet) (p : List ℕ) → IsClassFront f n s (Single a bare) p → IsClassFront f n s (Ranged a) (p ++ 45 ∷ [])
front_ranged f n bare a s p x =
    let i = x.items in
    grow f n s s (Single a bare) (Ranged a) p 45 x (later_caret n x.body 45 x.start)
    (i.0, i.1, i.2, ap (λ y. y ++ 45 ∷ []) i.3 ∙ append_assoc i.0 i.1 (45 ∷ []), i.4, i.5) (λ g. g) (allowed bare) (other bare)
  where
    allowed : (m : Bool) → IsAllowedBehind (bare_if m) 45
    allowed true = λ e. let k : ⊥ = omega arith in k
    allowed false = tt

    other : (m : Bool) → Other ≡ behind (bare_if m) 45
    other true = refl
    other false = refl

-- a single that begins no range is an item
pub front_flush : (f n bare : Bool) (a : ℕ) (s u r : ByteSet) (p : List ℕ) → IsClassFront f n s (Single a bare) p → IsSetBy (holds (Range f a a)) u → IsSetBy (holds (Both s u)) r →
    IsClassFront f n r (Item bare) p
front_flush f n bare a s u r p x i k =
    let j = x.items in
    record {
      body = x.body;
      is = x.is;
      items = subst (λ y. SoFar f r y false) (sym j.3) (so_far_item f j.2 j.0 j.1 s u r _ j.4 (single a j.5 (fold_set f a u i)) i k);
      start = x.start;
      named = x.named;
      before = x.before;
    }

pub front_ranged_flush : (f n : Bool) (a : ℕ) (s u r : ByteSet) (p : List ℕ) → IsClassFront f n s (Ranged a) p → IsSetBy (holds (Range f a a)) u → IsSetBy (holds (Both s u)) r →
    IsClassFront f n r Dashed p
front_ranged_flush f n a s u r p x i k =
    let j = x.items in
    record {
      body = x.body;
      is = x.is;
      items = (j.0 ++ j.1, j.3 ∙ sym (append_assoc j.0 j.1 (45 ∷ [])), so_far_item f j.2 j.0 j.1 s u r _ j.4 (single a j.5 (fold_set f a u i)) i k);
      start = x.start;
      named = x.named;
      before = x.before;
    }

-- a single is a byte of the alphabet
pub single_small : (first : Bool) (z : List ℕ) (a : ℕ) → IsSingle first z a → a ≤ 126
single_small first z a (plain h n m l) = omega arith
single_small first z a (escaped (inl h)) = omega arith
single_small first z a (escaped (inr (inl h))) = omega arith
single_small first z a (escaped (inr (inr (inl h)))) = omega arith
single_small first z a (escaped (inr (inr (inr h)))) = omega arith
single_small first z a bracket = omega arith

-- the end of a range
range_item : (f first last : Bool) (v z : List ℕ) (a b : ℕ) (u : ByteSet) → IsSingle first v a → IsSingle false z b → a ≤ b → IsSetBy (holds (Range f a b)) u →
    IsItem f first last (v ++ 45 ∷ z) u
range_item f first last v z a b u h g l i = range v z a b refl h g l (range_set f a b u i)

pub front_range_end : (f n : Bool) (a b : ℕ) (s u r : ByteSet) (p : List ℕ) → IsClassFront f n s (Ranged a) p → IsSingle false (b ∷ []) b → a ≤ b →
    bare_if (b == 91) ≡ behind Other b → IsSetBy (holds (Range f a b)) u → IsSetBy (holds (Both s u)) r → IsClassFront f n r (Item (b == 91)) (p ++ b ∷ [])
front_range_end f n a b s u r p x g l e i k =
    let j = x.items in
    grow f n s r (Ranged a) (Item (b == 91)) p b x (later_caret n x.body b x.start)
    (subst (λ y. SoFar f r y false)
    (sym (ap (λ y. y ++ b ∷ []) j.3 ∙ (append_assoc j.0 (j.1 ++ 45 ∷ []) (b ∷ []) ∙ ap (λ y. j.0 ++ y) (append_assoc j.1 (45 ∷ []) (b ∷ [])))))
    (so_far_item f j.2 j.0 (j.1 ++ 45 ∷ b ∷ []) s u r _ j.4 (range_item f j.2 false j.1 (b ∷ []) a b u j.5 g l i) i k))
    (λ h. h) tt e

pub front_range_slash : (f n : Bool) (a : ℕ) (s : ByteSet) (p : List ℕ) → IsClassFront f n s (Ranged a) p → IsClassFront f n s (RangeSlashed a) (p ++ 92 ∷ [])
front_range_slash f n a s p x =
    let j = x.items in
    grow f n s s (Ranged a) (RangeSlashed a) p 92 x (later_caret n x.body 92 x.start) (
      j.0,
      j.1,
      j.2,
      ap (λ y. y ++ 92 ∷ []) j.3 ∙ (append_assoc j.0 (j.1 ++ 45 ∷ []) (92 ∷ []) ∙ ap (λ y. j.0 ++ y) (append_assoc j.1 (45 ∷ []) (92 ∷ []))),
      j.4,
      j.5,
    )
    (λ h. h) tt refl

pub front_range_escaped : (f n : Bool) (a b : ℕ) (s u r : ByteSet) (p : List ℕ) → IsClassFront f n s (RangeSlashed a) p → IsPunct b → a ≤ b →
    IsSetBy (holds (Range f a b)) u → IsSetBy (holds (Both s u)) r → IsClassFront f n r (Item false) (p ++ b ∷ [])
front_range_escaped f n a b s u r p x g l i k =
    let j = x.items in
    grow f n s r (RangeSlashed a) (Item false) p b x (later_caret n x.body b x.start)
    (subst (λ y. SoFar f r y false)
    (sym (ap (λ y. y ++ b ∷ []) j.3 ∙ (append_assoc j.0 (j.1 ++ 45 ∷ 92 ∷ []) (b ∷ []) ∙ ap (λ y. j.0 ++ y) (append_assoc j.1 (45 ∷ 92 ∷ []) (b ∷ [])))))
    (so_far_item f j.2 j.0 (j.1 ++ 45 ∷ 92 ∷ b ∷ []) s u r _ j.4 (range_item f j.2 false j.1 (92 ∷ b ∷ []) a b u j.5 (escaped g) l i) i k))
    (λ h. h) tt refl

-- behind a backslash
pub front_escaped : (f n : Bool) (b : ℕ) (s : ByteSet) (p : List ℕ) → IsClassFront f n s Slashed p → IsPunct b → IsClassFront f n s (Single b false) (p ++ b ∷ [])
front_escaped f n b s p x g =
    let j = x.items in
    grow f n s s Slashed (Single b false) p b x (later_caret n x.body b x.start)
    (j.0, 92 ∷ b ∷ [], j.1, ap (λ y. y ++ b ∷ []) j.2 ∙ append_assoc j.0 (92 ∷ []) (b ∷ []), j.3, escaped g) (λ h. h) tt refl

pub front_letter : (f n : Bool) (b : ℕ) (s u r : ByteSet) (p : List ℕ) → IsClassFront f n s Slashed p → IsSetLetter b →
    IsSetBy (holds (Escape b)) u → IsSetBy (holds (Both s u)) r → IsClassFront f n r (Item false) (p ++ b ∷ [])
front_letter f n b s u r p x g i k =
    let j = x.items in
    grow f n s r Slashed (Item false) p b x (later_caret n x.body b x.start)
    (subst (λ y. SoFar f r y false) (sym (ap (λ y. y ++ b ∷ []) j.2 ∙ append_assoc j.0 (92 ∷ []) (b ∷ [])))
    (so_far_item f j.1 j.0 (92 ∷ b ∷ []) s u r _ j.3 (among g (escape_set b u g i)) i k))
    (λ h. h) tt refl

-- ---- ends

no_caret_at : (y : List ℕ) → HasNoCaret false y → slice_index y 0 ≢ 94
no_caret_at [] h = λ e. let k : ⊥ = omega arith in k
no_caret_at (b ∷ y) h = h

closed : (f n : Bool) (y p : List ℕ) (sets : List ByteSet) (s r : ByteSet) → p ≡ opening n ++ y → AreItems f true y sets → IsSetOf (InSome sets) s →
    HasNoNamed Other y → HasNoCaret n y → IsClosed n s r → IsClass f (p ++ 93 ∷ []) r
closed f false y p sets s r e is h g c k =
    of y sets (ap (λ x. x ++ 93 ∷ []) e) is g (no_caret_at y c) (subst (IsSetOf (InSome sets)) (sym k) h)
closed f true y p sets s r e is h g c k =
    none_of y sets (ap (λ x. x ++ 93 ∷ []) e) is g (complement_set (InSome sets) s r h k)

pub front_closed : (f n bare : Bool) (s r : ByteSet) (p : List ℕ) → IsClassFront f n s (Item bare) p → IsClosed n s r → IsClass f (p ++ 93 ∷ []) r
front_closed f n bare s r p x k =
    let i = x.items in
    closed f n x.body p i.0 s r x.is (items_whole f true x.body i.0 i.1 (inl refl)) i.2 x.named x.start.1 k

pub front_dash_closed : (f n : Bool) (s u t r : ByteSet) (p : List ℕ) → IsClassFront f n s Dashed p → IsSetBy (holds (Range false 45 45)) u → IsSetBy (holds (Both s u)) t →
    IsClosed n t r → IsClass f (p ++ 93 ∷ []) r
front_dash_closed f n s u t r p x i j k =
    let h = x.items in
    closed f n x.body p (h.2.0 ++ u ∷ []) t r x.is
    (subst (λ y. AreItems f true y (h.2.0 ++ u ∷ [])) (sym h.1) (items_last f true false h.0 (45 ∷ []) h.2.0 u h.2.1 (dash (inr refl) (dash_set u i))))
    (joined_set h.2.0 s u t _ h.2.2 i j) x.named x.start.1 k
  where
    dash_set : (v : ByteSet) → IsSetBy (holds (Range false 45 45)) v → IsSetOf (λ b. b ≡ 45) v
    dash_set v o = same_set (IsFold false 45) (λ b. b ≡ 45) v (fold_set false 45 v o) (λ b q. sym q) (λ b q. sym q)
