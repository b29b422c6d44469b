-- Classes are read to their end.
use Rattle.std.proofs.Common.{◌≡◌, ◌≢◌, ℕ, ◌+◌, ◌≤◌, Bool, true, false, ◌&&◌, not, cond, nat_lt, ◌==◌, ◌⊎◌, inl, inr, List, [], ◌∷◌, ◌++◌, slice_index, Some, refl, sym, ◌∙◌, ap, subst, arith}
use Rattle.rx_term.specs.declared.sets.ByteSet.{ByteSet}
use Rattle.rx_term.specs.Pattern.{IsAny, IsSetLetter, Before, Other, Slash, behind, IsAllowedBehind, HasNoNamed, IsSingle, IsItem, AreItems, IsClass}
use Rattle.rx_term.specs.Pattern.IsSingle.{plain, escaped, bracket}
use Rattle.rx_term.specs.Pattern.IsItem.{single, among, range, dash}
use Rattle.rx_term.specs.Pattern.AreItems.{only, then}
use Rattle.rx_term.specs.Pattern.IsClass.{of, none_of}
use Rattle.rx_parse.specs.declared.place.Class.{Class}
use Rattle.rx_parse.specs.declared.place.Class.TheVariants.{Fresh, Negated, Single, Item, Ranged, Dashed, Slashed, RangeSlashed}
use Rattle.rx_parse.specs.declared.place.Place.{Place}
use Rattle.rx_parse.specs.declared.place.Place.TheVariants.{Atomic, InClass}
use Rattle.rx_parse.specs.Kinds.{is_any, is_punct}
use Rattle.rx_parse.proofs.Machine.{item, class_next, next, run, IsOpen}
use Rattle.rx_parse.proofs.Held.{bare_if, sort, behind_all}
use Rattle.rx_parse.proofs.Runs.{run_append, run_through, within_true, lt_true, and_true, eq_false, punct_true, open_next}

-- ---- the byte before

pub behind_all_append : (v z : List ℕ) (s : Before) → behind_all s (v ++ z) ≡ behind_all (behind_all s v) z
behind_all_append [] z s = refl
behind_all_append (b ∷ v) z s = behind_all_append v z (behind s b)

pub no_named_left : (v z : List ℕ) (s : Before) → HasNoNamed s (v ++ z) → HasNoNamed s v
no_named_left [] z s h = tt
no_named_left (b ∷ v) z s h = (h.0, no_named_left v z (behind s b) h.1)

pub no_named_right : (v z : List ℕ) (s : Before) → HasNoNamed s (v ++ z) → HasNoNamed (behind_all s v) z
no_named_right [] z s h = h
no_named_right (b ∷ v) z s h = no_named_right v z (behind s b) h.1

behind_slash : (bare : Bool) → behind (bare_if bare) 92 ≡ Slash
behind_slash true = refl
behind_slash false = refl

behind_dash : (bare : Bool) → behind (bare_if bare) 45 ≡ Other
behind_dash true = refl
behind_dash false = refl

pub pick_false : {A : Type 0} → (c : Bool) (x y : A) → c ≡ false → cond c x y ≡ y
pick_false true x y e = cc
pick_false false x y e = refl

pub pick_true : {A : Type 0} → (c : Bool) (x y : A) → c ≡ true → cond c x y ≡ x
pick_true true x y e = refl
pick_true false x y e = cc

pub behind_plain : (bare : Bool) (b : ℕ) → b ≢ 92 → behind (bare_if bare) b ≡ bare_if (b == 91)
behind_plain true b h = pick_false (b == 92) Slash (bare_if (b == 91)) (eq_false b 92 h)
behind_plain false b h = pick_false (b == 92) Slash (bare_if (b == 91)) (eq_false b 92 h)

-- ---- one item

-- an item may begin here; `first` says that it is the first
abbrev pub Takes : Bool → Class → Type 0
Takes first Fresh = ⊥
Takes first Negated = first ≡ true
Takes first (Single a bare) = first ≡ false
Takes first (Item bare) = first ≡ false
Takes first (Ranged a) = ⊥
Takes first Dashed = ⊥
Takes first Slashed = ⊥
Takes first (RangeSlashed a) = ⊥

takes_sort : (first : Bool) (c : Class) → Takes first c → (bare : Bool) × (sort c ≡ bare_if bare)
takes_sort first Fresh t = absurd t
takes_sort first Negated t = (false, refl)
takes_sort first (Single a bare) t = (bare, refl)
takes_sort first (Item bare) t = (bare, refl)
takes_sort first (Ranged a) t = absurd t
takes_sort first Dashed t = absurd t
takes_sort first Slashed t = absurd t
takes_sort first (RangeSlashed a) t = absurd t

allowed_true : (bare : Bool) (b : ℕ) → IsAllowedBehind (bare_if bare) b → not (bare && b == 58) ≡ true
allowed_true true b h = ap not (eq_false b 58 h)
allowed_true false b h = refl

item_plain : (bare : Bool) (d b : ℕ) → IsAny b → b ≢ 92 → IsAllowedBehind (bare_if bare) b →
    item bare d b ≡ Some (d, InClass (Single b (b == 91)))
item_plain bare d b a n h =
    pick_false (b == 92) _ _ (eq_false b 92 n)
    ∙ pick_true (is_any b && not (bare && b == 58)) _ _ (and_true (is_any b) _ (within_true 32 126 b a.0 a.1) (allowed_true bare b h))

plain_step : (first : Bool) (c : Class) (d b : ℕ) → Takes first c → IsAny b → b ≢ 92 → b ≢ 93 → b ≢ 45 → IsAllowedBehind (sort c) b →
    class_next d c b ≡ Some (d, InClass (Single b (b == 91)))
plain_step first Fresh d b t a n m l h = absurd t
plain_step first Negated d b t a n m l h = pick_false (b == 45) _ _ (eq_false b 45 l) ∙ item_plain false d b a n h
plain_step first (Single x bare) d b t a n m l h =
    pick_false (b == 93) _ _ (eq_false b 93 m) ∙ (pick_false (b == 45) _ _ (eq_false b 45 l) ∙ item_plain bare d b a n h)
plain_step first (Item bare) d b t a n m l h =
    pick_false (b == 93) _ _ (eq_false b 93 m) ∙ (pick_false (b == 45) _ _ (eq_false b 45 l) ∙ item_plain bare d b a n h)
plain_step first (Ranged x) d b t a n m l h = absurd t
plain_step first Dashed d b t a n m l h = absurd t
plain_step first Slashed d b t a n m l h = absurd t
plain_step first (RangeSlashed x) d b t a n m l h = absurd t

slash_step : (first : Bool) (c : Class) (d : ℕ) → Takes first c → class_next d c 92 ≡ Some (d, InClass Slashed)
slash_step first Fresh d t = absurd t
slash_step first Negated d t = refl
slash_step first (Single x bare) d t = refl
slash_step first (Item bare) d t = refl
slash_step first (Ranged x) d t = absurd t
slash_step first Dashed d t = absurd t
slash_step first Slashed d t = absurd t
slash_step first (RangeSlashed x) d t = absurd t

two_steps : (d a b : ℕ) (p q r : Place) → next d p a ≡ Some (d, q) → next d q b ≡ Some (d, r) → run (Some (d, p)) (a ∷ b ∷ []) ≡ Some (d, r)
two_steps d a b p q r e h = ap (λ m. run m (b ∷ [])) e ∙ h

-- behind a backslash that was written where an item may begin
slashed_sort : (first : Bool) (c : Class) (a : ℕ) → Takes first c → Other ≡ behind_all (sort c) (92 ∷ a ∷ [])
slashed_sort first c a t =
    let s = takes_sort first c t in
    sym (ap (λ x. behind (behind x 92) a) s.1 ∙ ap (λ x. behind x a) (behind_slash s.0))

negated_only : (first : Bool) (c : Class) → Takes first c → first ≡ true → c ≡ Negated
negated_only first Fresh t e = absurd t
negated_only first Negated t e = refl
negated_only first (Single x bare) t e = cc
negated_only first (Item bare) t e = cc
negated_only first (Ranged x) t e = absurd t
negated_only first Dashed t e = absurd t
negated_only first Slashed t e = absurd t
negated_only first (RangeSlashed x) t e = absurd t

-- where a single leads
abbrev pub SingleRun : ℕ → Class → List ℕ → ℕ → Type 0
SingleRun d c v a = (bare : Bool) × (run (Some (d, InClass c)) v ≡ Some (d, InClass (Single a bare))) × (bare_if bare ≡ behind_all (sort c) v)

pub single_run : (d : ℕ) (first : Bool) (c : Class) (v : List ℕ) (a : ℕ) → IsSingle first v a → Takes first c → HasNoNamed (sort c) v → SingleRun d c v a
single_run d first c v a (plain y n m l) t h =
    let s = takes_sort first c t in
    (a == 91, plain_step first c d a t y n m l h.0, sym (ap (λ x. behind x a) s.1 ∙ behind_plain s.0 a n))
single_run d first c v a (escaped y) t h =
    (false, two_steps d 92 a (InClass c) (InClass Slashed) _ (slash_step first c d t) (pick_true (is_punct a) _ _ (punct_true a y)), slashed_sort first c a t)
single_run d first c v a bracket t h =
    subst (λ x. SingleRun d x (93 ∷ []) 93) (sym (negated_only true c t refl)) (false, refl, refl)

-- where an item leads that isn't a dash
abbrev pub ItemRun : ℕ → Class → List ℕ → Type 0
ItemRun d c v = (x : Class) × (run (Some (d, InClass c)) v ≡ Some (d, InClass x)) × Takes false x × (sort x ≡ behind_all (sort c) v)

letter_step : (d l : ℕ) → IsSetLetter l → class_next d Slashed l ≡ Some (d, InClass (Item false))
letter_step d l (inl e) = subst (λ x. class_next d Slashed x ≡ Some (d, InClass (Item false))) e refl
letter_step d l (inr (inl e)) = subst (λ x. class_next d Slashed x ≡ Some (d, InClass (Item false))) e refl
letter_step d l (inr (inr (inl e))) = subst (λ x. class_next d Slashed x ≡ Some (d, InClass (Item false))) e refl
letter_step d l (inr (inr (inr (inl e)))) = subst (λ x. class_next d Slashed x ≡ Some (d, InClass (Item false))) e refl
letter_step d l (inr (inr (inr (inr (inl e))))) = subst (λ x. class_next d Slashed x ≡ Some (d, InClass (Item false))) e refl
letter_step d l (inr (inr (inr (inr (inr (inl e)))))) = subst (λ x. class_next d Slashed x ≡ Some (d, InClass (Item false))) e refl
letter_step d l (inr (inr (inr (inr (inr (inr z)))))) = absurd z

-- the end of a range
end_run : (d : ℕ) (f : Bool) (a b : ℕ) (z : List ℕ) → f ≡ false → IsSingle f z b → a ≤ b →
    (bare : Bool) × (run (Some (d, InClass (Ranged a))) z ≡ Some (d, InClass (Item bare))) × (bare_if bare ≡ behind_all Other z)
end_run d f a b z g (plain y n m l) le = (
  b == 91,
  pick_false (b == 93) _ _ (eq_false b 93 m)
      ∙ (pick_false (b == 92) _ _ (eq_false b 92 n)
      ∙ pick_true (is_any b && (not (b == 45) && nat_lt a (b + 1))) _ _
      (and_true (is_any b) _ (within_true 32 126 b y.0 y.1) (and_true (not (b == 45)) _ (ap not (eq_false b 45 l)) (lt_true a (b + 1) (omega arith))))),
  sym (behind_plain false b n),
)
end_run d f a b z g (escaped y) le = (
  false,
  two_steps d 92 b (InClass (Ranged a)) (InClass (RangeSlashed a)) _ refl
      (pick_true (is_punct b && nat_lt a (b + 1)) _ _ (and_true (is_punct b) _ (punct_true b y) (lt_true a (b + 1) (omega arith)))),
  refl,
)
end_run d f a b z g bracket le = cc

pub item_run : (d : ℕ) (f first last : Bool) (c : Class) (v : List ℕ) (set : ByteSet) → IsItem f first last v set → Takes first c → HasNoNamed (sort c) v →
    ItemRun d c v ⊎ ((v ≡ 45 ∷ []) × ((first ≡ true) ⊎ (last ≡ true)))
item_run d f first last c v set (single a s i) t h =
    let r = single_run d first c v a s t h in
    inl (Single a r.0, r.1, refl, r.2)
item_run d f first last c v set (among l i) t h =
    inl (Item false, two_steps d 92 _ (InClass c) (InClass Slashed) _ (slash_step first c d t) (letter_step d _ l), refl, slashed_sort first c _ t)
item_run d f first last c w set (range v z a b e s u le i) t h =
    let k = subst (HasNoNamed (sort c)) e h in
    let r = single_run d first c v a s t (no_named_left v (45 ∷ z) (sort c) k) in
    let g = end_run d false a b z refl u le in
    inl (
      Item g.0,
      ap (run (Some (d, InClass c))) e ∙ run_through v (45 ∷ z) (Some (d, InClass c)) _ _ r.1 g.1,
      refl,
      g.2
          ∙ sym (ap (behind_all (sort c)) e ∙ (behind_all_append v (45 ∷ z) (sort c)
          ∙ (ap (λ x. behind_all (behind x 45) z) (sym r.2) ∙ ap (λ x. behind_all x z) (behind_dash r.0)))),
    )
item_run d f first last c v set (dash o i) t h = inr (refl, o)

-- ---- all items

first_dash : (d : ℕ) (first : Bool) (c : Class) → Takes first c → first ≡ true → ItemRun d c (45 ∷ [])
first_dash d first c t e = subst (λ x. ItemRun d x (45 ∷ [])) (sym (negated_only first c t e)) (Item false, refl, refl, refl)

last_dash : (d : ℕ) (first : Bool) (c : Class) → Takes first c → run (Some (d, InClass c)) (45 ∷ 93 ∷ []) ≡ Some (d, Atomic)
last_dash d first Fresh t = absurd t
last_dash d first Negated t = refl
last_dash d first (Single x bare) t = refl
last_dash d first (Item bare) t = refl
last_dash d first (Ranged x) t = absurd t
last_dash d first Dashed t = absurd t
last_dash d first Slashed t = absurd t
last_dash d first (RangeSlashed x) t = absurd t

close_step : (d : ℕ) (c : Class) → Takes false c → class_next d c 93 ≡ Some (d, Atomic)
close_step d Fresh t = absurd t
close_step d Negated t = cc
close_step d (Single x bare) t = refl
close_step d (Item bare) t = refl
close_step d (Ranged x) t = absurd t
close_step d Dashed t = absurd t
close_step d Slashed t = absurd t
close_step d (RangeSlashed x) t = absurd t

inner_run : (d : ℕ) (f first : Bool) (c : Class) (v : List ℕ) (set : ByteSet) → IsItem f first false v set → Takes first c → HasNoNamed (sort c) v → ItemRun d c v
inner_run d f first c v set i t h =
    elim (item_run d f first false c v set i t h) [
      | inl r ↦ r
      | inr o ↦ elim o.1 [
        | inl e ↦ subst (ItemRun d c) (sym o.0) (first_dash d first c t e)
        | inr e ↦ absurd (no e)
      ]
    ]
  where
    no : false ≡ true → ⊥
    no e = cc

pub items_run : (d : ℕ) (f first : Bool) (c : Class) (v : List ℕ) (sets : List ByteSet) → AreItems f first v sets → Takes first c → HasNoNamed (sort c) v →
    run (Some (d, InClass c)) (v ++ 93 ∷ []) ≡ Some (d, Atomic)
items_run d f first c v sets (only {set} i) t h =
    elim (item_run d f first true c v set i t h) [
      | inl r ↦ run_through v (93 ∷ []) (Some (d, InClass c)) _ _ r.1 (close_step d r.0 r.2)
      | inr o ↦ ap (λ x. run (Some (d, InClass c)) (x ++ 93 ∷ [])) o.0 ∙ last_dash d first c t
    ]
items_run d f first c w sets (then {set} {sets = rest} v z e i is) t h =
    let k = subst (HasNoNamed (sort c)) e h in
    let r = inner_run d f first c v set i t (no_named_left v z (sort c) k) in
    let g = subst (λ s. HasNoNamed s z) (sym r.3) (no_named_right v z (sort c) k) in
    let u = items_run d f false r.0 z rest is r.2 g in
    run_append w (93 ∷ []) (Some (d, InClass c))
    ∙ (ap (λ m. run m (93 ∷ [])) (ap (run (Some (d, InClass c))) e ∙ run_through v z (Some (d, InClass c)) _ _ r.1 refl)
    ∙ (sym (run_append z (93 ∷ []) (Some (d, InClass r.0))) ∙ u))

fresh_step : (d b : ℕ) → b ≢ 94 → class_next d Fresh b ≡ class_next d Negated b
fresh_step d b h = pick_false (b == 94) _ _ (eq_false b 94 h)

fresh_run : (d : ℕ) (v : List ℕ) → slice_index v 0 ≢ 94 → run (Some (d, InClass Fresh)) (v ++ 93 ∷ []) ≡ run (Some (d, InClass Negated)) (v ++ 93 ∷ [])
fresh_run d [] h = refl
fresh_run d (b ∷ v) h = ap (λ m. run m (v ++ 93 ∷ [])) (fresh_step d b h)

-- a class leads from where a piece may begin to behind an atom
pub class_run : (d : ℕ) (f : Bool) (w : List ℕ) (set : ByteSet) (p : Place) → IsClass f w set → IsOpen p → run (Some (d, p)) w ≡ Some (d, Atomic)
class_run d f w set p (of v sets e is h n i) o =
    let s = open_next d p 91 _ (Some (d, InClass Fresh)) o refl (refl, refl, refl, refl, refl, λ first. refl) in
    ap (run (Some (d, p))) e
    ∙ (ap (λ m. run m (v ++ 93 ∷ [])) s ∙ (fresh_run d v n ∙ items_run d f true Negated v sets is refl h))
class_run d f w set p (none_of v sets e is h i) o =
    let s = open_next d p 91 _ (Some (d, InClass Fresh)) o refl (refl, refl, refl, refl, refl, λ first. refl) in
    ap (run (Some (d, p))) e ∙ (ap (λ m. run m (94 ∷ (v ++ 93 ∷ []))) s ∙ items_run d f true Negated v sets is refl h)
