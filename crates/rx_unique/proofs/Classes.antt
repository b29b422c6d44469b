-- The reader gathers the bytes of a class.
use Rattle.std.proofs.Common.{◌≡◌, ◌≢◌, ℕ, Bool, true, false, ◌==◌, ◌⊎◌, inl, inr, List, [], ◌∷◌, ◌++◌, slice_index, Option, Some, refl, sym, ◌∙◌, ap, subst, append_assoc}
use Rattle.rx_term.specs.declared.sets.ByteSet.{ByteSet}
use Rattle.rx_term.specs.Term.{has_byte}
use Rattle.rx_term.specs.Pattern.{IsAny, IsSetOf, InSome, Other, HasNoNamed, IsItem, AreItems, IsClass}
use Rattle.rx_term.specs.Pattern.AreItems.{only, then}
use Rattle.rx_term.specs.Pattern.IsClass.{of, none_of}
use Rattle.rx_parse.specs.declared.bytes.Bytes.TheVariants.{Both, Without}
use Rattle.rx_parse.specs.declared.made.Made.{Made}
use Rattle.rx_parse.specs.declared.made.Frame.{Frame}
use Rattle.rx_parse.specs.declared.reader.Reader.{Reader}
use Rattle.rx_parse.specs.declared.place.Class.{Class}
use Rattle.rx_parse.specs.declared.place.Class.TheVariants.{Fresh, Negated, Single, Item, Ranged, Dashed, Slashed, RangeSlashed}
use Rattle.rx_parse.specs.declared.place.Place.TheVariants.{Atomic}
use Rattle.rx_parse.specs.Answer.{made_one, no_bytes, set_with, dash, closed_set, class_of}
use Rattle.rx_parse.proofs.Held.{sort}
use Rattle.rx_parse.proofs.Runs.{eq_false}
use Rattle.rx_parse.proofs.Filled.{filled_set}
use Rattle.rx_parse.proofs.Classes.{no_named_left, no_named_right, pick_false, Takes}
use Rattle.rx_parse.proofs.ByteTests.{test_set, same_set, complement_set}
use Rattle.rx_parse.proofs.Exact.{set_is}
use Rattle.rx_unique.proofs.Sets.{one_set}
use Rattle.rx_unique.proofs.Reading.{read, read_through, held, Awaits, bracket_reads}
use Rattle.rx_unique.proofs.Items.{gather, dash_set, inside, gathered, ItemReads, item_reads, first_dash}

no_bool : false ≡ true → ⊥
no_bool e = cc

none_set : IsSetOf (λ b. ⊥) no_bytes
none_set = test_set (λ b. ⊥) (λ b. false) no_bytes (filled_set (λ b. false) no_bytes refl) (λ b h. no_bool h) (λ b h. absurd h)

-- one item's bytes, and those of the items behind it
some_first : (P : ℕ → Type 0) (set : ByteSet) (sets : List ByteSet) (b : ℕ) → (P b ⊎ (has_byte set b ≡ true)) ⊎ InSome sets b → P b ⊎ InSome (set ∷ sets) b
some_first P set sets b (inl (inl h)) = inl h
some_first P set sets b (inl (inr h)) = inr (set, inl refl, h)
some_first P set sets b (inr h) = inr (h.0, inr h.1, h.2)

first_some : (P : ℕ → Type 0) (set : ByteSet) (sets : List ByteSet) (b : ℕ) → P b ⊎ InSome (set ∷ sets) b → (P b ⊎ (has_byte set b ≡ true)) ⊎ InSome sets b
first_some P set sets b (inl h) = inl (inl h)
first_some P set sets b (inr (s, inl e, h)) = inl (inr (subst (λ x. has_byte x b ≡ true) (sym e) h))
first_some P set sets b (inr (s, inr g, h)) = inr (s, g, h)

more_set : (P : ℕ → Type 0) (set y : ByteSet) (sets : List ByteSet) → IsSetOf (λ b. (P b ⊎ (has_byte set b ≡ true)) ⊎ InSome sets b) y → IsSetOf (λ b. P b ⊎ InSome (set ∷ sets) b) y
more_set P set y sets h = same_set _ (λ b. P b ⊎ InSome (set ∷ sets) b) y h (some_first P set sets) (first_some P set sets)

last_set : (P : ℕ → Type 0) (set y : ByteSet) → IsSetOf (λ b. P b ⊎ (has_byte set b ≡ true)) y → IsSetOf (λ b. P b ⊎ InSome (set ∷ []) b) y
last_set P set y h =
    more_set P set y []
    (same_set _ (λ b. (P b ⊎ (has_byte set b ≡ true)) ⊎ InSome [] b) y h (λ b j. inl j) (λ b j. elim j [ inl i ↦ i | inr i ↦ absurd i.1 ]))

-- ---- the end of a class

module _ (f : Bool) (o : List Frame) (fr : Frame) (m : Made) (n : Bool) where
  -- the reader behind a class whose items have these bytes
  abbrev behind_class : ByteSet → Option Reader
  behind_class y = Some (held f o fr (made_one (closed_set n y)) n y Atomic)

  close_step : (c : Class) (u : ByteSet) → Takes false c → class_of c (inside f o fr m n c u) 93 ≡ behind_class (gathered f o fr m n c u)
  close_step Fresh u t = absurd t
  close_step Negated u t = absurd (no_bool t)
  close_step (Single x bare) u t = refl
  close_step (Item bare) u t = refl
  close_step (Ranged x) u t = absurd t
  close_step Dashed u t = absurd t
  close_step Slashed u t = absurd t
  close_step (RangeSlashed x) u t = absurd t

  last_dash : (first : Bool) (c : Class) (u : ByteSet) → Takes first c →
      read (Some (inside f o fr m n c u)) (45 ∷ 93 ∷ []) ≡ behind_class (set_with (Both (gathered f o fr m n c u) (set_with dash)))
  last_dash first Fresh u t = absurd t
  last_dash first Negated u t = refl
  last_dash first (Single x bare) u t = refl
  last_dash first (Item bare) u t = refl
  last_dash first (Ranged x) u t = absurd t
  last_dash first Dashed u t = absurd t
  last_dash first Slashed u t = absurd t
  last_dash first (RangeSlashed x) u t = absurd t

  -- ---- all items

  inner_reads : (P : ℕ → Type 0) (first : Bool) (c : Class) (u : ByteSet) (v : List ℕ) (set : ByteSet) → IsItem f first false v set → Takes first c → HasNoNamed (sort c) v →
      IsSetOf P (gathered f o fr m n c u) → ItemReads f o fr m n P c u v set
  inner_reads P first c u v set i t h p =
      elim (item_reads f o fr m n P first false c u v set i t h p) [
        | inl r ↦ r
        | inr (e, q, k) ↦ elim q [
          | inl g ↦ subst (λ x. ItemReads f o fr m n P c u x set) (sym e) (first_dash f o fr m n P first c u set t g p k)
          | inr g ↦ absurd (no_bool g)
        ]
      ]

  abbrev ItemsRead : (ℕ → Type 0) → Class → ByteSet → List ℕ → List ByteSet → Type 0
  ItemsRead P c u v sets = (y : ByteSet) × (read (Some (inside f o fr m n c u)) (v ++ 93 ∷ []) ≡ behind_class y) × IsSetOf (λ b. P b ⊎ InSome sets b) y

  items_read : (P : ℕ → Type 0) (first : Bool) (c : Class) (u : ByteSet) (v : List ℕ) (sets : List ByteSet) → AreItems f first v sets → Takes first c → HasNoNamed (sort c) v →
      IsSetOf P (gathered f o fr m n c u) → ItemsRead P c u v sets
  items_read P first c u v sets (only {set} i) t h p =
      elim (item_reads f o fr m n P first true c u v set i t h p) [
        | inl (x, y, e, g, s, k) ↦
            (gathered f o fr m n x y, read_through v (93 ∷ []) (Some (inside f o fr m n c u)) _ _ e (close_step x y g), last_set P set _ k)
        | inr (e, q, k) ↦ (
          set_with (Both (gathered f o fr m n c u) (set_with dash)),
          ap (λ x. read (Some (inside f o fr m n c u)) (x ++ 93 ∷ [])) e ∙ last_dash first c u t,
          last_set P set _ (gather P (λ x. x ≡ 45) (gathered f o fr m n c u) set dash p dash_set k),
        )
      ]
  items_read P first c u w sets (then {set} {sets = rest} v z e i is) t h p =
      let k = subst (HasNoNamed (sort c)) e h in
      let r = inner_reads P first c u v set i t (no_named_left v z (sort c) k) p in
      let g = subst (λ s. HasNoNamed s z) (sym r.4) (no_named_right v z (sort c) k) in
      let a = items_read (λ b. P b ⊎ (has_byte set b ≡ true)) false r.0 r.1 z rest is r.3 g r.5 in (
        a.0,
        ap (λ x. read (Some (inside f o fr m n c u)) (x ++ 93 ∷ [])) e
            ∙ (ap (read (Some (inside f o fr m n c u))) (append_assoc v z (93 ∷ [])) ∙ read_through v (z ++ 93 ∷ []) (Some (inside f o fr m n c u)) _ _ r.2 a.1),
        more_set P set a.0 rest a.2,
      )

  -- all items from the start of the class on
  pub body_reads : (v : List ℕ) (sets : List ByteSet) → AreItems f true v sets → HasNoNamed Other v →
      (y : ByteSet) × (read (Some (inside f o fr m n Negated no_bytes)) (v ++ 93 ∷ []) ≡ behind_class y) × IsSetOf (InSome sets) y
  body_reads v sets is h =
      let r = items_read (λ b. ⊥) true Negated no_bytes v sets is refl h none_set in
      (r.0, r.1, same_set (λ b. ⊥ ⊎ InSome sets b) (InSome sets) r.0 r.2 (λ b j. elim j [ inl i ↦ absurd i | inr i ↦ i ]) (λ b j. inr j))

  fresh_step : (b : ℕ) → b ≢ 94 → class_of Fresh (inside f o fr m n Fresh no_bytes) b ≡ class_of Negated (inside f o fr m n Negated no_bytes) b
  fresh_step b h = pick_false (b == 94) _ _ (eq_false b 94 h)

  pub fresh_reads : (v : List ℕ) → slice_index v 0 ≢ 94 → read (Some (inside f o fr m n Fresh no_bytes)) (v ++ 93 ∷ []) ≡ read (Some (inside f o fr m n Negated no_bytes)) (v ++ 93 ∷ [])
  fresh_reads [] h = refl
  fresh_reads (b ∷ v) h = ap (λ x. read x (v ++ 93 ∷ [])) (fresh_step b h)

-- a class leads from where a piece may begin to behind an atom of its bytes
pub class_reads : (f : Bool) (o : List Frame) (fr : Frame) (r : Reader) (w : List ℕ) (set : ByteSet) → IsClass f w set → Awaits f o fr r →
    (n : Bool) × (u : ByteSet) × (read (Some r) w ≡ Some (held f o fr (made_one set) n u Atomic))
class_reads f o fr r w set (of v sets e is h k i) a =
    let b = bracket_reads f o fr r a in
    let s = body_reads f o fr b.0 false v sets is h in
    let g = one_set (InSome sets) (InSome sets) s.0 set s.2 i (λ x j. j) (λ x j. j) in (
      false,
      s.0,
      ap (read (Some r)) e
          ∙ (read_through (91 ∷ []) (v ++ 93 ∷ []) (Some r) _ _ b.3 (fresh_reads f o fr b.0 false v k ∙ s.1)
          ∙ ap (λ x. Some (held f o fr (made_one x) false s.0 Atomic)) g),
    )
class_reads f o fr r w set (none_of v sets e is h i) a =
    let b = bracket_reads f o fr r a in
    let s = body_reads f o fr b.0 true v sets is h in
    let c = complement_set (InSome sets) s.0 (set_with (Without s.0)) s.2 (set_is (Without s.0)) in
    let g = one_set _ (λ x. IsAny x × (InSome sets x → ⊥)) (set_with (Without s.0)) set c i (λ x j. j) (λ x j. j) in (
      true,
      s.0,
      ap (read (Some r)) e
          ∙ (read_through (91 ∷ []) (94 ∷ (v ++ 93 ∷ [])) (Some r) _ _ b.3 s.1 ∙ ap (λ x. Some (held f o fr (made_one x) true s.0 Atomic)) g),
    )
