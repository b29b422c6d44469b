-- Pieces, alternatives and open groups, taken at their ends.
use Rattle.std.proofs.Common.{◌≡◌, ◌≢◌, ℕ, Bool, inl, inr, List, [], ◌∷◌, ◌++◌, refl, sym, ◌∙◌, ap, subst, append_assoc, append-nil}
use Rattle.rx_term.specs.declared.sets.ByteSet.{ByteSet}
use Rattle.rx_term.specs.declared.terms.Term.{Term}
use Rattle.rx_term.specs.Term.{cat, alt}
use Rattle.rx_term.specs.Pattern.{Spells, Level, Atom, Piece, Cats, Alts, IsClass}
use Rattle.rx_term.specs.Pattern.IsClass.{of, none_of}
use Rattle.rx_term.specs.Pattern.Spells.{literal, dot, punct, escape, class, group, plain_group, once, times, empty, piece, cats, choice, alts}
use Rattle.rx_parse.specs.declared.made.Made.{Made}
use Rattle.rx_parse.specs.declared.made.Frame.{Frame}
use Rattle.rx_parse.proofs.Held.{IsMade, ArePieces, AreBranches, IsFrame, IsOpening, AreOuter, Joins}

pub pieces_snoc : (f : Bool) (w v : List ℕ) (ms : List Made) (m : Made) → ArePieces f w ms → IsMade Piece f v m → ArePieces f (w ++ v) (ms ++ m ∷ [])
pieces_snoc f w v [] m e h = (v, [], ap (λ y. y ++ v) e ∙ sym (append-nil v), h, refl)
pieces_snoc f w v (x ∷ ms) m (a, z, e, p, r) h = (a, z ++ v, ap (λ y. y ++ v) e ∙ append_assoc a z v, p, pieces_snoc f z v ms m r h)

pub pieces_unsnoc : (f : Bool) (w : List ℕ) (ms : List Made) (m : Made) → ArePieces f w (ms ++ m ∷ []) →
    (a z : List ℕ) × (w ≡ a ++ z) × ArePieces f a ms × IsMade Piece f z m
pieces_unsnoc f w [] m (a, z, e, p, r) = ([], a, e ∙ (ap (λ y. a ++ y) r ∙ append-nil a), refl, p)
pieces_unsnoc f w (x ∷ ms) m (a, z, e, p, r) =
    let i = pieces_unsnoc f z ms m r in
    (a ++ i.0, i.1, e ∙ (ap (λ y. a ++ y) i.2 ∙ sym (append_assoc a i.0 i.1)), (a, i.0, refl, p, i.3), i.4)

pub branches_snoc : (f : Bool) (w v : List ℕ) (ms : List Made) (m : Made) → AreBranches f w ms → IsMade Cats f v m →
    AreBranches f (w ++ (v ++ 124 ∷ [])) (ms ++ m ∷ [])
branches_snoc f w v [] m e h = (v, [], ap (λ y. y ++ (v ++ 124 ∷ [])) e, h, refl)
branches_snoc f w v (x ∷ ms) m (a, z, e, p, r) h =
    (a, z ++ (v ++ 124 ∷ []), ap (λ y. y ++ (v ++ 124 ∷ [])) e ∙ append_assoc a (124 ∷ z) (v ++ 124 ∷ []), p, branches_snoc f z v ms m r h)

pub branches_unsnoc : (f : Bool) (w : List ℕ) (ms : List Made) (m : Made) → AreBranches f w (ms ++ m ∷ []) →
    (a z : List ℕ) × (w ≡ a ++ (z ++ 124 ∷ [])) × AreBranches f a ms × IsMade Cats f z m
branches_unsnoc f w [] m (a, z, e, p, r) = ([], a, e ∙ ap (λ y. a ++ 124 ∷ y) r, refl, p)
branches_unsnoc f w (x ∷ ms) m (a, z, e, p, r) =
    let i = branches_unsnoc f z ms m r in
    (a ++ 124 ∷ i.0, i.1, e ∙ (ap (λ y. a ++ 124 ∷ y) i.2 ∙ sym (append_assoc a (124 ∷ i.0) (i.1 ++ 124 ∷ []))), (a, i.0, refl, p, i.3), i.4)

pub outer_snoc : (f : Bool) (w v o : List ℕ) (ms : List Frame) (m : Frame) → AreOuter f w ms → IsFrame f v m → IsOpening o →
    AreOuter f (w ++ (v ++ o)) (ms ++ m ∷ [])
outer_snoc f w v o [] m e h k = (v, o, [], ap (λ y. y ++ (v ++ o)) e ∙ ap (λ y. v ++ y) (sym (append-nil o)), h, k, refl)
outer_snoc f w v o (x ∷ ms) m (a, u, z, e, p, q, r) h k =
    (a, u, z ++ (v ++ o), ap (λ y. y ++ (v ++ o)) e ∙ (append_assoc a (u ++ z) (v ++ o) ∙ ap (λ y. a ++ y) (append_assoc u z (v ++ o))), p, q, outer_snoc f z v o ms m r h k)

pub outer_unsnoc : (f : Bool) (w : List ℕ) (ms : List Frame) (m : Frame) → AreOuter f w (ms ++ m ∷ []) →
    (a v o : List ℕ) × (w ≡ a ++ (v ++ o)) × AreOuter f a ms × IsFrame f v m × IsOpening o
outer_unsnoc f w [] m (a, u, z, e, p, q, r) = ([], a, u, e ∙ (ap (λ y. a ++ (u ++ y)) r ∙ ap (λ y. a ++ y) (append-nil u)), refl, p, q)
outer_unsnoc f w (x ∷ ms) m (a, u, z, e, p, q, r) =
    let i = outer_unsnoc f z ms m r in (
      a ++ (u ++ i.0),
      i.1,
      i.2,
      e ∙ (ap (λ y. a ++ (u ++ y)) i.3 ∙ (ap (λ y. a ++ y) (sym (append_assoc u i.0 (i.1 ++ i.2))) ∙ sym (append_assoc a (u ++ i.0) (i.1 ++ i.2)))),
      (a, u, i.0, refl, p, q, i.4),
      i.5,
      i.6,
    )

-- ---- an atom isn't empty

begins : (w v : List ℕ) (b : ℕ) → w ≡ b ∷ v → w ≢ []
begins w v b e = λ n. no (sym e ∙ n)
  where
    no : b ∷ v ≡ [] → ⊥
    no x = cc

front_begins : (w v z : List ℕ) → w ≡ v ++ z → v ≢ [] → w ≢ []
front_begins w [] z e h = absurd (h refl)
front_begins w (b ∷ v) z e h = begins w (v ++ z) b e

class_begins : (f : Bool) (w : List ℕ) (set : ByteSet) → IsClass f w set → w ≢ []
class_begins f w set (of v sets e is h n i) = begins w _ 91 e
class_begins f w set (none_of v sets e is h i) = begins w _ 91 e

abbrev pub Begins : Level → List ℕ → Type 0
Begins Atom w = w ≢ []
Begins Piece w = w ≢ []
Begins Cats w = Unit {0}
Begins Alts w = Unit {0}

pub spells_begins : (f : Bool) (l : Level) (w : List ℕ) (t : Term) (k : ℕ) → Spells f l w t k → Begins l w
spells_begins f l w t k (literal {a} h s) = begins w [] a refl
spells_begins f l w t k (dot s) = begins w [] 46 refl
spells_begins f l w t k (punct {a} h s) = begins w (a ∷ []) 92 refl
spells_begins f l w t k (escape {c} h s) = begins w (c ∷ []) 92 refl
spells_begins f l w t k (class {set} h) = class_begins f w set h
spells_begins f l w t k (group v e h) = begins w _ 40 e
spells_begins f l w t k (plain_group v e h) = begins w _ 40 e
spells_begins f l w t k (once h) = spells_begins f Atom w t k h
spells_begins f l w t k (times {t = u} {k = j} v z q (inl e) h g) = front_begins w v z e (spells_begins f Atom v u j h)
spells_begins f l w t k (times {t = u} {k = j} v z q (inr e) h g) = front_begins w v (z ++ 63 ∷ []) e (spells_begins f Atom v u j h)
spells_begins f l w t k empty = tt
spells_begins f l w t k (piece h) = tt
spells_begins f l w t k (cats v z e m h g) = tt
spells_begins f l w t k (choice h) = tt
spells_begins f l w t k (alts v z e h g) = tt

pub made_begins : (f : Bool) (w : List ℕ) (m : Made) → IsMade Piece f w m → w ≢ []
made_begins f w m h = spells_begins f Piece w h.0 m.positions h.1

-- ---- rows and choices

pub append_begins : (v z : List ℕ) → v ≢ [] → v ++ z ≢ []
append_begins v z h = front_begins (v ++ z) v z refl h

pub one_piece : (f : Bool) (w : List ℕ) (m : Made) → IsMade Piece f w m → IsMade Cats f w m
one_piece f w m h = (h.0, piece h.1, h.2)

pub more_pieces : (f : Bool) (v z : List ℕ) (m n r : Made) → IsMade Piece f v m → IsMade Cats f z n → z ≢ [] → Joins cat m n r → IsMade Cats f (v ++ z) r
more_pieces f v z m n r h g b j = (
  cat h.0 g.0,
  subst (λ k. Spells f Cats (v ++ z) (cat h.0 g.0) k) (sym j.positions) (cats v z refl b h.1 g.1),
  j.term h.0 g.0 h.2 g.2,
)

pub last_branch : (f : Bool) (w : List ℕ) (m : Made) → IsMade Cats f w m → IsMade Alts f w m
last_branch f w m h = (h.0, choice h.1, h.2)

pub more_branches : (f : Bool) (v z : List ℕ) (m n r : Made) → IsMade Cats f v m → IsMade Alts f z n → Joins alt m n r → IsMade Alts f (v ++ 124 ∷ z) r
more_branches f v z m n r h g j = (
  alt h.0 g.0,
  subst (λ k. Spells f Alts (v ++ 124 ∷ z) (alt h.0 g.0) k) (sym j.positions) (alts v z refl h.1 g.1),
  j.term h.0 g.0 h.2 g.2,
)
