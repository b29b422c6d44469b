-- Whatever a reader holds is the front of some pattern.
use Rattle.std.proofs.Common.{◌≡◌, ℕ, ◌+◌, Bool, true, false, inl, inr, List, [], ◌∷◌, ◌++◌, refl, sym, ◌∙◌, ap, subst, append_assoc, append-nil, arith}
use Rattle.rx_term.specs.declared.sets.ByteSet.{ByteSet}
use Rattle.rx_term.specs.declared.terms.Term.{Term, Empty, One}
use Rattle.rx_term.specs.Term.{cat, alt}
use Rattle.rx_term.specs.Pattern.{kept, repeated, multiplied, IsClass, Spells, Level, Atom, Piece, Cats, Alts, IsFront, flag}
use Rattle.rx_term.specs.Pattern.IsSingle.{plain}
use Rattle.rx_term.specs.Pattern.Spells.{punct, class, group, plain_group, once, times, empty, piece, cats, choice, alts}
use Rattle.rx_parse.specs.declared.bytes.Bytes.TheVariants.{Range, Both, Without}
use Rattle.rx_parse.specs.declared.made.Made.{Made}
use Rattle.rx_parse.specs.declared.made.Frame.{Frame}
use Rattle.rx_parse.specs.declared.reader.Reader.{Reader}
use Rattle.rx_parse.specs.declared.place.Class.{Class}
use Rattle.rx_parse.specs.declared.place.Class.TheVariants.{Fresh, Negated, Single, Item, Ranged, Dashed, Slashed, RangeSlashed}
use Rattle.rx_parse.specs.declared.place.Braces.{Braces}
use Rattle.rx_parse.specs.declared.place.Place.{Place}
use Rattle.rx_parse.specs.declared.place.Place.TheVariants.{Begin, Begun, Ready, Atomic, Counted, Ended, Escaped, Opened, Marked, Flagging, InClass, InBraces}
use Rattle.rx_parse.specs.Sets.{holds}
use Rattle.rx_parse.proofs.Held.{IsMade, ArePieces, AreBranches, IsFrame, IsOpening, AreOuter, IsClassFront, IsBracesFront, IsPending, IsStart, Reads, IsClosed}
use Rattle.rx_parse.proofs.ByteTests.{set_by, fold_set}
use Rattle.rx_parse.proofs.ClassFronts.{single_small, awaits_fresh, awaits_negated, caret_fresh, caret_negated, front_single, front_flush, front_ranged_flush, front_range_escaped, front_escaped, front_closed, front_dash_closed}
use Rattle.rx_parse.proofs.BraceFronts.{braces_end}

-- the text is an expression of the level
abbrev pub Spelled : Bool → Level → List ℕ → Type 0
Spelled f l w = (t : Term) × (k : ℕ) × Spells f l w t k

made_spelled : (f : Bool) (l : Level) (w : List ℕ) (m : Made) → IsMade l f w m → Spelled f l w
made_spelled f l w m h = (h.0, m.positions, h.1)

along : (f : Bool) (l : Level) (v w : List ℕ) → v ≡ w → Spelled f l v → Spelled f l w
along f l v w e h = subst (Spelled f l) e h

-- ---- what was read, before what is to come

one_more : (f : Bool) (v z : List ℕ) → Spelled f Piece v → Spelled f Cats z → Spelled f Cats (v ++ z)
one_more f v [] h g = along f Cats v (v ++ []) (sym (append-nil v)) (h.0, h.1, piece h.2)
one_more f v (b ∷ z) h g = (cat h.0 g.0, kept (h.1 + g.1), cats v (b ∷ z) refl (λ e. no e) h.2 g.2)
  where
    no : b ∷ z ≡ [] → ⊥
    no e = cc

pieces_before : (f : Bool) (w z : List ℕ) (ms : List Made) → ArePieces f w ms → Spelled f Cats z → Spelled f Cats (w ++ z)
pieces_before f w z [] e h = along f Cats z (w ++ z) (sym (ap (λ y. y ++ z) e)) h
pieces_before f w z (m ∷ ms) (a, b, e, p, r) h =
    along f Cats (a ++ (b ++ z)) (w ++ z) (sym (ap (λ y. y ++ z) e ∙ append_assoc a b z))
    (one_more f a (b ++ z) (made_spelled f Piece a m p) (pieces_before f b z ms r h))

branches_before : (f : Bool) (w z : List ℕ) (ms : List Made) → AreBranches f w ms → Spelled f Alts z → Spelled f Alts (w ++ z)
branches_before f w z [] e h = along f Alts z (w ++ z) (sym (ap (λ y. y ++ z) e)) h
branches_before f w z (m ∷ ms) (a, b, e, p, r) h =
    let g = branches_before f b z ms r h in
    along f Alts (a ++ 124 ∷ (b ++ z)) (w ++ z) (sym (ap (λ y. y ++ z) e ∙ append_assoc a (124 ∷ b) z))
    (alt p.0 g.0, kept (m.positions + g.1), alts a (b ++ z) refl p.1 g.2)

pub frame_before : (f : Bool) (w z : List ℕ) (fr : Frame) → IsFrame f w fr → Spelled f Cats z → Spelled f Alts (w ++ z)
frame_before f w z fr (a, b, e, p, r) h =
    let g = pieces_before f b z fr.pieces r h in
    along f Alts (a ++ (b ++ z)) (w ++ z) (sym (ap (λ y. y ++ z) e ∙ append_assoc a b z))
    (branches_before f a (b ++ z) fr.branches p (g.0, g.1, choice g.2))

-- ---- open groups are closed

grouped : (f : Bool) (o v : List ℕ) → IsOpening o → Spelled f Alts v → Spelled f Cats (o ++ (v ++ 41 ∷ []))
grouped f o v (inl e) h =
    along f Cats (40 ∷ (v ++ 41 ∷ [])) (o ++ (v ++ 41 ∷ [])) (sym (ap (λ y. y ++ (v ++ 41 ∷ [])) e)) (h.0, h.1, piece (once (group v refl h.2)))
grouped f o v (inr e) h =
    along f Cats (40 ∷ 63 ∷ 58 ∷ (v ++ 41 ∷ [])) (o ++ (v ++ 41 ∷ [])) (sym (ap (λ y. y ++ (v ++ 41 ∷ [])) e)) (h.0, h.1, piece (once (plain_group v refl h.2)))

closed_groups : (f : Bool) (w v : List ℕ) (frs : List Frame) → AreOuter f w frs → Spelled f Alts v → (z : List ℕ) × Spelled f Alts (w ++ (v ++ z))
closed_groups f w v [] e h = ([], along f Alts v (w ++ (v ++ [])) (sym (ap (λ y. y ++ (v ++ [])) e ∙ append-nil v)) h)
closed_groups f w v (fr ∷ frs) (a, o, b, e, p, q, r) h =
    let g = closed_groups f b v frs r h in
    let s = frame_before f a (o ++ ((b ++ (v ++ g.0)) ++ 41 ∷ [])) fr p (grouped f o (b ++ (v ++ g.0)) q g.1) in
    let u : a ++ (o ++ ((b ++ (v ++ g.0)) ++ 41 ∷ [])) ≡ w ++ (v ++ (g.0 ++ 41 ∷ [])) =
    ap (λ y. a ++ (o ++ y)) (append_assoc b (v ++ g.0) (41 ∷ []) ∙ ap (λ y. b ++ y) (append_assoc v g.0 (41 ∷ [])))
    ∙ sym (ap (λ y. y ++ (v ++ (g.0 ++ 41 ∷ []))) e
    ∙ (append_assoc a (o ++ b) (v ++ (g.0 ++ 41 ∷ [])) ∙ ap (λ y. a ++ y) (append_assoc o b (v ++ (g.0 ++ 41 ∷ []))))) in
    (g.0 ++ 41 ∷ [], along f Alts _ _ u s)

-- what is left of the last piece is ended, and then the open groups
pub front_of : (r : Reader) (w : List ℕ) (x : Reads r w) → (c : List ℕ) → Spelled r.fold Cats (x.rest ++ c) → IsFront w
front_of r w x c h =
    let a = frame_before r.fold x.inside (x.rest ++ c) r.top x.top h in
    let g = closed_groups r.fold x.around (x.inside ++ (x.rest ++ c)) r.outer x.outer a in
    let body = x.around ++ ((x.inside ++ (x.rest ++ c)) ++ g.0) in
    let e : w ++ (c ++ g.0) ≡ flag r.fold ++ (x.begins.0 ++ (body ++ [])) =
    ap (λ y. y ++ (c ++ g.0)) (x.is ∙ ap (λ y. y ++ (x.around ++ (x.inside ++ x.rest))) x.begins.1)
    ∙ (append_assoc (flag r.fold ++ x.begins.0) (x.around ++ (x.inside ++ x.rest)) (c ++ g.0)
    ∙ (append_assoc (flag r.fold) x.begins.0 ((x.around ++ (x.inside ++ x.rest)) ++ (c ++ g.0))
    ∙ ap (λ y. flag r.fold ++ (x.begins.0 ++ y))
    (append_assoc x.around (x.inside ++ x.rest) (c ++ g.0)
    ∙ (ap (λ y. x.around ++ y)
    (append_assoc x.inside x.rest (c ++ g.0)
    ∙ (ap (λ y. x.inside ++ y) (sym (append_assoc x.rest c g.0)) ∙ sym (append_assoc x.inside (x.rest ++ c) g.0)))
    ∙ sym (append-nil body))))) in
    (c ++ g.0, g.1.0, g.1.1, (r.fold, x.begins.0, body, [], e, x.begins.2, inl refl, g.1.2))

-- ---- classes are ended

-- some text ends the class
abbrev pub ClassEnds : Bool → List ℕ → Type 0
ClassEnds f p = (c : List ℕ) × (s : ByteSet) × IsClass f (p ++ c) s

class_along : (f : Bool) (p v : List ℕ) → ClassEnds f (p ++ v) → ClassEnds f p
class_along f p v h = (v ++ h.0, h.1, subst (λ y. IsClass f y h.1) (append_assoc p v h.0) h.2)

closing_set : (n : Bool) (s : ByteSet) → (r : ByteSet) × IsClosed n s r
closing_set false s = (s, refl)
closing_set true s = set_by (holds (Without s))

item_ends : (f n bare : Bool) (s : ByteSet) (p : List ℕ) → IsClassFront f n s (Item bare) p → ClassEnds f p
item_ends f n bare s p x =
    let r = closing_set n s in
    (93 ∷ [], r.0, front_closed f n bare s r.0 p x r.1)

single_ends : (f n bare : Bool) (a : ℕ) (s : ByteSet) (p : List ℕ) → IsClassFront f n s (Single a bare) p → ClassEnds f p
single_ends f n bare a s p x =
    let u = set_by (holds (Range f a a)) in
    let r = set_by (holds (Both s u.0)) in
    item_ends f n bare r.0 p (front_flush f n bare a s u.0 r.0 p x u.1 r.1)

dash_ends : (f n : Bool) (s : ByteSet) (p : List ℕ) → IsClassFront f n s Dashed p → ClassEnds f p
dash_ends f n s p x =
    let u = set_by (holds (Range false 45 45)) in
    let t = set_by (holds (Both s u.0)) in
    let r = closing_set n t.0 in
    (93 ∷ [], r.0, front_dash_closed f n s u.0 t.0 r.0 p x u.1 t.1 r.1)

class_end : (f n : Bool) (s : ByteSet) (c : Class) (p : List ℕ) → IsClassFront f n s c p → ClassEnds f p
class_end f n s Fresh p x =
    class_along f p (97 ∷ [])
    (single_ends f n false 97 s (p ++ 97 ∷ [])
    (front_single f n true s Fresh p 97 (awaits_fresh f n s p x) (caret_fresh f n s p 97 x (λ e. let k : ⊥ = omega arith in k))
    (plain (omega arith, omega arith) (λ e. let k : ⊥ = omega arith in k) (λ e. let k : ⊥ = omega arith in k) (λ e. let k : ⊥ = omega arith in k)) tt refl))
class_end f n s Negated p x =
    class_along f p (97 ∷ [])
    (single_ends f n false 97 s (p ++ 97 ∷ [])
    (front_single f n true s Negated p 97 (awaits_negated f n s p x) (caret_negated f n s p 97 x)
    (plain (omega arith, omega arith) (λ e. let k : ⊥ = omega arith in k) (λ e. let k : ⊥ = omega arith in k) (λ e. let k : ⊥ = omega arith in k)) tt refl))
class_end f n s (Single a bare) p x = single_ends f n bare a s p x
class_end f n s (Item bare) p x = item_ends f n bare s p x
class_end f n s (Ranged a) p x =
    let u = set_by (holds (Range f a a)) in
    let r = set_by (holds (Both s u.0)) in
    dash_ends f n r.0 p (front_ranged_flush f n a s u.0 r.0 p x u.1 r.1)
class_end f n s Dashed p x = dash_ends f n s p x
class_end f n s Slashed p x =
    class_along f p (46 ∷ []) (single_ends f n false 46 s (p ++ 46 ∷ []) (front_escaped f n 46 s p x (inl (omega arith, omega arith))))
class_end f n s (RangeSlashed a) p x =
    let u = set_by (holds (Range f a 126)) in
    let r = set_by (holds (Both s u.0)) in
    let y = front_range_escaped f n a 126 s u.0 r.0 p x (inr (inr (inr (omega arith, omega arith)))) (single_small _ _ a x.items.5) u.1 r.1 in
    class_along f p (126 ∷ []) (item_ends f n false r.0 (p ++ 126 ∷ []) y)

-- ---- every place

atom_piece : (f : Bool) (v : List ℕ) → Spelled f Atom v → Spelled f Cats v
atom_piece f v h = (h.0, h.1, piece (once h.2))

nothing_more : (r : Reader) (w : List ℕ) (x : Reads r w) → x.rest ≡ [] → IsFront w
nothing_more r w x e = front_of r w x [] (along r.fold Cats [] (x.rest ++ []) (sym (append-nil x.rest ∙ e)) (Empty, 1, empty))

-- what is pending is ended by the text
with_end : (r : Reader) (w : List ℕ) (x : Reads r w) (c v : List ℕ) → x.rest ++ c ≡ v → Spelled r.fold Cats v → IsFront w
with_end r w x c v e h = front_of r w x c (along r.fold Cats v (x.rest ++ c) (sym e) h)

dot_set : (f : Bool) → Spelled f Atom (92 ∷ 46 ∷ [])
dot_set f = let s = set_by (holds (Range f 46 46)) in (One s.0, 1, punct (inl (omega arith, omega arith)) (fold_set f 46 s.0 s.1))

nothing : (f : Bool) → Spelled f Alts []
nothing f = (Empty, 1, choice empty)

ended_front : (r : Reader) (w : List ℕ) (x : Reads r w) → (x.rest ≡ 36 ∷ []) × (r.outer ≡ []) → IsFront w
ended_front r w x h =
    let a : x.around ≡ [] = subst (AreOuter r.fold x.around) h.1 x.outer in
    let s = frame_before r.fold x.inside [] r.top x.top (Empty, 1, empty) in
    let e : w ++ [] ≡ flag r.fold ++ (x.begins.0 ++ ((x.inside ++ []) ++ 36 ∷ [])) =
    append-nil w
    ∙ (x.is
    ∙ (ap (λ y. y ++ (x.around ++ (x.inside ++ x.rest))) x.begins.1
    ∙ (append_assoc (flag r.fold) x.begins.0 (x.around ++ (x.inside ++ x.rest))
    ∙ ap (λ y. flag r.fold ++ (x.begins.0 ++ y))
    (ap (λ y. y ++ (x.inside ++ x.rest)) a ∙ (ap (λ y. x.inside ++ y) h.0 ∙ ap (λ y. y ++ 36 ∷ []) (sym (append-nil x.inside))))))) in
    ([], s.0, s.1, (r.fold, x.begins.0, x.inside ++ [], 36 ∷ [], e, x.begins.2, inr refl, s.2))

flag_front : (w : List ℕ) → w ≡ 40 ∷ 63 ∷ 105 ∷ [] → IsFront w
flag_front w e = (41 ∷ [], Empty, 1, (true, [], [], [], ap (λ y. y ++ 41 ∷ []) e, inl refl, inl refl, choice empty))

class_front : (r : Reader) (w : List ℕ) (x : Reads r w) (c : Class) → IsClassFront r.fold r.negated r.set c x.rest → IsFront w
class_front r w x c h =
    let g = class_end r.fold r.negated r.set c x.rest h in
    with_end r w x g.0 (x.rest ++ g.0) refl (One g.1, 1, piece (once (class g.2)))

braces_front : (r : Reader) (w : List ℕ) (x : Reads r w) (c : Braces) →
    (v z : List ℕ) × (x.rest ≡ v ++ z) × IsMade Atom r.fold v r.pending × IsBracesFront c z → IsFront w
braces_front r w x c (v, z, e, m, h) =
    let g = braces_end c z h in
    with_end r w x g.0 (v ++ (z ++ g.0)) (ap (λ y. y ++ g.0) e ∙ append_assoc v z g.0)
    (repeated g.1 m.0, multiplied g.1 r.pending.positions, piece (times v (z ++ g.0) g.1 (inl refl) m.1 g.2))

at_place : (r : Reader) (w : List ℕ) (x : Reads r w) (p : Place) → IsPending r p x.rest → IsStart r.fold p w → IsFront w
at_place r w x Begin h s = nothing_more r w x h
at_place r w x Begun h s = nothing_more r w x h
at_place r w x Ready h s = nothing_more r w x h
at_place r w x Atomic h s = with_end r w x [] x.rest (append-nil x.rest) (atom_piece r.fold x.rest (made_spelled r.fold Atom x.rest r.pending h))
at_place r w x Counted h s = with_end r w x [] x.rest (append-nil x.rest) (h.0.0, r.pending.positions, piece h.0.1)
at_place r w x Ended h s = ended_front r w x h
at_place r w x Escaped h s = with_end r w x (46 ∷ []) (92 ∷ 46 ∷ []) (ap (λ y. y ++ 46 ∷ []) h) (atom_piece r.fold (92 ∷ 46 ∷ []) (dot_set r.fold))
at_place r w x (Opened first) h s =
    with_end r w x (41 ∷ []) (40 ∷ ([] ++ 41 ∷ [])) (ap (λ y. y ++ 41 ∷ []) h) (grouped r.fold (40 ∷ []) [] (inl refl) (nothing r.fold))
at_place r w x (Marked first) h s =
    with_end r w x (58 ∷ 41 ∷ []) (40 ∷ 63 ∷ 58 ∷ ([] ++ 41 ∷ [])) (ap (λ y. y ++ 58 ∷ 41 ∷ []) h) (grouped r.fold (40 ∷ 63 ∷ 58 ∷ []) [] (inr refl) (nothing r.fold))
at_place r w x Flagging h s = flag_front w s
at_place r w x (InClass c) h s = class_front r w x c h
at_place r w x (InBraces c) h s = braces_front r w x c h

pub viable : (r : Reader) (w : List ℕ) → Reads r w → IsFront w
viable r w x = at_place r w x r.place x.pending x.start
