-- The machine reads each pattern to its end.
use Rattle.std.proofs.Common.{◌≡◌, ℕ, zero, suc, Bool, true, false, ◌||◌, ◌⊎◌, inl, inr, List, [], ◌∷◌, ◌++◌, Some, None, refl, sym, ◌∙◌, ap}
use Rattle.rx_term.specs.declared.terms.Term.{Term}
use Rattle.rx_term.specs.Pattern.{IsLiteral, IsFront, IsPattern, Spells, Level, Atom, Piece, Cats, Alts, flag}
use Rattle.rx_term.specs.Pattern.Spells.{literal, dot, punct, escape, class, group, plain_group, once, times, empty, piece, cats, choice, alts}
use Rattle.rx_parse.specs.declared.place.Kind.TheVariants.{Literal}
use Rattle.rx_parse.specs.declared.place.Place.{Place}
use Rattle.rx_parse.specs.declared.place.Place.TheVariants.{Begin, Begun, Ready, Atomic, Counted, Ended, Escaped, Opened, Marked, Flagging, InClass, InBraces}
use Rattle.rx_parse.specs.Kinds.{is_punct, is_set_letter}
use Rattle.rx_parse.proofs.Machine.{next, run, IsOpen, is_end, IsAccepted}
use Rattle.rx_parse.proofs.Runs.{run_none, run_append, run_through, or_left, or_right, punct_true, letter_true, literal_kind, open_next}
use Rattle.rx_parse.proofs.Classes.{pick_true, class_run}
use Rattle.rx_parse.proofs.Counts.{times_run}

-- ---- single bytes

literal_step : (d : ℕ) (p : Place) (b : ℕ) → IsOpen p → IsLiteral b → next d p b ≡ Some (d, Atomic)
literal_step d p b o h = open_next d p b Literal (Some (d, Atomic)) o (literal_kind b h) (refl, refl, refl, refl, refl, λ first. refl)

dot_step : (d : ℕ) (p : Place) → IsOpen p → next d p 46 ≡ Some (d, Atomic)
dot_step d p o = open_next d p 46 _ (Some (d, Atomic)) o refl (refl, refl, refl, refl, refl, λ first. refl)

slash_step : (d : ℕ) (p : Place) → IsOpen p → next d p 92 ≡ Some (d, Escaped)
slash_step d p o = open_next d p 92 _ (Some (d, Escaped)) o refl (refl, refl, refl, refl, refl, λ first. refl)

bar_step : (d : ℕ) (p : Place) → IsOpen p → next d p 124 ≡ Some (d, Ready)
bar_step d p o = open_next d p 124 _ (Some (d, Ready)) o refl (refl, refl, refl, refl, refl, λ first. refl)

close_step : (d : ℕ) (p : Place) → IsOpen p → next (suc d) p 41 ≡ Some (d, Atomic)
close_step d p o = open_next (suc d) p 41 _ (Some (d, Atomic)) o refl (refl, refl, refl, refl, refl, λ first. refl)

dollar_step : (p : Place) → IsOpen p → next zero p 36 ≡ Some (zero, Ended)
dollar_step p o = open_next zero p 36 _ (Some (zero, Ended)) o refl (refl, refl, refl, refl, refl, λ first. refl)

open_step : (d : ℕ) (p : Place) → IsOpen p → (first : Bool) × (next d p 40 ≡ Some (suc d, Opened first))
open_step d Begin o = (true, refl)
open_step d Begun o = (false, refl)
open_step d Ready o = (false, refl)
open_step d Atomic o = (false, refl)
open_step d Counted o = (false, refl)
open_step d (Opened first) o = (false, refl)
open_step d Ended o = absurd o
open_step d Escaped o = absurd o
open_step d (Marked first) o = absurd o
open_step d Flagging o = absurd o
open_step d (InClass c) o = absurd o
open_step d (InBraces c) o = absurd o

escape_run : (d b : ℕ) (p : Place) → IsOpen p → is_punct b || is_set_letter b ≡ true → run (Some (d, p)) (92 ∷ b ∷ []) ≡ Some (d, Atomic)
escape_run d b p o h = ap (λ m. run m (b ∷ [])) (slash_step d p o) ∙ pick_true (is_punct b || is_set_letter b) _ _ h

-- ---- the levels of the grammar

-- the text leads from where a piece may begin to where one may begin
abbrev pub Passes : List ℕ → Type 0
Passes w = (d : ℕ) (p : Place) → IsOpen p → (q : Place) × IsOpen q × (run (Some (d, p)) w ≡ Some (d, q)) × (is_end p ≡ true → is_end q ≡ true)

abbrev pub ReadsTo : Level → List ℕ → Type 0
ReadsTo Atom w = (d : ℕ) (p : Place) → IsOpen p → run (Some (d, p)) w ≡ Some (d, Atomic)
ReadsTo Piece w = Passes w
ReadsTo Cats w = Passes w
ReadsTo Alts w = Passes w

passes_append : (w v z : List ℕ) → w ≡ v ++ z → Passes v → Passes z → Passes w
passes_append w v z e h k = λ d p o.
    let a = h d p o in
    let b = k d a.0 a.1 in
    (b.0, b.1, ap (run (Some (d, p))) e ∙ run_through v z (Some (d, p)) _ _ a.2 b.2, λ n. b.3 (a.3 n))

passes_bar : (z : List ℕ) → Passes z → Passes (124 ∷ z)
passes_bar z h = λ d p o.
    let b = h d Ready tt in
    (b.0, b.1, ap (λ m. run m z) (bar_step d p o) ∙ b.2, λ n. b.3 refl)

closes : (d : ℕ) (v : List ℕ) (p : Place) → IsOpen p → Passes v → run (Some (suc d, p)) (v ++ 41 ∷ []) ≡ Some (d, Atomic)
closes d v p o h =
    let a = h (suc d) p o in
    run_through v (41 ∷ []) (Some (suc d, p)) _ _ a.2 (close_step d a.0 a.1)

group_run : (w v : List ℕ) → w ≡ 40 ∷ (v ++ 41 ∷ []) → Passes v → ReadsTo Atom w
group_run w v e h = λ d p o.
    let s = open_step d p o in
    ap (run (Some (d, p))) e ∙ (ap (λ m. run m (v ++ 41 ∷ [])) s.1 ∙ closes d v (Opened s.0) tt h)

plain_group_run : (w v : List ℕ) → w ≡ 40 ∷ 63 ∷ 58 ∷ (v ++ 41 ∷ []) → Passes v → ReadsTo Atom w
plain_group_run w v e h = λ d p o.
    let s = open_step d p o in
    ap (run (Some (d, p))) e ∙ (ap (λ m. run m (63 ∷ 58 ∷ (v ++ 41 ∷ []))) s.1 ∙ closes d v Ready tt h)

-- behind an atom and a quantifier, with or without the mark that follows
times_passes : (w v z : List ℕ) → (w ≡ v ++ z) ⊎ (w ≡ v ++ (z ++ 63 ∷ [])) → ReadsTo Atom v → ((d : ℕ) → run (Some (d, Atomic)) z ≡ Some (d, Counted)) → Passes w
times_passes w v z (inl e) h k = λ d p o.
    (Counted, tt, ap (run (Some (d, p))) e ∙ run_through v z (Some (d, p)) _ _ (h d p o) (k d), λ n. refl)
times_passes w v z (inr e) h k = λ d p o.
    (Ready, tt, ap (run (Some (d, p))) e ∙ run_through v (z ++ 63 ∷ []) (Some (d, p)) _ _ (h d p o) (run_through z (63 ∷ []) (Some (d, Atomic)) _ _ (k d) refl), λ n. refl)

pub spells_run : (f : Bool) (l : Level) (w : List ℕ) (t : Term) (k : ℕ) → Spells f l w t k → ReadsTo l w
spells_run f l w t k (literal {a} h s) = λ d p o. literal_step d p a o h
spells_run f l w t k (dot s) = λ d p o. dot_step d p o
spells_run f l w t k (punct {a} h s) = λ d p o. escape_run d a p o (or_left (is_punct a) _ (punct_true a h))
spells_run f l w t k (escape {c} h s) = λ d p o. escape_run d c p o (or_right (is_punct c) _ (letter_true c h))
spells_run f l w t k (class {set} h) = λ d p o. class_run d f w set p h o
spells_run f l w t k (group v e h) = group_run w v e (spells_run f Alts v t k h)
spells_run f l w t k (plain_group v e h) = plain_group_run w v e (spells_run f Alts v t k h)
spells_run f l w t k (once h) = λ d p o. (Atomic, tt, spells_run f Atom w t k h d p o, λ n. refl)
spells_run f l w t k (times {t = u} {k = j} v z q e h g) = times_passes w v z e (spells_run f Atom v u j h) (λ d. times_run d z q g)
spells_run f l w t k empty = λ d p o. (p, o, refl, λ n. n)
spells_run f l w t k (piece h) = spells_run f Piece w t k h
spells_run f l w t k (cats {t = x} {u = y} {j = i} {k = n} v z e m h g) = passes_append w v z e (spells_run f Piece v x i h) (spells_run f Cats z y n g)
spells_run f l w t k (choice h) = spells_run f Cats w t k h
spells_run f l w t k (alts {t = x} {u = y} {j = i} {k = n} v z e h g) =
    passes_append w v (124 ∷ z) e (spells_run f Cats v x i h) (passes_bar z (spells_run f Alts z y n g))

-- ---- whole patterns

-- what comes before the pattern's body leads to where a piece may begin
head_run : (f : Bool) (front : List ℕ) → (front ≡ []) ⊎ (front ≡ 94 ∷ []) →
    (p : Place) × IsOpen p × (is_end p ≡ true) × (run (Some (zero, Begin)) (flag f ++ front) ≡ Some (zero, p))
head_run false front (inl e) = (Begin, tt, refl, ap (run (Some (zero, Begin))) e)
head_run false front (inr e) = (Ready, tt, refl, ap (run (Some (zero, Begin))) e)
head_run true front (inl e) = (Begun, tt, refl, ap (λ v. run (Some (zero, Begin)) (flag true ++ v)) e)
head_run true front (inr e) = (Ready, tt, refl, ap (λ v. run (Some (zero, Begin)) (flag true ++ v)) e)

tail_run : (p : Place) (back : List ℕ) → IsOpen p → is_end p ≡ true → (back ≡ []) ⊎ (back ≡ 36 ∷ []) → IsAccepted (run (Some (zero, p)) back)
tail_run p back o h (inl e) = (p, ap (run (Some (zero, p))) e, h)
tail_run p back o h (inr e) = (Ended, ap (run (Some (zero, p))) e ∙ dollar_step p o, refl)

pub pattern_run : (w : List ℕ) (t : Term) (k : ℕ) → IsPattern w t k → IsAccepted (run (Some (zero, Begin)) w)
pattern_run w t k (f, front, v, back, e, a, b, s) =
    let h = head_run f front a in
    let r = spells_run f Alts v t k s zero h.0 h.1 in
    let g = tail_run r.0 back r.1 (r.3 h.2) b in
    let c : run (Some (zero, Begin)) w ≡ run (Some (zero, r.0)) back =
    ap (run (Some (zero, Begin))) e
    ∙ (run_append (flag f) (front ++ (v ++ back)) (Some (zero, Begin))
    ∙ (run_append front (v ++ back) (run (Some (zero, Begin)) (flag f))
    ∙ (run_append v back (run (run (Some (zero, Begin)) (flag f)) front)
    ∙ ap (λ m. run (run m v) back) (sym (run_append (flag f) front (Some (zero, Begin))) ∙ h.3)
    ∙ ap (λ m. run m back) r.2))) in
    (g.0, c ∙ g.1, g.2)

-- the run on a front of a pattern lives
pub front_lives : (v : List ℕ) → IsFront v → run (Some (zero, Begin)) v ≡ None → ⊥
front_lives v (z, t, k, h) n =
    let r = pattern_run (v ++ z) t k h in
    let e = sym r.1 ∙ (run_append v z (Some (zero, Begin)) ∙ (ap (λ m. run m z) n ∙ run_none z)) in
    no (zero, r.0) e
  where
    no : (s : ℕ × Place) → Some s ≡ None → ⊥
    no s e = cc
