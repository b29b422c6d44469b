-- The computed answer is the grammar's.
use Rattle.std.proofs.Common.{◌≡◌, ℕ, zero, suc, ◌+◌, ◌<◌, ◌≤◌, Bool, true, false, cond, nat_lt, inl, inr, List, [], ◌∷◌, ◌++◌, length, take, slice_index, Option, Some, None, Err, refl, sym, ◌∙◌, ap, subst, append_assoc, append-nil, length-append, arith}
use Rattle.std.proofs.lemmas.Bool.Decides.{nat_tests}
use Rattle.rx_term.specs.declared.terms.Term.{Term}
use Rattle.rx_term.specs.Pattern.{IsFaultAt, Plain, place_of}
use Rattle.rx_parse.specs.declared.fault.RxFault.TheVariants.{Syntax, NotInSubset, TooLarge}
use Rattle.rx_parse.specs.declared.made.Made.{Made}
use Rattle.rx_parse.specs.declared.made.Frame.{Frame}
use Rattle.rx_parse.specs.declared.reader.Reader.{Reader}
use Rattle.rx_parse.specs.declared.place.Place.{Place}
use Rattle.rx_parse.specs.declared.place.Place.TheVariants.{Begin, Begun, Ready, Atomic, Counted, Ended, Escaped, Opened, Marked, Flagging, InClass, InBraces}
use Rattle.rx_parse.proofs.Machine.{Moved, run, begins, is_end, IsAccepted}
use Rattle.rx_parse.specs.Answer.{made_one, no_bytes, frame_made, new_reader, added, step_of, whole_at, term_or, made_answer, end_of, fault_at, onward, answer_from, answer}
use Rattle.rx_parse.proofs.Held.{is_behind_opening, depth, Reads, IsStep, IsWhole}
use Rattle.rx_parse.proofs.PlaceOf.{spot, run_spot}
use Rattle.rx_parse.specs.Results.{is_outside, Explains, IsAnswer}
use Rattle.rx_parse.proofs.Runs.{run_append, true_lt}
use Rattle.rx_parse.proofs.Viable.{viable}
use Rattle.rx_parse.proofs.Steps.{at, begin_reads, stands_at}
use Rattle.rx_parse.proofs.Faults.{take_front, stopped, unfinished, ready_whole, added_whole, ended_whole, explain_outside, explain_syntax, explain_end, parsed, large, large_none}
use Rattle.rx_parse.proofs.Exact.{frame_is}
use Rattle.rx_parse.proofs.ExactSteps.{step_is}

-- ---- the end of the text

-- what a reader tells at the end: a pattern, or that no pattern ends so
abbrev pub EndsAs : Reader → Option Made → Type 0
EndsAs r None = IsAccepted (stands_at r) → ⊥
EndsAs r (Some m) = (w : List ℕ) → Reads r w → IsWhole w m

abbrev place_in : Moved → Place
place_in None = Begin
place_in (Some s) = s.1

abbrev depth_in : Moved → ℕ
depth_in None = 0
depth_in (Some s) = s.0

open_group : (c : Bool) (x : Frame) (xs : List Frame) → cond c (suc (length (x ∷ xs))) (length (x ∷ xs)) ≡ 0 → ⊥
open_group true x xs e = let k : ⊥ = omega arith in k
open_group false x xs e = let k : ⊥ = omega arith in k

in_group : (r : Reader) (x : Frame) (xs : List Frame) → r.outer ≡ x ∷ xs → EndsAs r None
in_group r x xs e = λ a.
    open_group (is_behind_opening r.place) x xs
    (sym (ap (λ ys. cond (is_behind_opening r.place) (suc (length ys)) (length ys)) e) ∙ ap depth_in a.1)

no_end : (r : Reader) (p : Place) → r.place ≡ p → is_end p ≡ false → EndsAs r None
no_end r p e h = λ a. no (sym h ∙ (ap is_end (sym e ∙ ap place_in a.1) ∙ a.2))
  where
    no : false ≡ true → ⊥
    no g = cc

ends_as : (p : Place) (xs : List Frame) (r : Reader) → r.place ≡ p → r.outer ≡ xs → EndsAs r (whole_at p xs r)
ends_as p (x ∷ xs) r e o = in_group r x xs o
ends_as Begin [] r e o = ready_whole r (at r Ready) (frame_made r.top) refl o (inl e) (λ f v h. frame_is f v r.top h)
ends_as Begun [] r e o = ready_whole r (at r Ready) (frame_made r.top) refl o (inr (inl e)) (λ f v h. frame_is f v r.top h)
ends_as Ready [] r e o = ready_whole r (at r Ready) (frame_made r.top) refl o (inr (inr e)) (λ f v h. frame_is f v r.top h)
ends_as Atomic [] r e o =
    added_whole r (added r) (frame_made (added r).top) (made_one no_bytes, refl) o (inl e) (λ f v h. frame_is f v (added r).top h)
ends_as Counted [] r e o =
    added_whole r (added r) (frame_made (added r).top) (made_one no_bytes, refl) o (inr e) (λ f v h. frame_is f v (added r).top h)
ends_as Ended [] r e o = ended_whole r (frame_made r.top) e (λ f v h. frame_is f v r.top h)
ends_as Escaped [] r e o = no_end r Escaped e refl
ends_as (Opened first) [] r e o = no_end r (Opened first) e refl
ends_as (Marked first) [] r e o = no_end r (Marked first) e refl
ends_as Flagging [] r e o = no_end r Flagging e refl
ends_as (InClass c) [] r e o = no_end r (InClass c) e refl
ends_as (InBraces c) [] r e o = no_end r (InBraces c) e refl

not_more : (k : ℕ) → nat_lt 4000 k ≡ false → k ≤ 4000
not_more k g = grind (arith, nat_tests)

term_is : (w : List ℕ) (m : Made) (o : Option Term) → m.term ≡ o → m.positions ≤ 4000 → IsWhole w m → IsAnswer w (term_or o m.positions)
term_is w m (Some t) e l h = parsed w m t e l h
term_is w m None e l h = large_none w m e h

made_is : (w : List ℕ) (m : Made) → IsWhole w m → IsAnswer w (made_answer m)
made_is w m h = by_size (nat_lt 4000 m.positions) refl
  where
    by_size : (c : Bool) → nat_lt 4000 m.positions ≡ c → IsAnswer w (cond c (Err (TooLarge m.positions)) (term_or m.term m.positions))
    by_size true e = large w m (true_lt 4000 m.positions e) h
    by_size false e = term_is w m m.term refl (not_more m.positions e) h

end_is : (w : List ℕ) (r : Reader) (o : Option Made) → EndsAs r o → run begins w ≡ stands_at r → Reads r w → IsAnswer w (end_of o (length w))
end_is w r None h e x = explain_end w (unfinished w (viable r w x) (λ a. h (subst IsAccepted e a)))
end_is w r (Some m) h e x = made_is w m (h w x)

-- ---- the fault at a byte

index_behind : (v z : List ℕ) (b : ℕ) → slice_index (v ++ b ∷ z) (length v) ≡ b
index_behind [] z b = refl
index_behind (x ∷ v) z b = index_behind v z b

fault_is : (v z : List ℕ) (b : ℕ) (r : Reader) → run begins v ≡ stands_at r → IsFaultAt (v ++ b ∷ z) (length v) → Explains (v ++ b ∷ z) (fault_at r.place b (length v))
fault_is v z b r e f = by_kind (is_outside r.place b) refl
  where
    within : length v < length (v ++ b ∷ z)
    within = omega (arith, length-append v (b ∷ z))

    stands : place_of Plain (take (length v) (v ++ b ∷ z)) ≡ spot r.place
    stands = ap (place_of Plain) (take_front v (b ∷ z)) ∙ run_spot v zero (depth r) Begin r.place e

    by_kind : (c : Bool) → is_outside r.place b ≡ c → Explains (v ++ b ∷ z) (cond c (NotInSubset (length v)) (Syntax (length v)))
    by_kind true h = explain_outside r.place b (length v) h (v ++ b ∷ z) within (index_behind v z b) stands f
    by_kind false h = explain_syntax r.place b (length v) h (v ++ b ∷ z) within (index_behind v z b) stands f

-- ---- whole texts

-- the text from a reader on that has read its front
abbrev GoesOn : List ℕ → Type 0
GoesOn z = (v : List ℕ) (r : Reader) → run begins v ≡ stands_at r → Reads r v → IsAnswer (v ++ z) (answer_from z r (length v))

length_more : (v : List ℕ) (b : ℕ) → length (v ++ b ∷ []) ≡ length v + 1
length_more v b = omega (arith, length-append v (b ∷ []))

onward_is : (v z : List ℕ) (b : ℕ) (r : Reader) (o : Option Reader) → run begins v ≡ stands_at r → Reads r v → IsStep r b o → GoesOn z →
    IsAnswer (v ++ b ∷ z) (onward o (fault_at r.place b (length v)) (λ s. answer_from z s (length v + 1)))
onward_is v z b r None e x h g =
    fault_is v z b r e (stopped v z b (viable r v x) (run_append v (b ∷ []) begins ∙ (ap (λ m. run m (b ∷ [])) e ∙ h)))
onward_is v z b r (Some s) e x h g =
    subst (λ y. IsAnswer y (answer_from z s (length v + 1))) (append_assoc v (b ∷ []) z)
    (subst (λ n. IsAnswer ((v ++ b ∷ []) ++ z) (answer_from z s n)) (length_more v b)
    (g (v ++ b ∷ []) s (run_append v (b ∷ []) begins ∙ (ap (λ m. run m (b ∷ [])) e ∙ h.0)) (h.1 v x)))

goes_on : (z : List ℕ) → GoesOn z
goes_on [] = λ v r e x.
    subst (λ y. IsAnswer y (answer_from [] r (length v))) (sym (append-nil v)) (end_is v r (whole_at r.place r.outer r) (ends_as r.place r.outer r refl refl) e x)
goes_on (b ∷ z) = λ v r e x. onward_is v z b r (step_of r.place r b) e x (step_is r b) (goes_on z)

-- the computed answer is the grammar's
pub answer_is : (w : List ℕ) → IsAnswer w (answer w)
unfolding answer
answer_is w = goes_on w [] (new_reader false Begin) refl (begin_reads (new_reader false Begin) (made_one no_bytes, false, no_bytes, refl))
