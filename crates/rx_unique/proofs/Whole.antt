-- A text has one answer by the grammar.
use Rattle.std.proofs.Common.{◌≡◌, ℕ, ◌≤◌, Bool, true, false, ◌⊎◌, inl, inr, List, [], ◌∷◌, ◌++◌, Option, Some, None, Ok, Err, refl, sym, ◌∙◌, ap, subst, append_assoc, arith}
use Rattle.rx_term.specs.declared.terms.Term.{Term}
use Rattle.rx_term.specs.Pattern.{Alts, flag, IsPattern, IsFaultAt, IsOutside}
use Rattle.rx_parse.specs.declared.fault.RxFault.{RxFault}
use Rattle.rx_parse.specs.declared.fault.RxFault.TheVariants.{Syntax, NotInSubset, TooLarge, OutOfMemory}
use Rattle.rx_parse.specs.declared.made.Made.{Made}
use Rattle.rx_parse.specs.declared.made.Frame.{Frame}
use Rattle.rx_parse.specs.declared.reader.Reader.{Reader}
use Rattle.rx_parse.specs.declared.place.Place.{Place}
use Rattle.rx_parse.specs.declared.place.Place.TheVariants.{Begin, Begun, Ready, Atomic, Counted, Ended, Escaped, Opened, Marked, Flagging, InClass, InBraces}
use Rattle.rx_parse.specs.Answer.{made_one, no_bytes, no_frame, frame_made, new_reader, whole_at}
use Rattle.rx_parse.specs.Results.{Answer, Explains, IsParsed, IsAnswer}
use Rattle.rx_parse.proofs.Machine.{IsOpen}
use Rattle.rx_parse.proofs.Held.{Stands}
use Rattle.rx_unique.proofs.Reading.{read, read_through, IsFor, settled, Awaits, dollar_reads}
use Rattle.rx_unique.proofs.Levels.{choice_with, spells_makes}

-- ---- whole patterns

start : Option Reader
start = Some (new_reader false Begin)

-- what the text behind which the reader stands spells
abbrev whole_of : Option Reader → Option Made
whole_of None = None
whole_of (Some r) = whole_at r.place r.outer r

-- what comes before the pattern's body leads to where a piece may begin
head_reads : (f : Bool) (front : List ℕ) → (front ≡ []) ⊎ (front ≡ 94 ∷ []) → (s : Reader) × (read start (flag f ++ front) ≡ Some s) × Awaits f [] no_frame s
unfolding start
head_reads false front (inl e) = (new_reader false Begin, ap (read start) e, (tt, made_one no_bytes, false, no_bytes, refl))
head_reads false front (inr e) = (new_reader false Ready, ap (read start) e, (tt, made_one no_bytes, false, no_bytes, refl))
head_reads true front (inl e) = (new_reader true Begun, ap (λ v. read start (flag true ++ v)) e, (tt, made_one no_bytes, false, no_bytes, refl))
head_reads true front (inr e) = (new_reader true Ready, ap (λ v. read start (flag true ++ v)) e, (tt, made_one no_bytes, false, no_bytes, refl))

opened_some : (o : List Frame) (fr : Frame) → o ++ fr ∷ [] ≡ [] → ⊥
opened_some [] fr e = cc
opened_some (x ∷ o) fr e = cc

whole_here : (p : Place) (r : Reader) (fr : Frame) → IsOpen p → (settled p r).outer ≡ [] → (settled p r).top ≡ fr → whole_at p r.outer r ≡ Some (frame_made fr)
whole_here Begin r fr o e t = ap (λ x. whole_at Begin x r) e ∙ ap (λ x. Some (frame_made x)) t
whole_here Begun r fr o e t = ap (λ x. whole_at Begun x r) e ∙ ap (λ x. Some (frame_made x)) t
whole_here Ready r fr o e t = ap (λ x. whole_at Ready x r) e ∙ ap (λ x. Some (frame_made x)) t
whole_here Atomic r fr o e t = ap (λ x. whole_at Atomic x r) e ∙ ap (λ x. Some (frame_made x)) t
whole_here Counted r fr o e t = ap (λ x. whole_at Counted x r) e ∙ ap (λ x. Some (frame_made x)) t
whole_here (Opened first) r fr o e t = absurd (opened_some r.outer r.top e)
whole_here Ended r fr o e t = absurd o
whole_here Escaped r fr o e t = absurd o
whole_here (Marked first) r fr o e t = absurd o
whole_here Flagging r fr o e t = absurd o
whole_here (InClass c) r fr o e t = absurd o
whole_here (InBraces c) r fr o e t = absurd o

tail_reads : (f : Bool) (fr : Frame) (s : Reader) (back : List ℕ) → Awaits f [] fr s → (back ≡ []) ⊎ (back ≡ 36 ∷ []) → whole_of (read (Some s) back) ≡ Some (frame_made fr)
tail_reads f fr s back (o, m, n, u, g) (inl e) =
    ap (λ x. whole_of (read (Some s) x)) e ∙ whole_here s.place s fr o (ap (λ x. x.outer) g) (ap (λ x. x.top) g)
tail_reads f fr s back h (inr e) =
    let d = dollar_reads f [] fr s h in
    ap (λ x. whole_of (read (Some s) x)) e ∙ ap whole_of d.3

-- the reader makes what a pattern spells
pattern_makes : (w : List ℕ) (t : Term) (k : ℕ) → IsPattern w t k → (m : Made) × (whole_of (read start w) ≡ Some m) × IsFor m t k
pattern_makes w t k (f, front, v, back, e, a, b, s) =
    let h = head_reads f front a in
    let (cs, ms, r, g, x, i) = spells_makes f Alts v t k s [] [] h.0 h.2 in
    let l : read start w ≡ read (Some r) back =
    ap (read start) e
    ∙ (ap (read start) (sym (append_assoc (flag f) front (v ++ back))) ∙ read_through (flag f ++ front) (v ++ back) start _ _ h.1 (read_through v back (Some h.0) _ _ g refl)) in
    (frame_made (choice_with cs ms), ap whole_of l ∙ tail_reads f (choice_with cs ms) r back x b, i)

-- ---- one answer

made_in : Made → Option Made → Made
made_in m None = m
made_in m (Some n) = n

same_made : (m n : Made) → Some m ≡ Some n → m ≡ n
unfolding made_in
same_made m n e = ap (made_in m) e

same_term : (o : Option Term) (t u : Term) (j k : ℕ) → Stands o t j → Stands o u k → k ≤ 4000 → t ≡ u
same_term (Some x) t u j k a b l = sym a ∙ b
same_term None t u j k a b l = absurd (omega arith)

-- two readings of a pattern have one number of positions, and one term where that number is allowed
one_pattern : (w : List ℕ) (t u : Term) (j k : ℕ) → IsPattern w t j → IsPattern w u k → (j ≡ k) × (k ≤ 4000 → t ≡ u)
one_pattern w t u j k p q =
    let (m, e, a) = pattern_makes w t j p in
    let (n, g, b) = pattern_makes w u k q in
    let h : n ≡ m = same_made n m (sym g ∙ e) in
    let c = subst (λ x. IsFor x u k) h b in
    (sym a.0 ∙ c.0, same_term m.term t u j k a.1 c.1)

same_offset : (w : List ℕ) (a b : ℕ) → IsFaultAt w a → IsFaultAt w b → a ≡ b
same_offset w a b h g = omega (arith, h.longest b g.within g.front, g.longest a h.within h.front)

one_fault : (w : List ℕ) (e g : RxFault) → Explains w e → Explains w g → e ≡ g
one_fault w (Syntax a) (Syntax b) h k = ap Syntax (same_offset w a b h.0 k.0)
one_fault w (Syntax a) (NotInSubset b) h k = absurd (h.1 (subst (IsOutside w) (sym (same_offset w a b h.0 k.0)) k.1))
one_fault w (Syntax a) (TooLarge k) h (t, p, l) = absurd (h.0.none t k p)
one_fault w (NotInSubset a) (Syntax b) h k = absurd (k.1 (subst (IsOutside w) (same_offset w a b h.0 k.0) h.1))
one_fault w (NotInSubset a) (NotInSubset b) h k = ap NotInSubset (same_offset w a b h.0 k.0)
one_fault w (NotInSubset a) (TooLarge k) h (t, p, l) = absurd (h.0.none t k p)
one_fault w (TooLarge j) (Syntax b) (t, p, l) h = absurd (h.0.none t j p)
one_fault w (TooLarge j) (NotInSubset b) (t, p, l) h = absurd (h.0.none t j p)
one_fault w (TooLarge j) (TooLarge k) (t, p, l) (u, q, m) = ap TooLarge (one_pattern w t u j k p q).0
one_fault w OutOfMemory g h k = absurd h
one_fault w e OutOfMemory h k = absurd k

no_fault : (w : List ℕ) (t : Term) (e : RxFault) → IsParsed w t → Explains w e → ⊥
no_fault w t (Syntax a) (k, p, l) h = h.0.none t k p
no_fault w t (NotInSubset a) (k, p, l) h = h.0.none t k p
no_fault w t (TooLarge j) (k, p, l) (u, q, m) = let e = (one_pattern w t u k j p q).0 in omega arith
no_fault w t OutOfMemory h g = g

pub one_answer : (w : List ℕ) (a b : Answer) → IsAnswer w a → IsAnswer w b → a ≡ b
one_answer w (Ok t) (Ok u) (j, p, l) (k, q, m) = ap Ok ((one_pattern w t u j k p q).1 m)
one_answer w (Ok t) (Err e) h g = absurd (no_fault w t e h g)
one_answer w (Err e) (Ok t) h g = absurd (no_fault w t e g h)
one_answer w (Err e) (Err g) h k = ap Err (one_fault w e g h k)
