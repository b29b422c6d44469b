-- The reader makes what the grammar spells, level by level.
use Rattle.std.proofs.Common.{◌≡◌, ◌≢◌, ℕ, ◌+◌, Bool, ◌⊎◌, inl, inr, List, [], ◌∷◌, ◌++◌, Some, refl, sym, ◌∙◌, ap, subst, append_assoc, append-nil}
use Rattle.rx_term.specs.declared.sets.ByteSet.{ByteSet}
use Rattle.rx_term.specs.declared.terms.Term.{Term, Empty, One}
use Rattle.rx_term.specs.Term.{cat, alt}
use Rattle.rx_term.specs.Pattern.{IsLiteral, IsAny, IsPunct, IsFold, IsSetLetter, IsEscapeSet, IsSetOf, IsClass, IsTimes, Times, kept, repeated, multiplied, Spells, Level, Atom, Piece, Cats, Alts}
use Rattle.rx_term.specs.Pattern.Spells.{literal, dot, punct, escape, class, group, plain_group, once, times, empty, piece, cats, choice, alts}
use Rattle.rx_parse.specs.declared.bytes.Bytes.TheVariants.{Any, Range, Escape}
use Rattle.rx_parse.specs.declared.made.Made.{Made}
use Rattle.rx_parse.specs.declared.made.Frame.{Frame}
use Rattle.rx_parse.specs.declared.reader.Reader.{Reader}
use Rattle.rx_parse.specs.declared.place.Place.TheVariants.{Ready, Atomic, Counted, Opened}
use Rattle.rx_parse.specs.Kinds.{is_punct, is_set_letter}
use Rattle.rx_parse.specs.Answer.{made_one, no_bytes, no_frame, set_with, row_made, choice_made, often_made}
use Rattle.rx_parse.proofs.Runs.{punct_true, letter_true, literal_kind}
use Rattle.rx_parse.proofs.Classes.{pick_true, pick_false}
use Rattle.rx_parse.proofs.ByteTests.{any_set, fold_set, escape_set}
use Rattle.rx_parse.proofs.Exact.{set_is, left_is_last}
use Rattle.rx_unique.proofs.Reading.{read, read_through, held, IsFor, Awaits, literal_reads, dot_reads, slash_reads, bar_reads, closing_reads, opening_reads}
use Rattle.rx_unique.proofs.Braces.{times_reads}
use Rattle.rx_unique.proofs.Items.{letter_no_punct}
use Rattle.rx_unique.proofs.Classes.{class_reads}
use Rattle.rx_unique.proofs.Parts.{one_for, joined_for, row_for, often_for}

-- the choice with these alternatives and pieces
abbrev pub choice_with : List Made → List Made → Frame
choice_with bs ps = record { branches = bs; pieces = ps }

-- ---- what the reader makes of a text on each level

abbrev MakesAtom : Bool → List ℕ → Term → ℕ → Type 0
MakesAtom f w t k =
    (o : List Frame) (fr : Frame) (r : Reader) → Awaits f o fr r → (m : Made) × (n : Bool) × (u : ByteSet) × (read (Some r) w ≡ Some (held f o fr m n u Atomic)) × IsFor m t k

-- one more piece
abbrev MakesPiece : Bool → List ℕ → Term → ℕ → Type 0
MakesPiece f w t k =
    (o : List Frame) (bs ps : List Made) (r : Reader) → Awaits f o (choice_with bs ps) r →
    (m : Made) × (s : Reader) × (read (Some r) w ≡ Some s) × Awaits f o (choice_with bs (ps ++ m ∷ [])) s × IsFor m t k

-- more pieces, and some where the text isn't empty
abbrev MakesCats : Bool → List ℕ → Term → ℕ → Type 0
MakesCats f w t k =
    (o : List Frame) (bs ps : List Made) (r : Reader) → Awaits f o (choice_with bs ps) r →
    (ms : List Made) × (s : Reader) × (read (Some r) w ≡ Some s) × Awaits f o (choice_with bs (ps ++ ms)) s × IsFor (row_made ms) t k × (w ≢ [] → ms ≢ [])

-- more alternatives, and the last one's pieces
abbrev MakesAlts : Bool → List ℕ → Term → ℕ → Type 0
MakesAlts f w t k =
    (o : List Frame) (bs : List Made) (r : Reader) → Awaits f o (choice_with bs []) r →
    (cs ms : List Made) × (s : Reader) × (read (Some r) w ≡ Some s) × Awaits f o (choice_with (bs ++ cs) ms) s × IsFor (choice_made cs (row_made ms)) t k

abbrev pub Makes : Level → Bool → List ℕ → Term → ℕ → Type 0
Makes Atom f w t k = MakesAtom f w t k
Makes Piece f w t k = MakesPiece f w t k
Makes Cats f w t k = MakesCats f w t k
Makes Alts f w t k = MakesAlts f w t k

-- ---- atoms

literal_makes : (f : Bool) (a : ℕ) (set : ByteSet) → IsLiteral a → IsSetOf (IsFold f a) set → MakesAtom f (a ∷ []) (One set) 1
literal_makes f a set h i = λ o fr r x.
    let b = literal_reads f o fr r a x (literal_kind a h) in
    (made_one (set_with (Range f a a)), b.1, b.2, b.3, one_for (IsFold f a) _ set (fold_set f a _ (set_is (Range f a a))) i)

dot_makes : (f : Bool) (set : ByteSet) → IsSetOf IsAny set → MakesAtom f (46 ∷ []) (One set) 1
dot_makes f set i = λ o fr r x.
    let b = dot_reads f o fr r x in
    (made_one (set_with Any), b.1, b.2, b.3, one_for IsAny _ set (any_set _ (set_is Any)) i)

punct_makes : (f : Bool) (a : ℕ) (set : ByteSet) → IsPunct a → IsSetOf (IsFold f a) set → MakesAtom f (92 ∷ a ∷ []) (One set) 1
punct_makes f a set h i = λ o fr r x.
    let b = slash_reads f o fr r x in (
      made_one (set_with (Range f a a)),
      b.1,
      b.2,
      read_through (92 ∷ []) (a ∷ []) (Some r) _ _ b.3 (pick_true (is_punct a) _ _ (punct_true a h)),
      one_for (IsFold f a) _ set (fold_set f a _ (set_is (Range f a a))) i,
    )

escape_makes : (f : Bool) (c : ℕ) (set : ByteSet) → IsSetLetter c → IsSetOf (IsEscapeSet c) set → MakesAtom f (92 ∷ c ∷ []) (One set) 1
escape_makes f c set h i = λ o fr r x.
    let b = slash_reads f o fr r x in (
      made_one (set_with (Escape c)),
      b.1,
      b.2,
      read_through (92 ∷ []) (c ∷ []) (Some r) _ _ b.3 (pick_false (is_punct c) _ _ (letter_no_punct c h) ∙ pick_true (is_set_letter c) _ _ (letter_true c h)),
      one_for (IsEscapeSet c) _ set (escape_set c _ h (set_is (Escape c))) i,
    )

-- behind the opening of a group its alternatives come, and then its end
closes : (f : Bool) (v : List ℕ) (t : Term) (k : ℕ) (o : List Frame) (fr : Frame) (r : Reader) → MakesAlts f v t k → Awaits f (o ++ fr ∷ []) no_frame r →
    (m : Made) × (n : Bool) × (u : ByteSet) × (read (Some r) (v ++ 41 ∷ []) ≡ Some (held f o fr m n u Atomic)) × IsFor m t k
closes f v t k o fr r h x =
    let (cs, ms, s, e, y, i) = h (o ++ fr ∷ []) [] r x in
    let b = closing_reads f (o ++ fr ∷ []) (choice_with cs ms) s y in (
      choice_made cs (row_made ms),
      b.1,
      b.2,
      read_through v (41 ∷ []) (Some r) _ _ e (b.3 ∙ sym (left_is_last (held f (o ++ fr ∷ []) (choice_with cs ms) b.0 b.1 b.2 Ready) (o ++ fr ∷ []) o fr _ refl refl)),
      i,
    )

group_makes : (f : Bool) (w v : List ℕ) (t : Term) (k : ℕ) → w ≡ 40 ∷ (v ++ 41 ∷ []) → MakesAlts f v t k → MakesAtom f w t k
group_makes f w v t k e h = λ o fr r x.
    let (first, (m, n, u, g)) = opening_reads f o fr r x in
    let c = closes f v t k o fr (held f o fr m n u (Opened first)) h (tt, m, n, u, refl) in
    (c.0, c.1, c.2, ap (read (Some r)) e ∙ read_through (40 ∷ []) (v ++ 41 ∷ []) (Some r) _ _ g c.3, c.4)

plain_group_makes : (f : Bool) (w v : List ℕ) (t : Term) (k : ℕ) → w ≡ 40 ∷ 63 ∷ 58 ∷ (v ++ 41 ∷ []) → MakesAlts f v t k → MakesAtom f w t k
plain_group_makes f w v t k e h = λ o fr r x.
    let (first, (m, n, u, g)) = opening_reads f o fr r x in
    let c = closes f v t k o fr (held f (o ++ fr ∷ []) no_frame m n u Ready) h (tt, m, n, u, refl) in
    (c.0, c.1, c.2, ap (read (Some r)) e ∙ read_through (40 ∷ []) (63 ∷ 58 ∷ (v ++ 41 ∷ [])) (Some r) _ _ g c.3, c.4)

class_makes : (f : Bool) (w : List ℕ) (set : ByteSet) → IsClass f w set → MakesAtom f w (One set) 1
class_makes f w set h = λ o fr r x.
    let b = class_reads f o fr r w set h x in
    (made_one set, b.0, b.1, b.2, (refl, refl))

-- ---- pieces

once_makes : (f : Bool) (w : List ℕ) (t : Term) (k : ℕ) → MakesAtom f w t k → MakesPiece f w t k
once_makes f w t k h = λ o bs ps r x.
    let (m, n, u, e, i) = h o (choice_with bs ps) r x in
    (m, held f o (choice_with bs ps) m n u Atomic, e, (tt, made_one no_bytes, n, u, refl), i)

times_makes : (f : Bool) (w v z : List ℕ) (t : Term) (k : ℕ) (q : Times) → (w ≡ v ++ z) ⊎ (w ≡ v ++ (z ++ 63 ∷ [])) → MakesAtom f v t k → IsTimes z q →
    MakesPiece f w (repeated q t) (multiplied q k)
times_makes f w v z t k q (inl e) h g = λ o bs ps r x.
    let (m, n, u, a, i) = h o (choice_with bs ps) r x in
    let b = times_reads (held f o (choice_with bs ps) m n u Atomic) z q g in (
      often_made q m,
      held f o (choice_with bs ps) (often_made q m) n u Counted,
      ap (read (Some r)) e ∙ read_through v z (Some r) _ _ a b,
      (tt, made_one no_bytes, n, u, refl),
      often_for z q m t k g i,
    )
times_makes f w v z t k q (inr e) h g = λ o bs ps r x.
    let (m, n, u, a, i) = h o (choice_with bs ps) r x in
    let b = times_reads (held f o (choice_with bs ps) m n u Atomic) z q g in (
      often_made q m,
      held f o (choice_with bs (ps ++ often_made q m ∷ [])) (made_one no_bytes) n u Ready,
      ap (read (Some r)) e ∙ read_through v (z ++ 63 ∷ []) (Some r) _ _ a (read_through z (63 ∷ []) (Some (held f o (choice_with bs ps) m n u Atomic)) _ _ b refl),
      (tt, made_one no_bytes, n, u, refl),
      often_for z q m t k g i,
    )

-- ---- pieces in a row

some_made : (m : Made) (ms : List Made) → m ∷ ms ≢ []
some_made m ms = λ e. no e
  where
    no : m ∷ ms ≡ [] → ⊥
    no e = cc

piece_makes : (f : Bool) (w : List ℕ) (t : Term) (k : ℕ) → MakesPiece f w t k → MakesCats f w t k
piece_makes f w t k h = λ o bs ps r x.
    let (m, s, e, y, i) = h o bs ps r x in
    (m ∷ [], s, e, y, i, λ n. some_made m [])

cats_makes : (f : Bool) (w v z : List ℕ) (t u : Term) (j k : ℕ) → w ≡ v ++ z → z ≢ [] → MakesPiece f v t j → MakesCats f z u k → MakesCats f w (cat t u) (kept (j + k))
cats_makes f w v z t u j k e l h g = λ o bs ps r x.
    let (m, s, a, y, i) = h o bs ps r x in
    let (ms, c, b, d, p, q) = g o bs (ps ++ m ∷ []) s y in (
      m ∷ ms,
      c,
      ap (read (Some r)) e ∙ read_through v z (Some r) _ _ a b,
      subst (λ x. Awaits f o (choice_with bs x) c) (append_assoc ps (m ∷ []) ms) d,
      row_for m ms t u j k i p (q l),
      λ n. some_made m ms,
    )

empty_makes : (f : Bool) → MakesCats f [] Empty 1
empty_makes f = λ o bs ps r x. ([], r, refl, subst (λ y. Awaits f o (choice_with bs y) r) (sym (append-nil ps)) x, (refl, refl), λ n. absurd (n refl))

-- ---- alternatives

choice_makes : (f : Bool) (w : List ℕ) (t : Term) (k : ℕ) → MakesCats f w t k → MakesAlts f w t k
choice_makes f w t k h = λ o bs r x.
    let (ms, s, e, y, i, n) = h o bs [] r x in
    ([], ms, s, e, subst (λ y. Awaits f o (choice_with y ms) s) (sym (append-nil bs)) y, i)

alts_makes : (f : Bool) (w v z : List ℕ) (t u : Term) (j k : ℕ) → w ≡ v ++ 124 ∷ z → MakesCats f v t j → MakesAlts f z u k → MakesAlts f w (alt t u) (kept (j + k))
alts_makes f w v z t u j k e h g = λ o bs r x.
    let (ms, s, a, y, i, l) = h o bs [] r x in
    let (m, n, b, d) = bar_reads f o (choice_with bs ms) s y in
    let (cs, ps, c, p, q, q') = g o (bs ++ row_made ms ∷ []) (held f o (choice_with (bs ++ row_made ms ∷ []) []) m n b Ready) (tt, m, n, b, refl) in (
      row_made ms ∷ cs,
      ps,
      c,
      ap (read (Some r)) e ∙ read_through v (124 ∷ z) (Some r) _ _ a (read_through (124 ∷ []) z (Some s) _ _ d p),
      subst (λ y. Awaits f o (choice_with y ps) c) (append_assoc bs (row_made ms ∷ []) cs) q,
      joined_for alt (row_made ms) (choice_made cs (row_made ps)) t u j k i q',
    )

-- ---- every level

pub spells_makes : (f : Bool) (l : Level) (w : List ℕ) (t : Term) (k : ℕ) → Spells f l w t k → Makes l f w t k
spells_makes f l w t k (literal {a} {set} h i) = literal_makes f a set h i
spells_makes f l w t k (dot {set} i) = dot_makes f set i
spells_makes f l w t k (punct {a} {set} h i) = punct_makes f a set h i
spells_makes f l w t k (escape {c} {set} h i) = escape_makes f c set h i
spells_makes f l w t k (class {set} h) = class_makes f w set h
spells_makes f l w t k (group v e h) = group_makes f w v t k e (spells_makes f Alts v t k h)
spells_makes f l w t k (plain_group v e h) = plain_group_makes f w v t k e (spells_makes f Alts v t k h)
spells_makes f l w t k (once h) = once_makes f w t k (spells_makes f Atom w t k h)
spells_makes f l w t k (times {t = u} {k = j} v z q e h g) = times_makes f w v z u j q e (spells_makes f Atom v u j h) g
spells_makes f l w t k empty = empty_makes f
spells_makes f l w t k (piece h) = piece_makes f w t k (spells_makes f Piece w t k h)
spells_makes f l w t k (cats {t = x} {u = y} {j = i} {k = n} v z e m h g) = cats_makes f w v z x y i n e m (spells_makes f Piece v x i h) (spells_makes f Cats z y n g)
spells_makes f l w t k (choice h) = choice_makes f w t k (spells_makes f Cats w t k h)
spells_makes f l w t k (alts {t = x} {u = y} {j = i} {k = n} v z e h g) = alts_makes f w v z x y i n e (spells_makes f Cats v x i h) (spells_makes f Alts z y n g)
