-- What the computed answer makes of terms is what the grammar spells.
use Rattle.std.proofs.Common.{◌≡◌, ◌≢◌, ℕ, ◌+◌, ◌≤◌, Bool, true, false, cond, nat_lt, List, [], ◌∷◌, ◌++◌, Option, Some, None, refl, sym, ◌∙◌, ap, subst, append_assoc, append-nil, arith}
use Rattle.std.proofs.lemmas.Bool.Decides.{nat_tests}
use Rattle.rx_term.specs.declared.sets.ByteSet.{ByteSet}
use Rattle.rx_term.specs.declared.terms.Term.{Term}
use Rattle.rx_term.specs.Term.{cat, alt}
use Rattle.rx_term.specs.Pattern.{kept, repeated, multiplied, Times, Piece, Cats, Alts}
use Rattle.rx_parse.specs.declared.bytes.Bytes.{Bytes}
use Rattle.rx_parse.specs.declared.bytes.Bytes.TheVariants.{Without}
use Rattle.rx_parse.specs.declared.made.Made.{Made}
use Rattle.rx_parse.specs.declared.made.Frame.{Frame}
use Rattle.rx_parse.specs.declared.reader.Reader.{Reader}
use Rattle.rx_parse.specs.declared.place.Place.TheVariants.{Atomic}
use Rattle.rx_parse.specs.Sets.{holds, IsSetBy}
use Rattle.rx_parse.proofs.Held.{Stands, IsMade, ArePieces, AreBranches, IsFrame, IsClosed, Joins, Repeats}
use Rattle.rx_parse.specs.Answer.{set_with, empty_made, both_terms, joined, row_made, choice_made, frame_made, often_term, often_made, split_last, left_group, closed_set}
use Rattle.rx_parse.proofs.Runs.{true_lt}
use Rattle.rx_parse.proofs.Filled.{filled_set}
use Rattle.rx_parse.proofs.Choices.{one_piece, more_pieces, last_branch, more_branches, made_begins, append_begins}
use Rattle.rx_parse.proofs.Terms.{InOrder, none_left, no_row}

-- ---- sets

pub set_is : (bytes : Bytes) → IsSetBy (holds bytes) (set_with bytes)
unfolding set_with
set_is bytes = filled_set (holds bytes) (set_with bytes) refl

pub closed_is : (n : Bool) (s : ByteSet) → IsClosed n s (closed_set n s)
closed_is true s = set_is (Without s)
closed_is false s = refl

-- ---- rows and choices

both_stand : (by : Term → Term → Term) (o p : Option Term) (j k : ℕ) (t u : Term) → Stands o t j → Stands p u k → Stands (both_terms by o p) (by t u) (kept (j + k))
both_stand by (Some a) (Some b) j k t u x y = ap (λ z. by z b) x ∙ ap (by t) y
both_stand by (Some a) None j k t u x y = omega arith
both_stand by None p j k t u x y = omega arith

pub joined_joins : (by : Term → Term → Term) (m n : Made) → Joins by m n (joined by m n)
joined_joins by m n = record { positions = refl; term = λ t u x y. both_stand by m.term n.term m.positions n.positions t u x y }

abbrev made_of : Option Term → ℕ → Made
made_of o k = record { term = o; positions = k }

-- two terms that were put together
pub joined_is : (by : Term → Term → Term) (m n : Made) (a b t : Term) (k : ℕ) → m.term ≡ Some a → n.term ≡ Some b → t ≡ by a b → k ≡ kept (m.positions + n.positions) →
    made_of (Some t) k ≡ joined by m n
joined_is by m n a b t k e g h p =
    ap (λ x. made_of (Some x) k) h
    ∙ (ap (made_of (Some (by a b))) p
    ∙ ap (λ o. made_of o (kept (m.positions + n.positions)))
    (sym (ap (λ x. both_terms by x n.term) e ∙ ap (λ x. both_terms by (Some a) x) g)))

-- the last two pieces are put together first
row_fold : (ms : List Made) (m n : Made) → row_made (ms ++ m ∷ n ∷ []) ≡ row_made (ms ++ joined cat m n ∷ [])
row_fold [] m n = refl
row_fold (x ∷ []) m n = refl
row_fold (x ∷ y ∷ ms) m n = ap (joined cat x) (row_fold (y ∷ ms) m n)

pub row_goes : (all left next : List Made) (piece made more : Made) → row_made all ≡ row_made (left ++ made ∷ []) → left ≡ next ++ piece ∷ [] → more ≡ joined cat piece made →
    row_made all ≡ row_made (next ++ more ∷ [])
row_goes all left next piece made more h e j =
    h
    ∙ (ap (λ y. row_made (y ++ made ∷ [])) e
    ∙ (ap row_made (append_assoc next (piece ∷ []) (made ∷ [])) ∙ (row_fold next piece made ∙ ap (λ y. row_made (next ++ y ∷ [])) (sym j))))

pub row_ends : (all left : List Made) (made : Made) → row_made all ≡ row_made (left ++ made ∷ []) → left ≡ [] → made ≡ row_made all
row_ends all left made h e = sym (h ∙ ap (λ y. row_made (y ++ made ∷ [])) e)

choice_fold : (ms : List Made) (m last : Made) → choice_made (ms ++ m ∷ []) last ≡ choice_made ms (joined alt m last)
choice_fold [] m last = refl
choice_fold (x ∷ ms) m last = ap (joined alt x) (choice_fold ms m last)

pub choice_goes : (all left next : List Made) (last branch made more : Made) → choice_made all last ≡ choice_made left made → left ≡ next ++ branch ∷ [] →
    more ≡ joined alt branch made → choice_made all last ≡ choice_made next more
choice_goes all left next last branch made more h e j =
    h ∙ (ap (λ y. choice_made y made) e ∙ (choice_fold next branch made ∙ ap (choice_made next) (sym j)))

pub choice_ends : (all left : List Made) (last made : Made) → choice_made all last ≡ choice_made left made → left ≡ [] → made ≡ choice_made all last
choice_ends all left last made h e = sym (h ∙ ap (λ y. choice_made y made) e)

some_pieces : (f : Bool) (w : List ℕ) (m : Made) (ms : List Made) → ArePieces f w (m ∷ ms) → w ≢ []
some_pieces f w m ms (a, z, e, p, r) = subst (λ y. y ≢ []) (sym e) (append_begins a z (made_begins f a m p))

-- pieces spell their row
pub row_is : (f : Bool) (w : List ℕ) (ms : List Made) → ArePieces f w ms → IsMade Cats f w (row_made ms)
row_is f w [] e = no_row w f empty_made e refl refl
row_is f w (m ∷ []) (a, z, e, p, r) = one_piece f w m (subst (λ y. IsMade Piece f y m) (sym (e ∙ (ap (λ y. a ++ y) r ∙ append-nil a))) p)
row_is f w (m ∷ n ∷ ms) (a, z, e, p, r) =
    subst (λ y. IsMade Cats f y (row_made (m ∷ n ∷ ms))) (sym e)
    (more_pieces f a z m (row_made (n ∷ ms)) (row_made (m ∷ n ∷ ms)) p (row_is f z (n ∷ ms) r) (some_pieces f z n ms r) (joined_joins cat m (row_made (n ∷ ms))))

-- alternatives spell their choice
choice_is : (f : Bool) (v z : List ℕ) (ms : List Made) (last : Made) → AreBranches f v ms → IsMade Cats f z last → IsMade Alts f (v ++ z) (choice_made ms last)
choice_is f v z [] last e h = subst (λ y. IsMade Alts f (y ++ z) last) (sym e) (last_branch f z last h)
choice_is f v z (m ∷ ms) last (a, b, e, p, r) h =
    subst (λ y. IsMade Alts f y (choice_made (m ∷ ms) last)) (sym (ap (λ y. y ++ z) e ∙ append_assoc a (124 ∷ b) z))
    (more_branches f a (b ++ z) m (choice_made ms last) (choice_made (m ∷ ms) last) p (choice_is f b z ms last r h) (joined_joins alt m (choice_made ms last)))

pub frame_is : (f : Bool) (w : List ℕ) (fr : Frame) → IsFrame f w fr → IsMade Alts f w (frame_made fr)
frame_is f w fr (v, z, e, p, r) =
    subst (λ y. IsMade Alts f y (frame_made fr)) (sym e) (choice_is f v z fr.branches (row_made fr.pieces) p (row_is f z fr.pieces r))

-- ---- quantifiers

often_stands : (q : Times) (o : Option Term) (t : Term) (k : ℕ) → InOrder q → Stands o t k → multiplied q k ≤ 4000 → often_term q o ≡ repeated q t
often_stands q (Some u) t k h x l = ap (repeated q) x
often_stands q None t k h x l = sym (none_left q t k h x l)

by_size : (q : Times) (m : Made) (t : Term) (c : Bool) → nat_lt 4000 (multiplied q m.positions) ≡ c → InOrder q → Stands m.term t m.positions →
    Stands (cond c None (Some (often_term q m.term))) (repeated q t) (multiplied q m.positions)
by_size q m t true e h x = true_lt 4000 (multiplied q m.positions) e
by_size q m t false e h x = often_stands q m.term t m.positions h x (not_more (multiplied q m.positions) e)
  where
    not_more : (k : ℕ) → nat_lt 4000 k ≡ false → k ≤ 4000
    not_more k g = grind (arith, nat_tests)

pub often_repeats : (q : Times) (m : Made) → InOrder q → Repeats q m (often_made q m)
often_repeats q m h = record { positions = refl; term = λ t x. by_size q m t (nat_lt 4000 (multiplied q m.positions)) refl h x }

-- ---- open groups

pub split_is : (x : Frame) (xs : List Frame) → x ∷ xs ≡ (split_last x xs).0 ++ (split_last x xs).1 ∷ []
split_is x [] = refl
split_is x (y ∷ ys) = ap (λ zs. x ∷ zs) (split_is y ys)

split_end : (x : Frame) (xs : List Frame) (last : Frame) → split_last x (xs ++ last ∷ []) ≡ (x ∷ xs, last)
split_end x [] last = refl
split_end x (y ∷ ys) last = ap (λ s. (x ∷ s.0, s.1)) (split_end y ys last)

-- the innermost group is the last one
pub left_is_last : (r : Reader) (all outer : List Frame) (last : Frame) (m : Made) → all ≡ outer ++ last ∷ [] → m ≡ frame_made r.top →
    Some (record r { outer = outer; top = last; pending = m; place = Atomic }) ≡ left_group all r
left_is_last r all outer last m e h =
    ap (λ y. Some (record r { outer = outer; top = last; pending = y; place = Atomic })) h ∙ sym (ap (λ y. left_group y r) e ∙ at_end outer)
  where
    at_end : (ys : List Frame) → left_group (ys ++ last ∷ []) r ≡ Some (record r { outer = ys; top = last; pending = frame_made r.top; place = Atomic })
    at_end [] = refl
    at_end (y ∷ ys) =
        ap (λ s. Some (record r { outer = s.0; top = s.1; pending = frame_made r.top; place = Atomic })) (split_end y ys last)
