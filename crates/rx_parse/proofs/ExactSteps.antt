-- Each step of the computed answer is a step of the grammar.
use Rattle.std.proofs.Common.{◌≡◌, ◌≢◌, ℕ, ◌+◌, ◌≤◌, Bool, true, false, ◌&&◌, ◌||◌, not, cond, nat_lt, ◌==◌, inl, inr, List, [], ◌∷◌, Option, Some, None, MatchOption, refl, sym, ◌∙◌, ap, subst, arith}
use Rattle.rx_term.specs.Pattern.{Times, Many, Plenty, Maybe, Exactly, AtLeast, Between}
use Rattle.rx_parse.specs.declared.bytes.Bytes.TheVariants.{Any, Range, Escape, Both}
use Rattle.rx_parse.specs.declared.made.Frame.{Frame}
use Rattle.rx_parse.specs.declared.reader.Reader.{Reader}
use Rattle.rx_parse.specs.declared.place.Kind.{Kind}
use Rattle.rx_parse.specs.declared.place.Kind.TheVariants.{Literal, Dot, Backslash, Bracket, Opening, Closing, Bar, Asterisk, Plus, Question, Brace, Caret, Dollar, Foreign}
use Rattle.rx_parse.specs.declared.place.Class.{Class}
use Rattle.rx_parse.specs.declared.place.Class.TheVariants.{Fresh, Negated, Single, Item, Ranged, Dashed, Slashed, RangeSlashed}
use Rattle.rx_parse.specs.declared.place.Braces.{Braces}
use Rattle.rx_parse.specs.declared.place.Braces.TheVariants.{Least, Most}
use Rattle.rx_parse.specs.declared.place.Place.{Place}
use Rattle.rx_parse.specs.declared.place.Place.TheVariants.{Begin, Begun, Ready, Atomic, Counted, Ended, Escaped, Opened, Marked, Flagging, InClass, InBraces}
use Rattle.rx_parse.specs.Kinds.{is_any, is_digit, is_punct, is_set_letter, kind_of, reaches, digit_next}
use Rattle.rx_parse.proofs.Machine.{plain_next, begin_next, begun_next, atom_next, counted_next, opened_next}
use Rattle.rx_parse.specs.Answer.{made_one, no_bytes, set_with, row_made, frame_made, often_made, new_reader, added, opened_group, split_last, left_group, barred, ended, quantified, plain_of, begin_of, begun_of, atomic_of, counted_of, opened_of, marked_of, flagging_of, escaped_of, with_bytes, closed_set, dash, dashed_of, item_behind, class_of, braces_of, step_of}
use Rattle.rx_parse.proofs.Held.{depth, IsStep, IsNew, IsLeft, IsQuantified}
use Rattle.rx_parse.proofs.Runs.{kind_is, true_eq, eq_true, true_and, true_lt, true_within, true_letter}
use Rattle.rx_parse.proofs.Classes.{pick_true, pick_false}
use Rattle.rx_parse.proofs.Terms.{InOrder}
use Rattle.rx_parse.proofs.Steps.{at, from_place, literal_step, dot_step, slash_step, opening_step, bracket_step, bar_step, stopped_none, added_settled, opened_settled, ready_settled, first_opening, begin_caret, begun_caret, opened_mark, marked_colon, marked_flag, flag_end, brace_step, lazy_step, escaped_punct, escaped_letter}
use Rattle.rx_parse.proofs.Moves.{default_step, closing, dollar, star_step, plus_step, optional_step}
use Rattle.rx_parse.proofs.ClassSteps.{in_class, item_step, caret_step, fresh_dash, negated_dash, ranged_step, dash_step, close_step, dash_close_step, dashed_none, flushed_step, ranged_flushed, range_slash_step, range_end_step, range_none, slashed_punct, slashed_letter, slashed_none, range_escaped_step, range_escaped_none}
use Rattle.rx_parse.proofs.BraceSteps.{least_digit_step, most_digit_step, comma_step, exactly_step, at_least_step, between_step}
use Rattle.rx_parse.proofs.Exact.{set_is, closed_is, row_is, frame_is, often_repeats, split_is}

-- ---- tests

no_bool : true ≡ false → ⊥
no_bool e = cc

-- where a byte isn't the other one
differ : (a b : ℕ) → (a == b) ≡ false → a ≢ b
differ a b e = λ g. no_bool (sym (eq_true a b g) ∙ e)

-- a step by a test, from the steps of both its ways
by_test : (r : Reader) (b : ℕ) (x y : Option Reader) (c : Bool) → (c ≡ true → IsStep r b x) → (c ≡ false → IsStep r b y) → IsStep r b (cond c x y)
by_test r b x y true f g = f refl
by_test r b x y false f g = g refl

or_none : (c d : Bool) → c ≡ false → d ≡ false → c || d ≡ false
or_none true d e h = cc
or_none false d e h = h

and_none : (c d : Bool) → c ≡ true → d ≡ false → c && d ≡ false
and_none true d e h = h
and_none false d e h = cc

less : (a b : ℕ) → nat_lt a (b + 1) ≡ true → a ≤ b
less a b e = let h = true_lt a (b + 1) e in omega arith

-- ---- what the parts say

new_is : (f : Bool) (p : Place) → IsNew f p (new_reader f p)
new_is f p = (made_one no_bytes, false, no_bytes, refl)

left_is : (r : Reader) (xs : List Frame) → r.outer ≡ xs → MatchOption (left_group xs r) (r.outer ≡ []) (λ s. IsLeft r s)
left_is r [] e = e
left_is r (x ∷ xs) e = ((split_last x xs).0, (split_last x xs).1, frame_made r.top, e ∙ split_is x xs, λ f w h. frame_is f w r.top h, refl)

ended_is : (r : Reader) (xs : List Frame) → r.outer ≡ xs → MatchOption (ended xs r) (r.outer ≢ []) (λ s. (r.outer ≡ []) × (s ≡ at r Ended))
ended_is r [] e = (e, refl)
ended_is r (x ∷ xs) e = λ g. no (sym e ∙ g)
  where
    no : x ∷ xs ≡ [] → ⊥
    no h = cc

quantified_is : (q : Times) (r : Reader) → InOrder q → IsQuantified q r (quantified q r)
quantified_is q r h = (often_made q r.pending, often_repeats q r.pending h, refl)

-- ---- plain text

plain_step : (r : Reader) (b : ℕ) (k : Kind) → kind_of b ≡ k → IsStep (at r Ready) b (plain_of r b k)
plain_step r b Literal e = literal_step r b (set_with (Range r.fold b b)) e (set_is (Range r.fold b b))
plain_step r b Dot e = dot_step r b (set_with Any) e (set_is Any)
plain_step r b Backslash e = slash_step r b e
plain_step r b Bracket e = bracket_step r b e
plain_step r b Opening e = opening_step r b e
plain_step r b Closing e = closing r b e (left_group r.outer r) (left_is r r.outer refl)
plain_step r b Bar e = bar_step r (barred r) b e (row_made r.top.pieces, λ f w h. row_is f w r.top.pieces h, refl)
plain_step r b Dollar e = dollar r b e (ended r.outer r) (ended_is r r.outer refl)
plain_step r b Asterisk e = stopped_none r b Asterisk e tt
plain_step r b Plus e = stopped_none r b Plus e tt
plain_step r b Question e = stopped_none r b Question e tt
plain_step r b Brace e = stopped_none r b Brace e tt
plain_step r b Caret e = stopped_none r b Caret e tt
plain_step r b Foreign e = stopped_none r b Foreign e tt

begin_step : (r : Reader) (b : ℕ) (k : Kind) → r.place ≡ Begin → kind_of b ≡ k → IsStep r b (begin_of r b k)
begin_step r b Opening p e = from_place r Begin b (begin_of r b Opening) p (first_opening r b (kind_is b Opening e))
begin_step r b Caret p e = from_place r Begin b (begin_of r b Caret) p (begin_caret r (new_reader r.fold Ready) b (kind_is b Caret e) (new_is r.fold Ready))
begin_step r b k p e =
    default_step r (at r Ready) Begin b (begin_of r b k) p (ap (begin_next (depth r)) e ∙ sym (ap (plain_next (depth r)) e)) (ready_settled r (inl p)) (plain_step (at r Ready) b k e)

begun_step : (r : Reader) (b : ℕ) (k : Kind) → r.place ≡ Begun → kind_of b ≡ k → IsStep r b (begun_of r b k)
begun_step r b Caret p e = from_place r Begun b (begun_of r b Caret) p (begun_caret r (new_reader r.fold Ready) b (kind_is b Caret e) (new_is r.fold Ready))
begun_step r b k p e =
    default_step r (at r Ready) Begun b (begun_of r b k) p (ap (begun_next (depth r)) e ∙ sym (ap (plain_next (depth r)) e)) (ready_settled r (inr (inl p))) (plain_step (at r Ready) b k e)

atomic_step : (r : Reader) (b : ℕ) (k : Kind) → r.place ≡ Atomic → kind_of b ≡ k → IsStep r b (atomic_of r b k)
atomic_step r b Asterisk p e = from_place r Atomic b (atomic_of r b Asterisk) p (star_step r (quantified Many r) b e (quantified_is Many r tt))
atomic_step r b Plus p e = from_place r Atomic b (atomic_of r b Plus) p (plus_step r (quantified Plenty r) b e (quantified_is Plenty r tt))
atomic_step r b Question p e = from_place r Atomic b (atomic_of r b Question) p (optional_step r (quantified Maybe r) b e (quantified_is Maybe r tt))
atomic_step r b Brace p e = from_place r Atomic b (atomic_of r b Brace) p (brace_step r b (kind_is b Brace e))
atomic_step r b k p e =
    default_step r (added r) Atomic b (atomic_of r b k) p (ap (atom_next (depth r)) e ∙ sym (ap (plain_next (depth r)) e)) (added_settled r (added r) (made_one no_bytes, refl) (inl p))
    (plain_step (added r) b k e)

counted_step : (r : Reader) (b : ℕ) (k : Kind) → r.place ≡ Counted → kind_of b ≡ k → IsStep r b (counted_of r b k)
counted_step r b Question p e = from_place r Counted b (counted_of r b Question) p (lazy_step r (added r) b (kind_is b Question e) (made_one no_bytes, refl))
counted_step r b k p e =
    default_step r (added r) Counted b (counted_of r b k) p (ap (counted_next (depth r)) e ∙ sym (ap (plain_next (depth r)) e)) (added_settled r (added r) (made_one no_bytes, refl) (inr p))
    (plain_step (added r) b k e)

opened_step : (first : Bool) (r : Reader) (b : ℕ) (k : Kind) → r.place ≡ Opened first → kind_of b ≡ k → IsStep r b (opened_of first r b k)
opened_step first r b Question p e = from_place r (Opened first) b (opened_of first r b Question) p (opened_mark r first b (kind_is b Question e))
opened_step first r b k p e =
    default_step r (opened_group r) (Opened first) b (opened_of first r b k) p (ap (opened_next first (depth r)) e ∙ sym (ap (plain_next (depth r)) e)) (opened_settled r (opened_group r) first refl p)
    (plain_step (opened_group r) b k e)

marked_step : (first : Bool) (r : Reader) (b : ℕ) → IsStep (at r (Marked first)) b (marked_of first r b)
marked_step first r b =
    by_test (at r (Marked first)) b _ _ (b == 58) (λ e. marked_colon r (opened_group r) first b (true_eq b 58 e) refl)
    (λ e. by_test (at r (Marked first)) b _ _ (first && b == 105)
    (λ g. let h = true_and first _ g in subst (λ c. IsStep (at r (Marked c)) b (Some (at r Flagging))) (sym h.0) (marked_flag r b (true_eq b 105 h.1)))
    (λ g. pick_false (b == 58) _ _ e ∙ pick_false (first && b == 105) _ _ g))

flagging_step : (r : Reader) (b : ℕ) → IsStep (at r Flagging) b (flagging_of r b)
flagging_step r b =
    by_test (at r Flagging) b _ _ (b == 41) (λ e. flag_end r (new_reader true Begun) b (true_eq b 41 e) (new_is true Begun)) (λ e. pick_false (b == 41) _ _ e)

escaped_step : (r : Reader) (b : ℕ) → IsStep (at r Escaped) b (escaped_of r b)
escaped_step r b =
    by_test (at r Escaped) b _ _ (is_punct b) (λ e. escaped_punct r b (set_with (Range r.fold b b)) e (set_is (Range r.fold b b)))
    (λ e. by_test (at r Escaped) b _ _ (is_set_letter b) (λ g. escaped_letter r b (set_with (Escape b)) (true_letter b g) g (set_is (Escape b)))
    (λ g. pick_false (is_punct b || is_set_letter b) _ _ (or_none (is_punct b) _ e g)))

-- ---- classes

dashed_step : (r : Reader) (b : ℕ) → IsStep (in_class r Dashed) b (dashed_of r b)
dashed_step r b =
    let u = set_with dash in
    let t = set_with (Both r.set u) in
    by_test (in_class r Dashed) b _ _ (b == 93)
    (λ e. dash_close_step r u t (closed_set r.negated t) b (true_eq b 93 e) (set_is dash) (set_is (Both r.set u)) (closed_is r.negated t))
    (λ e. dashed_none r b (differ b 93 e))

item_behind_step : (r : Reader) (bare : Bool) (b : ℕ) → IsStep (in_class r (Item bare)) b (item_behind r bare b)
item_behind_step r bare b =
    by_test (in_class r (Item bare)) b _ _ (b == 93) (λ e. close_step r bare (closed_set r.negated r.set) b (true_eq b 93 e) (closed_is r.negated r.set))
    (λ e. by_test (in_class r (Item bare)) b _ _ (b == 45) (λ g. dash_step r bare b (true_eq b 45 g))
    (λ g. item_step r bare (Item bare) b (refl, differ b 93 e) (differ b 45 g)))

class_any : (c : Class) (r : Reader) (b : ℕ) → IsStep (in_class r c) b (class_of c r b)
class_any Fresh r b =
    let u = set_with (Range false b b) in
    by_test (in_class r Fresh) b _ _ (b == 94) (λ e. caret_step r b (true_eq b 94 e))
    (λ e. by_test (in_class r Fresh) b _ _ (b == 45)
    (λ g. fresh_dash r u (set_with (Both r.set u)) b (true_eq b 45 g) (set_is (Range false b b)) (set_is (Both r.set u)))
    (λ g. item_step r false Fresh b (refl, differ b 94 e) (differ b 45 g)))
class_any Negated r b =
    let u = set_with (Range false b b) in
    by_test (in_class r Negated) b _ _ (b == 45)
    (λ g. negated_dash r u (set_with (Both r.set u)) b (true_eq b 45 g) (set_is (Range false b b)) (set_is (Both r.set u)))
    (λ g. item_step r false Negated b refl (differ b 45 g))
class_any (Single a bare) r b =
    let u = set_with (Range r.fold a a) in
    by_test (in_class r (Single a bare)) b _ _ (b == 45) (λ e. ranged_step r a bare b (true_eq b 45 e))
    (λ e. flushed_step r a bare u (set_with (Both r.set u)) b _ (differ b 45 e) (set_is (Range r.fold a a)) (set_is (Both r.set u))
    (item_behind_step (with_bytes r (Range r.fold a a) (Item bare)) bare b))
class_any (Item bare) r b = item_behind_step r bare b
class_any (Ranged a) r b =
    let u = set_with (Range r.fold a a) in
    let z = set_with (Range r.fold a b) in
    by_test (in_class r (Ranged a)) b _ _ (b == 93)
    (λ e. ranged_flushed r a u (set_with (Both r.set u)) b _ (true_eq b 93 e) (set_is (Range r.fold a a)) (set_is (Both r.set u))
    (dashed_step (with_bytes r (Range r.fold a a) Dashed) b))
    (λ e. by_test (in_class r (Ranged a)) b _ _ (b == 92) (λ g. range_slash_step r a b (true_eq b 92 g))
    (λ g. by_test (in_class r (Ranged a)) b _ _ (is_any b && (not (b == 45) && nat_lt a (b + 1)))
    (λ h.
    let i = true_and (is_any b) _ h in
    let j = true_and (not (b == 45)) _ i.1 in
    range_end_step r a b z (set_with (Both r.set z)) (differ b 93 e) (differ b 92 g) (true_within 32 126 b i.0) (other b 45 j.0) (less a b j.1)
    (set_is (Range r.fold a b)) (set_is (Both r.set z)))
    (λ h. range_none r a b (differ b 93 e) (differ b 92 g) h)))
  where
    other : (x y : ℕ) → not (x == y) ≡ true → x ≢ y
    other x y e = λ g. no_bool (sym (sym (ap not (eq_true x y g)) ∙ e))
class_any Dashed r b = dashed_step r b
class_any Slashed r b =
    let u = set_with (Escape b) in
    by_test (in_class r Slashed) b _ _ (is_punct b) (λ e. slashed_punct r b e)
    (λ e. by_test (in_class r Slashed) b _ _ (is_set_letter b)
    (λ g. slashed_letter r u (set_with (Both r.set u)) b e g (true_letter b g) (set_is (Escape b)) (set_is (Both r.set u)))
    (λ g. slashed_none r b e g))
class_any (RangeSlashed a) r b =
    let z = set_with (Range r.fold a b) in
    by_test (in_class r (RangeSlashed a)) b _ _ (is_punct b && nat_lt a (b + 1))
    (λ e.
    let i = true_and (is_punct b) _ e in
    range_escaped_step r a b z (set_with (Both r.set z)) i.0 (less a b i.1) (set_is (Range r.fold a b)) (set_is (Both r.set z)))
    (λ e. range_escaped_none r a b e)

-- ---- braces

braces_any : (c : Braces) (r : Reader) (b : ℕ) → IsStep (at r (InBraces c)) b (braces_of c r b)
braces_any (Least k n) r b =
    let p = InBraces (Least k n) in
    by_test (at r p) b _ _ (is_digit b)
    (λ e. by_test (at r p) b _ _ (nat_lt k 3 && nat_lt (digit_next n b) 256)
    (λ g.
    let i = true_and (nat_lt k 3) _ g in
    least_digit_step r k n b (true_within 48 57 b e) (true_lt k 3 i.0) (true_lt (digit_next n b) 256 i.1))
    (λ g. pick_true (is_digit b) _ _ e ∙ pick_false (nat_lt k 3 && nat_lt (digit_next n b) 256) _ _ g))
    (λ e. by_test (at r p) b _ _ (b == 44 && nat_lt 0 k)
    (λ g. let i = true_and (b == 44) _ g in comma_step r k n b (true_eq b 44 i.0) (true_lt 0 k i.1))
    (λ g. by_test (at r p) b _ _ (b == 125 && nat_lt 0 k)
    (λ h. let i = true_and (b == 125) _ h in exactly_step r (quantified (Exactly n) r) k n b (true_eq b 125 i.0) (true_lt 0 k i.1) (quantified_is (Exactly n) r tt))
    (λ h. pick_false (is_digit b) _ _ e ∙ (pick_false (b == 44 && nat_lt 0 k) _ _ g ∙ pick_false (b == 125 && nat_lt 0 k) _ _ h))))
braces_any (Most n k m) r b =
    let p = InBraces (Most n k m) in
    by_test (at r p) b _ _ (is_digit b)
    (λ e. by_test (at r p) b _ _ (nat_lt k 3 && reaches n (k + 1) (digit_next m b))
    (λ g. let i = true_and (nat_lt k 3) _ g in most_digit_step r n k m b (true_within 48 57 b e) (true_lt k 3 i.0) i.1)
    (λ g. pick_true (is_digit b) _ _ e ∙ pick_false (nat_lt k 3 && reaches n (k + 1) (digit_next m b)) _ _ g))
    (λ e. by_test (at r p) b _ _ (b == 125)
    (λ g. by_test (at r p) b _ _ (k == 0)
    (λ h. at_least_step r (quantified (AtLeast n) r) n k m b (true_eq b 125 g) (true_eq k 0 h) (quantified_is (AtLeast n) r tt))
    (λ h. by_test (at r p) b _ _ (nat_lt n (m + 1))
    (λ i. between_step r (quantified (Between n m) r) n k m b (true_eq b 125 g) (differ k 0 h) (less n m i) (quantified_is (Between n m) r (less n m i)))
    (λ i.
    pick_false (is_digit b) _ _ e
    ∙ pick_false (b == 125 && (k == 0 || nat_lt n (m + 1))) _ _ (and_none (b == 125) _ g (or_none (k == 0) _ h i)))))
    (λ g. pick_false (is_digit b) _ _ e ∙ pick_false (b == 125 && (k == 0 || nat_lt n (m + 1))) _ _ (first_false (b == 125) _ g)))
  where
    first_false : (x y : Bool) → x ≡ false → x && y ≡ false
    first_false true y e = cc
    first_false false y e = refl

-- ---- any place

place_step : (p : Place) (r : Reader) (b : ℕ) → r.place ≡ p → IsStep r b (step_of p r b)
place_step Begin r b e = begin_step r b (kind_of b) e refl
place_step Begun r b e = begun_step r b (kind_of b) e refl
place_step Ready r b e = from_place r Ready b (plain_of r b (kind_of b)) e (plain_step r b (kind_of b) refl)
place_step Atomic r b e = atomic_step r b (kind_of b) e refl
place_step Counted r b e = counted_step r b (kind_of b) e refl
place_step Ended r b e = from_place r Ended b None e refl
place_step Escaped r b e = from_place r Escaped b (escaped_of r b) e (escaped_step r b)
place_step (Opened first) r b e = opened_step first r b (kind_of b) e refl
place_step (Marked first) r b e = from_place r (Marked first) b (marked_of first r b) e (marked_step first r b)
place_step Flagging r b e = from_place r Flagging b (flagging_of r b) e (flagging_step r b)
place_step (InClass c) r b e = from_place r (InClass c) b (class_of c r b) e (class_any c r b)
place_step (InBraces c) r b e = from_place r (InBraces c) b (braces_of c r b) e (braces_any c r b)

-- the computed step is one of the grammar
pub step_is : (r : Reader) (b : ℕ) → IsStep r b (step_of r.place r b)
step_is r b = place_step r.place r b refl
