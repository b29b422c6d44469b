-- Words read one by one, as a loop does; and words read without their places.
use Rattle.std.proofs.Common.{◌≡◌, ℕ, ◌+◌, ◌<◌, ◌≤◌, List, [], ◌∷◌, ◌++◌, length, get_or, drop, Some, Ok, Err, refl, sym, ap, ◌∙◌, append_assoc, arith, le-leb}
use Rattle.std.specs.Prelude.{option_and_then}
use Rattle.std.proofs.lemmas.List.{append-nil}
use Rattle.serde_json.specs.Data.{Data, null, boolean, number, string, array, object, unsigned, negative, float, no_items, item}
use Rattle.serde_json.specs.Find.{as_array, as_number, as_u64}
use Rattle.serde_json.specs.View.{view, items_view}
use Rattle.serde_json.specs.declared.value.Value.{Value}
use Rattle.json_walk.specs.declared.refusal.ReadFail.{ReadFail}
use Rattle.json_walk.specs.declared.refusal.ReadFail.TheVariants.{Refused, OutOfMemory}
use Rattle.json_walk.specs.Outcome.{Outcome, ◌>>=◌, Fails}
use Rattle.json_walk.specs.Places.{at_index}
use Rattle.json_walk.specs.Numbers.{count, whole, number_said}
use Rattle.cert_rows.specs.Shapes.{Word}
use Rattle.cert_rows.specs.Leaves.{word, words_from, pair}
use Rattle.cert_rows.proofs.Steps.{rest_from, none_from}

-- words that are read already, before those that are still to be read
abbrev pub prefixed : List Word → Outcome (List Word) → Outcome (List Word)
prefixed earlier read = read >>= λ ws. Ok (earlier ++ ws)

prefixed-more : (earlier : List Word) (w : Word) (o : Outcome (List Word)) → prefixed earlier (o >>= λ ws. Ok (w ∷ ws)) ≡ prefixed (earlier ++ w ∷ []) o
prefixed-more earlier w (Ok ws) = ap Ok (simp append_assoc)
prefixed-more earlier w (Err r) = refl

next_word : (p : List ℕ) (vs : List Value) (i : ℕ) (v : Value) → i < length vs → v ≡ get_or vs i v
    → words_from p i (items_view (drop i vs)) ≡ word i (at_index p i) (view v) >>= λ w. words_from p (i + 1) (items_view (drop (i + 1) vs)) >>= λ ws. Ok (w ∷ ws)
unfolding words_from
next_word p vs i v h e = ap (words_from p i) (rest_from view vs i v h e)

pub one_more_read : (p : List ℕ) (vs : List Value) (i : ℕ) (v : Value) (earlier new : List Word) (w : Word) (all : Outcome (List Word)) → i < length vs → v ≡ get_or vs i v
    → word i (at_index p i) (view v) ≡ Ok w → new ≡ earlier ++ w ∷ [] → prefixed earlier (words_from p i (items_view (drop i vs))) ≡ all
    → prefixed new (words_from p (i + 1) (items_view (drop (i + 1) vs))) ≡ all
one_more_read p vs i v earlier new w all h e g n so_far =
    rw n (sym (prefixed-more earlier w (words_from p (i + 1) (items_view (drop (i + 1) vs)))) ∙ sym (rw (next_word p vs i v h e, g) refl) ∙ so_far)

pub first_fault : (p : List ℕ) (vs : List Value) (i : ℕ) (v : Value) (earlier : List Word) (all : Outcome (List Word)) (f : ReadFail) → i < length vs → v ≡ get_or vs i v
    → Fails f (word i (at_index p i) (view v)) → prefixed earlier (words_from p i (items_view (drop i vs))) ≡ all → Fails f all
first_fault p vs i v earlier all OutOfMemory h e g so_far = tt
first_fault p vs i v earlier all (Refused r) h e g so_far =
    let one : prefixed earlier (words_from p i (items_view (drop i vs))) ≡ Err r = rw (next_word p vs i v h e, g) refl in sym so_far ∙ one

pub all_read : (p : List ℕ) (vs : List Value) (i : ℕ) (earlier : List Word) (all : Outcome (List Word)) → length vs ≤ i → prefixed earlier (words_from p i (items_view (drop i vs))) ≡ all → all ≡ Ok earlier
unfolding words_from
all_read p vs i earlier all h so_far =
    let g : prefixed earlier (words_from p i (items_view (drop i vs))) ≡ Ok earlier = rw (none_from view vs i h) (ap Ok (append-nil earlier)) in sym so_far ∙ g

-- ---- words without their places

-- a value with an unsigned number is that number
pub unsigned_number : (d : Data) (n : ℕ) → option_and_then as_u64 (as_number d) ≡ Some n → d ≡ number (unsigned n)
unsigned_number null n e = absurd cc
unsigned_number (boolean b) n e = absurd cc
unsigned_number (number (unsigned m)) n e = let h : m ≡ n = cc in ap (λ k. number (unsigned k)) h
unsigned_number (number (negative z)) n e = absurd cc
unsigned_number (number (float x)) n e = absurd cc
unsigned_number (string s) n e = absurd cc
unsigned_number (array ds) n e = absurd cc
unsigned_number (object ms) n e = absurd cc

pub counted : (least most n : ℕ) (p : List ℕ) → least ≤ n → n ≤ most → count least most p (number (unsigned n)) ≡ Ok n
unfolding count whole number_said
counted least most n p a b = rw (le-leb _ _ a, le-leb _ _ b) refl

pub quick_is : (before x y : ℕ) (d : Data) → as_array d ≡ Some (item (number (unsigned x)) (item (number (unsigned y)) no_items)) → x ≤ before → 32 ≤ y → y ≤ 126
    → (p : List ℕ) → word before p d ≡ Ok (x, y)
unfolding word pair
quick_is before x y d e h k l p = rw (e, counted 0 before x (at_index p 0) (omega arith) h, counted 32 126 y (at_index p 1) k l) refl

pub two_are : (vs : List Value) (a b : Value) → length vs ≡ 2 → a ≡ get_or vs 0 a → b ≡ get_or vs 1 b → items_view vs ≡ item (view a) (item (view b) no_items)
two_are [] a b h e f = absurd (omega arith)
two_are (x ∷ []) a b h e f = absurd (omega arith)
two_are (x ∷ y ∷ []) a b h e f = rw (e, f) refl
two_are (x ∷ y ∷ z ∷ vs) a b h e f = absurd (omega arith)
