-- Lists of states of words, one word after another.
use Rattle.std.proofs.Common.{◌≡◌, ℕ, ◌+◌, ◌<◌, ◌≤◌, Bool, true, false, inl, inr, List, [], ◌∷◌, ◌++◌, length, get_or, take, drop, refl, sym, ◌∙◌, ap, subst, arith, length-append, length-take}
use Rattle.std.proofs.lemmas.List.{take_more, take-append-drop, get_or_append_left}
use Rattle.std.proofs.Math.Seq.{take-length}
use Rattle.rx_term.specs.declared.terms.Term.{Term}
use Rattle.rx_term.specs.Language.{Has, In}
use Rattle.rx_term.specs.Closing.{IsPrintable, Is}
use Rattle.rx_auto.proofs.Likeness.{Has_place, Has_taken}
use Rattle.rx_auto.specs.Live.{AddsNumbers}
use Rattle.rx_auto.specs.Edges.{Reads, AddsEdges}
use Rattle.rx_auto.specs.declared.edges.Edge.{Edge}
use Rattle.rx_auto.proofs.Ascending.{adds_as}
use Rattle.rx_joint.specs.Lists.{list_at}
use Rattle.rx_joint.specs.Joint.{table_at, own, AreTables, IsLed, Stands, Ends}
use Rattle.rx_joint.specs.Claims.{hold_at, MeetsTables, SameTables, word_at, AreListed, AreWords, LeadsBack}
use Rattle.rx_joint.proofs.Keys.{apart_push}
use Rattle.rx_joint.proofs.Building.{at_push}
use Rattle.rx_joint.proofs.Standing.{stands_step, ends_in, in_ends, states_same}
use Rattle.rx_joint.proofs.Spelling.{Entry, word_old, word_new, word_join, entries_push, entry_at}

pub is_same : (c : Bool) (P Q : Type 0) → (P → Q) → (Q → P) → Is c P → Is c Q
is_same true P Q f g h = f h
is_same false P Q f g h = λ q. h (g q)

pub ends_meets : (tables : List (List Term)) (holds : List Bool) (numbers w : List ℕ) → AreTables tables → length holds ≡ length tables → Stands tables numbers w →
    ((i : ℕ) → i < length holds → Is (hold_at holds i) (Ends tables numbers i)) → MeetsTables tables holds w
ends_meets tables holds numbers w all long s f i l =
    is_same (hold_at holds i) (Ends tables numbers i) (In w (own (table_at tables i))) (ends_in tables all numbers w s i l) (in_ends tables all numbers w s i l) (f i (omega (arith, long)))

pub meets_ends : (tables : List (List Term)) (holds : List Bool) (numbers w : List ℕ) → AreTables tables → length holds ≡ length tables → Stands tables numbers w →
    MeetsTables tables holds w → (i : ℕ) → i < length holds → Is (hold_at holds i) (Ends tables numbers i)
meets_ends tables holds numbers w all long s f i l =
    let k : i < length tables = omega (arith, long) in
    is_same (hold_at holds i) (In w (own (table_at tables i))) (Ends tables numbers i) (in_ends tables all numbers w s i k) (ends_in tables all numbers w s i k) (f i k)

-- ---- the words so far

pub listed_first : (tables : List (List Term)) (holds : List Bool) (first : List ℕ) → Stands tables first [] → (MeetsTables tables holds [] → ⊥) → AreListed tables holds [] (first ∷ [])
listed_first tables holds first s none = record {
  entries = tt;
  long = refl;
  stands = λ k h. subst (λ j. Stands tables (list_at (first ∷ []) j) (word_at [] j)) (zero_is k h) s;
  apart = λ i j h k e. not_two i j h k;
  none = λ k h. subst (λ j. MeetsTables tables holds (word_at [] j) → ⊥) (zero_is k h) none;
}
  where
    zero_is : (k : ℕ) → k < 1 → 0 ≡ k
    zero_is k h = omega arith

    not_two : (i j : ℕ) → i < j → j < 1 → ⊥
    not_two i j h k = omega arith

module _ (tables : List (List Term)) (holds : List Bool) (es : List Entry) (states : List (List ℕ)) (l : AreListed tables holds es states)
    (e : Entry) (x : List ℕ) (parent : e.0 < length states) (printable : IsPrintable e.1) (new : Has states x → ⊥)
    (s : Stands tables x (word_at es e.0 ++ e.1 ∷ [])) (none : MeetsTables tables holds (word_at es e.0 ++ e.1 ∷ []) → ⊥) where
  next_word : word_at (es ++ e ∷ []) (length states) ≡ word_at es e.0 ++ e.1 ∷ []
  next_word = ap (word_at (es ++ e ∷ [])) l.long ∙ word_new es e

  pub listed_push : AreListed tables holds (es ++ e ∷ []) (states ++ x ∷ [])
  listed_push = record {
    entries = entries_push es 1 e l.entries (omega (arith, parent, l.long)) printable;
    long = omega (arith, l.long, length-append states (x ∷ []), length-append es (e ∷ []));
    stands = at_push (λ k z. Stands tables z (word_at (es ++ e ∷ []) k)) states x []
        (λ k h. subst (Stands tables (list_at states k)) (sym (word_old es e k (omega (arith, l.long)))) (l.stands k h))
        (subst (Stands tables x) (sym next_word) s);
    apart = apart_push states x l.apart new;
    none = λ k h. at_push (λ k z. MeetsTables tables holds (word_at (es ++ e ∷ []) k) → ⊥) states x []
        (λ k h. subst (λ w. MeetsTables tables holds w → ⊥) (sym (word_old es e k (omega (arith, l.long)))) (l.none k h))
        (subst (λ w. MeetsTables tables holds w → ⊥) (sym next_word) none) k h;
  }

-- what a listed state leads to
pub stands_next : (tables : List (List Term)) (holds : List Bool) (es : List Entry) (states : List (List ℕ)) → AreTables tables → AreListed tables holds es states →
    (p b : ℕ) (from x : List ℕ) → p < length states → from ≡ list_at states p → AddsNumbers [] x (IsLed tables from b) → Stands tables x (word_at es p ++ b ∷ [])
stands_next tables holds es states all l p b from x h e a =
    stands_step tables all (list_at states p) (word_at es p) (l.stands p h) b x (subst (λ z. AddsNumbers [] x (IsLed tables z b)) e a)

-- ---- entries that make no such words

module _ (tables : List (List Term)) (holds : List Bool) (es : List Entry) (i : ℕ) (d : Entry) (h : i < length es) (a : AreWords tables holds es) where
  join : take (i + 1) es ++ drop (i + 1) es ≡ es
  join = take-append-drop (i + 1) es

  more : take (i + 1) es ≡ take i es ++ get_or es i d ∷ []
  more = take_more es i d h

  long : length (take i es) ≡ i
  long = omega (arith, length-take i es)

  pub good_entry : ((get_or es i d).0 < 1 + i) × IsPrintable (get_or es i d).1
  good_entry = entry_at es 1 i d a.entries h

  pub word_next : word_at es (i + 1) ≡ word_at (take i es) (get_or es i d).0 ++ (get_or es i d).1 ∷ []
  word_next = ap (λ z. word_at z (i + 1)) (sym join) ∙ word_join (take (i + 1) es) (drop (i + 1) es) (i + 1) (omega (arith, ap length more, length-append (take i es) (get_or es i d ∷ []), long))
      ∙ ap (λ z. word_at z (i + 1)) more ∙ ap (λ n. word_at (take i es ++ get_or es i d ∷ []) (n + 1)) (sym long) ∙ word_new (take i es) (get_or es i d)

  word_before : (k : ℕ) → k ≤ i → word_at (take i es) k ≡ word_at es k
  word_before k l = sym (word_join (take i es) (drop i es) k (omega (arith, long))) ∙ ap (λ z. word_at z k) (take-append-drop i es)

  -- the next state stands in the list already
  pub no_double : (states : List (List ℕ)) (x : List ℕ) → AreListed tables holds (take i es) states → Stands tables x (word_at (take i es) (get_or es i d).0 ++ (get_or es i d).1 ∷ []) → Has states x → ⊥
  no_double states x l s k =
      let r = Has_place states x [] k in
      let n : r.0 ≤ i = omega (arith, r.1, l.long, long) in
      a.apart r.0 (i + 1) (omega arith) (omega (arith, h))
      (subst (λ v. SameTables tables v (word_at es (i + 1))) (word_before r.0 n)
      (subst (SameTables tables (word_at (take i es) r.0)) (sym word_next)
      (states_same tables (list_at states r.0) x (word_at (take i es) r.0) (word_at (take i es) (get_or es i d).0 ++ (get_or es i d).1 ∷ []) (l.stands r.0 r.1) s r.2)))

  pub no_meeting : MeetsTables tables holds (word_at (take i es) (get_or es i d).0 ++ (get_or es i d).1 ∷ []) → ⊥
  no_meeting m = a.none (i + 1) (omega (arith, h)) (subst (MeetsTables tables holds) (sym word_next) m)

pub take_entries : (n : ℕ) (xs : List Entry) → length xs ≤ n → n ≤ length xs → take n xs ≡ xs
take_entries n xs h k = let e : n ≡ length xs = omega arith in ap (λ z. take z xs) e ∙ take-length xs

-- ---- bytes that lead back

module _ (tables : List (List Term)) (bytes : List ℕ) (states : List (List ℕ)) (k : ℕ) where
  pub back_more : (i : ℕ) → i < length bytes → LeadsBack tables (take i bytes) states k → (x : List ℕ) → AddsNumbers [] x (IsLed tables (list_at states k) (get_or bytes i 0)) → Has states x →
      LeadsBack tables (take (i + 1) bytes) states k
  back_more i l f x a h c m = elim (Has_taken bytes i 0 c l m) [
    | inl n ↦ f c n
    | inr e ↦ (x, subst (λ b. AddsNumbers [] x (IsLed tables (list_at states k) b)) e a, h)
  ]

pub back_none : (tables : List (List Term)) (bytes : List ℕ) (states : List (List ℕ)) (k : ℕ) → LeadsBack tables (take 0 bytes) states k
back_none tables bytes states k c m = absurd (none bytes c m)
  where
    none : (xs : List ℕ) (g : ℕ) → Has (take 0 xs) g → ⊥
    none [] g k = k
    none (y ∷ xs) g k = k

-- ---- edges of a listed state

-- what the edges of a state read with a byte is what the byte leads to
pub followed : (tables : List (List Term)) (edges : List Edge) (from x : List ℕ) (b : ℕ) → AddsEdges [] edges (λ b x. IsLed tables from b x) → AddsNumbers [] x (Reads edges b) → AddsNumbers [] x (IsLed tables from b)
followed tables edges from x b e a = adds_as [] x (Reads edges b) (IsLed tables from b) a
    (λ y r. elim (e.only b y r) [ inl n ↦ absurd n.1 | inr m ↦ m ]) (λ y m. e.made b y m)

-- the edges of a listed state are those of a longer list's
pub held_grows : (tables : List (List Term)) (edges : List Edge) (states : List (List ℕ)) (x : List ℕ) (k : ℕ) → k < length states →
    AddsEdges [] edges (λ b y. IsLed tables (list_at states k) b y) → AddsEdges [] edges (λ b y. IsLed tables (list_at (states ++ x ∷ []) k) b y)
held_grows tables edges states x k l e = subst (λ z. AddsEdges [] edges (λ b y. IsLed tables z b y)) (sym (get_or_append_left states (x ∷ []) [] k l)) e
