-- What a reader holds after one more byte.
use Rattle.std.proofs.Common.{◌≡◌, ◌≢◌, ℕ, suc, Bool, true, false, ◌||◌, ◌⊎◌, inl, inr, List, [], ◌∷◌, ◌++◌, length, Option, Some, None, refl, sym, ◌∙◌, ap, subst, append_assoc, append-nil, arith}
use Rattle.rx_term.specs.declared.sets.ByteSet.{ByteSet}
use Rattle.rx_term.specs.declared.terms.Term.{One}
use Rattle.rx_term.specs.Pattern.{IsSetLetter, IsTimes, Times, InSome, IsSetOf, Spells, Atom, Piece, Alts, IsClass, flag}
use Rattle.rx_term.specs.Pattern.Spells.{literal, dot, punct, escape, class, group, plain_group, once, times}
use Rattle.rx_parse.specs.declared.bytes.Bytes.TheVariants.{Any, Range, Escape}
use Rattle.rx_parse.specs.declared.made.Made.{Made}
use Rattle.rx_parse.specs.declared.made.Frame.{Frame}
use Rattle.rx_parse.specs.declared.reader.Reader.{Reader}
use Rattle.rx_parse.specs.declared.place.Kind.{Kind}
use Rattle.rx_parse.specs.declared.place.Kind.TheVariants.{Literal, Dot, Backslash, Bracket, Opening, Closing, Bar, Asterisk, Plus, Question, Brace, Caret, Dollar, Foreign}
use Rattle.rx_parse.specs.declared.place.Class.{Class}
use Rattle.rx_parse.specs.declared.place.Class.TheVariants.{Fresh}
use Rattle.rx_parse.specs.declared.place.Braces.{Braces}
use Rattle.rx_parse.specs.declared.place.Braces.TheVariants.{Least}
use Rattle.rx_parse.specs.declared.place.Place.{Place}
use Rattle.rx_parse.specs.declared.place.Place.TheVariants.{Begin, Begun, Ready, Atomic, Counted, Ended, Escaped, Opened, Marked, Flagging, InClass, InBraces}
use Rattle.rx_parse.specs.Kinds.{is_punct, is_set_letter, kind_of}
use Rattle.rx_parse.proofs.Machine.{Moved, plain_next, next}
use Rattle.rx_parse.specs.Sets.{holds, IsSetBy}
use Rattle.rx_parse.proofs.Held.{IsMade, IsOpening, AreOuter, IsClassFront, IsBracesFront, IsPending, IsStart, IsHead, Reads, depth, IsStepTo, IsStep, Repeats, IsNew, IsAdded, IsOpened, IsLeft, IsBarred, IsQuantified, IsSettled}
use Rattle.rx_parse.specs.Answer.{made_one, no_frame, no_bytes}
use Rattle.rx_parse.proofs.Runs.{true_punct, or_left, or_right, kind_is}
use Rattle.rx_parse.proofs.Classes.{pick_true}
use Rattle.rx_parse.proofs.Choices.{pieces_snoc, branches_snoc, outer_snoc, outer_unsnoc}
use Rattle.rx_parse.proofs.Filled.{filled_set}
use Rattle.rx_parse.proofs.ByteTests.{test_set, fold_set, any_set, escape_set}

-- ---- readers that hold the same choices

abbrev pub moved : Reader → Made → Bool → ByteSet → Place → Reader
moved r m n t q = record r { pending = m; negated = n; set = t; place = q }

abbrev pub at : Reader → Place → Reader
at r p = record r { place = p }

-- one more byte behind what is pending
longer : (w h a i p : List ℕ) (b : ℕ) → w ≡ h ++ (a ++ (i ++ p)) → w ++ b ∷ [] ≡ h ++ (a ++ (i ++ (p ++ b ∷ [])))
longer w h a i p b e =
    ap (λ y. y ++ b ∷ []) e
    ∙ (append_assoc h (a ++ (i ++ p)) (b ∷ []) ∙ ap (λ y. h ++ y) (append_assoc a (i ++ p) (b ∷ []) ∙ ap (λ y. a ++ y) (append_assoc i p (b ∷ []))))

pub step_moved : (r : Reader) (m : Made) (n : Bool) (t : ByteSet) (q : Place) (b : ℕ) → next (depth r) r.place b ≡ Some (depth (moved r m n t q), q) →
    ((p : List ℕ) → IsPending r r.place p → IsPending (moved r m n t q) q (p ++ b ∷ [])) →
    ((w : List ℕ) → IsStart r.fold r.place w → IsStart r.fold q (w ++ b ∷ [])) → IsStep r b (Some (moved r m n t q))
step_moved r m n t q b e f g = (
  e,
  λ w x. record {
    head = x.head;
    around = x.around;
    inside = x.inside;
    rest = x.rest ++ b ∷ [];
    is = longer w x.head x.around x.inside x.rest b x.is;
    begins = x.begins;
    outer = x.outer;
    top = x.top;
    pending = f x.rest x.pending;
    start = g w x.start;
  },
)

pub from_place : (r : Reader) (p : Place) (b : ℕ) (o : Option Reader) → r.place ≡ p → IsStep (at r p) b o → IsStep r b o
from_place r p b o e h = subst (λ q. IsStep (at r q) b o) (sym e) h

-- ---- behind a backslash

one_atom : (f : Bool) (w : List ℕ) (s : ByteSet) → Spells f Atom w (One s) 1 → IsMade Atom f w (made_one s)
one_atom f w s h = (One s, h, refl)

slashed_text : (p : List ℕ) (b : ℕ) → p ≡ 92 ∷ [] → p ++ b ∷ [] ≡ 92 ∷ b ∷ []
slashed_text p b e = ap (λ y. y ++ b ∷ []) e

pub escaped_punct : (r : Reader) (b : ℕ) (s : ByteSet) → is_punct b ≡ true → IsSetBy (holds (Range r.fold b b)) s →
    IsStep (at r Escaped) b (Some (moved r (made_one s) r.negated r.set Atomic))
escaped_punct r b s h g =
    step_moved (at r Escaped) (made_one s) r.negated r.set Atomic b (pick_true (is_punct b || is_set_letter b) _ _ (or_left (is_punct b) _ h))
    (λ p e. subst (λ y. IsMade Atom r.fold y (made_one s)) (sym (slashed_text p b e)) (one_atom r.fold _ s (punct (true_punct b h) (fold_set r.fold b s g))))
    (λ w x. tt)

pub escaped_letter : (r : Reader) (b : ℕ) (s : ByteSet) → IsSetLetter b → is_set_letter b ≡ true → IsSetBy (holds (Escape b)) s →
    IsStep (at r Escaped) b (Some (moved r (made_one s) r.negated r.set Atomic))
escaped_letter r b s l h g =
    step_moved (at r Escaped) (made_one s) r.negated r.set Atomic b (pick_true (is_punct b || is_set_letter b) _ _ (or_right (is_punct b) _ h))
    (λ p e. subst (λ y. IsMade Atom r.fold y (made_one s)) (sym (slashed_text p b e)) (one_atom r.fold _ s (escape l (escape_set b s l g))))
    (λ w x. tt)

-- ---- where a piece may begin

alone : (p : List ℕ) (b n : ℕ) → p ≡ [] → b ≡ n → p ++ b ∷ [] ≡ n ∷ []
alone p b n e h = ap (λ y. y ++ b ∷ []) e ∙ ap (λ x. x ∷ []) h

pub literal_step : (r : Reader) (b : ℕ) (s : ByteSet) → kind_of b ≡ Literal → IsSetBy (holds (Range r.fold b b)) s →
    IsStep (at r Ready) b (Some (moved r (made_one s) r.negated r.set Atomic))
literal_step r b s k g =
    step_moved (at r Ready) (made_one s) r.negated r.set Atomic b (ap (plain_next (length r.outer)) k)
    (λ p e. subst (λ y. IsMade Atom r.fold y (made_one s)) (sym (alone p b b e refl)) (one_atom r.fold _ s (literal (kind_is b Literal k) (fold_set r.fold b s g))))
    (λ w x. tt)

pub dot_step : (r : Reader) (b : ℕ) (s : ByteSet) → kind_of b ≡ Dot → IsSetBy (holds Any) s → IsStep (at r Ready) b (Some (moved r (made_one s) r.negated r.set Atomic))
dot_step r b s k g =
    step_moved (at r Ready) (made_one s) r.negated r.set Atomic b (ap (plain_next (length r.outer)) k)
    (λ p e. subst (λ y. IsMade Atom r.fold y (made_one s)) (sym (alone p b 46 e (kind_is b Dot k))) (one_atom r.fold _ s (dot (any_set s g))))
    (λ w x. tt)

pub slash_step : (r : Reader) (b : ℕ) → kind_of b ≡ Backslash → IsStep (at r Ready) b (Some (at r Escaped))
slash_step r b k =
    step_moved (at r Ready) r.pending r.negated r.set Escaped b (ap (plain_next (length r.outer)) k) (λ p e. alone p b 92 e (kind_is b Backslash k)) (λ w x. tt)

pub opening_step : (r : Reader) (b : ℕ) → kind_of b ≡ Opening → IsStep (at r Ready) b (Some (at r (Opened false)))
opening_step r b k =
    step_moved (at r Ready) r.pending r.negated r.set (Opened false) b (ap (plain_next (length r.outer)) k) (λ p e. alone p b 40 e (kind_is b Opening k)) (λ w x. tt)

none_set : IsSetOf (InSome []) no_bytes
none_set = test_set (InSome []) (λ b. false) no_bytes (filled_set (λ b. false) no_bytes refl) (λ b h. absurd (no h)) (λ b h. absurd h.1)
  where
    no : false ≡ true → ⊥
    no e = cc

pub bracket_step : (r : Reader) (b : ℕ) → kind_of b ≡ Bracket → IsStep (at r Ready) b (Some (moved r r.pending false no_bytes (InClass Fresh)))
bracket_step r b k =
    step_moved (at r Ready) r.pending false no_bytes (InClass Fresh) b (ap (plain_next (length r.outer)) k)
    (λ p e. record {
      body = [];
      is = alone p b 91 e (kind_is b Bracket k);
      items = (refl, ([], (refl, refl), none_set));
      start = refl;
      named = tt;
      before = refl;
    })
    (λ w x. tt)

pub dollar_step : (r : Reader) (b : ℕ) → kind_of b ≡ Dollar → r.outer ≡ [] → IsStep (at r Ready) b (Some (at r Ended))
dollar_step r b k h =
    step_moved (at r Ready) r.pending r.negated r.set Ended b
    (ap (plain_next (length r.outer)) k ∙ (ap (λ x. plain_next (length x) Dollar) h ∙ ap (λ x. Some (length x, Ended)) (sym h)))
    (λ p e. (alone p b 36 e (kind_is b Dollar k), h)) (λ w x. tt)

pub dollar_none : (r : Reader) (b : ℕ) → kind_of b ≡ Dollar → r.outer ≢ [] → IsStep (at r Ready) b None
dollar_none r b k h = ap (plain_next (length r.outer)) k ∙ none r.outer h
  where
    none : (xs : List Frame) → xs ≢ [] → plain_next (length xs) Dollar ≡ None
    none [] g = absurd (g refl)
    none (x ∷ xs) g = refl

pub closing_none : (r : Reader) (b : ℕ) → kind_of b ≡ Closing → r.outer ≡ [] → IsStep (at r Ready) b None
closing_none r b k h = ap (plain_next (length r.outer)) k ∙ ap (λ x. plain_next (length x) Closing) h

-- the kinds that begin no piece and end nothing
abbrev pub IsStopped : Kind → Type 0
IsStopped Asterisk = Unit {0}
IsStopped Plus = Unit {0}
IsStopped Question = Unit {0}
IsStopped Brace = Unit {0}
IsStopped Caret = Unit {0}
IsStopped Foreign = Unit {0}
IsStopped k = ⊥

pub stopped_none : (r : Reader) (b : ℕ) (k : Kind) → kind_of b ≡ k → IsStopped k → IsStep (at r Ready) b None
stopped_none r b Asterisk e h = ap (plain_next (length r.outer)) e
stopped_none r b Plus e h = ap (plain_next (length r.outer)) e
stopped_none r b Question e h = ap (plain_next (length r.outer)) e
stopped_none r b Brace e h = ap (plain_next (length r.outer)) e
stopped_none r b Caret e h = ap (plain_next (length r.outer)) e
stopped_none r b Foreign e h = ap (plain_next (length r.outer)) e
stopped_none r b Literal e h = absurd h
stopped_none r b Dot e h = absurd h
stopped_none r b Backslash e h = absurd h
stopped_none r b Bracket e h = absurd h
stopped_none r b Opening e h = absurd h
stopped_none r b Closing e h = absurd h
stopped_none r b Bar e h = absurd h
stopped_none r b Dollar e h = absurd h

length_snoc : {A : Type 0} → (xs : List A) (x : A) → length (xs ++ x ∷ []) ≡ suc (length xs)
length_snoc [] x = refl
length_snoc (y ∷ xs) x = ap suc (length_snoc xs x)

-- the whole group is an atom
grouped : (f : Bool) (o v : List ℕ) (m : Made) → IsOpening o → IsMade Alts f v m → IsMade Atom f (o ++ (v ++ 41 ∷ [])) m
grouped f o v m (inl e) h = (h.0, group v (ap (λ y. y ++ (v ++ 41 ∷ [])) e) h.1, h.2)
grouped f o v m (inr e) h = (h.0, plain_group v (ap (λ y. y ++ (v ++ 41 ∷ [])) e) h.1, h.2)

pub closing_step : (r s : Reader) (b : ℕ) → kind_of b ≡ Closing → IsLeft r s → IsStep (at r Ready) b (Some s)
closing_step r s b k (frs, fr, m, e, g, h) = subst (λ x. IsStep (at r Ready) b (Some x)) (sym h) (
  ap (plain_next (length r.outer)) k ∙ ap (λ n. plain_next n Closing) (ap length e ∙ length_snoc frs fr),
  λ w x.
      let u = outer_unsnoc r.fold x.around frs fr (subst (AreOuter r.fold x.around) e x.outer) in
      record {
        head = x.head;
        around = u.0;
        inside = u.1;
        rest = u.2 ++ (x.inside ++ 41 ∷ []);
        is = closing_text w x.head x.around x.inside x.rest u.0 u.1 u.2 b x.is x.pending u.3 (kind_is b Closing k);
        begins = x.begins;
        outer = u.4;
        top = u.5;
        pending = grouped r.fold u.2 x.inside m u.6 (g r.fold x.inside x.top);
        start = tt;
      },
)
  where
    closing_text : (w h a i p c d o : List ℕ) (b : ℕ) → w ≡ h ++ (a ++ (i ++ p)) → p ≡ [] → a ≡ c ++ (d ++ o) → b ≡ 41 →
        w ++ b ∷ [] ≡ h ++ (c ++ (d ++ (o ++ (i ++ 41 ∷ []))))
    closing_text w h a i p c d o b e n q j =
        longer w h a i p b e
        ∙ ap (λ y. h ++ y)
        (ap (λ y. a ++ (i ++ y)) (alone p b 41 n j)
        ∙ (ap (λ y. y ++ (i ++ 41 ∷ [])) q ∙ (append_assoc c (d ++ o) (i ++ 41 ∷ []) ∙ ap (λ y. c ++ y) (append_assoc d o (i ++ 41 ∷ [])))))

pub bar_step : (r s : Reader) (b : ℕ) → kind_of b ≡ Bar → IsBarred r s → IsStep (at r Ready) b (Some s)
bar_step r s b k (m, g, h) = subst (λ x. IsStep (at r Ready) b (Some x)) (sym h) (
  ap (plain_next (length r.outer)) k,
  λ w x.
      let t = x.top in
      record {
        head = x.head;
        around = x.around;
        inside = t.0 ++ (t.1 ++ 124 ∷ []);
        rest = [];
        is =
            longer w x.head x.around x.inside x.rest b x.is
            ∙ ap (λ y. x.head ++ (x.around ++ y))
            (ap (λ y. x.inside ++ y) (alone x.rest b 124 x.pending (kind_is b Bar k))
            ∙ (ap (λ y. y ++ 124 ∷ []) t.2 ∙ (append_assoc t.0 t.1 (124 ∷ []) ∙ sym (append-nil (t.0 ++ (t.1 ++ 124 ∷ []))))));
        begins = x.begins;
        outer = x.outer;
        top = (t.0 ++ (t.1 ++ 124 ∷ []), [], sym (append-nil (t.0 ++ (t.1 ++ 124 ∷ []))), branches_snoc r.fold t.0 t.1 r.top.branches m t.3 (g r.fold t.1 t.4), refl);
        pending = refl;
        start = tt;
      },
)

-- ---- what is pending goes into the choice

pub added_settled : (r s : Reader) → IsAdded r s → (r.place ≡ Atomic) ⊎ (r.place ≡ Counted) → IsSettled r s
added_settled r s (m, h) p = subst (IsSettled r) (sym h) (record {
  place = refl;
  deep = deep p;
  reads = λ w x.
      let t = x.top in
      record {
        head = x.head;
        around = x.around;
        inside = x.inside ++ x.rest;
        rest = [];
        is = x.is ∙ ap (λ y. x.head ++ (x.around ++ y)) (sym (append-nil (x.inside ++ x.rest)));
        begins = x.begins;
        outer = x.outer;
        top = (
          t.0,
          t.1 ++ x.rest,
          ap (λ y. y ++ x.rest) t.2 ∙ append_assoc t.0 t.1 x.rest,
          t.3,
          pieces_snoc r.fold t.1 x.rest r.top.pieces r.pending t.4 (as_piece x.rest p x.pending),
        );
        pending = refl;
        start = tt;
      };
})
  where
    deep : (r.place ≡ Atomic) ⊎ (r.place ≡ Counted) → length r.outer ≡ depth r
    deep (inl e) = ap (λ q. depth (at r q)) (sym e)
    deep (inr e) = ap (λ q. depth (at r q)) (sym e)

    as_piece : (y : List ℕ) → (r.place ≡ Atomic) ⊎ (r.place ≡ Counted) → IsPending r r.place y → IsMade Piece r.fold y r.pending
    as_piece y (inl e) g = let k = subst (λ q. IsPending r q y) e g in (k.0, once k.1, k.2)
    as_piece y (inr e) g = (subst (λ q. IsPending r q y) e g).0

-- a group is opened behind its opening
pub opened_reads : (r s : Reader) (w o : List ℕ) → IsOpened r s → IsOpening o → (x : Reads r w) → (v : List ℕ) → x.rest ++ v ≡ o → Reads s (w ++ v)
opened_reads r s w o h k x v e = subst (λ y. Reads y (w ++ v)) (sym h) (record {
  head = x.head;
  around = x.around ++ (x.inside ++ o);
  inside = [];
  rest = [];
  is =
      ap (λ y. y ++ v) x.is
      ∙ (append_assoc x.head (x.around ++ (x.inside ++ x.rest)) v
      ∙ ap (λ y. x.head ++ y)
      (append_assoc x.around (x.inside ++ x.rest) v
      ∙ (ap (λ y. x.around ++ y) (append_assoc x.inside x.rest v ∙ ap (λ y. x.inside ++ y) e) ∙ sym (append-nil (x.around ++ (x.inside ++ o))))));
  begins = x.begins;
  outer = outer_snoc r.fold x.around x.inside o r.outer r.top x.outer x.top k;
  top = ([], [], refl, refl, refl);
  pending = refl;
  start = tt;
})

pub opened_settled : (r s : Reader) (first : Bool) → IsOpened r s → r.place ≡ Opened first → IsSettled r s
opened_settled r s first h p = record {
  place = ap (λ y. y.place) h;
  deep = ap (λ y. length y.outer) h ∙ (length_snoc r.outer r.top ∙ ap (λ q. depth (at r q)) (sym p));
  reads = λ w x.
      subst (Reads s) (append-nil w)
      (opened_reads r s w (40 ∷ []) h (inl refl) x [] (append-nil x.rest ∙ subst (λ q. IsPending r q x.rest) p x.pending));
}

pub ready_settled : (r : Reader) → (r.place ≡ Begin) ⊎ ((r.place ≡ Begun) ⊎ (r.place ≡ Ready)) → IsSettled r (at r Ready)
ready_settled r (inl e) = record {
  place = refl;
  deep = ap (λ q. depth (at r q)) (sym e);
  reads = λ w x. record {
    head = x.head;
    around = x.around;
    inside = x.inside;
    rest = x.rest;
    is = x.is;
    begins = x.begins;
    outer = x.outer;
    top = x.top;
    pending = subst (λ q. IsPending r q x.rest) e x.pending;
    start = tt;
  };
}
ready_settled r (inr (inl e)) = record {
  place = refl;
  deep = ap (λ q. depth (at r q)) (sym e);
  reads = λ w x. record {
    head = x.head;
    around = x.around;
    inside = x.inside;
    rest = x.rest;
    is = x.is;
    begins = x.begins;
    outer = x.outer;
    top = x.top;
    pending = subst (λ q. IsPending r q x.rest) e x.pending;
    start = tt;
  };
}
ready_settled r (inr (inr e)) = record {
  place = refl;
  deep = ap (λ q. depth (at r q)) (sym e);
  reads = λ w x. record {
    head = x.head;
    around = x.around;
    inside = x.inside;
    rest = x.rest;
    is = x.is;
    begins = x.begins;
    outer = x.outer;
    top = x.top;
    pending = subst (λ q. IsPending r q x.rest) e x.pending;
    start = tt;
  };
}

-- a settled reader goes on as one where a piece may begin
pub settled_step : (r s : Reader) (b : ℕ) (o : Option Reader) → IsSettled r s → IsStepTo (plain_next (length s.outer) (kind_of b)) s b o →
    IsStepTo (plain_next (depth r) (kind_of b)) r b o
settled_step r s b None h k = subst (λ n. plain_next n (kind_of b) ≡ None) h.deep k
settled_step r s b (Some t) h k =
    (subst (λ n. plain_next n (kind_of b) ≡ Some (depth t, t.place)) h.deep k.0, λ w x. k.1 w (h.reads w x))

-- ---- at the start

abbrev pub stands_at : Reader → Moved
stands_at r = Some (depth r, r.place)

abbrev to_place : ℕ → Place → Moved
to_place d p = Some (d, p)

pub first_opening : (r : Reader) (b : ℕ) → b ≡ 40 → IsStep (at r Begin) b (Some (at r (Opened true)))
first_opening r b e = subst (λ x. IsStep (at r Begin) x (Some (at r (Opened true)))) (sym e)
    (step_moved (at r Begin) r.pending r.negated r.set (Opened true) 40 refl (λ p h. alone p 40 40 h refl) (λ w h. alone w 40 40 h.0 refl))

new_reads : (f : Bool) (r : Reader) (p : Place) (w : List ℕ) → IsNew f p r → IsHead f w → ((s : Reader) → s.outer ≡ [] → IsPending s p []) → IsStart f p w → Reads r w
new_reads f r p w (m, n, t, e) h g k =
    subst (λ y. Reads y w) (sym e) (record {
      head = w;
      around = [];
      inside = [];
      rest = [];
      is = sym (append-nil w);
      begins = h;
      outer = refl;
      top = ([], [], refl, refl, refl);
      pending = g (record { fold = f; outer = []; top = no_frame; pending = m; negated = n; set = t; place = p }) refl;
      start = k;
    })

pub begin_reads : (r : Reader) → IsNew false Begin r → Reads r []
begin_reads r h = new_reads false r Begin [] h ([], refl, inl refl) (λ s e. refl) (refl, refl)

pub begin_caret : (r s : Reader) (b : ℕ) → b ≡ 94 → IsNew r.fold Ready s → IsStep (at r Begin) b (Some s)
begin_caret r s b e h = (
  ap (next (length r.outer) Begin) e ∙ sym (new_place s r.fold h),
  λ w x.
      new_reads r.fold s Ready (w ++ b ∷ []) h
      (subst (λ f. IsHead f (w ++ b ∷ [])) (sym x.start.1) (94 ∷ [], alone w b 94 x.start.0 e, inr refl)) (λ q i. refl) tt,
)
  where
    new_place : (q : Reader) (f : Bool) → IsNew f Ready q → stands_at q ≡ to_place 0 Ready
    new_place q f (m, n, t, i) = ap (λ y. Some (depth y, y.place)) i

pub begun_caret : (r s : Reader) (b : ℕ) → b ≡ 94 → IsNew r.fold Ready s → IsStep (at r Begun) b (Some s)
begun_caret r s b e h = (
  ap (next (length r.outer) Begun) e ∙ sym (new_place s r.fold h),
  λ w x.
      new_reads r.fold s Ready (w ++ b ∷ []) h
      (subst (λ f. IsHead f (w ++ b ∷ [])) (sym x.start.1) (94 ∷ [], ap (λ y. y ++ b ∷ []) x.start.0 ∙ ap (λ y. flag true ++ y ∷ []) e, inr refl)) (λ q i. refl) tt,
)
  where
    new_place : (q : Reader) (f : Bool) → IsNew f Ready q → stands_at q ≡ to_place 0 Ready
    new_place q f (m, n, t, i) = ap (λ y. Some (depth y, y.place)) i

pub opened_mark : (r : Reader) (first : Bool) (b : ℕ) → b ≡ 63 → IsStep (at r (Opened first)) b (Some (at r (Marked first)))
opened_mark r first b e = subst (λ x. IsStep (at r (Opened first)) x (Some (at r (Marked first)))) (sym e)
    (step_moved (at r (Opened first)) r.pending r.negated r.set (Marked first) 63 refl (λ p h. ap (λ y. y ++ 63 ∷ []) h) (start first))
  where
    start : (c : Bool) → (w : List ℕ) → IsStart r.fold (Opened c) w → IsStart r.fold (Marked c) (w ++ 63 ∷ [])
    start true w h = ap (λ y. y ++ 63 ∷ []) h
    start false w h = tt

pub marked_colon : (r s : Reader) (first : Bool) (b : ℕ) → b ≡ 58 → IsOpened r s → IsStep (at r (Marked first)) b (Some s)
marked_colon r s first b e h = subst (λ x. IsStep (at r (Marked first)) x (Some s)) (sym e) (
  sym (ap (λ y. Some (depth y, y.place)) h ∙ ap (λ n. Some (n, Ready)) (length_snoc r.outer r.top)),
  λ w x. opened_reads (at r (Marked first)) s w (40 ∷ 63 ∷ 58 ∷ []) h (inr refl) x (58 ∷ []) (ap (λ y. y ++ 58 ∷ []) x.pending),
)

pub marked_flag : (r : Reader) (b : ℕ) → b ≡ 105 → IsStep (at r (Marked true)) b (Some (at r Flagging))
marked_flag r b e = subst (λ x. IsStep (at r (Marked true)) x (Some (at r Flagging))) (sym e)
    (step_moved (at r (Marked true)) r.pending r.negated r.set Flagging 105 refl (λ p h. ap (λ y. y ++ 105 ∷ []) h) (λ w h. ap (λ y. y ++ 105 ∷ []) h))

pub flag_end : (r s : Reader) (b : ℕ) → b ≡ 41 → IsNew true Begun s → IsStep (at r Flagging) b (Some s)
flag_end r s b e h = subst (λ x. IsStep (at r Flagging) x (Some s)) (sym e) (
  sym (new_place s h),
  λ w x. new_reads true s Begun (w ++ 41 ∷ []) h ([], text w x.start, inl refl) (λ q i. refl) (text w x.start, refl),
)
  where
    new_place : (q : Reader) → IsNew true Begun q → stands_at q ≡ to_place 0 Begun
    new_place q (m, n, t, i) = ap (λ y. Some (depth y, y.place)) i

    text : (w : List ℕ) → w ≡ 40 ∷ 63 ∷ 105 ∷ [] → w ++ 41 ∷ [] ≡ flag true
    text w i = ap (λ y. y ++ 41 ∷ []) i

-- ---- quantifiers

quantified : (f : Bool) (v z : List ℕ) (q : Times) (a m : Made) → IsMade Atom f v a → IsTimes z q → Repeats q a m →
    IsMade Piece f (v ++ z) m × IsMade Piece f ((v ++ z) ++ 63 ∷ []) m
quantified f v z q a m h g k = (
  (_, subst (Spells f Piece (v ++ z) _) (sym k.positions) (times v z q (inl refl) h.1 g), k.term h.0 h.2),
  (_, subst (Spells f Piece ((v ++ z) ++ 63 ∷ []) _) (sym k.positions) (times v z q (inr (append_assoc v z (63 ∷ []))) h.1 g), k.term h.0 h.2),
)

pub quantifier_step : (r s : Reader) (q : Times) (b : ℕ) → IsTimes (b ∷ []) q → next (length r.outer) Atomic b ≡ Some (length r.outer, Counted) → IsQuantified q r s →
    IsStep (at r Atomic) b (Some s)
quantifier_step r s q b t e (m, k, h) = subst (λ x. IsStep (at r Atomic) b (Some x)) (sym h)
    (step_moved (at r Atomic) m r.negated r.set Counted b e (λ p g. quantified r.fold p (b ∷ []) q r.pending m g t k) (λ w g. tt))

pub brace_step : (r : Reader) (b : ℕ) → b ≡ 123 → IsStep (at r Atomic) b (Some (at r (InBraces (Least 0 0))))
brace_step r b e = subst (λ x. IsStep (at r Atomic) x (Some (at r (InBraces (Least 0 0))))) (sym e)
    (step_moved (at r Atomic) r.pending r.negated r.set (InBraces (Least 0 0)) 123 refl
    (λ p h. (p, 123 ∷ [], refl, h, ([], refl, refl, omega arith, tt, refl, omega arith))) (λ w h. tt))

-- in braces
pub braces_step : (r : Reader) (c d : Braces) (b : ℕ) → next (length r.outer) (InBraces c) b ≡ Some (length r.outer, InBraces d) →
    ((z : List ℕ) → IsBracesFront c z → IsBracesFront d (z ++ b ∷ [])) → IsStep (at r (InBraces c)) b (Some (at r (InBraces d)))
braces_step r c d b e g =
    step_moved (at r (InBraces c)) r.pending r.negated r.set (InBraces d) b e
    (λ p h. (h.0, h.1 ++ b ∷ [], ap (λ y. y ++ b ∷ []) h.2 ∙ append_assoc h.0 h.1 (b ∷ []), h.3, g h.1 h.4)) (λ w h. tt)

pub braces_end_step : (r s : Reader) (c : Braces) (q : Times) (b : ℕ) → next (length r.outer) (InBraces c) b ≡ Some (length r.outer, Counted) →
    ((z : List ℕ) → IsBracesFront c z → IsTimes (z ++ b ∷ []) q) → IsQuantified q r s → IsStep (at r (InBraces c)) b (Some s)
braces_end_step r s c q b e g (m, k, h) = subst (λ x. IsStep (at r (InBraces c)) b (Some x)) (sym h)
    (step_moved (at r (InBraces c)) m r.negated r.set Counted b e
    (λ p x.
    let i = quantified r.fold x.0 (x.1 ++ b ∷ []) q r.pending m x.3 (g x.1 x.4) k in
    let t : x.0 ++ (x.1 ++ b ∷ []) ≡ p ++ b ∷ [] = sym (ap (λ y. y ++ b ∷ []) x.2 ∙ append_assoc x.0 x.1 (b ∷ [])) in
    (subst (λ y. IsMade Piece r.fold y m) t i.0, subst (λ y. IsMade Piece r.fold (y ++ 63 ∷ []) m) t i.1))
    (λ w x. tt))

-- the mark behind a quantifier changes nothing
pub lazy_step : (r s : Reader) (b : ℕ) → b ≡ 63 → IsAdded r s → IsStep (at r Counted) b (Some s)
lazy_step r s b e (m, h) = subst (λ x. IsStep (at r Counted) b (Some x)) (sym h) (
  ap (next (length r.outer) Counted) e,
  λ w x.
      let t = x.top in
      record {
        head = x.head;
        around = x.around;
        inside = x.inside ++ (x.rest ++ b ∷ []);
        rest = [];
        is = longer w x.head x.around x.inside x.rest b x.is ∙ ap (λ y. x.head ++ (x.around ++ y)) (sym (append-nil (x.inside ++ (x.rest ++ b ∷ []))));
        begins = x.begins;
        outer = x.outer;
        top = (
          t.0,
          t.1 ++ (x.rest ++ b ∷ []),
          ap (λ y. y ++ (x.rest ++ b ∷ [])) t.2 ∙ append_assoc t.0 t.1 (x.rest ++ b ∷ []),
          t.3,
          pieces_snoc r.fold t.1 (x.rest ++ b ∷ []) r.top.pieces r.pending t.4 (subst (λ y. IsMade Piece r.fold (x.rest ++ y ∷ []) r.pending) (sym e) x.pending.1),
        );
        pending = refl;
        start = tt;
      },
)

-- ---- in a class

pub class_step : (r : Reader) (c d : Class) (n : Bool) (t : ByteSet) (b : ℕ) → next (length r.outer) (InClass c) b ≡ Some (length r.outer, InClass d) →
    ((p : List ℕ) → IsClassFront r.fold r.negated r.set c p → IsClassFront r.fold n t d (p ++ b ∷ [])) →
    IsStep (at r (InClass c)) b (Some (moved r r.pending n t (InClass d)))
class_step r c d n t b e g = step_moved (at r (InClass c)) r.pending n t (InClass d) b e g (λ w h. tt)

pub class_end_step : (r : Reader) (c : Class) (s t : ByteSet) (b : ℕ) → next (length r.outer) (InClass c) b ≡ Some (length r.outer, Atomic) →
    ((p : List ℕ) → IsClassFront r.fold r.negated r.set c p → IsClass r.fold (p ++ b ∷ []) s) →
    IsStep (at r (InClass c)) b (Some (moved r (made_one s) r.negated t Atomic))
class_end_step r c s t b e g =
    step_moved (at r (InClass c)) (made_one s) r.negated t Atomic b e (λ p h. one_atom r.fold _ s (class (g p h))) (λ w h. tt)
