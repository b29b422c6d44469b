-- What a reader tells at the end, or where it stops.
use Rattle.std.proofs.Common.{◌≡◌, ℕ, zero, suc, ◌<◌, ◌≤◌, Bool, true, false, ◌||◌, ◌==◌, ◌⊎◌, inl, inr, List, [], ◌∷◌, ◌++◌, length, take, slice_index, Some, None, refl, sym, ◌∙◌, ap, subst, append_assoc, length-append, arith}
use Rattle.rx_term.specs.declared.terms.Term.{Term}
use Rattle.rx_term.specs.Pattern.{Alts, IsPattern, IsFront, IsFaultAt, flag, place_of, Plain, IsBeyond}
use Rattle.rx_parse.specs.declared.made.Made.{Made}
use Rattle.rx_parse.specs.declared.made.Frame.{Frame}
use Rattle.rx_parse.specs.declared.reader.Reader.{Reader}
use Rattle.rx_parse.specs.declared.place.Place.{Place}
use Rattle.rx_parse.specs.declared.place.Place.TheVariants.{Begin, Begun, Ready, Atomic, Counted, Ended, Escaped, Marked, Flagging, InClass, InBraces}
use Rattle.rx_parse.specs.declared.place.Class.TheVariants.{Slashed, RangeSlashed}
use Rattle.rx_parse.specs.declared.fault.RxFault.TheVariants.{Syntax, NotInSubset, TooLarge}
use Rattle.rx_term.specs.Language.{Has}
use Rattle.rx_parse.proofs.Machine.{Moved, next, run, begins, IsAccepted}
use Rattle.rx_parse.proofs.Held.{IsMade, IsFrame, AreOuter, IsPending, Reads, depth, IsSettled, IsAdded, IsWhole, Stands}
use Rattle.rx_parse.proofs.PlaceOf.{spot}
use Rattle.rx_parse.specs.Results.{is_beyond, is_outside, Explains, IsParsed}
use Rattle.rx_parse.proofs.Runs.{run_none, run_append, or_cases, or_left, or_right, true_eq, eq_true}
use Rattle.rx_parse.proofs.Complete.{pattern_run, front_lives}
use Rattle.rx_parse.proofs.Steps.{at, added_settled, ready_settled}

no_bool : true ≡ false → ⊥
no_bool e = cc

-- ---- where the machine stops

-- a run that stops at a byte stops at it in each longer front
dead_take : (v z : List ℕ) (c b : ℕ) (m : Moved) → run m (v ++ c ∷ []) ≡ None → length v < b → run m (take b (v ++ c ∷ z)) ≡ None
dead_take v z c zero m e h = absurd (omega arith)
dead_take [] z c (suc b) m e h = run_append (c ∷ []) (take b z) m ∙ (ap (λ n. run n (take b z)) e ∙ run_none (take b z))
dead_take (x ∷ v) z c (suc b) None e h = refl
dead_take (x ∷ v) z c (suc b) (Some s) e h = dead_take v z c b (next s.0 s.1 x) e (omega arith)

pub take_front : (v z : List ℕ) → take (length v) (v ++ z) ≡ v
take_front [] z = refl
take_front (x ∷ v) z = ap (λ y. x ∷ y) (take_front v z)

no_some : {A : Type 0} → (x : A) → Some x ≡ None → ⊥
no_some x e = cc

not_accepted : (m : Moved) → m ≡ None → IsAccepted m → ⊥
not_accepted m e h = no_some (zero, h.0) (sym h.1 ∙ e)

at_most : (a b : ℕ) → (a < b → ⊥) → b ≤ a
at_most a b h = omega (arith, h)

pub stopped : (v z : List ℕ) (c : ℕ) → IsFront v → run begins (v ++ c ∷ []) ≡ None → IsFaultAt (v ++ c ∷ z) (length v)
stopped v z c f e = record {
  none = λ t k p.
      not_accepted (run begins (v ++ c ∷ z)) (ap (run begins) (sym (append_assoc v (c ∷ []) z)) ∙ (run_append (v ++ c ∷ []) z begins ∙ (ap (λ m. run m z) e ∙ run_none z)))
      (pattern_run (v ++ c ∷ z) t k p);
  within = omega (arith, length-append v (c ∷ z));
  front = subst IsFront (sym (take_front v (c ∷ z))) f;
  longest = λ b l g. at_most (length v) b (λ h. front_lives (take b (v ++ c ∷ z)) g (dead_take v z c b begins e h));
}

take_whole : (w : List ℕ) → take (length w) w ≡ w
take_whole [] = refl
take_whole (x ∷ w) = ap (λ y. x ∷ y) (take_whole w)

pub unfinished : (w : List ℕ) → IsFront w → (IsAccepted (run begins w) → ⊥) → IsFaultAt w (length w)
unfinished w f h = record {
  none = λ t k p. h (pattern_run w t k p);
  within = omega arith;
  front = subst IsFront (sym (take_whole w)) f;
  longest = λ b l g. l;
}

-- ---- the end of the text

-- what a reader that has settled holds is a pattern
pub whole_text : (w h a i p v back : List ℕ) → w ≡ h ++ (a ++ (i ++ p)) → a ≡ [] → p ≡ back → w ≡ h ++ (i ++ back)
whole_text w h a i p v back e n m = e ∙ (ap (λ y. h ++ (y ++ (i ++ p))) n ∙ ap (λ y. h ++ (i ++ y)) m)

whole_with : (r : Reader) (w : List ℕ) (m : Made) (back : List ℕ) → (x : Reads r w) → r.outer ≡ [] → x.rest ≡ back → (back ≡ []) ⊎ (back ≡ 36 ∷ []) →
    ((f : Bool) (v : List ℕ) → IsFrame f v r.top → IsMade Alts f v m) → IsWhole w m
whole_with r w m back x o n b h =
    let s = h r.fold x.inside x.top in
    let a : x.around ≡ [] = subst (AreOuter r.fold x.around) o x.outer in
    let e : w ≡ flag r.fold ++ (x.begins.0 ++ (x.inside ++ back)) =
    whole_text w x.head x.around x.inside x.rest [] back x.is a n
    ∙ (ap (λ y. y ++ (x.inside ++ back)) x.begins.1 ∙ append_assoc (flag r.fold) x.begins.0 (x.inside ++ back)) in
    (s.0, (r.fold, x.begins.0, x.inside, back, e, x.begins.2, b, s.1), s.2)

no_length : (xs : List Frame) → length xs ≡ 0 → xs ≡ []
no_length [] e = refl
no_length (x ∷ xs) e = absurd (omega arith)

pub settled_whole : (r s : Reader) (m : Made) → IsSettled r s → depth r ≡ 0 → ((f : Bool) (v : List ℕ) → IsFrame f v s.top → IsMade Alts f v m) →
    (w : List ℕ) → Reads r w → IsWhole w m
settled_whole r s m h d g w x =
    let y = h.reads w x in
    whole_with s w m [] y (no_length s.outer (h.deep ∙ d)) (subst (λ q. IsPending s q y.rest) h.place y.pending) (inl refl) g

pub ended_whole : (r : Reader) (m : Made) → r.place ≡ Ended → ((f : Bool) (v : List ℕ) → IsFrame f v r.top → IsMade Alts f v m) →
    (w : List ℕ) → Reads r w → IsWhole w m
ended_whole r m e g w x =
    let p = subst (λ q. IsPending r q x.rest) e x.pending in
    whole_with r w m (36 ∷ []) x p.1 p.0 (inr refl) g

pub ready_whole : (r s : Reader) (m : Made) → s ≡ at r Ready → r.outer ≡ [] → (r.place ≡ Begin) ⊎ ((r.place ≡ Begun) ⊎ (r.place ≡ Ready)) →
    ((f : Bool) (v : List ℕ) → IsFrame f v s.top → IsMade Alts f v m) → (w : List ℕ) → Reads r w → IsWhole w m
ready_whole r s m e o p g =
    settled_whole r (at r Ready) m (ready_settled r p) (deep p) (subst (λ x. (f : Bool) (v : List ℕ) → IsFrame f v x.top → IsMade Alts f v m) e g)
  where
    deep : (r.place ≡ Begin) ⊎ ((r.place ≡ Begun) ⊎ (r.place ≡ Ready)) → depth r ≡ 0
    deep (inl h) = ap (λ q. depth (at r q)) h ∙ ap length o
    deep (inr (inl h)) = ap (λ q. depth (at r q)) h ∙ ap length o
    deep (inr (inr h)) = ap (λ q. depth (at r q)) h ∙ ap length o

pub added_whole : (r s : Reader) (m : Made) → IsAdded r s → r.outer ≡ [] → (r.place ≡ Atomic) ⊎ (r.place ≡ Counted) →
    ((f : Bool) (v : List ℕ) → IsFrame f v s.top → IsMade Alts f v m) → (w : List ℕ) → Reads r w → IsWhole w m
added_whole r s m a o p g = settled_whole r s m (added_settled r s a p) (deep p) g
  where
    deep : (r.place ≡ Atomic) ⊎ (r.place ≡ Counted) → depth r ≡ 0
    deep (inl h) = ap (λ q. depth (at r q)) h ∙ ap length o
    deep (inr h) = ap (λ q. depth (at r q)) h ∙ ap length o

-- ---- one byte after the other

-- ---- the kinds of faults

beyond_spot : (p : Place) → is_beyond p ≡ true → IsBeyond (spot p)
beyond_spot Escaped h = tt
beyond_spot (Marked first) h = tt
beyond_spot Flagging h = tt
beyond_spot (InBraces c) h = tt
beyond_spot (InClass Slashed) h = tt
beyond_spot (InClass (RangeSlashed a)) h = tt
beyond_spot p h = cc

spot_beyond : (p : Place) → IsBeyond (spot p) → is_beyond p ≡ true
spot_beyond Escaped h = refl
spot_beyond (Marked first) h = refl
spot_beyond Flagging h = refl
spot_beyond (InBraces c) h = refl
spot_beyond (InClass Slashed) h = refl
spot_beyond (InClass (RangeSlashed a)) h = refl
spot_beyond p h = absurd h

among_byte : (b x : ℕ) → x ≡ b → (b == 94 || (b == 36 || b == 58)) ≡ true → Has (94 ∷ 36 ∷ 58 ∷ []) x
among_byte b x e h =
    elim (or_cases (b == 94) _ h) [
      | inl k ↦ inl (sym (e ∙ true_eq b 94 k))
      | inr k ↦ elim (or_cases (b == 36) _ k) [ inl j ↦ inr (inl (sym (e ∙ true_eq b 36 j))) | inr j ↦ inr (inr (inl (sym (e ∙ true_eq b 58 j)))) ]
    ]

byte_among : (b x : ℕ) → x ≡ b → Has (94 ∷ 36 ∷ 58 ∷ []) x → (b == 94 || (b == 36 || b == 58)) ≡ true
byte_among b x e (inl h) = or_left (b == 94) _ (eq_true b 94 (sym (h ∙ e)))
byte_among b x e (inr (inl h)) = or_right (b == 94) _ (or_left (b == 36) _ (eq_true b 36 (sym (h ∙ e))))
byte_among b x e (inr (inr (inl h))) = or_right (b == 94) _ (or_right (b == 36) _ (eq_true b 58 (sym (h ∙ e))))
byte_among b x e (inr (inr (inr z))) = absurd z

pub explain_outside : (p : Place) (b a : ℕ) → is_outside p b ≡ true → (w : List ℕ) → a < length w → slice_index w a ≡ b → place_of Plain (take a w) ≡ spot p → IsFaultAt w a →
    Explains w (NotInSubset a)
explain_outside p b a h w l e g f =
    (f, (l, elim (or_cases (is_beyond p) _ h) [ inl k ↦ inl (subst IsBeyond (sym g) (beyond_spot p k)) | inr k ↦ inr (among_byte b (slice_index w a) e k) ]))

pub explain_syntax : (p : Place) (b a : ℕ) → is_outside p b ≡ false → (w : List ℕ) → a < length w → slice_index w a ≡ b → place_of Plain (take a w) ≡ spot p → IsFaultAt w a →
    Explains w (Syntax a)
explain_syntax p b a h w l e g f = (
  f,
  λ o. no_bool (sym (elim o.1 [
    | inl k ↦ or_left (is_beyond p) _ (spot_beyond p (subst IsBeyond g k))
    | inr k ↦ or_right (is_beyond p) _ (byte_among b (slice_index w a) e k)
  ]) ∙ h),
)

-- a fault at the end of the text is one of syntax
pub explain_end : (w : List ℕ) → IsFaultAt w (length w) → Explains w (Syntax (length w))
explain_end w f = (f, λ o. let k : ⊥ = omega (arith, o.0) in k)

-- ---- answers

pub parsed : (w : List ℕ) (m : Made) (t : Term) → m.term ≡ Some t → m.positions ≤ 4000 → IsWhole w m → IsParsed w t
parsed w m t e l (u, p, s) =
    let i : t ≡ u = subst (λ o. Stands o u m.positions) e s in
    (m.positions, subst (λ x. IsPattern w x m.positions) (sym i) p, l)

pub large : (w : List ℕ) (m : Made) → 4000 < m.positions → IsWhole w m → Explains w (TooLarge m.positions)
large w m l (u, p, s) = (u, p, l)

pub large_none : (w : List ℕ) (m : Made) → m.term ≡ None → IsWhole w m → Explains w (TooLarge m.positions)
large_none w m e (u, p, s) = (u, p, subst (λ o. Stands o u m.positions) e s)
