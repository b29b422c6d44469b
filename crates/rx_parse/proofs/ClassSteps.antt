-- Steps in a class.
use Rattle.std.proofs.Common.{◌≡◌, ◌≢◌, ℕ, ◌+◌, ◌≤◌, Bool, true, false, ◌&&◌, not, cond, ◌==◌, nat_lt, ◌⊎◌, inl, inr, List, [], ◌∷◌, ◌++◌, length, Option, Some, None, refl, sym, ◌∙◌, ap, subst, arith}
use Rattle.rx_term.specs.declared.sets.ByteSet.{ByteSet}
use Rattle.rx_term.specs.Pattern.{IsAny, IsSetLetter, IsSingle, IsAllowedBehind, Slash, behind}
use Rattle.rx_term.specs.Pattern.IsSingle.{plain, bracket}
use Rattle.rx_parse.specs.declared.bytes.Bytes.TheVariants.{Range, Escape, Both}
use Rattle.rx_parse.specs.declared.reader.Reader.{Reader}
use Rattle.rx_parse.specs.declared.place.Class.{Class}
use Rattle.rx_parse.specs.declared.place.Class.TheVariants.{Fresh, Negated, Single, Item, Ranged, Dashed, Slashed, RangeSlashed}
use Rattle.rx_parse.specs.declared.place.Place.TheVariants.{Atomic, InClass}
use Rattle.rx_parse.specs.Kinds.{is_any, is_punct, is_set_letter}
use Rattle.rx_parse.proofs.Machine.{item, class_next}
use Rattle.rx_parse.specs.Sets.{holds, IsSetBy}
use Rattle.rx_parse.proofs.Held.{bare_if, IsClassFront, IsClosed, IsStep}
use Rattle.rx_parse.specs.Answer.{made_one, item_of}
use Rattle.rx_parse.proofs.Runs.{eq_true, eq_false, true_eq, true_and, true_within, lt_true, and_true, true_punct, within_true}
use Rattle.rx_parse.proofs.Classes.{pick_true, pick_false, behind_plain}
use Rattle.rx_parse.proofs.ClassFronts.{later_caret, awaits_fresh, awaits_negated, awaits_item, caret_fresh, caret_negated, front_negated, front_single, front_slash, front_first_dash, front_dash, front_ranged, front_flush, front_ranged_flush, front_range_end, front_range_slash, front_range_escaped, front_escaped, front_letter, front_closed, front_dash_closed}
use Rattle.rx_parse.proofs.Steps.{moved, at, class_step, class_end_step}

abbrev pub in_class : Reader → Class → Reader
in_class r c = at r (InClass c)

not_both : true ≡ false → ⊥
not_both e = cc

single_next : (r : Reader) (a : ℕ) (bare : Bool) (b : ℕ) → b ≢ 45 → class_next (length r.outer) (Single a bare) b ≡ class_next (length r.outer) (Item bare) b
single_next r a bare b n =
    ap (cond (b == 93) (Some (length r.outer, Atomic)))
    (pick_false (b == 45) _ _ (eq_false b 45 n) ∙ sym (pick_false (b == 45) (Some (length r.outer, InClass Dashed)) _ (eq_false b 45 n)))

-- ---- the first byte of an item

-- where an item may begin, with the byte before
abbrev pub Front : Bool → Class → ℕ → Type 0
Front bare Fresh b = (bare ≡ false) × (b ≢ 94)
Front bare Negated b = bare ≡ false
Front bare (Item before) b = (bare ≡ before) × (b ≢ 93)
Front bare c b = ⊥

item_next : (bare : Bool) (c : Class) (d b : ℕ) → Front bare c b → b ≢ 45 → class_next d c b ≡ item bare d b
item_next bare Fresh d b h n = pick_false (b == 94) _ _ (eq_false b 94 h.1) ∙ (pick_false (b == 45) _ _ (eq_false b 45 n) ∙ ap (λ x. item x d b) (sym h.0))
item_next bare Negated d b h n = pick_false (b == 45) _ _ (eq_false b 45 n) ∙ ap (λ x. item x d b) (sym h)
item_next bare (Item before) d b h n = pick_false (b == 93) _ _ (eq_false b 93 h.1) ∙ (pick_false (b == 45) _ _ (eq_false b 45 n) ∙ ap (λ x. item x d b) (sym h.0))
item_next bare (Single a x) d b h n = absurd h
item_next bare (Ranged a) d b h n = absurd h
item_next bare Dashed d b h n = absurd h
item_next bare Slashed d b h n = absurd h
item_next bare (RangeSlashed a) d b h n = absurd h

allowed : (bare : Bool) (b : ℕ) → not (bare && b == 58) ≡ true → IsAllowedBehind (bare_if bare) b
allowed true b h = λ e. no (sym (ap not (eq_true b 58 e)) ∙ h)
  where
    no : false ≡ true → ⊥
    no e = cc
allowed false b h = tt

-- a byte of the alphabet that may stand as a single, `]` as the first one alone
one_single : (first : Bool) (b : ℕ) → IsAny b → b ≢ 92 → b ≢ 45 → (first ≡ true) ⊎ (b ≢ 93) → IsSingle first (b ∷ []) b
one_single first b h n m (inr o) = plain h n o m
one_single first b h n m (inl e) = subst (λ x. IsSingle x (b ∷ []) b) (sym e) (either (b == 93) refl)
  where
    either : (c : Bool) → (b == 93) ≡ c → IsSingle true (b ∷ []) b
    either true i = subst (λ x. IsSingle true (x ∷ []) x) (sym (true_eq b 93 i)) bracket
    either false i = plain h n (λ g. let k : false ≡ true = sym i ∙ eq_true b 93 g in absurd (let j : false ≡ true → ⊥ = λ q. cc in j k)) m

single_front : (f n bare : Bool) (s : ByteSet) (c : Class) (p : List ℕ) (b : ℕ) → Front bare c b → IsAny b → b ≢ 92 → b ≢ 45 → not (bare && b == 58) ≡ true →
    IsClassFront f n s c p → IsClassFront f n s (Single b (b == 91)) (p ++ b ∷ [])
single_front f n bare s Fresh p b h a m k g x =
    front_single f n true s Fresh p b (awaits_fresh f n s p x) (caret_fresh f n s p b x h.1) (one_single true b a m k (inl refl)) tt (sym (behind_plain false b m))
single_front f n bare s Negated p b h a m k g x =
    front_single f n true s Negated p b (awaits_negated f n s p x) (caret_negated f n s p b x) (one_single true b a m k (inl refl)) tt (sym (behind_plain false b m))
single_front f n bare s (Item before) p b h a m k g x =
    front_single f n false s (Item before) p b (awaits_item f n before s p x) (later_caret n x.body b x.start) (one_single false b a m k (inr h.1))
    (subst (λ y. IsAllowedBehind (bare_if y) b) h.0 (allowed bare b g)) (sym (behind_plain before b m))
single_front f n bare s (Single z y) p b h a m k g x = absurd h
single_front f n bare s (Ranged z) p b h a m k g x = absurd h
single_front f n bare s Dashed p b h a m k g x = absurd h
single_front f n bare s Slashed p b h a m k g x = absurd h
single_front f n bare s (RangeSlashed z) p b h a m k g x = absurd h

slash_allowed : (m : Bool) → IsAllowedBehind (bare_if m) 92
slash_allowed true = λ e. let k : ⊥ = omega arith in k
slash_allowed false = tt

slash_behind : (m : Bool) → Slash ≡ behind (bare_if m) 92
slash_behind true = refl
slash_behind false = refl

slash_front : (f n bare : Bool) (s : ByteSet) (c : Class) (p : List ℕ) → Front bare c 92 → IsClassFront f n s c p → IsClassFront f n s Slashed (p ++ 92 ∷ [])
slash_front f n bare s Fresh p h x = front_slash f n true s Fresh p (awaits_fresh f n s p x) (caret_fresh f n s p 92 x h.1) tt refl
slash_front f n bare s Negated p h x = front_slash f n true s Negated p (awaits_negated f n s p x) (caret_negated f n s p 92 x) tt refl
slash_front f n bare s (Item before) p h x =
    front_slash f n false s (Item before) p (awaits_item f n before s p x) (later_caret n x.body 92 x.start) (slash_allowed before) (slash_behind before)
slash_front f n bare s (Single z y) p h x = absurd h
slash_front f n bare s (Ranged z) p h x = absurd h
slash_front f n bare s Dashed p h x = absurd h
slash_front f n bare s Slashed p h x = absurd h
slash_front f n bare s (RangeSlashed z) p h x = absurd h

item_second : (r : Reader) (bare : Bool) (c : Class) (b : ℕ) → Front bare c b → b ≢ 45 → b ≢ 92 → (t : Bool) → (is_any b && not (bare && b == 58)) ≡ t →
    IsStep (in_class r c) b (cond t (Some (in_class r (Single b (b == 91)))) None)
item_second r bare c b h n m true e =
    let u = true_and (is_any b) _ e in
    class_step r c (Single b (b == 91)) r.negated r.set b
    (item_next bare c (length r.outer) b h n ∙ (pick_false (b == 92) _ _ (eq_false b 92 m) ∙ pick_true (is_any b && not (bare && b == 58)) _ _ e))
    (λ p x. single_front r.fold r.negated bare r.set c p b h (true_within 32 126 b u.0) m n u.1 x)
item_second r bare c b h n m false e =
    item_next bare c (length r.outer) b h n ∙ (pick_false (b == 92) _ _ (eq_false b 92 m) ∙ pick_false (is_any b && not (bare && b == 58)) _ _ e)

item_first : (r : Reader) (bare : Bool) (c : Class) (b : ℕ) → Front bare c b → b ≢ 45 → (t : Bool) → (b == 92) ≡ t →
    (b ≢ 92 → IsStep (in_class r c) b (cond (is_any b && not (bare && b == 58)) (Some (in_class r (Single b (b == 91)))) None)) →
    IsStep (in_class r c) b (cond t (Some (in_class r Slashed)) (cond (is_any b && not (bare && b == 58)) (Some (in_class r (Single b (b == 91)))) None))
item_first r bare c b h n true e g =
    class_step r c Slashed r.negated r.set b (item_next bare c (length r.outer) b h n ∙ pick_true (b == 92) _ _ e)
    (λ p x. subst (λ y. IsClassFront r.fold r.negated r.set Slashed (p ++ y ∷ [])) (sym (true_eq b 92 e))
    (slash_front r.fold r.negated bare r.set c p (subst (Front bare c) (true_eq b 92 e) h) x))
item_first r bare c b h n false e g = g (λ i. not_both (sym (eq_true b 92 i) ∙ e))

pub item_step : (r : Reader) (bare : Bool) (c : Class) (b : ℕ) → Front bare c b → b ≢ 45 → IsStep (in_class r c) b (item_of r bare b)
item_step r bare c b h n =
    item_first r bare c b h n (b == 92) refl (λ m. item_second r bare c b h n m (is_any b && not (bare && b == 58)) refl)

-- ---- the other steps

pub caret_step : (r : Reader) (b : ℕ) → b ≡ 94 → IsStep (in_class r Fresh) b (Some (moved r r.pending true r.set (InClass Negated)))
caret_step r b e = subst (λ x. IsStep (in_class r Fresh) x (Some (moved r r.pending true r.set (InClass Negated)))) (sym e)
    (class_step r Fresh Negated true r.set 94 refl (λ p x. front_negated r.fold r.negated r.set p x))

pub fresh_dash : (r : Reader) (u t : ByteSet) (b : ℕ) → b ≡ 45 → IsSetBy (holds (Range false b b)) u → IsSetBy (holds (Both r.set u)) t →
    IsStep (in_class r Fresh) b (Some (moved r r.pending r.negated t (InClass (Item false))))
fresh_dash r u t b e i k =
    subst (λ x. IsSetBy (holds (Range false x x)) u → IsStep (in_class r Fresh) x (Some (moved r r.pending r.negated t (InClass (Item false))))) (sym e)
    (λ j. class_step r Fresh (Item false) r.negated t 45 refl
    (λ p x. front_first_dash r.fold r.negated r.set u t Fresh p (awaits_fresh r.fold r.negated r.set p x)
    (caret_fresh r.fold r.negated r.set p 45 x (λ g. let q : ⊥ = omega arith in q)) tt refl j k))
    i

pub negated_dash : (r : Reader) (u t : ByteSet) (b : ℕ) → b ≡ 45 → IsSetBy (holds (Range false b b)) u → IsSetBy (holds (Both r.set u)) t →
    IsStep (in_class r Negated) b (Some (moved r r.pending r.negated t (InClass (Item false))))
negated_dash r u t b e i k =
    subst (λ x. IsSetBy (holds (Range false x x)) u → IsStep (in_class r Negated) x (Some (moved r r.pending r.negated t (InClass (Item false))))) (sym e)
    (λ j. class_step r Negated (Item false) r.negated t 45 refl
    (λ p x. front_first_dash r.fold r.negated r.set u t Negated p (awaits_negated r.fold r.negated r.set p x) (caret_negated r.fold r.negated r.set p 45 x) tt refl j k))
    i

pub ranged_step : (r : Reader) (a : ℕ) (bare : Bool) (b : ℕ) → b ≡ 45 → IsStep (in_class r (Single a bare)) b (Some (in_class r (Ranged a)))
ranged_step r a bare b e = subst (λ x. IsStep (in_class r (Single a bare)) x (Some (in_class r (Ranged a)))) (sym e)
    (class_step r (Single a bare) (Ranged a) r.negated r.set 45 refl (λ p x. front_ranged r.fold r.negated bare a r.set p x))

pub dash_step : (r : Reader) (bare : Bool) (b : ℕ) → b ≡ 45 → IsStep (in_class r (Item bare)) b (Some (in_class r Dashed))
dash_step r bare b e = subst (λ x. IsStep (in_class r (Item bare)) x (Some (in_class r Dashed))) (sym e)
    (class_step r (Item bare) Dashed r.negated r.set 45 refl (λ p x. front_dash r.fold r.negated bare r.set p x))

pub close_step : (r : Reader) (bare : Bool) (s : ByteSet) (b : ℕ) → b ≡ 93 → IsClosed r.negated r.set s →
    IsStep (in_class r (Item bare)) b (Some (moved r (made_one s) r.negated r.set Atomic))
close_step r bare s b e h = subst (λ x. IsStep (in_class r (Item bare)) x (Some (moved r (made_one s) r.negated r.set Atomic))) (sym e)
    (class_end_step r (Item bare) s r.set 93 refl (λ p x. front_closed r.fold r.negated bare r.set s p x h))

pub dash_close_step : (r : Reader) (u t s : ByteSet) (b : ℕ) → b ≡ 93 → IsSetBy (holds (Range false 45 45)) u → IsSetBy (holds (Both r.set u)) t →
    IsClosed r.negated t s → IsStep (in_class r Dashed) b (Some (moved r (made_one s) r.negated t Atomic))
dash_close_step r u t s b e i j h = subst (λ x. IsStep (in_class r Dashed) x (Some (moved r (made_one s) r.negated t Atomic))) (sym e)
    (class_end_step r Dashed s t 93 refl (λ p x. front_dash_closed r.fold r.negated r.set u t s p x i j h))

pub dashed_none : (r : Reader) (b : ℕ) → b ≢ 93 → IsStep (in_class r Dashed) b None
dashed_none r b n = pick_false (b == 93) _ _ (eq_false b 93 n)

-- a single that begins no range is an item, and what follows it follows an item
pub flushed_step : (r : Reader) (a : ℕ) (bare : Bool) (u t : ByteSet) (b : ℕ) (o : Option Reader) → b ≢ 45 → IsSetBy (holds (Range r.fold a a)) u →
    IsSetBy (holds (Both r.set u)) t → IsStep (moved r r.pending r.negated t (InClass (Item bare))) b o → IsStep (in_class r (Single a bare)) b o
flushed_step r a bare u t b None n i k h = single_next r a bare b n ∙ h
flushed_step r a bare u t b (Some s) n i k h = (
  single_next r a bare b n ∙ h.0,
  λ w x. h.1 w (record {
    head = x.head;
    around = x.around;
    inside = x.inside;
    rest = x.rest;
    is = x.is;
    begins = x.begins;
    outer = x.outer;
    top = x.top;
    pending = front_flush r.fold r.negated bare a r.set u t x.rest x.pending i k;
    start = tt;
  }),
)

pub ranged_flushed : (r : Reader) (a : ℕ) (u t : ByteSet) (b : ℕ) (o : Option Reader) → b ≡ 93 → IsSetBy (holds (Range r.fold a a)) u →
    IsSetBy (holds (Both r.set u)) t → IsStep (moved r r.pending r.negated t (InClass Dashed)) b o → IsStep (in_class r (Ranged a)) b o
ranged_flushed r a u t b None e i k h = ap (class_next (length r.outer) (Ranged a)) e ∙ (sym (ap (class_next (length r.outer) Dashed) e) ∙ h)
ranged_flushed r a u t b (Some s) e i k h = (
  ap (class_next (length r.outer) (Ranged a)) e ∙ (sym (ap (class_next (length r.outer) Dashed) e) ∙ h.0),
  λ w x. h.1 w (record {
    head = x.head;
    around = x.around;
    inside = x.inside;
    rest = x.rest;
    is = x.is;
    begins = x.begins;
    outer = x.outer;
    top = x.top;
    pending = front_ranged_flush r.fold r.negated a r.set u t x.rest x.pending i k;
    start = tt;
  }),
)

pub range_slash_step : (r : Reader) (a b : ℕ) → b ≡ 92 → IsStep (in_class r (Ranged a)) b (Some (in_class r (RangeSlashed a)))
range_slash_step r a b e = subst (λ x. IsStep (in_class r (Ranged a)) x (Some (in_class r (RangeSlashed a)))) (sym e)
    (class_step r (Ranged a) (RangeSlashed a) r.negated r.set 92 refl (λ p x. front_range_slash r.fold r.negated a r.set p x))

range_next : (d a b : ℕ) → b ≢ 93 → b ≢ 92 → class_next d (Ranged a) b ≡ cond (is_any b && (not (b == 45) && nat_lt a (b + 1))) (Some (d, InClass (Item (b == 91)))) None
range_next d a b n m = pick_false (b == 93) _ _ (eq_false b 93 n) ∙ pick_false (b == 92) _ _ (eq_false b 92 m)

pub range_end_step : (r : Reader) (a b : ℕ) (u t : ByteSet) → b ≢ 93 → b ≢ 92 → IsAny b → b ≢ 45 → a ≤ b → IsSetBy (holds (Range r.fold a b)) u →
    IsSetBy (holds (Both r.set u)) t → IsStep (in_class r (Ranged a)) b (Some (moved r r.pending r.negated t (InClass (Item (b == 91)))))
range_end_step r a b u t n m y l h i k =
    class_step r (Ranged a) (Item (b == 91)) r.negated t b
    (range_next (length r.outer) a b n m
    ∙ pick_true (is_any b && (not (b == 45) && nat_lt a (b + 1))) _ _
    (and_true (is_any b) _ (within_true 32 126 b y.0 y.1) (and_true (not (b == 45)) _ (ap not (eq_false b 45 l)) (lt_true a (b + 1) (omega arith)))))
    (λ p x. front_range_end r.fold r.negated a b r.set u t p x (plain y m n l) h (sym (behind_plain false b m)) i k)

pub range_none : (r : Reader) (a b : ℕ) → b ≢ 93 → b ≢ 92 → (is_any b && (not (b == 45) && nat_lt a (b + 1))) ≡ false → IsStep (in_class r (Ranged a)) b None
range_none r a b n m e = range_next (length r.outer) a b n m ∙ pick_false (is_any b && (not (b == 45) && nat_lt a (b + 1))) _ _ e

pub slashed_punct : (r : Reader) (b : ℕ) → is_punct b ≡ true → IsStep (in_class r Slashed) b (Some (in_class r (Single b false)))
slashed_punct r b e =
    class_step r Slashed (Single b false) r.negated r.set b (pick_true (is_punct b) _ _ e) (λ p x. front_escaped r.fold r.negated b r.set p x (true_punct b e))

pub slashed_letter : (r : Reader) (u t : ByteSet) (b : ℕ) → is_punct b ≡ false → is_set_letter b ≡ true → IsSetLetter b → IsSetBy (holds (Escape b)) u →
    IsSetBy (holds (Both r.set u)) t → IsStep (in_class r Slashed) b (Some (moved r r.pending r.negated t (InClass (Item false))))
slashed_letter r u t b n e l i k =
    class_step r Slashed (Item false) r.negated t b (pick_false (is_punct b) _ _ n ∙ pick_true (is_set_letter b) _ _ e)
    (λ p x. front_letter r.fold r.negated b r.set u t p x l i k)

pub slashed_none : (r : Reader) (b : ℕ) → is_punct b ≡ false → is_set_letter b ≡ false → IsStep (in_class r Slashed) b None
slashed_none r b n e = pick_false (is_punct b) _ _ n ∙ pick_false (is_set_letter b) _ _ e

pub range_escaped_step : (r : Reader) (a b : ℕ) (u t : ByteSet) → is_punct b ≡ true → a ≤ b → IsSetBy (holds (Range r.fold a b)) u → IsSetBy (holds (Both r.set u)) t →
    IsStep (in_class r (RangeSlashed a)) b (Some (moved r r.pending r.negated t (InClass (Item false))))
range_escaped_step r a b u t e l i k =
    class_step r (RangeSlashed a) (Item false) r.negated t b (pick_true (is_punct b && nat_lt a (b + 1)) _ _ (and_true (is_punct b) _ e (lt_true a (b + 1) (omega arith))))
    (λ p x. front_range_escaped r.fold r.negated a b r.set u t p x (true_punct b e) l i k)

pub range_escaped_none : (r : Reader) (a b : ℕ) → (is_punct b && nat_lt a (b + 1)) ≡ false → IsStep (in_class r (RangeSlashed a)) b None
range_escaped_none r a b e = pick_false (is_punct b && nat_lt a (b + 1)) _ _ e
