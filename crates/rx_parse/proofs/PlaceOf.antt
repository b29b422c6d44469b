-- The places of the machine, and those of the scanner that tells the kinds of faults.
use Rattle.std.proofs.Common.{◌≡◌, ◌≢◌, ℕ, zero, suc, ◌+◌, Bool, true, false, ◌&&◌, ◌||◌, not, cond, nat_lt, ◌==◌, if◌then◌else◌, inl, inr, List, [], ◌∷◌, Some, None, refl, sym, ◌∙◌, ap, arith}
use Rattle.rx_term.specs.Pattern.{IsLiteral, next_place, place_of, plainly, in_class, Plain, Opens, Negates, ClassEscaped, Grouped, Flagged}
use Rattle.rx_term.specs.Pattern.{Place as Spot, Escaped as Behind, InClass as Within, InBraces as Braced, Marked as Asked}
use Rattle.rx_parse.specs.declared.place.Kind.{Kind}
use Rattle.rx_parse.specs.declared.place.Kind.TheVariants.{Literal, Dot, Backslash, Bracket, Opening, Closing, Bar, Asterisk, Plus, Question, Brace, Caret, Dollar, Foreign}
use Rattle.rx_parse.specs.declared.place.Class.{Class}
use Rattle.rx_parse.specs.declared.place.Class.TheVariants.{Fresh, Negated, Single, Item, Ranged, Dashed, Slashed, RangeSlashed}
use Rattle.rx_parse.specs.declared.place.Braces.{Braces}
use Rattle.rx_parse.specs.declared.place.Braces.TheVariants.{Least, Most}
use Rattle.rx_parse.specs.declared.place.Place.{Place}
use Rattle.rx_parse.specs.declared.place.Place.TheVariants.{Begin, Begun, Ready, Atomic, Counted, Ended, Escaped, Opened, Marked, Flagging, InClass, InBraces}
use Rattle.rx_parse.specs.Kinds.{kind_of, reaches, digit_next, is_digit, is_any, is_punct, is_set_letter}
use Rattle.rx_parse.proofs.Machine.{Moved, plain_next, begin_next, begun_next, atom_next, counted_next, opened_next, item, class_next, braces_next, next, run}
use Rattle.rx_parse.proofs.Runs.{run_none, true_within, Says, kind_is, true_eq, eq_true, eq_false, true_and}

-- the machine's places as the scanner's that tells the kinds of faults
abbrev pub class_spot : Class → Spot
class_spot Fresh = Opens
class_spot Negated = Negates
class_spot (Single a bare) = Within
class_spot (Item bare) = Within
class_spot (Ranged a) = Within
class_spot Dashed = Within
class_spot Slashed = ClassEscaped
class_spot (RangeSlashed a) = ClassEscaped

abbrev pub spot : Place → Spot
spot Begin = Plain
spot Begun = Plain
spot Ready = Plain
spot Atomic = Plain
spot Counted = Plain
spot Ended = Plain
spot Escaped = Behind
spot (Opened first) = Grouped
spot (Marked first) = Asked
spot Flagging = Flagged
spot (InClass c) = class_spot c
spot (InBraces c) = Braced

no_bool : true ≡ false → ⊥
no_bool e = cc

no_move : (e : ℕ) (q : Place) → ◌≡◌ {A = Moved} None (Some (e, q)) → ⊥
no_move e q h = cc

abbrev place_in : Moved → Place → Place
place_in None p = p
place_in (Some s) p = s.1

to : (d e : ℕ) (p q : Place) → ◌≡◌ {A = Moved} (Some (d, p)) (Some (e, q)) → p ≡ q
to d e p q h = ap (λ m. place_in m p) h

-- where a step leads, by its test
led : (t : Spot) (c : Bool) (d e : ℕ) (p q : Place) (m : Moved) → cond c (Some (d, p)) m ≡ Some (e, q) → (c ≡ true → t ≡ spot p) → (c ≡ false → m ≡ Some (e, q) → t ≡ spot q) →
    t ≡ spot q
led t true d e p q m h f g = f refl ∙ ap spot (to d e p q h)
led t false d e p q m h f g = g refl h

led_last : (t : Spot) (c : Bool) (d e : ℕ) (p q : Place) → cond {A = Moved} c (Some (d, p)) None ≡ Some (e, q) → (c ≡ true → t ≡ spot p) → t ≡ spot q
led_last t c d e p q h f = led t c d e p q None h f (λ i j. absurd (no_move e q j))

-- ---- plain text

unless : (b n : ℕ) (x y : Spot) → b ≢ n → (if b == n then x else y) ≡ y
unless b n x y h = rw (eq_false b n h) refl

plainly_else : (b : ℕ) → b ≢ 92 → b ≢ 91 → b ≢ 123 → b ≢ 40 → plainly b ≡ Plain
plainly_else b h i j k =
    unless b 92 Behind _ h ∙ (unless b 91 Opens _ i ∙ (unless b 123 Braced _ j ∙ unless b 40 Grouped Plain k))

literal_plainly : (b : ℕ) → IsLiteral b → plainly b ≡ Plain
literal_plainly b h =
    plainly_else b (λ e. h.1 (inl (sym e))) (λ e. h.1 (inr (inr (inl (sym e))))) (λ e. h.1 (inr (inr (inr (inr (inr (inr (inr (inr (inr (inl (sym e))))))))))))
    (λ e. h.1 (inr (inr (inr (inl (sym e))))))

plain_spot : (k : Kind) (d b e : ℕ) (q : Place) → Says k b → plain_next d k ≡ Some (e, q) → plainly b ≡ spot q
plain_spot Literal d b e q s h = literal_plainly b s ∙ ap spot (to d e Atomic q h)
plain_spot Dot d b e q s h = ap plainly s ∙ ap spot (to d e Atomic q h)
plain_spot Backslash d b e q s h = ap plainly s ∙ ap spot (to d e Escaped q h)
plain_spot Bracket d b e q s h = ap plainly s ∙ ap spot (to d e (InClass Fresh) q h)
plain_spot Opening d b e q s h = ap plainly s ∙ ap spot (to (suc d) e (Opened false) q h)
plain_spot Closing zero b e q s h = absurd (no_move e q h)
plain_spot Closing (suc d) b e q s h = ap plainly s ∙ ap spot (to d e Atomic q h)
plain_spot Bar d b e q s h = ap plainly s ∙ ap spot (to d e Ready q h)
plain_spot Asterisk d b e q s h = absurd (no_move e q h)
plain_spot Plus d b e q s h = absurd (no_move e q h)
plain_spot Question d b e q s h = absurd (no_move e q h)
plain_spot Brace d b e q s h = absurd (no_move e q h)
plain_spot Caret d b e q s h = absurd (no_move e q h)
plain_spot Dollar zero b e q s h = ap plainly s ∙ ap spot (to zero e Ended q h)
plain_spot Dollar (suc d) b e q s h = absurd (no_move e q h)
plain_spot Foreign d b e q s h = absurd (no_move e q h)

begin_spot : (k : Kind) (d b e : ℕ) (q : Place) → Says k b → begin_next d k ≡ Some (e, q) → plainly b ≡ spot q
begin_spot Opening d b e q s h = ap plainly s ∙ ap spot (to (suc d) e (Opened true) q h)
begin_spot Caret d b e q s h = ap plainly s ∙ ap spot (to zero e Ready q h)
begin_spot k d b e q s h = plain_spot k d b e q s h

begun_spot : (k : Kind) (d b e : ℕ) (q : Place) → Says k b → begun_next d k ≡ Some (e, q) → plainly b ≡ spot q
begun_spot Caret d b e q s h = ap plainly s ∙ ap spot (to zero e Ready q h)
begun_spot k d b e q s h = plain_spot k d b e q s h

atom_spot : (k : Kind) (d b e : ℕ) (q : Place) → Says k b → atom_next d k ≡ Some (e, q) → plainly b ≡ spot q
atom_spot Asterisk d b e q s h = ap plainly s ∙ ap spot (to d e Counted q h)
atom_spot Plus d b e q s h = ap plainly s ∙ ap spot (to d e Counted q h)
atom_spot Question d b e q s h = ap plainly s ∙ ap spot (to d e Counted q h)
atom_spot Brace d b e q s h = ap plainly s ∙ spotted d e q h
  where
    spotted : (i j : ℕ) (x : Place) → atom_next i Brace ≡ Some (j, x) → Braced ≡ spot x
    spotted i j x g = ap spot (to i j _ x g)
atom_spot k d b e q s h = plain_spot k d b e q s h

counted_spot : (k : Kind) (d b e : ℕ) (q : Place) → Says k b → counted_next d k ≡ Some (e, q) → plainly b ≡ spot q
counted_spot Question d b e q s h = ap plainly s ∙ ap spot (to d e Ready q h)
counted_spot k d b e q s h = plain_spot k d b e q s h

mark_kind : (b : ℕ) → b ≡ 63 → kind_of b ≡ Question
mark_kind b e = ap kind_of e

opened_next_plain : (first : Bool) (d : ℕ) (k : Kind) → k ≢ Question → opened_next first d k ≡ plain_next d k
opened_next_plain first d Question h = absurd (h refl)
opened_next_plain first d k h = refl

opened_spot : (first : Bool) (d b e : ℕ) (q : Place) (c : Bool) → (b == 63) ≡ c → opened_next first d (kind_of b) ≡ Some (e, q) → next_place Grouped b ≡ spot q
opened_spot first d b e q true i h =
    let g = true_eq b 63 i in
    ap (next_place Grouped) g ∙ ap spot (to d e (Marked first) q (sym (ap (opened_next first d) (mark_kind b g)) ∙ h))
opened_spot first d b e q false i h =
    let n : b ≢ 63 = λ g. no_bool (sym (eq_true b 63 g) ∙ i) in
    let m : kind_of b ≢ Question = λ g. n (kind_is b Question g) in
    unless b 63 Asked (plainly b) n ∙ plain_spot (kind_of b) d b e q (kind_is b (kind_of b) refl) (sym (opened_next_plain first d (kind_of b) m) ∙ h)

marked_spot : (first : Bool) (d b e : ℕ) (q : Place) → next d (Marked first) b ≡ Some (e, q) → next_place Asked b ≡ spot q
marked_spot first d b e q h =
    led (next_place Asked b) (b == 58) d e Ready q _ h (λ i. ap (next_place Asked) (true_eq b 58 i))
    (λ i g. led_last (next_place Asked b) (first && b == 105) d e Flagging q g (λ j. ap (next_place Asked) (true_eq b 105 (true_and first _ j).1)))

-- ---- classes

in_class_else : (b : ℕ) → (b == 92) ≡ false → in_class b ≡ Within
in_class_else b e = rw e refl

-- behind the first byte of an item
item_spot : (t : Spot) (bare : Bool) (d b e : ℕ) (q : Place) → item bare d b ≡ Some (e, q) → (b ≡ 92 → t ≡ ClassEscaped) → ((b == 92) ≡ false → t ≡ Within) → t ≡ spot q
item_spot t bare d b e q h f g =
    led t (b == 92) d e (InClass Slashed) q _ h (λ i. f (true_eq b 92 i))
    (λ i j. led_last t (is_any b && not (bare && b == 58)) d e (InClass (Single b (b == 91))) q j (λ k. g i))

-- `]` right behind the opening is in the class
opens_else : (b : ℕ) → (b == 92) ≡ false → (if b == 93 then Within else in_class b) ≡ Within
opens_else b i = either (b == 93)
  where
    either : (c : Bool) → (if c then Within else in_class b) ≡ Within
    either true = refl
    either false = in_class_else b i

class_step_spot : (c : Class) (d b e : ℕ) (q : Place) → class_next d c b ≡ Some (e, q) → next_place (class_spot c) b ≡ spot q
class_step_spot Fresh d b e q h =
    led (next_place Opens b) (b == 94) d e (InClass Negated) q _ h (λ i. ap (next_place Opens) (true_eq b 94 i))
    (λ n g. led (next_place Opens b) (b == 45) d e (InClass (Item false)) q _ g (λ i. ap (next_place Opens) (true_eq b 45 i))
    (λ m k. item_spot (next_place Opens b) false d b e q k (λ i. ap (next_place Opens) i) (λ i. rw n (opens_else b i))))
class_step_spot Negated d b e q h =
    led (next_place Negates b) (b == 45) d e (InClass (Item false)) q _ h (λ i. ap (next_place Negates) (true_eq b 45 i))
    (λ m k. item_spot (next_place Negates b) false d b e q k (λ i. ap (next_place Negates) i) (λ i. opens_else b i))
class_step_spot (Single a bare) d b e q h =
    led (next_place Within b) (b == 93) d e Atomic q _ h (λ i. ap (next_place Within) (true_eq b 93 i))
    (λ n g. led (next_place Within b) (b == 45) d e (InClass (Ranged a)) q _ g (λ i. ap (next_place Within) (true_eq b 45 i))
    (λ m k. item_spot (next_place Within b) bare d b e q k (λ i. ap (next_place Within) i) (λ i. rw n (in_class_else b i))))
class_step_spot (Item bare) d b e q h =
    led (next_place Within b) (b == 93) d e Atomic q _ h (λ i. ap (next_place Within) (true_eq b 93 i))
    (λ n g. led (next_place Within b) (b == 45) d e (InClass Dashed) q _ g (λ i. ap (next_place Within) (true_eq b 45 i))
    (λ m k. item_spot (next_place Within b) bare d b e q k (λ i. ap (next_place Within) i) (λ i. rw n (in_class_else b i))))
class_step_spot (Ranged a) d b e q h =
    led (next_place Within b) (b == 93) d e Atomic q _ h (λ i. ap (next_place Within) (true_eq b 93 i))
    (λ n g. led (next_place Within b) (b == 92) d e (InClass (RangeSlashed a)) q _ g (λ i. ap (next_place Within) (true_eq b 92 i))
    (λ m k. led_last (next_place Within b) (is_any b && (not (b == 45) && nat_lt a (b + 1))) d e (InClass (Item (b == 91))) q k (λ i. rw n (in_class_else b m))))
class_step_spot Dashed d b e q h = led_last (next_place Within b) (b == 93) d e Atomic q h (λ i. ap (next_place Within) (true_eq b 93 i))
class_step_spot Slashed d b e q h =
    led (next_place ClassEscaped b) (is_punct b) d e (InClass (Single b false)) q _ h (λ i. refl)
    (λ n g. led_last (next_place ClassEscaped b) (is_set_letter b) d e (InClass (Item false)) q g (λ i. refl))
class_step_spot (RangeSlashed a) d b e q h =
    led_last (next_place ClassEscaped b) (is_punct b && nat_lt a (b + 1)) d e (InClass (Item false)) q h (λ i. refl)

-- ---- braces

digit_stays : (b : ℕ) → is_digit b ≡ true → next_place Braced b ≡ Braced
digit_stays b h = let r = true_within 48 57 b h in unless b 125 Plain Braced (omega arith)

braces_step_spot : (c : Braces) (d b e : ℕ) (q : Place) → braces_next d c b ≡ Some (e, q) → next_place Braced b ≡ spot q
braces_step_spot (Least k v) d b e q h = by_digit (is_digit b) refl h
  where
    by_digit : (t : Bool) → is_digit b ≡ t →
        cond {A = Moved} t (cond {A = Moved} (nat_lt k 3 && nat_lt (digit_next v b) 256) (Some (d, InBraces (Least (k + 1) (digit_next v b)))) None)
        (cond {A = Moved} (b == 44 && nat_lt 0 k) (Some (d, InBraces (Most v 0 0))) (cond {A = Moved} (b == 125 && nat_lt 0 k) (Some (d, Counted)) None)) ≡ Some (e, q) →
        next_place Braced b ≡ spot q
    by_digit true i g = led_last (next_place Braced b) (nat_lt k 3 && nat_lt (digit_next v b) 256) d e (InBraces (Least (k + 1) (digit_next v b))) q g (λ j. digit_stays b i)
    by_digit false i g =
        led (next_place Braced b) (b == 44 && nat_lt 0 k) d e (InBraces (Most v 0 0)) q _ g
        (λ j. ap (next_place Braced) (true_eq b 44 (true_and (b == 44) _ j).0))
        (λ j l. led_last (next_place Braced b) (b == 125 && nat_lt 0 k) d e Counted q l (λ m. ap (next_place Braced) (true_eq b 125 (true_and (b == 125) _ m).0)))
braces_step_spot (Most n k v) d b e q h = by_digit (is_digit b) refl h
  where
    by_digit : (t : Bool) → is_digit b ≡ t →
        cond {A = Moved} t (cond {A = Moved} (nat_lt k 3 && reaches n (k + 1) (digit_next v b)) (Some (d, InBraces (Most n (k + 1) (digit_next v b)))) None)
        (cond {A = Moved} (b == 125 && (k == 0 || nat_lt n (v + 1))) (Some (d, Counted)) None) ≡ Some (e, q) →
        next_place Braced b ≡ spot q
    by_digit true i g =
        led_last (next_place Braced b) (nat_lt k 3 && reaches n (k + 1) (digit_next v b)) d e (InBraces (Most n (k + 1) (digit_next v b))) q g (λ j. digit_stays b i)
    by_digit false i g =
        led_last (next_place Braced b) (b == 125 && (k == 0 || nat_lt n (v + 1))) d e Counted q g (λ m. ap (next_place Braced) (true_eq b 125 (true_and (b == 125) _ m).0))

-- ---- whole runs

step_spot : (p : Place) (d b e : ℕ) (q : Place) → next d p b ≡ Some (e, q) → next_place (spot p) b ≡ spot q
step_spot Begin d b e q h = begin_spot (kind_of b) d b e q (kind_is b (kind_of b) refl) h
step_spot Begun d b e q h = begun_spot (kind_of b) d b e q (kind_is b (kind_of b) refl) h
step_spot Ready d b e q h = plain_spot (kind_of b) d b e q (kind_is b (kind_of b) refl) h
step_spot Atomic d b e q h = atom_spot (kind_of b) d b e q (kind_is b (kind_of b) refl) h
step_spot Counted d b e q h = counted_spot (kind_of b) d b e q (kind_is b (kind_of b) refl) h
step_spot Ended d b e q h = absurd (no_move e q h)
step_spot Escaped d b e q h = led_last Plain (is_punct b || is_set_letter b) d e Atomic q h (λ i. refl)
step_spot (Opened first) d b e q h = opened_spot first d b e q (b == 63) refl h
step_spot (Marked first) d b e q h = marked_spot first d b e q h
step_spot Flagging d b e q h = led_last (next_place Flagged b) (b == 41) zero e Begun q h (λ i. ap (next_place Flagged) (true_eq b 41 i))
step_spot (InClass c) d b e q h = class_step_spot c d b e q h
step_spot (InBraces c) d b e q h = braces_step_spot c d b e q h

onward : (w : List ℕ) (d b e : ℕ) (p q : Place) (m : Moved) → next d p b ≡ m → run m w ≡ Some (e, q) →
    ((s : ℕ × Place) → run (Some s) w ≡ Some (e, q) → place_of (spot s.1) w ≡ spot q) → place_of (next_place (spot p) b) w ≡ spot q
onward w d b e p q None i g f = absurd (no_move e q (sym (run_none w) ∙ g))
onward w d b e p q (Some s) i g f = ap (λ x. place_of x w) (step_spot p d b s.0 s.1 i) ∙ f s g

-- where a run ends, the scanner ends too
pub run_spot : (w : List ℕ) (d e : ℕ) (p q : Place) → run (Some (d, p)) w ≡ Some (e, q) → place_of (spot p) w ≡ spot q
run_spot [] d e p q h = ap spot (to d e p q h)
run_spot (b ∷ w) d e p q h =
    onward w d b e p q (next d p b) refl h (λ s g. run_spot w s.0 e s.1 q g)
