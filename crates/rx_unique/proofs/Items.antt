-- The reader gathers the bytes of one item of a class.
use Rattle.std.proofs.Common.{◌≡◌, ◌≢◌, ℕ, ◌+◌, ◌≤◌, Bool, true, false, ◌&&◌, not, nat_lt, ◌==◌, ◌⊎◌, inl, inr, List, [], ◌∷◌, Some, refl, sym, ◌∙◌, ap, subst, arith}
use Rattle.rx_term.specs.declared.sets.ByteSet.{ByteSet}
use Rattle.rx_term.specs.Term.{has_byte}
use Rattle.rx_term.specs.Pattern.{IsAny, IsFold, IsSetOf, IsSetLetter, Other, behind, IsAllowedBehind, HasNoNamed, IsSingle, IsItem}
use Rattle.rx_term.specs.Pattern.IsSingle.{plain, escaped, bracket}
use Rattle.rx_term.specs.Pattern.IsItem.{single, among, range, dash}
use Rattle.rx_parse.specs.declared.bytes.Bytes.{Bytes}
use Rattle.rx_parse.specs.declared.bytes.Bytes.TheVariants.{Range, Escape, Both}
use Rattle.rx_parse.specs.declared.made.Made.{Made}
use Rattle.rx_parse.specs.declared.made.Frame.{Frame}
use Rattle.rx_parse.specs.declared.reader.Reader.{Reader}
use Rattle.rx_parse.specs.declared.place.Class.{Class}
use Rattle.rx_parse.specs.declared.place.Class.TheVariants.{Fresh, Negated, Single, Item, Ranged, Dashed, Slashed, RangeSlashed}
use Rattle.rx_parse.specs.declared.place.Place.TheVariants.{InClass}
use Rattle.rx_parse.specs.Kinds.{is_any, is_punct, is_set_letter}
use Rattle.rx_parse.specs.Answer.{set_with, at_place, item_of, class_of}
use Rattle.rx_parse.proofs.Held.{bare_if, sort, behind_all}
use Rattle.rx_parse.proofs.Runs.{within_true, lt_true, and_true, eq_false, punct_true, letter_true}
use Rattle.rx_parse.proofs.Classes.{behind_all_append, no_named_left, pick_false, pick_true, behind_plain, Takes}
use Rattle.rx_parse.proofs.ByteTests.{IsInRange, same_set, range_set, fold_set, escape_set, both_set}
use Rattle.rx_parse.proofs.Exact.{set_is}
use Rattle.rx_unique.proofs.Sets.{one_set}
use Rattle.rx_unique.proofs.Reading.{read, read_through, held}

-- ---- sets

-- the bytes so far, and those of one more item, of which the reader made its own set
pub gather : (P Q : ℕ → Type 0) (s t : ByteSet) (bytes : Bytes) → IsSetOf P s → IsSetOf Q (set_with bytes) → IsSetOf Q t →
    IsSetOf (λ b. P b ⊎ (has_byte t b ≡ true)) (set_with (Both s (set_with bytes)))
gather P Q s t bytes h k g =
    let e = one_set Q Q (set_with bytes) t k g (λ b x. x) (λ b x. x) in
    both_set P (λ b. has_byte t b ≡ true) s (set_with bytes) _ h
    (subst (λ x. IsSetOf (λ b. has_byte t b ≡ true) x) (sym e) (record { small = g.small; forth = λ b j. j; back = λ b l j. j })) (set_is (Both s (set_with bytes)))

pub dash_set : IsSetOf (λ x. x ≡ 45) (set_with (Range false 45 45))
dash_set =
    same_set (IsFold false 45) (λ b. b ≡ 45) (set_with (Range false 45 45)) (fold_set false 45 (set_with (Range false 45 45)) (set_is (Range false 45 45))) (λ b o. sym o) (λ b o. sym o)

-- ---- letters

pub letter_no_punct : (l : ℕ) → IsSetLetter l → is_punct l ≡ false
letter_no_punct l (inl e) = subst (λ x. is_punct x ≡ false) e refl
letter_no_punct l (inr (inl e)) = subst (λ x. is_punct x ≡ false) e refl
letter_no_punct l (inr (inr (inl e))) = subst (λ x. is_punct x ≡ false) e refl
letter_no_punct l (inr (inr (inr (inl e)))) = subst (λ x. is_punct x ≡ false) e refl
letter_no_punct l (inr (inr (inr (inr (inl e))))) = subst (λ x. is_punct x ≡ false) e refl
letter_no_punct l (inr (inr (inr (inr (inr (inl e)))))) = subst (λ x. is_punct x ≡ false) e refl
letter_no_punct l (inr (inr (inr (inr (inr (inr z)))))) = absurd z

-- ---- the byte before

takes_sort : (first : Bool) (c : Class) → Takes first c → (bare : Bool) × (sort c ≡ bare_if bare)
takes_sort first Fresh t = absurd t
takes_sort first Negated t = (false, refl)
takes_sort first (Single a bare) t = (bare, refl)
takes_sort first (Item bare) t = (bare, refl)
takes_sort first (Ranged a) t = absurd t
takes_sort first Dashed t = absurd t
takes_sort first Slashed t = absurd t
takes_sort first (RangeSlashed a) t = absurd t

behind_escape : (bare : Bool) (a : ℕ) → Other ≡ behind (behind (bare_if bare) 92) a
behind_escape true a = refl
behind_escape false a = refl

behind_dash : (bare : Bool) → behind (bare_if bare) 45 ≡ Other
behind_dash true = refl
behind_dash false = refl

-- behind a backslash that was written where an item may begin
slashed_sort : (first : Bool) (c : Class) (a : ℕ) → Takes first c → Other ≡ behind_all (sort c) (92 ∷ a ∷ [])
slashed_sort first c a t =
    let s = takes_sort first c t in
    behind_escape s.0 a ∙ sym (ap (λ x. behind (behind x 92) a) s.1)

allowed_true : (bare : Bool) (b : ℕ) → IsAllowedBehind (bare_if bare) b → not (bare && b == 58) ≡ true
allowed_true true b h = ap not (eq_false b 58 h)
allowed_true false b h = refl

negated_only : (first : Bool) (c : Class) → Takes first c → first ≡ true → c ≡ Negated
negated_only first Fresh t e = absurd t
negated_only first Negated t e = refl
negated_only first (Single x bare) t e = cc
negated_only first (Item bare) t e = cc
negated_only first (Ranged x) t e = absurd t
negated_only first Dashed t e = absurd t
negated_only first Slashed t e = absurd t
negated_only first (RangeSlashed x) t e = absurd t

module _ (f : Bool) (o : List Frame) (fr : Frame) (m : Made) (n : Bool) where
  -- the reader in a class
  abbrev pub inside : Class → ByteSet → Reader
  inside c u = held f o fr m n u (InClass c)

  -- the bytes of the items so far, with a single that may still begin a range
  abbrev pub gathered : Class → ByteSet → ByteSet
  gathered (Single a bare) u = set_with (Both u (set_with (Range f a a)))
  gathered c u = u

  -- ---- singles

  item_plain : (r : Reader) (bare : Bool) (b : ℕ) → IsAny b → b ≢ 92 → IsAllowedBehind (bare_if bare) b → item_of r bare b ≡ Some (at_place r (InClass (Single b (b == 91))))
  item_plain r bare b a k h =
      pick_false (b == 92) _ _ (eq_false b 92 k)
      ∙ pick_true (is_any b && not (bare && b == 58)) _ _ (and_true (is_any b) _ (within_true 32 126 b a.0 a.1) (allowed_true bare b h))

  plain_step : (first : Bool) (c : Class) (u : ByteSet) (b : ℕ) → Takes first c → IsAny b → b ≢ 92 → b ≢ 93 → b ≢ 45 → IsAllowedBehind (sort c) b →
      class_of c (inside c u) b ≡ Some (inside (Single b (b == 91)) (gathered c u))
  plain_step first Fresh u b t a k j l h = absurd t
  plain_step first Negated u b t a k j l h = pick_false (b == 45) _ _ (eq_false b 45 l) ∙ item_plain (inside Negated u) false b a k h
  plain_step first (Single x bare) u b t a k j l h =
      pick_false (b == 45) _ _ (eq_false b 45 l)
      ∙ (pick_false (b == 93) _ _ (eq_false b 93 j) ∙ (pick_false (b == 45) _ _ (eq_false b 45 l) ∙ item_plain (inside (Item bare) (gathered (Single x bare) u)) bare b a k h))
  plain_step first (Item bare) u b t a k j l h =
      pick_false (b == 93) _ _ (eq_false b 93 j) ∙ (pick_false (b == 45) _ _ (eq_false b 45 l) ∙ item_plain (inside (Item bare) u) bare b a k h)
  plain_step first (Ranged x) u b t a k j l h = absurd t
  plain_step first Dashed u b t a k j l h = absurd t
  plain_step first Slashed u b t a k j l h = absurd t
  plain_step first (RangeSlashed x) u b t a k j l h = absurd t

  slash_step : (first : Bool) (c : Class) (u : ByteSet) → Takes first c → class_of c (inside c u) 92 ≡ Some (inside Slashed (gathered c u))
  slash_step first Fresh u t = absurd t
  slash_step first Negated u t = refl
  slash_step first (Single x bare) u t = refl
  slash_step first (Item bare) u t = refl
  slash_step first (Ranged x) u t = absurd t
  slash_step first Dashed u t = absurd t
  slash_step first Slashed u t = absurd t
  slash_step first (RangeSlashed x) u t = absurd t

  -- a backslash and the byte behind it
  slash_reads : (first : Bool) (c : Class) (u : ByteSet) (b : ℕ) (r : Reader) → Takes first c → class_of Slashed (inside Slashed (gathered c u)) b ≡ Some r →
      read (Some (inside c u)) (92 ∷ b ∷ []) ≡ Some r
  slash_reads first c u b r t e = ap (λ x. read x (b ∷ [])) (slash_step first c u t) ∙ e

  abbrev SingleReads : Class → ByteSet → List ℕ → ℕ → Type 0
  SingleReads c u v a = (bare : Bool) × (read (Some (inside c u)) v ≡ Some (inside (Single a bare) (gathered c u))) × (bare_if bare ≡ behind_all (sort c) v)

  single_reads : (first : Bool) (c : Class) (u : ByteSet) (v : List ℕ) (a : ℕ) → IsSingle first v a → Takes first c → HasNoNamed (sort c) v → SingleReads c u v a
  single_reads first c u v a (plain y k j l) t h =
      let s = takes_sort first c t in
      (a == 91, plain_step first c u a t y k j l h.0, sym (ap (λ x. behind x a) s.1 ∙ behind_plain s.0 a k))
  single_reads first c u v a (escaped y) t h = (false, slash_reads first c u a _ t (pick_true (is_punct a) _ _ (punct_true a y)), slashed_sort first c a t)
  single_reads first c u v a bracket t h = subst (λ x. SingleReads x u (93 ∷ []) 93) (sym (negated_only true c t refl)) (false, refl, refl)

  -- ---- items

  -- the end of a range
  end_reads : (first : Bool) (a b : ℕ) (u : ByteSet) (z : List ℕ) → first ≡ false → IsSingle first z b → a ≤ b →
      (bare : Bool) × (read (Some (inside (Ranged a) u)) z ≡ Some (inside (Item bare) (set_with (Both u (set_with (Range f a b)))))) × (bare_if bare ≡ behind_all Other z)
  end_reads first a b u z g (plain y k j l) le = (
    b == 91,
    pick_false (b == 93) _ _ (eq_false b 93 j)
        ∙ (pick_false (b == 92) _ _ (eq_false b 92 k)
        ∙ pick_true (is_any b && (not (b == 45) && nat_lt a (b + 1))) _ _
        (and_true (is_any b) _ (within_true 32 126 b y.0 y.1) (and_true (not (b == 45)) _ (ap not (eq_false b 45 l)) (lt_true a (b + 1) (omega arith))))),
    sym (behind_plain false b k),
  )
  end_reads first a b u z g (escaped y) le = (
    false,
    pick_true (is_punct b && nat_lt a (b + 1)) _ _ (and_true (is_punct b) _ (punct_true b y) (lt_true a (b + 1) (omega arith))),
    refl,
  )
  end_reads first a b u z g bracket le = cc

  -- where an item leads that isn't a dash, with its bytes
  abbrev pub ItemReads : (ℕ → Type 0) → Class → ByteSet → List ℕ → ByteSet → Type 0
  ItemReads P c u v set =
      (x : Class) × (y : ByteSet) × (read (Some (inside c u)) v ≡ Some (inside x y)) × Takes false x × (sort x ≡ behind_all (sort c) v)
      × IsSetOf (λ b. P b ⊎ (has_byte set b ≡ true)) (gathered x y)

  pub item_reads : (P : ℕ → Type 0) (first last : Bool) (c : Class) (u : ByteSet) (v : List ℕ) (set : ByteSet) → IsItem f first last v set → Takes first c → HasNoNamed (sort c) v →
      IsSetOf P (gathered c u) → ItemReads P c u v set ⊎ ((v ≡ 45 ∷ []) × ((first ≡ true) ⊎ (last ≡ true)) × IsSetOf (λ x. x ≡ 45) set)
  item_reads P first last c u v set (single a s i) t h p =
      let r = single_reads first c u v a s t h in
      inl (Single a r.0, gathered c u, r.1, refl, r.2, gather P (IsFold f a) (gathered c u) set (Range f a a) p (fold_set f a _ (set_is (Range f a a))) i)
  item_reads P first last c u v set (among {c = l} k i) t h p =
      inl (
        Item false,
        set_with (Both (gathered c u) (set_with (Escape l))),
        slash_reads first c u l _ t (pick_false (is_punct l) _ _ (letter_no_punct l k) ∙ pick_true (is_set_letter l) _ _ (letter_true l k)),
        refl,
        slashed_sort first c l t,
        gather P _ (gathered c u) set (Escape l) p (escape_set l _ k (set_is (Escape l))) i,
      )
  item_reads P first last c u w set (range v z a b e s g le i) t h p =
      let k = subst (HasNoNamed (sort c)) e h in
      let r = single_reads first c u v a s t (no_named_left v (45 ∷ z) (sort c) k) in
      let q = end_reads false a b (gathered c u) z refl g le in
      inl (
        Item q.0,
        set_with (Both (gathered c u) (set_with (Range f a b))),
        ap (read (Some (inside c u))) e ∙ read_through v (45 ∷ z) (Some (inside c u)) _ _ r.1 q.1,
        refl,
        q.2
            ∙ sym (ap (behind_all (sort c)) e ∙ (behind_all_append v (45 ∷ z) (sort c)
            ∙ (ap (λ x. behind_all (behind x 45) z) (sym r.2) ∙ ap (λ x. behind_all x z) (behind_dash r.0)))),
        gather P (IsInRange f a b) (gathered c u) set (Range f a b) p (range_set f a b _ (set_is (Range f a b))) i,
      )
  item_reads P first last c u v set (dash q i) t h p = inr (refl, q, i)

  pub first_dash : (P : ℕ → Type 0) (first : Bool) (c : Class) (u set : ByteSet) → Takes first c → first ≡ true → IsSetOf P (gathered c u) → IsSetOf (λ x. x ≡ 45) set →
      ItemReads P c u (45 ∷ []) set
  first_dash P first c u set t e p i =
      subst (λ x. IsSetOf P (gathered x u) → ItemReads P x u (45 ∷ []) set) (sym (negated_only first c t e))
      (λ q. (Item false, set_with (Both u (set_with (Range false 45 45))), refl, refl, refl, gather P (λ x. x ≡ 45) u set (Range false 45 45) q dash_set i)) p
