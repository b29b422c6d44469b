-- Tables that are chosen one after another.
use Rattle.std.proofs.Common.{◌≡◌, ℕ, zero, suc, ◌+◌, ◌<◌, ◌≤◌, Bool, true, false, ◌⊎◌, inl, inr, List, [], ◌∷◌, ◌++◌, map, take, length, get_or, refl, sym, ◌∙◌, ap, subst, arith, length-append}
use mathlib.Core.Bool.{not, beq}
use Rattle.std.proofs.Math.ListN.{length-map}
use Rattle.std.proofs.Math.Seq.{get_or-append_seam, take-length}
use Rattle.std.proofs.lemmas.List.{get_or_append_left, get_or-map, take_more}
use Rattle.std.proofs.lemmas.Bool.{cases_lt}
use Rattle.rx_term.specs.declared.sets.ByteSet.{ByteSet}
use Rattle.rx_term.specs.declared.terms.Term.{Term, Nothing}
use Rattle.rx_term.specs.Term.{has_byte}
use Rattle.rx_term.specs.Language.{Has}
use Rattle.rx_term.specs.Closing.{Is, Claim}
use Rattle.rx_term.proofs.Language.{Has_left, Has_right, Has_cases}
use Rattle.rx_auto.specs.Classes.{sets_of, AreAlike}
use Rattle.rx_auto.proofs.Likeness.{Each_from, Each_has, Has_place}
use Rattle.rx_auto.specs.Node.{term_at}
use Rattle.rx_auto.specs.Live.{HasPlaces}
use Rattle.rx_auto.specs.Table.{TableMeaning}
use Rattle.rx_joint.specs.Joint.{terms_in, table_at, picked, own, AreTables}
use Rattle.rx_joint.specs.Claims.{claim_at, hold_at, chosen, all_claims, AreChosen, AreWanted, IsJoint}
use Rattle.rx_joint.specs.Meanings.{IsField, IsChosen, joint_of}
use Rattle.rx_joint.proofs.Building.{terms_long, picked_long, picked_at, owns_long, term_is}
use Rattle.rx_joint.proofs.Ending.{held_below}
use Rattle.rx_joint.proofs.Spelling.{at_Each}

-- the tables' numbers for the claims of a choice
abbrev pub numbers_of : List (ℕ × Bool) → List ℕ
numbers_of choice = 0 ∷ map (λ c. c.0 + 1) choice

-- whether each has to have the text
abbrev pub holds_of : List (ℕ × Bool) → List Bool
holds_of choice = true ∷ map (λ c. c.1) choice

-- the lists after the first claims
pub record ArePicked (choice : List (ℕ × Bool)) (i : ℕ) (numbers : List ℕ) (holds : List Bool) (wanted : List ℕ) : Type 0 where
  pub tables : numbers ≡ numbers_of (take i choice)
  pub truths : holds ≡ holds_of (take i choice)
  pub wants : AreWanted holds wanted

pub map_push : {A B : Type 0} → (f : A → B) (xs : List A) (x : A) → map f (xs ++ x ∷ []) ≡ map f xs ++ f x ∷ []
map_push f [] x = refl
map_push f (y ∷ xs) x = ap (λ z. f y ∷ z) (map_push f xs x)

clash : false ≡ true → ⊥
clash k = cc

-- ---- the tables that have to have the text

pub wanted_first : AreWanted (true ∷ []) (0 ∷ [])
wanted_first i = (forth i, back i)
  where
    forth : (i : ℕ) → Has (0 ∷ []) i → hold_at (true ∷ []) i ≡ true
    forth i (inl e) = subst (λ z. hold_at (true ∷ []) z ≡ true) e refl
    forth i (inr z) = absurd z

    zero_is : (i : ℕ) → i < 1 → 0 ≡ i
    zero_is i h = omega arith

    back : (i : ℕ) → hold_at (true ∷ []) i ≡ true → Has (0 ∷ []) i
    back i h = inl (zero_is i (held_below (true ∷ []) i h))

module _ (holds : List Bool) (wanted : List ℕ) (w : AreWanted holds wanted) where
  left : (b : Bool) (i : ℕ) → hold_at holds i ≡ true → hold_at (holds ++ b ∷ []) i ≡ true
  left b i h = get_or_append_left holds (b ∷ []) false i (held_below holds i h) ∙ h

  last : (b : Bool) → hold_at (holds ++ b ∷ []) (length holds) ≡ b
  last b = get_or-append_seam holds b [] false

  back : (b : Bool) (i : ℕ) → hold_at (holds ++ b ∷ []) i ≡ true → (hold_at holds i ≡ true) ⊎ ((i ≡ length holds) × (b ≡ true))
  back b i h = by (cases_lt i (length holds))
    where
      below : i < length holds + 1
      below = omega (arith, held_below (holds ++ b ∷ []) i h, length-append holds (b ∷ []))

      by : (i < length holds) ⊎ (length holds ≤ i) → (hold_at holds i ≡ true) ⊎ ((i ≡ length holds) × (b ≡ true))
      by (inl l) = inl (sym (get_or_append_left holds (b ∷ []) false i l) ∙ h)
      by (inr l) = let e : i ≡ length holds = omega (arith, l, below) in inr (e, sym (last b) ∙ ap (hold_at (holds ++ b ∷ [])) (sym e) ∙ h)

  pub wanted_true : (n : ℕ) → n ≡ length holds → AreWanted (holds ++ true ∷ []) (wanted ++ n ∷ [])
  wanted_true n e i = (
    λ h. elim (Has_cases wanted (n ∷ []) i h) [
      | inl k ↦ left true i ((w i).0 k)
      | inr k ↦ elim k [ inl q ↦ subst (λ z. hold_at (holds ++ true ∷ []) z ≡ true) (sym e ∙ q) (last true) | inr z ↦ absurd z ]
    ],
    λ h. elim (back true i h) [
      | inl k ↦ Has_left wanted (n ∷ []) i ((w i).1 k)
      | inr k ↦ Has_right wanted (n ∷ []) i (inl (e ∙ sym k.0))
    ],
  )

  pub wanted_false : AreWanted (holds ++ false ∷ []) wanted
  wanted_false i = (λ h. left false i ((w i).0 h), λ h. elim (back false i h) [ inl k ↦ (w i).1 k | inr k ↦ absurd (clash k.1) ])

-- ---- one more claim

pub picked_none : (choice : List (ℕ × Bool)) → ArePicked choice 0 (0 ∷ []) (true ∷ []) (0 ∷ [])
picked_none choice = record { tables = ap numbers_of (sym (none choice)); truths = ap holds_of (sym (none choice)); wants = wanted_first }
  where
    none : (xs : List (ℕ × Bool)) → take 0 xs ≡ []
    none [] = refl
    none (x ∷ xs) = refl

pub picked_more : (choice : List (ℕ × Bool)) (i : ℕ) (d : ℕ × Bool) (numbers more : List ℕ) (holds : List Bool) (wanted wanting : List ℕ) → i < length choice → ArePicked choice i numbers holds wanted →
    more ≡ numbers ++ ((get_or choice i d).0 + 1) ∷ [] → AreWanted (holds ++ (get_or choice i d).1 ∷ []) wanting →
    ArePicked choice (i + 1) more (holds ++ (get_or choice i d).1 ∷ []) wanting
picked_more choice i d numbers more holds wanted wanting l p e w = record {
  tables = e ∙ ap (λ z. z ++ ((get_or choice i d).0 + 1) ∷ []) p.tables ∙ ap (λ z. 0 ∷ z) (sym (map_push (λ c. c.0 + 1) (take i choice) (get_or choice i d)))
      ∙ ap numbers_of (sym (take_more choice i d l));
  truths = ap (λ z. z ++ (get_or choice i d).1 ∷ []) p.truths ∙ ap (λ z. true ∷ z) (sym (map_push (λ c. c.1) (take i choice) (get_or choice i d)))
      ∙ ap holds_of (sym (take_more choice i d l));
  wants = w;
}

pub picked_all : (choice : List (ℕ × Bool)) (n : ℕ) (numbers : List ℕ) (holds : List Bool) (wanted : List ℕ) → length choice ≤ n → n ≤ length choice → ArePicked choice n numbers holds wanted →
    (numbers ≡ numbers_of choice) × (holds ≡ holds_of choice)
picked_all choice n numbers holds wanted h k p =
    let e : n ≡ length choice = omega (arith, h, k) in
    let f = ap (λ z. take z choice) e ∙ take-length choice in
    (p.tables ∙ ap numbers_of f, p.truths ∙ ap holds_of f)

pub picked_same : (choice : List (ℕ × Bool)) (i : ℕ) (numbers : List ℕ) (holds : List Bool) (wanted : List ℕ) → ArePicked choice i numbers holds wanted → length numbers ≡ length holds
picked_same choice i numbers holds wanted p = ap length p.tables ∙ omega (arith, length-map (take i choice) (λ c. c.0 + 1), length-map (take i choice) (λ c. c.1)) ∙ sym (ap length p.truths)

-- ---- the choice

module _ (tables : List TableMeaning) (sets : List ByteSet) (bytes : List ℕ) (room : ℕ) (f : IsField tables sets bytes room)
    (choice : List (ℕ × Bool)) (c : AreChosen (joint_of tables room).terms choice) where
  abbrev pub terms : List Term
  terms = (joint_of tables room).terms

  abbrev pub valid : Term
  valid = (joint_of tables room).valid

  abbrev pub claims : List Claim
  claims = all_claims valid (chosen terms choice)

  -- the claim of a term's number
  abbrev pub claim_of : ℕ × Bool → Claim
  claim_of c = (term_at terms c.0, c.1)

  abbrev pub numbers : List ℕ
  numbers = numbers_of choice

  numbers_long : length numbers ≡ length choice + 1
  numbers_long = omega (arith, length-map choice (λ c. c.0 + 1))

  pub claims_long : length claims ≡ length choice + 1
  claims_long = omega (arith, length-map choice claim_of)

  -- the number of a claim, and its table
  pub number_is : (i : ℕ) → i < length choice + 1 → (m : ℕ) × (m < length tables) × (get_or numbers i 0 ≡ m) × (own (table_at (terms_in tables) m) ≡ (claim_at claims i).0)
  number_is zero h = (0, f.some, refl, refl)
  number_is (suc i) h =
      let l : i < length choice = omega (arith, h) in
      let k = at_Each (λ c. c.0 < length terms) choice (0, false) c i l in
      let e : suc (get_or choice i (0, false)).0 ≡ (get_or choice i (0, false)).0 + 1 = omega arith in (
        (get_or choice i (0, false)).0 + 1,
        omega (arith, k, owns_long tables f.some),
        get_or-map (λ c. c.0 + 1) choice i (0, false) 0 l,
        ap (λ n. own (table_at (terms_in tables) n)) (sym e) ∙ sym (term_is tables (get_or choice i (0, false)).0 f.some k)
            ∙ ap (λ (z : Claim). z.0) (sym (get_or-map claim_of choice i (0, false) (Nothing, false) l)),
      )

  pub numbers_within : (n : ℕ) → Has numbers n → n < length tables
  numbers_within n h =
      let p = Has_place numbers n 0 h in
      let m = number_is p.0 (omega (arith, p.1, numbers_long)) in
      subst (λ z. z < length tables) (sym m.2 ∙ p.2) m.1

  table_of_claim : (i : ℕ) → i < length choice + 1 → (P : List Term → Type 0) → ((m : ℕ) → m < length (terms_in tables) → P (table_at (terms_in tables) m)) → P (table_at (picked (terms_in tables) numbers) i)
  table_of_claim i h P g =
      let m = number_is i h in
      subst P (sym (picked_at (terms_in tables) numbers i (omega (arith, h, numbers_long)) ∙ ap (table_at (terms_in tables)) m.2)) (g m.0 (omega (arith, m.1, terms_long tables)))

  pub tables_ready : length choice < 4294967295 → AreTables (picked (terms_in tables) numbers)
  tables_ready h = record {
    few = omega (arith, h, long);
    some = λ i l. table_of_claim i (omega (arith, l, long)) (λ ts. 0 < length ts) f.ready.some;
    small = λ i l. table_of_claim i (omega (arith, l, long)) (λ ts. length ts ≤ 4294967296) f.ready.small;
    places = λ i l. table_of_claim i (omega (arith, l, long)) HasPlaces f.ready.places;
  }
    where
      long : length (picked (terms_in tables) numbers) ≡ length choice + 1
      long = picked_long (terms_in tables) numbers ∙ numbers_long

  holds_long : length (holds_of choice) ≡ length choice + 1
  holds_long = omega (arith, length-map choice (λ c. c.1))

  pub is_chosen : length choice < 4294967295 → (wanted : List ℕ) → AreWanted (holds_of choice) wanted → IsChosen tables bytes numbers (holds_of choice) wanted
  is_chosen h wanted w = record {
    ready = record { ready = tables_ready h; long = omega (arith, holds_long, picked_long (terms_in tables) numbers, numbers_long); within = f.covers.within };
    within = numbers_within;
    wants = w;
  }

  pub is_joint : length choice < 4294967295 → IsJoint (picked (terms_in tables) numbers) (holds_of choice) bytes claims
  is_joint h = record {
    ready = tables_ready h;
    long = omega (arith, picked_long (terms_in tables) numbers, numbers_long, claims_long);
    holds_long = omega (arith, holds_long, claims_long);
    terms = λ i l. own_is i (omega (arith, l, claims_long));
    wants = λ i l. truth_is i (omega (arith, l, claims_long));
    within = f.covers.within;
    each = λ b p. let r = f.covers.each b p in (r.0, r.1, λ i l. like r.0 b r.2 i (omega (arith, l, claims_long)));
  }
    where
      own_is : (i : ℕ) → i < length choice + 1 → own (table_at (picked (terms_in tables) numbers) i) ≡ (claim_at claims i).0
      own_is i l = let m = number_is i l in
          ap own (picked_at (terms_in tables) numbers i (omega (arith, l, numbers_long)) ∙ ap (table_at (terms_in tables)) m.2) ∙ m.3

      truth_is : (i : ℕ) → i < length choice + 1 → hold_at (holds_of choice) i ≡ (claim_at claims i).1
      truth_is zero l = refl
      truth_is (suc i) l =
          let k : i < length choice = omega (arith, l) in
          get_or-map (λ c. c.1) choice i (0, false) false k ∙ ap (λ (z : Claim). z.1) (sym (get_or-map claim_of choice i (0, false) (Nothing, false) k))

      like : (c b : ℕ) → AreAlike sets c b → (i : ℕ) → i < length choice + 1 → AreAlike (sets_of (claim_at claims i).0) c b
      like c b a i l = let m = number_is i l in
          Each_from (λ s. has_byte s c ≡ has_byte s b) (sets_of (claim_at claims i).0)
          (λ s k. Each_has (λ s. has_byte s c ≡ has_byte s b) sets s a (f.known m.0 m.1 s (subst (λ z. Has (sets_of z) s) (sym m.3) k)))

-- ---- a text and a claim

pub differs : (r b : Bool) → not (beq r b) ≡ true → r ≡ b → ⊥
differs true true h e = clash h
differs true false h e = clash (sym e)
differs false true h e = clash e
differs false false h e = clash h

pub is_wrong : (b r : Bool) (P : Type 0) → ((r ≡ true → P) × (P → r ≡ true)) → (r ≡ b → ⊥) → Is b P → ⊥
is_wrong true true P f n h = n refl
is_wrong true false P f n h = clash (f.1 h)
is_wrong false true P f n h = h (f.0 refl)
is_wrong false false P f n h = n refl

pub is_right : (b r : Bool) (P : Type 0) → ((r ≡ true → P) × (P → r ≡ true)) → r ≡ b → Is b P
is_right true r P f e = f.0 e
is_right false r P f e = λ p. clash (sym e ∙ f.1 p)
