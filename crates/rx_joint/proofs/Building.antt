-- Tables that are added one after another, and tables that are chosen.
use Rattle.std.proofs.Common.{◌≡◌, ℕ, suc, ◌+◌, ◌<◌, ◌≤◌, inl, inr, List, [], ◌∷◌, ◌++◌, drop, length, get_or, refl, sym, ◌∙◌, ap, subst, arith, length-append}
use Rattle.std.proofs.Math.ListN.{length-map}
use Rattle.std.proofs.lemmas.List.{get_or_append_left, get_or-map}
use Rattle.std.proofs.Math.Seq.{get_or-append_seam}
use Rattle.std.proofs.lemmas.Bool.{cases_lt}
use Rattle.rx_term.specs.declared.sets.ByteSet.{ByteSet}
use Rattle.rx_term.specs.declared.terms.Term.{Term, Nothing}
use Rattle.rx_term.specs.Language.{Has}
use Rattle.rx_auto.specs.Classes.{sets_of, AddsSets, Covers}
use Rattle.rx_auto.specs.Node.{term_at}
use Rattle.rx_auto.specs.Live.{HasPlaces}
use Rattle.rx_auto.specs.Table.{TableMeaning}
use Rattle.rx_joint.specs.Joint.{terms_in, table_at, picked, own, AreTables}
use Rattle.rx_joint.specs.Meanings.{owns, IsField}

-- what holds of each element, and of one more at the end, by place
module _ {A : Type 0} (P : ℕ → A → Type 0) (xs : List A) (y d : A) (each : (i : ℕ) → i < length xs → P i (get_or xs i d)) (last : P (length xs) y) where
  pub at_push : (i : ℕ) → i < length (xs ++ y ∷ []) → P i (get_or (xs ++ y ∷ []) i d)
  at_push i h = elim (cases_lt i (length xs)) [
    | inl l ↦ subst (P i) (sym (get_or_append_left xs (y ∷ []) d i l)) (each i l)
    | inr l ↦
        let e : length xs ≡ i = omega (arith, h, length-append xs (y ∷ [])) in
        subst (λ z. P z (get_or (xs ++ y ∷ []) z d)) e (subst (P (length xs)) (sym (get_or-append_seam xs y [] d)) last)
  ]

-- ---- tables by their numbers

pub terms_long : (tables : List TableMeaning) → length (terms_in tables) ≡ length tables
terms_long tables = length-map tables (λ t. t.terms)

pub picked_long : (tables : List (List Term)) (numbers : List ℕ) → length (picked tables numbers) ≡ length numbers
picked_long tables numbers = length-map numbers (table_at tables)

pub picked_at : (tables : List (List Term)) (numbers : List ℕ) (i : ℕ) → i < length numbers → table_at (picked tables numbers) i ≡ table_at tables (get_or numbers i 0)
picked_at tables numbers i h = get_or-map (table_at tables) numbers i 0 [] h

pub terms_at : (tables : List TableMeaning) (k : ℕ) (d : TableMeaning) → k < length tables → table_at (terms_in tables) k ≡ (get_or tables k d).terms
terms_at tables k d h = get_or-map (λ t. t.terms) tables k d [] h

-- a table that is found by its number among the chosen ones
pub table_is : (tables : List TableMeaning) (numbers : List ℕ) (i : ℕ) (t d : TableMeaning) → i < length numbers → get_or numbers i 0 < length tables →
    t ≡ get_or tables (get_or numbers i 0) d → table_at (picked (terms_in tables) numbers) i ≡ t.terms
table_is tables numbers i t d h k e = picked_at (terms_in tables) numbers i h ∙ terms_at tables (get_or numbers i 0) d k ∙ ap (λ z. z.terms) (sym e)

-- ---- the tables of a joint

pub one_table : (t : TableMeaning) (valid : Term) (sets : List ByteSet) (bytes : List ℕ) → 0 < length t.terms → own t.terms ≡ valid → length t.terms ≤ 4294967296 → HasPlaces t.terms →
    AddsSets [] sets valid → Covers sets bytes → IsField (t ∷ []) sets bytes t.room
one_table t valid sets bytes some is small places adds covers = record {
  ready = record {
    few = omega arith;
    some = λ i h. only i h (λ ts. 0 < length ts) some;
    small = λ i h. only i h (λ ts. length ts ≤ 4294967296) small;
    places = λ i h. only i h HasPlaces places;
  };
  some = omega arith;
  known = λ i h s k. adds.made s (subst (λ z. Has (sets_of z) s) is (subst (λ z. Has (sets_of (own (table_at (terms_in (t ∷ [])) z))) s) (zero_is i h) k));
  covers = covers;
  roomy = λ u h. elim h [ inl e ↦ subst (λ z. z.room ≤ t.room) e (same t.room) | inr z ↦ absurd z ];
}
  where
    zero_is : (i : ℕ) → i < 1 → i ≡ 0
    zero_is i h = omega arith

    only : (i : ℕ) → i < 1 → (P : List Term → Type 0) → P t.terms → P (table_at (t.terms ∷ []) i)
    only i h P p = subst (λ z. P (table_at (t.terms ∷ []) z)) (sym (zero_is i h)) p

    same : (n : ℕ) → n ≤ n
    same n = omega arith

module _ (tables : List TableMeaning) (sets : List ByteSet) (bytes : List ℕ) (room : ℕ) (f : IsField tables sets bytes room) where
  pub field_push : (t : TableMeaning) (term : Term) (new : List ByteSet) (more : List ℕ) (roomier : ℕ) → 0 < length t.terms → own t.terms ≡ term → length t.terms ≤ 4294967296 → HasPlaces t.terms →
      length tables < 4294967295 → AddsSets sets new term → Covers new more → room ≤ roomier → t.room ≤ roomier → IsField (tables ++ t ∷ []) new more roomier
  field_push t term new more roomier some is small places few adds covers r s = record {
    ready = subst AreTables (sym push) (record {
      few = omega (arith, few, long, length-append (terms_in tables) (t.terms ∷ []));
      some = at_push (λ i ts. 0 < length ts) (terms_in tables) t.terms [] f.ready.some some;
      small = at_push (λ i ts. length ts ≤ 4294967296) (terms_in tables) t.terms [] f.ready.small small;
      places = at_push (λ i ts. HasPlaces ts) (terms_in tables) t.terms [] f.ready.places places;
    });
    some = omega (arith, length-append tables (t ∷ []));
    known = λ i h s k. by i (subst (λ n. i < n) (sym (terms_long (tables ++ t ∷ [])) ∙ ap length push) h) s
        (subst (λ z. Has (sets_of (own (table_at z i))) s) push k);
    covers = covers;
    roomy = λ u h. below tables u h f.roomy;
  }
    where
      push : terms_in (tables ++ t ∷ []) ≡ terms_in tables ++ t.terms ∷ []
      push = map_push tables
        where
          map_push : (ts : List TableMeaning) → terms_in (ts ++ t ∷ []) ≡ terms_in ts ++ t.terms ∷ []
          map_push [] = refl
          map_push (u ∷ ts) = ap (λ z. u.terms ∷ z) (map_push ts)

      long : length (terms_in tables) ≡ length tables
      long = terms_long tables

      by : (i : ℕ) → i < length (terms_in tables ++ t.terms ∷ []) → (s : ByteSet) → Has (sets_of (own (table_at (terms_in tables ++ t.terms ∷ []) i))) s → Has new s
      by = at_push (λ i ts. (s : ByteSet) → Has (sets_of (own ts)) s → Has new s) (terms_in tables) t.terms []
          (λ i h s k. adds.kept s (f.known i (subst (λ n. i < n) long h) s k)) (λ s k. adds.made s (subst (λ z. Has (sets_of z) s) is k))

      below : (ts : List TableMeaning) (u : TableMeaning) → Has (ts ++ t ∷ []) u → ((v : TableMeaning) → Has ts v → v.room ≤ room) → u.room ≤ roomier
      below [] u h g = elim h [ inl e ↦ subst (λ z. z.room ≤ roomier) e s | inr z ↦ absurd z ]
      below (v ∷ ts) u h g = elim h [
        | inl e ↦ subst (λ z. z.room ≤ roomier) e (through v.room (g v (inl refl)))
        | inr k ↦ below ts u k (λ w m. g w (inr m))
      ]
        where
          through : (n : ℕ) → n ≤ room → n ≤ roomier
          through n h = omega (arith, h, r)

-- the further terms, with one more
pub owns_push : (t : TableMeaning) (tables : List TableMeaning) → 0 < length tables → drop 1 (owns (tables ++ t ∷ [])) ≡ drop 1 (owns tables) ++ own t.terms ∷ []
owns_push t [] h = absurd (none h)
  where
    none : 0 < 0 → ⊥
    none h = omega arith
owns_push t (u ∷ tables) h = push tables
  where
    push : (ts : List TableMeaning) → owns (ts ++ t ∷ []) ≡ owns ts ++ own t.terms ∷ []
    push [] = refl
    push (v ∷ ts) = ap (λ z. own v.terms ∷ z) (push ts)

-- the first table stays where it is
pub first_kept : (t : TableMeaning) (tables : List TableMeaning) → 0 < length tables → table_at (terms_in (tables ++ t ∷ [])) 0 ≡ table_at (terms_in tables) 0
first_kept t [] h = absurd (none h)
  where
    none : 0 < 0 → ⊥
    none h = omega arith
first_kept t (u ∷ tables) h = refl

-- how many further terms there are
pub owns_long : (tables : List TableMeaning) → 0 < length tables → length (drop 1 (owns tables)) + 1 ≡ length tables
owns_long [] h = absurd (none h)
  where
    none : 0 < 0 → ⊥
    none h = omega arith
owns_long (t ∷ tables) h = omega (arith, length-map tables (λ t. own t.terms))

-- the table of a further term
pub term_is : (tables : List TableMeaning) (k : ℕ) → 0 < length tables → k < length (drop 1 (owns tables)) → term_at (drop 1 (owns tables)) k ≡ own (table_at (terms_in tables) (suc k))
term_is [] k h l = absurd (none h)
  where
    none : 0 < 0 → ⊥
    none h = omega arith
term_is (t ∷ tables) k h l =
    let n : k < length tables = subst (λ n. k < n) (length-map tables (λ t. own t.terms)) l in
    get_or-map (λ t. own t.terms) tables k t Nothing n ∙ sym (ap own (terms_at tables k t n))

-- the table that is found by the number of a further term
pub term_found : (tables : List TableMeaning) (k : ℕ) (t d : TableMeaning) → 0 < length tables → k < length (drop 1 (owns tables)) → t ≡ get_or tables (k + 1) d → own t.terms ≡ term_at (drop 1 (owns tables)) k
term_found tables k t d h l e =
    let n : k + 1 < length tables = omega (arith, l, owns_long tables h) in
    let m : k + 1 ≡ suc k = omega arith in
    ap (λ z. own z.terms) e ∙ sym (ap own (terms_at tables (k + 1) d n)) ∙ ap (λ n. own (table_at (terms_in tables) n)) m ∙ sym (term_is tables k h l)
