-- Lists of words and states that grow.
use Rattle.std.proofs.Common.{◌≡◌, ℕ, ◌+◌, ◌<◌, ◌≤◌, Bool, true, false, IsTrue, ◌↔◌, List, [], ◌∷◌, ◌++◌, length, get_or, refl, sym, ◌∙◌, ap, subst, arith, append_assoc, length-append, length-take, take, drop}
use Rattle.std.proofs.lemmas.List.{get_or_append_left, take_more, take-append-drop}
use Rattle.rx_term.specs.declared.terms.Term.{Term}
use Rattle.rx_term.specs.Language.{Has}
use Rattle.rx_term.specs.Closing.{IsPrintable}
use Rattle.rx_term.proofs.Language.{Has_left}
use Rattle.rx_auto.specs.Live.{AddsNumbers}
use Rattle.rx_joint.specs.Lists.{list_at}
use Rattle.rx_joint.specs.Joint.{AreTables, IsLed, Stands}
use Rattle.rx_joint.specs.Claims.{word_at, LeadsBack, AreListed, MeetsTables}
use Rattle.rx_joint.proofs.Listing.{stands_next, listed_push, listed_first}
use Rattle.rx_joint.proofs.Spelling.{Entry, word_join, word_new}
use Rattle.field_seek.specs.Sought.{Grows}

append_nil : {A : Type 0} → (xs : List A) → xs ++ [] ≡ xs
append_nil [] = refl
append_nil (x ∷ xs) = ap (λ y. x ∷ y) (append_nil xs)

pub grows_same : (es : List Entry) (states : List (List ℕ)) → Grows es states es states
grows_same es states = record { more = []; entries = sym (append_nil es); fresh = []; listed = sym (append_nil states) }

pub grows_push : (es : List Entry) (states : List (List ℕ)) (fs : List Entry) (others : List (List ℕ)) (e : Entry) (x : List ℕ) → Grows es states fs others →
    Grows es states (fs ++ e ∷ []) (others ++ x ∷ [])
grows_push es states fs others e x g = record {
  more = g.more ++ e ∷ [];
  entries = ap (λ z. z ++ e ∷ []) g.entries ∙ append_assoc es g.more (e ∷ []);
  fresh = g.fresh ++ x ∷ [];
  listed = ap (λ z. z ++ x ∷ []) g.listed ∙ append_assoc states g.fresh (x ∷ []);
}

-- a state that led back to listed ones still does
pub back_grows : (tables : List (List Term)) (bytes : List ℕ) (es : List Entry) (states : List (List ℕ)) (fs : List Entry) (others : List (List ℕ)) (k : ℕ) → k < length states →
    Grows es states fs others → LeadsBack tables bytes states k → LeadsBack tables bytes others k
back_grows tables bytes es states fs others k h g f c m =
    let r = f c m in
    let e : list_at others k ≡ list_at states k = ap (λ z. list_at z k) g.listed ∙ get_or_append_left states g.fresh [] k h in
    (r.0, subst (λ z. AddsNumbers [] r.0 (IsLed tables z c)) (sym e) r.1, subst (λ z. Has z r.0) (sym g.listed) (Has_left states g.fresh r.0 r.2))

pub grown : (es : List Entry) (states : List (List ℕ)) (fs : List Entry) (others : List (List ℕ)) (k : ℕ) → Grows es states fs others → k < length states → k < length others
grown es states fs others k g h = omega (arith, h, ap length g.listed, length-append states g.fresh)

-- the word of an entry is its parent's word and its byte
pub word_step : (es : List Entry) (i : ℕ) (d : Entry) → i < length es → (get_or es i d).0 ≤ i → word_at es (i + 1) ≡ word_at es (get_or es i d).0 ++ (get_or es i d).1 ∷ []
word_step es i d h l =
    let join : take (i + 1) es ++ drop (i + 1) es ≡ es = take-append-drop (i + 1) es in
    let more : take (i + 1) es ≡ take i es ++ get_or es i d ∷ [] = take_more es i d h in
    let long : length (take i es) ≡ i = omega (arith, length-take i es) in
    ap (λ z. word_at z (i + 1)) (sym join) ∙ word_join (take (i + 1) es) (drop (i + 1) es) (i + 1) (omega (arith, ap length more, length-append (take i es) (get_or es i d ∷ []), long))
    ∙ ap (λ z. word_at z (i + 1)) more ∙ ap (λ n. word_at (take i es ++ get_or es i d ∷ []) (n + 1)) (sym long) ∙ word_new (take i es) (get_or es i d)
    ∙ ap (λ w. w ++ (get_or es i d).1 ∷ []) (sym (word_join (take i es) (drop i es) (get_or es i d).0 (omega (arith, long))) ∙ ap (λ z. word_at z (get_or es i d).0) (take-append-drop i es))

-- a listed state stays listed
pub has_grows : (es : List Entry) (states : List (List ℕ)) (fs : List Entry) (others : List (List ℕ)) (x : List ℕ) → Grows es states fs others → Has states x → Has others x
has_grows es states fs others x g h = subst (λ z. Has z x) (sym g.listed) (Has_left states g.fresh x h)

pub grows_then : (es : List Entry) (states : List (List ℕ)) (fs : List Entry) (others : List (List ℕ)) (gs : List Entry) (last : List (List ℕ)) → Grows es states fs others → Grows fs others gs last → Grows es states gs last
grows_then es states fs others gs last f g = record {
  more = f.more ++ g.more;
  entries = g.entries ∙ ap (λ z. z ++ g.more) f.entries ∙ append_assoc es f.more g.more;
  fresh = f.fresh ++ g.fresh;
  listed = g.listed ∙ ap (λ z. z ++ g.fresh) f.listed ∙ append_assoc states f.fresh g.fresh;
}

-- the lists with one more state, which wasn't listed and doesn't meet the literals
module _ (tables : List (List Term)) (holds : List Bool) (es : List Entry) (states : List (List ℕ)) (all : AreTables tables) (l : AreListed tables holds es states)
    (word b : ℕ) (x : List ℕ) (p : word < length states) (a : AddsNumbers [] x (IsLed tables (list_at states word) b)) (printable : IsPrintable b) where
  pub next_stands : Stands tables x (word_at es word ++ b ∷ [])
  next_stands = stands_next tables holds es states all l word b (list_at states word) x p refl a

  pub one_more : (has : Bool) → (IsTrue has ↔ Has states x) → has ≡ false → (met : Bool) → ((w : List ℕ) → Stands tables x w → (IsTrue met ↔ MeetsTables tables holds w)) → met ≡ false →
      (fs : List Entry) (others : List (List ℕ)) → fs ≡ es ++ (word, b) ∷ [] → others ≡ states ++ x ∷ [] → AreListed tables holds fs others
  one_more has has_is fresh met met_is unmet fs others f o =
      let new : Has states x → ⊥ = λ h. clash (sym fresh ∙ has_is.1 h) in
      let none : MeetsTables tables holds (word_at es word ++ b ∷ []) → ⊥ = λ m. clash (sym unmet ∙ (met_is (word_at es word ++ b ∷ []) next_stands).1 m) in
      subst (λ v. AreListed tables holds v others) (sym f) (subst (AreListed tables holds (es ++ (word, b) ∷ [])) (sym o)
      (listed_push tables holds es states l (word, b) x p printable new next_stands none))
    where
      clash : false ≡ true → ⊥
      clash k = cc

pub kept_state : (es : List Entry) (states : List (List ℕ)) (fs : List Entry) (others : List (List ℕ)) (k : ℕ) → k < length states → Grows es states fs others → list_at others k ≡ list_at states k
kept_state es states fs others k h g = ap (λ z. list_at z k) g.listed ∙ get_or_append_left states g.fresh [] k h

-- the empty word alone
pub begun : (tables : List (List Term)) (holds : List Bool) (first : List ℕ) → Stands tables first [] →
    (z : List ℕ) → z ≡ first → (met : Bool) → ((w : List ℕ) → Stands tables z w → (IsTrue met ↔ MeetsTables tables holds w)) → met ≡ false →
    (es : List Entry) → es ≡ [] → (states : List (List ℕ)) → states ≡ first ∷ [] → AreListed tables holds es states
begun tables holds first s z z_is met met_is unmet es e states o =
    subst (λ v. AreListed tables holds v states) (sym e) (subst (AreListed tables holds []) (sym o)
    (listed_first tables holds first s (λ m. clash (sym unmet ∙ (met_is [] (subst (λ v. Stands tables v []) (sym z_is) s)).1 m))))
  where
    clash : false ≡ true → ⊥
    clash k = cc
