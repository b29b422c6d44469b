-- Fields that are served, one after the other.
use Rattle.std.proofs.Common.{◌≡◌, ℕ, ◌<◌, ◌+◌, zero, suc, Bool, true, false, ◌||◌, ◌&&◌, List, [], ◌∷◌, ◌++◌, take, get_or, length, Option, None, Some, is_some, refl, sym, ap, subst, ◌∙◌, cond, ◌⊎◌, inl, inr, Result, Ok, Err, IfOk, arith}
use Rattle.std.proofs.lemmas.List.Folds.{list_any-append}
use Rattle.std.proofs.lemmas.List.{take_more}
use Rattle.text_base.specs.Asked.{Bytes}
use Rattle.text_base.specs.declared.request.Field.{Field}
use Rattle.rx_term.specs.Closing.{Meets}
use Rattle.goal_form.specs.declared.goal.Goal.{Goal}
use Rattle.goal_form.specs.declared.goal.Node.{Node}
use Rattle.goal_form.specs.declared.goal.Node.TheVariants as nodes
use Rattle.field_seek.specs.declared.seen.Seen.{Seen}
use Rattle.field_seek.specs.declared.seen.Seen.TheVariants.{Found, Empty, Capped}
use Rattle.field_seek.specs.Seen.{IsSeen}
use Rattle.goal_form.specs.Fields.{same_field}
use Rattle.goal_form.specs.Formulas.{Path}
use Rattle.goal_form.specs.Goals.{is_required, is_claimed_absent, claims_of, has_user}
use Rattle.goal_form.specs.Shown.{Served}
use Rattle.goal_form.specs.Valid.{valid_of}
use Rattle.goal_form.proofs.SameFields.{same_field_is, same_refl}
use Rattle.split_seek.specs.Texts.{Texts, text_of, AreSingle}
use Rattle.split_seek.specs.Serving.{FullAt, limit, is_among, IsAdded, IsDraft, IsOpen, ServesOn}

-- ---- one more text at the end

abbrev or_else : Option Bytes → Option Bytes → Option Bytes
or_else (Some t) o = Some t
or_else None o = o

abbrev alone : Field → Bytes → Field → Option Bytes
alone g t f = cond (same_field g f) (Some t) None

snoc_cons : (b : Bool) (x : Bytes) (rest all last : Option Bytes) → all ≡ or_else rest last → cond b (Some x) all ≡ or_else (cond b (Some x) rest) last
snoc_cons true x rest all last h = refl
snoc_cons false x rest all last h = h

text_snoc : (ts : Texts) (g f : Field) (t : Bytes) → text_of (ts ++ (g, t) ∷ []) f ≡ or_else (text_of ts f) (alone g t f)
text_snoc [] g f t = refl
text_snoc (x ∷ ts) g f t = snoc_cons (same_field x.0 f) x.1 (text_of ts f) (text_of (ts ++ (g, t) ∷ []) f) (alone g t f) (text_snoc ts g f t)

other_way : (f g : Field) → same_field f g ≡ false → same_field g f ≡ false
other_way f g e = at (same_field g f) refl
  where
    at : (b : Bool) → same_field g f ≡ b → b ≡ false
    at true s = let same : g ≡ f = same_field_is g f s in let yes : same_field f g ≡ true = subst (λ x. same_field f x ≡ true) (sym same) (same_refl f) in cc
    at false s = refl

none_head : (x : Field × Bytes) (ts : Texts) (g : Field) → is_some (text_of (x ∷ ts) g) ≡ false → (same_field x.0 g ≡ false) × (is_some (text_of ts g) ≡ false)
none_head x ts g e = at (same_field x.0 g) refl e
  where
    at : (b : Bool) → same_field x.0 g ≡ b → is_some (cond b (Some x.1) (text_of ts g)) ≡ false → (same_field x.0 g ≡ false) × (is_some (text_of ts g) ≡ false)
    at true s h = cc
    at false s h = (s, h)

single_snoc : (ts : Texts) (g : Field) (t : Bytes) → AreSingle ts → is_some (text_of ts g) ≡ false → AreSingle (ts ++ (g, t) ∷ [])
single_snoc [] g t s e = (refl, tt)
single_snoc (x ∷ ts) g t s e =
    let parts = none_head x ts g e in
    (ap is_some (text_snoc ts g x.0 t) ∙ at (text_of ts x.0) refl (other_way x.0 g parts.0), single_snoc ts g t s.1 parts.1)
  where
    at : (o : Option Bytes) → text_of ts x.0 ≡ o → same_field g x.0 ≡ false → is_some (or_else o (alone g t x.0)) ≡ false
    at (Some u) h d = let none = s.0 in cc
    at None h d = rw d refl

or_some : (o p : Option Bytes) → is_some o ≡ true → is_some (or_else o p) ≡ true
or_some (Some t) p h = refl
or_some None p h = cc

or_last : (o p : Option Bytes) → is_some p ≡ true → is_some (or_else o p) ≡ true
or_last (Some t) p h = refl
or_last None p h = h

or_cases : (x y : Bool) → (x || y) ≡ true → (x ≡ true) ⊎ (y ≡ true)
or_cases true y h = inl refl
or_cases false y h = inr h

and_false : (x : Bool) → (x && false) ≡ false
and_false true = refl
and_false false = refl

-- ---- one more field

pub draft_fewer : (goal : Goal) (cap : ℕ) (path : Path) (among fewer : Field → Bool) (texts : Texts) (full : Option Node) → ((f : Field) → fewer f ≡ true → among f ≡ true) →
    IsDraft goal cap path among texts full → IsDraft goal cap path fewer texts full
draft_fewer goal cap path among fewer texts full h d = record {
  sound = d.sound;
  single = d.single;
  done = λ f k e. d.done f (h f k) e;
  clear = λ f k. d.clear f (h f k);
  filled = d.filled;
}

module _ (goal : Goal) (cap : ℕ) (path : Path) (among : Field → Bool) (texts : Texts) (full : Option Node) (d : IsDraft goal cap path among texts full)
    (g : Field) (absent : is_claimed_absent goal.atoms path g ≡ false) where
  abbrev more : Field → Bool
  more f = among f || same_field g f

  cleared : (f : Field) → more f ≡ true → is_claimed_absent goal.atoms path f ≡ false
  cleared f h = elim (or_cases (among f) (same_field g f) h)
      [ inl old ↦ d.clear f old | inr last ↦ subst (λ x. is_claimed_absent goal.atoms path x ≡ false) (same_field_is g f last) absent ]

  pub draft_known : is_some (text_of texts g) ≡ true → IsDraft goal cap path more texts full
  draft_known there = record {
    sound = d.sound;
    single = d.single;
    done = λ f h e. elim (or_cases (among f) (same_field g f) h)
        [ inl old ↦ d.done f old e | inr last ↦ subst (λ x. is_some (text_of texts x) ≡ true) (same_field_is g f last) there ];
    clear = cleared;
    filled = d.filled;
  }

  abbrev Fine : Field → Bytes → Type 0
  Fine f t = (is_required goal.atoms path f ≡ true) × Meets (valid_of f) (claims_of goal.atoms path f) t

  last_fine : (t : Bytes) → Fine g t → (f : Field) (u : Bytes) (b : Bool) → same_field g f ≡ b → cond b (Some t) None ≡ Some u → Fine f u
  last_fine t fine f u true e h =
      let same : g ≡ f = same_field_is g f e in
      let text : t ≡ u = cc in
      subst (λ x. Fine x u) same (subst (Fine g) text fine)
  last_fine t fine f u false e h = cc

  old_or_last : (t : Bytes) → Fine g t → (f : Field) (u : Bytes) (o : Option Bytes) → text_of texts f ≡ o → or_else o (alone g t f) ≡ Some u → Fine f u
  old_or_last t fine f u (Some v) e h = d.sound f u (e ∙ h)
  old_or_last t fine f u None e h = last_fine t fine f u (same_field g f) refl h

  pub draft_more : (t : Bytes) → is_some (text_of texts g) ≡ false → is_required goal.atoms path g ≡ true → Meets (valid_of g) (claims_of goal.atoms path g) t →
      IsDraft goal cap path more (texts ++ (g, t) ∷ []) full
  draft_more t none asked met = record {
    sound = λ f u h. old_or_last t (asked, met) f u (text_of texts f) refl (sym (text_snoc texts g f t) ∙ h);
    single = single_snoc texts g t d.single none;
    done = λ f h e. ap is_some (text_snoc texts g f t) ∙ elim (or_cases (among f) (same_field g f) h) [
      | inl old ↦ or_some (text_of texts f) (alone g t f) (d.done f old e)
      | inr last ↦ or_last (text_of texts f) (alone g t f) (rw last refl)
    ];
    clear = cleared;
    filled = d.filled;
  }

  pub draft_full : (n : Node) → has_user goal.atoms path g ≡ true → FullAt goal cap path n → IsDraft goal cap path more texts (Some n)
  draft_full n user is = record {
    sound = d.sound;
    single = d.single;
    done = λ f h e. elim (or_cases (among f) (same_field g f) h) [
      | inl old ↦ d.done f old (rw e (and_false (is_some full)))
      | inr last ↦ let here : has_user goal.atoms path f ≡ true = subst (λ x. has_user goal.atoms path x ≡ true) (same_field_is g f last) user in cc
    ];
    clear = cleared;
    filled = is;
  }

-- ---- what a search answers

limit_some : (user : Bool) (cap n : ℕ) → limit user cap ≡ Some n → (user ≡ true) × (n ≡ cap)
limit_some true cap n e = let same : cap ≡ n = cc in (refl, sym same)
limit_some false cap n e = cc

module _ (goal : Goal) (cap : ℕ) (path : Path) (among : Field → Bool) (texts : Texts) (full : Option Node) (d : IsDraft goal cap path among texts full)
    (g : Field) (absent : is_claimed_absent goal.atoms path g ≡ false) (none : is_some (text_of texts g) ≡ false) (asked : is_required goal.atoms path g ≡ true) where
  abbrev Seen_of : Seen → Type 0
  Seen_of = IsSeen (valid_of g) (claims_of goal.atoms path g) (limit (has_user goal.atoms path g) cap)

  pub draft_added : (s : Seen) → Seen_of s → (texts' : Texts) (full' node : Option Node) → IsAdded g s texts full texts' full' node →
      ServesOn goal cap path (λ f. among f || same_field g f) texts' full' node
  draft_added (Found text) met texts' full' node added =
      rw (added.0, added.1, added.2) (draft_more goal cap path among texts full d g absent text.items none asked met)
  draft_added (Empty words) closed texts' full' node added = rw added ((asked, closed.closes), refl)
  draft_added (Capped words) capped texts' full' node added =
      let most = limit_some (has_user goal.atoms path g) cap (length words.list) capped.full in
      rw (added.0, added.1, added.2) (draft_full goal cap path among texts full d g absent (nodes.Capped g words) most.0 (asked, most.0, capped.listed, most.1))

if_ok : {A E : Type 0} (r : Result A E) (P Q : A → Type 0) → IfOk r P → ((a : A) → P a → Q a) → IfOk r Q
if_ok (Ok a) P Q h k = k a h
if_ok (Err e) P Q h k = tt

pub served_by : {E : Type 0} (goal : Goal) (cap : ℕ) (path : Path) (among : Field → Bool) (texts : Texts) (full : Option Node) → IsDraft goal cap path among texts full →
    (g : Field) → is_claimed_absent goal.atoms path g ≡ false → is_some (text_of texts g) ≡ false → is_required goal.atoms path g ≡ true → (s : Seen) →
    IsSeen (valid_of g) (claims_of goal.atoms path g) (limit (has_user goal.atoms path g) cap) s → (texts' : Texts) (full' : Option Node) (r : Result (Option Node) E) →
    IfOk r (λ node. IsAdded g s texts full texts' full' node) → IfOk r (ServesOn goal cap path (λ f. among f || same_field g f) texts' full')
served_by goal cap path among texts full d g absent none asked s seen texts' full' r added =
    if_ok r _ _ added (λ node h. draft_added goal cap path among texts full d g absent none asked s seen texts' full' node h)

pub draft_none : (goal : Goal) (cap : ℕ) (path : Path) → IsDraft goal cap path (λ f. is_among f []) [] None
draft_none goal cap path = record { sound = λ f t h. cc; single = tt; done = λ f h e. cc; clear = λ f h. cc; filled = tt }

-- ---- all fields

or_false : (x : Bool) → (x || false) ≡ x
or_false true = refl
or_false false = refl

among_snoc : (f g : Field) (fs : List Field) → is_among f (fs ++ g ∷ []) ≡ true → (is_among f fs || same_field g f) ≡ true
among_snoc f g fs h = ap (λ x. is_among f fs || x) (sym (or_false (same_field g f))) ∙ sym (list_any-append (λ x. same_field x f) fs (g ∷ [])) ∙ h

pub among_more : (fields : List Field) (i : ℕ) (g : Field) → i < length fields → g ≡ get_or fields i g → (f : Field) → is_among f (take (i + 1) fields) ≡ true → (is_among f (take i fields) || same_field g f) ≡ true
among_more fields i g lt e f h =
    among_snoc f g (take i fields) (subst (λ fs. is_among f fs ≡ true) (take_more fields i g lt ∙ ap (λ x. take i fields ++ x ∷ []) (sym e)) h)

pub among_get : (xs : List Field) (i : ℕ) (d : Field) → i < length xs → is_among (get_or xs i d) xs ≡ true
among_get [] i d h = absurd (omega arith)
among_get (y ∷ xs) zero d h = rw (same_refl y) refl
among_get (y ∷ xs) (suc i) d h = at (same_field y (get_or xs i d)) (among_get xs i d (omega arith))
  where
    at : (b : Bool) → is_among (get_or xs i d) xs ≡ true → (b || is_among (get_or xs i d) xs) ≡ true
    at true e = refl
    at false e = e

module _ (goal : Goal) (cap : ℕ) (path : Path) (fields : List Field) (texts : Texts) (asked : (f : Field) → is_required goal.atoms path f ≡ is_among f fields) where
  text_some : (o : Option Bytes) → is_some o ≡ true → (t : Bytes) × (o ≡ Some t)
  text_some None h = cc
  text_some (Some t) h = (t, refl)

  pub draft_open : (full : Option Node) → IsDraft goal cap path (λ f. is_among f fields) texts full → IsOpen goal path
  draft_open full d = record {
    no_clash = λ f gone h. let clear = d.clear f (sym (asked f) ∙ h) in cc;
    met = λ f h none.
        let some = text_some (text_of texts f) (d.done f (sym (asked f) ∙ h) (rw none (and_false (is_some full)))) in
        (some.0, (d.sound f some.0 some.1).1);
  }

  pub draft_served : IsDraft goal cap path (λ f. is_among f fields) texts None → Served goal.atoms path (text_of texts)
  draft_served d = record {
    there = λ f h.
        let some = text_some (text_of texts f) (d.done f (sym (asked f) ∙ h) refl) in
        (some.0, some.1, (d.sound f some.0 some.1).1);
    only = λ f h. only_at f h (text_of texts f) refl;
    no_clash = λ f gone h. let clear = d.clear f (sym (asked f) ∙ h) in cc;
  }
    where
      only_at : (f : Field) → is_required goal.atoms path f ≡ false → (o : Option Bytes) → text_of texts f ≡ o → o ≡ None
      only_at f h (Some t) e = let need = (d.sound f t e).0 in cc
      only_at f h None e = refl

-- ---- a field that is added once

either : (x y : Bool) → (y ≡ true → x ≡ true) → x ≡ (x || y)
either true y h = refl
either false true h = let no = h refl in cc
either false false h = refl

pub among_same : (fields : List Field) (i : ℕ) (o g : Field) → i < length fields → o ≡ get_or fields i o → same_field o g ≡ true → (f : Field) → is_among f fields ≡ (is_among f fields || same_field g f)
among_same fields i o g lt e same f = either (is_among f fields) (same_field g f) (λ h.
    let there : is_among o fields ≡ true = subst (λ x. is_among x fields ≡ true) (sym e) (among_get fields i o lt) in
    subst (λ x. is_among x fields ≡ true) (same_field_is o g same ∙ same_field_is g f h) there)

pub among_push : (fields : List Field) (g f : Field) → is_among f (fields ++ g ∷ []) ≡ (is_among f fields || same_field g f)
among_push fields g f = list_any-append (λ x. same_field x f) fields (g ∷ []) ∙ ap (λ x. is_among f fields || x) (or_false (same_field g f))
