-- The truth of conditions, list by list and field by field.
use Rattle.std.proofs.Common.{◌≡◌, ℕ, Bool, true, false, not, ◌&&◌, ◌||◌, List, [], ◌∷◌, ◌++◌, map, Option, None, Some, is_some, refl, sym, ap, subst, ◌∙◌, ◌↔◌, IsTrue, cond}
use Rattle.std.specs.List.{list_all, list_any}
use Rattle.std.proofs.lemmas.List.Folds.{list_all-append}
use Rattle.std.proofs.lemmas.List.{map-append}
use Rattle.text_base.specs.Asked.{Bytes}
use Rattle.text_base.specs.Seen.{seen}
use Rattle.text_base.specs.Asked.{Asked}
use Rattle.text_base.specs.declared.request.Field.{Field}
use Rattle.text_base.specs.declared.request.Field.TheVariants as field
use Rattle.rx_term.specs.declared.terms.Term.{Term}
use Rattle.goal_form.specs.declared.atom.Atom.{Atom}
use Rattle.goal_form.specs.declared.atom.Atom.TheVariants.{Present, Within}
use Rattle.goal_form.specs.declared.sight.Condition.{Condition}
use Rattle.goal_form.specs.declared.sight.Condition as of
use Rattle.goal_form.specs.declared.sight.Condition.TheOpen.{Condition-F}
use Rattle.goal_form.specs.declared.sight.Condition.TheFolds.{fold-roll-Condition}
use Rattle.goal_form.specs.declared.sight.Condition.TheViews.{roll-Condition}
use Rattle.goal_form.specs.Fields.{is_always}
use Rattle.goal_form.specs.Goals.{Shown, text_in, atom_at}
use Rattle.goal_form.specs.Conditions.{shown_step, condition_at}
use Rattle.goal_form.proofs.Meanings.{at_yes, at_leaf}
use Rattle.goal_form.specs.Leaves.{within, present}

-- ---- lists

-- all of a list of conditions
abbrev pub all_at : Shown → List Condition → Bool
all_at q cs = list_all (λ b. b) (map (condition_at q) cs)

pub all_at-append : (q : Shown) (cs ds : List Condition) → all_at q (cs ++ ds) ≡ (all_at q cs && all_at q ds)
all_at-append q cs ds = ap (list_all (λ b. b)) (map-append (condition_at q) cs ds) ∙ list_all-append (λ b. b) (map (condition_at q) cs) (map (condition_at q) ds)

-- conditions that are true where tests hold
pub all_at-map : {X : Type 0} (q : Shown) (f : X → Condition) (p : X → Bool) (xs : List X) → ((x : X) → condition_at q (f x) ≡ p x) → all_at q (map f xs) ≡ list_all p xs
all_at-map q f p [] h = refl
all_at-map q f p (x ∷ xs) h = rw (h x, all_at-map q f p xs h) refl

-- ---- fields

pub always_there : (q : Asked) (f : Field) → is_always f ≡ true → is_some (seen q f) ≡ true
unfolding seen
always_there q field.Authority h = refl
always_there q field.Target h = refl
always_there q field.Method h = refl
always_there q field.Proto h = refl
always_there q field.Random h = refl
always_there q field.Runtime h = cc
always_there q field.Internal h = cc
always_there q (field.Header n) h = cc

pub at_present : (q : Asked) (f : Field) → condition_at (seen q) (present f) ≡ is_some (seen q f)
at_present q f = by_kind (is_always f) refl
  where
    by_kind : (v : Bool) → is_always f ≡ v → condition_at (seen q) (present f) ≡ is_some (seen q f)
    by_kind true e = rw e (at_yes (seen q) ∙ sym (always_there q f e))
    by_kind false e = rw e (at_leaf (seen q) (Present f))

pub at_within : (q : Shown) (f : Field) (t : Term) (user : Bool) → condition_at q (within f t user) ≡ text_in t (q f)
at_within q f t user = at_leaf q (Within f t user)
