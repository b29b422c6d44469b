-- Whether an atom is true, by what a test of its term tells.
use Rattle.std.proofs.Common.{◌≡◌, ℕ, Bool, List, Some, slice_get, ◌↔◌, IsTrue, sym, ap, ◌∙◌}
use Rattle.text_base.specs.Asked.{Bytes}
use Rattle.text_base.specs.declared.request.Field.{Field}
use Rattle.rx_term.specs.declared.terms.Term.{Term}
use Rattle.rx_term.specs.Language.{In}
use Rattle.rx_build.proofs.RuleTerms.{in_is}
use Rattle.goal_form.specs.declared.atom.Atom.{Atom}
use Rattle.goal_form.specs.declared.atom.Atom.TheVariants.{Within}
use Rattle.goal_form.specs.Goals.{Shown, text_in, atom_at, truths}

pub within_is : (q : Shown) (atoms : List Atom) (k : ℕ) (f : Field) (term : Term) (user : Bool) (text : Bytes) (b : Bool) →
    slice_get atoms k ≡ Some (Within f term user) → q f ≡ Some text → (IsTrue b ↔ In text term) → b ≡ truths q atoms k
within_is q atoms k f term user text b e s told = sym (ap (atom_at q) e ∙ ap (text_in term) s ∙ in_is term text b (told.1, told.0))
