-- What the search answers.
use Rattle.std.specs.Prelude.{◌≡◌, ℕ, ◌+◌, ◌≤◌, ◌^◌, Bool, true, false, List, ◌∷◌, length}
use Rattle.std.specs.List.{list_any}
use Rattle.text_base.specs.Asked.{Bytes, Asked}
use Rattle.text_base.specs.Requests.{is_valid}
use Rattle.text_base.specs.declared.request.Field.{Field}
use Rattle.rx_term.specs.Closing.{Apart, SameStates}
use Rattle.goal_form.specs.declared.atom.Atom.{Atom}
use Rattle.goal_form.specs.declared.goal.Goal.{Goal}
use Rattle.goal_form.specs.Formulas.{Path}
use Rattle.goal_form.specs.Goals.{is_true_at, is_user_of}
use Rattle.goal_form.specs.Valid.{valid_of}
use Rattle.goal_form.specs.Refutations.{MaySplit, Refutes}
use Rattle.goal_form.specs.Unfinished.{MayLeave, is_rest, split_count, IsPlain, SplitsPlainly, Unfinished}
use Rattle.goal_tables.specs.Fields.{terms_of}
use Rattle.split_seek.specs.declared.finding.Finding.{Finding}
use Rattle.split_seek.specs.declared.finding.Finding.TheVariants.{Reached, Refuted, Undecided}
use Rattle.split_seek.specs.declared.finding.Look.{Look}
use Rattle.split_seek.specs.declared.finding.Look.TheVariants as look
use Rattle.std.specs.Prelude.{Some}

-- a valid request at which the goal is true
pub record MeetsGoal (goal : Goal) (q : Asked) : Type 0 where
  pub valid : is_valid q ≡ true
  pub right : is_true_at q goal ≡ true

-- a lawful split that is plain
pub record MayStep (goal : Goal) (path : Path) (k : ℕ) : Type 0 where
  pub lawful : MaySplit goal path k
  pub plain : IsPlain goal path k

-- what stands at a path
abbrev pub Sees : Goal → ℕ → Path → Look → Type 0
Sees goal cap path (look.Reached q) = MeetsGoal goal q
Sees goal cap path (look.Leaf n) = MayLeave goal cap path n × (is_rest n ≡ false)
Sees goal cap path (look.Open k) = MayStep goal path k

-- each answer shows what it says, with plain splits alone and no more of them than are allowed
abbrev pub Answers : Goal → ℕ → ℕ → Finding → Type 0
Answers goal splits cap (Reached q) = MeetsGoal goal q
Answers goal splits cap (Refuted nodes) = Refutes goal nodes × SplitsPlainly goal nodes × (split_count nodes ≤ splits)
Answers goal splits cap (Undecided nodes) = Unfinished goal nodes splits cap × SplitsPlainly goal nodes

abbrev pub IsDecided : Finding → Type 0
IsDecided (Reached q) = Unit {0}
IsDecided (Refuted nodes) = Unit {0}
IsDecided (Undecided nodes) = ⊥

-- an atom of the field has a pattern of the user's
abbrev pub has_user_in : List Atom → Field → Bool
has_user_in atoms f = list_any (λ a. is_user_of (Some a) f) atoms

-- no more words than the cap allows can be told apart by the states of all terms of the field
abbrev pub IsBounded : Goal → ℕ → Field → Type 0
IsBounded goal cap f = (ws : List Bytes) → length ws ≡ cap + 1 → Apart (SameStates (valid_of f ∷ terms_of goal.atoms f)) ws → ⊥

-- budgets with which each goal is decided: splits for each choice of truths, and states enough for each field with a
-- pattern of the user's
pub record AreEnough (goal : Goal) (splits cap : ℕ) : Type 0 where
  pub all : 2 ^ length goal.atoms ≤ splits + 1
  pub states : (f : Field) → has_user_in goal.atoms f ≡ true → IsBounded goal cap f
