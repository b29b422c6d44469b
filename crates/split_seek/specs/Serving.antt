-- Texts for the fields that a path requires.
use Rattle.std.specs.Prelude.{◌≡◌, ℕ, Bool, true, false, ◌&&◌, if◌then◌else◌, List, [], ◌∷◌, ◌++◌, length, Option, None, Some, is_some, IfSome}
use Rattle.std.specs.List.{list_any}
use Rattle.text_base.specs.Asked.{Bytes}
use Rattle.text_base.specs.declared.request.Field.{Field}
use Rattle.rx_term.specs.Closing.{Meets, AreApart}
use Rattle.field_seek.specs.declared.seen.Seen.{Seen}
use Rattle.field_seek.specs.declared.seen.Seen.TheVariants as seen
use Rattle.goal_form.specs.declared.goal.Goal.{Goal}
use Rattle.goal_form.specs.declared.goal.Node.{Node}
use Rattle.goal_form.specs.declared.goal.Node.TheVariants.{Closed, Capped}
use Rattle.goal_form.specs.Fields.{same_field}
use Rattle.goal_form.specs.Formulas.{Path}
use Rattle.goal_form.specs.Goals.{is_required, is_claimed_absent, claims_of, has_user}
use Rattle.goal_form.specs.Shown.{Served}
use Rattle.goal_form.specs.Valid.{valid_of}
use Rattle.goal_form.specs.Refutations.{Shuts}
use Rattle.goal_form.specs.Unfinished.{is_rest}
use Rattle.split_seek.specs.declared.texts.Service.{Service}
use Rattle.split_seek.specs.declared.texts.Service.TheVariants as service
use Rattle.split_seek.specs.Texts.{Texts, text_of, AreSingle}

-- the most states of a search: those allowed where a pattern of the user's stands for the field, and else any number
abbrev pub limit : Bool → ℕ → Option ℕ
limit user cap = if user then Some cap else None

-- what becomes of a draft by what a search for a text of the field answers
abbrev pub IsAdded : Field → Seen → Texts → Option Node → Texts → Option Node → Option Node → Type 0
IsAdded f (seen.Found text) texts full texts' full' node = (texts' ≡ texts ++ (f, text.items) ∷ []) × (full' ≡ full) × (node ≡ None)
IsAdded f (seen.Empty words) texts full texts' full' node = node ≡ Some (Closed f words)
IsAdded f (seen.Capped words) texts full texts' full' node = (texts' ≡ texts) × (full' ≡ Some (Capped f words)) × (node ≡ None)

-- the node is that of a required field with more states than the cap allows
abbrev pub FullAt : Goal → ℕ → Path → Node → Type 0
FullAt goal cap path (Capped f words) = (is_required goal.atoms path f ≡ true) × (has_user goal.atoms path f ≡ true)
    × AreApart (valid_of f) (claims_of goal.atoms path f) words.list × (length words.list ≡ cap)
FullAt goal cap path n = ⊥

abbrev pub is_among : Field → List Field → Bool
is_among f = list_any (λ g. same_field g f)

-- each text is one of a required field as the path says; each of the fields has one, or it has a pattern of the user's and
-- some field has too many states; and none of them is claimed absent
pub record IsDraft (goal : Goal) (cap : ℕ) (path : Path) (among : Field → Bool) (texts : Texts) (full : Option Node) : Type 0 where
  pub sound : (f : Field) (t : Bytes) → text_of texts f ≡ Some t → (is_required goal.atoms path f ≡ true) × Meets (valid_of f) (claims_of goal.atoms path f) t
  pub single : AreSingle texts
  pub done : (f : Field) → among f ≡ true → (is_some full && has_user goal.atoms path f) ≡ false → is_some (text_of texts f) ≡ true
  pub clear : (f : Field) → among f ≡ true → is_claimed_absent goal.atoms path f ≡ false
  pub filled : IfSome full (FullAt goal cap path)

-- a leaf that shuts the path, or nothing and the fields are served
abbrev pub ServesOn : Goal → ℕ → Path → (Field → Bool) → Texts → Option Node → Option Node → Type 0
ServesOn goal cap path among texts full None = IsDraft goal cap path among texts full
ServesOn goal cap path among texts full (Some n) = Shuts goal path n × (is_rest n ≡ false)

-- no field is required and claimed absent, and each required one without a pattern of the user's has a text as the path says
pub record IsOpen (goal : Goal) (path : Path) : Type 0 where
  pub no_clash : (f : Field) → is_claimed_absent goal.atoms path f ≡ true → is_required goal.atoms path f ≡ true → ⊥
  pub met : (f : Field) → is_required goal.atoms path f ≡ true → has_user goal.atoms path f ≡ false → (t : Bytes) × Meets (valid_of f) (claims_of goal.atoms path f) t

abbrev pub Serves : Goal → ℕ → Path → Service → Type 0
Serves goal cap path (service.All ts) = Served goal.atoms path (text_of ts) × AreSingle ts × IsOpen goal path
Serves goal cap path (service.Full n) = FullAt goal cap path n × IsOpen goal path
Serves goal cap path (service.Shut n) = Shuts goal path n × (is_rest n ≡ false)
