-- A formula is made again of its condition and of the numbers of its leaves.
use Rattle.std.proofs.Common.{◌≡◌, ℕ, ◌<◌, Bool, true, List, [], ◌∷◌, ◌++◌, map, length, append_assoc, Some, slice_get, ltb-true, refl, sym, ap, ap₂, subst, ◌∙◌}
use Rattle.std.specs.Prelude.{flat_map}
use Rattle.std.specs.List.{list_all}
use Rattle.std.proofs.lemmas.Bool.{and_parts}
use Rattle.std.proofs.lemmas.List.{map-append}
use Rattle.goal_form.specs.declared.atom.Atom.{Atom}
use Rattle.goal_form.specs.declared.formula.Formula.{Formula}
use Rattle.goal_form.specs.declared.formula.Formula.TheOpen.{Formula-F}
use Rattle.goal_form.specs.declared.formula.Formula.TheFolds.{fold-roll-Formula, map-Formula, ind-Formula}
use Rattle.goal_form.specs.declared.formula.Formula.TheViews.{roll-Formula}
use Rattle.goal_form.specs.declared.sight.Condition.{Condition}
use Rattle.goal_form.specs.declared.sight.Condition as of
use Rattle.goal_form.specs.declared.sight.Condition.TheOpen.{Condition-F}
use Rattle.goal_form.specs.declared.sight.Condition.TheFolds.{fold-Condition, fold-roll-Condition}
use Rattle.goal_form.specs.declared.sight.Condition.TheViews.{roll-Condition}
use Rattle.goal_form.specs.Formulas.{below_step, leaves_below}
use Rattle.goal_form.specs.Conditions.{leaf_condition, condition_step, condition_of}
use Rattle.rule_form.specs.Leaves.{atoms_in}
use Rattle.rule_form.proofs.Names.{in_yes, in_no, in_leaf, in_all, in_any, in_not}
use Rattle.goal_build.specs.Numbering.{numbers_step, numbers_in}
use Rattle.cert_check.proofs.Numbers.{some_at}

-- a formula made by the first of these numbers, and the numbers that are left
abbrev Made : Type 0
Made = List ℕ → Formula × List ℕ

abbrev made_leaf : Made
made_leaf [] = (roll-Formula Formula-F.No, [])
made_leaf (k ∷ ks) = (roll-Formula (Formula-F.Leaf k), ks)

abbrev made_more : Formula × List ℕ → (List ℕ → List Formula × List ℕ) → List Formula × List ℕ
made_more first rest = (first.0 ∷ (rest first.1).0, (rest first.1).1)

abbrev made_list : List Made → List ℕ → List Formula × List ℕ
made_list [] ks = ([], ks)
made_list (m ∷ ms) ks = made_more (m ks) (made_list ms)

abbrev made_step : Condition-F Made → Made
made_step Condition-F.Yes ks = (roll-Formula Formula-F.Yes, ks)
made_step Condition-F.No ks = (roll-Formula Formula-F.No, ks)
made_step (Condition-F.Leaf a) ks = made_leaf ks
made_step (Condition-F.All ms) ks = (roll-Formula (Formula-F.All (made_list ms ks).0), (made_list ms ks).1)
made_step (Condition-F.Any ms) ks = (roll-Formula (Formula-F.Any (made_list ms ks).0), (made_list ms ks).1)
made_step (Condition-F.Not m) ks = (roll-Formula (Formula-F.Not (m ks).0), (m ks).1)

abbrev made : Condition → Made
made = fold-Condition Made made_step

-- ---- one layer

made_yes : made of.Yes ≡ made_step Condition-F.Yes
unfolding roll-Condition denote.Hole.Carrier.roll
made_yes = fold-roll-Condition Made made_step Condition-F.Yes

made_no : made of.No ≡ made_step Condition-F.No
unfolding roll-Condition denote.Hole.Carrier.roll
made_no = fold-roll-Condition Made made_step Condition-F.No

made_one : (a : Atom) → made (of.Leaf a) ≡ made_step (Condition-F.Leaf a)
unfolding roll-Condition denote.Hole.Carrier.roll
made_one a = fold-roll-Condition Made made_step (Condition-F.Leaf a)

made_all : (cs : List Condition) → made (of.All cs) ≡ made_step (Condition-F.All (map made cs))
unfolding roll-Condition denote.Hole.Carrier.roll
made_all cs = fold-roll-Condition Made made_step (Condition-F.All cs)

made_any : (cs : List Condition) → made (of.Any cs) ≡ made_step (Condition-F.Any (map made cs))
unfolding roll-Condition denote.Hole.Carrier.roll
made_any cs = fold-roll-Condition Made made_step (Condition-F.Any cs)

made_not : (c : Condition) → made (of.Not c) ≡ made_step (Condition-F.Not (made c))
unfolding roll-Condition denote.Hole.Carrier.roll
made_not c = fold-roll-Condition Made made_step (Condition-F.Not c)

module _ (atoms : List Atom) where
  -- ---- the formula is made again

  abbrev IsMade : Formula → Type 0
  IsMade f = leaves_below (length atoms) f ≡ true → (rest : List ℕ) → made (condition_of atoms f) (numbers_in f ++ rest) ≡ (f, rest)

  abbrev Members : Type 0
  Members = List ((f : Formula) × IsMade f)

  abbrev formulas : Members → List Formula
  formulas es = map (λ e. e.0) es

  list_made : (es : Members) → list_all (λ b. b) (map (leaves_below (length atoms)) (formulas es)) ≡ true → (rest : List ℕ) →
      made_list (map made (map (condition_of atoms) (formulas es))) (flat_map (λ k. k) (map numbers_in (formulas es)) ++ rest) ≡ (formulas es, rest)
  list_made [] h rest = refl
  list_made (e ∷ es) h rest =
      let both = and_parts (leaves_below (length atoms) e.0) (list_all (λ b. b) (map (leaves_below (length atoms)) (formulas es))) h in
      let others = flat_map (λ k. k) (map numbers_in (formulas es)) in
      let next = made_list (map made (map (condition_of atoms) (formulas es))) in
      ap (λ l. made_more (made (condition_of atoms e.0) l) next) (append_assoc (numbers_in e.0) others rest)
      ∙ ap (λ m. made_more m next) (e.1 both.0 (others ++ rest))
      ∙ ap (λ m. (e.0 ∷ m.0, m.1)) (list_made es both.1 rest)

  leaf_made : (k : ℕ) → k < length atoms → (rest : List ℕ) → made (leaf_condition (slice_get atoms k)) (k ∷ rest) ≡ (roll-Formula (Formula-F.Leaf k), rest)
  leaf_made k l rest =
      let (x, there) = some_at atoms k l in
      ap (λ o. made (leaf_condition o) (k ∷ rest)) there ∙ ap (λ (m : Made). m (k ∷ rest)) (made_one x)

  step_made : (y : Formula-F ((f : Formula) × IsMade f)) → below_step (length atoms) (map-Formula Formula Bool (leaves_below (length atoms)) (map-Formula ((f : Formula) × IsMade f) Formula (λ e. e.0) y)) ≡ true →
      (rest : List ℕ) →
      made (condition_step atoms (map-Formula Formula Condition (condition_of atoms) (map-Formula ((f : Formula) × IsMade f) Formula (λ e. e.0) y)))
      (numbers_step (map-Formula Formula (List ℕ) numbers_in (map-Formula ((f : Formula) × IsMade f) Formula (λ e. e.0) y)) ++ rest)
      ≡ (roll-Formula (map-Formula ((f : Formula) × IsMade f) Formula (λ e. e.0) y), rest)
  step_made Formula-F.Yes h rest = ap (λ (m : Made). m rest) made_yes
  step_made Formula-F.No h rest = ap (λ (m : Made). m rest) made_no
  step_made (Formula-F.Leaf k) h rest = leaf_made k (ltb-true k (length atoms) h) rest
  step_made (Formula-F.All es) h rest =
      ap (λ (m : Made). m (flat_map (λ k. k) (map numbers_in (formulas es)) ++ rest)) (made_all (map (condition_of atoms) (formulas es)))
      ∙ ap (λ m. (roll-Formula (Formula-F.All m.0), m.1)) (list_made es h rest)
  step_made (Formula-F.Any es) h rest =
      ap (λ (m : Made). m (flat_map (λ k. k) (map numbers_in (formulas es)) ++ rest)) (made_any (map (condition_of atoms) (formulas es)))
      ∙ ap (λ m. (roll-Formula (Formula-F.Any m.0), m.1)) (list_made es h rest)
  step_made (Formula-F.Not e) h rest =
      ap (λ (m : Made). m (numbers_in e.0 ++ rest)) (made_not (condition_of atoms e.0))
      ∙ ap (λ m. (roll-Formula (Formula-F.Not m.0), m.1)) (e.1 h rest)

  roll_made : (x : Formula-F Formula) →
      (below_step (length atoms) (map-Formula Formula Bool (leaves_below (length atoms)) x) ≡ true → (rest : List ℕ) →
      made (condition_step atoms (map-Formula Formula Condition (condition_of atoms) x)) (numbers_step (map-Formula Formula (List ℕ) numbers_in x) ++ rest) ≡ (roll-Formula x, rest)) →
      IsMade (roll-Formula x)
  roll_made x h = rw (fold-roll-Formula Condition (condition_step atoms) x, fold-roll-Formula (List ℕ) numbers_step x, fold-roll-Formula Bool (below_step (length atoms)) x) h

  pub is_made : (f : Formula) → IsMade f
  is_made = ind-Formula IsMade (λ x y is. subst (λ z. IsMade (roll-Formula z)) is (roll_made _ (step_made y)))

  -- ---- the numbers are those of the condition's atoms

  abbrev AreAtoms : Formula → Type 0
  AreAtoms f = leaves_below (length atoms) f ≡ true → map (slice_get atoms) (numbers_in f) ≡ map Some (atoms_in (condition_of atoms f))

  list_atoms : (es : List ((f : Formula) × AreAtoms f)) → list_all (λ b. b) (map (leaves_below (length atoms)) (map (λ e. e.0) es)) ≡ true →
      map (slice_get atoms) (flat_map (λ k. k) (map numbers_in (map (λ e. e.0) es))) ≡ map Some (flat_map (λ a. a) (map atoms_in (map (condition_of atoms) (map (λ e. e.0) es))))
  list_atoms [] h = refl
  list_atoms (e ∷ es) h =
      let both = and_parts (leaves_below (length atoms) e.0) (list_all (λ b. b) (map (leaves_below (length atoms)) (map (λ z. z.0) es))) h in
      map-append (slice_get atoms) (numbers_in e.0) (flat_map (λ k. k) (map numbers_in (map (λ z. z.0) es)))
      ∙ ap₂ (λ u v. u ++ v) (e.1 both.0) (list_atoms es both.1)
      ∙ sym (map-append Some (atoms_in (condition_of atoms e.0)) (flat_map (λ a. a) (map atoms_in (map (condition_of atoms) (map (λ z. z.0) es)))))

  leaf_atoms : (k : ℕ) → k < length atoms → map (slice_get atoms) (k ∷ []) ≡ map Some (atoms_in (leaf_condition (slice_get atoms k)))
  leaf_atoms k l =
      let (x, there) = some_at atoms k l in
      ap (λ o. o ∷ []) there ∙ sym (ap (λ o. map Some (atoms_in (leaf_condition o))) there ∙ ap (map Some) (in_leaf x))

  step_atoms : (y : Formula-F ((f : Formula) × AreAtoms f)) → below_step (length atoms) (map-Formula Formula Bool (leaves_below (length atoms)) (map-Formula ((f : Formula) × AreAtoms f) Formula (λ e. e.0) y)) ≡ true →
      map (slice_get atoms) (numbers_step (map-Formula Formula (List ℕ) numbers_in (map-Formula ((f : Formula) × AreAtoms f) Formula (λ e. e.0) y)))
      ≡ map Some (atoms_in (condition_step atoms (map-Formula Formula Condition (condition_of atoms) (map-Formula ((f : Formula) × AreAtoms f) Formula (λ e. e.0) y))))
  step_atoms Formula-F.Yes h = ap (map Some) (sym in_yes)
  step_atoms Formula-F.No h = ap (map Some) (sym in_no)
  step_atoms (Formula-F.Leaf k) h = leaf_atoms k (ltb-true k (length atoms) h)
  step_atoms (Formula-F.All es) h = list_atoms es h ∙ ap (map Some) (sym (in_all (map (condition_of atoms) (map (λ e. e.0) es))))
  step_atoms (Formula-F.Any es) h = list_atoms es h ∙ ap (map Some) (sym (in_any (map (condition_of atoms) (map (λ e. e.0) es))))
  step_atoms (Formula-F.Not e) h = e.1 h ∙ ap (map Some) (sym (in_not (condition_of atoms e.0)))

  roll_atoms : (x : Formula-F Formula) →
      (below_step (length atoms) (map-Formula Formula Bool (leaves_below (length atoms)) x) ≡ true →
      map (slice_get atoms) (numbers_step (map-Formula Formula (List ℕ) numbers_in x)) ≡ map Some (atoms_in (condition_step atoms (map-Formula Formula Condition (condition_of atoms) x)))) →
      AreAtoms (roll-Formula x)
  roll_atoms x h = rw (fold-roll-Formula Condition (condition_step atoms) x, fold-roll-Formula (List ℕ) numbers_step x, fold-roll-Formula Bool (below_step (length atoms)) x) h

  pub are_atoms : (f : Formula) → AreAtoms f
  are_atoms = ind-Formula AreAtoms (λ x y is. subst (λ z. AreAtoms (roll-Formula z)) is (roll_atoms _ (step_atoms y)))

-- formulas of one condition with one list of numbers are one
pub one_formula : (atoms : List Atom) (f g : Formula) → leaves_below (length atoms) f ≡ true → leaves_below (length atoms) g ≡ true →
    condition_of atoms f ≡ condition_of atoms g → numbers_in f ≡ numbers_in g → f ≡ g
one_formula atoms f g lf lg c n =
    ap (λ m. m.0) (sym (is_made atoms f lf []) ∙ ap₂ (λ u v. made u (v ++ [])) c n ∙ is_made atoms g lg [])
