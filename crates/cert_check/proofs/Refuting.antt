-- A refutation is an unfinished tree without an unfinished node.
use Rattle.std.proofs.Common.{◌≡◌, ℕ, Bool, true, false, List, [], ◌∷◌, ◌↔◌, IsTrue, IfOk, Result, Ok, Err, refl, sym, ap, ◌∙◌}
use Rattle.std.specs.List.{list_any}
use Rattle.std.specs.declared.alloc.AllocError.{AllocError}
use Rattle.std.proofs.lemmas.Bool.{or_parts}
use Rattle.std.proofs.lemmas.List.Folds.{list_any-append}
use Rattle.text_base.specs.Asked.{Asked}
use Rattle.text_base.specs.Requests.{is_valid}
use Rattle.text_base.specs.Seen.{seen}
use Rattle.goal_form.specs.declared.goal.Goal.{Goal}
use Rattle.goal_form.specs.declared.goal.Node.{Node}
use Rattle.goal_form.specs.declared.goal.Node.TheVariants.{Split, False, Clash, Closed, Rest, Capped}
use Rattle.goal_form.specs.Formulas.{Path}
use Rattle.goal_form.specs.Goals.{is_true_at}
use Rattle.goal_form.specs.Refutations.{Tree, leaf, fork, preorder, then_atom, MaySplit, Shuts, Stands, Refutes}
use Rattle.goal_form.specs.Unfinished.{is_unfinished, is_rest_last, MayLeave, Unfinished}
use Rattle.goal_form.proofs.WaitingLemmas.{reads_refutes, refutes_reads}
use Rattle.goal_form.proofs.FirstRest.{first_rest_in, tested_unfinished, unfinished_tested}
use Rattle.goal_form.proofs.Sound.{refuted_never_true}
use Rattle.goal_form.proofs.SeenValid.{are_seen}
use Rattle.goal_form.proofs.ValidTerms.{valid_term_law}
use Rattle.cert_check.specs.Reading.{ReadsOn}
use Rattle.cert_check.specs.Counts.{Fits}
use Rattle.cert_check.proofs.Readings.{read_is, OpenAt}

module _ (goal : Goal) (cap : ℕ) where
  no_split : (p : Path) (k : ℕ) → MayLeave goal cap p (Split k) → ⊥
  no_split p k h = h

  shut_leaf : (p : Path) (n : Node) → is_unfinished n ≡ false → MayLeave goal cap p n → Shuts goal p n
  shut_leaf p (Split k) e h = h
  shut_leaf p False e h = h
  shut_leaf p (Clash f) e h = h
  shut_leaf p (Closed f words) e h = h
  shut_leaf p Rest e h = cc
  shut_leaf p (Capped f words) e h = cc

  leave_leaf : (p : Path) (n : Node) → Shuts goal p n → MayLeave goal cap p n × (is_unfinished n ≡ false)
  leave_leaf p (Split k) h = absurd h
  leave_leaf p False h = (h, refl)
  leave_leaf p (Clash f) h = (h, refl)
  leave_leaf p (Closed f words) h = (h, refl)
  leave_leaf p Rest h = absurd h
  leave_leaf p (Capped f words) h = absurd h

  shut_tree : (t : Tree) (p : Path) → Stands (MaySplit goal) (MayLeave goal cap) p t → list_any is_unfinished (preorder t) ≡ false → Stands (MaySplit goal) (Shuts goal) p t
  shut_tree (leaf n) p h e = shut_leaf p n (or_parts (is_unfinished n) false e).0 h
  shut_tree (fork k t u) p h e =
      let parts = or_parts (list_any is_unfinished (preorder t)) (list_any is_unfinished (preorder u)) (sym (list_any-append is_unfinished (preorder t) (preorder u)) ∙ e) in
      (h.0, shut_tree t _ h.1 parts.0, shut_tree u _ h.2 parts.1)

  one_none : (n : Node) → is_unfinished n ≡ false → list_any is_unfinished (n ∷ []) ≡ false
  one_none n e = rw e refl

  leave_tree : (t : Tree) (p : Path) → Stands (MaySplit goal) (Shuts goal) p t → Stands (MaySplit goal) (MayLeave goal cap) p t × (list_any is_unfinished (preorder t) ≡ false)
  leave_tree (leaf n) p h = let k = leave_leaf p n h in (k.0, one_none n k.1)
  leave_tree (fork k t u) p h =
      let a = leave_tree t _ h.1 in
      let b = leave_tree u _ h.2 in
      ((h.0, a.0, b.0), list_any-append is_unfinished (preorder t) (preorder u) ∙ (rw (a.1, b.1) refl))

  none_first : (ns : List Node) (ps : List Path) → list_any is_unfinished ns ≡ false → OpenAt goal cap (first_rest_in ps ns)
  none_first [] ps e = tt
  none_first (n ∷ ns) [] e = tt
  none_first (Split k ∷ ns) (p ∷ ps) e = none_first ns (then_atom p k true ∷ then_atom p k false ∷ ps) e
  none_first (False ∷ ns) (p ∷ ps) e = none_first ns ps e
  none_first (Clash f ∷ ns) (p ∷ ps) e = none_first ns ps e
  none_first (Closed f words ∷ ns) (p ∷ ps) e = none_first ns ps e
  none_first (Rest ∷ ns) (p ∷ ps) e = cc
  none_first (Capped f words ∷ ns) (p ∷ ps) e = cc

  pub refutes_no_rest : (ns : List Node) → list_any is_unfinished ns ≡ true → Refutes goal ns → ⊥
  refutes_no_rest ns e r =
      let none : list_any is_unfinished ns ≡ false = ap (list_any is_unfinished) r.listed ∙ (leave_tree r.tree [] r.stands).1 in
      cc

  pub read_refutes : (ns : List Node) → list_any is_unfinished ns ≡ false → ReadsOn goal cap false ([] ∷ []) ns → Refutes goal ns
  read_refutes ns e h =
      let r = reads_refutes (MaySplit goal) (MayLeave goal cap) no_split ns ((read_is goal cap ns).0 h).0 in
      record { tree = r.tree; listed = r.listed; stands = shut_tree r.tree [] r.stands (ap (list_any is_unfinished) (sym r.listed) ∙ e) }

  pub refutes_read : (ns : List Node) → Refutes goal ns → ReadsOn goal cap false ([] ∷ []) ns
  refutes_read ns r =
      let k = leave_tree r.tree [] r.stands in
      let none : list_any is_unfinished ns ≡ false = ap (list_any is_unfinished) r.listed ∙ k.1 in
      (read_is goal cap ns).1 (refutes_reads (MaySplit goal) (MayLeave goal cap) no_split ns (record { tree = r.tree; listed = r.listed; stands = k.0 }), none_first ns ([] ∷ []) none)

  pub read_unfinished : (ns : List Node) (splits : ℕ) → Fits ns splits → is_rest_last ns ≡ true → list_any is_unfinished ns ≡ true → ReadsOn goal cap false ([] ∷ []) ns → Unfinished goal ns splits cap
  read_unfinished ns splits fits last left h =
      let k = (read_is goal cap ns).0 h in
      tested_unfinished goal ns splits cap (record { reads = k.0; within = fits.within; spent = fits.spent; rest_last = last; open_at_first = k.1; some_left = left })

  pub unfinished_read : (ns : List Node) (splits : ℕ) → Unfinished goal ns splits cap → ReadsOn goal cap false ([] ∷ []) ns
  unfinished_read ns splits u =
      let t = unfinished_tested goal ns splits cap u in
      (read_is goal cap ns).1 (t.reads, t.open_at_first)

-- a refuted goal is true at no valid request
pub refuted : (goal : Goal) (ns : List Node) → Refutes goal ns → (q : Asked) → is_valid q ≡ true → is_true_at q goal ≡ false
refuted goal ns r q valid = refuted_never_true valid_term_law.within goal ns r (seen q) (are_seen q valid)

pub told : {P Q : Type 0} (r : Result Bool AllocError) → IfOk r (λ yes. IsTrue yes ↔ P) → (P → Q) → (Q → P) → IfOk r (λ yes. IsTrue yes ↔ Q)
told (Ok b) h f g = (λ x. f (h.0 x), λ q. h.1 (g q))
told (Err e) h f g = tt

pub implied : {P Q : Type 0} (r : Result Bool AllocError) → IfOk r (λ yes. IsTrue yes ↔ P) → (P → Q) → IfOk r (λ yes. IsTrue yes → Q)
implied (Ok b) h f = λ x. f (h.0 x)
implied (Err e) h f = tt

never : IsTrue false → ⊥
never h = cc

pub refused : {P : Type 0} → (P → ⊥) → (IsTrue false ↔ P)
refused h = (λ x. absurd (never x), λ p. absurd (h p))
