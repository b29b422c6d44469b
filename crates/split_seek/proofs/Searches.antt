-- What the search has built, and how each step keeps it.
use Rattle.std.proofs.Common.{◌≡◌, ℕ, ◌+◌, ◌<◌, ◌≤◌, Bool, true, false, not, ◌&&◌, ◌||◌, List, [], ◌∷◌, ◌++◌, None, Some, refl, sym, ap, subst, ◌∙◌, append_assoc, append-nil, arith}
use Rattle.std.specs.List.{list_all, list_any}
use Rattle.std.proofs.lemmas.List.Folds.{list_any-append}
use Rattle.std.proofs.lemmas.Bool.{or_parts}
use Rattle.goal_form.specs.declared.formula.Truth.TheVariants.{Unknown}
use Rattle.goal_form.specs.declared.goal.Goal.{Goal}
use Rattle.goal_form.specs.declared.goal.Node.{Node}
use Rattle.goal_form.specs.declared.goal.Node.TheVariants.{Split, False, Clash, Closed, Rest, Capped}
use Rattle.goal_form.specs.Formulas.{Path, value_on}
use Rattle.goal_form.specs.Refutations.{Tree, leaf, fork, preorder, MaySplit, Shuts, Stands, IsTree, Refutes}
use Rattle.goal_form.specs.Unfinished.{is_rest, is_unfinished, split_count, is_rest_last, first_rest, MayLeave, Unfinished, IsPlain, AnyLeaf, SplitsPlainly}
use Rattle.goal_form.specs.Waiting.{pending, waiting, Reads}
use Rattle.goal_form.proofs.WaitingLemmas.{pending-true, reads_refutes}
use Rattle.goal_form.proofs.FirstRest.{first_rest_in, first_whole as whole_first}
use Rattle.goal_form.proofs.Bound.{split_count-append}
use Rattle.split_seek.specs.Findings.{MayStep}
use Rattle.split_seek.specs.Ends.{is_capped_node, rests}

or_none : (b : Bool) → (b || false) ≡ b
or_none true = refl
or_none false = refl

or_last : (b : Bool) → (b || true) ≡ true
or_last true = refl
or_last false = refl

still_whole : (b w c : Bool) → b ≡ not w → (b || (c || false)) ≡ not (w && not c)
still_whole b true true h = rw h refl
still_whole b true false h = rw h refl
still_whole b false c h = rw h refl

module _ (goal : Goal) (cap : ℕ) where
  abbrev pub Stepped : List Path → List Node → Type 0
  Stepped = Reads (MayStep goal) (MayLeave goal cap)

  pub record Searched (splits : ℕ) (more whole : Bool) (path : Path) (nodes : List Node) (spent : ℕ) : Type 0 where
    pub grows : (ns : List Node) → Stepped (waiting more path) ns → Stepped ([] ∷ []) (nodes ++ ns)
    pub first : (ns : List Node) → first_rest_in ([] ∷ []) (nodes ++ ns) ≡ first_rest_in (waiting more path) ns
    pub counted : split_count nodes ≡ spent
    pub within : spent ≤ splits
    pub restless : list_any is_rest nodes ≡ false
    pub whole_so_far : list_any is_unfinished nodes ≡ not whole

  pub start : (splits : ℕ) → Searched splits true true [] [] 0
  start splits = record { grows = λ ns h. h; first = λ ns. refl; counted = refl; within = omega arith; restless = refl; whole_so_far = refl }

  split_step : (path : Path) (k : ℕ) (ns : List Node) → MayStep goal path k → Stepped (waiting true (path ++ (k, true) ∷ [])) ns → Stepped (waiting true path) (Split k ∷ ns)
  split_step path k ns may h = (may, subst (λ ps. Stepped ((path ++ (k, true) ∷ []) ∷ ps) ns) (pending-true path k) h)

  pub splits_on : (splits spent : ℕ) (whole : Bool) (path : Path) (nodes : List Node) (k : ℕ) → Searched splits true whole path nodes spent → MayStep goal path k → spent < splits →
      Searched splits true whole (path ++ (k, true) ∷ []) (nodes ++ Split k ∷ []) (spent + 1)
  splits_on splits spent whole path nodes k s may lt = record {
    grows = λ ns h. subst (Stepped ([] ∷ [])) (sym (append_assoc nodes (Split k ∷ []) ns)) (s.grows (Split k ∷ ns) (split_step path k ns may h));
    first = λ ns. ap (first_rest_in ([] ∷ [])) (append_assoc nodes (Split k ∷ []) ns) ∙ s.first (Split k ∷ ns) ∙ ap (λ ps. first_rest_in ((path ++ (k, true) ∷ []) ∷ ps) ns) (sym (pending-true path k));
    counted = let e = split_count-append nodes (Split k ∷ []) in let was = s.counted in omega arith;
    within = omega arith;
    restless = list_any-append is_rest nodes (Split k ∷ []) ∙ rw (s.restless) refl;
    whole_so_far = list_any-append is_unfinished nodes (Split k ∷ []) ∙ or_none (list_any is_unfinished nodes) ∙ s.whole_so_far;
  }

  leaf_grows : (path : Path) (n : Node) (ns : List Node) → is_rest n ≡ false → MayLeave goal cap path n → Stepped (pending path) ns → Stepped (path ∷ pending path) (n ∷ ns)
  leaf_grows path (Split k) ns e may h = absurd may
  leaf_grows path False ns e may h = (may, h)
  leaf_grows path (Clash f) ns e may h = (may, h)
  leaf_grows path (Closed f words) ns e may h = (may, h)
  leaf_grows path Rest ns e may h = (may, h)
  leaf_grows path (Capped f words) ns e may h = (may, h)

  leaf_first : (path : Path) (n : Node) (ns : List Node) → is_rest n ≡ false → MayLeave goal cap path n → first_rest_in (path ∷ pending path) (n ∷ ns) ≡ first_rest_in (pending path) ns
  leaf_first path (Split k) ns e may = absurd may
  leaf_first path False ns e may = refl
  leaf_first path (Clash f) ns e may = refl
  leaf_first path (Closed f words) ns e may = refl
  leaf_first path Rest ns e may = cc
  leaf_first path (Capped f words) ns e may = refl

  leaf_count : (path : Path) (n : Node) → MayLeave goal cap path n → split_count (n ∷ []) ≡ 0
  leaf_count path (Split k) may = absurd may
  leaf_count path False may = refl
  leaf_count path (Clash f) may = refl
  leaf_count path (Closed f words) may = refl
  leaf_count path Rest may = refl
  leaf_count path (Capped f words) may = refl

  capped_only : (n : Node) → is_rest n ≡ false → is_unfinished n ≡ is_capped_node n
  capped_only (Split k) e = refl
  capped_only False e = refl
  capped_only (Clash f) e = refl
  capped_only (Closed f words) e = refl
  capped_only Rest e = cc
  capped_only (Capped f words) e = refl

  pub leaves_at : (splits spent : ℕ) (whole more : Bool) (path after : Path) (nodes : List Node) (n : Node) → Searched splits true whole path nodes spent →
      MayLeave goal cap path n → is_rest n ≡ false → waiting more after ≡ pending path →
      Searched splits more (whole && not (is_capped_node n)) after (nodes ++ n ∷ []) spent
  leaves_at splits spent whole more path after nodes n s may no_rest turned = record {
    grows = λ ns h. subst (Stepped ([] ∷ [])) (sym (append_assoc nodes (n ∷ []) ns)) (s.grows (n ∷ ns) (leaf_grows path n ns no_rest may (subst (λ ps. Stepped ps ns) turned h)));
    first = λ ns. ap (first_rest_in ([] ∷ [])) (append_assoc nodes (n ∷ []) ns) ∙ s.first (n ∷ ns) ∙ leaf_first path n ns no_rest may ∙ ap (λ ps. first_rest_in ps ns) (sym turned);
    counted = let e = split_count-append nodes (n ∷ []) in let was = s.counted in let none = leaf_count path n may in omega arith;
    within = s.within;
    restless = list_any-append is_rest nodes (n ∷ []) ∙ rw (s.restless, no_rest) refl;
    whole_so_far = list_any-append is_unfinished nodes (n ∷ []) ∙ rw (capped_only n no_rest) (still_whole (list_any is_unfinished nodes) whole (is_capped_node n) s.whole_so_far);
  }

  -- ---- the end of the search

  no_split : (p : Path) (k : ℕ) → MayLeave goal cap p (Split k) → ⊥
  no_split p k h = h

  any_leaf : (p : Path) (n : Node) → MayLeave goal cap p n → AnyLeaf p n
  any_leaf p (Split k) h = h
  any_leaf p False h = tt
  any_leaf p (Clash f) h = tt
  any_leaf p (Closed f words) h = tt
  any_leaf p Rest h = tt
  any_leaf p (Capped f words) h = tt

  stands_map : (may' : Path → ℕ → Type 0) (leaves' : Path → Node → Type 0) → ((p : Path) (k : ℕ) → MayStep goal p k → may' p k) → ((p : Path) (n : Node) → MayLeave goal cap p n → leaves' p n) →
      (t : Tree) (p : Path) → Stands (MayStep goal) (MayLeave goal cap) p t → Stands may' leaves' p t
  stands_map may' leaves' f g (leaf n) p h = g p n h
  stands_map may' leaves' f g (fork k t u) p h = (f p k h.0, stands_map may' leaves' f g t _ h.1, stands_map may' leaves' f g u _ h.2)

  shut_leaf : (p : Path) (n : Node) → is_unfinished n ≡ false → MayLeave goal cap p n → Shuts goal p n
  shut_leaf p (Split k) e h = h
  shut_leaf p False e h = h
  shut_leaf p (Clash f) e h = h
  shut_leaf p (Closed f words) e h = h
  shut_leaf p Rest e h = cc
  shut_leaf p (Capped f words) e h = cc

  stands_shut : (t : Tree) (p : Path) → Stands (MayStep goal) (MayLeave goal cap) p t → list_any is_unfinished (preorder t) ≡ false → Stands (MaySplit goal) (Shuts goal) p t
  stands_shut (leaf n) p h e = shut_leaf p n (or_parts (is_unfinished n) false e).0 h
  stands_shut (fork k t u) p h e =
      let parts = or_parts (list_any is_unfinished (preorder t)) (list_any is_unfinished (preorder u)) (sym (list_any-append is_unfinished (preorder t) (preorder u)) ∙ e) in
      (h.0.lawful, stands_shut t _ h.1 parts.0, stands_shut u _ h.2 parts.1)

  pub tree_of : (nodes : List Node) → Stepped ([] ∷ []) nodes → IsTree (MayStep goal) (MayLeave goal cap) nodes
  tree_of nodes h = reads_refutes (MayStep goal) (MayLeave goal cap) no_split nodes h

  plainly : (nodes : List Node) → IsTree (MayStep goal) (MayLeave goal cap) nodes → SplitsPlainly goal nodes
  plainly nodes r = record { tree = r.tree; listed = r.listed; stands = stands_map (IsPlain goal) AnyLeaf (λ p k m. m.plain) any_leaf r.tree [] r.stands }

  lawfully : (nodes : List Node) (r : IsTree (MayStep goal) (MayLeave goal cap) nodes) → Stands (MaySplit goal) (MayLeave goal cap) [] r.tree
  lawfully nodes r = stands_map (MaySplit goal) (MayLeave goal cap) (λ p k m. m.lawful) (λ p n h. h) r.tree [] r.stands

  first_here : (nodes : List Node) (r : IsTree (MayStep goal) (MayLeave goal cap) nodes) → first_rest [] r.tree ≡ first_rest_in ([] ∷ []) nodes
  first_here nodes r = whole_first goal cap (MayStep goal) nodes r.tree r.listed r.stands

  -- ---- the ends

  pub ends_refuted : (splits spent : ℕ) (path : Path) (nodes : List Node) → Searched splits false true path nodes spent → Refutes goal nodes × SplitsPlainly goal nodes × (split_count nodes ≤ splits)
  ends_refuted splits spent path nodes s =
      let r = tree_of nodes (subst (Stepped ([] ∷ [])) (append-nil nodes) (s.grows [] tt)) in
      (record { tree = r.tree; listed = r.listed; stands = stands_shut r.tree [] r.stands (ap (list_any is_unfinished) (sym r.listed) ∙ s.whole_so_far) }, plainly nodes r, (let e = s.counted in let le = s.within in omega arith))

  rests_all : (ps : List Path) → list_all is_rest (rests ps) ≡ true
  rests_all [] = refl
  rests_all (p ∷ ps) = rests_all ps

  rests_last : (ps : List Path) → is_rest_last (rests ps) ≡ true
  rests_last [] = refl
  rests_last (p ∷ ps) = rests_all ps

  last_after : (n : Node) (ns : List Node) → is_rest n ≡ false → is_rest_last ns ≡ true → is_rest_last (n ∷ ns) ≡ true
  last_after (Split k) ns e h = h
  last_after False ns e h = h
  last_after (Clash f) ns e h = h
  last_after (Closed f words) ns e h = h
  last_after Rest ns e h = cc
  last_after (Capped f words) ns e h = h

  restless_last : (nodes : List Node) → list_any is_rest nodes ≡ false → (ps : List Path) → is_rest_last (nodes ++ rests ps) ≡ true
  restless_last [] h ps = rests_last ps
  restless_last (n ∷ ns) h ps =
      let parts = or_parts (is_rest n) (list_any is_rest ns) h in
      last_after n (ns ++ rests ps) parts.0 (restless_last ns parts.1 ps)

  pub ends_capped : (splits spent : ℕ) (path : Path) (nodes : List Node) → Searched splits false false path nodes spent → Unfinished goal nodes splits cap × SplitsPlainly goal nodes
  ends_capped splits spent path nodes s =
      let r = tree_of nodes (subst (Stepped ([] ∷ [])) (append-nil nodes) (s.grows [] tt)) in
      let none : first_rest [] r.tree ≡ None = first_here nodes r ∙ ap (first_rest_in ([] ∷ [])) (sym (append-nil nodes)) ∙ s.first [] in (
        record {
          tree = r.tree;
          listed = r.listed;
          stands = lawfully nodes r;
          within = let e = s.counted in let le = s.within in omega arith;
          spent = λ h. let no = s.restless in cc;
          rest_last = ap is_rest_last (sym (append-nil nodes)) ∙ restless_last nodes s.restless [];
          open_at_first = rw none tt;
          some_left = s.whole_so_far;
        },
        plainly nodes r,
      )

  rests_read : (ps : List Path) → Stepped ps (rests ps)
  rests_read [] = tt
  rests_read (p ∷ ps) = (tt, rests_read ps)

  rests_count : (ps : List Path) → split_count (rests ps) ≡ 0
  rests_count [] = refl
  rests_count (p ∷ ps) = let e = rests_count ps in omega arith

  pub ends_spent : (splits : ℕ) (whole : Bool) (path : Path) (nodes : List Node) → Searched splits true whole path nodes splits → value_on path goal.formula ≡ Unknown →
      Unfinished goal (nodes ++ rests (waiting true path)) splits cap × SplitsPlainly goal (nodes ++ rests (waiting true path))
  ends_spent splits whole path nodes s v =
      let r = tree_of (nodes ++ rests (waiting true path)) (s.grows (rests (waiting true path)) (rests_read (waiting true path))) in
      let first : first_rest [] r.tree ≡ Some path = first_here (nodes ++ rests (waiting true path)) r ∙ s.first (rests (waiting true path)) in
      let count : split_count (nodes ++ rests (waiting true path)) ≡ splits = (let e = split_count-append nodes (rests (waiting true path)) in let none = rests_count (waiting true path) in let was = s.counted in omega arith) in (
        record {
          tree = r.tree;
          listed = r.listed;
          stands = lawfully _ r;
          within = omega arith;
          spent = λ h. count;
          rest_last = restless_last nodes s.restless (waiting true path);
          open_at_first = rw first v;
          some_left = list_any-append is_unfinished nodes (rests (waiting true path)) ∙ or_last (list_any is_unfinished nodes);
        },
        plainly _ r,
      )
