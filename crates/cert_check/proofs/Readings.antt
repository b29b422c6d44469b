-- One node of a reading, and what a reading tells.
use Rattle.std.proofs.Common.{◌≡◌, ℕ, Bool, true, false, not, ◌||◌, List, [], ◌∷◌, ◌++◌, Option, IfSome, ◌↔◌, IsTrue, refl}
use Rattle.goal_form.specs.declared.formula.Truth.TheVariants.{Unknown}
use Rattle.goal_form.specs.declared.goal.Goal.{Goal}
use Rattle.goal_form.specs.declared.goal.Node.{Node}
use Rattle.goal_form.specs.declared.goal.Node.TheVariants.{Split, False, Clash, Closed, Rest, Capped}
use Rattle.goal_form.specs.Formulas.{Path, value_on}
use Rattle.goal_form.specs.Refutations.{then_atom, MaySplit}
use Rattle.goal_form.specs.Unfinished.{is_rest, MayLeave}
use Rattle.goal_form.specs.Waiting.{pending, waiting, Reads}
use Rattle.goal_form.proofs.WaitingLemmas.{pending-true}
use Rattle.goal_form.proofs.FirstRest.{first_rest_in}
use Rattle.cert_check.specs.Reading.{LeafAt, ReadsOn}

never : IsTrue false → ⊥
never h = cc

module _ (goal : Goal) (cap : ℕ) where
  pub split_here : (seen more : Bool) (path : Path) (ns ms : List Node) (n : Node) (k : ℕ) → more ≡ true → ns ≡ n ∷ ms → n ≡ Split k →
      ReadsOn goal cap seen (waiting more path) ns ↔ (MaySplit goal path k × ReadsOn goal cap seen (waiting true (path ++ (k, true) ∷ [])) ms)
  split_here seen more path ns ms n k o e s = rw (o, e, s, pending-true path k) (λ x. x, λ x. x)

  leaf_is : (seen : Bool) (p : Path) (ps : List Path) (n : Node) (ns : List Node) → ((k : ℕ) → n ≡ Split k → ⊥) →
      ReadsOn goal cap seen (p ∷ ps) (n ∷ ns) ↔ (LeafAt goal cap seen p n × ReadsOn goal cap (seen || is_rest n) ps ns)
  leaf_is seen p ps (Split k) ns h = absurd (h k refl)
  leaf_is seen p ps False ns h = (λ x. x, λ x. x)
  leaf_is seen p ps (Clash f) ns h = (λ x. x, λ x. x)
  leaf_is seen p ps (Closed f words) ns h = (λ x. x, λ x. x)
  leaf_is seen p ps Rest ns h = (λ x. x, λ x. x)
  leaf_is seen p ps (Capped f words) ns h = (λ x. x, λ x. x)

  pub leaf_here : (seen more : Bool) (path : Path) (ns ms : List Node) (n : Node) → more ≡ true → ns ≡ n ∷ ms → ((k : ℕ) → n ≡ Split k → ⊥) →
      ReadsOn goal cap seen (waiting more path) ns ↔ (LeafAt goal cap seen path n × ReadsOn goal cap (seen || is_rest n) (pending path) ms)
  leaf_here seen more path ns ms n o e s = rw (o, e) (leaf_is seen path (pending path) n ms s)

  pub done_here : (seen more : Bool) (path : Path) (ns ms : List Node) (n : Node) → more ≡ false → ns ≡ n ∷ ms → ReadsOn goal cap seen (waiting more path) ns → ⊥
  done_here seen true path ns ms n o e h = cc
  done_here seen false path ns ms n o e h = rw e at h

  pub at_end : (seen more : Bool) (path : Path) → ReadsOn goal cap seen (waiting more path) [] ↔ IsTrue (not more)
  at_end seen true path = (λ h. absurd h, λ h. absurd (never h))
  at_end seen false path = (λ h. refl, λ h. tt)

  pub blocked : (seen : Bool) (ps : List Path) (ns rest : List Node) → (ReadsOn goal cap false ([] ∷ []) ns ↔ ReadsOn goal cap seen ps rest) → (ReadsOn goal cap seen ps rest → ⊥) →
      (IsTrue false ↔ ReadsOn goal cap false ([] ∷ []) ns)
  blocked seen ps ns rest same h = (λ x. absurd (never x), λ r. absurd (h (same.0 r)))

  pub finished : (seen more : Bool) (path : Path) (ns : List Node) → (ReadsOn goal cap false ([] ∷ []) ns ↔ ReadsOn goal cap seen (waiting more path) []) →
      (IsTrue (not more) ↔ ReadsOn goal cap false ([] ∷ []) ns)
  finished seen more path ns same = (λ x. same.1 ((at_end seen more path).1 x), λ r. (at_end seen more path).0 (same.0 r))

  -- ---- what a reading tells

  abbrev pub OpenAt : Option Path → Type 0
  OpenAt o = IfSome o (λ path. value_on path goal.formula ≡ Unknown)

  pub reads_from : (ns : List Node) (seen : Bool) (ps : List Path) → ReadsOn goal cap seen ps ns → Reads (MaySplit goal) (MayLeave goal cap) ps ns
  reads_from [] seen [] h = tt
  reads_from [] seen (p ∷ ps) h = absurd h
  reads_from (n ∷ ns) seen [] h = absurd h
  reads_from (Split k ∷ ns) seen (p ∷ ps) h = (h.0, reads_from ns seen (then_atom p k true ∷ then_atom p k false ∷ ps) h.1)
  reads_from (False ∷ ns) seen (p ∷ ps) h = (h.0, reads_from ns (seen || false) ps h.1)
  reads_from (Clash f ∷ ns) seen (p ∷ ps) h = (h.0, reads_from ns (seen || false) ps h.1)
  reads_from (Closed f words ∷ ns) seen (p ∷ ps) h = (h.0, reads_from ns (seen || false) ps h.1)
  reads_from (Rest ∷ ns) seen (p ∷ ps) h = (tt, reads_from ns (seen || true) ps h.1)
  reads_from (Capped f words ∷ ns) seen (p ∷ ps) h = (h.0, reads_from ns (seen || false) ps h.1)

  open_from : (ns : List Node) (ps : List Path) → ReadsOn goal cap false ps ns → OpenAt (first_rest_in ps ns)
  open_from [] [] h = tt
  open_from [] (p ∷ ps) h = absurd h
  open_from (n ∷ ns) [] h = absurd h
  open_from (Split k ∷ ns) (p ∷ ps) h = open_from ns (then_atom p k true ∷ then_atom p k false ∷ ps) h.1
  open_from (False ∷ ns) (p ∷ ps) h = open_from ns ps h.1
  open_from (Clash f ∷ ns) (p ∷ ps) h = open_from ns ps h.1
  open_from (Closed f words ∷ ns) (p ∷ ps) h = open_from ns ps h.1
  open_from (Rest ∷ ns) (p ∷ ps) h = h.0
  open_from (Capped f words ∷ ns) (p ∷ ps) h = open_from ns ps h.1

  or_none : (b : Bool) → (b || false) ≡ b
  or_none true = refl
  or_none false = refl

  -- after the first part that wasn't looked at nothing is asked of others
  seen_to : (ns : List Node) (ps : List Path) → Reads (MaySplit goal) (MayLeave goal cap) ps ns → ReadsOn goal cap true ps ns
  seen_to [] [] h = tt
  seen_to [] (p ∷ ps) h = absurd h
  seen_to (n ∷ ns) [] h = absurd h
  seen_to (Split k ∷ ns) (p ∷ ps) h = (h.0, seen_to ns (then_atom p k true ∷ then_atom p k false ∷ ps) h.1)
  seen_to (False ∷ ns) (p ∷ ps) h = (h.0, seen_to ns ps h.1)
  seen_to (Clash f ∷ ns) (p ∷ ps) h = (h.0, seen_to ns ps h.1)
  seen_to (Closed f words ∷ ns) (p ∷ ps) h = (h.0, seen_to ns ps h.1)
  seen_to (Rest ∷ ns) (p ∷ ps) h = (tt, seen_to ns ps h.1)
  seen_to (Capped f words ∷ ns) (p ∷ ps) h = (h.0, seen_to ns ps h.1)

  reads_to : (ns : List Node) (ps : List Path) → Reads (MaySplit goal) (MayLeave goal cap) ps ns → OpenAt (first_rest_in ps ns) → ReadsOn goal cap false ps ns
  reads_to [] [] h o = tt
  reads_to [] (p ∷ ps) h o = absurd h
  reads_to (n ∷ ns) [] h o = absurd h
  reads_to (Split k ∷ ns) (p ∷ ps) h o = (h.0, reads_to ns (then_atom p k true ∷ then_atom p k false ∷ ps) h.1 o)
  reads_to (False ∷ ns) (p ∷ ps) h o = (h.0, reads_to ns ps h.1 o)
  reads_to (Clash f ∷ ns) (p ∷ ps) h o = (h.0, reads_to ns ps h.1 o)
  reads_to (Closed f words ∷ ns) (p ∷ ps) h o = (h.0, reads_to ns ps h.1 o)
  reads_to (Rest ∷ ns) (p ∷ ps) h o = (o, seen_to ns ps h.1)
  reads_to (Capped f words ∷ ns) (p ∷ ps) h o = (h.0, reads_to ns ps h.1 o)

  pub read_is : (ns : List Node) → ReadsOn goal cap false ([] ∷ []) ns ↔ (Reads (MaySplit goal) (MayLeave goal cap) ([] ∷ []) ns × OpenAt (first_rest_in ([] ∷ []) ns))
  read_is ns = (λ h. (reads_from ns false ([] ∷ []) h, open_from ns ([] ∷ []) h), λ h. reads_to ns ([] ∷ []) h.0 h.1)
