-- The goal of a route of a lawful configuration is well formed.
use Rattle.std.proofs.Common.{◌≡◌, ℕ, zero, suc, ◌+◌, ◌<◌, Bool, true, false, not, ◌==◌, inl, inr, List, [], ◌∷◌, ◌++◌, map, length, Option, None, Some, slice_get, refl, sym, ap, subst, ◌∙◌, arith}
use Rattle.std.specs.Prelude.{flat_map}
use Rattle.std.specs.List.{list_all, range_with_len}
use Rattle.std.proofs.lemmas.Bool.{and_parts}
use Rattle.std.proofs.lemmas.Option.{slice_get_within}
use Rattle.text_base.specs.declared.request.Field.TheVariants as field
use Rattle.rx_term.specs.Language.{Has}
use Rattle.rx_term.proofs.Language.{Has_left, Has_right, Has_cases}
use Rattle.goal_form.specs.declared.atom.Atom.{Atom}
use Rattle.goal_form.specs.declared.formula.Formula.{Formula}
use Rattle.goal_form.specs.declared.formula.Formula.TheOpen.{Formula-F}
use Rattle.goal_form.specs.declared.formula.Formula.TheFolds.{fold-roll-Formula, map-Formula, ind-Formula}
use Rattle.goal_form.specs.declared.formula.Formula.TheViews.{roll-Formula}
use Rattle.goal_form.specs.declared.sight.Condition.{Condition}
use Rattle.goal_form.specs.declared.sight.Condition as of
use Rattle.goal_form.specs.Goals.{field_in, is_named_well}
use Rattle.goal_form.specs.Conditions.{leaf_condition, condition_step, condition_of}
use Rattle.cfg_types.specs.Hosts.{Owned, owned}
use Rattle.cfg_types.specs.Choices.{routes_before}
use Rattle.cfg_types.specs.Lawful.{IsLawful, IsLawfulHost, IsLawfulBody, IsLawfulTree}
use Rattle.cfg_types.specs.declared.configs.Config.{Config}
use Rattle.cfg_types.specs.declared.configs.Host.{Host}
use Rattle.cfg_types.specs.declared.configs.Body.{Body}
use Rattle.cfg_types.specs.declared.configs.Body.TheVariants as body
use Rattle.cfg_types.specs.declared.configs.Domain.{Domain}
use Rattle.cfg_types.specs.declared.configs.Domain.TheVariants as domain
use Rattle.cfg_types.specs.declared.configs.Tls.{Tls}
use Rattle.cfg_types.specs.declared.configs.Tls.TheVariants as tls
use Rattle.cfg_types.specs.declared.routes.Route.{Route}
use Rattle.cfg_types.proofs.Members.{All-at, Has-get}
use Rattle.cfg_types.proofs.LawfulLevels.{route_lawful}
use Rattle.cfg_types.specs.Order.{routes}
use Rattle.rule_form.specs.Leaves.{atoms_in, are_named_well}
use Rattle.rule_form.proofs.Names.{in_leaf, in_all, in_any, in_not, IsWell, AreWell, well_all, well_any, well_not, well_both, well_within, well_present, rule_names_law, in_yes, in_no}
use Rattle.goal_build.specs.Hosts.{own_condition, rivals, matched_condition, unmatched_conditions, domain_condition, host_condition, tls_conditions}
use Rattle.match_tree.specs.Guards.{Guard}
use Rattle.goal_build.specs.Guards.{route_condition, rule_at, body_guards, guards}
use Rattle.goal_build.specs.Numbering.{numbers_step, numbers_in, firsts}
use Rattle.goal_build.specs.Goals.{goal_condition, IsGuarded}
use Rattle.goal_build.specs.Laws.{WellFormedLaw}
use Rattle.goal_build.proofs.HostLaws.{has_filter}
use Rattle.goal_build.proofs.SentLaws.{passes_all}
use Rattle.goal_build.proofs.WellTrees.{GuardsWell, well_list, well_tree}

-- ---- names

well_own : (ignore_port : Bool) (d : Domain) → IsWell (own_condition ignore_port d)
well_own ignore_port (domain.Exact w) = well_within field.Authority _ false refl
well_own ignore_port (domain.Suffix w) = well_within field.Authority _ false refl
well_own ignore_port (domain.Prefix w) = well_within field.Authority _ false refl
well_own ignore_port domain.Any = ap are_named_well in_yes

well_unmatched : (ignore_port : Bool) (es : List Owned) → AreWell (unmatched_conditions ignore_port es)
well_unmatched ignore_port [] = tt
well_unmatched ignore_port (e ∷ es) = (well_not (matched_condition ignore_port (e ∷ es)) (well_within field.Authority _ false refl), tt)

well_domains : (ignore_port : Bool) (all : List Owned) (h : ℕ) (ds : List Domain) → AreWell (map (domain_condition ignore_port all h) ds)
well_domains ignore_port all h [] = tt
well_domains ignore_port all h (d ∷ ds) = (
  well_all (own_condition ignore_port d ∷ unmatched_conditions ignore_port (rivals all h d)) (well_own ignore_port d, well_unmatched ignore_port (rivals all h d)),
  well_domains ignore_port all h ds,
)

well_host : (c : Config) (h : ℕ) (host : Host) → IsWell (host_condition c h host)
well_host c h host = well_any (map (domain_condition c.ignore_port (owned 0 c.hosts) h) host.domains) (well_domains c.ignore_port (owned 0 c.hosts) h host.domains)

well_tls : (t : Tls) → AreWell (tls_conditions t)
well_tls tls.No = tt
well_tls tls.External = (well_any _ (well_within field.Proto _ false refl, (well_present field.Internal refl, tt)), tt)
well_tls tls.All = (well_within field.Proto _ false refl, tt)

well_rule : (c : Config) (r : ℕ) → IsLawful c → IsWell (rule_at c r)
well_rule c r l = by_route (slice_get (routes c) r) refl
  where
    by_route : (o : Option Route) → slice_get (routes c) r ≡ o → IsWell (route_condition c.ignore_params o)
    by_route None e = ap are_named_well in_no
    by_route (Some x) e = rule_names_law c.ignore_params x.rule (route_lawful c r x l e).rule

well_guards : (c : Config) (h : ℕ) (host : Host) → IsLawful c → slice_get c.hosts h ≡ Some host → GuardsWell (guards c h host)
well_guards c h host l is = by_body host.body refl
  where
    lawful : IsLawfulBody host.body
    lawful = (All-at IsLawfulHost c.hosts host l.hosts (Has-get c.hosts h host is)).body

    by_body : (b : Body) → host.body ≡ b → GuardsWell (guards c h host)
    by_body (body.Tree t) e =
        subst GuardsWell (sym (ap (body_guards (rule_at c) (routes_before c.hosts h)) e))
        (well_tree (rule_at c) (λ r. well_rule c r l) t (let k : IsLawfulTree t = subst IsLawfulBody e lawful in record { filled = k.filled; predicates = k.predicates }) (routes_before c.hosts h))
    by_body (body.List rs) e =
        subst GuardsWell (sym (ap (body_guards (rule_at c) (routes_before c.hosts h)) e)) (well_list (rule_at c) (routes_before c.hosts h) (length rs) (λ r. well_rule c r l))

well_split : (before : List Guard) (own : Condition) (r : ℕ) (after : List Guard) → GuardsWell (before ++ ((own, Some r) ∷ after)) → AreWell (map (λ g. of.Not g.0) before) × IsWell own
well_split [] own r after h = (tt, h.0)
well_split (g ∷ gs) own r after h = let k = well_split gs own r after h.1 in ((well_not g.0 h.0, k.0), k.1)

well_goal : (c : Config) (r h : ℕ) (host : Host) (own : Condition) (before : List Guard) → IsLawful c → IsGuarded c r h host own before → IsWell (goal_condition c h host own before)
well_goal c r h host own before l g =
    let k = well_split before own r g.after (subst GuardsWell g.is (well_guards c h host l g.is_host)) in
    well_all (host_condition c h host ∷ (tls_conditions host.tls ++ (own ∷ map (λ x. of.Not x.0) before)))
    (well_host c h host, well_both (tls_conditions host.tls) (own ∷ map (λ x. of.Not x.0) before) (well_tls host.tls) (k.1, k.0))

-- ---- each atom stands in the formula

module _ (atoms : List Atom) where
  abbrev Stands : Formula → Type 0
  Stands f = (k : ℕ) (x : Atom) → Has (numbers_in f) k → slice_get atoms k ≡ Some x → Has (atoms_in (condition_of atoms f)) x

  list_stands : (es : List ((f : Formula) × Stands f)) (k : ℕ) (x : Atom) → Has (flat_map (λ n. n) (map numbers_in (map (λ e. e.0) es))) k → slice_get atoms k ≡ Some x →
      Has (flat_map (λ a. a) (map atoms_in (map (condition_of atoms) (map (λ e. e.0) es)))) x
  list_stands [] k x h e = elim h [ ]
  list_stands (f ∷ es) k x h e =
      elim (Has_cases (numbers_in f.0) (flat_map (λ n. n) (map numbers_in (map (λ z. z.0) es))) k h) [
        | inl i ↦ Has_left (atoms_in (condition_of atoms f.0)) _ x (f.1 k x i e)
        | inr i ↦ Has_right (atoms_in (condition_of atoms f.0)) _ x (list_stands es k x i e)
      ]

  leaf_stands : (j k : ℕ) (x : Atom) → Has (j ∷ []) k → slice_get atoms k ≡ Some x → Has (atoms_in (leaf_condition (slice_get atoms j))) x
  leaf_stands j k x (inl s) e = rw (ap (slice_get atoms) s ∙ e, in_leaf x) (inl refl)
  leaf_stands j k x (inr h) e = elim h [ ]

  stands_step : (y : Formula-F ((f : Formula) × Stands f)) (k : ℕ) (x : Atom) →
      Has (numbers_step (map-Formula Formula (List ℕ) numbers_in (map-Formula ((f : Formula) × Stands f) Formula (λ e. e.0) y))) k → slice_get atoms k ≡ Some x →
      Has (atoms_in (condition_step atoms (map-Formula Formula Condition (condition_of atoms) (map-Formula ((f : Formula) × Stands f) Formula (λ e. e.0) y)))) x
  stands_step Formula-F.Yes k x h e = elim h [ ]
  stands_step Formula-F.No k x h e = elim h [ ]
  stands_step (Formula-F.Leaf j) k x h e = leaf_stands j k x h e
  stands_step (Formula-F.All es) k x h e = rw (in_all (map (condition_of atoms) (map (λ z. z.0) es))) (list_stands es k x h e)
  stands_step (Formula-F.Any es) k x h e = rw (in_any (map (condition_of atoms) (map (λ z. z.0) es))) (list_stands es k x h e)
  stands_step (Formula-F.Not f) k x h e = rw (in_not (condition_of atoms f.0)) (f.1 k x h e)

  stands_roll : (y : Formula-F Formula) →
      ((k : ℕ) (x : Atom) → Has (numbers_step (map-Formula Formula (List ℕ) numbers_in y)) k → slice_get atoms k ≡ Some x →
      Has (atoms_in (condition_step atoms (map-Formula Formula Condition (condition_of atoms) y))) x) → Stands (roll-Formula y)
  stands_roll y h = rw (fold-roll-Formula (List ℕ) numbers_step y, fold-roll-Formula Condition (condition_step atoms) y) h

  stands : (f : Formula) → Stands f
  stands = ind-Formula Stands (λ x y is. subst (λ z. Stands (roll-Formula z)) is (stands_roll _ (stands_step y)))

-- a number at its first place is one of the numbers
pub firsts_has : (ks : List ℕ) (k : ℕ) → Has (firsts ks) k → Has ks k
firsts_has [] k h = h
firsts_has (j ∷ ks) k (inl e) = inl e
firsts_has (j ∷ ks) k (inr h) = inr (firsts_has ks k (has_filter (λ i. not (i == j)) (firsts ks) k h).0)

pub range_has : (n from k : ℕ) → k < n → Has (range_with_len from n) (from + k)
range_has zero from k l = absurd (omega (arith, l))
range_has (suc n) from zero l = inl (omega arith)
range_has (suc n) from (suc k) l = inr (subst (Has (range_with_len (from + 1) n)) (omega arith) (range_has n (from + 1) k (omega (arith, l))))

pub passes_at : {A : Type 0} (p : A → Bool) (xs : List A) (x : A) → list_all p xs ≡ true → Has xs x → p x ≡ true
passes_at p [] x h i = elim i [ ]
passes_at p (y ∷ xs) x h (inl s) = subst (λ z. p z ≡ true) s (and_parts (p y) (list_all p xs) h).0
passes_at p (y ∷ xs) x h (inr i) = passes_at p xs x (and_parts (p y) (list_all p xs) h).1 i

pub well_formed_law : WellFormedLaw
well_formed_law c r goal l g =
    record {
      leaves = g.numbered.meant.leaves;
      apart = g.numbered.apart;
      names = passes_all (λ a. is_named_well (field_in a)) goal.atoms named;
    }
  where
    named : (j : ℕ) (x : Atom) → slice_get goal.atoms j ≡ Some x → is_named_well (field_in x) ≡ true
    named j x e =
        let there : Has (range_with_len 0 (length goal.atoms)) j =
        subst (Has (range_with_len 0 (length goal.atoms))) (omega arith) (range_has (length goal.atoms) 0 j (slice_get_within goal.atoms j x e)) in
        let number : Has (numbers_in goal.formula) j = firsts_has (numbers_in goal.formula) j (subst (λ ks. Has ks j) (sym g.numbered.order) there) in
        let atom = stands goal.atoms goal.formula j x number e in
        passes_at (λ a. is_named_well (field_in a)) (atoms_in (goal_condition c g.h g.host g.own g.before)) x
        (well_goal c r g.h g.host g.own g.before l g.guarded) (subst (λ k. Has (atoms_in k) x) g.numbered.meant.is atom)
