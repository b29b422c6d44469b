-- Where a request stands, and the choice there.
use Rattle.std.proofs.Common.{◌≡◌, ◌≤◌, ◌<◌, ℕ, zero, suc, ◌+◌, Bool, true, false, if◌then◌else◌, List, [], ◌∷◌, ◌++◌, length, get_or, Option, Some, None, slice_get, refl, sym, ap, ◌∙◌, subst, arith, inl, inr}
use Rattle.std.specs.Prelude.{option_map, IfSome}
use Rattle.std.proofs.lemmas.Bool.{cases_lt}
use Rattle.text_base.specs.Asked.{Asked}
use Rattle.cfg_types.specs.Hosts.{host_for}
use Rattle.cfg_types.specs.Order.{routes, body_routes, routes_of_hosts, tree_routes}
use Rattle.cfg_types.specs.Trees.{Span, behind, tree_outcome}
use Rattle.cfg_types.specs.Choices.{needs_tls, tried_routes, routes_before, among, at_host, at_number, choice_of}
use Rattle.cfg_types.specs.declared.configs.Config.{Config}
use Rattle.cfg_types.specs.declared.configs.Host.{Host}
use Rattle.cfg_types.specs.declared.configs.Body.{Body}
use Rattle.cfg_types.specs.declared.configs.Body.TheVariants as body
use Rattle.cfg_types.specs.declared.answers.Choice.TheVariants as choice
use Rattle.cfg_types.proofs.TreeProofs.{outcome_stands}
use Rattle.host_pick.specs.Tables.{Table, table_of, host_in}
use Rattle.route_scan.specs.Spots.{spot_among, spot_at, spot_number, spot_of, chosen_at, IsSpotWithin}
use Rattle.route_scan.specs.Walks.{Walked, IsTreeOf, tree_room, most_tree_room}
use Rattle.route_scan.specs.declared.scan.Spot.{Spot}
use Rattle.route_scan.specs.declared.scan.Spot.TheVariants as spot
use Rattle.match_tree.specs.Inputs.{seen_by}
use Rattle.match_tree.specs.Outcomes.{matcher_outcome}
use Rattle.match_tree.specs.declared.build.Span.{Span as Row}
use Rattle.route_scan.proofs.Firsts.{within_all}

-- ---- the choice at a spot

chosen_among : (a : ℕ → Bool) (h before : ℕ) (o : Option Span) → chosen_at a (spot_among h before o) ≡ among a h before o
chosen_among a h before None = refl
chosen_among a h before (Some s) = refl

chosen_host : (a : ℕ → Bool) (hs : List Host) (q : Asked) (h : ℕ) (o : Option Host) → chosen_at a (spot_at hs q h o) ≡ at_host a hs q h o
chosen_host a hs q h None = refl
chosen_host a hs q h (Some x) = by (needs_tls x.tls q) (chosen_among a h (routes_before hs h) (tried_routes x.body q))
  where
    by : (b : Bool) → chosen_at a (spot_among h (routes_before hs h) (tried_routes x.body q)) ≡ among a h (routes_before hs h) (tried_routes x.body q) →
        chosen_at a (if b then spot.Tls h else spot_among h (routes_before hs h) (tried_routes x.body q)) ≡ (if b then choice.Tls h else among a h (routes_before hs h) (tried_routes x.body q))
    by true e = refl
    by false e = e

chosen_number : (a : ℕ → Bool) (hs : List Host) (q : Asked) (o : Option ℕ) → chosen_at a (spot_number hs q o) ≡ at_number a hs q o
chosen_number a hs q None = refl
chosen_number a hs q (Some h) = chosen_host a hs q h (slice_get hs h)

pub chosen_there : (a : ℕ → Bool) (c : Config) (q : Asked) → chosen_at a (spot_of c q) ≡ choice_of a c q
unfolding choice_of
chosen_there a c q = chosen_number a c.hosts q (host_for c q.authority)

-- ---- a spot's routes are among all

body_within : (b : Body) (q : Asked) (n before all : ℕ) → before + length (body_routes b) ≤ all → IsSpotWithin (spot_among n before (tried_routes b q)) all
body_within (body.List rs) q n before all l = omega (arith, l)
body_within (body.Tree t) q n before all l = by (tree_outcome q t) (outcome_stands q t).within
  where
    by : (o : Option Span) → IfSome o (λ s. s.0 + s.1 ≤ length (tree_routes t)) → IsSpotWithin (spot_among n before o) all
    by None h = tt
    by (Some s) h = omega (arith, l, h)

host_within : (hs : List Host) (q : Asked) (n : ℕ) (o : Option Host) → slice_get hs n ≡ o → IsSpotWithin (spot_at hs q n o) (length (routes_of_hosts hs))
host_within hs q n None e = tt
host_within hs q n (Some x) e = by (needs_tls x.tls q)
  where
    by : (b : Bool) → IsSpotWithin (if b then spot.Tls n else spot_among n (routes_before hs n) (tried_routes x.body q)) (length (routes_of_hosts hs))
    by true = tt
    by false = body_within x.body q n (routes_before hs n) (length (routes_of_hosts hs)) (within_all hs n x e)

number_within : (hs : List Host) (q : Asked) (o : Option ℕ) → IsSpotWithin (spot_number hs q o) (length (routes_of_hosts hs))
number_within hs q None = tt
number_within hs q (Some n) = host_within hs q n (slice_get hs n) refl

pub spot_within : (c : Config) (q : Asked) (s : Spot) → s ≡ spot_of c q → IsSpotWithin s (length (routes c))
spot_within c q s e = subst (λ t. IsSpotWithin t (length (routes c))) (sym e) (number_within c.hosts q (host_for c q.authority))

-- ---- the spot at a host that is picked

pub element_at : {A : Type 0} (xs : List A) (i : ℕ) (x : A) → i < length xs → x ≡ get_or xs i x → slice_get xs i ≡ Some x
element_at [] i x lt e = absurd (omega arith)
element_at (y ∷ ys) zero x lt e = ap Some (sym e)
element_at (y ∷ ys) (suc i) x lt e = element_at ys i x (omega arith) e

pub spot_there : (c : Config) (q : Asked) (t : Table) (n : ℕ) (x : Host) → t ≡ table_of c → Some n ≡ host_in t q.authority → n < length c.hosts → x ≡ get_or c.hosts n x → needs_tls x.tls q ≡ false →
    spot_among n (routes_before c.hosts n) (tried_routes x.body q) ≡ spot_of c q
spot_there c q t n x same e lt is plain =
    ap (λ b. if b then spot.Tls n else spot_among n (routes_before c.hosts n) (tried_routes x.body q)) (sym plain)
    ∙ ap (spot_at c.hosts q n) (sym (element_at c.hosts n x lt is))
    ∙ ap (spot_number c.hosts q) (e ∙ ap (λ u. host_in u q.authority) same)

pub listed_spot : (b : Body) (q : Asked) (start n before first many : ℕ) → IsTreeOf b start None → first ≡ before → many ≡ length (body_routes b) → spot.Among n first many ≡ spot_among n before (tried_routes b q)
listed_spot (body.List rs) q start n before first many t f m = let e : first ≡ before + 0 = omega (arith, f) in ap (λ k. spot.Among n k many) e ∙ ap (spot.Among n (before + 0)) m
listed_spot (body.Tree u) q start n before first many t f m = absurd t

unmatched_outcome : (o : Option Span) (start : ℕ) → None ≡ behind start o → o ≡ None
unmatched_outcome None start e = refl
unmatched_outcome (Some s) start e = absurd (cc e)

pub unmatched_spot : (b : Body) (q : Asked) (start n before : ℕ) (m : Walked) → IsTreeOf b start (Some m) → None ≡ matcher_outcome seen_by q m → spot.NoRoute n ≡ spot_among n before (tried_routes b q)
unmatched_spot (body.List rs) q start n before m t e = absurd t
unmatched_spot (body.Tree u) q start n before m t e =
    ap (spot_among n before) (sym (unmatched_outcome (tree_outcome q u) start (ap (option_map (λ (s : Row). (s.first, s.many))) e ∙ t q)))

matched_outcome : (o : Option Span) (n start before first many : ℕ) → start ≡ before → Some (first, many) ≡ behind start o → spot.Among n first many ≡ spot_among n before o
matched_outcome None n start before first many s e = absurd (cc e)
matched_outcome (Some p) n start before first many s e =
    let pair : (first, many) ≡ (start + p.0, p.1) = cc e in
    ap (λ (x : ℕ × ℕ). spot.Among n x.0 x.1) pair ∙ ap (λ k. spot.Among n (k + p.0) p.1) s

pub matched_spot : (b : Body) (q : Asked) (start n before : ℕ) (m : Walked) (s : Row) → IsTreeOf b start (Some m) → start ≡ before → Some s ≡ matcher_outcome seen_by q m → spot.Among n s.first s.many ≡ spot_among n before (tried_routes b q)
matched_spot (body.List rs) q start n before m s t e f = absurd t
matched_spot (body.Tree u) q start n before m s t e f = matched_outcome (tree_outcome q u) n start before s.first s.many e (ap (option_map (λ (r : Row). (r.first, r.many))) f ∙ t q)

-- ---- lists of trees

pub tree_fits : (ts : List (Option Walked)) (i : ℕ) (t : Option Walked) → i < length ts → t ≡ get_or ts i t → tree_room t ≤ most_tree_room ts
tree_fits [] i t lt e = absurd (omega arith)
tree_fits (x ∷ ts) zero t lt e = let h : tree_room t ≡ tree_room x = ap tree_room e in omega (arith, h)
tree_fits (x ∷ ts) (suc i) t lt e = let h = tree_fits ts i t (omega arith) e in omega (arith, h)

pub default_at : {A : Type 0} (xs : List A) (i : ℕ) (x d : A) → i < length xs → x ≡ get_or xs i x → x ≡ get_or xs i d
default_at [] i x d lt e = absurd (omega arith)
default_at (y ∷ ys) zero x d lt e = e
default_at (y ∷ ys) (suc i) x d lt e = default_at ys i x d (omega arith) e

get_front : {A : Type 0} (xs ys : List A) (k : ℕ) (d : A) → k < length xs → get_or (xs ++ ys) k d ≡ get_or xs k d
get_front [] ys k d lt = absurd (omega arith)
get_front (x ∷ xs) ys zero d lt = refl
get_front (x ∷ xs) ys (suc k) d lt = get_front xs ys k d (omega arith)

get_end : {A : Type 0} (xs : List A) (x d : A) → get_or (xs ++ x ∷ []) (length xs) d ≡ x
get_end [] x d = refl
get_end (y ∷ ys) x d = get_end ys x d

pub tree_added : (hosts : List Host) (starts : List ℕ) (ts next : List (Option Walked)) (at : ℕ) (host : Host) (t : Option Walked) → length ts ≡ at → at < length hosts → host ≡ get_or hosts at host →
    ((h : ℕ) (x : Host) → h < at → x ≡ get_or hosts h x → IsTreeOf x.body (get_or starts h 0) (get_or ts h None)) → IsTreeOf host.body (get_or starts at 0) t → next ≡ ts ++ t ∷ [] →
    (h : ℕ) (x : Host) → h < at + 1 → x ≡ get_or hosts h x → IsTreeOf x.body (get_or starts h 0) (get_or next h None)
tree_added hosts starts ts next at host t many lt is each own e h x l m = elim (cases_lt h at) [
  | inl below ↦ subst (λ o. IsTreeOf x.body (get_or starts h 0) o) (sym (ap (λ n. get_or n h None) e ∙ get_front ts (t ∷ []) h None (omega (arith, many, below)))) (each h x below m)
  | inr above ↦
      let same : h ≡ at = omega (arith, above, l) in
      let whole : get_or next at None ≡ t = ap (λ n. get_or n at None) e ∙ ap (λ k. get_or (ts ++ t ∷ []) k None) (sym many) ∙ get_end ts t None in
      let body_is : host ≡ x = default_at hosts at host x lt is ∙ sym (m ∙ ap (λ k. get_or hosts k x) same) in
      subst (λ k. IsTreeOf x.body (get_or starts k 0) (get_or next k None)) (sym same)
      (subst (λ o. IsTreeOf x.body (get_or starts at 0) o) (sym whole) (subst (λ y. IsTreeOf y.body (get_or starts at 0) t) body_is own))
]
