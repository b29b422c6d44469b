-- The routes of a list and of an action have their places.
use Rattle.std.proofs.Common.{◌≡◌, ℕ, zero, suc, ◌+◌, List, [], ◌∷◌, ◌++◌, map, Option, refl, sym, ap, arith, lit<}
use Rattle.std.specs.List.{AllZip, enumerate_from}
use Rattle.std.specs.Prelude.{Contains, IfOk, flat_map, codes}
use Rattle.serde_json.specs.Data.{Data, Items, no_items, item}
use Rattle.json_walk.specs.Places.{under, escape, piece, at_index}
use Rattle.json_walk.specs.Leaves.{list, items, list_of}
use Rattle.json_walk.proofs.ReadFacts.{after, whatever}
use Rattle.cfg_types.specs.Places.{Places, escaped_byte, element, member, list_places, action_places}
use Rattle.cfg_types.specs.declared.routes.Route.{Route}
use Rattle.read_action.specs.Routes.{route}
use Rattle.read_action.proofs.LawfulRoutes.{route_placed}

abbrev pub At : Route → Places → Type 0
At r ps = Contains ps r.place

-- each route has its place
abbrev pub Placed : List Route → List Places → Type 0
Placed rs ps = AllZip At rs ps

pub placed_both : (rs ts : List Route) (ps qs : List Places) → Placed rs ps → Placed ts qs → Placed (rs ++ ts) (ps ++ qs)
placed_both [] ts [] qs a b = b
placed_both [] ts (p ∷ ps) qs a b = absurd a
placed_both (r ∷ rs) ts [] qs a b = absurd a
placed_both (r ∷ rs) ts (p ∷ ps) qs a b = (a.0, placed_both rs ts ps qs a.1 b)

-- ---- a list

-- the routes of a list, from number i on
abbrev places_from : List ℕ → ℕ → List Route → List Places
places_from at i rs = map (λ r. element at r.0 ∷ []) (enumerate_from i rs)

here : (at p : List ℕ) (ps : Places) → p ≡ at → Contains (at ∷ ps) p
here at p ps e = (0, omega arith, sym e)

routes_placed : (p : List ℕ) (i : ℕ) (ds : Items) → IfOk (items p route i ds) (λ rs. Placed rs (places_from p i rs))
unfolding items
routes_placed p i no_items = tt
routes_placed p i (item d ds) =
    after (route (at_index p i) d) _ (λ r. r.place ≡ at_index p i) (λ rs. Placed rs (places_from p i rs)) (route_placed (at_index p i) d) (λ r e.
    after (items p route (i + 1) ds) _ (λ rs. Placed rs (places_from p (i + 1) rs)) (λ rs. Placed rs (places_from p i rs)) (routes_placed p (i + 1) ds) (λ rs rest. (here (element p i) r.place [] e, rest)))

pub list_placed : (most : Option ℕ) (p : List ℕ) (d : Data) → IfOk (list_of most route p d) (λ rs. Placed rs (list_places p rs))
unfolding list_of
list_placed most p d = whatever (list most p d) _ (λ rs. Placed rs (list_places p rs)) (λ ds. routes_placed p 0 ds)

-- ---- an action

pub alone_placed : (p : List ℕ) (r : Route) → r.place ≡ p → Placed (r ∷ []) (action_places p (r ∷ []))
alone_placed p r e = (here p r.place (element (member p (codes "routes")) 0 ∷ []) e, tt)

pub listed_placed : (p : List ℕ) (rs : List Route) → Placed rs (list_places (member p (codes "routes")) rs) → Placed rs (action_places p rs)
listed_placed p [] h = tt
listed_placed p (r ∷ []) h = (behind (element (member p (codes "routes")) 0) r.place h.0, tt)
  where
    behind : (at q : List ℕ) → Contains (at ∷ []) q → Contains (p ∷ at ∷ []) q
    behind at q (zero, l, e) = (1, lit< tt, e)
    behind at q (suc k, l, e) = absurd (omega arith)
listed_placed p (r ∷ (s ∷ rs)) h = h

-- ---- the place of a member

piece_is : (b : ℕ) → piece b ≡ escaped_byte b
piece_is b = refl

escape_is : (n : List ℕ) → escape n ≡ flat_map escaped_byte n
escape_is [] = refl
escape_is (b ∷ n) = ap (λ t. escaped_byte b ++ t) (escape_is n)

pub under_is : (p n : List ℕ) → under p n ≡ member p n
under_is p n = ap (λ t. p ++ 47 ∷ t) (escape_is n)
