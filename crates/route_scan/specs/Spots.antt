-- Where a request stands before any route is tried.
use Rattle.std.specs.Prelude.{ℕ, ◌+◌, ◌≤◌, Bool, if◌then◌else◌, List, Option, Some, None, slice_get}
use Rattle.text_base.specs.Asked.{Asked}
use Rattle.cfg_types.specs.Hosts.{host_for}
use Rattle.cfg_types.specs.Trees.{Span}
use Rattle.cfg_types.specs.Choices.{needs_tls, tried_routes, routes_before, first_accepted, chosen_or}
use Rattle.cfg_types.specs.declared.configs.Config.{Config}
use Rattle.cfg_types.specs.declared.configs.Host.{Host}
use Rattle.cfg_types.specs.declared.answers.Choice.{Choice}
use Rattle.cfg_types.specs.declared.answers.Choice.TheVariants as choice
use Rattle.route_scan.specs.declared.scan.Spot.{Spot}
use Rattle.route_scan.specs.declared.scan.Spot.TheVariants as spot

-- the routes that are tried, where `before` routes stand before those of host h
abbrev pub spot_among : ℕ → ℕ → Option Span → Spot
spot_among h before None = spot.NoRoute h
spot_among h before (Some s) = spot.Among h (before + s.0) s.1

abbrev pub spot_at : List Host → Asked → ℕ → Option Host → Spot
spot_at hs q h None = spot.NoHost
spot_at hs q h (Some host) = if needs_tls host.tls q then spot.Tls h else spot_among h (routes_before hs h) (tried_routes host.body q)

abbrev pub spot_number : List Host → Asked → Option ℕ → Spot
spot_number hs q None = spot.NoHost
spot_number hs q (Some h) = spot_at hs q h (slice_get hs h)

abbrev pub spot_of : Config → Asked → Spot
spot_of c q = spot_number c.hosts q (host_for c q.authority)

-- the first accepted route there
abbrev pub chosen_at : (ℕ → Bool) → Spot → Choice
chosen_at a spot.NoHost = choice.NoHost
chosen_at a (spot.Tls h) = choice.Tls h
chosen_at a (spot.NoRoute h) = choice.NoRoute h
chosen_at a (spot.Among h first many) = chosen_or h (first_accepted a first many)

-- the routes that are tried are among n
abbrev pub IsSpotWithin : Spot → ℕ → Type 0
IsSpotWithin spot.NoHost n = Unit {0}
IsSpotWithin (spot.Tls h) n = Unit {0}
IsSpotWithin (spot.NoRoute h) n = Unit {0}
IsSpotWithin (spot.Among h first many) n = first + many ≤ n
