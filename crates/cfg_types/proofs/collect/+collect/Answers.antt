use Rattle.cfg_types.proofs.Runs.{list_routes-is, exact_routes-is, prefix_routes-is}
use Rattle.cfg_types.proofs.collect.+collect.Goals as goal

pub add_entries-returns-in-List : goal.add_entries-returns-in-List
add_entries-returns-in-List t c = rw (c.in-List.is, list_routes-is, ← c.as_slice.ensures) c.add_list.ensures

pub add_entries-returns-in-Exact : goal.add_entries-returns-in-Exact
add_entries-returns-in-Exact t c = rw (c.in-Exact.is, exact_routes-is, ← c.as_slice-in-Exact.ensures) c.add_map.ensures

pub add_entries-returns-in-Prefix : goal.add_entries-returns-in-Prefix
add_entries-returns-in-Prefix t c = rw (c.in-Prefix.is, prefix_routes-is, ← c.as_slice-in-Prefix.ensures) c.add_map-in-Prefix.ensures
