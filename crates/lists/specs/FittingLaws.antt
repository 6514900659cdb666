-- For the proof: what fits and what doesn't, by the lengths of the lists. Assumes nothing.
use Rattle.std.specs.Prelude.{◌≡◌, ◌≤◌, ◌<◌, length}
use Rattle.std.proofs.Common.{le-leb}
use Rattle.std.proofs.lemmas.Bool.{lt-leb}
use Rattle.standard.specs.Machine.{Limits, refusal}
use Rattle.lists.specs.Lists.{Lists, goes, stops, fitting}

module _ (limits : Limits) (s : Lists) where
  pub all_fits : length s.keys ≤ limits.keys → length s.nodes ≤ limits.nodes → length s.work ≤ limits.work → fitting limits s ≡ goes s
  all_fits k n w = rw (le-leb (length s.keys) limits.keys k, le-leb (length s.nodes) limits.nodes n, le-leb (length s.work) limits.work w)

  pub no_work_room : length s.keys ≤ limits.keys → length s.nodes ≤ limits.nodes → limits.work < length s.work → fitting limits s ≡ stops (refusal 17 0 s.left)
  no_work_room k n w = rw (le-leb (length s.keys) limits.keys k, le-leb (length s.nodes) limits.nodes n, lt-leb (length s.work) limits.work w)

  pub no_node_room : length s.keys ≤ limits.keys → limits.nodes < length s.nodes → fitting limits s ≡ stops (refusal 15 0 s.left)
  no_node_room k n = rw (le-leb (length s.keys) limits.keys k, lt-leb (length s.nodes) limits.nodes n)

  pub no_key_room : limits.keys < length s.keys → fitting limits s ≡ stops (refusal 16 0 s.left)
  no_key_room k = rw (lt-leb (length s.keys) limits.keys k)
