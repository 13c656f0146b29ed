use Rattle.std.proofs.Common.{◌≡◌, length}
use lib.Seq.{sets}
use Rattle.state_rules.specs.Places.{table_in, connections_of}
use Rattle.state_rules.specs.Setups.{setup_of}
use Rattle.state_rules.specs.Rows.{conns_in}
use Rattle.app_listing.specs.Listing.{tellings}
use Rattle.app_listing.proofs.connections.Given as goal

abbrev pub invariant-loop-i : goal.invariant-loop-i
invariant-loop-i l = (l.out ≡ sets l.initial.out 0 (tellings (setup_of l.s) l.i (conns_in (connections_of l.s) (table_in l.s)))) × (length l.out ≡ length l.initial.out)
