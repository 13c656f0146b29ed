use Rattle.std.proofs.Common.{◌≡◌, length}
use Rattle.app_starting.specs.Block.{spread}
use Rattle.app_starting.proofs.columns.put_shapes.Given as goal

abbrev pub invariant-loop-i : goal.invariant-loop-i
invariant-loop-i l = (l.s ≡ spread l.block l.i l.initial.s) × (length l.s ≡ length l.initial.s)
