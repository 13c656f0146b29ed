use Rattle.std.proofs.Common.{◌≤◌, ◌≡◌, length}
use Rattle.state_rules.specs.Places.{connections_of}
use Rattle.state_image.specs.Kept.{Kept}
use Rattle.io_producing.specs.SendLaws.{SendSoFar}
use Rattle.io_producing.proofs.send_all.Given as goal

abbrev pub invariant-loop-i : goal.invariant-loop-i
invariant-loop-i l = (l.at ≤ length l.out) × (length l.out ≡ length l.initial.out) × Kept l.n l.initial.s l.s × (l.n ≡ connections_of l.initial.s) × SendSoFar l.time l.i l.initial.s l.s l.initial.out l.out l.at
