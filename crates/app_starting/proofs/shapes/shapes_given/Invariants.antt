use Rattle.std.proofs.Common.{◌≡◌, drop}
use Rattle.base_cells.specs.Back.{all}
use Rattle.base_tables.specs.Tables.{rows}
use Rattle.app_starting.specs.Block.{shapes_at}
use Rattle.app_starting.specs.Shapes.{shape_given}
use Rattle.app_starting.proofs.shapes.shapes_given.Given as goal

abbrev pub invariant-loop-i : goal.invariant-loop-i
invariant-loop-i l = all (rows 5 shape_given l.n (drop shapes_at l.r)) ≡ all (drop l.i (rows 5 shape_given l.n (drop shapes_at l.r)))
