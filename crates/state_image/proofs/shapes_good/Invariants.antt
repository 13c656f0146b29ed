use Rattle.std.proofs.Common.{◌≡◌, ◌&&◌, drop}
use Rattle.base_cells.specs.Back.{all}
use Rattle.state_rules.specs.Setups.{tests_shapes, good_shapes}
use Rattle.state_image.proofs.shapes_good.Given as goal

abbrev pub invariant-loop-i : goal.invariant-loop-i
invariant-loop-i l = good_shapes l.r ≡ (l.good && all (drop l.i (tests_shapes l.r)))
