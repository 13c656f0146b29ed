-- Data of a path that parsed lies inside it.
use Rattle.std.proofs.Common.{sym, ◌∙◌, arith}
use Rattle.wire_segments.specs.PathLaws.{data_inside}
use Rattle.open_answering.proofs.asking.config_in.Goals as goal

pub overflow_add-result : goal.overflow_add-result
overflow_add-result c = let h = data_inside c.args.path.now c.in-Ok.p (sym c.in-Ok.is ∙ c.requires) in omega arith

pub slice_bounds-result-end : goal.slice_bounds-result-end
slice_bounds-result-end c = let h = data_inside c.args.path.now c.in-Ok.p (sym c.in-Ok.is ∙ c.requires) in omega arith
