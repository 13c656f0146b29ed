use Rattle.std.proofs.Common.{arith}
use Rattle.state_image.specs.Fits.{is_long}
use Rattle.open_deciding.specs.Seen.{regions_tested, verdict_seen}
use Rattle.open_deciding.proofs.verdict.Goals as goal

pub u16_at-n-requires : goal.u16_at-n-requires
u16_at-n-requires c = let l = is_long c.args.s.now c.requires in omega arith

pub slice_bounds-decide-end : goal.slice_bounds-decide-end
slice_bounds-decide-end c = let l = is_long c.args.s.now c.requires in omega arith

pub slice_bounds-decide-end-2 : goal.slice_bounds-decide-end-2
slice_bounds-decide-end-2 c = let l = is_long c.args.s.now c.requires in omega arith

pub decide-requires : goal.decide-requires
decide-requires c = regions_tested c.args.s.now c.u16_at-n.result c.u16_at-n.ensures c.requires

pub returns : goal.returns
returns c = let a = c.args in verdict_seen a.s.now c.u16_at-n.result c.u16_at-n.ensures a.o a.answer c.decide.result c.decide.ensures
