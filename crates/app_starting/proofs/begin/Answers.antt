-- Zeros, the block up to its assemblies, the EDS mark, the columns, the next id and the EDS, one over the other, are the fresh state.
use Rattle.std.proofs.Common.{ℕ, ap, ◌∙◌}
use Rattle.app_starting.specs.Block.{zeros, eds_mark}
use Rattle.app_starting.specs.Begin.{all_zero, begun}
use Rattle.app_starting.proofs.begin.Goals as goal

pub returns : goal.returns
returns c = let a = c.args in
    let p = c.requires in
    begun a.block.now a.eds.now a.seed c.eds_mark-mark.result p.1 p.2 p.3
    (c.eds_mark-mark.ensures ∙ ap (λ (f : ℕ). eds_mark f a.eds.now) c.u32_at.ensures)
    _ _ _ _ _ _ _ _ c.u8_at-assemblies.ensures c.first_id-id.ensures (all_zero a.s.now _ c.zero.ensures ∙ ap zeros p.0)
    c.copy_in.ensures c.put_u32.ensures c.put_shapes.ensures c.put_u32-2.ensures c.copy_in-2.ensures
