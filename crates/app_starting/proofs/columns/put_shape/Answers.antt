-- The three numbers, each over what the one before left.
use Rattle.app_starting.specs.Columns.{columned}
use Rattle.app_starting.proofs.columns.put_shape.Goals as goal

pub returns : goal.returns
returns c = let a = c.args in
    columned a.block.now a.i a.s.now _ _ _ _ _ _ c.u16_at-instance.ensures c.u16_at-size.ensures c.u8_at-kind.ensures
    c.put_u16.ensures c.put_u16-2.ensures c.put_u8.ensures
