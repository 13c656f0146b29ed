use Rattle.std.proofs.Common.{arith}
use Rattle.conn_ending.specs.Expiry.{went}
use Rattle.conn_ending.proofs.expire_some.Goals as goal

pub u16_at-n-requires : goal.u16_at-n-requires
u16_at-n-requires c = let e = c.requires.long in omega arith

pub u16_at-requires : goal.u16_at-requires
u16_at-requires c = let e = c.expire_each.ensures.0.ready.long in omega arith

pub overflow_sub-result : goal.overflow_sub-result
overflow_sub-result c = let e = c.expire_each.ensures.0.fewer in omega arith

pub returns : goal.returns
returns c = let d = c.expire_each.ensures in (d.0, went c.args.time _ _ c.args.s.now _ c.u16_at-n.ensures c.u16_at.ensures d.1)
