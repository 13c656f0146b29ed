use Rattle.std.proofs.Common.{arith}
use Rattle.io_receiving.specs.TakeLaws.{offer_nowhere, offer_other, offer_taken}
use Rattle.io_receiving.proofs.offer.Goals as goal

pub returns-then-n-o : goal.returns-then-n-o
returns-then-n-o c = let a = c.args in offer_nowhere a.s.now a.output a.d.now c.u8_at-n.result c.u8_at-n.ensures c.if-n-o.true

pub returns-then-d-size : goal.returns-then-d-size
returns-then-d-size c = let a = c.args in offer_other a.s.now a.output a.d.now c.u8_at-n.result c.u8_at-n.ensures c.if-n-o.false c.size_at-size.result c.size_at-size.ensures c.if-d-size.true

pub take_in-requires : goal.take_in-requires
take_in-requires c = let p = c.requires in let e = c.u8_at-n.ensures in let g = c.if-n-o.false in let z = c.size_at-size.ensures in let w = c.if-d-size.false in let b = p.1 c.args.output (omega (arith, e, g)) in (p.0, omega (arith, e, g), omega (arith, w), omega (arith, w, z, b))

pub returns : goal.returns
returns c = let a = c.args in offer_taken a.s.now a.output a.d.now c.u8_at-n.result c.u8_at-n.ensures c.if-n-o.false c.size_at-size.result c.size_at-size.ensures c.if-d-size.false c.take_in.new.s c.take_in.ensures
