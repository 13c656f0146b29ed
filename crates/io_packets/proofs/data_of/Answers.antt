use Rattle.std.proofs.Common.{arith}
use Rattle.io_packets.specs.PacketLaws.{data_none, data_some}
use Rattle.io_packets.proofs.data_of.Goals as goal

pub returns-then-n-i : goal.returns-then-n-i
returns-then-n-i c = let a = c.args in (omega arith, omega arith, data_none a.s.now a.input c.u8_at-n.result c.u8_at-n.ensures c.if-n-i.true)

pub returns : goal.returns
returns c = let a = c.args in let p = c.requires in let e = c.u8_at-n.ensures in let z = c.size_at.ensures in let g = c.if-n-i.false in let f = p.0.assemblies in let b = p.1 a.input (omega (arith, e, g)) in (omega (arith, z, b, e, g, f), omega (arith, z, b), data_some a.s.now a.input c.u8_at-n.result e g c.size_at.result z)
