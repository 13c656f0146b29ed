use Rattle.io_receiving.specs.HearLaws.{found_inside, from_found, from_nowhere}
use Rattle.io_receiving.proofs.hear_from.Goals as goal

pub hear-requires : goal.hear-requires
hear-requires c = let a = c.args in let p = c.requires in (p.0, p.1, found_inside a.s.now a.time a.from a.id a.q a.d.now c.u16_at-n.result c.u16_at-n.ensures c.find.result c.find.ensures c.in-Some.i c.in-Some.is, p.2)

pub returns-in-Some : goal.returns-in-Some
returns-in-Some c = let a = c.args in from_found a.s.now a.time a.from a.id a.q a.d.now c.u16_at-n.result c.u16_at-n.ensures c.find.result c.find.ensures c.in-Some.i c.in-Some.is c.hear.new.s c.hear.ensures

pub returns-in-None : goal.returns-in-None
returns-in-None c = let a = c.args in from_nowhere a.s.now a.time a.from a.id a.q a.d.now c.u16_at-n.result c.u16_at-n.ensures c.find.result c.find.ensures c.in-None.is
