use Rattle.std.proofs.Common.{arith}
use Rattle.io_counting.specs.CountLaws.{count_never, count_later, count_due}
use Rattle.io_counting.proofs.count_row.Goals as goal

pub returns-then-time-t : goal.returns-then-time-t
returns-then-time-t c = let a = c.args in
    (omega arith, omega arith, omega arith, count_later a.time a.limit a.i a.s.now c.requires.2 c.due_at-d.result c.due_at-d.ensures a.k c.in-Some.t c.in-Some.is c.if-time-t.true)

pub returns-in-None : goal.returns-in-None
returns-in-None c = let a = c.args in
    (omega arith, omega arith, omega arith, count_never a.time a.limit a.i a.s.now c.requires.2 c.due_at-d.result c.due_at-d.ensures a.k c.in-None.is)

pub returns-else-time-t : goal.returns-else-time-t
returns-else-time-t c = let a = c.args in
    let p = c.requires in
    let d = c.data_of-p in
    let r = c.add_packet in (
      r.ensures.0,
      r.ensures.1,
      r.ensures.2,
      count_due a.time a.limit a.i a.s.now p.2 c.due_at-d.result c.due_at-d.ensures a.k c.in-Some.t c.in-Some.is c.if-time-t.false
          c.input_at.result c.input_at.ensures d.result.at d.result.size d.ensures.0 p.0.long d.ensures.2 r.result r.ensures.3,
    )
