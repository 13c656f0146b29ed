-- Two ways out: too little room, and all of it sent.
use Rattle.io_producing.specs.CallLaws.{no_room, all_out}
use Rattle.io_producing.proofs.produce_due.Goals as goal

pub returns-then-out-k : goal.returns-then-out-k
returns-then-out-k c = let a = c.args in
    let k = c.count_all-k in
    no_room a.time a.s.now a.out.now k.result k.ensures.1 c.requires.2 c.if-out-k.true

pub returns : goal.returns
returns c = let a = c.args in
    let k = c.count_all-k in
    let d = c.send_all in
    let b = c.keep_tally in
    all_out a.time a.s.now a.out.now k.result k.ensures.1 c.requires.2 c.if-out-k.false d.new.s b.new.s d.new.out d.ensures.1 b.ensures
