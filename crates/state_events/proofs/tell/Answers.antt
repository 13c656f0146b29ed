-- The record of the row's connection, put over zeros, is pushed.
use Rattle.std.proofs.Common.{arith}
use Rattle.state_image.specs.Holds.{setup_ready}
use Rattle.state_events.specs.Pushes.{tells}
use Rattle.state_events.proofs.tell.Goals as goal

pub put_record-requires : goal.put_record-requires
put_record-requires c = let q = setup_ready c.args.s.now c.requires in (omega arith, q.0, q.1)

pub returns : goal.returns
returns c = let a = c.args in
    let told = c.push_event in
    (told.ensures.0, tells a.s.now told.new.s c.put_record.new.row a.what a.f c.put_record.ensures told.ensures.1)
