use Rattle.std.proofs.Common.{refl, ap, arith}
use Rattle.rules.specs.Receiving.{frame_of}
use Rattle.io_receiving.specs.FrameLaws.{payload_inside, receive_none, receive_io}
use Rattle.io_receiving.proofs.receive.Goals as goal

pub overflow_add-e : goal.overflow_add-e
overflow_add-e c = let v = c.in-Io in let b = payload_inside c.args.frame.now c.decode_io.result v.id v.sequence v.start v.len c.decode_io.ensures v.is in omega (arith, b)

pub slice_bounds-hear_from-end : goal.slice_bounds-hear_from-end
slice_bounds-hear_from-end c = let v = c.in-Io in let b = payload_inside c.args.frame.now c.decode_io.result v.id v.sequence v.start v.len c.decode_io.ensures v.is in omega (arith, b)

pub returns-in-Io : goal.returns-in-Io
returns-in-Io c = let a = c.args in let v = c.in-Io in receive_io a.s.now a.frame.now a.time a.from c.decode_io.result c.decode_io.ensures v.id v.sequence v.start v.len v.is _ refl c.hear_from.new.s c.hear_from.ensures

pub returns-in-NotIo : goal.returns-in-NotIo
returns-in-NotIo c = let a = c.args in receive_none a.s.now a.frame.now a.time a.from c.decode_io.result c.decode_io.ensures (ap (frame_of a.frame.now) c.in-NotIo.is)

pub returns-in-Broken : goal.returns-in-Broken
returns-in-Broken c = let a = c.args in receive_none a.s.now a.frame.now a.time a.from c.decode_io.result c.decode_io.ensures (ap (frame_of a.frame.now) c.in-Broken.is)
