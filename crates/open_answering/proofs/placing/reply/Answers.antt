use Rattle.open_answering.specs.AcceptLaws.{reply_written}
use Rattle.open_answering.proofs.placing.reply.Goals as goal

pub returns : goal.returns
returns c = let a = c.args in reply_written a.o a.n a.side a.out.now c.open_reply.new.out c.open_reply.result c.requires c.open_reply.ensures
