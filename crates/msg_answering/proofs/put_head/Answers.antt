use Rattle.msg_answering.specs.Replies.{head_put}
use Rattle.msg_answering.proofs.put_head.Goals as goal

pub returns : goal.returns
returns c = head_put c.args.out.now c.args.service c.args.status _ _ c.requires c.reply_head.ensures
