use Rattle.state_image.specs.Kept.{kept_table}
use Rattle.state_image.specs.Changes.{sent_becomes}
use Rattle.state_changes.proofs.put_sent.Goals as goal

pub returns : goal.returns
returns c = let s = c.args.s.now in let w = c.put_sent_at in (kept_table s c.requires.0 w.new.r w.auto.r, sent_becomes s w.new.r c.args.i c.args.x c.requires.1 w.ensures)
