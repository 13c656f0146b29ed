use Rattle.state_image.specs.Kept.{kept_table}
use Rattle.state_image.specs.Changes.{heard_becomes}
use Rattle.state_changes.proofs.put_heard.Goals as goal

pub returns : goal.returns
returns c = let s = c.args.s.now in let w = c.put_heard_at in (kept_table s c.requires.0 w.new.r w.auto.r, heard_becomes s w.new.r c.args.i c.args.h c.requires.1 w.ensures)
