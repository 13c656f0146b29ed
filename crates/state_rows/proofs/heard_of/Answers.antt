use Rattle.state_rules.specs.Rows.{dec_heard}
use Rattle.state_rows.proofs.heard_of.Goals as goal

pub returns : goal.returns
unfolding dec_heard
returns c = cc
