use Rattle.state_rules.specs.Rows.{dec_sent}
use Rattle.state_rows.proofs.sent_of.Goals as goal

pub returns : goal.returns
unfolding dec_sent
returns c = cc
