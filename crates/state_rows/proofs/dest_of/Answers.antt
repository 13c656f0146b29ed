use Rattle.state_rules.specs.Rows.{dec_fixed}
use Rattle.state_rows.proofs.dest_of.Goals as goal

pub returns : goal.returns
unfolding dec_fixed
returns c = cc
