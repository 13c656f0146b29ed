use Rattle.state_inplace.proofs.put_heard_in.Goals as goal

pub returns : goal.returns
returns c = cc
