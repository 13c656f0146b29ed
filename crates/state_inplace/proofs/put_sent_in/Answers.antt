use Rattle.state_inplace.proofs.put_sent_in.Goals as goal

pub returns : goal.returns
returns c = cc
