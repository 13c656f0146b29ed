-- The role's number, then the two halves.
use Rattle.state_inplace.proofs.put_fixed_in.Goals as goal

pub returns : goal.returns
returns c = cc
