use Rattle.open_answering.specs.Calls.{asked_same}
use Rattle.open_answering.proofs.asking.open_request.Goals as goal

pub returns : goal.returns
returns c = let a = c.args in asked_same a.time a.o a.g a.request.now a.s.now a.out.now _ c.open_path.ensures
