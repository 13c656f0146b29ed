-- All four ids are read, and each is compared.
use Rattle.io_hearing.specs.DecisionLaws.{four_is}
use Rattle.io_hearing.proofs.any_of_four.Goals as goal

pub returns : goal.returns
returns c = let g = c.args in
    four_is g.id g.r.now g.i _ _ _ _ c.otid_at-a.ensures c.otid_at-b.ensures c.otid_at-c.ensures c.otid_at-d.ensures
