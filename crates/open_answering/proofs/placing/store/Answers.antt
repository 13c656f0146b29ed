use Rattle.open_answering.specs.StepLaws.{puts_none, puts_into}
use Rattle.state_image.specs.Kept.{kept_none}
use Rattle.open_answering.proofs.placing.store.Goals as goal

pub configure-requires : goal.configure-requires
configure-requires c = let z = c.requires.1 _ c.in-Some.is in (c.requires.0, z.0, z.1)

pub returns-in_default : goal.returns-in_default
returns-in_default c = let a = c.args in (kept_none a.s.now c.requires.0, puts_none a.stores a.config.now a.s.now c.in_default.is)

pub returns-in-Some : goal.returns-in-Some
returns-in-Some c = let a = c.args in (c.configure.ensures.0, puts_into a.stores a.config.now a.s.now _ c.in-Some.is c.configure.new.s c.configure.ensures.1)
