use Rattle.app_starting.specs.Accept.{eds_none, eds_some}
use Rattle.app_starting.proofs.checks.eds_fits.Goals as goal

pub returns-then-flag-eq0 : goal.returns-then-flag-eq0
returns-then-flag-eq0 c = eds_none _ _ c.if-flag-eq0.true

pub returns-else-flag-eq0 : goal.returns-else-flag-eq0
returns-else-flag-eq0 c = eds_some _ _ c.if-flag-eq0.false
