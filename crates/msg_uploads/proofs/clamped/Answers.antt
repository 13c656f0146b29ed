use Rattle.std.proofs.Common.{arith}
use Rattle.rules.specs.Upload.{clamped}
use Rattle.msg_uploads.proofs.clamped.Goals as goal

pub returns : goal.returns
unfolding clamped
returns c = omega arith
