use Rattle.std.proofs.Common.{rules, arith, ◌≡◌}
use Rattle.std.specs.List.{sum}
use Rattle.rules.specs.Upload.{checksum}
use Rattle.msg_uploads.proofs.StepLaws.{plain_sum}
use Rattle.msg_uploads.proofs.checksum.Goals as goal

pub returns : goal.returns
unfolding checksum
returns c = let e : c.sum-sum.result ≡ sum c.args.bytes.now = search rules in omega (arith, e, plain_sum c.args.bytes.now)
