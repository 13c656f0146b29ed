use Rattle.std.proofs.Common.{refl}
use Rattle.wire_rules.specs.ConnectionPath.{gather, some, last, final, connection_path}
use Rattle.wire_paths.proofs.nothing_read.Goals as goal

pub returns : goal.returns
unfolding connection_path gather some last final
returns c = refl
