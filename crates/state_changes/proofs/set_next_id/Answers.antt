use Rattle.std.proofs.Common.{arith}
use Rattle.state_image.specs.Kept.{kept_low}
use Rattle.state_image.specs.Changes.{next_id_becomes}
use Rattle.state_rules.specs.Places.{next_id_at}
use Rattle.state_changes.proofs.set_next_id.Goals as goal

pub returns : goal.returns
returns c = let s = c.args.s.now in
    rw c.put_u32.ensures (kept_low s c.requires 4 next_id_at c.args.v (omega arith) (omega arith), next_id_becomes s c.args.v)
