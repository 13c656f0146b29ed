use Rattle.std.proofs.Common.{arith, ◌+◌, ◌*◌}
use Rattle.state_image.specs.Kept.{kept_sets}
use Rattle.state_image.specs.Changes.{bytes_become}
use Rattle.state_rules.specs.Places.{data_from}
use Rattle.state_changes.proofs.put_bytes.Goals as goal

pub returns : goal.returns
returns c = let s = c.args.s.now in
    let i = c.args.i in
    let d = c.args.d.now in
    rw c.copy_in.ensures (kept_sets s c.requires.0 (data_from + i * 512) d (omega arith), bytes_become s i d c.requires.1)
