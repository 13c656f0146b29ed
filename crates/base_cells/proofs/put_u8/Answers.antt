use Rattle.std.proofs.Common.{refl}
use Rattle.base_cells.specs.Numbers.{put, le_bytes}
use Rattle.base_cells.proofs.put_u8.Goals as goal

pub returns : goal.returns
unfolding put le_bytes
returns c = refl
