-- The fault mark is the ring's word's lowest bit.
use Rattle.std.proofs.Common.{ℕ, ◌%◌, ap}
use Rattle.base_cells.specs.Records.{to_bool}
use Rattle.state_layout.proofs.faulty.Goals as goal

pub returns : goal.returns
returns c = ap (λ (k : ℕ). to_bool (k % 2)) c.u32_at.ensures
