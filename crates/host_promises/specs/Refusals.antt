-- A refusal changes nothing: a call whose number has a low byte other than 0 leaves every byte of the state, of the output and of the
-- upload position as it found them. Of any lent bytes, set up or not.
use Prim.Native.Nat.{◌%◌}
use Rattle.std.specs.Prelude.{◌≡◌}
use Rattle.base_cells.specs.Back.{Bytes}
use Rattle.host_runs.specs.CallContracts.{Said, Contract, Sets, Changes, Writes, Reads, Says, Replies}

-- a no: the number's low byte is not 0
abbrev pub No : Said → Type 0
No a = a.number % 256 ≡ 0 → ⊥

-- what is lent beside the state stands as it was
abbrev pub Unwritten : Contract → Said → Type 0
Unwritten (Sets block eds seed) a = Unit {0}
Unwritten (Changes call) a = Unit {0}
Unwritten (Writes call out) a = a.output ≡ out
Unwritten (Reads call out) a = a.output ≡ out
Unwritten (Says call out) a = a.output ≡ out
Unwritten (Replies local mask message upload out) a = (a.output ≡ out) × (Bytes upload → a.position ≡ upload)
