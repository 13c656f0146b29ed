-- The bytes of a transfer, in the two parts that code puts behind number and type.
use Rattle.std.specs.Prelude.{Bool, cond, List, [], ℕ, take, drop}
use Rattle.base_cells.specs.Numbers.{le_bytes}
use Rattle.rules.specs.Upload.{checksum}

unfoldable pub part_of : List ℕ → ℕ → ℕ → List ℕ
part_of eds size offset = take size (drop offset eds)

unfoldable pub tail_of : List ℕ → Bool → List ℕ
tail_of eds last = cond last (le_bytes 2 (checksum eds)) []
