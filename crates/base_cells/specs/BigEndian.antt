-- Big-endian numbers: the bytes of a little-endian number in reverse.
use Rattle.std.specs.Prelude.{ℕ, List, reverse, ◌≡◌, length}
use Rattle.std.proofs.Common.{◌∙◌}
use Rattle.std.proofs.lemmas.List.{length-reverse}
use Rattle.std.proofs.lemmas.List.Edits.{sets}
use Rattle.base_cells.specs.Numbers.{le_bytes, length_le_bytes}

-- the k bytes of v, the most significant first
unfoldable pub bytes_be : ℕ → ℕ → List ℕ
bytes_be k v = reverse (le_bytes k v)

-- l with v in the k bytes from at
unfoldable pub put_be : ℕ → List ℕ → ℕ → ℕ → List ℕ
put_be k l at v = sets l at (bytes_be k v)

pub length_bytes_be : (k v : ℕ) → length (bytes_be k v) ≡ k
unfolding bytes_be
length_bytes_be k v = length-reverse (le_bytes k v) ∙ length_le_bytes k v
