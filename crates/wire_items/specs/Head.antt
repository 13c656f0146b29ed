-- The usual head of an I/O frame at fixed offsets, as the code reads and writes it. No public contract cites it.
use Rattle.std.specs.Prelude.{ℕ, ◌≤◌, ◌≡◌, List, length, Result, Ok, Err, ⊤}
use Rattle.base_cells.specs.Numbers.{le}
use Rattle.wire_rules.specs.declared.IoFrame.{IoFrame}
use Rattle.wire_rules.specs.declared.IoFrame.TheVariants.{NotIo, Broken}

pub record Head (s : List ℕ) : Type 0 where
  pub long : 18 ≤ length s
  pub count : 2 ≤ le 2 s 0
  pub address : le 2 s 2 ≡ 0x8002
  pub eight : le 2 s 4 ≡ 8
  pub payload : le 2 s 14 ≡ 0xB1

-- what a list without that head is
abbrev pub other_of : Result ⊤ ℕ → IoFrame
other_of (Ok tt) = NotIo
other_of (Err o) = Broken o
