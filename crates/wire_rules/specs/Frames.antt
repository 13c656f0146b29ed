-- I/O frames: an address item of exactly 8 bytes (id, sequence), then the data item.
use Rattle.std.specs.Prelude.{ℕ, ◌+◌, List, [], ◌∷◌, ◌++◌, length, leb, eqb}
use Rattle.base_cells.specs.Pick.{pick}
use Rattle.base_cells.specs.Numbers.{le, le_bytes}
use Rattle.base_ids.specs.declared.OtId.{OtId}
use Rattle.wire_rules.specs.Items.{Part, Items, well_formed, broken, items_of}
use Rattle.wire_rules.specs.declared.IoFrame.{IoFrame}
use Rattle.wire_rules.specs.declared.IoFrame.TheVariants.{Io, NotIo, Broken}

-- the id that a frame to us carries
abbrev pub ot_id : ℕ → OtId
ot_id n = record { 0 = n }

-- 3.7 to 3.10: a sequenced address item (0x8002) of exactly 8 bytes, id and sequence, then a connected data item (0x00B1)
abbrev pub io_pair : List ℕ → Part → Part → IoFrame
io_pair s a d =
    pick (eqb a.kind 0x8002)
    (pick (eqb a.len 8)
    (pick (eqb d.kind 0xB1)
    (Io (ot_id (le 4 s a.start)) (le 4 s (a.start + 4)) d.start d.len)
    NotIo) NotIo) NotIo

-- 3.6: only the first two matter to an I/O frame
abbrev pub first_two : List ℕ → List Part → IoFrame
first_two s [] = NotIo
first_two s (a ∷ []) = NotIo
first_two s (a ∷ (d ∷ l)) = io_pair s a d

-- 3.11: broken at an offset before all else; then a frame of over 65,536 bytes is none of ours
abbrev pub io_of_items : List ℕ → Items → IoFrame
io_of_items s (broken o) = Broken o
io_of_items s (well_formed l) = pick (leb (length s) 65536) (first_two s l) NotIo

unfoldable pub io_of : List ℕ → IoFrame
io_of s = io_of_items s (items_of s)

-- an item's bytes: kind, size, then the bytes themselves
abbrev pub item : ℕ → List ℕ → List ℕ
item kind bs = le_bytes 2 kind ++ (le_bytes 2 (length bs) ++ bs)

-- 3.12: the frame of a connection: two items, the second with the 16-bit CIP sequence before the data
unfoldable pub io_frame : ℕ → ℕ → ℕ → List ℕ → List ℕ
io_frame id sequence cip bs =
    le_bytes 2 2
    ++ (item 0x8002 (le_bytes 4 id ++ le_bytes 4 sequence)
    ++ item 0xB1 (le_bytes 2 cip ++ bs))
