-- Frames put into a lent output, worked out byte by byte.
use Rattle.std.specs.Prelude.{Some, None}
use mathlib.Core.Path.{◌≡◌, refl}
use mathlib.Core.List.{[], ◌∷◌}
use lib.ListN.{replicate}
use Rattle.base_cells.specs.Numbers.{le_bytes}
use Rattle.base_cells.specs.Writes.{written}
use Rattle.wire_rules.specs.Frames.{io_frame}
use Rattle.wire_rules.specs.Writing.{frame_written, frame_appended}

-- 3.13: 65,533 bytes of data and the CIP sequence fill an item; a byte more is not written
pub longest : ((frame_written (replicate 65553 0) 1 2 3 (replicate 65533 0)).0 ≡ Some 65553) × ((frame_written (replicate 65554 0) 1 2 3 (replicate 65534 0)).0 ≡ None)
unfolding frame_written io_frame le_bytes written
longest = (refl, refl)

-- 3.14: behind two bytes with a byte to spare; with a byte too few; behind the end
pub behind_others : (frame_appended (7 ∷ 7 ∷ replicate 22 5) 2 1 4 3 (9 ∷ [])
    ≡ (Some 21, 7 ∷ 7 ∷ 2 ∷ 0 ∷ 2 ∷ 0x80 ∷ 8 ∷ 0 ∷ 1 ∷ 0 ∷ 0 ∷ 0 ∷ 4 ∷ 0 ∷ 0 ∷ 0 ∷ 0xB1 ∷ 0 ∷ 3 ∷ 0 ∷ 3 ∷ 0 ∷ 9 ∷ 5 ∷ []))
    × (frame_appended (7 ∷ 7 ∷ replicate 20 5) 2 1 4 3 (9 ∷ []) ≡ (None, 7 ∷ 7 ∷ replicate 20 5))
    × (frame_appended (7 ∷ []) 2 1 4 3 (9 ∷ []) ≡ (None, 7 ∷ []))
unfolding frame_appended frame_written io_frame le_bytes written
behind_others = (refl, refl, refl)
