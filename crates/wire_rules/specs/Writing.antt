-- What the frame writer leaves of the output.
use Rattle.std.specs.Prelude.{ℕ, ◌+◌, List, [], ◌∷◌, ◌++◌, length, take, drop, leb, Option, None}
use Rattle.base_cells.specs.Pick.{pick}
use Rattle.base_cells.specs.Writes.{written}
use Rattle.wire_rules.specs.Frames.{io_frame}

-- 3.13: an item's size has 16 bits: there is no room in it for more than 65,535 bytes
unfoldable pub frame_written : List ℕ → ℕ → ℕ → ℕ → List ℕ → Option ℕ × List ℕ
frame_written out id sequence cip bs = pick (leb (2 + length bs) 65535) (written out (io_frame id sequence cip bs)) (None, out)

abbrev pub behind : List ℕ → Option ℕ × List ℕ → Option ℕ × List ℕ
behind front w = (w.0, front ++ w.1)

-- 3.14: the same, for the rest of the output from `at` on; what stands before `at` stays
unfoldable pub frame_appended : List ℕ → ℕ → ℕ → ℕ → ℕ → List ℕ → Option ℕ × List ℕ
frame_appended out at id sequence cip bs =
    pick (leb at (length out))
    (behind (take at out) (frame_written (drop at out) id sequence cip bs))
    (None, out)

-- a frame's numbers before the data, with their widths
abbrev pub front_widths : List ℕ
front_widths = 2 ∷ 2 ∷ 2 ∷ 4 ∷ 4 ∷ 2 ∷ 2 ∷ 2 ∷ []

abbrev pub front_values : ℕ → ℕ → ℕ → ℕ → List ℕ
front_values id sequence cip size = 2 ∷ 0x8002 ∷ 8 ∷ id ∷ sequence ∷ 0xB1 ∷ size ∷ cip ∷ []
