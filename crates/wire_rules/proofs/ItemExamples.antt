-- Item lists and frames worked out byte by byte. Each wrong reading of the rules of chapter 3 that must-fail holds breaks one of them.
use Prim.Native.Nat.{ℕ}
use mathlib.Core.Path.{◌≡◌, refl}
use mathlib.Core.List.{List, [], ◌∷◌, map}
use lib.ListN.{replicate}
use Rattle.base_cells.specs.Numbers.{le, le_of, le_bytes}
use Rattle.wire_rules.specs.Items.{Part, Items, well_formed, broken, cursor, start_of, step_at, items_from, items_of, step_after, item_of}
use Rattle.wire_rules.specs.Frames.{ot_id, io_of_items, io_of, io_frame}
use Rattle.wire_rules.specs.declared.Step.TheVariants.{Item, End}
use Rattle.wire_rules.specs.declared.IoFrame.TheVariants.{Io, NotIo, Broken}

-- 3.1 to 3.4: the lists of these bytes

abbrev part : ℕ → ℕ → ℕ → Part
part kind start len = record { kind = kind; start = start; len = len }

pub lists : map items_of (
    -- no item; an item of one byte and one of none, with no pad byte between
    (0 ∷ 0 ∷ [])
    ∷ (2 ∷ 0 ∷ 5 ∷ 1 ∷ 1 ∷ 0 ∷ 9 ∷ 0xB1 ∷ 0 ∷ 0 ∷ 0 ∷ [])
    -- no room for the count, for an item's head, for its bytes
    ∷ (2 ∷ [])
    ∷ (1 ∷ 0 ∷ 2 ∷ 0x80 ∷ 8 ∷ [])
    ∷ (1 ∷ 0 ∷ 2 ∷ 0x80 ∷ 2 ∷ 0 ∷ 7 ∷ [])
    -- a spare byte behind the last; the count has two bytes: 256 items, and none is there
    ∷ (1 ∷ 0 ∷ 2 ∷ 0x80 ∷ 1 ∷ 0 ∷ 7 ∷ 0 ∷ [])
    ∷ (0 ∷ 1 ∷ [])
    ∷ [])
    ≡ well_formed []
    ∷ well_formed (part 0x105 6 1 ∷ part 0xB1 11 0 ∷ [])
    ∷ broken 0 ∷ broken 2 ∷ broken 2 ∷ broken 7 ∷ broken 2 ∷ []
unfolding items_of items_from step_at start_of le le_of
lists = refl

-- 3.5: item 0, item 1, and behind the last the end

abbrev frame : List ℕ
frame = 2 ∷ 0 ∷ 2 ∷ 0x80 ∷ 8 ∷ 0 ∷ 1 ∷ 0 ∷ 0 ∷ 0 ∷ 7 ∷ 0 ∷ 0 ∷ 0 ∷ 0xB1 ∷ 0 ∷ 2 ∷ 0 ∷ 9 ∷ 0 ∷ []

pub one_by_one : map (λ n. item_of n frame) (0 ∷ 1 ∷ 2 ∷ []) ≡ Item 0x8002 6 8 (cursor 14 1) ∷ Item 0xB1 18 2 (cursor 20 0) ∷ End ∷ []
unfolding item_of step_after step_at start_of le le_of
one_by_one = refl

-- 3.6 to 3.10: what a frame is

pub frames : map io_of (
    frame
    -- a third item does not matter, but it must fit
    ∷ (3 ∷ 0 ∷ 2 ∷ 0x80 ∷ 8 ∷ 0 ∷ 1 ∷ 0 ∷ 0 ∷ 0 ∷ 7 ∷ 0 ∷ 0 ∷ 0 ∷ 0xB1 ∷ 0 ∷ 1 ∷ 0 ∷ 9 ∷ 0x00 ∷ 0x80 ∷ 0 ∷ 0 ∷ [])
    ∷ (3 ∷ 0 ∷ 2 ∷ 0x80 ∷ 8 ∷ 0 ∷ 1 ∷ 0 ∷ 0 ∷ 0 ∷ 7 ∷ 0 ∷ 0 ∷ 0 ∷ 0xB1 ∷ 0 ∷ 1 ∷ 0 ∷ 9 ∷ 0x00 ∷ 0x80 ∷ 1 ∷ 0 ∷ [])
    -- one item alone; the two the other way round; an address of nine bytes
    ∷ (1 ∷ 0 ∷ 2 ∷ 0x80 ∷ 8 ∷ 0 ∷ 1 ∷ 0 ∷ 0 ∷ 0 ∷ 7 ∷ 0 ∷ 0 ∷ 0 ∷ [])
    ∷ (2 ∷ 0 ∷ 0xB1 ∷ 0 ∷ 0 ∷ 0 ∷ 2 ∷ 0x80 ∷ 8 ∷ 0 ∷ 1 ∷ 0 ∷ 0 ∷ 0 ∷ 7 ∷ 0 ∷ 0 ∷ 0 ∷ [])
    ∷ (2 ∷ 0 ∷ 2 ∷ 0x80 ∷ 9 ∷ 0 ∷ 1 ∷ 0 ∷ 0 ∷ 0 ∷ 7 ∷ 0 ∷ 0 ∷ 0 ∷ 0 ∷ 0xB1 ∷ 0 ∷ 0 ∷ 0 ∷ [])
    ∷ [])
    ≡ Io (ot_id 1) 7 18 2 ∷ Io (ot_id 1) 7 18 1 ∷ Broken 19 ∷ NotIo ∷ NotIo ∷ NotIo ∷ []
unfolding io_of items_of items_from step_at start_of le le_of
frames = refl

-- 3.11: 65,536 bytes and 65,537, of a list that is well formed and of one that breaks

abbrev two : Items
two = well_formed (part 0x8002 6 8 ∷ part 0xB1 18 65518 ∷ [])

pub sizes : (io_of_items (replicate 65536 0) two ≡ Io (ot_id 0) 0 18 65518) × (io_of_items (replicate 65537 0) two ≡ NotIo) × (io_of_items (replicate 65537 0) (broken 5) ≡ Broken 5)
unfolding le le_of
sizes = (refl, refl, refl)

-- 3.12: the frame that is sent

pub sent : io_frame 0x11223344 0x55667788 0x99AA (0xBB ∷ [])
    ≡ 2 ∷ 0 ∷ 0x02 ∷ 0x80 ∷ 8 ∷ 0 ∷ 0x44 ∷ 0x33 ∷ 0x22 ∷ 0x11 ∷ 0x88 ∷ 0x77 ∷ 0x66 ∷ 0x55 ∷ 0xB1 ∷ 0 ∷ 3 ∷ 0 ∷ 0xAA ∷ 0x99 ∷ 0xBB ∷ []
unfolding io_frame le_bytes
sent = refl
