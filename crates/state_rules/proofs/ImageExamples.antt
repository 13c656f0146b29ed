-- The state test on the head, and what is written over a buffer, computed: rules 16.1, 16.5, 16.6, 16.9 and 16.10.
use mathlib.Core.Bool.{true, false}
use mathlib.Core.List.{List, [], ◌∷◌, ◌++◌, map}
use mathlib.Core.Path.{◌≡◌, refl}
use Prim.Native.Nat.{ℕ}
use lib.ListN.{length, replicate, take}
use borrow.Author.Tests.{eqb-true}
use Rattle.base_cells.specs.Numbers.{le_bytes, le, le_of}
use Rattle.base_cells.specs.Records.{enc_fields}
use Rattle.base_cells.specs.Back.{all, all_at}
use Rattle.base_tables.specs.Tables.{rows}
use Rattle.base_tables.specs.Store.{store_rows}
use Rattle.base_tables.specs.Ring.{ring_of}
use Rattle.state_rules.specs.Places.{head_in, state_size, row_size}
use Rattle.state_rules.specs.Bits.{mark_over}
use Rattle.state_rules.specs.Image.{view, head_of, table_of, good_head, tests_state, tested}

-- a state's bytes up to the marks by what is tested of the head: next id, the ring's word, connections
abbrev pub headed : ℕ → ℕ → ℕ → List ℕ
headed id word connections = replicate 216 255 ++ le_bytes 4 id ++ le_bytes 4 word ++ le_bytes 2 connections ++ replicate 14 255

-- 16.5: the least and the most that pass (1,024 events, the oldest in slot 1,023, a fault); a next id of 0, a word of 1,025 events, 33 connections
pub heads_tested : map good_head (
    headed 1 0 0 ∷ headed 0xFFFFFFFF 2099199 32 ∷
    headed 0 0 0 ∷ headed 1 2099200 0 ∷ headed 1 0 33 ∷ [])
    ≡ true ∷ true ∷ false ∷ false ∷ false ∷ []
unfolding good_head all le_bytes le le_of
heads_tested = refl

-- 16.6: run and the event's bit are written over a mark, its other bits stay
pub marks_over_lem : map (mark_over true false) (0 ∷ 3 ∷ 252 ∷ 255 ∷ []) ≡ 1 ∷ 1 ∷ 253 ∷ 253 ∷ []
marks_over_lem = refl

-- 16.9: a head is written as it was read; 16.10: with the 14 bytes behind it that say nothing
pub head_back : head_of (view (headed 7 4103 1)) (headed 7 4103 1) ≡ head_in (headed 7 4103 1)
unfolding view head_of rows ring_of enc_fields le_bytes le le_of
head_back = refl

-- 16.10: a row that falls free is zero, and what is behind it stays
pub row_freed : take 71 (table_of (view []) (headed 1 0 1 ++ replicate 16 0 ++ replicate 71 7)) ≡ replicate row_size 0 ++ (7 ∷ 7 ∷ [])
unfolding view table_of store_rows rows le_bytes le le_of
row_freed = refl

-- 16.1: no other size passes
pub exact_size : (l : List ℕ) → tested l ≡ true → length l ≡ state_size
unfolding tested
exact_size l e = eqb-true (length l) state_size (all_at (tests_state l) e 0)
