-- The lent state as rules' State: what the bytes say (view), a state written over a buffer (store), and the state test.
use Rattle.std.specs.Prelude.{ℕ, Bool, List, [], ◌∷◌, ◌++◌, map, eqb, leb, ltb, length, get_or, take, drop, replicate}
use Rattle.base_cells.specs.Records.{enc_fields, to_bool}
use Rattle.base_cells.specs.Back.{all}
use Rattle.base_tables.specs.Tables.{rows}
use Rattle.base_tables.specs.Store.{store_rows}
use Rattle.base_tables.specs.Ring.{store_ring, ring_of}
use Rattle.base_tables.specs.Slots.{store_slots}
use Rattle.base_tables.specs.Regions.{joined}
use Rattle.rules.specs.State.{Shape, Content, State}
use Rattle.state_rules.specs.Places.{setup_in, head_in, w_head, marks_in, table_in, ring_in, data_in, eds_in, state_size, row_size, head_used, next_id_of, ring_word_of, ring_bound, first_of, waiting_of, connections_of, fault_of, produced_of, late_of, max_late_of}
use Rattle.state_rules.specs.Setups.{setup_of, good_setup, good_shapes}
use Rattle.state_rules.specs.Rows.{enc_conn, conns_in}
use Rattle.state_rules.specs.Bits.{word_of, run_in, notified_in, mark_over}

-- ---- the view

-- what an assembly holds: its mark, and the first bytes of its slot
abbrev pub content_of : Shape → ℕ → List ℕ → Content
content_of a mark slot = record { bytes = take a.size slot; run = run_in mark; notified = notified_in mark }

unfoldable pub contents_of : List Shape → List ℕ → List ℕ → List Content
contents_of [] marks d = []
contents_of (a ∷ rest) marks d = content_of a (get_or marks 0 0) (take 512 d) ∷ contents_of rest (drop 1 marks) (drop 512 d)

-- an event's record has 32 bytes
unfoldable pub record32 : List ℕ → List ℕ
record32 e = take 32 (e ++ replicate 32 0)

abbrev pub as_is : List ℕ → List ℕ
as_is b = b

unfoldable pub view : List ℕ → State
view l =
    record {
      setup = setup_of l;
      contents = contents_of (setup_of l).assemblies (marks_in l) (data_in l);
      table = conns_in (connections_of l) (table_in l);
      events = record { gone = first_of l; waiting = ring_of 32 record32 as_is (first_of l) (waiting_of l) (ring_in l) };
      fault = to_bool (fault_of l);
      next_id = next_id_of l;
      counters = record { produced = produced_of l; late = late_of l; max_late = max_late_of l };
    }

-- ---- a state written over a buffer: every byte that no part of the state stands for stays, but rows that fell free are zero

abbrev pub list_head : State → List ℕ
list_head st =
    st.counters.produced
    ∷ st.counters.late
    ∷ st.counters.max_late
    ∷ st.next_id
    ∷ word_of (length st.events.waiting) st.events.gone st.fault
    ∷ length st.table
    ∷ []

abbrev pub mark_on : Content → ℕ → ℕ
mark_on c old = mark_over c.run c.notified old

-- marks over those that were: each keeps the bits that stand for nothing
unfoldable pub marks_over : List Content → List ℕ → List ℕ
marks_over [] marks = marks
marks_over (c ∷ rest) marks = mark_on c (get_or marks 0 0) ∷ marks_over rest (drop 1 marks)

abbrev pub bytes_of : Content → List ℕ
bytes_of c = c.bytes

unfoldable pub head_of : State → List ℕ → List ℕ
head_of st l = enc_fields w_head (list_head st) ++ drop head_used (head_in l)

unfoldable pub marks_of : State → List ℕ → List ℕ
marks_of st l = marks_over st.contents (marks_in l)

unfoldable pub table_of : State → List ℕ → List ℕ
table_of st l = store_rows row_size enc_conn (connections_of l) st.table (table_in l)

unfoldable pub events_of : State → List ℕ → List ℕ
events_of st l = store_ring 32 record32 st.events.gone st.events.waiting (ring_in l)

unfoldable pub data_of : State → List ℕ → List ℕ
data_of st l = store_slots (map bytes_of st.contents) (data_in l)

abbrev pub regions_of : State → List ℕ → List (List ℕ)
regions_of st l = setup_in l ∷ head_of st l ∷ marks_of st l ∷ table_of st l ∷ events_of st l ∷ data_of st l ∷ eds_in l ∷ []

unfoldable pub store : State → List ℕ → List ℕ
store st l = joined (regions_of st l)

-- ---- the state test

-- the next id is not 0, the ring's word is one, at most 32 connections
abbrev pub tests_head : List ℕ → List Bool
tests_head l = ltb 0 (next_id_of l) ∷ ltb (ring_word_of l) ring_bound ∷ leb (connections_of l) 32 ∷ []

unfoldable pub good_head : List ℕ → Bool
good_head l = all (tests_head l)

-- the size; the setup; the head; the size of each assembly. No row and no mark is asked anything: each of their bytes is one value
abbrev pub tests_state : List ℕ → List Bool
tests_state l =
    eqb (length l) state_size
    ∷ good_setup (setup_in l)
    ∷ good_head l
    ∷ good_shapes (setup_in l)
    ∷ []

unfoldable pub tested : List ℕ → Bool
tested l = all (tests_state l)
