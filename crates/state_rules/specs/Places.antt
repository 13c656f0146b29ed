-- The lent state: seven regions one behind the other. docs/STATE.md has every field; no other file types these numbers.
use Rattle.std.specs.Prelude.{ℕ, ◌+◌, ◌/◌, ◌%◌, List, [], ◌∷◌}
use borrow.Rule.Slice.PartMut.{mid_of}
use Rattle.base_cells.specs.Numbers.{le}

-- ---- where each region begins, and its size

abbrev pub setup_size : ℕ
setup_size = 192

abbrev pub head_at : ℕ
head_at = 192

abbrev pub head_size : ℕ
head_size = 48

abbrev pub marks_at : ℕ
marks_at = 240

abbrev pub marks_size : ℕ
marks_size = 16

abbrev pub table_at : ℕ
table_at = 256

abbrev pub table_size : ℕ
table_size = 2304

abbrev pub events_at : ℕ
events_at = 2560

abbrev pub events_size : ℕ
events_size = 32768

abbrev pub data_from : ℕ
data_from = 35328

abbrev pub data_size : ℕ
data_size = 8192

abbrev pub eds_at : ℕ
eds_at = 43520

abbrev pub eds_size : ℕ
eds_size = 65536

abbrev pub state_size : ℕ
state_size = 109056

abbrev pub widths : List ℕ
widths = setup_size ∷ head_size ∷ marks_size ∷ table_size ∷ events_size ∷ data_size ∷ eds_size ∷ []

-- ---- what stands in them: a connection's row, an event's record, an assembly's bytes

abbrev pub row_size : ℕ
row_size = 69

abbrev pub record_size : ℕ
record_size = 32

abbrev pub slot_size : ℕ
slot_size = 512

-- ---- the setup's columns: of each of 16 assemblies the instance in 2 bytes, then of each the size in 2, then of each the kind in 1

abbrev pub instances_at : ℕ
instances_at = 110

abbrev pub sizes_at : ℕ
sizes_at = 142

abbrev pub kinds_at : ℕ
kinds_at = 174

-- ---- the regions

-- what was set up: never written by any call but setup
abbrev pub setup_in : List ℕ → List ℕ
setup_in l = mid_of 0 setup_size l

-- the counters, the next id, the ring's word, the number of connections; 14 bytes that stay
abbrev pub head_in : List ℕ → List ℕ
head_in l = mid_of head_at head_size l

-- one byte for each assembly: whether it runs, and whether an event waits for it; six bits that stay
abbrev pub marks_in : List ℕ → List ℕ
marks_in l = mid_of marks_at marks_size l

-- 32 rows, and 96 bytes that stay
abbrev pub table_in : List ℕ → List ℕ
table_in l = mid_of table_at table_size l

-- 1,024 event records
abbrev pub ring_in : List ℕ → List ℕ
ring_in l = mid_of events_at events_size l

-- 16 slots
abbrev pub data_in : List ℕ → List ℕ
data_in l = mid_of data_from data_size l

-- 65,535 bytes, and one that stays
abbrev pub eds_in : List ℕ → List ℕ
eds_in l = mid_of eds_at eds_size l

-- ---- the head's numbers: packets produced, late ones, the greatest lateness; the next id; the ring's word; how many connections
-- there are. They take 34 bytes.

abbrev pub w_head : List ℕ
w_head = 8 ∷ 8 ∷ 8 ∷ 4 ∷ 4 ∷ 2 ∷ []

abbrev pub head_used : ℕ
head_used = 34

abbrev pub produced_at : ℕ
produced_at = 192

abbrev pub late_at : ℕ
late_at = 200

abbrev pub max_late_at : ℕ
max_late_at = 208

abbrev pub next_id_at : ℕ
next_id_at = 216

abbrev pub ring_at : ℕ
ring_at = 220

abbrev pub connections_at : ℕ
connections_at = 224

abbrev pub produced_of : List ℕ → ℕ
produced_of l = le 8 l produced_at

abbrev pub late_of : List ℕ → ℕ
late_of l = le 8 l late_at

abbrev pub max_late_of : List ℕ → ℕ
max_late_of l = le 8 l max_late_at

abbrev pub next_id_of : List ℕ → ℕ
next_id_of l = le 4 l next_id_at

abbrev pub connections_of : List ℕ → ℕ
connections_of l = le 2 l connections_at

-- the ring's word: the number of events that wait times 2048, the slot of the oldest times 2, and the fault mark
abbrev pub ring_word_of : List ℕ → ℕ
ring_word_of l = le 4 l ring_at

-- the first number that no word is: 1,024 events wait, the oldest in the last slot, a fault, and one
abbrev pub ring_bound : ℕ
ring_bound = 2099200

abbrev pub waiting_of : List ℕ → ℕ
waiting_of l = ring_word_of l / 2048

abbrev pub first_of : List ℕ → ℕ
first_of l = ring_word_of l / 2 % 1024

abbrev pub fault_of : List ℕ → ℕ
fault_of l = ring_word_of l % 2

-- the mark of the assembly at a place
abbrev pub mark_at : List ℕ → ℕ → ℕ
mark_at l i = le 1 l (marks_at + i)

-- how many assemblies, of a state or of a setup's region
abbrev pub assemblies_of : List ℕ → ℕ
assemblies_of r = le 1 r 0
