-- Packets out as code sends them, row by row; and the call.
use Rattle.std.specs.Prelude.{ℕ, ◌+◌, ◌≤◌, List, map, ◌≡◌, length, get_or, set}
use Rattle.std.proofs.lemmas.List.Edits.{sets}
use Rattle.rules.specs.State.{State, with_table}
use Rattle.rules.specs.Answers.{answer_number, answer_bytes}
use Rattle.rules.specs.Producing.{counted, sends, packets, produce_call}
use Rattle.state_rules.specs.Image.{store}
use Rattle.state_image.specs.Holds.{Holds}
use Rattle.state_image.specs.Updates.{no_conn}
use Rattle.state_image.specs.Changes.{counters_as}
use Rattle.io_packets.specs.Rows.{packet_or}
use Rattle.io_counting.specs.declared.Tally.{Tally}

-- ---- one connection

abbrev pub packet_at : ℕ → ℕ → State → List ℕ
packet_at t i st = packet_or t st.contents (get_or st.table i no_conn)

abbrev pub sent_row : ℕ → ℕ → State → State
sent_row t i st = with_table (set st.table i (sends t (get_or st.table i no_conn))) st

abbrev pub tally_kept : Tally → State → State
tally_kept k st = counters_as (counted st.counters.produced k.count) (counted st.counters.late k.late) k.worst st

-- ---- the pass that sends

pub record RowSent (t i at : ℕ) (s' o o' : List ℕ) (r : ℕ) (st : State) (l : List ℕ) : Type 0 where
  pub is : s' ≡ store (sent_row t i st) l
  pub out : o' ≡ sets o at (packet_at t i st)
  pub counts : r ≡ length (packet_at t i st)

-- where there is room
abbrev pub Sends : ℕ → ℕ → ℕ → List ℕ → List ℕ → List ℕ → List ℕ → ℕ → Type 0
Sends t i at s s' o o' r = (st : State) (l : List ℕ) → Holds s st l → at + length (packet_at t i st) ≤ length o → RowSent t i at s' o o' r st l

abbrev pub sent_all : ℕ → State → State
sent_all t st = with_table (map (sends t) st.table) st

pub record AllSent (t : ℕ) (s' o o' : List ℕ) (st : State) (l : List ℕ) : Type 0 where
  pub holds : Holds s' (sent_all t st) l
  pub out : o' ≡ sets o 0 (packets t st.contents st.table)

abbrev pub SendsAll : ℕ → List ℕ → List ℕ → List ℕ → List ℕ → Type 0
SendsAll t s s' o o' = (st : State) (l : List ℕ) → Holds s st l → length (packets t st.contents st.table) ≤ length o → AllSent t s' o o' st l

-- ---- the call

pub record Produced (t : ℕ) (s' o o' : List ℕ) (r : ℕ) (st : State) (l : List ℕ) : Type 0 where
  pub number : r ≡ answer_number (produce_call t (length o) st).0
  pub is : s' ≡ store (produce_call t (length o) st).1 l
  pub out : o' ≡ sets o 0 (answer_bytes (produce_call t (length o) st).0)

abbrev pub Produces : ℕ → List ℕ → List ℕ → List ℕ → List ℕ → ℕ → Type 0
Produces t s s' o o' r = (st : State) (l : List ℕ) → Holds s st l → Produced t s' o o' r st l
