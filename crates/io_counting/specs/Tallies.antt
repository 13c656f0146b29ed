-- What is due, counted row by row, and what the rules count.
use Rattle.std.specs.Prelude.{◌≡◌, ℕ, ◌+◌, max, cond, leb, List, [], ◌∷◌, length, ◌==◌, nat_le, slice_index_or}
use Rattle.base_cells.specs.Records.{of_bool}
use Rattle.rules.specs.Lists.{keep}
use Rattle.rules.specs.State.{Content, State}
use Rattle.rules.specs.Producing.{due, late_by, late_limit, delays, greatest, input_bytes, packets}
use Rattle.rules.specs.declared.Conn.{Conn}
use Rattle.state_image.specs.Holds.{Holds}
use Rattle.state_image.specs.Updates.{no_conn}
use Rattle.io_counting.specs.declared.Tally.{Tally}

abbrev pub limit_of : ℕ → ℕ
limit_of n = cond (n == 0) 1000 n

-- a packet of n bytes more, late by d
unfoldable pub added : ℕ → ℕ → ℕ → Tally → Tally
added n d limit k = record { need = k.need + n; count = k.count + 1; late = k.late + of_bool (nat_le limit d); worst = max k.worst d }

unfoldable pub tallied : ℕ → ℕ → List Content → Conn → Tally → Tally
tallied t limit contents c k = cond (due t c) (added (33 + length (input_bytes contents c.fixed)) (late_by t c.sent.due) limit k) k

unfoldable pub tally_from : ℕ → ℕ → List Content → Tally → List Conn → Tally
tally_from t limit contents k [] = k
tally_from t limit contents k (c ∷ cs) = tally_from t limit contents (tallied t limit contents c k) cs

abbrev pub Tallies : ℕ → ℕ → ℕ → List ℕ → Tally → Tally → Type 0
Tallies t limit i s k r = (st : State) (l : List ℕ) → Holds s st l → r ≡ tallied t limit st.contents (slice_index_or st.table i no_conn) k

-- what the rules count
abbrev pub totals : ℕ → State → Tally
totals t st =
    record {
      need = length (packets t st.contents st.table);
      count = length (delays t st.table);
      late = length (keep (leb (late_limit st.setup)) (delays t st.table));
      worst = greatest st.counters.max_late (delays t st.table);
    }

abbrev pub Totals : ℕ → List ℕ → Tally → Type 0
Totals t s k = (st : State) (l : List ℕ) → Holds s st l → k ≡ totals t st
