-- The host's side: inputs in, outputs and events out, and what it may read. Rules 12.1 to 12.6, 12.12.
use Rattle.std.specs.Prelude.{List, [], ◌∷◌, ◌++◌, Bool, false, cond, ℕ, zero, suc, ◌+◌, ◌-◌, leb, length, replicate, Option, Some, None}
use Rattle.base_cells.specs.Numbers.{le_bytes}
use Rattle.base_cells.specs.Records.{of_bool}
use Rattle.rules.specs.Lists.{change_at, joined}
use Rattle.rules.specs.State.{AssemblyKind, is_input, is_output, is_config, Setup, shape_at, Content, content_at, Counters, State, with_contents, with_events}
use Rattle.rules.specs.Answers.{Answer, Done, Wrote, Refused, NoAssembly, TooLong, NothingThere, fitting, settled}
use Rattle.rules.specs.Events.{info_of, info_record, oldest_gone}
use Rattle.rules.specs.Checks.{place_of}

-- 12.2: shorter data leaves the rest zero
abbrev pub filled : ℕ → List ℕ → Content → Content
filled size bytes a = record { bytes = bytes ++ replicate (size - length bytes) 0; run = a.run; notified = a.notified }

-- SET_INPUT (12.1): No. 6, 7
abbrev pub set_input_at : Setup → List ℕ → Option ℕ → Answer
set_input_at u bytes None = Refused NoAssembly
set_input_at u bytes (Some i) = cond (leb (length bytes) (shape_at u i).size) Done (Refused TooLong)

abbrev pub input_set : List ℕ → State → Option ℕ → State
input_set bytes st None = st
input_set bytes st (Some i) = with_contents (change_at i (filled (shape_at st.setup i).size bytes) st.contents) st

unfoldable pub set_input_answer : ℕ → List ℕ → Setup → Answer
set_input_answer n bytes u = set_input_at u bytes (place_of is_input u n)

unfoldable pub set_input_effect : ℕ → List ℕ → State → State
set_input_effect n bytes st = input_set bytes st (place_of is_input st.setup n)

unfoldable pub set_input_call : ℕ → List ℕ → State → Answer × State
set_input_call n bytes st = settled (set_input_answer n bytes st.setup) (set_input_effect n bytes st) st

-- OUTPUT (12.3, 12.4): the run byte and the data. An accepted read re-arms the Output event. No. 6, 8
abbrev pub read : Content → Content
read a = record { bytes = a.bytes; run = a.run; notified = false }

abbrev pub output_bytes : Content → List ℕ
output_bytes a = of_bool a.run ∷ a.bytes

abbrev pub output_at : ℕ → State → Option ℕ → Answer
output_at room st None = Refused NoAssembly
output_at room st (Some i) = fitting room (output_bytes (content_at st i)) (Wrote (output_bytes (content_at st i)))

abbrev pub output_read : State → Option ℕ → State
output_read st None = st
output_read st (Some i) = with_contents (change_at i read st.contents) st

unfoldable pub output_answer : ℕ → ℕ → State → Answer
output_answer n room st = output_at room st (place_of is_output st.setup n)

unfoldable pub output_effect : ℕ → State → State
output_effect n st = output_read st (place_of is_output st.setup n)

unfoldable pub output_call : ℕ → ℕ → State → Answer × State
output_call n room st = settled (output_answer n room st) (output_effect n st) st

-- ASSEMBLY (12.5): the data of an assembly of kind 1 input, 2 output, 3 configuration. No. 6, 8
abbrev pub kind_test : ℕ → AssemblyKind → Bool
kind_test zero = λ k. false
kind_test (suc zero) = is_input
kind_test (suc (suc zero)) = is_output
kind_test (suc (suc (suc zero))) = is_config
kind_test (suc (suc (suc (suc n)))) = λ k. false

abbrev pub assembly_at : ℕ → State → Option ℕ → Answer
assembly_at room st None = Refused NoAssembly
assembly_at room st (Some i) = fitting room (content_at st i).bytes (Wrote (content_at st i).bytes)

unfoldable pub assembly_answer : ℕ → ℕ → ℕ → State → Answer
assembly_answer kind n room st = assembly_at room st (place_of (kind_test kind) st.setup n)

-- NEXT_EVENT (12.6): the oldest event's record, which leaves the list. No. 9, 8
abbrev pub event_at : ℕ → List (List ℕ) → Answer
event_at room [] = Refused NothingThere
event_at room (e ∷ es) = fitting room e (Wrote e)

unfoldable pub next_event_answer : ℕ → State → Answer
next_event_answer room st = event_at room st.events.waiting

unfoldable pub next_event_effect : State → State
next_event_effect st = with_events (oldest_gone st.events) st

unfoldable pub next_event_call : ℕ → State → Answer × State
next_event_call room st = settled (next_event_answer room st) (next_event_effect st) st

-- CONNECTIONS (12.12): the record of each in table order. No. 8
unfoldable pub connection_bytes : State → List ℕ
connection_bytes st = joined (λ c. info_record 0 (info_of st.setup c.fixed)) st.table

unfoldable pub connections_answer : ℕ → State → Answer
connections_answer room st = fitting room (connection_bytes st) (Wrote (connection_bytes st))

-- STATS (12.12): produced, late and the greatest lateness, 8 bytes each. No. 8
abbrev pub stats_bytes : Counters → List ℕ
stats_bytes n = le_bytes 8 n.produced ++ le_bytes 8 n.late ++ le_bytes 8 n.max_late

unfoldable pub stats_answer : ℕ → State → Answer
stats_answer room st = fitting room (stats_bytes st.counters) (Wrote (stats_bytes st.counters))
