-- The calls on an assembly whose place in the setup's list is known.
use Rattle.std.specs.Prelude.{ℕ, List, Some}
use Rattle.rules.specs.State.{State}
use Rattle.rules.specs.Answers.{Answer, settled}
use Rattle.rules.specs.Host.{assembly_at, output_at, output_read, set_input_at, input_set}

abbrev pub assembly_read_at : ℕ → ℕ → State → Answer
assembly_read_at i room st = assembly_at room st (Some i)

abbrev pub output_read_at : ℕ → ℕ → State → Answer × State
output_read_at i room st = settled (output_at room st (Some i)) (output_read st (Some i)) st

abbrev pub input_set_at : ℕ → List ℕ → State → Answer × State
input_set_at i bytes st = settled (set_input_at st.setup bytes (Some i)) (input_set bytes st (Some i)) st
