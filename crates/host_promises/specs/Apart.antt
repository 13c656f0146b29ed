-- DEMAND 3, of what the host calls. Two runs of the C functions from one setup, the same calls but for I/O frames from one address: where
-- every expiry call takes the same connections in both, the rows of other addresses are equal in every field, and so are the answers, the
-- packets, and what every assembly holds that the address never owned.
use Rattle.std.specs.Prelude.{ℕ, Bool, true, false, List, ◌≡◌}
use Rattle.rules.specs.Lists.{keep}
use Rattle.rules.specs.State.{State, content_at}
use Rattle.rules.specs.Answers.{Answer}
use Rattle.rules.specs.Calls
use Rattle.rules.specs.Calls.{Call}
use Rattle.state_rules.specs.Image.{view}
use Rattle.rules_isolation.specs.Demand.{other}
use Rattle.host_runs.specs.CallContracts.{Said, Answers}
use Rattle.host_runs.specs.HostCalls.{HostCall, contract_of, call_of}
use Rattle.host_promises.specs.Rows.{conns}
use Rattle.host_promises.specs.Pairs.{Pair, end, both, first_only, second_only, NotOwned}

-- ---- the answers that are equal

-- of reads of events, deadlines, outputs and assemblies, and of messages, nothing is said: they may show such frames
abbrev pub apart : Call → Bool
apart (Calls.Open t service request g room) = true
apart (Calls.OpenRefusal service request room) = true
apart (Calls.Close request room) = true
apart (Calls.Receive t from frame) = true
apart (Calls.Produce t room) = true
apart (Calls.Expire t) = true
apart (Calls.Deadline room) = false
apart (Calls.SetInput n bytes) = true
apart (Calls.ReadOutput n room) = false
apart (Calls.ReadAssembly kind n room) = false
apart (Calls.NextEvent room) = false
apart (Calls.Connections room) = true
apart (Calls.Stats room) = true
apart (Calls.Message local mask message room position) = false

-- both were answered the same answer of the rules: the same number, and the same bytes at the start of the outputs that they lent
abbrev pub SameSaid : HostCall → HostCall → Said → Said → State → State → Type 0
SameSaid c d a b s r = (x : Answer) × Answers (contract_of c) s x a × Answers (contract_of d) r x b

abbrev pub AllSame : {A : ℕ} {l m l'' m'' : List ℕ} → Pair A l m l'' m'' → Type 0
AllSame end = Unit {0}
AllSame (both c d a b {l} {m} e f g p) = (apart (call_of c) ≡ true → SameSaid c d a b (view l) (view m)) × AllSame p
AllSame (first_only t frame a f p) = AllSame p
AllSame (second_only t frame b g p) = AllSame p

-- THE CONCLUSION, of the bytes that the two runs leave and of what they were answered
pub record Separate {A : ℕ} {l m l'' m'' : List ℕ} (p : Pair A l m l'' m'') : Type 0 where
  pub connections : keep (other A) (conns l'') ≡ keep (other A) (conns m'')
  pub answers : AllSame p
  pub assemblies : (i : ℕ) → NotOwned i p → content_at (view l'') i ≡ content_at (view m'') i
