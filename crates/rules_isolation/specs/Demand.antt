-- DEMAND 3. Take two runs of the definition from one fresh setup, the same calls at the same times, except that I/O frames from one
-- address are altered, added or dropped at will. If every expiry call removes the same connections in both runs, then all connections of
-- other addresses are equal in every field, and so are the answers to opens and closes, the packets produced, and every assembly which
-- that address never owned. Here what it says; proofs/Demand.antt proves it.
use Rattle.std.specs.Prelude.{◌≡◌, List, [], ◌∷◌, Bool, false, not, ◌&&◌, ℕ, eqb, get_or}
use Rattle.rules.specs.Lists.{any, keep}
use Rattle.rules.specs.State.{no_content, State}
use Rattle.rules.specs.Checks.{owns}
use Rattle.rules.specs.Calls
use Rattle.rules.specs.Calls.{Call, answer, next, run}
use Rattle.rules_steps.specs.Names.{Triad, Conn}
use Rattle.rules_isolation.specs.Survive.{in_table}

-- the same calls, except that frames from `A` come in one run only (altered: one in each)
pub data Paired (A : ℕ) : List Call → List Call → Type 0 where
  end : Paired A [] []
  both : (c : Call) {cs ds : List Call} → Paired A cs ds → Paired A (c ∷ cs) (c ∷ ds)
  first_only : (time : ℕ) (frame : List ℕ) {cs ds : List Call} → Paired A cs ds → Paired A (Calls.Receive time A frame ∷ cs) ds
  second_only : (time : ℕ) (frame : List ℕ) {cs ds : List Call} → Paired A cs ds → Paired A cs (Calls.Receive time A frame ∷ ds)

-- THE PREMISE, for each expiry call: for every triad, whether its connection is removed is the same in both runs
abbrev pub removes : ℕ → Triad → State → Bool
removes t d s = in_table s.table d && not (in_table (next (Calls.Expire t) s).table d)

abbrev pub RemovesAlike : Call → State → State → Type 0
RemovesAlike (Calls.Open t service request g room) s r = Unit {0}
RemovesAlike (Calls.OpenRefusal service request room) s r = Unit {0}
RemovesAlike (Calls.Close request room) s r = Unit {0}
RemovesAlike (Calls.Receive t from frame) s r = Unit {0}
RemovesAlike (Calls.Produce t room) s r = Unit {0}
RemovesAlike (Calls.Expire t) s r = (d : Triad) → removes t d s ≡ removes t d r
RemovesAlike (Calls.Deadline room) s r = Unit {0}
RemovesAlike (Calls.SetInput n bytes) s r = Unit {0}
RemovesAlike (Calls.ReadOutput n room) s r = Unit {0}
RemovesAlike (Calls.ReadAssembly kind n room) s r = Unit {0}
RemovesAlike (Calls.NextEvent room) s r = Unit {0}
RemovesAlike (Calls.Connections room) s r = Unit {0}
RemovesAlike (Calls.Stats room) s r = Unit {0}
RemovesAlike (Calls.Message local mask message room position) s r = Unit {0}

abbrev pub SameExpiries : {A : ℕ} {cs ds : List Call} → Paired A cs ds → State → State → Type 0
SameExpiries end s r = Unit {0}
SameExpiries (both c p) s r = RemovesAlike c s r × SameExpiries p (next c s) (next c r)
SameExpiries {A} (first_only t frame p) s r = SameExpiries p (next (Calls.Receive t A frame) s) r
SameExpiries {A} (second_only t frame p) s r = SameExpiries p s (next (Calls.Receive t A frame) r)

-- the answers that are the same; of event reads, deadlines, messages and of what an output holds nothing is said
abbrev pub AnsweredAlike : Call → State → State → Type 0
AnsweredAlike (Calls.Open t service request g room) s r = answer (Calls.Open t service request g room) s ≡ answer (Calls.Open t service request g room) r
AnsweredAlike (Calls.OpenRefusal service request room) s r = answer (Calls.OpenRefusal service request room) s ≡ answer (Calls.OpenRefusal service request room) r
AnsweredAlike (Calls.Close request room) s r = answer (Calls.Close request room) s ≡ answer (Calls.Close request room) r
AnsweredAlike (Calls.Receive t from frame) s r = answer (Calls.Receive t from frame) s ≡ answer (Calls.Receive t from frame) r
AnsweredAlike (Calls.Produce t room) s r = answer (Calls.Produce t room) s ≡ answer (Calls.Produce t room) r
AnsweredAlike (Calls.Expire t) s r = answer (Calls.Expire t) s ≡ answer (Calls.Expire t) r
AnsweredAlike (Calls.Deadline room) s r = Unit {0}
AnsweredAlike (Calls.SetInput n bytes) s r = answer (Calls.SetInput n bytes) s ≡ answer (Calls.SetInput n bytes) r
AnsweredAlike (Calls.ReadOutput n room) s r = Unit {0}
AnsweredAlike (Calls.ReadAssembly kind n room) s r = Unit {0}
AnsweredAlike (Calls.NextEvent room) s r = Unit {0}
AnsweredAlike (Calls.Connections room) s r = answer (Calls.Connections room) s ≡ answer (Calls.Connections room) r
AnsweredAlike (Calls.Stats room) s r = answer (Calls.Stats room) s ≡ answer (Calls.Stats room) r
AnsweredAlike (Calls.Message local mask message room position) s r = Unit {0}

abbrev pub AllAnsweredAlike : {A : ℕ} {cs ds : List Call} → Paired A cs ds → State → State → Type 0
AllAnsweredAlike end s r = Unit {0}
AllAnsweredAlike (both c p) s r = AnsweredAlike c s r × AllAnsweredAlike p (next c s) (next c r)
AllAnsweredAlike {A} (first_only t frame p) s r = AllAnsweredAlike p (next (Calls.Receive t A frame) s) r
AllAnsweredAlike {A} (second_only t frame p) s r = AllAnsweredAlike p s (next (Calls.Receive t A frame) r)

-- the connections of other addresses
abbrev pub other : ℕ → Conn → Bool
other A c = not (eqb c.fixed.originator A)

-- an assembly, by its place in the setup's list, that an address never owned: in no state of the run has it a connection that owns it
abbrev pub owned_by : ℕ → ℕ → Conn → Bool
owned_by A i c = eqb c.fixed.originator A && owns i c.fixed

abbrev pub NeverOwned : ℕ → ℕ → List Call → State → Type 0
NeverOwned A i [] s = any (owned_by A i) s.table ≡ false
NeverOwned A i (c ∷ cs) s = (any (owned_by A i) s.table ≡ false) × NeverOwned A i cs (next c s)

-- THE CONCLUSION
pub record Independent {A : ℕ} {cs ds : List Call} (p : Paired A cs ds) (s : State) : Type 0 where
  pub connections : keep (other A) (run cs s).table ≡ keep (other A) (run ds s).table
  pub answers : AllAnsweredAlike p s s
  pub assemblies : (i : ℕ) → NeverOwned A i cs s → get_or (run cs s).contents i no_content ≡ get_or (run ds s).contents i no_content
