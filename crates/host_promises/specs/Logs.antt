-- WHAT A HOST SAW of its calls since a setup, as a log: each call, and of its answer the number's low byte and what then stands in the lent
-- output. A history learns from it what it learns from the rules' own log.
use Rattle.std.specs.Prelude.{ℕ, ◌%◌, Bool, false, cond, List, [], ◌∷◌, ◌≡◌, eqb}
use Rattle.base_cells.specs.Numbers.{le}
use Rattle.rules.specs.Answers.{Answer, Wrote, Refused, answer_bytes}
use Rattle.rules.specs.Calls.{Call}
use Rattle.rules_steps.specs.Names.{ForwardOpen, Origin}
use Rattle.rules_steps.specs.Steps.{Reading}
use Rattle.host_runs.specs.CallContracts.{Said}
use Rattle.host_runs.specs.HostCalls.{call_of, CCall}
use Rattle.host_runs.specs.Runs.{Turn}
use Rattle.rules.specs.declared.No.TheVariants.{NotParsed}

-- a yes has the low byte 0: then what stands in the output; else a no
abbrev pub seen : Said → Answer
seen a = cond (eqb (a.number % 256) 0) (Wrote a.output) (Refused NotParsed)

-- the calls of the rules among the C calls: a setup is none, and the two for the host's routing are lent no state
abbrev pub ruled : CCall → List Call → List Call
ruled (CCall.Setup block eds seed) cs = cs
ruled (CCall.On c) cs = call_of c ∷ cs
ruled (CCall.Path path out) cs = cs
ruled (CCall.Request message out) cs = cs

abbrev pub calls_of : List Turn → List Call
calls_of [] = []
calls_of (t ∷ ts) = ruled t.0 (calls_of ts)

-- THE LOG: those calls, with what was seen of their answers
abbrev pub logged : CCall → Said → List (Call × Answer) → List (Call × Answer)
logged (CCall.Setup block eds seed) a l = l
logged (CCall.On c) a l = (call_of c, seen a) ∷ l
logged (CCall.Path path out) a l = l
logged (CCall.Request message out) a l = l

abbrev pub log_of : List Turn → List (Call × Answer)
log_of [] = []
log_of (t ∷ ts) = logged t.0 t.1 (log_of ts)

-- no setup among the calls was answered 0; one that was would begin anew
abbrev pub anew : CCall → Said → Bool
anew (CCall.Setup block eds seed) a = eqb a.number 0
anew (CCall.On c) a = false
anew (CCall.Path path out) a = false
anew (CCall.Request message out) a = false

abbrev pub OneSetup : List Turn → Type 0
OneSetup [] = Unit {0}
OneSetup (t ∷ ts) = (anew t.0 t.1 ≡ false) × OneSetup ts

-- ---- a reading that looks at no more of an accepted open's answer than the id in it
abbrev pub Looks : {G : Type 0} → Reading G → Type 0
Looks {G} r =
    (t : ℕ) (request : List ℕ) (q : ForwardOpen) (g : Origin) (x y : Answer) (w : G) → le 4 (answer_bytes x) 0 ≡ le 4 (answer_bytes y) 0
    → r.on_open t request q g x w ≡ r.on_open t request q g y w
