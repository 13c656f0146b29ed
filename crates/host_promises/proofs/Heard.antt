-- The run byte says that the owner was heard, on bytes: after an expiry call, by the last word of the run that it ends.
use Rattle.std.specs.Prelude.{ℕ, ◌%◌, ◌^◌, ◌<◌, Bool, true, false, cond, List, [], ◌∷◌, ◌++◌, ◌≡◌, refl, leb, length, get_or, Some}
use Rattle.std.proofs.Common.{ap, sym, subst, ◌∙◌, arith, leb-true, leb-false}
use Rattle.base_cells.specs.Records.{of_bool, to_bool, to_of}
use Rattle.rules_laws.specs.ListLaws.{by_cases}
use Rattle.rules.specs.State.{Setup, State, shape_at, content_at, is_output}
use Rattle.rules.specs.Answers.{timely, is_yes}
use Rattle.rules.specs.Setup.{fresh}
use Rattle.rules.specs.Checks.{place_of}
use Rattle.rules.specs.Calls
use Rattle.rules.specs.Calls.{Call, answer, next, run}
use Rattle.state_rules.specs.Image.{view, tested}
use Rattle.rules_steps.specs.Steps.{log, Expiring, Nothing, learnt, history, history_next, run_next}
use Rattle.rules_lastword.specs.Words.{word_of, no_word, in_run, opens, early}
use Rattle.rules_lastword.proofs.LastWord.{lane_obeys}
use Rattle.rules_lastword.specs.Clearing.{HeardLately}
use Rattle.rules_lastword.proofs.Clearing.{in_run_was_heard}
use Rattle.app_starting.specs.Block.{setup_given, setup_call}
use Rattle.host_runs.specs.CallContracts.{Said, Met}
use Rattle.host_runs.specs.HostCalls.{HostCall, contract_of, call_of, CCall}
use Rattle.host_runs.proofs.Steps.{agrees}
use Rattle.host_runs.specs.Runs.{Turn, Ran}
use Rattle.host_runs.proofs.Runs.{run_is_ruled}
use Rattle.host_promises.specs.Owners.{late_refused}
use Rattle.host_promises.specs.Logs.{calls_of, ruled, OneSetup}
use Rattle.host_promises.specs.Lane.{last_word, opens_in, ran_more, setup_more, Gives}
use Rattle.host_promises.proofs.Lane.{as_opens, as_word, output_is_the_last_word}

-- ---- one call further

ruled_more : (c : CCall) (cs : List Call) (d : Call) → ruled c (cs ++ (d ∷ [])) ≡ ruled c cs ++ (d ∷ [])
ruled_more (CCall.Setup block eds seed) cs d = refl
ruled_more (CCall.On c) cs d = refl
ruled_more (CCall.Path path out) cs d = refl
ruled_more (CCall.Request message out) cs d = refl

calls_more : (ts : List Turn) (c : HostCall) (a : Said) → calls_of (ts ++ ((CCall.On c, a) ∷ [])) ≡ calls_of ts ++ (call_of c ∷ [])
calls_more [] c a = refl
calls_more (t ∷ ts) c a = ap (ruled t.0) (calls_more ts c a) ∙ ruled_more t.0 (calls_of ts) (call_of c)

-- ---- the run byte

-- a yes whose first byte is 1 says run
first_is_run : (b : Bool) (bytes out : List ℕ) (a : Said) → Gives (of_bool b ∷ bytes) out a → a.number % 256 ≡ 0 → get_or a.output 0 0 ≡ 1 → b ≡ true
first_is_run b bytes out a g y e =
    by_cases (leb (length (of_bool b ∷ bytes)) (length out))
    (λ k. sym (to_of b) ∙ ap to_bool (sym (ap (λ (l : List ℕ). get_or l 0 0) (g.room (leb-true (length (of_bool b ∷ bytes)) (length out) k)).1) ∙ e))
    (λ k. let n = (g.no_room (leb-false (length (of_bool b ∷ bytes)) (length out) k)).0 in absurd (omega arith))

module _ (l block eds : List ℕ) (seed : ℕ) (s : List ℕ) (e : (0, s) ≡ setup_call l block eds seed) (small : seed < 2 ^ 32) where
  abbrev u : Setup
  u = setup_given block eds

  module _ (n i : ℕ) (there : place_of is_output u n ≡ Some i) where
    -- AND IT WAS HEARD: after an expiry call at time t, answered yes, the run byte 1 means that a frame of the owner was recorded, the last one
    -- at most its timeout before t
    pub run_byte_was_heard : {ts : List Turn} {s' : List ℕ} → Ran ts s s' → OneSetup ts → early (opens_in ts) ≡ true
        → (t : ℕ) (s'' : List ℕ) (a : Said) → Met (contract_of (HostCall.Expire t)) s' s'' a → a.number % 256 ≡ 0
        → (out s''' : List ℕ) (b : Said) → Met (contract_of (HostCall.Output n out)) s'' s''' b → b.number % 256 ≡ 0 → get_or b.output 0 0 ≡ 1
        → HeardLately t (last_word u n i (ts ++ ((CCall.On (HostCall.Expire t), a) ∷ [])))
    run_byte_was_heard {ts} {s'} r same few t s'' a m y out s''' b k z one_byte =
        let cs : List Call = calls_of ts in
        let c : Call = Calls.Expire t in
        let st : State = fresh u seed in
        let r' = ran_more (CCall.On (HostCall.Expire t)) a r m in
        let same' = setup_more ts (CCall.On (HostCall.Expire t)) a same refl in
        let more = calls_more ts (HostCall.Expire t) a in
        let few₀ : early (history opens (log cs st) 0) ≡ true = ap early (as_opens l block eds seed s e small r same) ∙ few in
        let few₁ : early (history opens (log (cs ++ (c ∷ [])) st) 0) ≡ true =
        ap early (history_next opens cs c st 0 ∙ no_open (is_yes (answer c (run cs st))) t (history opens (log cs st) 0)) ∙ few₀ in
        let w = as_word l block eds seed s e small r' same' n i in
        let few₂ : early (opens_in (ts ++ ((CCall.On (HostCall.Expire t), a) ∷ []))) ≡ true =
        ap early (sym (as_opens l block eds seed s e small r' same') ∙ ap (λ (x : List Call). history opens (log x st) 0) more) ∙ few₁ in
        let says = first_is_run _ _ out b (output_is_the_last_word l block eds seed s e small n i there r' same' few₂ out s''' b k) z one_byte in
        let w' = ap (λ (x : List Call). history (word_of u n (shape_at u i).size) (log x st) no_word) (sym more) ∙ w in
        let runs : (content_at (next c (run cs st)) i).run ≡ true =
        ap (λ (x : State). (content_at x i).run) (sym (run_next cs c st)) ∙ (lane_obeys u n i there seed small (cs ++ (c ∷ [])) few₁).run ∙ ap in_run w' ∙ says in
        subst (HeardLately t) w' (in_run_was_heard u n i there seed small cs few₀ t (in_time (run_is_ruled l block eds seed s e r).passes) runs)
      where
        no_open : (q : Bool) (t d : ℕ) → learnt opens (cond q (Expiring t) Nothing) d ≡ d
        no_open true t d = refl
        no_open false t d = refl

        in_time : tested s' ≡ true → timely t ≡ true
        in_time ok =
            by_cases (timely t) (λ (q : timely t ≡ true). q)
            (λ q. absurd (let x : a.number ≡ 3 = (agrees (CCall.On (HostCall.Expire t)) s' ok s'' a m).answers ∙ late_refused t (view s') q in omega arith))
