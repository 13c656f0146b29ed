-- The lane obeys its live owner's last word, on bytes: a run of C calls is a run of the rules, of which it is proved.
use Rattle.std.specs.Prelude.{ℕ, ◌+◌, ◌^◌, ◌≤◌, ◌<◌, true, List, [], ◌∷◌, ◌≡◌, refl, length, Some}
use Rattle.std.proofs.Common.{ap, sym, subst, ◌∙◌, arith, lt-ltb}
use Rattle.rules.specs.State.{Setup, shape_at, is_output}
use Rattle.rules.specs.Answers.{Answer, Wrote, fitting}
use Rattle.rules.specs.Setup.{fresh}
use Rattle.rules.specs.Checks.{place_of}
use Rattle.rules.specs.Calls
use Rattle.rules.specs.Calls.{Call, answer, run}
use Rattle.state_rules.specs.Image.{view}
use Rattle.rules_steps.specs.Steps.{log, News, Opening, Closing, Hearing, Expiring, Nothing, news, learnt, history}
use Rattle.rules_lastword.specs.Words.{Word, word_of, no_word, opens, early}
use Rattle.rules_lastword.proofs.LastWord.{host_reads_the_word}
use Rattle.app_starting.specs.Block.{setup_given, setup_call}
use Rattle.host_runs.specs.CallContracts.{Said, Met, Told}
use Rattle.host_runs.specs.HostCalls.{HostCall, contract_of, CCall}
use Rattle.host_runs.proofs.Steps.{agrees}
use Rattle.host_runs.specs.Runs.{Turn, Ran}
use Rattle.host_runs.proofs.Runs.{run_is_ruled}
use Rattle.host_promises.specs.Logs.{calls_of, log_of, OneSetup, Looks}
use Rattle.host_promises.proofs.Logs.{history_same, run_same}
use Rattle.host_promises.specs.Lane.{last_word, opens_in, said_by, Gives, gives}

-- ---- readings of the log

word_looks : (u : Setup) (n size : ℕ) → Looks (word_of u n size)
word_looks u n size t request q g x y w e = rw e refl

opens_look : Looks opens
opens_look t request q g x y w e = refl

-- fewer than 2^31 calls accept no more opens than that
learnt_few : (x : News) (d : ℕ) → learnt opens x d ≤ 1 + d
learnt_few (Opening t request q g a) d = omega arith
learnt_few (Closing k) d = omega arith
learnt_few (Hearing t from f) d = omega arith
learnt_few (Expiring t) d = omega arith
learnt_few Nothing d = omega arith

history_few : (l : List (Call × Answer)) (d : ℕ) → history opens l d ≤ d + length l
history_few [] d = omega arith
history_few (x ∷ l) d = let h = learnt_few (news x.0 x.1) d in let k = history_few l (learnt opens (news x.0 x.1) d) in omega arith

pub few_calls : (ts : List Turn) → length (log_of ts) < 2 ^ 31 → early (opens_in ts) ≡ true
few_calls ts h = let k = history_few (log_of ts) 0 in lt-ltb (opens_in ts) (2 ^ 31) (omega arith)

-- ---- THE PROMISE

module _ (l block eds : List ℕ) (seed : ℕ) (s : List ℕ) (e : (0, s) ≡ setup_call l block eds seed) (small : seed < 2 ^ 32) where
  abbrev u : Setup
  u = setup_given block eds

  -- the state is the rules', and so are the history's words
  module _ {ts : List Turn} {s' : List ℕ} (r : Ran ts s s') (same : OneSetup ts) where
    as_run : view s' ≡ run (calls_of ts) (fresh u seed)
    as_run = let f = run_is_ruled l block eds seed s e r in f.holds ∙ run_same ts (fresh u seed) f.answers same

    pub as_opens : history opens (log (calls_of ts) (fresh u seed)) 0 ≡ opens_in ts
    as_opens = sym (history_same opens opens_look ts (fresh u seed) 0 (run_is_ruled l block eds seed s e r).answers same)

    pub as_word : (n i : ℕ) → history (word_of u n (shape_at u i).size) (log (calls_of ts) (fresh u seed)) no_word ≡ last_word u n i ts
    as_word n i =
        let size = (shape_at u i).size in
        sym (history_same (word_of u n size) (word_looks u n size) ts (fresh u seed) no_word (run_is_ruled l block eds seed s e r).answers same)

  module _ (n i : ℕ) (there : place_of is_output u n ≡ Some i) where
    -- WHAT OUTPUT ANSWERS is the last word of its live owner
    pub output_is_the_last_word : {ts : List Turn} {s' : List ℕ} → Ran ts s s' → OneSetup ts → early (opens_in ts) ≡ true
        → (out s'' : List ℕ) (a : Said) → Met (contract_of (HostCall.Output n out)) s' s'' a → Gives (said_by u i (last_word u n i ts)) out a
    output_is_the_last_word {ts} {s'} r same few out s'' a m =
        let f = run_is_ruled l block eds seed s e r in
        let told = (agrees (CCall.On (HostCall.Output n out)) s' f.passes s'' a m).answers in
        let few' = ap early (as_opens r same) ∙ few in
        let x : answer (Calls.ReadOutput n (length out)) (view s') ≡ fitting (length out) (said_by u i (last_word u n i ts)) (Wrote (said_by u i (last_word u n i ts))) =
        ap (answer (Calls.ReadOutput n (length out))) (as_run r same)
        ∙ host_reads_the_word u n i there seed small (calls_of ts) few' (length out)
        ∙ ap (λ (w : Word). fitting (length out) (said_by u i w) (Wrote (said_by u i w))) (as_word r same n i) in
        gives (said_by u i (last_word u n i ts)) out a (subst (λ (y : Answer). Told y out a) x told)
