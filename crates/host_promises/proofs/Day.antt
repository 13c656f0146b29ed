-- The day on lent bytes: whatever the C functions leave and answer, the application is told run, by an owner that was heard.
use Rattle.std.specs.Prelude.{ℕ, ◌*◌, ◌%◌, ◌≡◌, refl, replicate, Some}
use mathlib.Core.List.{List, [], ◌∷◌}
use Rattle.std.proofs.Math.Path.{ap}
use Rattle.std.proofs.Common.{◌∙◌, arith}
use Rattle.std.proofs.Math.ListN.{get_or}
use Rattle.std.proofs.Math.Seq.{sets}
use Rattle.rules.specs.State.{Setup, is_output}
use Rattle.rules.specs.Answers.{Answer, Wrote, Gone, answer_number, answer_bytes}
use Rattle.rules.specs.Setup.{fresh}
use Rattle.rules.specs.Checks.{place_of}
use Rattle.rules.specs.Calls.{answer, run}
use Rattle.state_rules.specs.Places.{state_size}
use Rattle.state_rules.specs.Image.{view}
use Rattle.rules_lastword.specs.Clearing.{HeardLately}
use Rattle.app_starting.specs.Block.{setup_given, started, setup_call}
use Rattle.host_runs.specs.CallContracts.{Said, Met}
use Rattle.host_runs.specs.HostCalls.{contract_of, call_of, CCall}
use Rattle.host_runs.specs.Runs.{Turn, Ran, none, one, held}
use Rattle.host_runs.proofs.Runs.{run_is_ruled}
use Rattle.host_promises.specs.Owners.{Owner, run_read}
use Rattle.host_promises.specs.Lane.{last_word, said_by, Gives}
use Rattle.host_promises.proofs.Lane.{few_calls, output_is_the_last_word}
use Rattle.host_promises.proofs.Heard.{run_byte_was_heard}
use Rattle.host_promises.specs.Day.{block, block_says, begins, opens, hears, reads, expires, computed, after_open, after_frame, after_read, saying}

-- whatever the C functions leave and answer, if only they meet their contracts
module _ (s s₁ s₂ s₃ : List ℕ) (a b c : Said) (set : (0, s) ≡ setup_call (replicate state_size 0) block [] 4) (opening : Met (contract_of opens) s s₁ a)
    (hearing : Met (contract_of hears) s₁ s₂ b) (reading : Met (contract_of reads) s₂ s₃ c) where
  ran : Ran ((CCall.On opens, a) ∷ (CCall.On hears, b) ∷ (CCall.On reads, c) ∷ []) s s₃
  ran = one (CCall.On opens) a opening (one (CCall.On hears) b hearing (one (CCall.On reads) c reading none))

  abbrev before : List Turn
  before = (CCall.On opens, a) ∷ (CCall.On hears, b) ∷ []

  ran_before : Ran before s s₂
  ran_before = one (CCall.On opens) a opening (one (CCall.On hears) b hearing none)

  -- the application is told run, and the frame's bytes
  pub told_run : (c.number ≡ 256 * 3) × (c.output ≡ 1 ∷ 0xAA ∷ 0xBB ∷ [])
  unfolding answer_number
  told_run =
      let f = (run_is_ruled (replicate state_size 0) block [] 4 s set ran).answers.1.1.0 in
      let e : answer (call_of reads) (run (call_of opens ∷ call_of hears ∷ []) (fresh (setup_given block []) 4)) ≡ Wrote (1 ∷ 0xAA ∷ 0xBB ∷ []) =
      ap (λ (u : Setup). answer (call_of reads) (run (call_of opens ∷ call_of hears ∷ []) (fresh u 4))) block_says ∙ computed.0 in
      (f.0 ∙ ap answer_number e, f.1 ∙ ap (λ (x : Answer). sets (replicate 3 0) 0 (answer_bytes x)) e)

  -- so a row of the table owns it
  pub its_owner : (i : ℕ) × (place_of is_output (view s₂).setup 150 ≡ Some i) × Owner s₂ i
  its_owner =
      run_read (held (replicate state_size 0) block [] 4 set ran_before) 150 (replicate 3 0) s₃ c reading
      (ap (λ (n : ℕ). n % 256) told_run.0) (ap (λ (x : List ℕ). get_or x 0 0) told_run.1)

  -- and the promise holds of it: what was read is the last word of the output's live owner
  pub its_word : let u : Setup = setup_given block [] in Gives (said_by u 0 (last_word u 150 0 before)) (replicate 3 0) c
  unfolding place_of
  its_word =
      let there : place_of is_output (setup_given block []) 150 ≡ Some 0 = ap (λ (u : Setup). place_of is_output u 150) block_says in
      output_is_the_last_word (replicate state_size 0) block [] 4 s set (omega arith) 150 0 there ran_before (refl, (refl, tt))
      (few_calls before (omega arith)) (replicate 3 0) s₃ c reading

-- ---- with the expiry call before the read, the run byte means that the owner was heard

module _ (s s₁ s₂ s₃ s₄ : List ℕ) (a b d c : Said) (set : (0, s) ≡ setup_call (replicate state_size 0) block [] 4) (opening : Met (contract_of opens) s s₁ a)
    (hearing : Met (contract_of hears) s₁ s₂ b) (expiring : Met (contract_of expires) s₂ s₃ d) (reading : Met (contract_of reads) s₃ s₄ c) where
  pub its_owner_was_heard : HeardLately 3000 (last_word (setup_given block []) 150 0 ((CCall.On opens, a) ∷ (CCall.On hears, b) ∷ (CCall.On expires, d) ∷ []))
  unfolding place_of answer_number
  its_owner_was_heard =
      let ran-all : Ran ((CCall.On opens, a) ∷ (CCall.On hears, b) ∷ (CCall.On expires, d) ∷ (CCall.On reads, c) ∷ []) s s₄ =
      one (CCall.On opens) a opening (one (CCall.On hears) b hearing (one (CCall.On expires) d expiring (one (CCall.On reads) c reading none))) in
      let f = (run_is_ruled (replicate state_size 0) block [] 4 s set ran-all).answers.1.1 in
      let x : answer (call_of expires) (run (call_of opens ∷ call_of hears ∷ []) (fresh (setup_given block []) 4)) ≡ Gone 0 =
      ap (λ (u : Setup). answer (call_of expires) (run (call_of opens ∷ call_of hears ∷ []) (fresh u 4))) block_says ∙ computed.1 in
      let y : answer (call_of reads) (run (call_of opens ∷ call_of hears ∷ call_of expires ∷ []) (fresh (setup_given block []) 4)) ≡ Wrote (1 ∷ 0xAA ∷ 0xBB ∷ []) =
      ap (λ (u : Setup). answer (call_of reads) (run (call_of opens ∷ call_of hears ∷ call_of expires ∷ []) (fresh u 4))) block_says ∙ computed.2 in
      let there : place_of is_output (setup_given block []) 150 ≡ Some 0 = ap (λ (u : Setup). place_of is_output u 150) block_says in
      run_byte_was_heard (replicate state_size 0) block [] 4 s set (omega arith) 150 0 there
      (one (CCall.On opens) a opening (one (CCall.On hears) b hearing none)) (refl, (refl, tt)) (few_calls ((CCall.On opens, a) ∷ (CCall.On hears, b) ∷ []) (omega arith))
      3000 s₃ d expiring (ap (λ (n : ℕ). n % 256) (f.0 ∙ ap answer_number x)) (replicate 3 0) s₄ c reading
      (ap (λ (n : ℕ). n % 256) (f.1.0.0 ∙ ap answer_number y)) (ap (λ (l : List ℕ). get_or l 0 0) (f.1.0.1 ∙ ap (λ (z : Answer). sets (replicate 3 0) 0 (answer_bytes z)) y))

-- ---- and there are such bytes and answers

-- THE LANE RUNS, on bytes
pub lane_runs :
    let s₁ : List ℕ = (after_open (started block [] 4)).1.0 in
    let s₂ : List ℕ = (after_frame s₁).1 in
    ((after_read s₂).0 ≡ 256 * 3) × ((after_read s₂).1.1 ≡ 1 ∷ 0xAA ∷ 0xBB ∷ [])
lane_runs =
    let s : List ℕ = started block [] 4 in
    let s₁ : List ℕ = (after_open s).1.0 in
    let s₂ : List ℕ = (after_frame s₁).1 in
    told_run s s₁ s₂ (after_read s₂).1.0 (saying (after_open s).0 (after_open s).1.1) (saying (after_frame s₁).0 []) (saying (after_read s₂).0 (after_read s₂).1.1)
    begins refl refl refl
