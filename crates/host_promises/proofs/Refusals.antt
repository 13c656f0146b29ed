-- A refusal changes nothing: by the number's low byte, and one law for each kind of contract.
use Prim.Native.Nat.{ℕ, ◌%◌}
use Rattle.std.specs.Prelude.{true, false, ◌≡◌, refl, eqb, length}
use mathlib.Core.List.{List, []}
use Rattle.std.proofs.Math.Path.{ap}
use Rattle.std.proofs.Common.{sym, ◌∙◌, arith, eqb-true}
use Rattle.std.proofs.lemmas.List.Edits.{sets}
use Rattle.std.proofs.lemmas.Bool.{eqb-false}
use Rattle.base_cells.specs.Back.{Bytes}
use Rattle.rules_laws.specs.ListLaws.{by_cases}
use Rattle.rules.specs.State.{State}
use Rattle.rules.specs.Answers.{Answer, Done, Wrote, Accepted, Gone, Refused, Failed, is_yes, answer_number, answer_bytes}
use Rattle.rules.specs.Message.{message_answer, message_call}
use Rattle.state_rules.specs.Places.{state_size}
use Rattle.msg_routing.specs.Answered.{answered}
use Rattle.state_rules.specs.Image.{view, store, tested}
use Rattle.state_image.specs.ViewLaws.{store_view}
use Rattle.state_image.specs.Lift.{lifted_fails, lifted_passes, out_fails, read_fails}
use Rattle.app_starting.specs.Block.{accepted}
use Rattle.app_starting.specs.Calls.{other_size, bad_setup, set_up}
use Rattle.msg_positions.specs.Positions.{dec_upload}
use Rattle.msg_answering.specs.Positions.{position_tested, whole_tested}
use Rattle.msg_answering.specs.Lifted.{lifted_message}
use Rattle.rules_faults.specs.Bounds.{refused_leaves}
use Rattle.host_runs.specs.CallContracts.{Said, Contract, Sets, Changes, Writes, Reads, Says, Replies, Met, next_by, answer_by}
use Rattle.host_runs.specs.HostCalls.{contract_of, call_of, CCall, contract}
use Rattle.host_runs.specs.Steps.{same_next, same_answer, out_passes, read_passes}
use Rattle.host_promises.specs.Refusals.{No, Unwritten}

-- ---- a yes has the low byte 0, and a no writes nothing

pub low_zero : (x : Answer) → is_yes x ≡ true → answer_number x % 256 ≡ 0
unfolding answer_number
low_zero Done y = omega arith
low_zero (Wrote bs) y = omega arith
low_zero (Accepted true s bs) y = omega arith
low_zero (Accepted false s bs) y = omega arith
low_zero (Gone n) y = omega arith
low_zero (Refused w) y = absurd (let z : ◌≡◌ {A = ℕ} 0 1 = cc in omega arith)
low_zero (Failed s) y = absurd (let z : ◌≡◌ {A = ℕ} 0 1 = cc in omega arith)

says_no : (x : Answer) (a : Said) → a.number ≡ answer_number x → No a → is_yes x ≡ false
says_no x a e n = by_cases (is_yes x) (λ y. absurd (n (ap (λ (k : ℕ). k % 256) e ∙ low_zero x y))) (λ y. y)

no_bytes : (x : Answer) → is_yes x ≡ false → answer_bytes x ≡ []
no_bytes Done y = refl
no_bytes (Wrote bs) y = absurd (let z : ◌≡◌ {A = ℕ} 0 1 = cc in omega arith)
no_bytes (Accepted multicast s bs) y = absurd (let z : ◌≡◌ {A = ℕ} 0 1 = cc in omega arith)
no_bytes (Gone n) y = refl
no_bytes (Refused w) y = refl
no_bytes (Failed s) y = refl

nothing_written : (x : Answer) (out : List ℕ) → is_yes x ≡ false → sets out 0 (answer_bytes x) ≡ out
nothing_written x out y = ap (sets out 0) (no_bytes x y)

-- ---- each kind of contract; `leaves` says that a no of the rules leaves the state

module _ (s s' : List ℕ) (a : Said) (b : Bytes s) (n : No a) where
  sets_no : (block eds : List ℕ) (seed : ℕ) → Met (Sets block eds seed) s s' a → s' ≡ s
  sets_no block eds seed m =
      by_cases (eqb (length s) state_size)
      (λ y. by_cases (accepted block eds)
      (λ z. absurd (n (ap (λ (x : ℕ × List ℕ). x.0 % 256) (m ∙ sym (set_up s block eds seed (eqb-true (length s) state_size y) z)))))
      (λ z. ap (λ (x : ℕ × List ℕ). x.1) (m ∙ sym (bad_setup s block eds seed (eqb-true (length s) state_size y) z))))
      (λ y. ap (λ (x : ℕ × List ℕ). x.1) (m ∙ sym (other_size s block eds seed (eqb-false (length s) state_size y))))

  stored : tested s ≡ true → (st : State) → st ≡ view s → store st s ≡ s
  stored t st e = ap (λ (z : State). store z s) e ∙ store_view s t b

  changes_no : (call : State → Answer × State) → (is_yes (call (view s)).0 ≡ false → (call (view s)).1 ≡ view s) → Met (Changes call) s s' a → s' ≡ s
  changes_no call leaves m =
      by_cases (tested s)
      (λ t. let e = m ∙ lifted_passes call s t in
      ap (λ (x : ℕ × List ℕ). x.1) e ∙ stored t (call (view s)).1 (leaves (says_no (call (view s)).0 a (ap (λ (x : ℕ × List ℕ). x.0) e) n)))
      (λ t. ap (λ (x : ℕ × List ℕ). x.1) (m ∙ sym (lifted_fails call s t)))

  writes_no : (call : ℕ → State → Answer × State) (out : List ℕ) → (is_yes (call (length out) (view s)).0 ≡ false → (call (length out) (view s)).1 ≡ view s)
      → Met (Writes call out) s s' a → (s' ≡ s) × (a.output ≡ out)
  writes_no call out leaves m =
      by_cases (tested s)
      (λ t. let e = m ∙ out_passes s t call out in
      let y = says_no (call (length out) (view s)).0 a (ap (λ (x : ℕ × (List ℕ × List ℕ)). x.0) e) n in (
        ap (λ (x : ℕ × (List ℕ × List ℕ)). x.1.0) e ∙ stored t (call (length out) (view s)).1 (leaves y),
        ap (λ (x : ℕ × (List ℕ × List ℕ)). x.1.1) e ∙ nothing_written (call (length out) (view s)).0 out y,
      ))
      (λ t. let e = m ∙ sym (out_fails call s out t) in (ap (λ (x : ℕ × (List ℕ × List ℕ)). x.1.0) e, ap (λ (x : ℕ × (List ℕ × List ℕ)). x.1.1) e))

  reads_no : (call : ℕ → State → Answer) (out : List ℕ) → Met (Reads call out) s s' a → a.output ≡ out
  reads_no call out m =
      by_cases (tested s)
      (λ t. let e = m.0 ∙ read_passes s t call out in
      ap (λ (x : ℕ × List ℕ). x.1) e ∙ nothing_written (call (length out) (view s)) out (says_no (call (length out) (view s)) a (ap (λ (x : ℕ × List ℕ). x.0) e) n))
      (λ t. ap (λ (x : ℕ × List ℕ). x.1) (m.0 ∙ sym (read_fails call s out t)))

  says_nothing : (call : ℕ → Answer) (out : List ℕ) → Met (Says call out) s s' a → a.output ≡ out
  unfolding answered
  says_nothing call out m = ap (λ (x : ℕ × List ℕ). x.1) m.0 ∙ nothing_written (call (length out)) out (says_no (call (length out)) a (ap (λ (x : ℕ × List ℕ). x.0) m.0) n)

  module _ (local mask : ℕ) (message upload out : List ℕ) where
    abbrev reply : Answer
    reply = message_answer local mask message (length out) (view s) (dec_upload upload)

    replies_no : Met (Replies local mask message upload out) s s' a → (a.output ≡ out) × (Bytes upload → a.position ≡ upload)
    unfolding lifted_message message_call
    replies_no m =
        by_cases (tested s)
        (λ t. by_cases (position_tested (view s).setup upload)
        (λ p. let e = (rw (t, p) at m).0 in
        let y = says_no reply a (ap (λ (x : ℕ × (List ℕ × List ℕ)). x.0) e) n in (
          ap (λ (x : ℕ × (List ℕ × List ℕ)). x.1.1) e ∙ nothing_written reply out y,
          λ c. ap (λ (x : ℕ × (List ℕ × List ℕ)). x.1.0) (rw y at e) ∙ (whole_tested s upload t c p).again,
        ))
        (λ p. let e = (rw (t, p) at m).0 in (ap (λ (x : ℕ × (List ℕ × List ℕ)). x.1.1) e, λ c. ap (λ (x : ℕ × (List ℕ × List ℕ)). x.1.0) e)))
        (λ t. let e = (rw t at m).0 in (ap (λ (x : ℕ × (List ℕ × List ℕ)). x.1.1) e, λ c. ap (λ (x : ℕ × (List ℕ × List ℕ)). x.1.0) e))

  by_kind : (k : Contract) → (is_yes (answer_by k (view s)) ≡ false → next_by k (view s) ≡ view s) → Met k s s' a → (s' ≡ s) × Unwritten k a
  by_kind (Sets block eds seed) leaves m = (sets_no block eds seed m, tt)
  by_kind (Changes call) leaves m = (changes_no call leaves m, tt)
  by_kind (Writes call out) leaves m = writes_no call out leaves m
  by_kind (Reads call out) leaves m = (m.1, reads_no call out m)
  by_kind (Says call out) leaves m = (m.1, says_nothing call out m)
  by_kind (Replies local mask message upload out) leaves m = (m.1, replies_no local mask message upload out m)

  -- A REFUSAL CHANGES NOTHING
  pub refusal : (c : CCall) → Met (contract c) s s' a → (s' ≡ s) × Unwritten (contract c) a
  refusal (CCall.Setup block eds seed) m = (sets_no block eds seed m, tt)
  refusal (CCall.On c) m =
      by_kind (contract_of c)
      (λ y. same_next c (view s) ∙ refused_leaves (call_of c) (view s) (answer_by (contract_of c) (view s)) (sym (same_answer c (view s))) y) m
  refusal (CCall.Path path out) m = (m.1, says_nothing _ out m)
  refusal (CCall.Request message out) m = (m.1, says_nothing _ out m)
