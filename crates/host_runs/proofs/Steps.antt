-- THE STEP is taken by each call: one law for each kind of contract, then one of any call.
use Prim.Native.Nat.{ℕ}
use Rattle.std.specs.Prelude.{true, ◌≡◌, length}
use mathlib.Core.List.{List}
use Rattle.std.proofs.Math.Path.{ap, sym}
use Rattle.std.proofs.Common.{subst, ◌∙◌}
use Rattle.rules_laws.specs.ListLaws.{by_cases}
use Rattle.rules.specs.State.{State}
use Rattle.rules.specs.Answers.{Answer, answer_number}
use Rattle.msg_routing.specs.Answered.{answered}
use Rattle.state_rules.specs.Image.{view, tested}
use Rattle.state_image.specs.Fits.{Suits, is_long}
use Rattle.state_image.specs.ViewLaws.{view_store}
use Rattle.state_image.specs.Passes.{tested_store}
use Rattle.state_image.specs.Lift.{lifted_passes, lifted_tested, lifted_view}
use Rattle.app_starting.specs.Block.{accepted}
use Rattle.app_starting.specs.Fresh.{view_started, tested_started}
use Rattle.app_starting.specs.Calls.{bad_setup, set_up}
use Rattle.msg_answering.specs.Lifted.{lifted_message}
use Rattle.host_runs.specs.CallContracts.{Said, Contract, Sets, Changes, Writes, Reads, Says, Replies, Met, next_by, answer_by, Answers}
use Rattle.host_runs.specs.HostCalls.{contract_of, CCall, contract}
use Rattle.host_runs.specs.Steps.{out_passes, read_passes, same_next, same_answer, suits, Agrees}

-- ---- each kind of contract

-- bytes that were left beside the state that the rules leave, and what was answered beside their answer
record Agreed (k : Contract) (st : State) (s' : List ℕ) (a : Said) : Type 0 where
  passes : tested s' ≡ true
  holds : view s' ≡ next_by k st
  answers : Answers k st (answer_by k st) a

module _ (s : List ℕ) (ok : tested s ≡ true) (s' : List ℕ) (a : Said) where
  sets_up : (block eds : List ℕ) (seed : ℕ) → Met (Sets block eds seed) s s' a → Agreed (Sets block eds seed) (view s) s' a
  unfolding answer_number
  sets_up block eds seed m =
      by_cases (accepted block eds)
      (λ y.
      let e = m ∙ sym (set_up s block eds seed (is_long s ok) y) in
      record {
        passes = ap (λ (z : ℕ × List ℕ). tested z.1) e ∙ tested_started block eds seed y;
        holds = rw y (ap (λ (z : ℕ × List ℕ). view z.1) e ∙ view_started block eds seed y);
        answers = rw y (ap (λ (z : ℕ × List ℕ). z.0) e);
      })
      (λ n.
      let e = m ∙ sym (bad_setup s block eds seed (is_long s ok) n) in
      record {
        passes = ap (λ (z : ℕ × List ℕ). tested z.1) e ∙ ok;
        holds = rw n (ap (λ (z : ℕ × List ℕ). view z.1) e);
        answers = rw n (ap (λ (z : ℕ × List ℕ). z.0) e);
      })

  changes : (call : State → Answer × State) → Suits (call (view s)).1 s → Met (Changes call) s s' a → Agreed (Changes call) (view s) s' a
  changes call w m =
      let e = ap (λ (z : ℕ × List ℕ). z.1) m in
      record {
        passes = ap tested e ∙ lifted_tested call s ok w;
        holds = ap view e ∙ lifted_view call s ok w;
        answers = ap (λ (z : ℕ × List ℕ). z.0) (m ∙ lifted_passes call s ok);
      }

  writes : (call : ℕ → State → Answer × State) (out : List ℕ) → Suits (call (length out) (view s)).1 s → Met (Writes call out) s s' a → Agreed (Writes call out) (view s) s' a
  writes call out w m =
      let e = m ∙ out_passes s ok call out in
      record {
        passes = ap (λ (z : ℕ × (List ℕ × List ℕ)). tested z.1.0) e ∙ tested_store (call (length out) (view s)).1 s w;
        holds = ap (λ (z : ℕ × (List ℕ × List ℕ)). view z.1.0) e ∙ view_store (call (length out) (view s)).1 s w;
        answers = (ap (λ (z : ℕ × (List ℕ × List ℕ)). z.0) e, ap (λ (z : ℕ × (List ℕ × List ℕ)). z.1.1) e);
      }

  reads : (call : ℕ → State → Answer) (out : List ℕ) → Met (Reads call out) s s' a → Agreed (Reads call out) (view s) s' a
  reads call out m =
      let e = m.0 ∙ read_passes s ok call out in
      record { passes = ap tested m.1 ∙ ok; holds = ap view m.1; answers = (ap (λ (z : ℕ × List ℕ). z.0) e, ap (λ (z : ℕ × List ℕ). z.1) e) }

  says : (call : ℕ → Answer) (out : List ℕ) → Met (Says call out) s s' a → Agreed (Says call out) (view s) s' a
  unfolding answered
  says call out m =
      record { passes = ap tested m.1 ∙ ok; holds = ap view m.1; answers = (ap (λ (z : ℕ × List ℕ). z.0) m.0, ap (λ (z : ℕ × List ℕ). z.1) m.0) }

  -- a message: its position passes its own test, or it is answered No. 1
  replies : (local mask : ℕ) (message upload out : List ℕ) → Met (Replies local mask message upload out) s s' a → Agreed (Replies local mask message upload out) (view s) s' a
  unfolding lifted_message
  replies local mask message upload out m =
      record {
        passes = ap tested m.1 ∙ ok;
        holds = ap view m.1;
        answers = (λ p. parts (rw (ok, p) at m).0, λ p. let q = parts (rw (ok, p) at m).0 in (q.0.0, q.0.1, q.1));
      }
    where
      parts : {x : ℕ × (List ℕ × List ℕ)} → (a.number, (a.position, a.output)) ≡ x → ((a.number ≡ x.0) × (a.output ≡ x.1.1)) × (a.position ≡ x.1.0)
      parts e = ((ap (λ (z : ℕ × (List ℕ × List ℕ)). z.0) e, ap (λ (z : ℕ × (List ℕ × List ℕ)). z.1.1) e), ap (λ (z : ℕ × (List ℕ × List ℕ)). z.1.0) e)

  agreed : (k : Contract) → Suits (next_by k (view s)) s → Met k s s' a → Agreed k (view s) s' a
  agreed (Sets block eds seed) w m = sets_up block eds seed m
  agreed (Changes call) w m = changes call w m
  agreed (Writes call out) w m = writes call out w m
  agreed (Reads call out) w m = reads call out m
  agreed (Says call out) w m = says call out m
  agreed (Replies local mask message upload out) w m = replies local mask message upload out m

-- ---- each call

pub agrees : (c : CCall) (s : List ℕ) → tested s ≡ true → (s' : List ℕ) (a : Said) → Met (contract c) s s' a → Agrees c (view s) s' a
agrees (CCall.Setup block eds seed) s ok s' a m = let g = sets_up s ok s' a block eds seed m in record { passes = g.passes; holds = g.holds; answers = g.answers }
agrees (CCall.On c) s ok s' a m =
    let g = agreed s ok s' a (contract_of c) (suits s ok c) m in
    record {
      passes = g.passes;
      holds = g.holds ∙ same_next c (view s);
      answers = subst (λ (x : Answer). Answers (contract_of c) (view s) x a) (same_answer c (view s)) g.answers;
    }
agrees (CCall.Path path out) s ok s' a m = let g = says s ok s' a _ out m in record { passes = g.passes; holds = g.holds; answers = g.answers }
agrees (CCall.Request message out) s ok s' a m = let g = says s ok s' a _ out m in record { passes = g.passes; holds = g.holds; answers = g.answers }
