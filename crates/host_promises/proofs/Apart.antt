-- DEMAND 3 holds of what the host calls: each answer that is not set apart is the same, then what the two runs leave.
use Rattle.std.specs.Prelude.{ℕ, true, false, List, ◌≡◌, refl}
use Rattle.std.proofs.Common.{ap, sym, subst, ◌∙◌}
use Rattle.rules.specs.Lists.{keep}
use Rattle.rules_laws.specs.ListLaws.{clash}
use Rattle.rules.specs.State.{State, shape_at, content_at, is_output}
use Rattle.rules.specs.Answers.{Answer}
use Rattle.rules.specs.Setup.{fresh}
use Rattle.rules.specs.Calls
use Rattle.rules.specs.Calls.{Call, answer, next, run}
use Rattle.state_rules.specs.Image.{view, tested}
use Rattle.rules_isolation.specs.Demand.{SameExpiries, AnsweredAlike, AllAnsweredAlike, NeverOwned, other}
use Rattle.rules_isolation.proofs.Demand.{demand_3, inputs_equal}
use Rattle.app_starting.specs.Block.{setup_given, setup_call}
use Rattle.app_starting.specs.Calls.{setup_fresh}
use Rattle.host_runs.specs.CallContracts.{Answers}
use Rattle.host_runs.specs.HostCalls.{HostCall, contract_of, call_of}
use Rattle.host_promises.specs.Rows.{conns_view}
use Rattle.host_promises.specs.Pairs.{Pair, end, both, first_only, second_only, SameGoing, firsts, seconds, paired}
use Rattle.host_promises.proofs.Pairs.{step, both_run, premise, unowned}
use Rattle.host_promises.specs.Apart.{apart, AllSame, Separate}

same_said : (x : Call) (s r : State) → apart x ≡ true → AnsweredAlike x s r → answer x s ≡ answer x r
same_said (Calls.Open t service request g room) s r y e = e
same_said (Calls.OpenRefusal service request room) s r y e = e
same_said (Calls.Close request room) s r y e = e
same_said (Calls.Receive t from frame) s r y e = e
same_said (Calls.Produce t room) s r y e = e
same_said (Calls.Expire t) s r y e = e
same_said (Calls.Deadline room) s r y e = clash false y refl
same_said (Calls.SetInput n bytes) s r y e = e
same_said (Calls.ReadOutput n room) s r y e = clash false y refl
same_said (Calls.ReadAssembly kind n room) s r y e = clash false y refl
same_said (Calls.NextEvent room) s r y e = clash false y refl
same_said (Calls.Connections room) s r y e = e
same_said (Calls.Stats room) s r y e = e
same_said (Calls.Message local mask message room position) s r y e = clash false y refl

all_same : {A : ℕ} {l m l'' m'' : List ℕ} (p : Pair A l m l'' m'') → tested l ≡ true → tested m ≡ true → AllAnsweredAlike (paired p) (view l) (view m) → AllSame p
all_same end x y h = tt
all_same (both c d a b {l} {m} {l'} {m'} e f g p) x y h =
    let u = step c l x l' a f in
    let v = step d m y m' b g in
    let w : view m' ≡ next (call_of c) (view m) = v.holds ∙ ap (λ (z : Call). next z (view m)) (sym e) in (
      λ q. (
        answer (call_of c) (view l),
        u.answers,
        subst (λ (z : Answer). Answers (contract_of d) (view m) z b) (ap (λ (k : Call). answer k (view m)) (sym e) ∙ sym (same_said (call_of c) (view l) (view m) q h.0)) v.answers,
      ),
      all_same p u.passes v.passes
          (subst (λ (s : State). AllAnsweredAlike (paired p) s (view m')) (sym u.holds)
          (subst (λ (r : State). AllAnsweredAlike (paired p) (next (call_of c) (view l)) r) (sym w) h.1)),
    )
all_same {A} (first_only t frame a {l} {m} {l'} f p) x y h =
    let u = step (HostCall.Receive t A frame) l x l' a f in
    all_same p u.passes y (subst (λ (s : State). AllAnsweredAlike (paired p) s (view m)) (sym u.holds) h)
all_same {A} (second_only t frame b {l} {m} {m'} g p) x y h =
    let v = step (HostCall.Receive t A frame) m y m' b g in
    all_same p x v.passes (subst (λ (r : State). AllAnsweredAlike (paired p) (view l) r) (sym v.holds) h)

module _ (l block eds : List ℕ) (seed : ℕ) (s : List ℕ) (z : (0, s) ≡ setup_call l block eds seed) (A : ℕ) (s' s'' : List ℕ) (p : Pair A s s s' s'') (h : SameGoing p) where
  abbrev begun : State
  begun = fresh (setup_given block eds) seed

  is_begun : (tested s ≡ true) × (view s ≡ begun)
  is_begun =
      let f = setup_fresh l block eds seed (sym (ap (λ (x : ℕ × List ℕ). x.0) z)) in
      let b : s ≡ (setup_call l block eds seed).1 = ap (λ (x : ℕ × List ℕ). x.1) z in
      (ap tested b ∙ f.0, ap view b ∙ f.1)

  same_premise : SameExpiries (paired p) begun begun
  same_premise = subst (λ (x : State). SameExpiries (paired p) x x) is_begun.1 (premise p is_begun.0 is_begun.0 h)

  first_is : view s' ≡ run (firsts p) begun
  first_is = (both_run p is_begun.0 is_begun.0).0 ∙ ap (run (firsts p)) is_begun.1

  second_is : view s'' ≡ run (seconds p) begun
  second_is = (both_run p is_begun.0 is_begun.0).1 ∙ ap (run (seconds p)) is_begun.1

  pub demand_3_on_bytes : Separate p
  demand_3_on_bytes =
      let d = demand_3 A (setup_given block eds) seed (paired p) same_premise in
      record {
        connections =
            ap (keep (other A)) (sym (conns_view s')) ∙ ap (λ (x : State). keep (other A) x.table) first_is
            ∙ d.connections
            ∙ sym (ap (λ (x : State). keep (other A) x.table) second_is) ∙ ap (keep (other A)) (conns_view s'');
        answers = all_same p is_begun.0 is_begun.0 (subst (λ (x : State). AllAnsweredAlike (paired p) x x) (sym is_begun.1) d.answers);
        assemblies =
            λ i n.
            ap (λ (x : State). content_at x i) first_is
            ∙ d.assemblies i (subst (λ (x : State). NeverOwned A i (firsts p) x) is_begun.1 (unowned i p is_begun.0 is_begun.0 n))
            ∙ sym (ap (λ (x : State). content_at x i) second_is);
      }

  -- nobody owns an input or a configuration, so they are equal always
  pub inputs_equal_on_bytes : (i : ℕ) → is_output (shape_at (setup_given block eds) i).kind ≡ false → content_at (view s') i ≡ content_at (view s'') i
  inputs_equal_on_bytes i n =
      ap (λ (x : State). content_at x i) first_is
      ∙ inputs_equal A (setup_given block eds) seed (paired p) same_premise i n
      ∙ sym (ap (λ (x : State). content_at x i) second_is)
