-- Every run follows the rules: by the step of each call.
use Rattle.std.specs.Prelude.{ℕ, true, List, ◌≡◌, refl}
use Rattle.std.proofs.Common.{ap, sym, subst, ◌∙◌}
use Rattle.rules.specs.State.{State}
use Rattle.rules.specs.Setup.{fresh}
use Rattle.state_rules.specs.Image.{view, tested}
use Rattle.app_starting.specs.Block.{setup_given, setup_call}
use Rattle.app_starting.specs.Calls.{setup_fresh}
use Rattle.host_runs.proofs.Steps.{agrees}
use Rattle.host_runs.specs.Runs.{Turn, Ran, none, one, run_c, Answered, Follows}

-- from any bytes that pass the state test
pub follows : {ts : List Turn} {s s'' : List ℕ} → Ran ts s s'' → tested s ≡ true → Follows ts (view s) s''
follows none ok = record { passes = ok; holds = refl; answers = tt }
follows (one c a {ts} {s} {s'} m r) ok =
    let g = agrees c s ok s' a m in
    let f = follows r g.passes in
    record { passes = f.passes; holds = f.holds ∙ ap (λ (st : State). run_c ts st) g.holds; answers = (g.answers, subst (Answered ts) g.holds f.answers) }

-- from a setup that was answered 0, whatever the bytes were before
pub run_is_ruled : (l block eds : List ℕ) (seed : ℕ) (s : List ℕ) → (0, s) ≡ setup_call l block eds seed → {ts : List Turn} {s'' : List ℕ} → Ran ts s s''
    → Follows ts (fresh (setup_given block eds) seed) s''
run_is_ruled l block eds seed s e {ts} {s''} r =
    let f = setup_fresh l block eds seed (sym (ap (λ (z : ℕ × List ℕ). z.0) e)) in
    let b : s ≡ (setup_call l block eds seed).1 = ap (λ (z : ℕ × List ℕ). z.1) e in
    subst (λ (st : State). Follows ts st s'') (ap view b ∙ f.1) (follows r (ap tested b ∙ f.0))
