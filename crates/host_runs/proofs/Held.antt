-- The bytes that a host holds pass the state test, and what they say is a state that the rules reach.
use Rattle.std.specs.Prelude.{ℕ, true, List, [], ◌∷◌, ◌++◌, ◌≡◌, refl}
use Rattle.std.proofs.Common.{ap, sym, subst, ◌∙◌}
use Rattle.rules_laws.specs.ListLaws.{either_way}
use Rattle.rules.specs.State.{State}
use Rattle.rules.specs.Setup.{fresh}
use Rattle.rules.specs.Calls.{Call, next, run}
use Rattle.state_rules.specs.Image.{view, tested}
use Rattle.app_starting.specs.Block.{setup_given, accepted}
use Rattle.host_runs.specs.HostCalls.{call_of, CCall, next_c}
use Rattle.host_runs.specs.Runs.{Turn, run_c, Held, held, Reached}
use Rattle.host_runs.proofs.Runs.{run_is_ruled}

pub held_passes : {s : List ℕ} → Held s → tested s ≡ true
held_passes (held l block eds seed {s = s} e r) = (run_is_ruled l block eds seed s e r).passes

one_more : (c : Call) (cs : List Call) (st : State) → next c (run cs st) ≡ run (cs ++ (c ∷ [])) st
one_more c [] st = refl
one_more c (x ∷ cs) st = one_more c cs (next x st)

-- a setup among the calls begins anew, so what is held is a run since the last setup that was accepted
reached_next : (c : CCall) (st : State) → Reached st → Reached (next_c c st)
reached_next (CCall.Setup block eds seed) st h = either_way Reached (accepted block eds) (setup_given block eds, seed, [], refl) h
reached_next (CCall.On c) st h = (h.0, h.1, h.2 ++ (call_of c ∷ []), ap (next (call_of c)) h.3 ∙ one_more (call_of c) h.2 (fresh h.0 h.1))
reached_next (CCall.Path path out) st h = h
reached_next (CCall.Request message out) st h = h

reached_run : (ts : List Turn) (st : State) → Reached st → Reached (run_c ts st)
reached_run [] st h = h
reached_run (t ∷ ts) st h = reached_run ts (next_c t.0 st) (reached_next t.0 st h)

pub held_reached : {s : List ℕ} → Held s → Reached (view s)
held_reached (held l block eds seed {ts} {s} e r) =
    subst Reached (sym (run_is_ruled l block eds seed s e r).holds) (reached_run ts (fresh (setup_given block eds) seed) (setup_given block eds, seed, [], refl))
