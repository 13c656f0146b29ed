use Rattle.std.proofs.Common.{ℕ, ap, ◌∙◌}
use Rattle.rules.specs.Producing.{counted}
use Rattle.io_producing.specs.CallLaws.{kept_becomes}
use Rattle.io_producing.proofs.keep_tally.Goals as goal

pub returns : goal.returns
returns c = let a = c.args in
    kept_becomes a.s.now c.set_counters.new.s a.k c.saturating_add-produced.result c.saturating_add-late.result
    (c.saturating_add-produced.ensures ∙ ap (λ (n : ℕ). counted n a.k.count) c.u64_at.ensures) (c.saturating_add-late.ensures ∙ ap (λ (n : ℕ). counted n a.k.late) c.u64_at-2.ensures) c.set_counters.ensures.1
