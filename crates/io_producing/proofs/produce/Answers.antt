-- Nothing is due, and nothing changes; or what is due goes out.
use Rattle.std.proofs.Common.{arith, sym, ◌∙◌}
use Rattle.io_producing.specs.CallLaws.{nothing_due}
use Rattle.io_producing.proofs.produce.Goals as goal

pub returns-then-not-any_due : goal.returns-then-not-any_due
returns-then-not-any_due c = let a = c.args in
    nothing_due a.time a.s.now a.out.now c.u16_at-n.result c.u16_at-n.ensures c.requires.2 (λ i. omega (arith, c.slice_known-1.given i))
    (sym c.any_due.ensures ∙ c.if-not-any_due.true)

pub returns : goal.returns
returns c = c.produce_due.ensures
