use Rattle.std.proofs.Common.{refl, sym, ◌∙◌, arith}
use Rattle.rules.specs.Checks.{owns}
use Rattle.state_rules.specs.Rows.{dec_fixed}
use Rattle.state_rules.specs.Places.{row_size}
use Rattle.state_searches.specs.Searches.{any_hit, any_miss, any_ends}
use Rattle.open_streams.proofs.owning.owned.Goals as goal

pub loop-i-init : goal.loop-i-init
loop-i-init c = refl

pub returns-then-owns_at : goal.returns-then-owns_at
returns-then-owns_at c = let a = c.args in
    let w = c.loop-i in
    sym (w.invariant ∙ any_hit row_size dec_fixed (owns a.output) a.n a.t.now w.i (omega arith) (sym c.owns_at.ensures ∙ c.if-owns_at.true))

pub loop-i-preserved : goal.loop-i-preserved
loop-i-preserved c = let a = c.args in
    let w = c.loop-i in
    w.invariant ∙ any_miss row_size dec_fixed (owns a.output) a.n a.t.now w.i (omega arith) (sym c.owns_at.ensures ∙ c.if-owns_at.false)

pub returns : goal.returns
returns c = let a = c.args in
    let w = c.loop-i in
    sym (w.invariant ∙ any_ends row_size dec_fixed (owns a.output) a.n a.t.now w.i (omega arith))
