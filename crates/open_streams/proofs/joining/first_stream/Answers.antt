use Rattle.std.proofs.Common.{refl, ap, sym, ◌∙◌, arith}
use Rattle.rules.specs.Checks.{stream_found}
use Rattle.state_rules.specs.Rows.{dec_fixed}
use Rattle.state_rules.specs.Places.{row_size}
use Rattle.state_searches.specs.Searches.{find_hit, find_miss, find_ends}
use Rattle.open_streams.specs.Joining.{carries_for}
use Rattle.open_streams.proofs.joining.first_stream.Goals as goal

pub loop-i-init : goal.loop-i-init
loop-i-init c = refl

pub returns-then-carries_at : goal.returns-then-carries_at
returns-then-carries_at c = let a = c.args in
    let w = c.loop-i in
    c.stream_at.ensures ∙ ap stream_found (sym (w.invariant ∙ find_hit row_size dec_fixed (carries_for a.listens a.input a.rpi) a.n a.t.now w.i (omega arith) (sym c.carries_at.ensures ∙ c.if-carries_at.true)))

pub loop-i-preserved : goal.loop-i-preserved
loop-i-preserved c = let a = c.args in
    let w = c.loop-i in
    w.invariant ∙ find_miss row_size dec_fixed (carries_for a.listens a.input a.rpi) a.n a.t.now w.i (omega arith) (sym c.carries_at.ensures ∙ c.if-carries_at.false)

pub returns : goal.returns
returns c = let a = c.args in
    let w = c.loop-i in
    ap stream_found (sym (w.invariant ∙ find_ends row_size dec_fixed (carries_for a.listens a.input a.rpi) a.n a.t.now w.i (omega arith)))
