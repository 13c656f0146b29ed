use Rattle.std.proofs.Common.{ap, ◌∙◌}
use Rattle.rules.specs.State.{Shape}
use Rattle.state_records.specs.Shapes.{shape_within, shape_past}
use Rattle.state_records.proofs.size_of.Goals as goal

pub returns-then-i-u8_at : goal.returns-then-i-u8_at
returns-then-i-u8_at c = c.size_at.ensures ∙ ap (λ (a : Shape). a.size) (shape_within c.args.r.now c.args.i c.u8_at.result c.u8_at.ensures c.if-i-u8_at.true)

pub returns-else-i-u8_at : goal.returns-else-i-u8_at
returns-else-i-u8_at c = ap (λ (a : Shape). a.size) (shape_past c.args.r.now c.args.i c.u8_at.result c.u8_at.ensures c.if-i-u8_at.false)
