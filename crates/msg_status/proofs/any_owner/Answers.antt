use Rattle.std.proofs.Common.{refl, sym, ◌∙◌, arith}
use Rattle.state_rules.specs.Rows.{dec_conn}
use Rattle.state_rules.specs.Places.{row_size}
use Rattle.state_searches.specs.Searches.{any_hit, any_miss, any_ends}
use Rattle.msg_status.specs.Status.{owner_in}
use Rattle.msg_status.proofs.any_owner.Goals as goal

pub loop-i-init : goal.loop-i-init
loop-i-init c = refl

pub returns-then-owner_at : goal.returns-then-owner_at
returns-then-owner_at c = let a = c.args in let w = c.loop-i in sym (w.invariant ∙ any_hit row_size dec_conn owner_in a.n a.r.now w.i (omega arith) (sym c.owner_at.ensures ∙ c.if-owner_at.true))

pub loop-i-preserved : goal.loop-i-preserved
loop-i-preserved c = let a = c.args in let w = c.loop-i in w.invariant ∙ any_miss row_size dec_conn owner_in a.n a.r.now w.i (omega arith) (sym c.owner_at.ensures ∙ c.if-owner_at.false)

pub returns : goal.returns
returns c = let a = c.args in let w = c.loop-i in sym (w.invariant ∙ any_ends row_size dec_conn owner_in a.n a.r.now w.i (omega arith))
