use Rattle.std.proofs.Common.{sym, ◌∙◌, arith}
use Rattle.state_rules.specs.Places.{table_in, row_size, connections_of}
use Rattle.state_rules.specs.Rows.{dec_conn}
use Rattle.state_rules.specs.Image.{view}
use Rattle.state_searches.specs.Searches.{any_hit, any_miss, any_ends}
use Rattle.msg_status.specs.Status.{runs_in, running_rows}
use Rattle.msg_status.proofs.is_running.Goals as goal

pub loop-i-init : goal.loop-i-init
loop-i-init c = running_rows c.args.s.now

pub running_at-requires : goal.running_at-requires
running_at-requires c = let e = c.u16_at-n.ensures in (c.requires, omega arith)

pub returns-then-running_at : goal.returns-then-running_at
returns-then-running_at c = let s = c.args.s.now in let w = c.loop-i in let e = c.u16_at-n.ensures in sym (w.invariant ∙ any_hit row_size dec_conn (runs_in (view s)) (connections_of s) (table_in s) w.i (omega arith) (sym c.running_at.ensures ∙ c.if-running_at.true))

pub loop-i-preserved : goal.loop-i-preserved
loop-i-preserved c = let s = c.args.s.now in let w = c.loop-i in let e = c.u16_at-n.ensures in w.invariant ∙ any_miss row_size dec_conn (runs_in (view s)) (connections_of s) (table_in s) w.i (omega arith) (sym c.running_at.ensures ∙ c.if-running_at.false)

pub returns : goal.returns
returns c = let s = c.args.s.now in let w = c.loop-i in let e = c.u16_at-n.ensures in sym (w.invariant ∙ any_ends row_size dec_conn (runs_in (view s)) (connections_of s) (table_in s) w.i (omega arith))
