use Rattle.std.proofs.Common.{ℕ, subst}
use Rattle.conn_removal.specs.Turns.{Turns}
use Rattle.conn_removal.specs.Removals.{gone_at}
use Rattle.conn_ending.specs.Calls.{close_short, close_done}
use Rattle.conn_ending.proofs.close_at.Goals as goal

pub returns-then-out-lt10 : goal.returns-then-out-lt10
returns-then-out-lt10 c = let a = c.args in close_short a.i a.t a.s.now a.out.now c.if-out-lt10.true

pub returns : goal.returns
returns c = let a = c.args in
    let s = a.s.now in
    let s₁ = c.remove_conn.new.s in
    let closed : Turns s s₁ (gone_at 2 a.i) = subst (λ (n : ℕ). Turns s s₁ (gone_at n a.i)) c.number.ensures c.remove_conn.ensures.1 in
    close_done a.i a.t s a.out.now c.if-out-lt10.false s₁ c.close_reply.new.out c.close_reply.result closed c.close_reply.ensures
