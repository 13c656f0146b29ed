use Rattle.std.proofs.Common.{ℕ, subst, arith, true}
use Rattle.rules.specs.Removal.{expired}
use Rattle.state_rules.specs.Places.{connections_of}
use Rattle.conn_removal.specs.Turns.{Turns, found_in, fewer_none, fewer_both, fewer_kept}
use Rattle.conn_removal.specs.Removals.{gone_at, ends_none, ends_one}
use Rattle.conn_ending.specs.Expiry.{turn_fault}
use Rattle.conn_ending.proofs.expire_one.Goals as goal

pub remove_conn-requires : goal.remove_conn-requires
remove_conn-requires c = let a = c.args in (c.requires, found_in (expired a.time) a.s.now c.u16_at-n.result c.find_expired.result c.u16_at-n.ensures c.find_expired.ensures c.in-Some.i c.in-Some.is)

pub returns-in_default : goal.returns-in_default
returns-in_default c = let a = c.args in (fewer_none a.s.now c.requires, ends_none a.time a.s.now c.u16_at-n.result c.find_expired.result c.u16_at-n.ensures c.find_expired.ensures c.in_default.is)

pub returns : goal.returns
returns c = let a = c.args in
    let s₁ = c.remove_conn.new.s in
    let s₂ = c.set_fault.new.s in
    let i = c.in-Some.i in
    let gone : Turns a.s.now s₁ (gone_at 3 i) = subst (λ (n : ℕ). Turns a.s.now s₁ (gone_at n i)) c.number.ensures c.remove_conn.ensures.1 in (
      fewer_both a.s.now s₁ s₂ c.remove_conn.ensures.0 (fewer_kept (connections_of s₁) s₁ s₂ c.set_fault.ensures.0 (omega arith)),
      ends_one a.time a.s.now c.u16_at-n.result c.find_expired.result c.u16_at-n.ensures c.find_expired.ensures i c.in-Some.is s₁ s₂ gone (turn_fault s₁ s₂ true c.set_fault.ensures.1),
    )
