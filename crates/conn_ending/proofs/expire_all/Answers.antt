-- None has expired, and nothing goes; or those that have go one after the other.
use Rattle.std.proofs.Common.{sym, ◌∙◌}
use Rattle.conn_removal.specs.Turns.{fewer_none}
use Rattle.conn_ending.specs.Expiry.{none_expired}
use Rattle.conn_ending.proofs.expire_all.Goals as goal

pub returns-then-not-any_expired : goal.returns-then-not-any_expired
returns-then-not-any_expired c = let a = c.args in (
  fewer_none a.s.now c.requires,
  none_expired a.time c.u16_at-n.result a.s.now c.u16_at-n.ensures (sym c.any_expired.ensures ∙ c.if-not-any_expired.true),
)

pub returns : goal.returns
returns c = c.expire_some.ensures
