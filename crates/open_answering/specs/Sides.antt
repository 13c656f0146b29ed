-- The new connection as code makes it, and what its parts keep to.
use Rattle.std.specs.Prelude.{ℕ, ◌+◌, ◌-◌, ◌≤◌, ◌<◌, ◌^◌, Bool, true, false, ◌≡◌, eqb, Some, None, Option}
use Rattle.std.proofs.Math.Bool.{cond}
use Rattle.std.proofs.Math.Path.{ap, subst}
use Rattle.std.proofs.Common.{sym, arith}
use Rattle.wire_rules.specs.declared.ForwardOpen.{ForwardOpen}
use Rattle.rules.specs.declared.Origin.{Origin}
use Rattle.rules.specs.declared.Conn.{Conn}
use Rattle.rules.specs.declared.Plan.{Plan}
use Rattle.rules.specs.declared.Stream.{Stream}
use Rattle.rules.specs.Checks.{asks_multicast}
use Rattle.rules.specs.Opening.{after_id, point_dest, group_dest, side_of, first_due, side_at, new_fixed, new_heard, new_conn}
use Rattle.rules.specs.Opening
use Rattle.state_rules.specs.Rows.{of_due, RoleFits, RowFits}
use Rattle.open_answering.specs.declared.making.Side.{Side}

-- a side as the rules say it
abbrev pub side_in : Side → Opening.Side
side_in x = record { toid = x.toid; dest = x.dest; torpi = x.torpi; next = x.next }

-- ---- ids

cond_some : (b : Bool) (n : ℕ) → 0 < cond b 1 (n + 1)
cond_some true n = omega arith
cond_some false n = omega arith

-- an id is never 0
pub after_some : (n : ℕ) → 0 < after_id n
unfolding after_id
after_some n = cond_some (eqb n (2 ^ 32 - 1)) n

-- ---- sides

module _ (o : ForwardOpen) (g : Origin) (n : ℕ) where
  -- the next id is not 0
  pub side_some : 0 < n → (stream : Option Stream) → 0 < (side_of o g n stream).next
  unfolding side_of
  side_some h (Some x) = h
  side_some h None = go (asks_multicast o)
    where
      drawn : Opening.Side
      drawn = record { toid = record { 0 = n }; dest = group_dest g; torpi = o.to.rpi; next = after_id n }

      asked : Opening.Side
      asked = record { toid = o.toid; dest = point_dest g; torpi = o.to.rpi; next = n }

      go : (b : Bool) → 0 < (cond {A = Opening.Side} b drawn asked).next
      go true = after_some n
      go false = h

-- ---- the parts of the connection

-- a due time that a row can hold
pub due_small : (time : ℕ) (stream : Option Stream) → time < 9223372036854775808 → of_due (first_due time stream).due < 18446744073709551616
due_small time (Some x) h = omega arith
due_small time None h = omega arith

-- the plan's roles are the connection's
module _ (time : ℕ) (o : ForwardOpen) (g : Origin) (p : Plan) (n : ℕ) (c : Conn) (e : c ≡ new_conn time o g p n) where
  pub conn_input : p.input ≤ 31 → c.fixed.input ≤ 31
  unfolding new_conn new_fixed
  conn_input h = subst (λ (z : Conn). z.fixed.input ≤ 31) (sym e) h

  pub conn_fits : RoleFits p.kind p.output → RowFits c
  unfolding new_conn new_fixed
  conn_fits h = subst (λ (z : Conn). RowFits z) (sym e) h

pub conn_due : (time : ℕ) (o : ForwardOpen) (g : Origin) (p : Plan) (n : ℕ) (c : Conn) → c ≡ new_conn time o g p n → time < 9223372036854775808
    → of_due c.sent.due < 18446744073709551616
unfolding new_conn
conn_due time o g p n c e h = rw (ap (λ (z : Conn). z.sent) e) (due_small time p.stream h)
