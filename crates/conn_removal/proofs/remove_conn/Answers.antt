use Rattle.std.proofs.Common.{arith, ◌-◌, drop}
use Rattle.base_cells.specs.Back.{bytes_take, bytes_drop}
use Rattle.state_rules.specs.Places.{table_in, table_size, connections_of}
use Rattle.conn_removal.specs.Turns.{fewer_both, fewer_kept, turn_gone}
use Rattle.conn_removal.specs.Hands.{sent_small}
use Rattle.conn_removal.specs.Removals.{goes}
use Rattle.conn_removal.proofs.remove_conn.Goals as goal

pub finish-requires : goal.finish-requires
finish-requires c = let a = c.args in
    let s = a.s.now in (
      c.remove_row.ensures.0.ready,
      sent_small (table_in s) a.i c.sent_at-x.result (bytes_take table_size (drop 256 s) (bytes_drop 256 s (λ k. omega (arith, c.slice_known-1.given k)))) c.sent_at-x.ensures,
    )

pub returns : goal.returns
returns c = let a = c.args in
    let s = a.s.now in
    let s₁ = c.remove_row.new.s in
    let s₂ = c.finish.new.s in (
      fewer_both s s₁ s₂ (fewer_kept (connections_of s - 1) s s₁ c.remove_row.ensures.0 (omega arith)) c.finish.ensures.0,
      goes s s₁ s₂ a.what a.i c.fixed_at-f.result c.sent_at-x.result c.requires.1 c.fixed_at-f.ensures c.sent_at-x.ensures (turn_gone s s₁ a.i c.remove_row.ensures.1) c.finish.ensures.1,
    )
