-- The first of the stream is found, its row goes, and it is told as closed.
use Rattle.std.proofs.Common.{ℕ, subst, arith, rules}
use Rattle.rules.specs.Removal.{in_stream}
use Rattle.state_image.specs.Holds.{Becomes}
use Rattle.state_events.specs.Pushes.{told}
use Rattle.conn_removal.specs.Turns.{found_in, turn_gone, turn_told}
use Rattle.conn_removal.specs.Listeners.{dropped_none, dropped_one, closes_none, closes_one}
use Rattle.conn_removal.proofs.close_first.Goals as goal

pub fixed_at-f-requires : goal.fixed_at-f-requires
fixed_at-f-requires c = let a = c.args in
    let p = found_in (in_stream a.id) a.s.now c.u16_at-n.result c.find_stream.result c.u16_at-n.ensures c.find_stream.ensures c.in-Some.j c.in-Some.is in
    let k = c.requires.conns in
    (omega arith, search rules)

pub remove_row-requires : goal.remove_row-requires
remove_row-requires c = let a = c.args in (
  c.requires,
  found_in (in_stream a.id) a.s.now c.u16_at-n.result c.find_stream.result c.u16_at-n.ensures c.find_stream.ensures
      c.in-Some.j c.in-Some.is,
)

pub returns-in_default : goal.returns-in_default
returns-in_default c = let a = c.args in (
  dropped_none a.s.now c.requires,
  closes_none a.id a.s.now c.u16_at-n.result c.find_stream.result c.u16_at-n.ensures
      c.find_stream.ensures c.in_default.is,
)

pub returns : goal.returns
returns c = let a = c.args in
    let s₁ = c.remove_row.new.s in
    let s₂ = c.tell.new.s in
    let f = c.fixed_at-f.result in
    let closed : Becomes s₁ s₂ (told 2 f) = subst (λ (n : ℕ). Becomes s₁ s₂ (told n f)) c.number.ensures c.tell.ensures.1 in (
      dropped_one a.id a.s.now c.u16_at-n.result c.find_stream.result c.u16_at-n.ensures c.find_stream.ensures c.in-Some.j
          c.in-Some.is s₁ s₂ c.remove_row.ensures.0 c.tell.ensures.0,
      closes_one a.id a.s.now c.u16_at-n.result c.find_stream.result c.u16_at-n.ensures c.find_stream.ensures c.in-Some.j
          c.in-Some.is c.fixed_at-f.result c.fixed_at-f.ensures s₁ s₂ (turn_gone a.s.now s₁ c.in-Some.j c.remove_row.ensures.1)
          (turn_told s₁ s₂ 2 f closed),
    )
