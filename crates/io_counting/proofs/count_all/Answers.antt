use Rattle.std.proofs.Common.{◌≡◌, refl, arith}
use Rattle.state_rules.specs.Places.{max_late_of}
use Rattle.io_counting.specs.CountLaws.{tally_start, tally_turn, tally_end}
use Rattle.io_counting.proofs.count_all.Goals as goal

pub u16_at-n-requires : goal.u16_at-n-requires
u16_at-n-requires c = let e = c.requires.0.long in omega arith

pub late_limit-limit-requires : goal.late_limit-limit-requires
late_limit-limit-requires c = let e = c.requires.0.long in omega arith

pub u64_at-requires : goal.u64_at-requires
u64_at-requires c = let e = c.requires.0.long in omega arith

pub loop-i-init : goal.loop-i-init
loop-i-init c = let a = c.args in (
  omega arith,
  omega arith,
  omega arith,
  c.u16_at-n.ensures,
  (let e = c.requires.0.conns in let f = c.u16_at-n.ensures in omega arith),
  tally_start a.time c.late_limit-limit.result (max_late_of a.s.now) a.s.now c.u64_at.result c.u64_at.ensures,
)

pub count_row-k-requires : goal.count_row-k-requires
count_row-k-requires c = let w = c.loop-i.invariant in
    let p = c.requires in
    (p.0, p.1, omega (arith, w.3), omega (arith, w.0, w.4), omega (arith, w.1, w.4), omega (arith, w.2, w.4))

pub loop-i-preserved : goal.loop-i-preserved
loop-i-preserved c = let w = c.loop-i in
    let a = c.args in
    let q = c.count_row-k.ensures in (
      omega (arith, q.0, w.invariant.0),
      omega (arith, q.1, w.invariant.1),
      omega (arith, q.2, w.invariant.2),
      w.invariant.3,
      w.invariant.4,
      tally_turn a.time c.late_limit-limit.result (max_late_of a.s.now) a.s.now w.i w.k c.count_row-k.result (omega (arith, w.invariant.3)) w.invariant.5 q.3,
    )

pub returns : goal.returns
returns c = let w = c.loop-i in
    let a = c.args in
    let r : max_late_of a.s.now ≡ max_late_of a.s.now = refl in (
      omega (arith, w.invariant.0, w.invariant.4),
      tally_end a.time c.late_limit-limit.result (max_late_of a.s.now) w.i a.s.now w.k c.late_limit-limit.ensures r (omega (arith, w.invariant.3)) w.invariant.5,
    )
