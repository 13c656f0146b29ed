use Rattle.std.proofs.Common.{◌≡◌, ◌-◌, ◌+◌, ◌*◌, ◌/◌, arith, length}
use Rattle.base_copies.specs.Same.{part_differs, part_agrees, last_told, part_fits, parts_reach}
use Rattle.base_copies.proofs.same_parts.Goals as goal

pub returns-then-not-same_numbers : goal.returns-then-not-same_numbers
returns-then-not-same_numbers g c = let a = c.args in
    let w = c.loop-k in
    let r = c.same_numbers in
    part_differs a.s.now a.d.now a.at (g.row.W * w.k) g.row.W (omega (arith, part_fits (length a.d.now) g.row.W w.k c.loop-k-test.true)) r.result r.ensures c.if-not-same_numbers.true

pub loop-k-preserved : goal.loop-k-preserved
loop-k-preserved g c = let a = c.args in
    let w = c.loop-k in
    let r = c.same_numbers in
    rw (let e : g.row.W * (w.k + 1) ≡ g.row.W * w.k + g.row.W = omega arith in e)
    (part_agrees a.s.now a.d.now a.at (g.row.W * w.k) w.invariant g.row.W r.result r.ensures c.if-not-same_numbers.false)

pub returns : goal.returns
returns g c = let a = c.args in
    let w = c.loop-k in
    let r = c.same_numbers-2 in
    let reach = parts_reach (length a.d.now) g.row.W (omega arith) in
    let k : w.k ≡ (length a.d.now - 1) / g.row.W = omega arith in
    last_told a.s.now a.d.now a.at (g.row.W * w.k) w.invariant (length a.d.now - g.row.W) g.row.W (rw k reach) (omega arith) r.result r.ensures
