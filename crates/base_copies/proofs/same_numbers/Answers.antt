use Rattle.std.proofs.Common.{◌≡◌, ◌*◌, ◌+◌, arith}
use Rattle.base_copies.specs.Same.{number_more}
use Rattle.base_copies.proofs.same_numbers.Goals as goal

pub loop-i-preserved : goal.loop-i-preserved
loop-i-preserved g c = let a = c.args in
    let w = c.loop-i in
    let t = number_more a.s.now a.d.now (λ i. omega (arith, c.type_inv.s i)) (λ i. omega (arith, c.type_inv.d i)) a.at a.j (8 * w.i)
    c.u64_at.result c.u64_at-in-loop-i.result c.u64_at.ensures c.u64_at-in-loop-i.ensures (omega arith) (omega arith) w.same w.invariant in
    rw (let e : 8 * (w.i + 1) ≡ 8 * w.i + 8 = omega arith in e) t
