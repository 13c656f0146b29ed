use Rattle.std.proofs.Common.{arith, ℕ, ◌≤◌, ◌+◌, ◌-◌, ◌≡◌, ap, sym, ◌∙◌, length, take, drop}
use Rattle.state_image.specs.Kept.{kept_none}
use Rattle.io_producing.specs.RowLaws.{send_none, send_short, send_some}
use Rattle.io_producing.proofs.send_row.Goals as goal

pub returns-then-not-is_due : goal.returns-then-not-is_due
returns-then-not-is_due c = let a = c.args in
    let p = c.requires in
    let b = c.is_due in (
      (let q = p.3 in omega arith),
      kept_none a.s.now p.0,
      send_none a.time a.i a.s.now p.2 c.sent_at-x.result c.sent_at-x.ensures b.result b.ensures c.if-not-is_due.true a.at a.out.now,
    )

pub returns-then-out-at : goal.returns-then-out-at
returns-then-out-at c = let a = c.args in
    let p = c.requires in
    let x = c.sent_at-x in
    let b = c.is_due in
    let f = c.fixed_at-f in
    let d = c.data_of-p in (
      (let q = p.3 in omega arith),
      kept_none a.s.now p.0,
      send_short a.time a.i a.s.now p.2 x.result x.ensures b.result b.ensures c.if-not-is_due.false f.result f.ensures
          d.result.at d.result.size d.ensures.0 p.0.long d.ensures.2 a.at a.out.now a.out.now a.s.now 0 p.3 c.if-out-at.true,
    )

pub step-y-requires : goal.step-y-requires
step-y-requires c = (sym c.is_due.ensures ∙ c.if-not-is_due.false, c.requires.4)

pub slice_bounds-write_packet-end-2 : goal.slice_bounds-write_packet-end-2
slice_bounds-write_packet-end-2 c = let q = c.data_of-p.ensures.0 in let n = c.requires.0.long in omega arith

pub put_sent-requires : goal.put_sent-requires
put_sent-requires c = (c.requires.0, c.requires.2, c.step-y.ensures.1)

pub returns : goal.returns
returns c = let a = c.args in
    let p = c.requires in
    let x = c.sent_at-x in
    let b = c.is_due in
    let f = c.fixed_at-f in
    let d = c.data_of-p in
    let y = c.step-y in
    let o = c.write_packet in
    let at' : ℕ = d.result.at in
    let n : ℕ = d.result.size in
    let k : at' + n - at' ≡ n = omega arith in
    let w : 33 + n ≤ length a.out.now - a.at = c.if-out-at.false in (
      (let q = p.3 in omega arith),
      c.put_sent.ensures.0,
      send_some a.time a.i a.s.now p.2 x.result x.ensures b.result b.ensures c.if-not-is_due.false f.result f.ensures
          at' n d.ensures.0 p.0.long d.ensures.2 a.at a.out.now o.new.o p.3 w y.result y.ensures.0
          (take (at' + n - at') (drop at' a.s.now)) (ap (λ (m : ℕ). take m (drop at' a.s.now)) k) o.ensures c.put_sent.new.s c.put_sent.ensures.1,
    )
