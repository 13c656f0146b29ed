-- An accepted open: what each step needs, and the steps together.
use Rattle.std.proofs.Common.{arith}
use Rattle.state_image.specs.Holds.{ready_tested}
use Rattle.open_answering.specs.Sides.{conn_due, conn_input, conn_fits}
use Rattle.open_answering.specs.AcceptLaws.{accept_short, side_here, next_some, accept_done}
use Rattle.open_answering.proofs.placing.accept.Goals as goal

pub returns-then-out-lt26 : goal.returns-then-out-lt26
returns-then-out-lt26 c = let a = c.args in accept_short a.time a.o a.g a.config.now a.p a.s.now a.out.now c.requires.0 (λ i. omega (arith, c.type_inv.s i)) c.if-out-lt26.true

pub u32_at-n-requires : goal.u32_at-n-requires
u32_at-n-requires c = let n = (ready_tested c.args.s.now c.requires.0).long in omega (arith, n)

pub new_conn-c-requires : goal.new_conn-c-requires
new_conn-c-requires c = let a = c.args in (
  c.requires.1,
  side_here a.time a.o a.g a.config.now a.p a.s.now a.out.now c.requires.0 (λ i. omega (arith, c.slice_known-1.given i)) c.u32_at-n.result c.after_id.result c.u32_at-n.ensures
      c.after_id.ensures c.side_of-side.result c.side_of-side.ensures,
)

pub effect-requires : goal.effect-requires
effect-requires c = let a = c.args in
    let n = c.u32_at-n.result in
    let x = c.new_conn-c in (
      ready_tested a.s.now c.requires.0,
      c.requires.2.conns,
      conn_due a.time a.o a.g a.p n x.result x.ensures c.requires.1,
      next_some a.time a.o a.g a.config.now a.p a.s.now a.out.now c.requires.0 (λ i. omega (arith, c.slice_known-1.given i)) n c.after_id.result c.u32_at-n.ensures
          c.after_id.ensures c.side_of-side.result c.side_of-side.ensures,
      c.requires.2.room,
      conn_input a.time a.o a.g a.p n x.result x.ensures c.requires.2.input,
      conn_fits a.time a.o a.g a.p n x.result x.ensures c.requires.2.role,
    )

pub returns : goal.returns
returns c = let a = c.args in
    accept_done a.time a.o a.g a.config.now a.p a.s.now a.out.now c.requires.0 (λ i. omega (arith, c.slice_known-1.given i)) c.u32_at-n.result c.after_id.result c.u32_at-n.ensures
    c.after_id.ensures c.side_of-side.result c.side_of-side.ensures c.if-out-lt26.false c.new_conn-c.result c.new_conn-c.ensures
    c.effect.new.s c.reply.new.out c.effect.ensures.1 c.requires.2.fits c.reply.ensures
    c.asks_multicast.result c.asks_multicast.ensures c.accepted_number.result c.accepted_number.ensures
