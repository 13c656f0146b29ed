-- Nothing waits, no room, or the oldest record copied out and the ring's word written.
use Rattle.std.proofs.Common.{ℕ, ◌+◌, ◌*◌, ap, arith, take, drop}
use native.Mathlib.Nat.{add-sub_cancel_left}
use Rattle.state_rules.specs.Places.{events_at}
use Rattle.state_rules.specs.RowLaws.{byte_small}
use Rattle.app_queue.specs.Queue.{event_none, event_short, event_taken}
use Rattle.app_queue.proofs.next_event.Goals as goal

pub returns-then-n-lt1 : goal.returns-then-n-lt1
returns-then-n-lt1 c = event_none _ _ c.requires.test (λ i. omega (arith, c.slice_known-1.given i)) (omega (arith, c.events_waiting-n.ensures))

pub returns-then-out-lt32 : goal.returns-then-out-lt32
returns-then-out-lt32 c = event_short _ _ c.requires.test (λ i. omega (arith, c.slice_known-1.given i)) (omega (arith, c.events_waiting-n.ensures)) c.if-out-lt32.true

pub overflow_add-n-2 : goal.overflow_add-n-2
overflow_add-n-2 c = let b = byte_small c.faulty-fault.result in omega arith

pub returns : goal.returns
returns c = let s = c.args.s.now in
    let f : ℕ = c.first_slot-first.result in
    event_taken s _ c.requires.test (λ i. omega (arith, c.slice_known-1.given i)) (omega (arith, c.events_waiting-n.ensures)) c.if-out-lt32.false f _ _ _ _ _
    c.first_slot-first.ensures c.events_waiting-n.ensures c.faulty-fault.ensures
    (ap (λ (m : ℕ). take m (drop (events_at + f * 32) s)) (add-sub_cancel_left (events_at + f * 32) 32)) c.copy_in.ensures c.put_u32.ensures
