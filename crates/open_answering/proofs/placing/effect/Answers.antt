-- The connection, its data and the fault mark, one after the other.
use Rattle.state_rules.specs.Places.{connections_of}
use Rattle.std.proofs.Common.{◌+◌}
use Rattle.open_answering.specs.StepLaws.{room_kept, open_kept, open_done}
use Rattle.open_answering.proofs.placing.effect.Goals as goal

pub place-requires : goal.place-requires
place-requires c = let q = c.requires in (q.0, q.1, q.2, q.3, q.5, q.6)

pub store-requires : goal.store-requires
store-requires c = let a = c.args in let k = c.place.ensures.0 in (k.ready, room_kept a.stores a.config.now a.s.now (connections_of a.s.now + 1) c.place.new.s k c.requires.4)

pub returns : goal.returns
returns c = let a = c.args in
    let s = a.s.now in
    let s₁ = c.place.new.s in
    let s₂ = c.store.new.s in
    let s₃ = c.set_fault.new.s in (
      open_kept a.c a.next a.stores a.config.now s s₁ s₂ s₃ c.place.ensures.0 c.store.ensures.0 c.set_fault.ensures.0,
      open_done a.c a.next a.stores a.config.now s s₁ s₂ s₃ c.place.ensures.1 c.store.ensures.1 c.set_fault.ensures.1,
    )
