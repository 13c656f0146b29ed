-- The next id, the row and the event, one after the other, are the new connection placed.
use Rattle.std.proofs.Common.{ℕ, subst}
use Rattle.state_image.specs.Holds.{Becomes}
use Rattle.state_events.specs.Pushes.{told}
use Rattle.open_answering.specs.StepLaws.{place_kept, place_done}
use Rattle.open_answering.proofs.placing.place.Goals as goal

pub returns : goal.returns
returns c = let a = c.args in
    let s = a.s.now in
    let s₁ = c.set_next_id.new.s in
    let s₂ = c.add_row.new.s in
    let s₃ = c.tell.new.s in
    let opened : Becomes s₂ s₃ (told 1 a.c.fixed) = subst (λ (n : ℕ). Becomes s₂ s₃ (told n a.c.fixed)) c.number.ensures c.tell.ensures.1 in (
      place_kept a.c a.next s s₁ s₂ s₃ c.set_next_id.ensures.0 c.add_row.ensures.0 c.tell.ensures.0,
      place_done a.c a.next s s₁ s₂ s₃ c.requires.1 c.requires.3 c.requires.5 c.set_next_id.ensures.1 c.add_row.ensures.1 opened,
    )
