-- The record goes into the slot behind the last, or over the oldest; then the ring's word is written.
use Rattle.std.proofs.Common.{arith, ap, ◌∙◌, ℕ, ◌+◌, ◌*◌, ◌/◌, ◌%◌, List}
use Rattle.base_cells.specs.Numbers.{put}
use Rattle.state_rules.specs.Places.{events_at, ring_at}
use Rattle.state_image.specs.Kept.{kept_pushed}
use Rattle.state_image.specs.Changes.{push_room, push_full}
use Rattle.state_changes.proofs.push_event.Goals as goal

pub returns-then-n-lt1024 : goal.returns-then-n-lt1024
returns-then-n-lt1024 c = let s = c.args.s.now in
    let e = c.args.e.now in
    let w : ℕ = c.u32_at-word.result in
    rw (c.put_u32.ensures ∙ ap (λ (z : List ℕ). put 4 z ring_at (w + 2048)) c.copy_in.ensures) (
      kept_pushed s c.requires.0 (events_at + ((w / 2 % 1024 + w / 2048) % 1024) * 32) e (w + 2048) (omega arith) (omega arith),
      push_room s e c.requires.1 w c.u32_at-word.ensures (omega arith),
    )

pub returns : goal.returns
returns c = let s = c.args.s.now in
    let e = c.args.e.now in
    let w : ℕ = c.u32_at-word.result in
    let v : ℕ = w / 2048 * 2048 + (w / 2 % 1024 + 1) % 1024 * 2 + w % 2 in
    let few = c.requires.0.events in
    let word = c.u32_at-word.ensures in
    rw (c.put_u32-2.ensures ∙ ap (λ (z : List ℕ). put 4 z ring_at v) c.copy_in-2.ensures) (
      kept_pushed s c.requires.0 (events_at + (w / 2 % 1024) * 32) e v (omega arith) (omega arith),
      push_full s e c.requires.1 w word (omega arith),
    )
