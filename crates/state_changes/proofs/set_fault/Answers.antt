-- The fault mark is written over the word's lowest bit; the rest of the word stays.
use Rattle.std.proofs.Common.{arith, ◌∙◌, ◌+◌, ◌*◌, ◌/◌}
use Rattle.base_cells.specs.Numbers.{put}
use Rattle.base_cells.specs.Records.{of_bool}
use Rattle.state_rules.specs.Places.{ring_at, ring_word_of}
use Rattle.state_rules.specs.RowLaws.{bit_small, byte_small}
use Rattle.state_image.specs.Kept.{kept_ring, byte_of}
use Rattle.state_image.specs.Changes.{fault_becomes}
use Rattle.state_changes.proofs.set_fault.Goals as goal

pub overflow_add-word : goal.overflow_add-word
overflow_add-word c = let b = byte_small c.args.b in omega arith

pub returns : goal.returns
returns c = let s = c.args.s.now in
    let b = c.args.b in
    let e = c.u32_at-word.ensures in
    let few = c.requires.events in
    let bit = bit_small b in
    rw (c.put_u32.ensures ∙ (λ j. put 4 s ring_at (e j / 2 * 2 + byte_of b j)))
    (kept_ring s c.requires (ring_word_of s / 2 * 2 + of_bool b) (omega arith), fault_becomes s b)
