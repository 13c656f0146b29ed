-- The mark that stands there is read, and its two bits are written over it.
use Rattle.std.proofs.Common.{arith, ◌∙◌, ◌+◌, ◌*◌, ◌/◌}
use Rattle.base_cells.specs.Numbers.{put}
use Rattle.state_rules.specs.Places.{marks_at, mark_at}
use Rattle.state_rules.specs.RowLaws.{byte_small}
use Rattle.state_rules.specs.Bits.{mark_over}
use Rattle.state_image.specs.Kept.{kept_put, byte_of}
use Rattle.state_image.specs.Changes.{mark_becomes}
use Rattle.state_changes.proofs.put_mark.Goals as goal

pub overflow_mul-notified : goal.overflow_mul-notified
overflow_mul-notified c = let b = byte_small c.args.notified in omega arith

pub overflow_add-run : goal.overflow_add-run
overflow_add-run c = let a = byte_small c.args.run in let b = byte_small c.args.notified in omega arith

pub overflow_add-run-2 : goal.overflow_add-run-2
overflow_add-run-2 c = let a = byte_small c.args.run in let b = byte_small c.args.notified in omega arith

pub returns : goal.returns
returns c = let s = c.args.s.now in
    let i = c.args.i in
    let run = c.args.run in
    let notified = c.args.notified in
    let e = c.u8_at-old.ensures in
    rw (c.put_u8.ensures ∙ (λ j. put 1 s (marks_at + i) (byte_of run j + 2 * byte_of notified j + 4 * (e j / 4))))
    (kept_put s c.requires.0 1 (marks_at + i) (mark_over run notified (mark_at s i)) (omega arith), mark_becomes s i run notified c.requires.1)
