use Rattle.std.proofs.Common.{sym, ◌∙◌, rules}
use Rattle.wire_requests.proofs.RequestLaws.{object_then, object_other}
use Rattle.wire_requests.proofs.object_of.Goals as goal

pub returns-in-Segment-Class-default : goal.returns-in-Segment-Class-default
returns-in-Segment-Class-default c =
    let arm = c.in-Segment-Class-default in
    object_then _ _ _ _ (sym arm.is ∙ c.next_segment.ensures) (λ m a. rw arm.seg-is (c.in_class.ensures m a))

pub returns-in_default : goal.returns-in_default
returns-in_default c = object_then _ _ _ _ (sym c.in_default.is ∙ c.next_segment.ensures) (λ m a. object_other c.in_default.field-0 m (search rules))
