use Rattle.std.proofs.Common.{sym, ◌∙◌, rules}
use Rattle.wire_requests.proofs.RequestLaws.{class_then, class_other}
use Rattle.wire_requests.proofs.in_class.Goals as goal

pub returns-in-Segment-Instance-default : goal.returns-in-Segment-Instance-default
returns-in-Segment-Instance-default c =
    let arm = c.in-Segment-Instance-default in
    class_then _ _ _ _ _ _ (sym arm.is ∙ c.next_segment.ensures) (λ m a. rw arm.seg-is)

pub returns-in-Segment-Attribute-default : goal.returns-in-Segment-Attribute-default
returns-in-Segment-Attribute-default c =
    let arm = c.in-Segment-Attribute-default in
    class_then _ _ _ _ _ _ (sym arm.is ∙ c.next_segment.ensures) (λ m a. rw arm.seg-is (c.class_alone.ensures m a))

pub returns-in_default : goal.returns-in_default
returns-in_default c = class_then _ _ _ _ _ _ (sym c.in_default.is ∙ c.next_segment.ensures) (λ m a. class_other c.args.class c.in_default.field-0 m (search rules))
