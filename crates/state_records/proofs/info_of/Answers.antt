use Rattle.std.proofs.Common.{ap, ◌∙◌}
use Rattle.state_records.specs.Shapes.{if_owner, told_is}
use Rattle.state_records.proofs.info_of.Goals as goal

pub returns : goal.returns
returns c = let a = c.args in
    told_is a.r.now a.f c.instance_of.result c.size_of.result c.owned_number.result c.owned_number-2.result
    c.instance_of.ensures c.size_of.ensures
    (c.owned_number.ensures ∙ ap (if_owner a.f.kind) c.instance_of-2.ensures)
    (c.owned_number-2.ensures ∙ ap (if_owner a.f.kind) c.size_of-2.ensures)
