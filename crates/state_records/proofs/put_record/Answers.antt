use Rattle.std.proofs.Common.{ap, ◌∙◌}
use lib.Seq.{sets}
use Rattle.rules.specs.Events.{info_record}
use Rattle.state_records.proofs.put_record.Goals as goal

pub returns : goal.returns
returns c = let a = c.args in
    c.put_info.ensures ∙ ap (λ i. sets a.row.now 0 (info_record a.what i)) c.info_of.ensures
