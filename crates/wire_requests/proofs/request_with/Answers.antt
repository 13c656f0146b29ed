use Rattle.std.proofs.Common.{◌≡◌, arith, Ok}
use Rattle.std.proofs.lemmas.Grind.{common_steps}
use Rattle.wire_rules.specs.Requests.{first_attribute}
use Rattle.wire_requests.proofs.RequestLaws.{request_parsed}
use Rattle.wire_requests.proofs.request_with.Goals as goal

pub returns : goal.returns
returns c =
    let read : Ok c.in_ok-attribute.attribute ≡ first_attribute c.args.path.now = grind (arith, common_steps) in
    request_parsed _ _ _ _ _ read c.object_of.ensures
