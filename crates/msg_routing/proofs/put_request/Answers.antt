use Rattle.std.proofs.Common.{◌≡◌, arith}
use Rattle.std.proofs.lemmas.Grind.{common_steps}
use Rattle.base_cells.specs.Records.{of_bool}
use Rattle.rules.specs.Routing.{is_named, class_of, instance_of, has_attribute, attribute_of}
use Rattle.msg_routing.specs.Told.{request_none, request_all}
use Rattle.msg_routing.proofs.put_request.Goals as goal

pub returns-then-out-lt20 : goal.returns-then-out-lt20
returns-then-out-lt20 c = request_none _ _ (omega arith)

pub returns : goal.returns
returns c = let q = c.args.q in
    let named : of_bool c.is_some.result ≡ is_named q.object = grind (arith, common_steps) in
    let numbered : of_bool c.is_some-2.result ≡ has_attribute q.attribute = grind (arith, common_steps) in
    let class : c.map_or-class.result ≡ class_of q.object = grind (arith, common_steps) in
    let instance : c.map_or-instance.result ≡ instance_of q.object = grind (arith, common_steps) in
    let attribute : c.unwrap_or.result ≡ attribute_of q.attribute = grind (arith, common_steps) in
    request_all _ _ _ (omega arith) (cc)
