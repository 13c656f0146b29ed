use Rattle.std.proofs.Common.{◌-◌, sym, ◌∙◌, length, arith, rules}
use Rattle.wire_requests.specs.PlaceLaws.{data_inside}
use Rattle.state_rules.specs.Image.{view}
use Rattle.state_image.specs.StoreLaws.{mid_long}
use Rattle.msg_positions.specs.Positions.{dec_upload}
use Rattle.msg_answering.specs.Positions.{position_ok_lem, whole_tested, sized_tested}
use Rattle.msg_answering.specs.Replies.{reply_done, reply_alone, few}
use Rattle.msg_answering.specs.Ways.{object_lent, reply_for_lem, reply_short}
use Rattle.msg_answering.proofs.message.Goals as goal

pub slice_bounds-given-count : goal.slice_bounds-given-count
slice_bounds-given-count c = let h = data_inside c.args.message.now _ (sym c.in-Ok.is ∙ c.parse_request.ensures) in omega arith

pub slice_bounds-given-start : goal.slice_bounds-given-start
slice_bounds-given-start c = let h = data_inside c.args.message.now _ (sym c.in-Ok.is ∙ c.parse_request.ensures) in omega arith

pub of_object-told-requires : goal.of_object-told-requires
of_object-told-requires c = let out = c.args.out.now in
    let n = mid_long 4 (length out - 4) out (omega arith) in
    (c.requires.0, whole_tested c.args.s.now c.args.position.now c.requires.0.test (λ j. omega (arith, c.slice_known-1.given j)) c.requires.1, omega arith)

pub finish-requires-in-Ok : goal.finish-requires-in-Ok
finish-requires-in-Ok c = let s = c.args.s.now in (
  search rules,
  few _ c.args.out.now c.requires.2 _ _ _ _ (object_lent (view s) c.args.local c.args.mask c.in-Ok.request c.args.message.now (dec_upload c.args.position.now) _ _ c.of_object-told.ensures)
      (reply_short (view s) c.args.local c.args.mask c.args.message.now (dec_upload c.args.position.now) _ (sym c.parse_request.ensures ∙ c.in-Ok.is)
      (sized_tested s c.requires.0.test (λ j. omega (arith, c.shared_slice_known-1.given j))) (position_ok_lem (view s).setup c.args.position.now c.requires.1)),
)

pub returns-in-Err : goal.returns-in-Err
returns-in-Err c = let s = c.args.s.now in
    let w = whole_tested s c.args.position.now c.requires.0.test (λ j. omega (arith, c.slice_known-1.given j)) c.requires.1 in (
      reply_for_lem (view s) c.args.local c.args.mask c.args.message.now (dec_upload c.args.position.now) _ (sym c.parse_request.ensures ∙ c.in-Err.is) c.args.out.now _
          (reply_alone _ c.args.out.now c.requires.2 _ (dec_upload c.args.position.now) c.args.position.now _ _ w.again c.finish.ensures.0),
      c.finish.ensures.1,
    )

pub returns-in-Ok : goal.returns-in-Ok
returns-in-Ok c = let s = c.args.s.now in (
  reply_for_lem (view s) c.args.local c.args.mask c.args.message.now (dec_upload c.args.position.now) _ (sym c.parse_request.ensures ∙ c.in-Ok.is) c.args.out.now _
      (reply_done _ c.args.out.now c.requires.2 _ _ _ _ _ _
      (object_lent (view s) c.args.local c.args.mask c.in-Ok.request c.args.message.now (dec_upload c.args.position.now) _ _ c.of_object-told.ensures) c.finish-in-Ok.ensures.0),
  c.finish-in-Ok.ensures.1,
)
