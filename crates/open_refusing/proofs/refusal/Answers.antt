use Rattle.std.proofs.Common.{◌∙◌, arith}
use Rattle.std.proofs.lemmas.Result.{err_from_is_err_and}
use Rattle.wire_rules.specs.Replies.{open_refusal}
use Rattle.wire_replies.specs.ReplyLaws.{open_refusal_long}
use Rattle.open_refusing.specs.Refusals.{written_said, written_long, refused_with}
use Rattle.open_refusing.proofs.refusal.Goals as goal

pub returns-in_err-n : goal.returns-in_err-n
returns-in_err-n c = let a = c.args in
    let t = c.in_ok-o.o.triad in
    let p = err_from_is_err_and c.from_residual-in_err-n.result c.from_residual-in_err-n.ensures.1 in
    written_said (open_refusal t) a.out.now c.open_refusal.new.out c.open_refusal.result c.open_refusal.ensures _ (rw (p.1, p.2) c.in_err-n.ensures.value)
    ∙ refused_with a.service a.request.now a.out.now c.request_of.result c.request_of.ensures c.in_ok-o.o c.in_ok-o.ensures.value

pub overflow_cast-result : goal.overflow_cast-result
overflow_cast-result c =
    let t = c.in_ok-o.o.triad in
    let k = open_refusal_long t in
    let n = written_long (open_refusal t) c.args.out.now c.open_refusal.new.out c.open_refusal.result c.open_refusal.ensures c.in_ok-n.n c.in_ok-n.ensures.value in
    omega arith

pub returns : goal.returns
returns c = let a = c.args in
    let t = c.in_ok-o.o.triad in
    written_said (open_refusal t) a.out.now c.open_refusal.new.out c.open_refusal.result c.open_refusal.ensures _ c.in_ok-n.ensures.value
    ∙ refused_with a.service a.request.now a.out.now c.request_of.result c.request_of.ensures c.in_ok-o.o c.in_ok-o.ensures.value
