use Rattle.std.proofs.Common.{arith, sym, ◌∙◌}
use Rattle.open_answering.specs.Plans.{planned_fit}
use Rattle.open_answering.specs.Calls.{path_stopped, path_planned}
use Rattle.open_answering.proofs.asking.open_path.Goals as goal

pub accept-requires : goal.accept-requires
accept-requires c = let a = c.args in (
  c.requires.0,
  c.requires.1,
  planned_fit a.s.now c.requires.0 a.o c.parse_path-answer.result c.in-Ok.p (sym c.verdict.ensures ∙ c.in-Ok.is) c.config_in.result.now c.config_in.ensures.1 (λ i. omega (arith, c.slice_known-1.given i)),
)

pub returns-in-Err : goal.returns-in-Err
returns-in-Err c = let a = c.args in
    path_stopped a.time a.o a.g a.path.now a.s.now a.out.now c.parse_path-answer.result c.parse_path-answer.ensures c.verdict.result c.verdict.ensures c.requires.0 (λ i. omega (arith, c.slice_known-1.given i)) c.in-Err.stop c.in-Err.is c.stop_number.result c.stop_number.ensures

pub returns-in-Ok : goal.returns-in-Ok
returns-in-Ok c = let a = c.args in
    path_planned a.time a.o a.g a.path.now a.s.now a.out.now c.parse_path-answer.result c.parse_path-answer.ensures c.verdict.result c.verdict.ensures c.in-Ok.p c.in-Ok.is c.config_in.result.now c.config_in.ensures.0 c.accept.result c.accept.new.s c.accept.new.out c.accept.ensures
