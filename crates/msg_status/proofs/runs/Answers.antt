-- A place past the list is not in run; else the mark says it.
use Rattle.std.proofs.Common.{◌≡◌, ◌∙◌, false, nat_lt, arith}
use Rattle.std.proofs.lemmas.Bool.Decides.{nat_tests}
use Rattle.msg_status.specs.Status.{run_past, run_at}
use Rattle.msg_status.proofs.runs.Goals as goal

pub returns-then-i-n : goal.returns-then-i-n
returns-then-i-n c = c.runs.ensures ∙ run_at c.args.s.now c.requires.test (λ j. omega (arith, c.type_inv.s j)) c.args.i (omega arith)

pub returns-else-i-n : goal.returns-else-i-n
returns-else-i-n c =
    let past : nat_lt c.args.i c.u8_at-n.result ≡ false = grind (arith, nat_tests) in
    past ∙ run_past c.args.s.now c.requires.test (λ j. omega (arith, c.type_inv.s j)) c.args.i (omega arith)
