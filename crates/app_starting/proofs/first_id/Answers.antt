use Rattle.std.proofs.Common.{◌+◌, ◌%◌, Bool, cond, ap, sym, eq-eqb, ne_eqb}
use Rattle.app_starting.proofs.first_id.Goals as goal

pub returns-then-seed-eq0 : goal.returns-then-seed-eq0
returns-then-seed-eq0 c = let n = c.args.seed in sym (ap (λ (b : Bool). cond b (n + 1) n) (eq-eqb (n % 2) 0 c.if-seed-eq0.true))

pub returns : goal.returns
returns c = let n = c.args.seed in sym (ap (λ (b : Bool). cond b (n + 1) n) (ne_eqb (n % 2) 0 c.if-seed-eq0.false))
