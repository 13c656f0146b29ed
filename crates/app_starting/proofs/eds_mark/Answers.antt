use Rattle.std.proofs.Common.{◌+◌, Bool, cond, ap, sym, eq-eqb, ne_eqb}
use Rattle.app_starting.proofs.eds_mark.Goals as goal

pub returns-then-flag-eq0 : goal.returns-then-flag-eq0
returns-then-flag-eq0 c = sym (ap (λ (b : Bool). cond b 0 (c.args.n + 1)) (eq-eqb c.args.flag 0 c.if-flag-eq0.true))

pub returns : goal.returns
returns c = sym (ap (λ (b : Bool). cond b 0 (c.args.n + 1)) (ne_eqb c.args.flag 0 c.if-flag-eq0.false))
