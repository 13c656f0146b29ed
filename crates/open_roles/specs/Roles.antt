-- What the points come to, as code holds it, in the rules' words.
use Rattle.std.specs.Prelude.{ℕ, cond, Option, Some, None, Result, Ok, Err}
use Rattle.wire_rules.specs.declared.ConnectionPath.{ConnectionPath}
use Rattle.rules.specs.declared.Kind.{Kind}
use Rattle.rules.specs.declared.Roles.{Roles}
use Rattle.rules.specs.declared.Stop.{Stop}
use Rattle.rules.specs.State.{Setup, is_output, is_config, is_owner}
use Rattle.rules.specs.Checks as checks

-- the roles where check 4 holds, or else those given
abbrev pub roles_or : Roles → Result Roles Stop → Roles
roles_or d (Ok x) = x
roles_or d (Err s) = d

-- an owner has an output, and for others there is nothing to find
abbrev pub output_of : Setup → Kind → ℕ → Option ℕ
output_of u kind point = cond (is_owner kind) (checks.place_of is_output u point) (Some 0)

abbrev pub config_of : Setup → ConnectionPath → Option ℕ
config_of u p = cond (checks.has_config p) (checks.place_of is_config u (checks.config_point p)) None
