-- The part of the roles that the checks of the table read.
use Rattle.std.specs.Prelude.{ℕ, List, ◌≡◌, refl, None}
use Rattle.rules.specs.declared.Fixed.{Fixed}
use Rattle.rules.specs.declared.Kind.{Kind}
use Rattle.rules.specs.declared.Roles.{Roles}
use Rattle.rules.specs.State.{Setup}
use Rattle.rules.specs.Checks.{owner_check}

abbrev pub roles_with : Kind → ℕ → ℕ → Roles
roles_with kind input output = record { kind = kind; input = input; output = output; config = None }

-- check 11 reads the kind and the output of the roles
pub owner_reads : (u : Setup) (x : Roles) (table : List Fixed) → owner_check u (roles_with x.kind 0 x.output) table ≡ owner_check u x table
unfolding owner_check
owner_reads u x table = refl
