-- Each kind has its own number.
use Rattle.std.proofs.Common.{ℕ, eqb, ◌≡◌, ap, ◌∙◌}
use Rattle.rules.specs.declared.AssemblyKind.{AssemblyKind}
use Rattle.rules.specs.declared.AssemblyKind.TheVariants.{Input, Output, Config}
use Rattle.rules.specs.Host.{kind_test}
use Rattle.state_places.specs.Kinds.{number_of}
use Rattle.state_places.specs.PlaceLaws.{kind_input, kind_output, kind_config}
use Rattle.state_places.proofs.is_kind.Goals as goal

kind_is : (n : ℕ) (k : AssemblyKind) → eqb n (number_of k) ≡ kind_test n k
kind_is n Input = kind_input n
kind_is n Output = kind_output n
kind_is n Config = kind_config n

pub returns : goal.returns
returns c = ap (eqb c.args.kind) c.number_of.ensures ∙ kind_is c.args.kind c.args.k
