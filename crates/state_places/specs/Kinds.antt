-- The number that the rules name an assembly's kind by.
use Rattle.std.specs.Prelude.{ℕ}
use Rattle.rules.specs.declared.AssemblyKind.{AssemblyKind}
use Rattle.rules.specs.declared.AssemblyKind.TheVariants.{Input, Output, Config}

abbrev pub number_of : AssemblyKind → ℕ
number_of Input = 1
number_of Output = 2
number_of Config = 3
