-- The assembly's bytes in the state are its content, and its size is their number.
use Rattle.std.proofs.Common.{ℕ, ◌+◌, ◌*◌, List, ap, ◌∙◌, take, drop, arith}
use Rattle.std.proofs.lemmas.Bool.Decides.{nat_tests}
use native.Mathlib.Nat.{add-sub_cancel_left}
use Rattle.rules.specs.Objects.{assembly_attributes}
use Rattle.state_rules.specs.Places.{data_from}
use Rattle.app_answers.specs.Assemblies.{size_is, data_is}
use Rattle.msg_attributes.specs.Told.{told, wanted}
use Rattle.msg_attributes.specs.Values.{bytes_of_2}
use Rattle.msg_assembly.proofs.here.Goals as goal

pub returns-in-3 : goal.returns-in-3
unfolding told wanted assembly_attributes
returns-in-3 c = let s : List ℕ = c.args.s.now in let at : ℕ = data_from + c.args.i * 512 in
    let held = ap (λ (m : ℕ). take m (drop at s)) (add-sub_cancel_left at c.size_at-size.result ∙ c.size_at-size.ensures)
    ∙ data_is s c.requires.0.test (λ j. omega (arith, c.type_inv.s j)) c.args.i c.requires.1 in
    grind (arith, nat_tests)

pub returns-in-4 : goal.returns-in-4
unfolding told wanted assembly_attributes
returns-in-4 c =
    let long = size_is c.args.s.now c.requires.0.test (λ j. omega (arith, c.type_inv.s j)) c.args.i c.requires.1 in
    grind (arith, nat_tests, bytes_of_2)
