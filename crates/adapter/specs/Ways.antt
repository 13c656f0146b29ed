-- The two ways out of a C function: the state test fails, No. 1; else the call's outcome, by its number.
use Rattle.std.specs.Prelude.{ℕ, ◌≡◌}
use Rattle.std.proofs.Common.{ap, ◌∙◌, Result}
use Rattle.rules.specs.Answers.{outcome_number}
use Rattle.rules.specs.declared.No.{No}

-- what was answered, by its number
pub numbered : {B : Type 0} (r : ℕ) (o : Result ℕ No) (b : B) (x : ℕ × B) → r ≡ outcome_number o → (outcome_number o, b) ≡ x → (r, b) ≡ x
numbered r o b x e q = ap (λ (n : ℕ). (n, b)) e ∙ q
