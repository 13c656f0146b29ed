-- The sum as code takes it, and a step by the first byte given.
use Prim.Native.Nat.{ℕ, ◌+◌}
use Rattle.std.specs.Prelude.{None, Option, Some, slice_get}
use mathlib.Core.List.{List, [], ◌∷◌}
use mathlib.Core.Path.{◌≡◌, refl, ap, ◌∙◌}
use Rattle.std.specs.List as List
use Rattle.std.proofs.lemmas.List.Sums.{sum_by-cons}
use Rattle.base_cells.specs.Records.{sum}
use Rattle.rules.specs.Attributes.{Outcome, Gives, Fails}
use Rattle.rules.specs.declared.objects.Fault.TheVariants.{NotEnoughData}
use Rattle.rules.specs.Upload.{clamped, started, initiate_reply, initiate, transfer_at, transfer}
use Rattle.rules.specs.declared.objects.Position.{Position}

-- ---- the sum, as code takes it and as the rule says it

pub plain_sum : (l : List ℕ) → List.sum l ≡ sum l
unfolding sum
plain_sum [] = refl
plain_sum (x ∷ l) = sum_by-cons (λ (n : ℕ). n) x l ∙ ap (λ (n : ℕ). x + n) (plain_sum l)

-- ---- a step, by the first byte given

abbrev pub initiate_by : ℕ → List ℕ → Option Position → Option ℕ → Outcome × Option Position
initiate_by limit eds up None = (Fails NotEnoughData, up)
initiate_by limit eds up (Some wanted) = (Gives (initiate_reply eds (clamped limit wanted)), Some (started (clamped limit wanted)))

pub initiate_first : (limit : ℕ) (eds : List ℕ) (up : Option Position) (given : List ℕ) → initiate limit eds up given ≡ initiate_by limit eds up (slice_get given 0)
unfolding initiate
initiate_first limit eds up [] = refl
initiate_first limit eds up (wanted ∷ rest) = refl

abbrev pub transfer_by : List ℕ → Option Position → Option ℕ → Outcome × Option Position
transfer_by eds up None = (Fails NotEnoughData, up)
transfer_by eds up (Some number) = transfer_at eds number up

pub transfer_first : (eds : List ℕ) (up : Option Position) (given : List ℕ) → transfer eds up given ≡ transfer_by eds up (slice_get given 0)
unfolding transfer
transfer_first eds up [] = refl
transfer_first eds up (number ∷ rest) = refl
