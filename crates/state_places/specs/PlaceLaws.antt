-- An assembly's kind and instance against what is looked for, and what was found.
use Rattle.std.specs.Prelude.{ℕ, zero, suc, ◌<◌, Bool, true, false, ◌&&◌, List, ◌≡◌, refl, eqb, Option, Some}
use Rattle.std.proofs.Common.{ap, sym, subst, ◌∙◌, arith, ne_eqb}
use Rattle.rules.specs.Lists.{place}
use Rattle.rules.specs.declared.AssemblyKind.{AssemblyKind}
use Rattle.rules.specs.declared.AssemblyKind.TheVariants.{Input, Output, Config}
use Rattle.rules.specs.State.{Shape, no_shape}
use Rattle.rules.specs.Checks.{is_at, place_of}
use Rattle.rules.specs.Host.{kind_test}
use Rattle.state_rules.specs.Places.{setup_in, assemblies_of}
use Rattle.state_rules.specs.Setups.{setup_of, shapes_of}
use Rattle.state_rules.specs.SetupLaws.{length_shapes}
use Rattle.state_image.specs.TestLaws.{assemblies_in}
use Rattle.state_searches.specs.Searches.{place_in_lem}

pub kind_input : (n : ℕ) → eqb n 1 ≡ kind_test n Input
kind_input zero = refl
kind_input (suc zero) = refl
kind_input (suc (suc zero)) = refl
kind_input (suc (suc (suc zero))) = refl
kind_input (suc (suc (suc (suc n)))) = ne_eqb (suc (suc (suc (suc n)))) 1 (λ e. omega arith)

pub kind_output : (n : ℕ) → eqb n 2 ≡ kind_test n Output
kind_output zero = refl
kind_output (suc zero) = refl
kind_output (suc (suc zero)) = refl
kind_output (suc (suc (suc zero))) = refl
kind_output (suc (suc (suc (suc n)))) = ne_eqb (suc (suc (suc (suc n)))) 2 (λ e. omega arith)

pub kind_config : (n : ℕ) → eqb n 3 ≡ kind_test n Config
kind_config zero = refl
kind_config (suc zero) = refl
kind_config (suc (suc zero)) = refl
kind_config (suc (suc (suc zero))) = refl
kind_config (suc (suc (suc (suc n)))) = ne_eqb (suc (suc (suc (suc n)))) 3 (λ e. omega arith)

pub at_not : (kind n : ℕ) (a : Shape) (k : AssemblyKind) (b : Bool) → k ≡ a.kind → b ≡ kind_test kind k → b ≡ false → false ≡ is_at (kind_test kind) n a
at_not kind n a k b ek eb e =
    sym (ap (λ (x : Bool). x && eqb a.instance n) (ap (kind_test kind) (sym ek) ∙ sym eb ∙ e))

pub at_rest : (kind n m : ℕ) (a : Shape) (k : AssemblyKind) (b : Bool) → k ≡ a.kind → b ≡ kind_test kind k → b ≡ true → m ≡ a.instance
    → eqb m n ≡ is_at (kind_test kind) n a
at_rest kind n m a k b ek eb e em =
    ap (λ (x : ℕ). eqb x n) em ∙ sym (ap (λ (x : Bool). x && eqb a.instance n) (ap (kind_test kind) (sym ek) ∙ sym eb ∙ e))

-- what was found in the setup's region is one of its assemblies
pub found_in : (s : List ℕ) (p : Shape → Bool) (x : Option ℕ) → x ≡ place p (shapes_of (setup_in s))
    → (i : ℕ) → x ≡ Some i → i < assemblies_of s
found_in s p x e i q =
    let a = assemblies_in s in
    let m = length_shapes (setup_in s) in
    let h = place_in_lem p no_shape (shapes_of (setup_in s)) i (sym e ∙ q) in
    omega arith

-- and the rules' place
pub found_is : (s : List ℕ) (kind n : ℕ) (x : Option ℕ) → x ≡ place (is_at (kind_test kind) n) (shapes_of (setup_in s))
    → place_of (kind_test kind) (setup_of s) n ≡ x
unfolding place_of setup_of
found_is s kind n x e = sym e

-- also where the kind was named by a number that is the rules' number
pub found_as : (s : List ℕ) (k kind n : ℕ) (x : Option ℕ) → k ≡ kind → x ≡ place (is_at (kind_test k) n) (shapes_of (setup_in s))
    → place_of (kind_test kind) (setup_of s) n ≡ x
found_as s k kind n x ek e = subst (λ (m : ℕ). place_of (kind_test m) (setup_of s) n ≡ x) ek (found_is s k n x e)
