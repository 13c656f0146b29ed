-- One law for each way out of the functions that decide.
use Rattle.std.specs.Prelude.{ℕ, ◌+◌, ◌≤◌, ◌<◌, Bool, true, false, not, ◌&&◌, ◌||◌, List, [], ◌∷◌, ◌≡◌, refl, eqb, leb, length}
use Rattle.std.specs.Bool.{beq}
use Rattle.std.proofs.Common.{ap, ap₂, sym, ◌∙◌, arith, eq-eqb, eqb-true, leb-true}
use Rattle.base_tables.specs.Ring.{by_cases}
use Rattle.base_copies.specs.Same.{Tells}
use Rattle.wire_rules.specs.Timeout.{timeout_of}
use Rattle.wire_numbers.specs.NumberLaws.{timeout_most}
use Rattle.rules.specs.Lists.{same}
use Rattle.rules.specs.State.{is_owner}
use Rattle.rules.specs.declared.Kind.{Kind}

pub differs_was : (c w r : Bool) → c ≡ false → w ≡ true → not r ≡ c || not (beq w r)
differs_was false true true e q = refl
differs_was false true false e q = refl
differs_was true w r e q = absurd (let z : ◌≡◌ {A = ℕ} 0 1 = cc in omega arith)
differs_was false false r e q = absurd (let z : ◌≡◌ {A = ℕ} 0 1 = cc in omega arith)

pub differs_was_not : (c w r : Bool) → c ≡ false → w ≡ false → r ≡ c || not (beq w r)
differs_was_not false false true e q = refl
differs_was_not false false false e q = refl
differs_was_not true w r e q = absurd (let z : ◌≡◌ {A = ℕ} 0 1 = cc in omega arith)
differs_was_not false true r e q = absurd (let z : ◌≡◌ {A = ℕ} 0 1 = cc in omega arith)

pub timeout_small : (rpi m : ℕ) → rpi < 4294967296 → timeout_of rpi m ≤ 2199023255040
timeout_small rpi m h = omega (arith, timeout_most rpi m)

-- ---- compare

same_self : (a : List ℕ) → same a a ≡ true
same_self [] = refl
same_self (x ∷ a) = ap₂ ◌&&◌ (eq-eqb x x refl) (same_self a)

and_left : (a b : Bool) → a && b ≡ true → a ≡ true
and_left true b e = refl
and_left false b e = e

and_right : (a b : Bool) → a && b ≡ true → b ≡ true
and_right true b e = e
and_right false b e = absurd (let z : ◌≡◌ {A = ℕ} 0 1 = cc in omega arith)

pub same_eq : (a b : List ℕ) → same a b ≡ true → a ≡ b
same_eq [] [] e = refl
same_eq [] (y ∷ b) e = absurd (let z : ◌≡◌ {A = ℕ} 0 1 = cc in omega arith)
same_eq (x ∷ a) [] e = absurd (let z : ◌≡◌ {A = ℕ} 0 1 = cc in omega arith)
same_eq (x ∷ a) (y ∷ b) e = ap₂ ◌∷◌ (eqb-true x y (and_left (eqb x y) (same a b) e)) (same_eq a b (and_right (eqb x y) (same a b) e))

pub told_same : (v : Bool) (a b : List ℕ) → Tells v (a ≡ b) → v ≡ same a b
told_same v a b t =
    by_cases (same a b)
    (λ e. t.1 (same_eq a b e) ∙ sym e)
    (λ f. by_cases v (λ e. let w : same a b ≡ true = ap (same a) (sym (t.0 e)) ∙ same_self a in let y : ◌≡◌ {A = ℕ} 0 1 = cc in absurd (omega arith)) (λ e. e ∙ sym f))

-- a payload with a CIP sequence has room for it
pub cip_inside : (k : Kind) (d : List ℕ) (b : Bool) → b ≡ is_owner k && leb 2 (length d) → b ≡ true → 2 ≤ length d
cip_inside k d b eb e = leb-true 2 (length d) (and_right (is_owner k) (leb 2 (length d)) (sym eb ∙ e))
