-- What a search along the rows answers.
use Rattle.std.specs.Prelude.{ℕ, suc, Bool, true, false, cond, ◌||◌, List, [], ◌∷◌, ◌≡◌, refl, get_or, Option, Some, None}
use Rattle.std.proofs.Common.{ap, sym, ◌∙◌, arith}
use Rattle.rules_laws.specs.ListLaws.{by_cases, clash, find_any, none_found, none_is}
use Rattle.rules.specs.Lists.{maybe, find, place, any}
use Rattle.state_searches.specs.Searches.{find_at, place_passes}

-- a place, or none, says whether any passes
module _ {A : Type 0} (p : A → Bool) where
  pub place_any : (d : A) (xs : List A) (i : ℕ) → place p xs ≡ Some i → any p xs ≡ true
  place_any d xs i e = find_any p p (get_or xs i d) xs (find_at p d xs i e) (place_passes p d xs i e)

  behind_none : (o : Option ℕ) → maybe None (λ j. Some (suc j)) o ≡ None → o ≡ None
  behind_none None e = refl
  behind_none (Some j) e = absurd (let z : ◌≡◌ {A = ℕ} 0 1 = cc in omega arith)

  pub place_none : (xs : List A) → place p xs ≡ None → find p xs ≡ None
  place_none [] e = refl
  place_none (x ∷ xs) e =
      let k : Bool → Option ℕ = λ b. cond b (Some 0) (maybe None (λ j. Some (suc j)) (place p xs)) in
      by_cases (p x)
      (λ t. let q : ◌≡◌ {A = Option ℕ} (Some 0) None = ap k (sym t) ∙ e in absurd (let z : ◌≡◌ {A = ℕ} 0 1 = cc in omega arith))
      (λ t. ap (λ (b : Bool). cond b (Some x) (find p xs)) t ∙ place_none xs (behind_none (place p xs) (ap k (sym t) ∙ e)))

  pub place_never : (xs : List A) → place p xs ≡ None → any p xs ≡ false
  place_never xs e = none_is p xs (none_found p xs (place_none xs e))

  pub never_place : (xs : List A) → any p xs ≡ false → place p xs ≡ None
  never_place [] e = refl
  never_place (x ∷ xs) e =
      by_cases (p x)
      (λ t. clash true refl (ap (λ (b : Bool). b || any p xs) (sym t) ∙ e))
      (λ t. ap (λ (b : Bool). cond b (Some 0) (maybe None (λ j. Some (suc j)) (place p xs))) t
      ∙ ap (maybe None (λ j. Some (suc j))) (never_place xs (ap (λ (b : Bool). b || any p xs) (sym t) ∙ e)))
