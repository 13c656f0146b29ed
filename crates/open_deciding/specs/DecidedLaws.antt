-- The checks one after the other: one that stops leaves the rest unread, one that holds leaves the rest to decide.
use Rattle.std.specs.Prelude.{ℕ, Bool, true, false, cond, List, [], ◌∷◌, ◌++◌, ◌≡◌, refl, Option, Some, None}
use Rattle.std.proofs.Common.{ap, sym, ◌∙◌, arith}
use Rattle.rules.specs.declared.Stop.{Stop}
use Rattle.rules.specs.Lists.{maybe, is_some}
use Rattle.rules.specs.Checks.{first_stop}

-- ---- in a group of checks

stops_here : (a : Option Stop) (ds : List (Option Stop)) → is_some a ≡ true → a ≡ first_stop (a ∷ ds)
stops_here None ds h = absurd (let z : ◌≡◌ {A = ℕ} 0 1 = ap (λ (b : Bool). cond b 1 0) h in omega arith)
stops_here (Some s) ds h = refl

goes_on : (a : Option Stop) (ds : List (Option Stop)) → is_some a ≡ false → first_stop ds ≡ first_stop (a ∷ ds)
goes_on None ds h = refl
goes_on (Some s) ds h = absurd (let z : ◌≡◌ {A = ℕ} 1 0 = ap (λ (b : Bool). cond b 1 0) h in omega arith)

module _ (c d : Option Stop) (e : c ≡ d) where
  -- the last one
  pub first_last : c ≡ first_stop (d ∷ [])
  first_last = e ∙ last d
    where
      last : (a : Option Stop) → a ≡ first_stop (a ∷ [])
      last None = refl
      last (Some s) = refl

  module _ (ds : List (Option Stop)) (b : Bool) (eb : b ≡ is_some c) where
    pub first_stops : b ≡ true → c ≡ first_stop (d ∷ ds)
    first_stops h = e ∙ stops_here d ds (ap (λ (z : Option Stop). is_some z) (sym e) ∙ sym eb ∙ h)

    pub first_goes : b ≡ false → (x : Option Stop) → x ≡ first_stop ds → x ≡ first_stop (d ∷ ds)
    first_goes h x q = q ∙ goes_on d ds (ap (λ (z : Option Stop). is_some z) (sym e) ∙ sym eb ∙ h)

-- ---- group after group

first_append : (cs ds : List (Option Stop)) → first_stop (cs ++ ds) ≡ maybe (first_stop ds) Some (first_stop cs)
first_append [] ds = refl
first_append (None ∷ cs) ds = first_append cs ds
first_append (Some s ∷ cs) ds = refl
