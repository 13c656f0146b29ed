-- Where check 4 holds, every place that the points come to is one of the list.
use Rattle.std.specs.Prelude.{ℕ, ◌<◌, Bool, ◌||◌, List, [], ◌≡◌, length, Option, Some, None}
use Rattle.std.proofs.Math.Bool.{true, cond, not}
use Rattle.std.proofs.Math.Path.{refl, ap}
use Rattle.std.proofs.Common.{sym, ◌∙◌, arith}
use Rattle.wire_rules.specs.declared.ConnectionPath.{ConnectionPath}
use Rattle.rules.specs.declared.AssemblyKind.{AssemblyKind}
use Rattle.rules.specs.declared.Roles.{Roles}
use Rattle.rules.specs.State.{Setup, no_shape, is_input, is_output, is_config, is_owner}
use Rattle.rules.specs.Lists.{place, is_some}
use Rattle.rules.specs.Host.{kind_test}
use Rattle.rules_laws.specs.ListLaws.{by_cases, clash}
use Rattle.rules_laws.specs.CheckLaws.{must_none, then_none}
use Rattle.rules.specs.Checks as checks
use Rattle.state_rules.specs.Setups.{setup_from, shapes_of}
use Rattle.state_rules.specs.SetupLaws.{length_shapes}
use Rattle.state_rules.specs.Places.{assemblies_of}
use Rattle.state_searches.specs.Searches.{place_in_lem}

some_of : (o : Option ℕ) → is_some o ≡ true → o ≡ Some (checks.place_or0 o)
some_of None e = clash true refl (sym e)
some_of (Some i) e = refl

place_within : (is : AssemblyKind → Bool) (u : Setup) (n i : ℕ) → checks.place_of is u n ≡ Some i → i < length u.assemblies
unfolding checks.place_of
place_within is u n i e = place_in_lem (checks.is_at is n) no_shape u.assemblies i e

found_within : (is : AssemblyKind → Bool) (u : Setup) (n : ℕ) → is_some (checks.place_of is u n) ≡ true → checks.place_or0 (checks.place_of is u n) < length u.assemblies
found_within is u n e = place_within is u n (checks.place_or0 (checks.place_of is u n)) (some_of (checks.place_of is u n) e)

module _ (u : Setup) (p : ConnectionPath) where
  pub config_within : (i : ℕ) → (checks.roles_of u p).config ≡ Some i → i < length u.assemblies
  unfolding checks.roles_of
  config_within i e =
      by_cases (checks.has_config p)
      (λ t. place_within is_config u (checks.config_point p) i (ap (λ (x : Bool). cond x (checks.place_of is_config u (checks.config_point p)) None) (sym t) ∙ e))
      (λ t. let z : None ≡ Some i = ap (λ (x : Bool). cond x (checks.place_of is_config u (checks.config_point p)) None) (sym t) ∙ e in clash true refl (cc))

  module _ (h : checks.points_check u p ≡ None) where
    told : (is_some (checks.place_of is_input u (checks.to_point p)) ≡ true) ×
        (not (is_owner (checks.kind_of u (checks.ot_point p))) || is_some (checks.place_of is_output u (checks.ot_point p)) ≡ true)
    unfolding checks.points_check
    told = let b = then_none _ _ h in let c = then_none _ _ b.1 in let d = then_none _ _ c.1 in (must_none _ _ d.1, must_none _ _ d.0)

    pub input_within : (checks.roles_of u p).input < length u.assemblies
    unfolding checks.roles_of
    input_within = found_within is_input u (checks.to_point p) told.0

    pub output_within : is_owner (checks.roles_of u p).kind ≡ true → (checks.roles_of u p).output < length u.assemblies
    unfolding checks.roles_of
    output_within y =
        let e : is_some (checks.place_of is_output u (checks.ot_point p)) ≡ true =
        ap (λ (x : Bool). not x || is_some (checks.place_of is_output u (checks.ot_point p))) (sym y) ∙ told.1 in
        rw y (found_within is_output u (checks.ot_point p) e)

-- what a search of a region found is one of its assemblies
module _ (r : List ℕ) (kind point : ℕ) (f : Option ℕ) (e : f ≡ place (checks.is_at (kind_test kind) point) (shapes_of r)) where
  pub place_small : (i : ℕ) → f ≡ Some i → i < assemblies_of r
  place_small i h =
      let a = place_in_lem (checks.is_at (kind_test kind) point) no_shape (shapes_of r) i (sym e ∙ h) in
      let n = length_shapes r in omega arith

-- the same for roles as code holds them, over a region
pub record Placed (n : ℕ) (x : Roles) : Type 0 where
  pub input : x.input < n
  pub output : is_owner x.kind ≡ true → x.output < n
  pub config : (i : ℕ) → x.config ≡ Some i → i < n

assemblies_counted : (r : List ℕ) → length (setup_from r []).assemblies ≡ assemblies_of r
assemblies_counted r = length_shapes r

pub placed : (r : List ℕ) (p : ConnectionPath) (x : Roles) → None ≡ checks.points_check (setup_from r []) p
    → x ≡ checks.roles_of (setup_from r []) p → Placed (assemblies_of r) x
placed r p x h e =
    let u : Setup = setup_from r [] in
    let n = assemblies_counted r in
    record {
      input =
          let a = input_within u p (sym h) in
          let z : x.input ≡ (checks.roles_of u p).input = ap (λ (y : Roles). y.input) e in omega arith;
      output = λ t.
          let a = output_within u p (sym h) (ap (λ (y : Roles). is_owner y.kind) (sym e) ∙ t) in
          let z : x.output ≡ (checks.roles_of u p).output = ap (λ (y : Roles). y.output) e in omega arith;
      config = λ i t. let a = config_within u p i (ap (λ (y : Roles). y.config) (sym e) ∙ t) in omega arith;
    }
