-- What an open that is accepted has passed, and what its plan names.
use Rattle.std.specs.Prelude.{◌≡◌, List, [], ◌∷◌, Bool, false, not, ◌||◌, ℕ, suc, eqb, get_or, Option, Some, None, Result, Ok, Err}
use Rattle.std.proofs.Math.Path.{refl}
use Rattle.std.proofs.Common.{sym, ◌∙◌}
use Rattle.std.proofs.Math.Bool.{true}
use Rattle.wire_rules.specs.declared.ForwardOpen.{ForwardOpen}
use Rattle.wire_rules.specs.declared.ConnectionPath.{ConnectionPath}
use Rattle.rules.specs.Lists.{place, any, maybe, is_some}
use Rattle.rules_laws.specs.ListLaws.{by_cases, clash, and_left, All}
use Rattle.rules.specs.declared.AssemblyKind.{AssemblyKind}
use Rattle.rules.specs.declared.Fixed.{Fixed}
use Rattle.rules.specs.declared.Stop.{Stop}
use Rattle.rules.specs.declared.Plan.{Plan}
use Rattle.rules.specs.State.{is_input, is_output, is_owner, no_shape, Setup, shape_at}
use Rattle.rules.specs.declared.Roles.{Roles}
use Rattle.rules.specs.Checks

pub must_none : (b : Bool) (s : Stop) → Checks.must b s ≡ None → b ≡ true
unfolding Checks.must
must_none true s e = refl
must_none false s e = clash true refl (cc)

pub then_none : (a b : Option Stop) → Checks.and_then a b ≡ None → (a ≡ None) × (b ≡ None)
unfolding Checks.and_then
then_none None b e = (refl, e)
then_none (Some s) b e = clash true refl (cc)

first_none : (cs : List (Option Stop)) → Checks.first_stop cs ≡ None → All (λ c. c ≡ None) cs
first_none [] e = tt
first_none (None ∷ cs) e = (refl, first_none cs e)
first_none (Some s ∷ cs) e = clash true refl (cc)

planned_is : (x : Option Stop) (q p : Plan) → maybe (Ok q) Err x ≡ Ok p → (x ≡ None) × (q ≡ p)
planned_is None q p e = (refl, cc)
planned_is (Some s) q p e = clash true refl (cc)

-- every check holds
pub record Passed (u : Setup) (table : List Fixed) (o : ForwardOpen) (answer : Result ConnectionPath ℕ) : Type 0 where
  pub transport : Checks.transport_check o ≡ None
  pub path : Checks.path_check answer ≡ None
  pub key : Checks.key_check u.identity (Checks.path_in answer) ≡ None
  pub points : Checks.points_check u (Checks.path_in answer) ≡ None
  pub config : Checks.config_check u (Checks.path_in answer) (Checks.roles_of u (Checks.path_in answer)) ≡ None
  pub rpi : Checks.rpi_check u o ≡ None
  pub type : Checks.type_check o ≡ None
  pub ot_size : Checks.ot_size_check u o (Checks.roles_of u (Checks.path_in answer)) ≡ None
  pub to_size : Checks.to_size_check u o (Checks.roles_of u (Checks.path_in answer)) ≡ None
  pub triad : Checks.triad_check o table ≡ None
  pub owner : Checks.owner_check u (Checks.roles_of u (Checks.path_in answer)) table ≡ None
  pub stream : Checks.stream_check o (Checks.roles_of u (Checks.path_in answer)) table ≡ None
  pub room : Checks.room_check table ≡ None

-- an open that is accepted has passed every check, and its plan is the one that the points give
pub passed : (u : Setup) (table : List Fixed) (o : ForwardOpen) (answer : Result ConnectionPath ℕ) (p : Plan) → Checks.verdict u table o answer ≡ Ok p →
    Passed u table o answer × (Checks.plan_of u table o (Checks.path_in answer) ≡ p)
unfolding Checks.verdict
passed u table o answer p e =
    let x = planned_is (Checks.first_stop (Checks.checks u table o answer)) (Checks.plan_of u table o (Checks.path_in answer)) p e in
    let a = first_none (Checks.checks u table o answer) x.0 in (
      record {
        transport = a.0;
        path = a.1.0;
        key = a.1.1.0;
        points = a.1.1.1.0;
        config = a.1.1.1.1.0;
        rpi = a.1.1.1.1.1.0;
        type = a.1.1.1.1.1.1.0;
        ot_size = a.1.1.1.1.1.1.1.0;
        to_size = a.1.1.1.1.1.1.1.1.0;
        triad = a.1.1.1.1.1.1.1.1.1.0;
        owner = a.1.1.1.1.1.1.1.1.1.1.0;
        stream = a.1.1.1.1.1.1.1.1.1.1.1.0;
        room = a.1.1.1.1.1.1.1.1.1.1.1.1.0;
      },
      x.1,
    )

-- what is at the place that was found
place_next : (x : Option ℕ) → is_some (maybe None (λ i. Some (suc i)) x) ≡ is_some x
place_next None = refl
place_next (Some i) = refl

next_place : (x : Option ℕ) → is_some x ≡ true → Checks.place_or0 (maybe None (λ i. Some (suc i)) x) ≡ suc (Checks.place_or0 x)
next_place None e = clash true refl (sym e)
next_place (Some i) e = refl

pub place_is : {A : Type 0} (p : A → Bool) (l : List A) (d : A) → is_some (place p l) ≡ true → p (get_or l (Checks.place_or0 (place p l)) d) ≡ true
place_is p [] d e = clash true refl (sym e)
place_is p (x ∷ xs) d e =
    by_cases (p x) (λ y. rw y y)
    (λ n. let k : is_some (place p xs) ≡ true = sym (place_next (place p xs)) ∙ (rw n at e) in
    rw (n, next_place (place p xs) k) (place_is p xs d k))

pub placed : (is : AssemblyKind → Bool) (u : Setup) (n : ℕ) → is_some (Checks.place_of is u n) ≡ true → is (shape_at u (Checks.place_or0 (Checks.place_of is u n))).kind ≡ true
unfolding Checks.place_of
placed is u n e =
    let a = shape_at u (Checks.place_or0 (Checks.place_of is u n)) in
    and_left (is a.kind) (eqb a.instance n) (place_is (Checks.is_at is n) u.assemblies no_shape e)

module _ (u : Setup) (table : List Fixed) (o : ForwardOpen) (answer : Result ConnectionPath ℕ) (a : Passed u table o answer) where
  abbrev the_roles : Roles
  the_roles = Checks.roles_of u (Checks.path_in answer)

  abbrev p : ConnectionPath
  p = Checks.path_in answer

  points_told : (is_some (Checks.place_of is_input u (Checks.to_point p)) ≡ true) ×
      (not (is_owner (Checks.kind_of u (Checks.ot_point p))) || is_some (Checks.place_of is_output u (Checks.ot_point p)) ≡ true)
  unfolding Checks.points_check
  points_told =
      let b = then_none _ _ a.points in
      let c = then_none _ _ b.1 in
      let d = then_none _ _ c.1 in
      (must_none _ _ d.1, must_none _ _ d.0)

  -- the input is an input assembly
  pub input_is : is_input (shape_at u the_roles.input).kind ≡ true
  unfolding Checks.roles_of
  input_is = placed is_input u (Checks.to_point p) points_told.0

  -- an owner's output is an output assembly
  pub output_is : is_owner the_roles.kind ≡ true → is_output (shape_at u the_roles.output).kind ≡ true
  unfolding Checks.roles_of
  output_is y =
      let e : is_some (Checks.place_of is_output u (Checks.ot_point p)) ≡ true = by_cases (is_some (Checks.place_of is_output u (Checks.ot_point p))) (λ z. z) (λ z. clash true refl (cc points_told.1)) in
      rw y (placed is_output u (Checks.ot_point p) e)

  -- no connection has its triad
  pub triad_free : any (Checks.has_triad o.triad) table ≡ false
  unfolding Checks.triad_check
  triad_free =
      let e = must_none (not (any (Checks.has_triad o.triad) table)) _ a.triad in
      by_cases (any (Checks.has_triad o.triad) table) (λ y. clash true refl (cc)) (λ n. n)
