-- What an open that passed every check says of the state: there is a row left, and its configuration data fits its assembly.
use Prim.Native.Nat.{ℕ, ◌+◌, ◌≤◌, ◌<◌}
use Rattle.std.specs.Prelude.{Bool, true, false, cond, List, ◌≡◌, refl, eqb, ltb, Option, Some, None, Result, Ok, Err}
use Rattle.std.proofs.Math.Path.{ap, subst}
use Rattle.std.proofs.Common.{sym, ◌∙◌}
use native.Mathlib.Omega.{arith}
use Rattle.std.proofs.Math.ListN.{length, get_or-eq_default}
use Rattle.std.proofs.lemmas.List.{length-map}
use borrow.Author.Tests.{ltb-true, ltb-false, eqb-true, eqb-false}
use Rattle.base_cells.specs.Back.{Bytes}
use Rattle.wire_rules.specs.declared.ForwardOpen.{ForwardOpen}
use Rattle.wire_rules.specs.declared.ConnectionPath.{ConnectionPath}
use Rattle.wire_rules.specs.ConnectionPath.{path_of}
use Rattle.wire_segments.specs.PathLaws.{data_inside}
use Rattle.rules_laws.specs.ListLaws.{by_cases, clash}
use Rattle.rules.specs.State.{is_input, is_output, is_owner, Setup, State, no_shape, shape_at, fixeds}
use Rattle.rules.specs.Checks.{path_in, ot_point, to_point, kind_of, is_at, place_of, place_or0, roles_of, config_stop, config_check, room_check, plan_of, verdict}
use Rattle.rules_laws.specs.CheckLaws.{must_none, passed}
use Rattle.rules.specs.declared.AssemblyKind.{AssemblyKind}
use Rattle.rules.specs.declared.Conn.{Conn}
use Rattle.rules.specs.declared.Fixed.{Fixed}
use Rattle.rules.specs.declared.Kind.{Kind}
use Rattle.rules.specs.declared.Kind.TheVariants.{Owner, InputOnly, ListenOnly}
use Rattle.rules.specs.declared.Plan.{Plan}
use Rattle.state_rules.specs.Image.{view, tested}
use Rattle.state_rules.specs.Rows.{RoleFits}
use Rattle.state_searches.specs.Searches.{place_in_lem}
use Rattle.state_image.specs.StoreLaws.{content_short, few_contents}
use Rattle.state_image.specs.ViewLaws.{suits_view}
use Rattle.state_image.specs.Holds.{holds_tested, assemblies_held, conns_held}
use Rattle.open_answering.specs.Steps.{StoresFit, Fit}

-- the configuration data lies inside the path
pub config_inside : (path : List ℕ) (answer : Result ConnectionPath ℕ) → answer ≡ path_of path → (path_in answer).datastart + (path_in answer).datalen ≤ length path
config_inside path (Ok p) e = data_inside path p e
config_inside path (Err offset) e = omega arith

-- ---- what the checks said

-- check 5, where data is stored
config_at : (b : Bool) (u : Setup) (n : ℕ) (c : Option ℕ) (i : ℕ) → cond b None (config_stop u n c) ≡ None → cond b None c ≡ Some i
    → (b ≡ false) × ((shape_at u i).size ≡ n)
config_at true u n c i e q = clash true refl (cc)
config_at false u n None i e q = clash true refl (cc)
config_at false u n (Some j) i e q =
    let y : eqb (shape_at u j).size n ≡ true = must_none (eqb (shape_at u j).size n) _ e in
    let z : j ≡ i = cc in
    (refl, ap (λ (k : ℕ). (shape_at u k).size) (sym z) ∙ eqb-true (shape_at u j).size n y)

module _ (u : Setup) (table : List Fixed) (o : ForwardOpen) (answer : Result ConnectionPath ℕ) (p : Plan) (e : verdict u table o answer ≡ Ok p) where
  -- check 13
  pub planned_few : length table < 32
  unfolding room_check
  planned_few = ltb-true (length table) 32 (must_none (ltb (length table) 32) _ (passed u table o answer p e).0.room)

  pub planned_size : (i : ℕ) → p.stores ≡ Some i → (eqb (path_in answer).datalen 0 ≡ false) × ((shape_at u i).size ≡ (path_in answer).datalen)
  unfolding config_check plan_of
  planned_size i q =
      let z = passed u table o answer p e in
      config_at (eqb (path_in answer).datalen 0) u (path_in answer).datalen (roles_of u (path_in answer)).config i z.0.config (ap (λ (x : Plan). x.stores) z.1 ∙ q)

  -- data that is not empty has an assembly of the setup's list
  pub planned_place : (i : ℕ) → p.stores ≡ Some i → i < length u.assemblies
  planned_place i q =
      let z = planned_size i q in
      by_cases (ltb i (length u.assemblies)) (λ t. ltb-true i (length u.assemblies) t)
      (λ t. let h : length u.assemblies ≤ i = ltb-false i (length u.assemblies) t in
      let w : (shape_at u i).size ≡ 0 = ap (λ x. x.size) (get_or-eq_default u.assemblies no_shape {n = i} h) in
      absurd (eqb-false (path_in answer).datalen 0 z.0 (sym z.1 ∙ w)))

-- ---- the roles are places of the setup's list

or0_small : (o : Option ℕ) (n : ℕ) → ((i : ℕ) → o ≡ Some i → i ≤ n) → place_or0 o ≤ n
or0_small None n h = omega arith
or0_small (Some i) n h = h i refl

place_small : (is : AssemblyKind → Bool) (u : Setup) (n : ℕ) → place_or0 (place_of is u n) ≤ length u.assemblies
unfolding place_of
place_small is u n = or0_small (place_of is u n) (length u.assemblies) (λ i e. let z = place_in_lem (is_at is n) no_shape u.assemblies i e in omega arith)

role_small : (k : Kind) (n : ℕ) → n ≤ 253 → RoleFits k (cond (is_owner k) n 0)
role_small Owner n h = h
role_small InputOnly n h = refl
role_small ListenOnly n h = refl

module _ (u : Setup) (table : List Fixed) (o : ForwardOpen) (answer : Result ConnectionPath ℕ) (p : Plan) (e : verdict u table o answer ≡ Ok p) (few : length u.assemblies ≤ 16) where
  pub planned_input : p.input ≤ 31
  unfolding plan_of roles_of
  planned_input =
      let q : place_or0 (place_of is_input u (to_point (path_in answer))) ≡ p.input = ap (λ (x : Plan). x.input) (passed u table o answer p e).1 in
      let k : place_or0 (place_of is_input u (to_point (path_in answer))) ≤ length u.assemblies = place_small is_input u (to_point (path_in answer)) in
      omega arith

  pub planned_role : RoleFits p.kind p.output
  unfolding plan_of roles_of
  planned_role =
      let n : ℕ = place_or0 (place_of is_output u (ot_point (path_in answer))) in
      let k : n ≤ length u.assemblies = place_small is_output u (ot_point (path_in answer)) in
      subst (λ (x : Plan). RoleFits x.kind x.output) (passed u table o answer p e).1 (role_small (kind_of u (ot_point (path_in answer))) n (omega arith))

-- ---- of a state that passed its test

module _ (s : List ℕ) (ok : tested s ≡ true) (o : ForwardOpen) (answer : Result ConnectionPath ℕ) (p : Plan)
    (e : verdict (view s).setup (fixeds (view s).table) o answer ≡ Ok p) (d : List ℕ) (n : length d ≡ (path_in answer).datalen) where
  abbrev st : State
  st = view s

  pub planned_room : length st.table < 32
  planned_room =
      let h = planned_few st.setup (fixeds st.table) o answer p e in
      let k = length-map st.table (λ (c : Conn). c.fixed) in
      omega arith

  few_places : length st.setup.assemblies ≤ 16
  few_places = let a = few_contents st s (suits_view s ok) in let c = (suits_view s ok).fits.contents in omega arith

  pub planned_row : RoleFits p.kind p.output
  planned_row = planned_role st.setup (fixeds st.table) o answer p e few_places

  pub planned_fits : StoresFit p.stores d st
  planned_fits i q = n ∙ sym (planned_size st.setup (fixeds st.table) o answer p e i q).1 ∙ sym ((suits_view s ok).fits.sized i)

  pub planned_fit : Bytes s → Fit p d s
  planned_fit b =
      let h = holds_tested s ok b in
      record {
        conns = let c = conns_held s st s h in let m = planned_room in omega arith;
        input = planned_input st.setup (fixeds st.table) o answer p e few_places;
        role = planned_row;
        room = λ i q. (
          let a = assemblies_held s st s h in let c = (suits_view s ok).fits.contents in let m = planned_place st.setup (fixeds st.table) o answer p e i q in omega arith,
          let f = planned_fits i q in let c = content_short st s (suits_view s ok) i in omega arith,
        );
        fits = planned_fits;
      }
