-- What an accepted open comes to for an output: which open asks for it; and small laws of words. Which frames are taken stands in
-- proofs/Outputs.antt.
use Rattle.std.specs.Prelude.{◌≡◌, refl, List, [], ◌∷◌, Bool, true, false, cond, ◌&&◌, ◌||◌, ℕ, zero, suc, ◌<◌, eqb, ltb, length, get_or, Option, Some, None, Ok}
use Rattle.std.proofs.Math.Path.{sym, subst}
use Rattle.std.proofs.Common.{◌∙◌, ap, arith, eq-eqb, ltb-true, ltb-false}
use Rattle.std.proofs.Math.Bool.{not}
use Rattle.std.proofs.Math.ListN.{get_or-eq_default}
use Rattle.rules.specs.declared.AssemblyKind.TheVariants.{Input, Output, Config}
use Rattle.rules.specs.Lists.{any, change_at, maybe, is_some}
use Rattle.rules_laws.specs.ListLaws
use Rattle.rules_laws.specs.ListLaws.{by_cases, clash, and_left, and_right, eqb_true, not_true}
use Rattle.rules.specs.State.{Setup, Shape, no_shape, shape_at, Content, no_content, State, fixeds, is_output, is_config, is_owner}
use Rattle.rules.specs.Checks.{owns, is_at, place_of, place_or0, kind_of, ot_point, points_check, plan_of, roles_of, owner_check, path_in, has_config, config_point, verdict}
use Rattle.rules_laws.specs.CheckLaws
use Rattle.rules.specs.Opening.{asked_path, verdict_of}
use Rattle.rules.specs.Receiving.{Frame}
use Rattle.rules_faults.specs.RunBit.{owner_of}
use Rattle.rules_steps.specs.Names.{AssemblyKind, ConnectionPath, ForwardOpen, Conn, Plan}
use Rattle.rules_lastword.specs.Words.{Contact, asks_for, says_run}

-- ---- PLACES
pub at_place : (is : AssemblyKind → Bool) (u : Setup) (m j : ℕ) → place_of is u m ≡ Some j → (is (shape_at u j).kind ≡ true) × ((shape_at u j).instance ≡ m)
unfolding place_of
at_place is u m j e =
    let a : is_at is m (shape_at u j) ≡ true =
    subst (λ x. is_some x ≡ true → is_at is m (get_or u.assemblies (place_or0 x) no_shape) ≡ true) e (CheckLaws.place_is (is_at is m) u.assemblies no_shape) refl in
    let x = shape_at u j in
    (and_left (is x.kind) (eqb x.instance m) a, eqb_true x.instance m (and_right (is x.kind) (eqb x.instance m) a))

pub output_there : (u : Setup) (i : ℕ) → is_output (shape_at u i).kind ≡ true → i < length u.assemblies
output_there u i out =
    by_cases (ltb i (length u.assemblies)) (λ y. ltb-true i (length u.assemblies) y)
    (λ n. clash (is_output (shape_at u i).kind) out (ap (λ (a : Shape). is_output a.kind) (get_or-eq_default u.assemblies no_shape (ltb-false i (length u.assemblies) n))))

-- ---- AN OPEN
kind_owner : (u : Setup) (point : ℕ) → is_owner (kind_of u point) ≡ not (eqb point u.input_only) && not (eqb point u.listen_only)
unfolding kind_of
kind_owner u point =
    by_cases (eqb point u.input_only) (λ y. rw y refl) (λ n. by_cases (eqb point u.listen_only) (λ y. rw (n, y) refl) (λ z. rw (n, z) refl))

-- the place that a point comes to is the output's exactly where the point is its number
place_is_number : (u : Setup) (n i point : ℕ) → place_of is_output u n ≡ Some i → (x : Option ℕ) → place_of is_output u point ≡ x → is_some x ≡ true → eqb (place_or0 x) i ≡ eqb point n
place_is_number u n i point there None e y = clash true refl (sym y)
place_is_number u n i point there (Some j) e y =
    let a = (at_place is_output u point j e).1 in
    let b = (at_place is_output u n i there).1 in
    by_cases (eqb point n)
    (λ z. let k = eqb_true point n z in
    let s : Some j ≡ Some i = sym e ∙ ap (place_of is_output u) k ∙ there in
    let q : j ≡ i = cc in
    eq-eqb j i q ∙ sym z)
    (λ z. by_cases (eqb j i)
    (λ q. clash (eqb point n) (eq-eqb point n (sym a ∙ ap (λ k. (shape_at u k).instance) (eqb_true j i q) ∙ b)) z)
    (λ q. q ∙ sym z))

asked_same : (o : Bool) (x n : Bool) → (o ≡ true → x ≡ n) → o && x ≡ o && n
asked_same true x n h = h refl
asked_same false x n h = refl

pub record Admits (u : Setup) (n i : ℕ) (request : List ℕ) (q : ForwardOpen) (s : State) (p : Plan) : Type 0 where
  pub asks : is_owner p.kind && eqb p.output i ≡ asks_for u n request q
  pub lone : is_owner p.kind && eqb p.output i ≡ true → any (owner_of i) s.table ≡ false
  pub config : (j : ℕ) → p.stores ≡ Some j → is_config (shape_at u j).kind ≡ true

stores_at : (b h : Bool) (x : Option ℕ) (j : ℕ) → cond b None (cond h x None) ≡ Some j → x ≡ Some j
stores_at true h x j e = clash true refl (cc)
stores_at false false x j e = clash true refl (cc)
stores_at false true None j e = clash true refl (cc)
stores_at false true (Some k) j e = cc

lone_owner : (i : ℕ) (l : List Conn) (o : Bool) (j : ℕ) → not (o && any (owns j) (fixeds l)) ≡ true → o && eqb j i ≡ true → any (owner_of i) l ≡ false
lone_owner i l o j h y =
    let k = eqb_true j i (and_right o (eqb j i) y) in
    let n = not_true (o && any (owns j) (fixeds l)) h in
    let m : any (owns j) (fixeds l) ≡ false = sym (ap (λ b. b && any (owns j) (fixeds l)) (and_left o (eqb j i) y)) ∙ n in
    subst (λ j. any (owner_of j) l ≡ false) k (sym (ListLaws.any_map (λ c. c.fixed) (owns j) (owner_of j) (λ c. refl) l) ∙ m)

module _ (u : Setup) (n i : ℕ) (there : place_of is_output u n ≡ Some i) where
  asks_is : (a : ConnectionPath) → (is_owner (kind_of u (ot_point a)) ≡ true → is_some (place_of is_output u (ot_point a)) ≡ true) →
      is_owner (kind_of u (ot_point a)) && eqb (cond (is_owner (kind_of u (ot_point a))) (place_or0 (place_of is_output u (ot_point a))) 0) i ≡
      not (eqb (ot_point a) u.input_only) && not (eqb (ot_point a) u.listen_only) && eqb (ot_point a) n
  asks_is a h =
      let point = ot_point a in
      let o = is_owner (kind_of u point) in
      asked_same o (eqb (cond o (place_or0 (place_of is_output u point)) 0) i) (eqb point n)
      (λ y. ap (λ b. eqb (cond b (place_or0 (place_of is_output u point)) 0) i) y ∙ place_is_number u n i point there (place_of is_output u point) refl (h y)) ∙
      ap (λ b. b && eqb point n) (kind_owner u point)

  pub admits : (request : List ℕ) (q : ForwardOpen) (s : State) (p : Plan) → s.setup ≡ u → verdict_of request q s ≡ Ok p → Admits u n i request q s p
  unfolding verdict_of plan_of owner_check roles_of points_check
  admits request q s p v e =
      let e' = subst (λ w. verdict w (fixeds s.table) q (asked_path request q) ≡ Ok p) v e in
      let x = CheckLaws.passed u (fixeds s.table) q (asked_path request q) p e' in
      let a = path_in (asked_path request q) in
      let points = (CheckLaws.then_none _ _ (CheckLaws.then_none _ _ (CheckLaws.then_none _ _ x.0.points).1).1).0 in
      let named = CheckLaws.must_none (not (is_owner (kind_of u (ot_point a))) || is_some (place_of is_output u (ot_point a))) _ points in
      subst (Admits u n i request q s) x.1
      (record {
        asks = asks_is a (λ y. sym (ap (λ b. not b || is_some (place_of is_output u (ot_point a))) y) ∙ named);
        lone = lone_owner i s.table (is_owner (kind_of u (ot_point a))) _ (CheckLaws.must_none _ _ x.0.owner);
        config = λ j k. (at_place is_config u (config_point a) j (stores_at (eqb a.datalen 0) (has_config a) (place_of is_config u (config_point a)) j k)).0;
      })

-- ---- lists
pub change_there : (i : ℕ) (f : Content → Content) (l : List Content) → i < length l → get_or (change_at i f l) i no_content ≡ f (get_or l i no_content)
change_there i f [] h = absurd (omega (arith, h))
change_there zero f (a ∷ l) h = refl
change_there (suc i) f (a ∷ l) h = change_there i f l (omega (arith, h))

pub length_at : (j : ℕ) (f : Content → Content) (l : List Content) → length (change_at j f l) ≡ length l
length_at j f [] = refl
length_at zero f (a ∷ l) = refl
length_at (suc j) f (a ∷ l) = ap suc (length_at j f l)

pub config_no_output : (k : AssemblyKind) → is_config k ≡ true → is_output k ≡ false
config_no_output Input e = refl
config_no_output Output e = sym e
config_no_output Config e = refl

-- where an owner comes nothing was taken from it
pub opened_run : (r a o : Bool) (x : Option Frame) → r ≡ a && maybe false says_run x → (o ≡ true → a ≡ false) → r ≡ (a || (o || false)) && maybe false says_run (cond o None x)
opened_run r true true x e k = clash true refl (k refl)
opened_run r true false x e k = e
opened_run r false true x e k = e
opened_run r false false x e k = e

pub opened_present : (x : Option Contact) (m : Contact) (a o : Bool) → is_some x ≡ a → is_some (cond o (Some m) x) ≡ a || (o || false)
opened_present x m true true e = refl
opened_present x m true false e = e
opened_present x m false true e = refl
opened_present x m false false e = e

pub in_run_is : (o : Option Contact) (b : Bool) → is_some o && b ≡ maybe false (λ m. b) o
in_run_is None b = refl
in_run_is (Some m) b = refl
