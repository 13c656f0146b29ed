-- The decision read from a lent state: the EDS is not asked, and the table's fixed parts are read row by row.
use Rattle.std.specs.Prelude.{ℕ, zero, suc, true, ◌≡◌, eqb, take, drop, Option, Some, None, Result, Ok, Err}
use Rattle.rules.specs.declared.Plan.{Plan}
use Rattle.std.proofs.Math.Bool.{cond}
use mathlib.Core.List.{List, [], ◌∷◌}
use Rattle.std.proofs.Math.Path.{refl, ap}
use Rattle.std.proofs.Common.{◌∙◌, arith}
use Rattle.base_tables.specs.Tables.{rows}
use Rattle.wire_rules.specs.declared.ForwardOpen.{ForwardOpen}
use Rattle.wire_rules.specs.declared.ConnectionPath.{ConnectionPath}
use Rattle.rules.specs.declared.Fixed.{Fixed}
use Rattle.rules.specs.declared.Stop.{Stop}
use Rattle.rules.specs.State.{Setup, fixeds}
use Rattle.rules.specs.Lists.{maybe}
use Rattle.rules.specs.Checks.{first_stop, transport_check, path_check, path_in, key_check, kind_of, place_of, points_check, roles_of, config_stop, config_check, rpi_check, type_check, ot_size_check, to_size_check, triad_check, owner_check, stream_of, stream_check, room_check, plan_of, verdict}
use Rattle.state_rules.specs.Places.{setup_in, table_in, eds_in, row_size, connections_of}
use Rattle.state_rules.specs.Rows.{dec_fixed, conns_in, fixeds_in}
use Rattle.state_rules.specs.Setups.{identity_of, setup_from, setup_of}
use Rattle.state_rules.specs.Image.{view, tested}
use Rattle.state_image.specs.Fits.{few_assemblies, is_long, is_sound, few_conns, shapes_good}
use Rattle.state_image.specs.StoreLaws.{length_setup_in, length_table_in}
use Rattle.open_deciding.specs.Decided.{Regions}
use Rattle.rules.specs.declared.Roles.{Roles}

-- the EDS is not asked: each check of the setup by itself, then the decision
module _ (r e : List ℕ) (table : List Fixed) (o : ForwardOpen) (p : ConnectionPath) where
  abbrev bare : Setup
  bare = setup_from r []

  abbrev whole : Setup
  whole = setup_from r e

  roles_same : roles_of bare p ≡ roles_of whole p
  unfolding roles_of kind_of place_of
  roles_same = refl

  points_same : points_check bare p ≡ points_check whole p
  unfolding points_check kind_of place_of
  points_same = refl

  config_same : config_check bare p (roles_of bare p) ≡ config_check whole p (roles_of whole p)
  unfolding config_check
  config_same =
      ap (config_check bare p) roles_same
      ∙ ap (λ (z : Option Stop). cond (eqb p.datalen 0) None z) (stop_same (roles_of whole p).config)
    where
      stop_same : (i : Option ℕ) → config_stop bare p.datalen i ≡ config_stop whole p.datalen i
      stop_same None = refl
      stop_same (Some i) = refl

  rpi_same : rpi_check bare o ≡ rpi_check whole o
  unfolding rpi_check
  rpi_same = refl

  ot_size_same : ot_size_check bare o (roles_of bare p) ≡ ot_size_check whole o (roles_of whole p)
  unfolding ot_size_check
  ot_size_same = ap (ot_size_check bare o) roles_same

  to_size_same : to_size_check bare o (roles_of bare p) ≡ to_size_check whole o (roles_of whole p)
  unfolding to_size_check
  to_size_same = ap (to_size_check bare o) roles_same

  owner_same : owner_check bare (roles_of bare p) table ≡ owner_check whole (roles_of whole p) table
  unfolding owner_check
  owner_same = ap (λ (x : Roles). owner_check bare x table) roles_same

  plan_same : plan_of bare table o p ≡ plan_of whole table o p
  unfolding plan_of
  plan_same =
      ap (λ (x : Roles). record {
        kind = x.kind;
        input = x.input;
        output = x.output;
        stores = cond (eqb p.datalen 0) None x.config;
        stream = stream_of o x table;
      }) roles_same

pub eds_unread : (r e : List ℕ) (table : List Fixed) (o : ForwardOpen) (a : Result ConnectionPath ℕ) → verdict (setup_from r []) table o a ≡ verdict (setup_from r e) table o a
unfolding verdict
eds_unread r e table o a =
    let p : ConnectionPath = path_in a in
    let same = roles_same r e table o p in
    λ j.
    maybe (Ok (plan_same r e table o p j)) Err
    (first_stop (transport_check o
    ∷ path_check a
    ∷ key_check (identity_of r) p
    ∷ points_same r e table o p j
    ∷ config_same r e table o p j
    ∷ rpi_same r e table o p j
    ∷ type_check o
    ∷ ot_size_same r e table o p j
    ∷ to_size_same r e table o p j
    ∷ triad_check o table
    ∷ owner_same r e table o p j
    ∷ stream_check o (same j) table
    ∷ room_check table
    ∷ []))

-- the fixed parts of the rows
pub fixeds_rows : (n : ℕ) (r : List ℕ) → fixeds_in n r ≡ fixeds (conns_in n r)
unfolding rows
fixeds_rows zero r = refl
fixeds_rows (suc n) r = ap (λ (z : List Fixed). dec_fixed (take row_size r) ∷ z) (fixeds_rows n (drop row_size r))

module _ (s : List ℕ) (n : ℕ) (en : n ≡ connections_of s) where
  pub regions_tested : tested s ≡ true → Regions (setup_in s) (table_in s) n
  regions_tested ok =
      let l = is_long s ok in
      let a = length_setup_in s l in
      let b = length_table_in s l in
      let f = few_conns s ok in
      record {
        setup = record { long = omega arith; few = few_assemblies (setup_in s) (is_sound s ok); shapes = shapes_good s ok };
        long = omega arith;
        few = omega arith;
      }

  pub verdict_seen : (o : ForwardOpen) (a : Result ConnectionPath ℕ) (v : Result Plan Stop) → v ≡ verdict (setup_from (setup_in s) []) (fixeds_in n (table_in s)) o a
      → v ≡ verdict (view s).setup (fixeds (view s).table) o a
  unfolding view setup_of
  verdict_seen o a v e =
      e ∙ ap (λ (k : ℕ). verdict (setup_from (setup_in s) []) (fixeds_in k (table_in s)) o a) en
      ∙ ap (λ (z : List Fixed). verdict (setup_from (setup_in s) []) z o a) (fixeds_rows (connections_of s) (table_in s))
      ∙ eds_unread (setup_in s) (eds_in s) (fixeds (view s).table) o a
