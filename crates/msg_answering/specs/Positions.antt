-- The lent position against what is set up: its test, the EDS, and what a tested state says of the sizes.
use Rattle.std.specs.Prelude.{ℕ, ◌-◌, ◌≤◌, Bool, true, false, List, [], ◌∷◌, ◌≡◌, eqb, length, take, drop, Option, Some, None, Result}
use Rattle.rules.specs.declared.objects.Position.{Position}
use Rattle.rules.specs.declared.objects.Fault.{Fault}
use Rattle.std.proofs.Math.Bool.{cond}
use Rattle.std.proofs.Math.Path.{refl, ap}
use Rattle.std.proofs.Common.{sym, ◌∙◌, arith, length-take, take-take, length-take-le, eq-eqb, ne_eqb, eqb-true}
use Rattle.std.proofs.lemmas.Bool.{eqb-false}
use Rattle.base_cells.specs.Numbers.{le, le_1}
use Rattle.base_cells.specs.Records.{dec_fields}
use Rattle.base_cells.specs.Back.{Bytes, all, all_at, bytes_take, bytes_drop}
use Rattle.rules.specs.declared.objects.Fault.TheVariants.{PathUnknown}
use Rattle.rules.specs.State.{Setup}
use Rattle.rules.specs.Attributes.{Outcome, Fails}
use Rattle.rules.specs.Upload.{upload_ok}
use Rattle.rules.specs.Objects.{file_attributes, eds_file, file}
use Rattle.rules.specs.Message.{file_in}
use Rattle.rules_laws.specs.ReplyLaws.{Sized}
use Rattle.state_rules.specs.Places.{setup_in, eds_in, eds_at}
use Rattle.state_rules.specs.Setups.{setup_from, setup_of}
use Rattle.state_rules.specs.Image.{view, tested}
use Rattle.state_image.specs.Fits.{is_sound, is_long, short_name, short_eds_name, short_eds, some_transfer}
use Rattle.state_image.specs.StoreLaws.{length_eds_in, content_short}
use Rattle.state_image.specs.ViewLaws.{suits_view}
use Rattle.msg_positions.specs.Positions.{w_position, plain_list, dec_upload, upload_tested}
use Rattle.msg_positions.specs.PositionLaws.{eds_length, ok_with_lem, write_again}
use Rattle.msg_uploads.specs.Lent.{stepped}
use Rattle.msg_file.specs.Files.{Whole}

-- the position's own test: 8 bytes that are written one way, and the rule's test of the upload that they say
unfoldable pub position_tested : Setup → List ℕ → Bool
position_tested u l = all (eqb (length l) 8 ∷ plain_list (dec_fields w_position l 0) ∷ upload_ok u (dec_upload l) ∷ [])

pub same_test : (u : Setup) (l : List ℕ) → upload_tested u.transfer_limit (eds_length u.eds) l ≡ position_tested u l
unfolding upload_tested position_tested
same_test u l = ap (λ (b : Bool). all (eqb (length l) 8 ∷ plain_list (dec_fields w_position l 0) ∷ b ∷ [])) (ok_with_lem u (dec_upload l))

module _ (s : List ℕ) where
  abbrev mark : ℕ
  mark = le 4 (setup_in s) 4

  abbrev eds_bytes : List ℕ
  eds_bytes = take (le 4 (setup_in s) 4 - 1) (eds_in s)

  pub eds_none : le 4 (setup_in s) 4 ≡ 0 → (view s).setup.eds ≡ None
  unfolding view setup_of
  eds_none h = ap (λ (b : Bool). cond b None (Some eds_bytes)) (eq-eqb mark 0 h)

  pub eds_some : (le 4 (setup_in s) 4 ≡ 0 → ⊥) → (view s).setup.eds ≡ Some (take (le 4 (setup_in s) 4 - 1) (eds_in s))
  unfolding view setup_of
  eds_some h = ap (λ (b : Bool). cond b None (Some eds_bytes)) (ne_eqb mark 0 h)

  pub limit_is : (view s).setup.transfer_limit ≡ le 1 (setup_in s) 1
  unfolding view setup_of
  limit_is = refl

  module _ (t : tested s ≡ true) where
    pub mark_small : le 4 (setup_in s) 4 ≤ 65536
    mark_small = short_eds (setup_in s) (is_sound s t)

    pub eds_long : length (take (le 4 (setup_in s) 4 - 1) (eds_in s)) ≡ le 4 (setup_in s) 4 - 1
    eds_long = length-take-le (mark - 1) (eds_in s) (let a = mark_small in let b = length_eds_in s (is_long s t) in omega arith)

    -- the EDS as it is lent
    pub eds_lent : take (le 4 (setup_in s) 4 - 1) (drop eds_at s) ≡ take (le 4 (setup_in s) 4 - 1) (eds_in s)
    eds_lent = sym (take-take (mark - 1) 65536 (drop eds_at s) (let a = mark_small in omega arith))

    pub names_short : le 1 (setup_in s) 3 ≤ 32
    names_short = short_eds_name (setup_in s) (is_sound s t)

    -- the EDS by its length
    pub eds_by_length : (n : ℕ) → Some n ≡ eds_length (view s).setup.eds → ((view s).setup.eds ≡ Some (take n (drop eds_at s))) × (n ≤ 65535)
    eds_by_length n e = by (eqb mark 0) refl
      where
        by : (b : Bool) → eqb mark 0 ≡ b → ((view s).setup.eds ≡ Some (take n (drop eds_at s))) × (n ≤ 65535)
        by true q = let g = eds_none (eqb-true mark 0 q) in let h : Some n ≡ None = cc in absurd (let z : ◌≡◌ {A = ℕ} 0 1 = cc in omega arith)
        by false q =
            let g = eds_some (eqb-false mark 0 q) in
            let k : Some n ≡ Some (length eds_bytes) = e ∙ ap eds_length g in
            let m : n ≡ mark - 1 = (let l = eds_long in cc) in
            (g ∙ ap Some (sym eds_lent ∙ ap (λ (j : ℕ). take j (drop eds_at s)) (sym m)), (let h = mark_small in omega arith))

-- no length is no EDS
pub no_length : (eds : Option (List ℕ)) → None ≡ eds_length eds → eds ≡ None
no_length None e = refl
no_length (Some eds) e = absurd (let z : ◌≡◌ {A = ℕ} 0 1 = cc in omega arith)

-- ---- File, with an EDS and without

module _ (s : List ℕ) (service instance : ℕ) (a : Option ℕ) (bytes : List ℕ) (up : Option Position) (out : List ℕ) (x : Result ℕ Fault × (List ℕ × List ℕ)) where
  pub no_file : (view s).setup.eds ≡ None → x ≡ stepped (Fails PathUnknown, up) out
      → x ≡ stepped (file_in (view s).setup service instance a bytes up (view s).setup.eds) out
  no_file e f = f ∙ ap (λ (o : Option (List ℕ)). stepped (file_in (view s).setup service instance a bytes up o) out) (sym e)

  same_file : (eds : List ℕ) → file (setup_from (setup_in s) []) eds service instance a bytes up ≡ file (view s).setup eds service instance a bytes up
  unfolding file eds_file file_attributes view setup_of
  same_file eds = refl

  -- by the setup's region and the EDS lent
  pub the_file : (eds lent : List ℕ) → (view s).setup.eds ≡ Some eds → lent ≡ eds → x ≡ stepped (file (setup_from (setup_in s) []) lent service instance a bytes up) out
      → x ≡ stepped (file_in (view s).setup service instance a bytes up (view s).setup.eds) out
  the_file eds lent e l f =
      f ∙ ap (λ (z : List ℕ). stepped (file (setup_from (setup_in s) []) z service instance a bytes up) out) l
      ∙ ap (λ (z : Outcome × Option Position). stepped z out) (same_file eds)
      ∙ ap (λ (o : Option (List ℕ)). stepped (file_in (view s).setup service instance a bytes up o) out) (sym e)

-- ---- what the test says

module _ (u : Setup) (l : List ℕ) (t : position_tested u l ≡ true) where
  abbrev tests : List Bool
  tests = eqb (length l) 8 ∷ plain_list (dec_fields w_position l 0) ∷ upload_ok u (dec_upload l) ∷ []

  pub position_ok_lem : upload_ok u (dec_upload l) ≡ true
  unfolding position_tested
  position_ok_lem = all_at tests t 2

-- a tested position is whole
pub whole_tested : (s l : List ℕ) → tested s ≡ true → Bytes l → position_tested (view s).setup l ≡ true → Whole l
unfolding position_tested
whole_tested s l ts b t =
    let u = (view s).setup in
    record {
      long = eqb-true (length l) 8 (all_at (eqb (length l) 8 ∷ plain_list (dec_fields w_position l 0) ∷ upload_ok u (dec_upload l) ∷ []) t 0);
      again = write_again u.transfer_limit (eds_length u.eds) l b (same_test u l ∙ t);
    }

-- ---- the sizes that a reply depends on

pub sized_tested : (s : List ℕ) → tested s ≡ true → Bytes s → Sized (view s)
unfolding view setup_of
sized_tested s t b =
    record {
      name = let e = length-take (le 1 (setup_in s) 2) (drop 46 (setup_in s)) in let h = short_name (setup_in s) (is_sound s t) in omega arith;
      eds_name = let e = length-take (le 1 (setup_in s) 3) (drop 78 (setup_in s)) in let h = short_eds_name (setup_in s) (is_sound s t) in omega arith;
      mac = let e = length-take 6 (drop 40 (setup_in s)) in omega arith;
      limit_low = let h = some_transfer (setup_in s) (is_sound s t) in omega arith;
      limit_high = let e = le_1 (setup_in s) 1 in let h = bytes_take 192 (drop 0 s) (bytes_drop 0 s b) 1 in omega arith;
      contents = λ i. content_short (view s) s (suits_view s t) i;
    }
