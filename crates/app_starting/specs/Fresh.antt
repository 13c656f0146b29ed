-- What an accepted setup leaves is the rules' fresh state, and passes the state test.
use Prim.Native.Nat.{ℕ, zero, suc, ◌+◌, ◌*◌, ◌-◌, ◌/◌, ◌%◌, ◌≤◌, ◌<◌}
use Rattle.std.specs.Prelude.{Bool, false, not, ◌&&◌, ◌||◌, ◌≡◌, refl, eqb, leb, ltb, get_or, take, drop, replicate}
use Rattle.std.proofs.Math.Bool.{true}
use mathlib.Core.List.{List, [], ◌∷◌, ◌++◌, append_assoc, map}
use Rattle.std.proofs.Math.Path.{ap, ap₂, sym}
use Rattle.std.proofs.Common.{◌∙◌, drop_at, length-take-le}
use native.Mathlib.Omega.{arith}
use Rattle.std.proofs.Math.ListN.{length, length-append}
use Rattle.std.proofs.lemmas.List.{length-replicate}
use Rattle.std.proofs.Math.Seq.{take_at}
use borrow.Author.Tests.{eqb-false, leb-true, ltb-true, ltb-false}
use Rattle.base_cells.specs.Numbers.{le, le_of, le_drop, le_same}
use Rattle.base_cells.specs.Records.{enc_fields, dec_fields, to_bool, sum, dec_enc, length_enc_fields}
use Rattle.base_tables.specs.Tables.{rows, length_rows, row_at_lem}
use Rattle.base_tables.specs.Ring.{by_cases, ring_of}
use Rattle.base_tables.specs.Regions.{joined, Sized, none, one, start, length_joined, region_at}
use Rattle.rules.specs.Lists.{any}
use Rattle.rules.specs.State.{Shape, Setup, no_shape}
use Rattle.rules.specs.Setup.{within, shape_ok, blank, first_id, fresh}
use Rattle.state_rules.specs.Places.{widths, setup_in, w_head, marks_in, table_in, ring_in, data_in, eds_in, table_size, events_size, data_size, state_size, sizes_at, head_used, assemblies_of}
use Rattle.state_rules.specs.Listed.{listed}
use Rattle.state_rules.specs.Setups.{shape_in, eds_of, setup_from, setup_of, good_shapes, good_setup, shapes_of}
use Rattle.state_rules.specs.SetupLaws.{shapes_pass}
use Rattle.state_rules.specs.Rows.{conns_in}
use Rattle.state_rules.specs.Image.{content_of, contents_of, record32, as_is, view, good_head, tested}
use Rattle.state_image.specs.Fits.{size_short}
use Rattle.state_image.specs.Holds.{part_in}
use Rattle.state_image.specs.TestLaws.{setup_passes, head_passes, state_passes}
use Rattle.app_starting.specs.Block.{shapes_at, shape_size, dec_shape, shapes_given, marked_block, region_of, setup_given, accepted, zeros, list_fresh, regions_fresh, started}
use Rattle.app_starting.specs.Given.{length_marked, few, shapes_ok, short_name, short_eds_name, some_transfer, short_eds, small_mark, eds_same}
use Rattle.app_starting.specs.Accept.{low_same}
use Rattle.app_starting.specs.Columns.{length_spread, take_spread, spread_at, size_past, shapes_spread}

-- ---- zeros

pub length_zeros : (n : ℕ) → length (zeros n) ≡ n
unfolding zeros
length_zeros n = length-replicate {A = ℕ} n 0

take_zeros : (a b : ℕ) → a ≤ b → take a (zeros b) ≡ zeros a
unfolding zeros
take_zeros zero b h = refl
take_zeros (suc a) zero h = absurd (omega arith)
take_zeros (suc a) (suc b) h = ap (λ (z : List ℕ). 0 ∷ z) (take_zeros a b (omega arith))

pub drop_zeros : (a b : ℕ) → drop a (zeros b) ≡ zeros (b - a)
unfolding zeros
drop_zeros zero b = ap (λ (n : ℕ). replicate n 0) (let e : b ≡ b - 0 = omega arith in e)
drop_zeros (suc a) zero = ap (λ (n : ℕ). replicate n 0) (let e : 0 ≡ 0 - suc a = omega arith in e)
drop_zeros (suc a) (suc b) = drop_zeros a b ∙ ap (λ (n : ℕ). replicate n 0) (let e : b - a ≡ suc b - suc a = omega arith in e)

first_zero : (n : ℕ) → get_or (zeros n) 0 0 ≡ 0
unfolding zeros
first_zero zero = refl
first_zero (suc n) = refl

le_of_zeros : (k n : ℕ) → le_of (take k (zeros n)) ≡ 0
unfolding zeros le_of
le_of_zeros zero n = refl
le_of_zeros (suc k) zero = refl
le_of_zeros (suc k) (suc n) = let e = le_of_zeros k n in omega arith

le_zeros : (k n at : ℕ) → le k (zeros n) at ≡ 0
unfolding le
le_zeros k n at = ap (λ (z : List ℕ). le_of (take k z)) (drop_zeros at n) ∙ le_of_zeros k (n - at)

as_zeros : (n : ℕ) → zeros n ≡ replicate n 0
unfolding zeros
as_zeros n = refl

-- an assembly begins with zeros, idle
contents_fresh : (ss : List Shape) (m d : ℕ) → ((i : ℕ) → (get_or ss i no_shape).size ≤ 512) → length ss * 512 ≤ d → contents_of ss (zeros m) (zeros d) ≡ map blank ss
unfolding contents_of
contents_fresh [] m d h g = refl
contents_fresh (a ∷ ss) m d h g =
    let k = h 0 in
    let b : take a.size (take 512 (zeros d)) ≡ replicate a.size 0 =
    ap (take a.size) (take_zeros 512 d (omega arith)) ∙ take_zeros a.size 512 (omega arith) ∙ as_zeros a.size in
    let e : content_of a (get_or (zeros m) 0 0) (take 512 (zeros d)) ≡ blank a =
    ap (λ (n : ℕ). content_of a n (take 512 (zeros d))) (first_zero m) ∙ (λ i. record { bytes = b i; run = false; notified = false }) in
    ap₂ ◌∷◌ e
    (ap₂ (contents_of ss) (drop_zeros 1 m) (drop_zeros 512 d) ∙ contents_fresh ss (m - 1) (d - 512) (λ i. h (suc i)) (omega arith))

-- shapes that the rules accept pass the state test
shape_pair : (a b : Bool) → not (not a || b) ≡ true → (a ≡ true) × (not b ≡ true)
shape_pair true b e = (refl, e)
shape_pair false b e = absurd (let z : ◌≡◌ {A = ℕ} 0 1 = cc in omega arith)

small_of : (a b : Bool) → a && b ≡ true → b ≡ true
small_of true b e = e
small_of false b e = absurd (let z : ◌≡◌ {A = ℕ} 0 1 = cc in omega arith)

each_small : (ss : List Shape) → not (any (λ a. not (shape_ok a)) ss) ≡ true → (i : ℕ) → (get_or ss i no_shape).size ≤ 512
each_small [] e i = omega arith
each_small (a ∷ ss) e zero =
    leb-true a.size 512 (small_of (within 1 65535 a.instance) (leb a.size 512) (shape_pair (shape_ok a) (any (λ b. not (shape_ok b)) ss) e).0)
each_small (a ∷ ss) e (suc i) = each_small ss (shape_pair (shape_ok a) (any (λ b. not (shape_ok b)) ss) e).1 i

first_odd : (seed : ℕ) → 0 < first_id seed
first_odd seed =
    by_cases (eqb (seed % 2) 0)
    (λ e. rw e (omega arith))
    (λ e. let q = eqb-false (seed % 2) 0 e in rw e (pos seed q))
  where
    pos : (n : ℕ) → (n % 2 ≡ 0 → ⊥) → 0 < n
    pos zero q = absurd (q refl)
    pos (suc n) q = omega arith

module _ (block eds : List ℕ) (seed : ℕ) (ok : accepted block eds ≡ true) where
  abbrev s : List ℕ
  s = started block eds seed

  abbrev m : List ℕ
  m = marked_block block eds

  abbrev r : List ℕ
  r = region_of block eds

  -- ---- the region: what was given, in its columns

  abbrev front : List ℕ
  front = take shapes_at (marked_block block eds)

  length_front : length (take shapes_at (marked_block block eds)) ≡ shapes_at
  length_front = let n = length_marked block eds ok in length-take-le shapes_at m (omega arith)

  length_before : length (take shapes_at (marked_block block eds) ++ zeros 82) ≡ 192
  length_before = let a = length_front in let b = length_zeros 82 in length-append front (zeros 82) ∙ omega arith

  length_region : length (region_of block eds) ≡ 192
  unfolding region_of
  length_region = length_spread block (assemblies_of block) (front ++ zeros 82) ∙ length_before

  front_same : take shapes_at (region_of block eds) ≡ take shapes_at (marked_block block eds)
  unfolding region_of
  front_same = take_spread block (assemblies_of block) (front ++ zeros 82) ∙ take_at front (zeros 82) shapes_at length_front

  number_same : (k at : ℕ) → at + k ≤ shapes_at → le k (region_of block eds) at ≡ le k (marked_block block eds) at
  number_same k at h = le_same k r m at shapes_at h front_same

  part_same : (n k : ℕ) → k + n ≤ shapes_at → take n (drop k (region_of block eds)) ≡ take n (drop k (marked_block block eds))
  part_same n k h = sym (part_in n k shapes_at r h) ∙ ap (λ (z : List ℕ). take n (drop k z)) front_same ∙ part_in n k shapes_at m h

  name_same : (at k : ℕ) → at + 1 ≤ shapes_at → le 1 (marked_block block eds) at ≤ 32 → k + 32 ≤ shapes_at
      → take (le 1 (region_of block eds) at) (drop k (region_of block eds)) ≡ take (le 1 (marked_block block eds) at) (drop k (marked_block block eds))
  name_same at k h p g = ap (λ (n : ℕ). take n (drop k r)) (number_same 1 at h) ∙ part_same (le 1 m at) k (omega arith)

  count_same : assemblies_of (region_of block eds) ≡ assemblies_of block
  count_same = number_same 1 0 (omega arith) ∙ low_same block eds 0 (omega arith)

  shapes_same : shapes_of (region_of block eds) ≡ shapes_given block
  unfolding region_of
  shapes_same =
      let l = length_before in
      ap (listed (shape_in r)) count_same ∙ shapes_spread block (assemblies_of block) (front ++ zeros 82) (few block eds ok) (omega arith)

  -- at a place that is not in use the size is 0
  blank_size : (i : ℕ) → i < 16 → (shape_in (take shapes_at (marked_block block eds) ++ zeros 82) i).size ≡ 0
  unfolding shape_in
  blank_size i h =
      ap (le 2 (front ++ zeros 82)) (let e : sizes_at + i * 2 ≡ shapes_at + (32 + i * 2) = omega arith in e)
      ∙ sym (le_drop 2 (front ++ zeros 82) shapes_at (32 + i * 2))
      ∙ ap (λ (z : List ℕ). le 2 z (32 + i * 2)) (drop_at front (zeros 82) shapes_at length_front)
      ∙ le_zeros 2 82 (32 + i * 2)

  small_at : (i : ℕ) → i < 16 → (shape_in (region_of block eds) i).size ≤ 512
  unfolding region_of
  small_at i h =
      let n : ℕ = assemblies_of block in
      let l = length_before in
      let f = few block eds ok in
      by_cases (ltb i n)
      (λ t. let p : i < n = ltb-true i n t in
      let a : (shape_in r i).size ≡ (get_or (shapes_given block) i no_shape).size =
      ap (λ (x : Shape). x.size) (spread_at block n (front ++ zeros 82) f (omega arith) i p ∙ sym (row_at_lem shape_size dec_shape n (drop shapes_at block) i no_shape p)) in
      let b = each_small (shapes_given block) (shapes_ok block eds ok) i in
      omega arith)
      (λ t. let p : n ≤ i = ltb-false i n t in
      let a : (shape_in r i).size ≡ 0 = size_past block n (front ++ zeros 82) i p h ∙ blank_size i h in
      omega arith)

  shapes_good : good_shapes (region_of block eds) ≡ true
  shapes_good = shapes_pass r small_at

  -- ---- the fresh state's regions

  length_fresh_head : length (enc_fields w_head (list_fresh seed) ++ zeros 14) ≡ 48
  unfolding sum
  length_fresh_head =
      let a : length (enc_fields w_head (list_fresh seed)) ≡ head_used = length_enc_fields w_head (list_fresh seed) tt in
      let b = length_zeros 14 in
      length-append (enc_fields w_head (list_fresh seed)) (zeros 14) ∙ omega arith

  length_eds_region : length (eds ++ zeros (65536 - length eds)) ≡ 65536
  length_eds_region =
      let a = length_zeros (65536 - length eds) in let b = short_eds block eds ok in
      length-append eds (zeros (65536 - length eds)) ∙ omega arith

  sized : Sized widths (regions_fresh block eds seed)
  sized =
      one length_region (one length_fresh_head (one (length_zeros 16) (one (length_zeros table_size) (one (length_zeros events_size) (one (length_zeros data_size) (one length_eds_region none))))))

  pub length_started : length (started block eds seed) ≡ state_size
  unfolding started sum
  length_started = length_joined sized

  setup_at : setup_in (started block eds seed) ≡ region_of block eds
  unfolding started start
  setup_at = region_at 0 sized (omega arith)

  marks_at_lem : marks_in (started block eds seed) ≡ zeros 16
  unfolding started start
  marks_at_lem = region_at 2 sized (omega arith)

  table_at : table_in (started block eds seed) ≡ zeros table_size
  unfolding started start
  table_at = region_at 3 sized (omega arith)

  data_at_lem : data_in (started block eds seed) ≡ zeros data_size
  unfolding started start
  data_at_lem = region_at 5 sized (omega arith)

  eds_at_lem : eds_in (started block eds seed) ≡ eds ++ zeros (65536 - length eds)
  unfolding started start
  eds_at_lem = region_at 6 sized (omega arith)

  head_at : dec_fields w_head (started block eds seed) 192 ≡ list_fresh seed
  unfolding started joined
  head_at =
      let e : List ℕ = enc_fields w_head (list_fresh seed) in
      let q : List ℕ = zeros 16 ++ (zeros table_size ++ (zeros events_size ++ (zeros data_size ++ ((eds ++ zeros (65536 - length eds)) ++ [])))) in
      ap (λ (z : List ℕ). dec_fields w_head (r ++ z) 192) (append_assoc e (zeros 14) q)
      ∙ dec_enc w_head (list_fresh seed) tt r (zeros 14 ++ q) 192 length_region

  number : (k : ℕ) → get_or (dec_fields w_head (started block eds seed) 192) k 0 ≡ get_or (list_fresh seed) k 0
  number k = ap (λ (vs : List ℕ). get_or vs k 0) head_at

  eds_read : eds_of (le 4 (region_of block eds) 4) (eds ++ zeros (65536 - length eds)) ≡ eds_of (le 4 (marked_block block eds) 4) eds
  eds_read =
      ap (λ (n : ℕ). eds_of n (eds ++ zeros (65536 - length eds))) (number_same 4 4 (omega arith)) ∙ eds_same block eds ok (zeros (65536 - length eds))

  pub setup_started : setup_of (started block eds seed) ≡ setup_given block eds
  unfolding setup_of setup_given
  setup_started =
      ap₂ setup_from setup_at eds_at_lem
      ∙ (λ i.
      record {
        identity =
            record {
              vendor = number_same 2 8 (omega arith) i;
              device = number_same 2 10 (omega arith) i;
              product = number_same 2 12 (omega arith) i;
              major = number_same 1 14 (omega arith) i;
              minor = number_same 1 15 (omega arith) i;
              serial = number_same 4 16 (omega arith) i;
              name = name_same 2 46 (omega arith) (short_name block eds ok) (omega arith) i;
            };
        input_only = number_same 4 20 (omega arith) i;
        listen_only = number_same 4 24 (omega arith) i;
        rpi_min = number_same 4 28 (omega arith) i;
        rpi_max = number_same 4 32 (omega arith) i;
        late_limit = number_same 4 36 (omega arith) i;
        transfer_limit = number_same 1 1 (omega arith) i;
        mac = part_same 6 40 (omega arith) i;
        eds = eds_read i;
        eds_name = name_same 3 78 (omega arith) (short_eds_name block eds ok) (omega arith) i;
        assemblies = shapes_same i;
      })

  few_there : assemblies_of (setup_in (started block eds seed)) ≤ 16
  few_there =
      let a : assemblies_of (setup_in s) ≡ assemblies_of block = ap assemblies_of setup_at ∙ count_same in let f = few block eds ok in omega arith

  few_bytes : length (setup_of (started block eds seed)).assemblies * 512 ≤ data_size
  unfolding setup_given
  few_bytes =
      let e : length (setup_of s).assemblies ≡ length (setup_given block eds).assemblies = ap (λ (z : Setup). length z.assemblies) setup_started in
      let n = length_rows shape_size dec_shape (assemblies_of block) (drop shapes_at block) in
      let f = few block eds ok in
      omega arith

  pub view_started : view (started block eds seed) ≡ fresh (setup_given block eds) seed
  unfolding view fresh rows ring_of
  view_started =
      let u : Setup = setup_of s in
      let c : contents_of (setup_of s).assemblies (marks_in s) (data_in s) ≡ map blank (setup_given block eds).assemblies =
      ap₂ (contents_of (setup_of s).assemblies) marks_at_lem data_at_lem
      ∙ contents_fresh (setup_of s).assemblies 16 data_size (size_short s few_there (ap good_shapes setup_at ∙ shapes_good)) few_bytes
      ∙ ap (λ (z : Setup). map blank z.assemblies) setup_started in
      λ i.
      record {
        setup = setup_started i;
        contents = c i;
        table = conns_in (number 5 i) (table_in s);
        events = record { gone = number 4 i / 2 % 1024; waiting = ring_of 32 record32 as_is (number 4 i / 2 % 1024) (number 4 i / 2048) (ring_in s) };
        fault = to_bool (number 4 i % 2);
        next_id = number 3 i;
        counters = record { produced = number 0 i; late = number 1 i; max_late = number 2 i };
      }

  pub tested_started : tested (started block eds seed) ≡ true
  unfolding rows
  tested_started =
      let e₀ = count_same in let e₁ = number_same 1 1 (omega arith) in let e₂ = number_same 1 2 (omega arith) in let e₃ = number_same 1 3 (omega arith) in
      let e₄ = number_same 4 4 (omega arith) in
      let h₀ = few block eds ok in let h₁ = some_transfer block eds ok in let h₂ = short_name block eds ok in let h₃ = short_eds_name block eds ok in
      let h₄ = small_mark block eds ok in
      let a : good_setup (setup_in s) ≡ true =
      ap good_setup setup_at ∙ sym (setup_passes r (omega arith) (omega arith) (omega arith) (omega arith) (omega arith)) in
      let h : good_head s ≡ true =
      sym (head_passes s (rw (number 3) (first_odd seed)) (rw (number 4) (omega arith)) (rw (number 5) (omega arith))) in
      sym (state_passes s length_started a h (ap good_shapes setup_at ∙ shapes_good))
