-- The fresh state, as code writes it: zeros, then the block up to its assemblies, the EDS mark, the columns, the next id and the EDS.
use Prim.Native.Nat.{ℕ, zero, suc, ◌+◌, ◌-◌, ◌≤◌}
use mathlib.Core.List.{List, [], ◌∷◌, ◌++◌, append-nil}
use Rattle.std.specs.Prelude.{◌≡◌, refl, drop, replicate}
use Rattle.std.proofs.Math.Path.{ap, ap₂}
use Rattle.std.proofs.Common.{sym, ◌∙◌, arith, length-append, take-append-drop, take_at}
use Rattle.std.proofs.Math.ListN.{length, take, set}
use Rattle.std.proofs.lemmas.List.{length-replicate}
use Rattle.std.proofs.Math.Seq.{sets, length-sets, length-take-le}
use Rattle.std.proofs.lemmas.List.Edits.{sets-eq}
use Rattle.base_cells.specs.Numbers.{le, put, le_bytes, length_le_bytes, length_put}
use Rattle.base_cells.specs.Records.{enc_fields}
use Rattle.base_tables.specs.Slots.{sets_whole}
use Rattle.base_tables.specs.Regions.{joined, Sized, none, one, start, sized_set}
use Rattle.base_tables.specs.RegionWrites.{region_sets}
use Rattle.rules.specs.Setup.{first_id}
use Rattle.state_rules.specs.Places.{widths, w_head, table_size, events_size, data_size, eds_at, state_size, next_id_at, assemblies_of}
use Rattle.app_starting.specs.Block.{shapes_at, eds_mark, marked_block, spread, region_of, zeros, list_fresh, started}
use Rattle.app_starting.specs.Columns.{length_spread, put_left, spread_left}
use Rattle.app_starting.specs.Fresh.{length_zeros, drop_zeros}

zeros_add : (a b : ℕ) → zeros (a + b) ≡ zeros a ++ zeros b
unfolding zeros
zeros_add zero b = ap (λ (n : ℕ). replicate n 0) (let e : 0 + b ≡ b = omega arith in e)
zeros_add (suc a) b = ap (λ (n : ℕ). replicate n 0) (let e : suc a + b ≡ suc (a + b) = omega arith in e) ∙ ap (λ (z : List ℕ). 0 ∷ z) (zeros_add a b)

abbrev nothing : List (List ℕ)
nothing = zeros 192 ∷ zeros 48 ∷ zeros 16 ∷ zeros table_size ∷ zeros events_size ∷ zeros data_size ∷ zeros 65536 ∷ []

nothing_sized : Sized widths nothing
nothing_sized =
    one (length_zeros 192) (one (length_zeros 48) (one (length_zeros 16) (one (length_zeros table_size) (one (length_zeros events_size) (one (length_zeros data_size) (one (length_zeros 65536) none))))))

all_nothing : zeros state_size ≡ joined nothing
unfolding joined
all_nothing =
    zeros_add 192 108864
    ∙ ap (λ (z : List ℕ). zeros 192 ++ z)
    (zeros_add 48 108816
    ∙ ap (λ (z : List ℕ). zeros 48 ++ z)
    (zeros_add 16 108800
    ∙ ap (λ (z : List ℕ). zeros 16 ++ z)
    (zeros_add table_size 106496
    ∙ ap (λ (z : List ℕ). zeros table_size ++ z)
    (zeros_add events_size 73728
    ∙ ap (λ (z : List ℕ). zeros events_size ++ z)
    (zeros_add data_size 65536
    ∙ ap (λ (z : List ℕ). zeros data_size ++ z) (sym (append-nil (zeros 65536))))))))

-- the head: zeros, but the next id
head_begun : (seed : ℕ) → sets (zeros 48) 24 (le_bytes 4 (first_id seed)) ≡ enc_fields w_head (list_fresh seed) ++ zeros 14
unfolding zeros enc_fields le_bytes
head_begun seed = refl

-- the EDS's region: its bytes, then zeros
eds_begun : (eds : List ℕ) → length eds ≤ 65536 → sets (zeros 65536) 0 eds ≡ eds ++ zeros (65536 - length eds)
eds_begun eds h =
    let n = length_zeros 65536 in
    sets-eq eds (zeros 65536) 0 (omega arith)
    ∙ ap (λ (z : List ℕ). eds ++ z) (drop_zeros (0 + length eds) 65536 ∙ ap (λ (k : ℕ). zeros (65536 - k)) (let e : 0 + length eds ≡ length eds = omega arith in e))

-- the block up to its assemblies, over zeros, and the mark
front_begun : (block : List ℕ) → length block ≡ 192 → sets (zeros 192) 0 (take shapes_at block) ≡ take shapes_at block ++ zeros 82
front_begun block long =
    let t : List ℕ = take shapes_at block in
    let lt : length (take shapes_at block) ≡ shapes_at = length-take-le shapes_at block (omega arith) in
    let n = length_zeros 192 in
    sets-eq t (zeros 192) 0 (omega arith)
    ∙ ap (λ (z : List ℕ). t ++ z) (drop_zeros (0 + length t) 192 ∙ ap zeros (let e : 192 - (0 + length t) ≡ 82 = omega arith in e))

front_marked : (block eds : List ℕ) → length block ≡ 192
    → put 4 (take shapes_at block ++ zeros 82) 4 (eds_mark (le 4 block 4) eds) ≡ take shapes_at (marked_block block eds) ++ zeros 82
unfolding marked_block
front_marked block eds long =
    let t : List ℕ = take shapes_at block in
    let m : ℕ = eds_mark (le 4 block 4) eds in
    let lt : length (take shapes_at block) ≡ shapes_at = length-take-le shapes_at block (omega arith) in
    let lp : length (put 4 t 4 m) ≡ shapes_at = length_put 4 t 4 m ∙ lt in
    let b : take shapes_at (put 4 block 4 m) ≡ put 4 t 4 m =
    ap (λ (z : List ℕ). take shapes_at (put 4 z 4 m)) (sym (take-append-drop shapes_at block))
    ∙ ap (take shapes_at) (put_left 4 t (drop shapes_at block) 4 m (omega arith))
    ∙ take_at (put 4 t 4 m) (drop shapes_at block) shapes_at lp in
    put_left 4 t (zeros 82) 4 m (omega arith) ∙ ap (λ (z : List ℕ). z ++ zeros 82) (sym b)

module _ (block eds : List ℕ) (seed mark : ℕ) (long : length block ≡ 192) (few : assemblies_of block ≤ 16) (short : length eds ≤ 65535) (em : mark ≡ eds_mark (le 4 block 4) eds) where
  abbrev rest : List (List ℕ)
  rest = zeros 48 ∷ zeros 16 ∷ zeros table_size ∷ zeros events_size ∷ zeros data_size ∷ zeros 65536 ∷ []

  abbrev front : List ℕ
  front = take shapes_at (marked_block block eds) ++ zeros 82

  length_first : length (take shapes_at block ++ zeros 82) ≡ 192
  length_first =
      let lt : length (take shapes_at block) ≡ shapes_at = length-take-le shapes_at block (omega arith) in let lz = length_zeros 82 in
      length-append (take shapes_at block) (zeros 82) ∙ omega arith

  length_front : length (take shapes_at (marked_block block eds) ++ zeros 82) ≡ 192
  length_front = ap length (sym (front_marked block eds long)) ∙ length_put 4 (take shapes_at block ++ zeros 82) 4 (eds_mark (le 4 block 4) eds) ∙ length_first

  length_region : length (region_of block eds) ≡ 192
  unfolding region_of
  length_region = length_spread block (assemblies_of block) front ∙ length_front

  -- the setup's region, made
  region_begun : (s₀ s₁ s₂ s₃ : List ℕ) (n : ℕ) → n ≡ assemblies_of block → s₀ ≡ zeros state_size → s₁ ≡ sets s₀ 0 (take shapes_at block) → s₂ ≡ put 4 s₁ 4 mark
      → s₃ ≡ spread block n s₂ → s₃ ≡ joined (region_of block eds ∷ rest)
  unfolding joined region_of start
  region_begun s₀ s₁ s₂ s₃ n en e₀ e₁ e₂ e₃ =
      let t : List ℕ = take shapes_at block in
      let lt : length (take shapes_at block) ≡ shapes_at = length-take-le shapes_at block (omega arith) in
      let l₁ = length_first in let l₂ = length_front in
      let q₁ : s₁ ≡ (t ++ zeros 82) ++ joined rest =
      e₁ ∙ ap (λ (x : List ℕ). sets x 0 t) (e₀ ∙ all_nothing)
      ∙ region_sets 0 0 t nothing_sized (omega arith) (omega arith)
      ∙ ap (λ (x : List ℕ). x ++ joined rest) (front_begun block long) in
      let q₂ : s₂ ≡ front ++ joined rest =
      e₂ ∙ ap₂ (λ (x : List ℕ) (v : ℕ). put 4 x 4 v) q₁ em
      ∙ put_left 4 (t ++ zeros 82) (joined rest) 4 (eds_mark (le 4 block 4) eds) (omega arith)
      ∙ ap (λ (x : List ℕ). x ++ joined rest) (front_marked block eds long) in
      e₃ ∙ ap₂ (spread block) en q₂ ∙ spread_left block (assemblies_of block) front (joined rest) few (omega arith)

  pub begun : (s₀ s₁ s₂ s₃ s₄ s₅ : List ℕ) (n id : ℕ) → n ≡ assemblies_of block → id ≡ first_id seed → s₀ ≡ zeros state_size → s₁ ≡ sets s₀ 0 (take shapes_at block)
      → s₂ ≡ put 4 s₁ 4 mark → s₃ ≡ spread block n s₂ → s₄ ≡ put 4 s₃ next_id_at id → s₅ ≡ sets s₄ eds_at eds → s₅ ≡ started block eds seed
  unfolding put started start
  begun s₀ s₁ s₂ s₃ s₄ s₅ n id en ei e₀ e₁ e₂ e₃ e₄ e₅ =
      let r₃ : List (List ℕ) = region_of block eds ∷ rest in
      let z₃ : Sized widths r₃ = sized_set 0 (region_of block eds) nothing_sized length_region in
      let i : List ℕ = le_bytes 4 (first_id seed) in
      let li = length_le_bytes 4 (first_id seed) in
      let h : List ℕ = sets (zeros 48) 24 i in
      let lh : length h ≡ 48 = length-sets (zeros 48) 24 i ∙ length_zeros 48 in
      let r₄ : List (List ℕ) = set r₃ 1 h in
      let z₄ : Sized widths r₄ = sized_set 1 h z₃ lh in
      let q₃ : s₃ ≡ joined r₃ = region_begun s₀ s₁ s₂ s₃ n en e₀ e₁ e₂ e₃ in
      let q₄ : s₄ ≡ joined r₄ =
      e₄ ∙ ap₂ (λ (x : List ℕ) (v : ℕ). sets x next_id_at (le_bytes 4 v)) q₃ ei ∙ region_sets 1 24 i z₃ (omega arith) (omega arith) in
      e₅ ∙ ap (λ (x : List ℕ). sets x eds_at eds) q₄
      ∙ region_sets 6 0 eds z₄ (omega arith) (omega arith)
      ∙ (λ j. joined (region_of block eds ∷ head_begun seed j ∷ zeros 16 ∷ zeros table_size ∷ zeros events_size ∷ zeros data_size ∷ eds_begun eds (omega arith) j ∷ []))

-- every byte made zero
pub all_zero : (s x : List ℕ) → x ≡ sets s 0 (replicate (length s) 0) → x ≡ zeros (length s)
unfolding zeros
all_zero s x e = e ∙ sets_whole s (replicate (length s) 0) (sym (length-replicate {A = ℕ} (length s) 0))
