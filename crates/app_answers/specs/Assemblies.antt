-- What an assembly holds, as code reads it.
use Rattle.std.specs.Prelude.{ℕ, ◌+◌, ◌*◌, ◌≤◌, ◌<◌, true, List, ◌≡◌, length, take, drop}
use Rattle.std.proofs.Common.{ap, sym, ◌∙◌, arith}
use Rattle.base_cells.specs.Back.{Bytes}
use Rattle.rules.specs.State.{Shape, shape_at, content_at}
use Rattle.state_rules.specs.Setups.{shape_in}
use Rattle.state_rules.specs.Places.{data_from, mark_at, assemblies_of}
use Rattle.state_rules.specs.Bits.{run_in}
use Rattle.state_rules.specs.Image.{view, tested}
use Rattle.state_image.specs.Holds.{Holds, holds_tested, slotted_tested, assemblies_held, shape_held, run_held, bytes_held}

module _ (s : List ℕ) (t : tested s ≡ true) (b : Bytes s) (i : ℕ) (p : i < assemblies_of s) where
  abbrev h : Holds s (view s) s
  h = holds_tested s t b

  pub in_contents : i < length (view s).contents
  in_contents = let e = assemblies_held s (view s) s h in omega arith

  -- its size, its bytes and its mark
  pub size_is : length (content_at (view s) i).bytes ≡ (shape_in s i).size
  size_is = h.suits.fits.sized i ∙ ap (λ (a : Shape). a.size) (sym (shape_held s (view s) s h i p))

  pub setup_size_lem : (shape_at (view s).setup i).size ≡ (shape_in s i).size
  setup_size_lem = ap (λ (a : Shape). a.size) (sym (shape_held s (view s) s h i p))

  pub size_small : (shape_in s i).size ≤ 512
  size_small = slotted_tested s t i p

  pub data_is : take (shape_in s i).size (drop (data_from + i * 512) s) ≡ (content_at (view s) i).bytes
  data_is = ap (λ (n : ℕ). take n (drop (data_from + i * 512) s)) (sym size_is) ∙ bytes_held s (view s) s h i in_contents

  pub run_is : run_in (mark_at s i) ≡ (content_at (view s) i).run
  run_is = run_held s (view s) s h i in_contents
