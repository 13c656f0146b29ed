-- What is known of a request that parsed.
use Prim.Native.Nat.{ℕ, ◌+◌, ◌*◌, ◌≤◌}
use Rattle.std.specs.Prelude.{Bool, List, ◌++◌, ◌≡◌, refl, leb, Option, Some, None}
use Rattle.std.proofs.Math.Bool.{true, false}
use Rattle.std.proofs.Common.{ap, ◌∙◌}
use Rattle.std.proofs.Math.Path.{sym}
use native.Mathlib.Omega.{arith}
use borrow.Author.Tests.{leb-true, le-leb}
use Rattle.std.proofs.Math.ListN.{length, length-append}
use Rattle.std.proofs.lemmas.List.{take-append-le}
use Rattle.base_cells.specs.Pick.{pick}
use Rattle.base_cells.specs.Numbers.{le, le_same}
use Rattle.base_ids.specs.declared.Triad.{Triad}
use Rattle.wire_rules.specs.Params.{params_at}
use Rattle.wire_rules.specs.Opens.{limit, width_of, triad_at, way_at, place_at, fields_of, open_with, open_of, close_of}
use Rattle.wire_rules.specs.declared.ForwardOpen.{ForwardOpen}

-- an open passed each test that stands before it
opened : (b : Bool) (a : Option ForwardOpen) (o : ForwardOpen) → pick b a None ≡ Some o → (b ≡ true) × (a ≡ Some o)
opened true a o e = (refl, e)
opened false a o e = absurd (let z : ◌≡◌ {A = ℕ} 0 1 = cc in omega arith)

closed : (b : Bool) (a : Option Triad) (t : Triad) → pick b a None ≡ Some t → (b ≡ true) × (a ≡ Some t)
closed true a t e = (refl, e)
closed false a t e = absurd (let z : ◌≡◌ {A = ℕ} 0 1 = cc in omega arith)

module _ (large : Bool) (s : List ℕ) (o : ForwardOpen) (e : open_of large s ≡ Some o) where
  within : (leb (length s) limit ≡ true) × (open_with large s (width_of large) ≡ Some o)
  unfolding open_of
  within = opened (leb (length s) limit) (open_with large s (width_of large)) o e

  whole : (leb (32 + width_of large + width_of large + 2 * le 1 s (31 + width_of large + width_of large)) (length s) ≡ true) × (Some (fields_of large s (width_of large)) ≡ Some o)
  unfolding open_with
  whole = opened _ _ o within.1

  -- the request is of the stated size
  pub open_size : length s ≤ limit
  open_size = leb-true _ _ within.0

  -- its fields are those at their offsets
  pub open_fields : o ≡ fields_of large s (width_of large)
  open_fields = cc whole.1

  -- its path is all there
  pub open_path : o.path.start + o.path.len ≤ length s
  unfolding fields_of place_at
  open_path = rw open_fields (leb-true _ _ whole.0)

module _ (s : List ℕ) (r : Triad) (e : close_of s ≡ Some r) where
  close_within : (leb (length s) limit ≡ true) × (pick (leb (12 + 2 * le 1 s 10) (length s)) (Some (triad_at s 2)) None ≡ Some r)
  unfolding close_of
  close_within = closed (leb (length s) limit) _ r e

  close_whole : (leb (12 + 2 * le 1 s 10) (length s) ≡ true) × (Some (triad_at s 2) ≡ Some r)
  close_whole = closed _ _ r close_within.1

  pub close_triad : r ≡ triad_at s 2
  close_triad = cc close_whole.1

  -- its path is all there
  pub close_path : 12 + 2 * le 1 s 10 ≤ length s
  close_path = leb-true _ _ close_whole.0

-- ---- bytes after the path are ignored

module _ (s t : List ℕ) where
  same : (k at : ℕ) → at + k ≤ length s → le k (s ++ t) at ≡ le k s at
  same k at h = le_same k (s ++ t) s at (length s) h (take-append-le (length s) s t (omega arith))

  same_params : (large : Bool) (at : ℕ) → at + 4 ≤ length s → params_at large (s ++ t) at ≡ params_at large s at
  unfolding params_at
  same_params true at h = rw (same 4 at h)
  same_params false at h = rw (same 2 at (omega arith))

  same_triad : (at : ℕ) → at + 8 ≤ length s → triad_at (s ++ t) at ≡ triad_at s at
  unfolding triad_at
  same_triad at h = rw (same 2 at (omega arith), same 2 (at + 2) (omega arith), same 4 (at + 4) (omega arith))

  same_way : (large : Bool) (at : ℕ) → at + 8 ≤ length s → way_at large (s ++ t) at ≡ way_at large s at
  unfolding way_at
  same_way large at h = rw (same 4 at (omega arith), same_params large (at + 4) (omega arith))

  same_fields : (large : Bool) (w : ℕ) → 2 ≤ w → w ≤ 4 → 32 + w + w ≤ length s → fields_of large (s ++ t) w ≡ fields_of large s w
  unfolding fields_of place_at
  same_fields large w h g f =
      rw (
        same 4 2 (omega arith),
        same 4 6 (omega arith),
        same_triad 10 (omega arith),
        same 1 18 (omega arith),
        same_way large 22 (omega arith),
        same_way large (26 + w) (omega arith),
        same 1 (30 + w + w) (omega arith),
        same 1 (31 + w + w) (omega arith),
      )

  width_least : (large : Bool) → (2 ≤ width_of large) × (width_of large ≤ 4)
  unfolding width_of
  width_least true = (omega arith, omega arith)
  width_least false = (omega arith, omega arith)

  pub open_rest : (large : Bool) (o : ForwardOpen) → open_of large s ≡ Some o → length (s ++ t) ≤ limit → open_of large (s ++ t) ≡ Some o
  unfolding open_of open_with
  open_rest large o e h =
      let w : ℕ = width_of large in
      let least = width_least large in
      let there : 32 + w + w + 2 * le 1 s (31 + w + w) ≤ length s = leb-true _ _ (whole large s o e).0 in
      let last : le 1 (s ++ t) (31 + w + w) ≡ le 1 s (31 + w + w) = same 1 (31 + w + w) (omega arith) in
      simp (le-leb _ _ h, last, le-leb (32 + w + w + 2 * le 1 s (31 + w + w)) (length (s ++ t)) (simp length-append (omega arith)))
      (ap Some (same_fields large w least.0 least.1 (omega arith) ∙ sym (open_fields large s o e)))

  pub close_rest : (r : Triad) → close_of s ≡ Some r → length (s ++ t) ≤ limit → close_of (s ++ t) ≡ Some r
  unfolding close_of
  close_rest r e h =
      let there : 12 + 2 * le 1 s 10 ≤ length s = close_path s r e in
      let last : le 1 (s ++ t) 10 ≡ le 1 s 10 = same 1 10 (omega arith) in
      simp (le-leb _ _ h, last, le-leb (12 + 2 * le 1 s 10) (length (s ++ t)) (simp length-append (omega arith)))
      (ap Some (same_triad 2 (omega arith) ∙ sym (close_triad s r e)))
