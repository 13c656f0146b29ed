-- What was read fits its field of the record.
use Prim.Native.Nat.{ℕ, ◌+◌, ◌*◌, ◌≤◌, ◌<◌, min}
use Rattle.std.specs.Prelude.{Bool, true, false, List, ltb, leb, length, take, drop, Result, Ok, Err}
use Rattle.std.proofs.Math.Path.{◌≡◌, refl}
use native.Mathlib.Omega.{arith}
use Rattle.std.proofs.Common.{add-one, ltb-true, ltb-false, lt-ltb}
use Rattle.std.proofs.Math.ListN.{get_or}
use Rattle.base_cells.specs.Pick.{pick}
use Rattle.wire_rules.specs.Segments.{path_max, step_at, Segs, segs, broken, segs_from, segs_of}
use Rattle.wire_rules.specs.ConnectionPath.{numbers_in, connection_path, path_read, path_of}
use Rattle.wire_segments.specs.PathLaws as paths
use Rattle.wire_rules.specs.declared.ConnectionPath.{ConnectionPath}
use Rattle.wire_rules.specs.Requests.{message_max, request_with, request_of}
use Rattle.wire_requests.specs.PlaceLaws as places
use Rattle.wire_rules.specs.declared.Request.{Request}

-- a path over size is broken at once
over : (s : List ℕ) → path_max < length s → path_of s ≡ Err path_max
unfolding path_of segs_of segs_from step_at
over s h = rw (add-one (length s)) (simp (lt-ltb path_max (length s) h))

module _ (s : List ℕ) (p : ConnectionPath) (e : Ok p ≡ path_of s) where
  size : length s ≤ path_max
  size = by (ltb path_max (length s)) refl
    where
      by : (b : Bool) → ltb path_max (length s) ≡ b → length s ≤ path_max
      by false q = ltb-false path_max (length s) q
      by true q = absurd (let o : path_of s ≡ Err path_max = over s (ltb-true path_max (length s) q) in let z : ◌≡◌ {A = ℕ} 0 1 = cc in omega arith)

  count : p.count ≤ 4
  unfolding path_of connection_path
  count = go (segs_of s) e
    where
      go : (r : Segs) → Ok p ≡ path_read r → p.count ≤ 4
      go (segs l) q = let n : p.count ≡ min (length (numbers_in l)) 4 = cc in omega arith
      go (broken o) q = absurd (let z : ◌≡◌ {A = ℕ} 0 1 = cc in omega arith)

  pub path_bounds : (p.count ≤ 4) × (p.datastart + p.datalen ≤ 510)
  path_bounds = (count, omega (arith, size, paths.data_inside s p e))

module _ (m : List ℕ) (q : Request) (e : Ok q ≡ request_of m) where
  message : length m ≤ message_max
  unfolding request_of
  message = by (ltb message_max (length m)) refl e
    where
      rest : Result Request ℕ
      rest = pick (leb (2 + get_or m 1 0 * 2) (length m)) (request_with (get_or m 0 0) (2 + get_or m 1 0 * 2) (segs_of (take (get_or m 1 0 * 2) (drop 2 m)))) (Err (get_or m 0 0))

      by : (b : Bool) → ltb message_max (length m) ≡ b → Ok q ≡ pick b (Err (get_or m 0 0)) rest → length m ≤ message_max
      by false f g = ltb-false message_max (length m) f
      by true f g = absurd (let z : ◌≡◌ {A = ℕ} 0 1 = cc in omega arith)

  pub request_bounds : q.datastart ≤ 65536
  request_bounds = omega (arith, message, places.data_inside m q e)
