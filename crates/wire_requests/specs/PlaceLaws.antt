-- The data of a request lies inside the message, behind its first two bytes.
use Rattle.std.specs.Prelude.{ℕ, ◌+◌, ◌*◌, ◌≤◌, ◌≡◌, refl, Bool, true, false, List, length, get_or, take, drop, ltb, leb, Ok, Err}
use Rattle.std.proofs.Common.{arith, leb-true}
use Rattle.base_cells.specs.Pick.{pick}
use Rattle.wire_rules.specs.Segments.{Segs, segs, broken, segs_of}
use Rattle.wire_rules.specs.Requests.{message_max, request_with, request_of}
use Rattle.wire_rules.specs.declared.Request.{Request}

pub data_inside : (m : List ℕ) (r : Request) → Ok r ≡ request_of m → (2 ≤ r.datastart) × (r.datastart ≤ length m)
unfolding request_of request_with
data_inside m r e = size (ltb message_max (length m)) (leb start (length m)) refl e
  where
    start : ℕ
    start = 2 + get_or m 1 0 * 2

    with : (s : Segs) → start ≤ length m → Ok r ≡ request_with (get_or m 0 0) start s → (2 ≤ r.datastart) × (r.datastart ≤ length m)
    with (segs l) h q = let d : r.datastart ≡ start = cc in omega arith
    with (broken o) h q = absurd (let z : ◌≡◌ {A = ℕ} 0 1 = cc in omega arith)

    size : (t u : Bool) → leb start (length m) ≡ u
        → Ok r ≡ pick t (Err (get_or m 0 0)) (pick u (request_with (get_or m 0 0) start (segs_of (take (get_or m 1 0 * 2) (drop 2 m)))) (Err (get_or m 0 0)))
        → (2 ≤ r.datastart) × (r.datastart ≤ length m)
    size true u f q = absurd (let z : ◌≡◌ {A = ℕ} 0 1 = cc in omega arith)
    size false true f q = with (segs_of (take (get_or m 1 0 * 2) (drop 2 m))) (leb-true start (length m) f) q
    size false false f q = absurd (let z : ◌≡◌ {A = ℕ} 0 1 = cc in omega arith)
