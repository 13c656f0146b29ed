-- A port segment has two bytes at least.
use Rattle.std.proofs.Common.{◌≡◌, ℕ, ◌+◌, ◌<◌, ◌≤◌, ◌/◌, ◌%◌, Bool, true, false, List, length, get_or, eqb, arith}
use Rattle.std.proofs.lemmas.Bool.{lt-leb}
use Rattle.base_cells.specs.Pick.{pick}
use Rattle.wire_rules.specs.Segments.{even_up, port_offset, link_offset, link_size, port_at}
use Rattle.wire_rules.specs.declared.SegStep.TheVariants.{Broken}

pub port_least : (a b : ℕ) → 2 ≤ link_offset a + link_size a b
unfolding link_offset port_offset link_size
port_least a b = go (eqb (a / 16) 1)
  where
    go : (t : Bool) → 2 ≤ pick t 2 1 + pick (eqb (a % 16) 15) 2 0 + pick t b 1
    go true = omega arith
    go false = omega arith

pub port_none : (s : List ℕ) (at : ℕ) → length s < at + 2 → Broken at ≡ port_at s at
unfolding port_at
port_none s at h =
    let g : length s < at + even_up (link_offset (get_or s at 0) + link_size (get_or s at 0) (get_or s (at + 1) 0)) = omega (arith, port_least (get_or s at 0) (get_or s (at + 1) 0)) in
    simp (lt-leb _ _ g)
