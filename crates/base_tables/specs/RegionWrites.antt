-- Stores inside one region of a buffer made of regions, at the place that they have in the whole buffer.
use Rattle.std.specs.Prelude.{ℕ, zero, suc, ◌+◌, ◌≤◌, ◌<◌, List, [], ◌++◌, ◌≡◌, length, get_or, set}
use Rattle.std.proofs.Common.{ap, ◌∙◌, arith}
use Rattle.std.proofs.lemmas.List.Edits.{sets}
use Rattle.base_cells.specs.Numbers.{sets_left}
use Rattle.base_tables.specs.Store.{sets_right}
use Rattle.base_tables.specs.Regions.{joined, Sized, none, one, start}

pub region_sets : {ws : List ℕ} {rs : List (List ℕ)} (i off : ℕ) (bs : List ℕ) → Sized ws rs → i < length ws → off + length bs ≤ get_or ws i 0
    → sets (joined rs) (start ws i + off) bs ≡ joined (set rs i (sets (get_or rs i []) off bs))
unfolding joined start
region_sets i off bs none h g = absurd (omega arith)
region_sets zero off bs (one {r = r} {rs = rs} e s) h g =
    ap (λ (n : ℕ). sets (r ++ joined rs) n bs) (let q : 0 + off ≡ off = omega arith in q) ∙ sets_left r (joined rs) off bs (omega arith)
region_sets (suc i) off bs (one {w = w} {ws = ws} {r = r} {rs = rs} e s) h g =
    ap (λ (n : ℕ). sets (r ++ joined rs) n bs) (let q : w + start ws i + off ≡ w + (start ws i + off) = omega arith in q)
    ∙ sets_right r (joined rs) w e (start ws i + off) bs
    ∙ ap (λ (z : List ℕ). r ++ z) (region_sets i off bs s (omega arith) g)
