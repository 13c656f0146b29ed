use Rattle.std.proofs.Common.{ap, ◌∙◌, ℕ, List}
use Rattle.base_cells.specs.Numbers.{put}
use Rattle.state_image.specs.Kept.{kept_counters}
use Rattle.state_image.specs.Changes.{counters_become}
use Rattle.state_changes.proofs.set_counters.Goals as goal

pub returns : goal.returns
returns c = let s = c.args.s.now in
    let p = c.args.produced in
    let q = c.args.late in
    let m = c.args.maxlate in
    rw (c.put_u64-3.ensures ∙ ap (λ (z : List ℕ). put 8 z 208 m) (c.put_u64-2.ensures ∙ ap (λ (z : List ℕ). put 8 z 200 q) c.put_u64.ensures))
    (kept_counters s c.requires p q m, counters_become s p q m)
