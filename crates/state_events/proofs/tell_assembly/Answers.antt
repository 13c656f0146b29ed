-- Three numbers put over zeros are an assembly's record, which is pushed.
use Rattle.std.proofs.Common.{ℕ, List, ap, ◌∙◌}
use Rattle.base_cells.specs.Numbers.{put}
use Rattle.state_events.specs.Records.{assembly_put}
use Rattle.state_events.specs.Pushes.{tells_assembly}
use Rattle.state_events.proofs.tell_assembly.Goals as goal

pub returns : goal.returns
returns c = let a = c.args in
    let told = c.push_event in
    let last = c.put_u16-2 in (
      told.ensures.0,
      tells_assembly a.s.now told.new.s last.new.s a.what a.instance a.length
          (last.ensures
          ∙ ap (λ (z : List ℕ). put 2 z 6 a.length) (c.put_u16.ensures ∙ ap (λ (z : List ℕ). put 2 z 4 a.instance) c.put_u8.ensures)
          ∙ assembly_put a.what a.instance a.length) told.ensures.1,
    )
