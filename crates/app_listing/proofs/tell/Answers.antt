-- The record of one row stands where the list has it.
use Rattle.std.proofs.Common.{ℕ, List, ◌+◌, ◌*◌, ◌-◌, ◌∙◌, [], ap, arith, take, drop, length-take, length-drop}
use lib.Seq.{sets}
use Rattle.rules.specs.Events.{info_of, info_record}
use Rattle.state_rules.specs.Places.{setup_in}
use Rattle.state_rules.specs.Setups.{setup_from}
use Rattle.state_image.specs.Holds.{setup_ready}
use Rattle.app_listing.specs.Listing.{told}
use Rattle.app_listing.proofs.tell.Goals as goal

pub put_record-requires : goal.put_record-requires
put_record-requires c = let r = setup_ready c.args.s.now c.requires.0 in
    let h = c.requires.2 in
    (simp (length-take, length-drop) (omega arith), r.0, r.1)

pub returns : goal.returns
returns c = let a = c.args in
    let f = c.fixed_at-f.result in
    told a.s.now a.out.now _ a.i _ c.requires.2 c.fixed_at-f.ensures
    (c.put_record.ensures ∙ ap (λ (n : ℕ). sets (take (a.i * 32 + 32 - a.i * 32) (drop (a.i * 32) a.out.now)) 0 (info_record n (info_of (setup_from (setup_in a.s.now) []) f))) c.number.ensures)
