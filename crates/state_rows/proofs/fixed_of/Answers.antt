-- Each field is the number that was read at its place, or what the flags and the role say.
use Rattle.std.proofs.Common.{ap, ◌∙◌}
use Rattle.state_rules.specs.Rows.{kind_in, output_in, multicast_in, input_in, dec_fixed}
use Rattle.state_rows.proofs.fixed_of.Goals as goal

pub returns : goal.returns
unfolding dec_fixed
returns c = λ i.
    record {
      kind = (c.kind_in.ensures ∙ ap kind_in c.u8_at-role.ensures) i;
      triad = c.triad_of.ensures i;
      originator = c.u32_at.ensures i;
      otid = record { 0 = c.u32_at-2.ensures i };
      toid = record { 0 = c.u32_at-3.ensures i };
      otrpi = c.u32_at-4.ensures i;
      multiplier = c.u8_at.ensures i;
      torpi = c.u32_at-5.ensures i;
      input = (c.input_in.ensures ∙ ap input_in c.u8_at-flags.ensures) i;
      output = (c.output_in.ensures ∙ ap output_in c.u8_at-role.ensures) i;
      dest = c.dest_of.ensures i;
      multicast = (c.multicast_in.ensures ∙ ap multicast_in c.u8_at-flags.ensures) i;
      local = c.u32_at-6.ensures i;
    }
