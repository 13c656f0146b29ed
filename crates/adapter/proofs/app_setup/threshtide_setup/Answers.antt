use Rattle.std.proofs.Common.{arith, ℕ, List, ap, sym, ◌∙◌}
use Rattle.app_starting.specs.Given.{long_block, few, short_eds}
use Rattle.app_starting.specs.Calls.{other_size, bad_setup, set_up}
use Rattle.adapter.proofs.app_setup.threshtide_setup.Goals as goal

pub returns-then-state-ne-STATE_SIZE : goal.returns-then-state-ne-STATE_SIZE
returns-then-state-ne-STATE_SIZE c = let a = c.args in other_size a.state.now a.block.now a.eds.now a.seed c.if-state-ne-STATE_SIZE.true

pub returns-then-not-accept : goal.returns-then-not-accept
returns-then-not-accept c = let a = c.args in
    bad_setup a.state.now a.block.now a.eds.now a.seed (omega arith)
    (sym c.accept.ensures ∙ c.if-not-accept.true)

pub begin-requires : goal.begin-requires
begin-requires c = let a = c.args in
    let ok = sym c.accept.ensures ∙ c.if-not-accept.false in
    (omega arith, long_block a.block.now a.eds.now ok, few a.block.now a.eds.now ok, short_eds a.block.now a.eds.now ok)

pub returns : goal.returns
returns c = let a = c.args in
    ap (λ (s : List ℕ). (0, s)) c.begin.ensures
    ∙ set_up a.state.now a.block.now a.eds.now a.seed (omega arith)
    (sym c.accept.ensures ∙ c.if-not-accept.false)
