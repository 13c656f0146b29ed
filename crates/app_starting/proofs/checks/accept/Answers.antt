-- One law for each refusal; what passes all of them is accepted.
use Rattle.std.proofs.Common.{ℕ, ap, sym, ◌∙◌, arith, length}
use Rattle.app_starting.specs.Accept.{eds_fits, wrong_size, wrong_flag, wrong_eds, wrong_numbers, wrong_shapes, few_given, given_once}
use Rattle.app_starting.proofs.checks.accept.Goals as goal

pub returns-then-block-ne192 : goal.returns-then-block-ne192
returns-then-block-ne192 c = wrong_size c.args.block.now _ c.if-block-ne192.true

pub returns-then-flag-gt1 : goal.returns-then-flag-gt1
returns-then-flag-gt1 c = let e = c.u32_at-flag.ensures in wrong_flag c.args.block.now _ (omega arith)

pub returns-then-not-eds_fits : goal.returns-then-not-eds_fits
returns-then-not-eds_fits c = wrong_eds c.args.block.now c.args.eds.now _ c.u32_at-flag.ensures (sym c.eds_fits.ensures ∙ c.if-not-eds_fits.true)

pub returns-then-not-setup_good : goal.returns-then-not-setup_good
returns-then-not-setup_good c = wrong_numbers c.args.block.now _ (sym c.setup_good.ensures ∙ c.if-not-setup_good.true)

pub shapes_given-requires : goal.shapes_given-requires
shapes_given-requires c = let e = c.u8_at-n.ensures in
    let n = few_given c.args.block.now (sym c.setup_good.ensures ∙ c.if-not-setup_good.false) in
    (omega arith, omega arith)

pub returns-then-not-shapes_given : goal.returns-then-not-shapes_given
returns-then-not-shapes_given c = wrong_shapes c.args.block.now _ _ c.u8_at-n.ensures (sym c.shapes_given.ensures ∙ c.if-not-shapes_given.true)

pub once_each-requires : goal.once_each-requires
once_each-requires c = let e = c.u8_at-n.ensures in
    let n = few_given c.args.block.now (sym c.setup_good.ensures ∙ c.if-not-setup_good.false) in
    (omega arith, omega arith)

pub returns : goal.returns
returns c = let block = c.args.block.now in let eds = c.args.eds.now in
    let flag = c.u32_at-flag.ensures in
    c.once_each.ensures
    ∙ given_once block eds (omega arith) (omega arith)
    (ap (λ (f : ℕ). eds_fits f (length eds)) (sym flag) ∙ sym c.eds_fits.ensures ∙ c.if-not-eds_fits.false)
    (sym c.setup_good.ensures ∙ c.if-not-setup_good.false)
    _ c.u8_at-n.ensures (omega (arith, c.type_inv.block 1))
    (sym c.shapes_given.ensures ∙ c.if-not-shapes_given.false)
