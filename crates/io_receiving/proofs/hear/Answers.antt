use Rattle.std.proofs.Common.{arith, sym, ◌∙◌}
use Rattle.state_rules.specs.Places.{connections_of}
use Rattle.state_image.specs.Kept.{kept_slotted}
use Rattle.io_receiving.specs.DecisionLaws.{cip_inside}
use Rattle.io_receiving.specs.HearLaws.{hear_old, hear_plain, hear_again, hear_offered}
use Rattle.io_receiving.proofs.hear.Goals as goal

pub returns-then-not-is_newer : goal.returns-then-not-is_newer
returns-then-not-is_newer c = let a = c.args in λ f eq ed st l h. hear_old a.s.now st l h a.i c.requires.2 a.time a.q a.d.now f eq ed c.heard_at-h.result c.heard_at-h.ensures (sym c.is_newer.ensures ∙ c.if-not-is_newer.true)

pub returns-then-not-has_cip : goal.returns-then-not-has_cip
returns-then-not-has_cip c = let a = c.args in λ f eq ed st l h. hear_plain a.s.now st l h a.i c.requires.2 a.time a.q a.d.now f eq ed c.heard_at-h.result c.heard_at-h.ensures (sym c.is_newer.ensures ∙ c.if-not-is_newer.false) c.fixed_at-f.result c.fixed_at-f.ensures c.lives_until-until.result c.lives_until-until.ensures c.has_cip.result c.has_cip.ensures c.if-not-has_cip.true c.put_heard.new.s c.put_heard.ensures.1

pub u16_at-cip-requires : goal.u16_at-cip-requires
u16_at-cip-requires c = let b = cip_inside c.fixed_at-f.result.kind c.args.d.now c.has_cip.result c.has_cip.ensures c.if-not-has_cip.false in omega (arith, b)

pub returns-then-repeats : goal.returns-then-repeats
returns-then-repeats c = let a = c.args in λ f eq ed st l h. hear_again a.s.now st l h a.i c.requires.2 a.time a.q a.d.now f eq ed c.heard_at-h.result c.heard_at-h.ensures (sym c.is_newer.ensures ∙ c.if-not-is_newer.false) c.fixed_at-f.result c.fixed_at-f.ensures c.lives_until-until.result c.lives_until-until.ensures c.has_cip.result c.has_cip.ensures c.if-not-has_cip.false c.u16_at-cip.result c.u16_at-cip.ensures c.put_heard-2.new.s c.put_heard-2.ensures.1 c.repeats.result c.repeats.ensures c.if-repeats.true

pub offer-requires : goal.offer-requires
offer-requires c = let p = c.requires in let k = c.put_heard-2.ensures.0 in let s = c.args.s.now in (k.ready, kept_slotted (connections_of s) s c.put_heard-2.new.s p.0 k p.1)

pub returns : goal.returns
returns c = let a = c.args in λ f eq ed st l h. hear_offered a.s.now st l h a.i c.requires.2 a.time a.q a.d.now f eq ed c.heard_at-h.result c.heard_at-h.ensures (sym c.is_newer.ensures ∙ c.if-not-is_newer.false) c.fixed_at-f.result c.fixed_at-f.ensures c.lives_until-until.result c.lives_until-until.ensures c.has_cip.result c.has_cip.ensures c.if-not-has_cip.false c.u16_at-cip.result c.u16_at-cip.ensures c.put_heard-2.new.s c.put_heard-2.ensures.1 c.repeats.result c.repeats.ensures c.if-repeats.false c.offer.new.s c.offer.ensures
