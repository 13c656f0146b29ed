-- What the rows from i on give is what all give: four with other ids are passed over.
use Rattle.std.proofs.Common.{sym, ◌∙◌, arith}
use Rattle.rules.specs.Lists.{place}
use Rattle.state_rules.specs.Rows.{conns_in}
use Rattle.state_searches.specs.Searches.{later_zero}
use Rattle.io_hearing.specs.Decisions.{hears}
use Rattle.io_hearing.specs.DecisionLaws.{four_passed}
use Rattle.io_hearing.proofs.find.Goals as goal

pub loop-i-init : goal.loop-i-init
loop-i-init c = let a = c.args in (omega arith, sym (later_zero (place (hears a.id a.from) (conns_in a.n a.r.now))))

pub any_of_four-requires : goal.any_of_four-requires
any_of_four-requires c = (omega arith, omega arith)

pub find_from-requires : goal.find_from-requires
find_from-requires c = (omega arith, omega arith, omega arith)

pub returns-then-any_of_four : goal.returns-then-any_of_four
returns-then-any_of_four c = c.find_from.ensures ∙ sym c.loop-i.invariant.1

pub loop-i-preserved : goal.loop-i-preserved
loop-i-preserved c = let w = c.loop-i in
    let a = c.args in
    (omega arith, w.invariant.1 ∙ four_passed a.id a.from a.n a.r.now w.i (omega arith) (sym c.any_of_four.ensures ∙ c.if-any_of_four.false))

pub find_from-requires-2 : goal.find_from-requires-2
find_from-requires-2 c = (omega arith, omega arith, omega arith)

pub returns : goal.returns
returns c = c.find_from-2.ensures ∙ sym c.loop-i.invariant.1
