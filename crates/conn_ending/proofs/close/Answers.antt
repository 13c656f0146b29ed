use Rattle.rules.specs.Answers.{outcome_number}
use Rattle.rules.specs.Removal.{conn_triad}
use Rattle.conn_removal.specs.Turns.{found_in}
use Rattle.conn_ending.specs.Calls.{close_nothing, close_found}
use Rattle.conn_ending.proofs.close.Goals as goal

pub close_at-requires : goal.close_at-requires
close_at-requires c = let a = c.args in (c.requires, found_in (conn_triad a.t) a.s.now c.u16_at-n.result c.find_triad.result c.u16_at-n.ensures c.find_triad.ensures c.in-Some.i c.in-Some.is)

pub returns-in_default : goal.returns-in_default
returns-in_default c = let a = c.args in close_nothing a.t a.s.now a.out.now c.u16_at-n.result c.find_triad.result c.u16_at-n.ensures c.find_triad.ensures c.in_default.is

pub returns : goal.returns
returns c = let a = c.args in
    close_found a.t a.s.now a.out.now c.u16_at-n.result c.find_triad.result c.u16_at-n.ensures c.find_triad.ensures c.in-Some.i c.in-Some.is (outcome_number c.close_at.result) c.close_at.new.s c.close_at.new.out c.close_at.ensures
