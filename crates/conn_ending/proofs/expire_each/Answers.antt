-- What is left to do gives the whole answer; a turn that found none is the last.
use Rattle.conn_removal.specs.Turns.{fewer_none, fewer_both}
use Rattle.conn_ending.specs.Expiry.{rest_start, rest_turn, rest_end, rest_stop}
use Rattle.conn_ending.proofs.expire_each.Goals as goal

pub loop-init : goal.loop-init
loop-init c = let a = c.args in let p = c.requires in (fewer_none a.s.now p.0, rest_start a.time a.n a.s.now p.1)

pub expire_one-requires : goal.expire_one-requires
expire_one-requires c = c.loop.invariant.0.ready

pub returns-then-not-expire_one : goal.returns-then-not-expire_one
returns-then-not-expire_one c = let a = c.args in
    let w = c.loop in
    let d = c.expire_one.ensures in
    (fewer_both a.s.now w.s _ w.invariant.0 d.0, rest_stop a.time a.n w.counter c.expire_one.result a.s.now w.s _ w.invariant.1 d.1 c.if-not-expire_one.true)

pub loop-preserved : goal.loop-preserved
loop-preserved c = let a = c.args in
    let w = c.loop in
    let d = c.expire_one.ensures in
    (fewer_both a.s.now w.s _ w.invariant.0 d.0, rest_turn a.time a.n w.counter c.expire_one.result a.s.now w.s _ c.loop-test.true w.invariant.1 d.1)

pub returns : goal.returns
returns c = let a = c.args in
    let w = c.loop in
    (w.invariant.0, rest_end a.time a.n w.counter a.s.now w.s c.loop-test.false w.invariant.1)
