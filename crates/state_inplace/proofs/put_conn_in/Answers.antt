-- The three parts put one after the other are the row.
use Rattle.std.proofs.Common.{arith, rules}
use Rattle.state_rules.specs.RowLaws.{conn_put, bit_small}
use Rattle.state_inplace.proofs.put_conn_in.Goals as goal

pub put_heard_in-requires : goal.put_heard_in-requires
put_heard_in-requires c = let z = bit_small c.args.c.fixed.multicast in
    let e = c.carried_number.ensures in
    (search rules, omega arith)

pub returns : goal.returns
returns c = conn_put _ _ _ _ c.carried_number.result c.args.c c.carried_number.ensures
    c.put_sent_in.ensures c.put_heard_in.ensures c.put_fixed_in.ensures
