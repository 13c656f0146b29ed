-- A row that has the triad stops the open; none leaves it free.
use Rattle.open_streams.specs.TableLaws.{triad_used, triad_free}
use Rattle.open_streams.proofs.table.triad.Goals as goal

pub returns-in-Some : goal.returns-in-Some
returns-in-Some c = let a = c.args in let x = c.find_triad in
    triad_used a.o a.n a.r.now x.result x.ensures c.in-Some.field-0 c.in-Some.is

pub returns-in-None : goal.returns-in-None
returns-in-None c = let a = c.args in let x = c.find_triad in
    triad_free a.o a.n a.r.now x.result x.ensures c.in-None.is
