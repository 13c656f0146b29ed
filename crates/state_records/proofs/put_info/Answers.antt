use Rattle.state_records.specs.Fields.{info_put}
use Rattle.state_records.proofs.put_info.Goals as goal

pub returns : goal.returns
returns c = let a = c.args in info_put a.row.now c.put_low.new.row c.put_high.new.row a.what a.i c.put_low.ensures c.put_high.ensures
