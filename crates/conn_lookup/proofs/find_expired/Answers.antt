use Rattle.std.proofs.Common.{rules}
use Rattle.rules.specs.Removal.{expired}
use Rattle.state_rules.specs.Rows.{dec_conn}
use Rattle.state_rules.specs.Places.{row_size}
use Rattle.state_searches.specs.Ranges.{row_found}
use Rattle.conn_lookup.proofs.find_expired.Goals as goal

pub returns : goal.returns
returns c = let a = c.args in row_found row_size dec_conn (expired a.time) a.n a.r.now _ _ _ c.find.ensures.ran (λ v b y k. search rules)
