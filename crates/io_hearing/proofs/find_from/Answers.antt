use Rattle.std.proofs.Common.{refl, rules}
use Rattle.state_rules.specs.Rows.{dec_conn}
use Rattle.state_rules.specs.Places.{row_size}
use Rattle.state_searches.specs.Ranges.{row_found_from}
use Rattle.io_hearing.specs.Decisions.{hears}
use Rattle.io_hearing.proofs.find_from.Goals as goal

pub returns : goal.returns
returns c = let a = c.args in row_found_from row_size dec_conn (hears a.id a.from) a.n a.r.now _ _ _ _ c.find.ensures.ran refl (λ v b y k. search rules)
