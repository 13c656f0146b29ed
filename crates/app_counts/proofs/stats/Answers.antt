use Rattle.app_counts.specs.Counts.{stats_short, stats_wrote}
use Rattle.app_counts.proofs.stats.Goals as goal

pub returns-then-out-lt24 : goal.returns-then-out-lt24
returns-then-out-lt24 c = stats_short _ _ c.requires.test c.if-out-lt24.true

pub returns : goal.returns
returns c = stats_wrote _ _ c.requires.test c.if-out-lt24.false _ _ _ _ _ _ c.u64_at.ensures c.u64_at-2.ensures c.u64_at-3.ensures c.put_u64.ensures c.put_u64-2.ensures c.put_u64-3.ensures
