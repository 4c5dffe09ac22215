use Rattle.planner.proofs.Ratio.{by_record}
use Rattle.planner.proofs.superresolution.twice_max_ratio.Goals as goal

pub returns-then-size : goal.returns-then-size
returns-then-size c = rw c.if-size.true at (by_record _ _ c.get_resampling_filter-size.ensures)

pub returns-then-size-2 : goal.returns-then-size-2
returns-then-size-2 c = rw (c.if-size.false, c.if-size-2.true) at (by_record _ _ c.get_resampling_filter-size.ensures)

pub returns-then-size-3 : goal.returns-then-size-3
returns-then-size-3 c =
    rw (c.if-size.false, c.if-size-2.false, c.if-size-3.true) at (by_record _ _ c.get_resampling_filter-size.ensures)

pub returns-else-size-3 : goal.returns-else-size-3
returns-else-size-3 c =
    rw (c.if-size.false, c.if-size-2.false, c.if-size-3.false) at (by_record _ _ c.get_resampling_filter-size.ensures)
