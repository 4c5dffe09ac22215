use Rattle.std.proofs.Common.{◌≡◌, ◌≤◌, cond, length, take, drop}
use Rattle.planner.specs.Chains.{Linked}
use Rattle.planner.specs.Plans.{area}
use Rattle.values.specs.Values.{composed}
use Rattle.resampling.specs.Running.{AllRunnable, Roomy, packed, end_of}
use Rattle.resampling.proofs.multi_step_plan.middle.Given as goal

-- what is left of the stages takes the image that was written last to where all of them take the first
abbrev pub invariant-loop-stage : goal.invariant-loop-stage
invariant-loop-stage g l =
    let left = drop l.stage-index l.stages in
    let size = end_of l.fn.start (take l.stage-index l.stages) in
    let c = l.settings.channels in
    let m = g.F.KernelFamily.meaning l.settings.family.now in
    Linked size (end_of l.fn.start l.stages) left
    × ((area c size ≤ length l.first) × (area c size ≤ length l.second))
    × AllRunnable g.T.Element.NEEDS_DEPTH l.settings (length l.work) left
    × (Roomy c (length l.first) left × Roomy c (length l.second) left)
    × (composed m c l.settings.depth left (packed c size (cond l.flipped l.second l.first)) ≡ composed m c l.settings.depth l.stages (packed c l.fn.start l.initial.first))
