use Rattle.std.proofs.Common.{◌≡◌, ◌++◌, map, take, drop}
use Rattle.layers.specs.Layers.{limited}
use Rattle.layers.proofs.limit.hold.Given as goal

abbrev pub invariant-loop-x : goal.invariant-loop-x
invariant-loop-x l = l.xs ≡ map (limited l.depth) (take l.x-index l.initial.xs) ++ drop l.x-index l.initial.xs
