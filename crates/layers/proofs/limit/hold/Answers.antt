use Rattle.std.proofs.Common.{◌≡◌, ℕ, ◌<◌, min, length, get_or, set, ap, ◌∙◌, arith, rules}
use Rattle.std.proofs.lemmas.List.Edits.{map_over_more}
use Rattle.std.proofs.lemmas.List.{get_or_default, take_all, drop_all, append-nil}
use Rattle.layers.specs.Layers.{limited}
use Rattle.layers.proofs.limit.hold.Goals as goal

pub loop-x-preserved : goal.loop-x-preserved
loop-x-preserved c =
    let ys = c.loop-x.xs in
    let i = c.loop-x.x-index in
    let x : ℕ = get_or ys i 0 in
    let within : i < length ys = omega arith in
    let wrote : c.min.result ≡ limited c.args.depth x = c.min.ensures ∙ ap (min x) c.largest-most.ensures in
    ap (set ys i) wrote ∙ map_over_more (limited c.args.depth) c.args.xs.now ys i x c.loop-x-test.true c.loop-x.invariant (get_or_default ys i 0 x within)

pub returns : goal.returns
returns c = search (rules, take_all, drop_all, append-nil)
