use Rattle.std.proofs.Common.{sym, subst, ◌∙◌, rules}
use borrow.Author.Tests.{tests}
use Rattle.std.specs.Iterator.{YieldsFirstBy}
use Rattle.std.proofs.lemmas.Iterator.{YieldsList, YieldsList-from_take}
use Rattle.std.proofs.lemmas.Iterator.Consumers.{YieldsList-from_first}
use Rattle.std.proofs.lemmas.Iterator.Search.{any_from_yields_List}
use Rattle.planner.specs.declared.stage.Stage.{Stage}
use Rattle.planner.specs.Plans.{asks_unknown}
use Rattle.planner.specs.Stages.{stages_of}
use Rattle.planner.specs.Left.{left}
use Rattle.planner.proofs.Unknown.{two_tell}
use Rattle.planner.proofs.default_planner.some_unknown.Goals as goal

pub returns : goal.returns
returns g c =
    let knows = (g.F.KernelFamily.meaning c.args.family.now).knows in
    let k = c.args.task.now in
    let all = stages_of k.scaler k.source k.target in
    let stages = YieldsList-from_first (λ x. x) left {s = c.stages.result} _ c.stages.ensures in
    let two = YieldsList-from_take {s = c.take.result} 2 (subst (λ i. YieldsList (YieldsFirstBy (λ (x : Stage). x) left) (λ x. x) i all) (sym c.take.ensures.source) stages) c.take.ensures.count in
    any_from_yields_List (asks_unknown knows) c.any.new.self _ _ c.any.ensures.ran two (λ x b q h. search (rules, tests))
    ∙ two_tell knows k.scaler k.source k.target k.sizes.0
