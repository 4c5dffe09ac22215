use Rattle.std.proofs.Common.{◌-◌, length, drop, arith, length-drop, take_all}
use Rattle.image.specs.Stores.{elements, place}
use Rattle.image.proofs.Granted.{source_cut}
use Rattle.image.proofs.image_store.ImageStore.crop.Goals as goal

pub returns-clause-part : goal.returns-clause-part
returns-clause-part g c =
    let xs = elements c.args.self.now in
    let p = source_cut _ _ _ c.size.result c.args.part c.part-numbers.result c.in_ok-validate.ensures c.size.ensures c.in_ok-check.ensures c.part-numbers.ensures in
    let off = place c.args.self.now.numbers c.args.part.x c.args.part.y in
    (p.numbers, rw p.begins (take_all (length xs - off) (drop off xs) (omega (arith, length-drop off xs))))
