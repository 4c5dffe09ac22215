use Rattle.std.proofs.Common.{◌+◌, ◌*◌, length, sym, ◌∙◌, rules}
use Rattle.std.proofs.lemmas.List.{get_or_read}
use Rattle.levels.proofs.Along.{place_fits, get_or-line}
use Rattle.tent.proofs.place.along.Goals as goal

pub offset_bounds-line-line : goal.offset_bounds-line-line
offset_bounds-line-line g c =
    let l = c.args.line.now in
    let p = place_fits c.args.i l.axis.source l.start l.step (length l.elements.now) c.requires l.within in
    search rules

pub returns : goal.returns
returns g c d =
    let l = c.args.line.now in
    let xs = l.elements.now in
    let n = l.axis.source in
    let i = c.args.i in
    let x = c.index-line-line in
    sym x.is
    ∙ get_or_read xs (l.start + i * l.step) x.result (place_fits i n l.start l.step (length xs) c.requires l.within) x.is d
    ∙ sym (get_or-line xs l.start l.step n l.within i d c.requires)
