use Rattle.std.proofs.Common.{arith}
use Rattle.lines.specs.Along.{line_of}
use Rattle.levels.proofs.Along.{length-line}
use Rattle.tent.proofs.Bounds.{index_within, remainder_within, between_is}
use Rattle.tent.proofs.linear.LinearLineKernel.element.Goals as goal

pub taps-a-requires : goal.taps-a-requires
taps-a-requires g c =
    let a = c.args in
    let axis = a.line.now.axis in
    index_within axis.source axis.target a.x a.place c.requires.output (omega (arith, axis.lengths)) c.requires.place

pub blend-requires : goal.blend-requires
blend-requires g c =
    let a = c.args in
    let axis = a.line.now.axis in
    (axis.lengths.1, remainder_within axis.source axis.target a.x a.place c.requires.output c.requires.place)

pub returns : goal.returns
returns g c =
    let t = g.B.Blend in
    let a = c.args in
    let l = a.line.now in
    let axis = l.axis in
    let long = length-line l.elements.now l.start l.step axis.source l.within in
    let taps = c.taps-a in
    between_is t.zero t.blend (line_of l) axis.source axis.target a.x a.place taps.result.0 taps.result.1 c.blend.result
    long c.requires.place (taps.ensures.first t.zero) (taps.ensures.second t.zero) c.blend.ensures
