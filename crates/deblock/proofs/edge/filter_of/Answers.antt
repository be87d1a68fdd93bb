use Rattle.std.proofs.Common.{◌≡◌, ◌*◌, refl, arith}
use Rattle.spec_deblocking.specs.Places.{side}
use Rattle.deblock.proofs.Depths.{depth_few}
use Rattle.deblock.proofs.Edges.{reads_inside}
use Rattle.deblock.proofs.edge.filter_of.Goals as goal

pub way_of-top-requires-clause-inside : goal.way_of-top-requires-clause-inside
way_of-top-requires-clause-inside c = λ k few.
    let four : side c.args.pass.now.plane ≡ 4 = rw c.in-Luma.is refl in
    let lines : side c.args.pass.now.plane * c.args.s ≡ 4 * c.args.s = rw c.in-Luma.is refl in
    reads_inside c.args.pass.now c.args.e c.args.s k _ c.requires.pass c.requires.across c.requires.along
    c.requires.edge c.requires.within few (omega (arith, lines)) (omega (arith, lines, four))

pub way_of-bottom-requires-clause-inside : goal.way_of-bottom-requires-clause-inside
way_of-bottom-requires-clause-inside c = λ k few.
    let four : side c.args.pass.now.plane ≡ 4 = rw c.in-Luma.is refl in
    let lines : side c.args.pass.now.plane * c.args.s ≡ 4 * c.args.s = rw c.in-Luma.is refl in
    reads_inside c.args.pass.now c.args.e c.args.s k _ c.requires.pass c.requires.across c.requires.along
    c.requires.edge c.requires.within few (omega (arith, lines)) (omega (arith, lines, four))

pub read_line-head-requires-clause-inside : goal.read_line-head-requires-clause-inside
read_line-head-requires-clause-inside c = λ k few.
    let four : side c.args.pass.now.plane ≡ 4 = rw c.in-Luma.is refl in
    let lines : side c.args.pass.now.plane * c.args.s ≡ 4 * c.args.s = rw c.in-Luma.is refl in
    reads_inside c.args.pass.now c.args.e c.args.s k _ c.requires.pass c.requires.across c.requires.along
    c.requires.edge c.requires.within few (omega (arith, lines)) (omega (arith, lines, four))

pub read_line-tail-requires-clause-inside : goal.read_line-tail-requires-clause-inside
read_line-tail-requires-clause-inside c = λ k few.
    let four : side c.args.pass.now.plane ≡ 4 = rw c.in-Luma.is refl in
    let lines : side c.args.pass.now.plane * c.args.s ≡ 4 * c.args.s = rw c.in-Luma.is refl in
    reads_inside c.args.pass.now c.args.e c.args.s k _ c.requires.pass c.requires.across c.requires.along
    c.requires.edge c.requires.within few (omega (arith, lines)) (omega (arith, lines, four))

pub luma_edge-requires-clause-most : goal.luma_edge-requires-clause-most
luma_edge-requires-clause-most c = rw c.in-Luma.is at c.requires.most

pub luma_edge-requires-clause-first : goal.luma_edge-requires-clause-first
luma_edge-requires-clause-first c =
    let few = depth_few c.args.pass.now.bit_depth c.requires.pass.depth in
    c.read_line-head.ensures.small 16383 (λ k. omega (arith, few, c.requires.bounded k))

pub luma_edge-requires-clause-last : goal.luma_edge-requires-clause-last
luma_edge-requires-clause-last c =
    let few = depth_few c.args.pass.now.bit_depth c.requires.pass.depth in
    c.read_line-tail.ensures.small 16383 (λ k. omega (arith, few, c.requires.bounded k))

pub returns-in-Luma : goal.returns-in-Luma
returns-in-Luma c =
    rw c.in-Luma.is
    (rw (c.read_line-head.ensures.value, c.read_line-tail.ensures.value) at c.luma_edge.ensures)

pub returns-in-Chroma : goal.returns-in-Chroma
returns-in-Chroma c = rw c.in-Chroma.is (c.chroma_edge.ensures _ _ _ _ _)
