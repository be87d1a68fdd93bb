use Rattle.ctu_build.proofs.Offered.{all_gathered, intra_gathered}
use Rattle.ctu_build.proofs.intra_border.gather.Goals as goal

pub returns-then-intra : goal.returns-then-intra
returns-then-intra c =
    intra_gathered c.args.intra.now.format.now _ _ c.args.place _ _ c.if-intra.true c.depth_of-depth.ensures.value
    c.neighbours.ensures

pub returns-else-intra : goal.returns-else-intra
returns-else-intra c =
    all_gathered c.args.intra.now.format.now _ _ c.args.place _ _ c.if-intra.false c.depth_of-depth.ensures.value
    c.write_edge.ensures
