use Rattle.std.proofs.Common.{rules, ◌≡◌, ◌∙◌, pos, w32, w64, to_z, of_z}
use Rattle.coding_quadtree.specs.SpecCabac.{clip3}
use Rattle.unit_trees.proofs.SegmentContexts.{contexts_same}
use Rattle.unit_trees.proofs.segment.first_contexts.Goals as goal

pub returns : goal.returns
returns c =
    let same : clip3 (pos 0) (pos 51) (to_z w32 (of_z w32 (to_z w64 (of_z w64 c.clamp.result))))
    ≡ clip3 (pos 0) (pos 51) c.args.slice_qp = search rules in
    c.init.ensures ∙ contexts_same _ c.args.slice_qp c.args.init_type same
