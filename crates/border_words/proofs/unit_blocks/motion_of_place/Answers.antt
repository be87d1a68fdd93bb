use Rattle.std.proofs.Common.{◌<◌, sym, subst, arith}
use Rattle.spec_slice_data.specs.Segment.{PictureShape}
use Rattle.spec_picture_trees.specs.Places.{unit_places}
use Rattle.border_words.proofs.unit_blocks.motion_of_place.Goals as goal

pub returns-then-columns-i-clause-value : goal.returns-then-columns-i-clause-value
returns-then-columns-i-clause-value c =
    let b = c.args.blocks.now in
    let is = c.requires.blocks in
    let small = subst (λ (q : PictureShape). c.args.i < unit_places q) is.layout c.requires.column in
    let past = c.if-columns-i.true in
    let columns = is.words.columns in
    sym (c.places_outside_have_no_motion.ensures.right c.args.board.now.flight b.at.now b.plan.now c.args.i c.args.j
    is.tree small (omega (arith, past, columns)))

pub returns-then-rows-j-clause-value : goal.returns-then-rows-j-clause-value
returns-then-rows-j-clause-value c =
    let b = c.args.blocks.now in
    let is = c.requires.blocks in
    let small = subst (λ (q : PictureShape). c.args.j < unit_places q) is.layout c.requires.row in
    let past = c.if-rows-j.true in
    let rows = is.words.rows in
    sym (c.places_outside_have_no_motion.ensures.below c.args.board.now.flight b.at.now b.plan.now c.args.i c.args.j
    is.tree small (omega (arith, past, rows)))
