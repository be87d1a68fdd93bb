use Rattle.std.proofs.Common.{Bool, false, ap, refl, sym, ◌∙◌, ◌||◌, cond}
use Rattle.std.proofs.Math.Bool.{or-false}
use Rattle.ctu_records.specs.Places.{by_place}
use Rattle.boundary_strengths.proofs.Cells.{left_of, top_of, inside_of}
use Rattle.boundary_strengths.proofs.marks.add_transform.Goals as goal

pub returns : goal.returns
returns c =
    let b = c.block_of-block.ensures in
    let old = c.args.marks.now in
    let square = c.args.unit.square in
    record {
      transform_left = λ i j hi hj. c.mark_left.ensures i j hi hj
          ∙ ap (λ (m : Bool). by_place false old.transform_left i j || m)
          (left_of c.block_of-block.result square i j b.x b.y b.height hj);
      transform_top = λ i j hi hj. c.mark_top.ensures i j hi hj
          ∙ ap (λ (m : Bool). by_place false old.transform_top i j || m)
          (top_of c.block_of-block.result square i j b.x b.y b.width hi);
      prediction_left = λ i j hi hj. sym (or-false _);
      prediction_top = λ i j hi hj. sym (or-false _);
      coded = λ i j hi hj. c.lay_block.ensures i j false hi hj
          ∙ ap (λ (m : Bool). cond m c.args.unit.cbf_luma (by_place false old.coded i j))
          (inside_of c.block_of-block.result square i j b.x b.y b.width b.height hi hj);
      kept = λ i j hi hj. refl;
    }
