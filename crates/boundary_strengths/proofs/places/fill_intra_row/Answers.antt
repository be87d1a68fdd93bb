use Rattle.std.proofs.Common.{ℕ, ◌+◌, ◌*◌, ◌<◌, length, arith, ◌∙◌}
use Rattle.std.proofs.lemmas.List.{length-set}
use Rattle.spec_boundary_strengths.specs.Places.{unit_place}
use Rattle.boundary_strengths.specs.Held.{beside_of}
use Rattle.boundary_strengths.proofs.Fill.{row_more, stays_before}
use Rattle.boundary_strengths.proofs.places.fill_intra_row.Goals as goal

pub loop-x-preserved : goal.loop-x-preserved
loop-x-preserved c =
    let sides = c.args.sides.now in
    let items = c.args.records.now.items in
    let y = c.args.y in
    let x = c.loop-x.x in
    let count = c.loop-x.invariant.count in
    let inside : x < c.args.side = omega (arith, c.loop-x-test.true) in
    let room : 16 * y + x < length c.loop-x.places =
    omega (arith, count, c.requires.y, c.requires.side, c.loop-x-test.true) in
    record {
      count = length-set _ _ _ ∙ count;
      row = λ marked small motion none. row_more c.loop-x.places (16 * y) x c.intra_place.result
          (λ (q : ℕ). unit_place (beside_of sides motion) sides.pcm_loop_filter_disabled sides.qp_bd_offset items q y)
          room (c.loop-x.invariant.row marked small motion none)
          (c.intra_place.ensures marked (small x y) motion (none x inside));
      above = stays_before c.loop-x.places c.args.places.now (16 * y) x c.intra_place.result c.loop-x.invariant.above;
    }
