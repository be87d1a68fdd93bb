use Rattle.std.proofs.Common.{◌+◌, ◌<◌, [], length, subst, arith}
use Rattle.spec_slice_data.specs.Segment.{PictureShape}
use Rattle.picture_trees.specs.Reading.{IsKept}
use Rattle.picture_trees.proofs.Segments.{item_of, kept_for, reached_end, reached_first, reached_last, reached_more}
use Rattle.picture_trees.proofs.picture.read_picture.Goals as goal

pub loop-number-init : goal.loop-number-init
loop-number-init g c =
    let P : PictureShape → Type 0 = λ l. IsKept l 0 c.in-Ok.reading.beside [] in
    record {
      inside = omega arith;
      told = λ given tells. (
        given,
        tells,
        (reached_first c.args.plan.now c.in-Ok.reading given (subst P c.new.ensures.value c.in-Ok.ensures.kept)
            c.in-Ok.ensures.before),
      );
    }

pub returns-in-Err : goal.returns-in-Err
returns-in-Err g c =
    let number = c.loop-number.number in
    let lt : number < length c.args.plan.now.segments = omega (arith, c.loop-number-test.true) in
    let s = item_of c.args.plan.now.segments number lt in
    let segment = c.segment_data-segment in
    let e = segment.ensures.value s in
    record {
      value = λ given tells.
          let t = c.loop-number.invariant.told given tells in
          let w = t.2 in
          reached_end c.args.plan.now number c.loop-number.first
          (segment.result.shape.first + segment.result.shape.count) c.loop-number.reading c.read_segment.new.self
          t.0 (g.T.Trees.tells c.read_segment.new.trees c.args.plan.now) _ s segment.result c.in-Err.error e lt w
          (c.in-Err.ensures c.args.plan.now w.units t.0
          (kept_for c.args.plan.now number c.loop-number.first c.loop-number.reading w.units s segment.result e
          segment.ensures.first w.kept)
          t.1);
    }

pub loop-number-preserved : goal.loop-number-preserved
loop-number-preserved g c =
    let number = c.loop-number.number in
    let lt : number < length c.args.plan.now.segments = omega (arith, c.loop-number-test.true) in
    let s = item_of c.args.plan.now.segments number lt in
    let segment = c.segment_data-segment in
    let e = segment.ensures.value s in
    record {
      inside = omega (arith, c.behind-first.ensures.value, segment.ensures.inside);
      told = λ given tells.
          let t = c.loop-number.invariant.told given tells in
          let w = t.2 in
          let got =
          c.in_default-read_segment.ensures c.args.plan.now w.units t.0
          (kept_for c.args.plan.now number c.loop-number.first c.loop-number.reading w.units s segment.result e
          segment.ensures.first w.kept)
          t.1 in (
            got.0,
            got.1,
            (rw c.behind-first.ensures.value
                (reached_more c.args.plan.now number c.loop-number.first c.loop-number.reading c.read_segment.new.self
                t.0 got.0 _ s segment.result e lt segment.ensures.behind w got.2)),
          );
    }

pub returns : goal.returns
returns g c = record {
  value = λ given tells.
      let t = c.loop-number.invariant.told given tells in (
        t.0,
        t.1,
        (reached_last c.args.plan.now c.loop-number.number c.loop-number.first c.loop-number.reading t.0 _
            (omega (arith, c.loop-number-test.false)) t.2),
      );
}
