use Rattle.std.proofs.Common.{rules, ◌≡◌, ℕ, length, sym, subst, arith}
use Rattle.row_jobs.proofs.Keeping.{Keeps, keeps_all, keeps_first, keeps_next, room_next}
use Rattle.row_jobs.proofs.buffer.keep.Goals as goal

pub loop-place-init : goal.loop-place-init
loop-place-init c =
    let e : c.len-place.result ≡ length c.args.buffer.now = search rules in
    record {
      inside = omega (arith, e);
      room = omega (arith, e);
      keeps =
          subst (λ (n : ℕ). Keeps c.args.places.now c.args.buffer.now n c.args.buffer.now) (sym e)
          (keeps_first c.args.places.now c.args.buffer.now);
    }

pub loop-place-preserved : goal.loop-place-preserved
loop-place-preserved c =
    let n = c.loop-place.place in
    record {
      inside = omega (arith, c.loop-place.invariant.inside);
      room =
          room_next c.args.places.now c.loop-place.buffer c.judge_place.new.buffer n c.loop-place-test.true
          c.loop-place.invariant.room c.judge_place.ensures;
      keeps =
          keeps_next c.args.places.now c.args.buffer.now c.loop-place.buffer c.judge_place.new.buffer n
          c.loop-place-test.true c.loop-place.invariant.inside c.judge_place.ensures
          c.loop-place.invariant.keeps;
    }

pub returns : goal.returns
returns c =
    keeps_all c.args.places.now c.args.buffer.now c.loop-place.buffer c.loop-place.place (search rules)
    c.loop-place.invariant.keeps
