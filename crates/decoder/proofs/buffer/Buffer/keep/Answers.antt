use Rattle.std.proofs.Common.{rules, ◌≡◌, ℕ, ◌-◌, ◌≤◌, List, length, sym, refl, subst, ◌∙◌, arith}
use Rattle.spec_decoder.specs.Decoder.{is_among}
use Rattle.picture_buffer.specs.Pictures.{HeldPicture}
use Rattle.decoder.proofs.Buffers.{Keeps, held-all, held-first, held-next, room-next}
use Rattle.decoder.proofs.buffer.Buffer.keep.Goals as goal

pub loop-place-init : goal.loop-place-init
loop-place-init c =
    let e : c.len-place.result ≡ length c.args.self.now.pictures = search rules in
    record {
      inside = omega (arith, e);
      room = omega (arith, e);
      level = search rules;
      keeps =
          subst (λ (n : ℕ). Keeps c.args.places.now c.args.self.now n c.args.self.now) (sym e)
          (held-first c.args.places.now c.args.self.now (search rules));
      number = refl;
    }

pub loop-place-preserved : goal.loop-place-preserved
loop-place-preserved c =
    let n = c.loop-place.place in
    record {
      inside = omega (arith, c.loop-place.invariant.inside);
      room = subst (λ (now : List HeldPicture). n - 1 ≤ length now) (sym c.judge_place.ensures.pictures)
          (room-next c.loop-place.self.pictures n (is_among c.args.places.now (n - 1)) c.loop-place-test.true
          c.loop-place.invariant.room);
      level = c.judge_place.ensures.level;
      keeps =
          held-next c.args.places.now c.args.self.now c.loop-place.self c.judge_place.new.self n
          c.loop-place-test.true c.loop-place.invariant.inside (search rules) c.loop-place.invariant.level
          (record { tags = c.judge_place.ensures.tags; pictures = c.judge_place.ensures.pictures })
          c.loop-place.invariant.keeps;
      number = c.judge_place.ensures.number ∙ c.loop-place.invariant.number;
    }

pub returns : goal.returns
returns c = record {
  kept = held-all c.args.places.now c.args.self.now c.loop-place.self c.loop-place.place (search rules)
      c.loop-place.invariant.keeps;
  number = c.loop-place.invariant.number;
}
