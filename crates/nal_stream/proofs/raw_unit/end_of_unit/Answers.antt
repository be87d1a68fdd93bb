use Rattle.std.proofs.Common.{◌+◌, ◌<◌, get_or, length, refl, sym, ◌∙◌, arith}
use Rattle.std.proofs.lemmas.Bool.Decides.{Decides-eqb, Decides-ltb}
use Rattle.spec_nal_units.proofs.Ends.{unit_end-first, unit_end-none}
use Rattle.nal_stream.proofs.Scanning.{and_both, ends_unit-at, none_before_three}
use Rattle.nal_stream.proofs.raw_unit.end_of_unit.Goals as goal

pub loop-at-preserved-then-bytes-at-gt1 : goal.loop-at-preserved-then-bytes-at-gt1
loop-at-preserved-then-bytes-at-gt1 c =
    let big : 1 < get_or c.args.bytes.now (c.loop-at.at + 2) 0 = omega arith in (
      omega arith,
      none_before_three c.args.bytes.now c.loop-at.at (c.loop-at.at + 2) (c.loop-at.at + 3) refl refl big
          c.loop-at.invariant.1,
    )

pub returns-then-bytes-at-eq0-2 : goal.returns-then-bytes-at-eq0-2
returns-then-bytes-at-eq0-2 c =
    let bytes = c.args.bytes.now in
    let at = c.loop-at.at in
    let lt : at + 2 < length bytes = omega arith in
    let first = Decides-eqb (get_or bytes at 0) 0 in
    let second = Decides-eqb (get_or bytes (at + 1) 0) 0 in
    let third = Decides-ltb (get_or bytes (at + 2) 0) 2 in
    sym (unit_end-first bytes at c.loop-at.invariant.1
    (ends_unit-at bytes at (at + 1) (at + 2) refl refl lt
    ∙ and_both _ _ (and_both _ _ (first.1 (omega arith)) (second.1 (omega arith))) (third.1 (omega arith))))

pub returns : goal.returns
returns c = sym (unit_end-none c.args.bytes.now (λ j lt. c.loop-at.invariant.1 j (omega arith)))
