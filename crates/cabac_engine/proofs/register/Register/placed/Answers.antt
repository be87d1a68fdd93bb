use Rattle.std.proofs.Common.{◌≡◌, ◌+◌, ◌-◌, ◌*◌, ◌/◌, ◌%◌, ◌^◌, take, drop, arith, ap, ◌∙◌}
use Rattle.spec_bits.specs.Bits.{bits, number_of}
use Rattle.cabac_engine.proofs.Held.{put, shifted}
use Rattle.cabac_engine.proofs.register.Register.placed.Goals as goal

pub invariant_of-result : goal.invariant_of-result
invariant_of-result c =
    let next = (c.args.at + 7) / 8 in
    let held = 8 * next - c.args.at in
    let place : c.args.at ≡ 8 * next - held = omega arith in
    let fits : c.from.result * 2 ^ held % 18446744073709551616 ≡ c.args.offset * 2 ^ held =
    rw c.from.ensures (shifted c.args.offset held c.requires.small (omega arith)) in
    let whole : c.from.result * 2 ^ held % 18446744073709551616 + c.from-2.result
    ≡ c.args.offset * 2 ^ held + number_of (take held (drop (8 * next - held) (bits c.args.bytes.now))) =
    ap (λ x. x + c.from-2.result) fits
    ∙ ap (λ d. c.args.offset * 2 ^ held + d) (c.from-2.ensures ∙ c.number_at-ahead.ensures.value)
    ∙ ap (λ k. c.args.offset * 2 ^ held + number_of (take held (drop k (bits c.args.bytes.now)))) place in
    (put _ c.args.offset held next c.args.bytes.now c.requires.size (omega arith) (omega arith) (omega arith)
    c.requires.small whole).kept
