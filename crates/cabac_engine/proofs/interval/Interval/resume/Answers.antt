use Rattle.std.proofs.Common.{◌≡◌, ◌-◌, ◌*◌, length, ℕ, List, arith, sym, ap, ◌∙◌, length-drop, slice_index_or}
use Rattle.spec_bits.proofs.Places.{length-bits}
use Rattle.cabac_engine.proofs.Reading.{same_engine}
use Rattle.cabac_engine.proofs.interval.Interval.resume.Goals as goal

pub returns-clause-value : goal.returns-clause-value
returns-clause-value c = λ engine bits_is inside state_is.
    let all : length engine.bits ≡ 8 * length c.args.bytes.now = ap length bits_is ∙ length-bits c.args.bytes.now in
    let left : slice_index_or c.args.state 2 0 ≡ length engine.bits - engine.at =
    ap (λ (s : List ℕ). slice_index_or s 2 0) state_is ∙ length-drop engine.at engine.bits in
    let p = c.placed.ensures in
    let at : 8 * length c.args.bytes.now - slice_index_or c.args.state 2 0 ≡ engine.at = omega arith in
    same_engine engine _ _ _ _ (ap (λ (s : List ℕ). slice_index_or s 0 0) state_is)
    (p.offset ∙ ap (λ (s : List ℕ). slice_index_or s 1 0) state_is) (p.bits ∙ sym bits_is) (p.at ∙ at)
