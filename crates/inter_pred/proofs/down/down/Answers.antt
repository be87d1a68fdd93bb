use Rattle.std.proofs.Common.{◌≡◌, ℤ, ℕ, pos, ◌+ℤ◌, ◌-ℤ◌, ◌*◌, ◌+◌, arith}
use Rattle.std.proofs.lemmas.Int.{ints}
use Rattle.inter_pred.specs.Passes.{at, filter, down}
use Rattle.inter_pred.proofs.Bases.{filter_base, lowered}
use Rattle.inter_pred.proofs.down.down.Goals as goal

pub returns : goal.returns
unfolding down
returns g c =
    let m : ℕ → ℤ = λ j. pos (at c.args.middle.now (c.args.start + 64 * j)) in
    let s : ℤ = filter g.row.TAPS g.row.Q (λ j. m j -ℤ pos 6144) in
    let r = filter_base g.row.TAPS g.row.Q m in
    let e : pos c.column_sum.result ≡ pos (64 * 16896) +ℤ s = omega (arith, ints, c.column_sum.ensures.value, r) in
    lowered 16896 c.column_sum.result s e
