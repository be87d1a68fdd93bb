use Rattle.std.proofs.Common.{ℕ, ◌≡◌, ◌+◌, ◌*◌, ◌∙◌, arith, ap, sym, get_or}
use Rattle.sample_lines.specs.Lines.{width_at}
use Rattle.sample_lines.proofs.whole_lines.read_lines.Goals as goal

pub returns-clause-value : goal.returns-clause-value
returns-clause-value c = λ x y column line.
    let width : ℕ = width_at c.args.at.now c.args.c in
    let is = c.width_at-width.ensures.value in
    let same : width * y ≡ c.width_at-width.result * y = ap (λ (n : ℕ). n * y) (sym is) in
    let place : width * y + x ≡ c.width_at-width.result * y + (0 + x) = omega (arith, same) in
    ap (λ (n : ℕ). get_or c.lay_lines.new.out n 0) place ∙ c.lay_lines.ensures.value x y column line

pub lay_lines-requires-clause-room : goal.lay_lines-requires-clause-room
lay_lines-requires-clause-room c =
    c.requires.room ∙ ap (λ (n : ℕ). n * c.args.lines) (sym c.width_at-width.ensures.value)
