use Rattle.std.proofs.Common.{rules, refl, ◌+◌, ◌-◌, ◌==◌, ◌&&◌, nat_le, nat_lt, length, get_or, false, arith}
use Rattle.ctu_build.proofs.Cells.{are_laid, held_laid, line_bounds, line_copied, line_lines, line_marked}
use Rattle.ctu_build.proofs.unit_samples.UnitSamples.put_line.Goals as goal

pub returns : goal.returns
returns c =
    let a = c.args in
    let r = c.requires in
    λ i j k. held_laid _ _ c.self.inside.values _ c.self.inside.known _ i j k (get_or a.values.now (j - a.column) 0) _
    (search rules) (search rules) refl refl
    (line_bounds a.c a.column a.line (length a.values.now) i j k r.columns r.c r.line)
    (line_marked _ _ a.c a.column a.line (length a.values.now) _ c.cell-first.ensures r.columns r.c r.line
    (λ q. c.fill.ensures q false) i j k)
    (line_copied _ _ (λ m. get_or a.values.now m 0) a.c a.column a.line (length a.values.now) _
    c.cell-first.ensures r.columns r.c r.line c.copy.ensures i j k)

pub invariant_of-self : goal.invariant_of-self
invariant_of-self c =
    let a = c.args in
    let r = c.requires in
    are_laid _ _ _ _ _ _
    (λ i j k. (i == a.c) && ((k == a.line) && (nat_le a.column j && nat_lt j (a.column + length a.values.now))))
    (λ i j k. get_or a.values.now (j - a.column) 0)
    c.self.invariant (λ d. c.with-self-inside.ensures.few d 65 (omega (arith, r.line)) (c.self.invariant.few d))
    c.with-self-inside.ensures.more
    (line_lines a.c a.column a.line (length a.values.now) _ c.with-self-inside.ensures.here)
    (line_marked _ _ a.c a.column a.line (length a.values.now) _ c.cell-first.ensures r.columns r.c r.line
    (λ q. c.fill.ensures q false))
    (line_copied _ _ (λ m. get_or a.values.now m 0) a.c a.column a.line (length a.values.now) _
    c.cell-first.ensures r.columns r.c r.line c.copy.ensures)
