use Rattle.std.proofs.Common.{rules, ℕ, ◌+◌, ◌*◌, ◌<◌, ◌≤◌, ap, subst, arith}
use Rattle.std.proofs.Math.Nat.{mul-le-mul_right}
use Rattle.hv_base.specs.declared.line.Line.{Line}
use Rattle.hv_base.specs.declared.line.Phase.{Phase}
use Rattle.sample_words.specs.Sizes.{columns, rows}
use Rattle.sample_words.specs.Words.{line_units}
use Rattle.border_words.proofs.tree_units.unit_of.Goals as goal

few_units : (row width : ℕ) → row < 512 → width ≤ 512 → row * width ≤ 262144
few_units row width high wide =
    let most : row * width ≤ 512 * width = mul-le-mul_right width (omega (arith, high)) in omega (arith, most, wide)

pub overflow_mul-first : goal.overflow_mul-first
overflow_mul-first c =
    let below = c.line-line.ensures.unit.line.row in
    let sizes = ap rows c.requires.place in
    let all = c.rows-rows.ensures.value in
    let most = c.rows-rows.ensures.few in
    let row = ap (λ (l : Line). l.row) c.line-line.ensures.value in
    let shape = c.side-side.ensures.shape in
    let wide = shape.few in
    let width = c.width-width.ensures in
    let few = few_units c.line-line.result.row c.width-width.result (omega (arith, below, sizes, all, most, row))
    (omega (arith, wide, width)) in
    search (rules, arith)

pub overflow_add-address : goal.overflow_add-address
overflow_add-address c =
    let below = c.line-line.ensures.unit.line.row in
    let sizes = ap rows c.requires.place in
    let all = c.rows-rows.ensures.value in
    let most = c.rows-rows.ensures.few in
    let row = ap (λ (l : Line). l.row) c.line-line.ensures.value in
    let shape = c.side-side.ensures.shape in
    let wide = shape.few in
    let width = c.width-width.ensures in
    let few = few_units c.line-line.result.row c.width-width.result (omega (arith, below, sizes, all, most, row))
    (omega (arith, wide, width)) in
    let left = subst (λ (p : Phase). c.args.at.now.unit < line_units c.args.at.now.sizes p) c.requires.phase
    c.line-line.ensures.unit.unit in
    let across = ap columns c.requires.place in
    let count = c.columns-columns.ensures.value in
    let few_columns = c.columns-columns.ensures.few in
    let unit = c.unit-unit.ensures.value in
    let small : c.unit-unit.result < 512 = omega (arith, left, across, count, few_columns, unit) in
    search (rules, arith)

pub returns-clause-unit : goal.returns-clause-unit
returns-clause-unit c =
    let left = subst (λ (p : Phase). c.args.at.now.unit < line_units c.args.at.now.sizes p) c.requires.phase
    c.line-line.ensures.unit.unit in
    let across = ap columns c.requires.place in
    let count = c.columns-columns.ensures.value in
    let few = c.columns-columns.ensures.few in
    omega (arith, left, across, count, few)

pub returns-clause-address : goal.returns-clause-address
returns-clause-address c =
    let row = ap (λ (l : Line). l.row) c.line-line.ensures.value in
    λ t. row t * c.width-width.ensures t + c.unit-unit.ensures.value t
