use Rattle.std.proofs.Common.{ℕ, ◌≡◌, ◌+◌, ◌*◌, ◌<◌, ◌≤◌, ◌∙◌, arith, ap, sym, subst, get_or}
use Rattle.hv_base.specs.declared.line.Phase.{Phase}
use Rattle.sample_words.specs.Contents.{component_side}
use Rattle.sample_words.specs.Sizes.{ctb_size}
use Rattle.sample_words.specs.Words.{line_units}
use Rattle.progress_words.specs.Passes.{view}
use Rattle.progress_words.specs.Views.{seen_of}
use Rattle.line_words.specs.Places.{UnitAt, number_at}
use Rattle.flight_facts.specs.Facts.{flight_in}
use Rattle.sample_lines.specs.Lines.{height_at, sample_of, width_at}
use Rattle.sample_lines.proofs.Built.{built_ends, built_sample, built_width}
use Rattle.sample_lines.proofs.built_lines.lay_unit.Goals as goal

pub new-at-requires-clause-unit : goal.new-at-requires-clause-unit
new-at-requires-clause-unit c =
    subst (λ (p : Phase). c.args.column < line_units c.args.layout.now p) (sym c.requires.phase) c.requires.column

pub lay_lines-requires-clause-seen : goal.lay_lines-requires-clause-seen
lay_lines-requires-clause-seen c =
    subst (λ (u : UnitAt). u.unit < seen_of (view c.args.pass.now) (number_at u)) (sym c.new-at.ensures) c.requires.seen

pub lay_lines-requires-clause-inside : goal.lay_lines-requires-clause-inside
lay_lines-requires-clause-inside c =
    subst (λ (u : UnitAt). c.args.lines.first + c.args.lines.count ≤ height_at u c.args.lines.c) (sym c.new-at.ensures)
    c.requires.inside

pub lay_lines-requires-clause-columns : goal.lay_lines-requires-clause-columns
lay_lines-requires-clause-columns c =
    let s = c.args.layout.now in
    let n = c.args.lines.c in
    let k = c.args.column in
    let left = c.component_side-left.ensures.value in
    let side = c.ctb_size-side.ensures.value in
    let start : component_side n (k * c.ctb_size-side.result) ≡ component_side n (k * ctb_size s) =
    ap (λ (w : ℕ). component_side n (k * w)) side in
    let ends =
    built_ends s c.args.line k c.requires.phase n c.ctb_size-side.ensures.in_range c.requires.column in
    let stride = c.requires.stride in
    subst (λ (u : UnitAt). c.component_side-left.result + width_at u n ≤ c.args.lines.stride) (sym c.new-at.ensures)
    (omega (arith, left, start, ends, stride))

pub returns-clause-value : goal.returns-clause-value
returns-clause-value c = λ x y column line.
    let s = c.args.layout.now in
    let n = c.args.lines.c in
    let k = c.args.column in
    let f = flight_in c.args.board.now.flight in
    let is = c.new-at.ensures in
    let side = ap (λ (w : ℕ). component_side n (k * w)) c.ctb_size-side.ensures.value in
    let left : component_side n (k * ctb_size s) ≡ c.component_side-left.result =
    sym (c.component_side-left.ensures.value ∙ side) in
    let inside : x < width_at c.new-at.result n =
    subst (λ (u : UnitAt). x < width_at u n) (sym is)
    (subst (λ (w : ℕ). x < w) (sym (built_width s c.args.line k c.requires.phase n)) column) in
    ap (λ (w : ℕ). get_or c.lay_lines.new.out (c.args.lines.stride * y + (w + x)) 0) left
    ∙ (c.lay_lines.ensures.value x y inside line
    ∙ (ap (λ (u : UnitAt). sample_of f u n x (c.args.lines.first + y)) is
    ∙ built_sample s c.args.line k c.requires.phase f n x (c.args.lines.first + y)))

pub returns-clause-kept : goal.returns-clause-kept
returns-clause-kept c = λ x y column.
    let s = c.args.layout.now in
    let n = c.args.lines.c in
    let k = c.args.column in
    let side = ap (λ (w : ℕ). component_side n (k * w)) c.ctb_size-side.ensures.value in
    let left : component_side n (k * ctb_size s) ≡ c.component_side-left.result =
    sym (c.component_side-left.ensures.value ∙ side) in
    c.lay_lines.ensures.kept x y (subst (λ (w : ℕ). x < w) left column)
