use Rattle.std.proofs.Common.{◌≡◌, ℕ, ◌+◌, ◌-◌, ◌*◌, ◌<◌, ◌≤◌, ◌∙◌, refl, arith, ap, sym, subst, get_or}
use Rattle.hv_base.specs.declared.line.Line.{Line}
use Rattle.hv_base.specs.declared.line.Phase.TheVariants.{B}
use Rattle.sample_words.specs.Contents.{component_side}
use Rattle.sample_words.specs.Sizes.{columns, ctb_size, height_of}
use Rattle.sample_words.specs.Words.{IsLine, line_number}
use Rattle.progress_words.specs.Passes.{view}
use Rattle.progress_words.specs.Views.{seen_of}
use Rattle.sample_lines.specs.FactsOfFlights.{flight_in}
use Rattle.sample_lines.specs.FactsOfFlights.{samples_at}
use Rattle.filtered_rows.proofs.Beside.{lines_inside, lines_room, lines_told}
use Rattle.filtered_rows.proofs.Laying.{part_count, part_inside, part_laid, part_size}
use Rattle.filtered_rows.proofs.Sides.{in_range}
use Rattle.filtered_rows.proofs.around.lay_some.Goals as goal

pub read_built_lines-requires-clause-line : goal.read_built_lines-requires-clause-line
read_built_lines-requires-clause-line c =
    subst (IsLine c.args.layout.now) (sym c.built_row-own.ensures)
    (record { picture = c.requires.line.picture; row = c.requires.row })

pub read_built_lines-requires-clause-phase : goal.read_built_lines-requires-clause-phase
read_built_lines-requires-clause-phase c = ap (λ (l : Line). l.phase) c.built_row-own.ensures

pub slice_bounds-read_built_lines-end : goal.slice_bounds-read_built_lines-end
slice_bounds-read_built_lines-end c =
    let k = c.args.component.now in
    part_inside k.width c.args.memory.first c.args.memory.end c.args.part.first c.args.part.end _ c.args.out.now
    c.requires.first c.requires.some c.requires.end c.requires.room refl

pub read_built_lines-requires-clause-seen : goal.read_built_lines-requires-clause-seen
read_built_lines-requires-clause-seen c =
    let s = c.args.layout.now in
    subst (λ (l : Line). columns s ≤ seen_of (view c.args.pass.now) (line_number s l)) (sym c.built_row-own.ensures)
    c.requires.seen

pub read_built_lines-requires-clause-inside : goal.read_built_lines-requires-clause-inside
read_built_lines-requires-clause-inside c =
    let s = c.args.layout.now in
    let k = c.args.component.now in
    let top = c.row_top-top.ensures.value in
    let low = c.requires.top in
    subst
    (λ (l : Line). c.args.part.first - c.row_top-top.result + (c.args.part.end - c.args.part.first)
    ≤ component_side k.c (height_of s l.row))
    (sym c.built_row-own.ensures)
    (lines_inside s k (in_range c.args.board.now.flight s c.requires.flight) c.requires.component c.args.row
    c.args.part.first c.args.part.end c.row_top-top.result top (omega (arith, top, low)) c.requires.some
    c.requires.bottom)

pub read_built_lines-requires-clause-room : goal.read_built_lines-requires-clause-room
read_built_lines-requires-clause-room c =
    let s = c.args.layout.now in
    let k = c.args.component.now in
    let count =
    part_count k.width c.args.memory.first c.args.memory.end c.args.part.first c.args.part.end _ c.args.out.now
    c.requires.first c.requires.some c.requires.end c.requires.room refl in
    lines_room s k (in_range c.args.board.now.flight s c.requires.flight) c.requires.component c.args.row _
    (c.args.part.end - c.args.part.first) count

pub returns-clause-value : goal.returns-clause-value
returns-clause-value c = λ x y column low high.
    let s = c.args.layout.now in
    let k = c.args.component.now in
    let f = flight_in c.args.board.now.flight in
    let row = c.args.row in
    let top = c.row_top-top.ensures.value in
    let above = c.requires.top in
    let first : ℕ = c.args.part.first in
    let n : ℕ = c.args.part.end - c.args.part.first in
    let g : ℕ → ℕ → ℕ = samples_at f c.args.line.picture B k.c in
    let size =
    part_size k.width c.args.memory.first c.args.memory.end first c.args.part.end _ c.args.out.now
    c.requires.first c.requires.some c.requires.end c.requires.room refl in
    let told : (i j : ℕ) → i < component_side k.c s.width → j < n
    → get_or c.read_built_lines.new.out (component_side k.c s.width * j + i) 0
    ≡ g i (component_side k.c (row * ctb_size s) + (first - c.row_top-top.result) + j) =
    subst (λ (l : Line). (i j : ℕ) → i < component_side k.c s.width → j < n
    → get_or c.read_built_lines.new.out (component_side k.c s.width * j + i) 0
    ≡ samples_at f l.picture B k.c i
    (component_side k.c (l.row * ctb_size s) + (first - c.row_top-top.result) + j))
    c.built_row-own.ensures c.read_built_lines.ensures.value in
    part_laid k.width c.args.memory.first c.args.memory.end first c.args.part.end _ c.args.out.now
    c.requires.first c.requires.some c.requires.end c.requires.room refl c.read_built_lines.new.out g
    (c.read_built_lines.ensures.count ∙ size)
    (lines_told s k (in_range c.args.board.now.flight s c.requires.flight) c.requires.component row g
    c.read_built_lines.new.out first n c.row_top-top.result top (omega (arith, top, above)) told) x y column low high
