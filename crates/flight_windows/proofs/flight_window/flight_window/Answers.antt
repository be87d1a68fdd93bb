use Rattle.std.proofs.Common.{rules, ◌≡◌, ◌<◌, pos, ◌+ℤ◌, sym, subst, ◌∙◌}
use mir.Val.{SFits}
use mir.Syntax.{w32}
use Rattle.flight_windows.specs.Reading.{flight_sample}
use Rattle.flight_windows.proofs.Plain.{plain}
use Rattle.flight_windows.proofs.flight_window.flight_window.Goals as goal

pub row-row-requires : goal.row-row-requires
row-row-requires c = λ j r told. (c.requires.sees.rows j r told).0

pub returns-clause-value : goal.returns-clause-value
returns-clause-value c = λ format same i j hi hj.
    let from = c.args.from in
    let fx : SFits w32 from.x = search rules in
    let column : c.of-span.result.column ≡ from.x = c.of-span.ensures.column ∙ plain from.x fx in
    let picture = c.row-row.ensures.picture in
    c.lay_lines.ensures.value format same i j hi hj
    ∙ (λ t. flight_sample c.args.rows.now (picture t) format from.component (column t +ℤ pos i) (from.y +ℤ pos j))

pub returns-clause-bytes : goal.returns-clause-bytes
returns-clause-bytes c = λ format same small old.
    let from = c.args.from in
    let picture = c.row-row.ensures.picture in
    c.lay_lines.ensures.bytes format same (λ x y.
    subst (λ p. flight_sample c.args.rows.now p format from.component x y < 256) (sym picture) (small x y)) old
