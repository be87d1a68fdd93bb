use Rattle.std.proofs.Common.{rules, ◌≡◌, pos, ◌+ℤ◌, ◌∙◌}
use mir.Val.{SFits}
use mir.Syntax.{w32}
use Rattle.flight_windows.specs.Reading.{flight_sample}
use Rattle.flight_windows.proofs.Plain.{plain}
use Rattle.flight_windows.proofs.flight_window.flight_row.Goals as goal

pub row-row-requires : goal.row-row-requires
row-row-requires c = λ j r told. (c.requires.sees.rows j r told).0

pub returns-clause-value : goal.returns-clause-value
returns-clause-value c = λ format same k lt.
    let fx : SFits w32 c.args.x = search rules in
    let fy : SFits w32 c.args.y = search rules in
    let column : c.of-span.result.column ≡ c.args.x = c.of-span.ensures.column ∙ plain c.args.x fx in
    let line : c.of-place.result.y ≡ c.args.y = c.of-place.ensures.y ∙ plain c.args.y fy in
    let picture = c.row-row.ensures.picture in
    c.final_line.ensures.value format same k lt
    ∙ (λ i. flight_sample c.args.rows.now (picture i) format c.args.c (column i +ℤ pos k) (line i))
