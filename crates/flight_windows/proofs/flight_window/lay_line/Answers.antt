use Rattle.std.proofs.Common.{rules, pos, ◌+ℤ◌, arith}
use Rattle.std.proofs.lemmas.List.Elements.{All-from_get_or}
use Rattle.inter_pred.specs.Passes.{IsByte}
use Rattle.inter_pred.proofs.Laying.{part_all, part_laid}
use Rattle.flight_windows.specs.Reading.{flight_sample}
use Rattle.flight_windows.proofs.flight_window.lay_line.Goals as goal

pub returns-clause-value : goal.returns-clause-value
returns-clause-value c = λ format same.
    part_laid c.args.to c.args.width _ _ _
    (λ n. flight_sample c.args.rows.now c.args.row.now.picture format c.args.c (c.args.span.column +ℤ pos n)
    c.args.place.y)
    (search rules) (search rules) (omega arith)
    (λ i lt. c.final_line.ensures.value format same i (search rules))

pub returns-clause-bytes : goal.returns-clause-bytes
returns-clause-bytes c = λ format same small old.
    part_all IsByte _ _ _ _ old (All-from_get_or IsByte c.final_line.new.out 0 (λ k lt.
    let t = c.final_line.ensures.value format same k (search rules) in
    let s = small (c.args.span.column +ℤ pos k) c.args.place.y in
    grind (arith, t, s)))
