use Rattle.std.proofs.Common.{ℕ, Bool, ◌+◌, ◌-◌, ◌*◌, ◌/◌, ◌^◌, ◌<◌, length, cond, ap, refl, ◌∙◌, arith}
use Rattle.std.specs.Prelude.{min}
use Rattle.sao_filter.specs.Row.{at, kept_at, lines_of, samples_of, top}
use Rattle.sao_filter.proofs.Kept.{keep_more, kept_is}
use Rattle.sao_filter.proofs.Rows.{line_is, room}
use Rattle.sao_filter.proofs.filtering.keep_line.Goals as goal

pub bounds-lines-from : goal.bounds-lines-from
bounds-lines-from c =
    let row = c.args.row.now in
    let r =
    room row.width (c.args.line + c.min.result)
    (min (row.size * row.row + row.size + 1) row.height - (row.size * row.row - 1)) (c.loop-x.x + 1) _
    (omega (arith, c.requires.row.begins, c.requires.line, c.min.ensures)) c.requires.lines
    (omega (arith, c.loop-x-test.true)) in
    omega (arith, r)

pub loop-x-preserved : goal.loop-x-preserved
loop-x-preserved c =
    let row = c.args.row.now in
    let lines = c.args.lines.now in
    let line = c.args.line in
    let x = c.loop-x.x in
    let r =
    room row.width line (lines_of row) (x + 1) _ c.requires.line c.requires.out (omega (arith, c.loop-x-test.true)) in
    let inside : row.width * line + x < length c.loop-x.out = omega (arith, r, c.loop-x.auto.out) in
    keep_more row.width line x c.chosen.result (row.width * line) c.loop-x.out c.args.out.now
    (λ (i j : ℕ). kept_at row i (top row + j)) (λ (i j : ℕ). samples_of row lines i (top row + j)) refl
    c.loop-x-test.true inside
    (c.chosen.ensures
    ∙ ap
    (λ (b : Bool). cond b (at lines (row.width * (line + c.min.result) + x)) (at c.loop-x.out (row.width * line + x)))
    (c.is_kept-kept.ensures ∙ kept_is row x line (row.places * (line / 2 ^ row.place_log2)) refl)
    ∙ ap (λ (v : ℕ). cond (kept_at row x (top row + line)) v (at c.loop-x.out (row.width * line + x)))
    (line_is row lines line c.min.result x c.min.ensures))
    c.loop-x.invariant
