use Rattle.std.proofs.Common.{rules, arith, ◌<◌, ◌*◌, sym, subst}
use Rattle.progress_words.specs.Places.{Place}
use Rattle.progress_words.proofs.board.Board.count_word.Goals as goal

pub overflow_mul-result : goal.overflow_mul-result
overflow_mul-result g c =
    let M = g.F.Facts.meaning in let laid = c.self.invariant.2 in let a = laid.room in let b = laid.small in
    let line = subst (λ (b : Place g.row.F.Denot). c.args.line < (M b.flight).lines) (sym c.self.view_is) c.requires in
    let fits : 8 * c.args.line < 18446744073709551616 = omega arith in search rules
