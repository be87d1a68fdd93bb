use Rattle.std.proofs.Common.{rules, ◌≡◌, ◌+◌, ◌-◌, ◌*◌, ◌<◌, ◌&&◌, ℕ, cond, nat_le, nat_lt, pos, ◌+ℤ◌}
use Rattle.std.proofs.Common.{sym, subst, ◌∙◌}
use mir.Val.{SFits}
use mir.Syntax.{w32}
use Rattle.inter_pred.specs.Passes.{at}
use Rattle.inter_pred.proofs.Laying.{line_laid}
use Rattle.line_words.proofs.Words.{knows_as_much}
use Rattle.flight_windows.specs.Reading.{flight_sample}
use Rattle.flight_windows.proofs.Known.{sees_still}
use Rattle.flight_windows.proofs.Plain.{plain}
use Rattle.flight_windows.proofs.flight_window.lay_lines.Goals as goal

pub turn_to-requires-clause-lines : goal.turn_to-requires-clause-lines
turn_to-requires-clause-lines c = λ j r told. (c.requires.sees.rows j r told).0

pub lay_line-requires-clause-sees : goal.lay_line-requires-clause-sees
lay_line-requires-clause-sees c =
    let rows = c.args.rows.now in
    sees_still rows.board.now rows.layout rows.seen.now c.args.pass.now c.loop-j.pass c.loop-j.invariant.knows
    c.requires.sees

pub loop-j-preserved : goal.loop-j-preserved
loop-j-preserved c =
    let rows = c.args.rows.now in
    let before = c.loop-j.invariant in
    let n : ℕ = c.loop-j.j in
    let fy : SFits w32 c.args.from.y = search rules in
    let fl : SFits w32 c.line_at.result = search rules in
    let picture : c.turn_to.new.last.picture ≡ c.args.first.picture =
    c.turn_to.ensures.picture ∙ before.picture in
    let line : c.of-place.result.y ≡ c.args.from.y +ℤ pos n =
    c.of-place.ensures.y ∙ (plain c.line_at.result fl
    ∙ (c.line_at.ensures ∙ (λ i. plain c.args.from.y fy i +ℤ pos n))) in
    record {
      knows = knows_as_much c.args.pass.now c.loop-j.pass c.lay_line.new.pass before.knows c.lay_line.ensures.same;
      row = c.turn_to.ensures.place;
      picture = picture;
      value = λ format same i k h m.
          line_laid c.args.from.width n i k c.loop-j.out c.lay_line.new.out
          (λ a b. flight_sample rows c.args.first.picture format c.args.c (c.args.span.column +ℤ pos a)
          (c.args.from.y +ℤ pos b))
          h c.requires.size.0 m
          (λ q. c.lay_line.ensures.value format same q
          ∙ (λ t. cond (nat_le (72 * n) q && nat_lt q (72 * n + c.args.from.width))
          (flight_sample rows (picture t) format c.args.c (c.args.span.column +ℤ pos (q - 72 * n)) (line t))
          (at c.loop-j.out q)))
          (before.value format same);
      bytes = λ format same small old.
          c.lay_line.ensures.bytes format same (λ x y.
          subst (λ p. flight_sample rows p format c.args.c x y < 256) (sym picture) (small x y))
          (before.bytes format same small old);
    }
