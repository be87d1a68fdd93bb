use Rattle.std.proofs.Common.{◌≡◌, ap, sym, subst}
use Rattle.progress_words.specs.declared.view.View.{View}
use Rattle.progress_words.specs.Passes.{view}
use Rattle.progress_words.specs.Views.{HasEnded}
use Rattle.border_words.specs.RowBorders.{Bordering, with_left}
use Rattle.border_words.specs.FlightFacts.{FlightFacts}
use Rattle.border_words.specs.FlightFacts.{flight_meaning}
use Rattle.border_words.specs.FlightFacts.{flight_in}
use Rattle.built_rows.specs.declared.row_builder.RowBuilder.{RowBuilder}
use Rattle.built_rows.specs.Stages.{StandsAt, next_of}
use Rattle.built_rows.proofs.Counted.{counts_on, row_ended}
use Rattle.built_rows.proofs.Inside.{is_shape}
use Rattle.built_rows.proofs.Next.{stands_next}
use Rattle.built_rows.proofs.finishing.finish_next.Goals as goal

pub returns-clause-next : goal.returns-clause-next
returns-clause-next c = λ inside.
    let facts = c.args.board.now.flight in
    let b = c.args.builder.now in
    let after : RowBuilder = record b { border = c.keep_left.new.self } in
    let kept : after ≡ record b { border = with_left b.border c.keep_left.new.self.left } =
    ap (λ (q : Bordering). record b { border = q }) c.keep_left.ensures.same in
    subst (λ (u : View FlightFacts). StandsAt facts c.args.picture.now (next_of c.args.at.now) u after)
    (sym c.count_built.ensures.seen.1)
    (stands_next facts c.args.picture.now c.args.at.now (view c.args.pass.now) b after c.requires.working
    c.requires.read c.requires.built kept (is_shape facts c.args.picture.now c.requires.picture)
    c.keep_left.ensures.column c.count_built.ensures.sound inside)

pub returns-clause-last : goal.returns-clause-last
returns-clause-last c = λ last.
    let facts = c.args.board.now.flight in
    subst (HasEnded (flight_meaning (flight_in facts))) (sym c.count_built.ensures.seen.1)
    (row_ended facts c.args.picture.now c.requires.picture c.args.at.now c.requires.working.unit
    c.count_built.ensures.unit (view c.args.pass.now) c.requires.working.holds last)

pub returns-clause-kept : goal.returns-clause-kept
returns-clause-kept c =
    let b = c.args.builder.now in
    let after : RowBuilder = record b { border = c.keep_left.new.self } in
    let kept : after ≡ record b { border = with_left b.border c.keep_left.new.self.left } =
    ap (λ (q : Bordering). record b { border = q }) c.keep_left.ensures.same in
    counts_on c.args.board.now c.args.picture.now c.args.at.now c.args.pass.now c.count_built.new.pass b after
    c.requires.own c.requires.working c.count_built.ensures.seen c.count_built.ensures.sound kept
