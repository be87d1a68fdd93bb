use Rattle.std.proofs.Common.{rules, ◌≡◌, refl, subst}
use Rattle.hv_base.specs.declared.outcome.Outcome.{Outcome}
use Rattle.hv_base.specs.declared.outcome.Outcome.TheVariants as outcome
use Rattle.hv_base.specs.Text.{status_of, outcome_line}
use Rattle.decoder.specs.declared.options.Options.{Options}
use Rattle.decoder.specs.Headline.{Headline, IsComplete, change_of}
use Rattle.command_line.specs.declared.request.MakeOptions.{MakeOptions}
use Rattle.command_line.specs.Making.{Makes}
use Rattle.command_line.specs.Telling.{Tells}
use Rattle.command_line.specs.Words.{words_taken}
use Rattle.command_line.proofs.Makings.{nothing_by, one_decoding, one_stream}
use Rattle.command_line.proofs.program.run.Goals as goal

pub returns-in-Ok-Decode-clause-decodes : goal.returns-in-Ok-Decode-clause-decodes
returns-in-Ok-Decode-clause-decodes g c = λ options asks.
    let same : c.in-Ok-Decode.options ≡ options =
    one_decoding (words_taken c.args.words.now) c.in-Ok-Decode.options options (search rules) asks in
    subst
    (λ (m : Options). (o : Outcome) × (c.run_decode.result.0 ≡ status_of o)
    × Headline m.form m.hash (change_of g.S.Source.left g.S.Source.faults c.args.src.now c.run_decode.new.src)
    (change_of g.O.Sink.contents g.O.Sink.faults c.args.out.now c.run_decode.new.out) o
    × IsComplete m.hash (change_of g.S.Source.left g.S.Source.faults c.args.src.now c.run_decode.new.src)
    (change_of g.O.Sink.contents g.O.Sink.faults c.args.out.now c.run_decode.new.out) o
    × Tells (change_of g.E.Sink.contents g.E.Sink.faults c.args.err.now c.run_decode.new.err) (outcome_line o))
    same c.run_decode.ensures

pub returns-in-Ok-Make-clause-makes : goal.returns-in-Ok-Make-clause-makes
returns-in-Ok-Make-clause-makes g c = λ options asks.
    let same : c.in-Ok-Make.options ≡ options =
    one_stream (words_taken c.args.words.now) c.in-Ok-Make.options options (search rules) asks in
    let made =
    subst
    (λ (m : MakeOptions). (o : Outcome) × (c.run_make.result.0 ≡ status_of o)
    × Makes (change_of g.O.Sink.contents g.O.Sink.faults c.args.out.now c.run_make.new.out) m o
    × Tells (change_of g.E.Sink.contents g.E.Sink.faults c.args.err.now c.run_make.new.err) (outcome_line o))
    same c.run_make.ensures in
    ((refl, refl), made.0, made.1, made.2, made.3)

pub returns-in-Err-Memory-clause-makes : goal.returns-in-Err-Memory-clause-makes
returns-in-Err-Memory-clause-makes g c = λ options asks. (
  (refl, refl),
  outcome.Memory,
  search rules,
  nothing_by options.summary (g.O.Sink.contents c.args.out.now) (g.O.Sink.faults c.args.out.now) options,
  search rules,
)
