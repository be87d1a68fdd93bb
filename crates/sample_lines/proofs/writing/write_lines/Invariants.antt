use Rattle.std.proofs.Common.{◌*◌}
use Rattle.sample_words.specs.Sizes.{line_words}
use Rattle.progress_words.specs.Passes.{Knows, view}
use Rattle.line_words.specs.Passes.{writing_run}
use Rattle.sample_lines.specs.Lines.{width_at}
use Rattle.sample_lines.proofs.writing.write_lines.Given as goal

abbrev pub invariant-loop-y : goal.invariant-loop-y
invariant-loop-y l =
    Knows l.fn.pass l.pass
    (writing_run (view l.fn.pass) (l.y * line_words l.layout (width_at l.at l.c)))
