use Rattle.std.proofs.Common.{◌*◌, min, length}
use Rattle.sample_words.specs.Sizes.{line_words}
use Rattle.progress_words.specs.Passes.{Knows, view}
use Rattle.line_words.specs.Passes.{writing_run}
use Rattle.sample_lines.proofs.packing.write_words.Given as goal

abbrev pub invariant-loop-k : goal.invariant-loop-k
invariant-loop-k l =
    Knows l.fn.pass l.pass (writing_run (view l.fn.pass) (min (16 * l.k) (line_words l.layout (length l.samples))))
