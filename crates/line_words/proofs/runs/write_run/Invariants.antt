use Rattle.progress_words.specs.Passes.{Knows, view}
use Rattle.line_words.specs.Passes.{writing_run}
use Rattle.line_words.proofs.runs.write_run.Given as goal

abbrev pub invariant-loop-k : goal.invariant-loop-k
invariant-loop-k g l = Knows l.fn.pass l.pass (writing_run (view l.fn.pass) l.k)
