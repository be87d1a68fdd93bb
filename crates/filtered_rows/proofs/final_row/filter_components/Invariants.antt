use Rattle.std.proofs.Common.{◌≡◌, length}
use Rattle.sample_words.specs.Contents.{components_before}
use Rattle.progress_words.specs.Passes.{Knows, view}
use Rattle.line_words.specs.Passes.{writing_run}
use Rattle.sample_lines.specs.Lines.{luma_height, luma_width}
use Rattle.filtered_rows.proofs.final_row.filter_components.Given as goal

abbrev pub invariant-loop-c : goal.invariant-loop-c
invariant-loop-c l = record {
  knows : Knows l.fn.pass l.pass
      (writing_run (view l.fn.pass) (components_before l.layout (luma_width l.at) (luma_height l.at) l.c));
  lines : length l.lines ≡ length l.fn.lines;
  copy : length l.copy ≡ length l.fn.copy;
}
