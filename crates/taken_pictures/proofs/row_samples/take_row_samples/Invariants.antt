use Rattle.std.proofs.Common.{◌≡◌, ℕ, ◌<◌, ◌&&◌, cond, nat_lt}
use Rattle.hv_base.specs.declared.line.Phase.TheVariants.{S}
use Rattle.picture_buffer.specs.Planes.{HasSides, samples_of}
use Rattle.sample_words.specs.Contents.{component_side}
use Rattle.progress_words.specs.Passes.{Knows, view}
use Rattle.sample_lines.specs.FactsOfFlights.{flight_in}
use Rattle.sample_lines.specs.FactsOfFlights.{samples_at}
use Rattle.taken_pictures.specs.Rows.{is_line_of_row}
use Rattle.taken_pictures.proofs.row_samples.take_row_samples.Given as goal

abbrev pub invariant-loop-c : goal.invariant-loop-c
invariant-loop-c l = record {
  knows : Knows l.fn.pass l.pass (view l.fn.pass);
  sides : HasSides l.planes l.layout.width l.layout.height;
  samples : (i x y : ℕ) → i < 3 → x < component_side i l.layout.width → y < component_side i l.layout.height
      → samples_of l.planes i x y
      ≡ cond (nat_lt i l.c && is_line_of_row l.layout i l.at.line.row y)
      (samples_at (flight_in l.board.flight) l.at.line.picture S i x y) (samples_of l.fn.planes i x y);
}
