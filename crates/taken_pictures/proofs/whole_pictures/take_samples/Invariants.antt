use Rattle.std.proofs.Common.{◌≡◌, ℕ, ◌<◌}
use Rattle.hv_base.specs.declared.line.Phase.TheVariants.{S}
use Rattle.picture_buffer.specs.Planes.{HasSides, samples_of}
use Rattle.sample_words.specs.Contents.{component_side}
use Rattle.progress_words.specs.Passes.{Knows, view}
use Rattle.sample_lines.specs.FactsOfFlights.{flight_in}
use Rattle.sample_lines.specs.FactsOfFlights.{samples_at}
use Rattle.taken_pictures.specs.Rows.{first_line}
use Rattle.taken_pictures.proofs.whole_pictures.take_samples.Given as goal

abbrev pub invariant-loop-row : goal.invariant-loop-row
invariant-loop-row l = record {
  knows : Knows l.fn.pass l.pass (view l.fn.pass);
  sides : HasSides l.planes l.layout.width l.layout.height;
  samples : (c x y : ℕ) → c < 3 → x < component_side c l.layout.width → y < component_side c l.layout.height
      → y < first_line l.layout c l.row
      → samples_of l.planes c x y ≡ samples_at (flight_in l.board.flight) l.picture S c x y;
}
