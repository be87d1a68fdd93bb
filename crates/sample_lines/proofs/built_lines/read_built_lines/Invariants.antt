use Rattle.std.proofs.Common.{ℕ, ◌≡◌, ◌+◌, ◌*◌, ◌<◌, length, slice_index}
use Rattle.hv_base.specs.declared.line.Phase.TheVariants.{B}
use Rattle.sample_words.specs.Contents.{component_side}
use Rattle.sample_words.specs.Sizes.{ctb_size}
use Rattle.progress_words.specs.Passes.{Knows, view}
use Rattle.flight_facts.specs.Facts.{flight_in}
use Rattle.flight_facts.specs.Flights.{samples_at}
use Rattle.sample_lines.proofs.built_lines.read_built_lines.Given as goal

abbrev pub invariant-loop-column : goal.invariant-loop-column
invariant-loop-column l = record {
  count : length l.out ≡ length l.fn.out;
  knows : Knows l.fn.pass l.pass (view l.fn.pass);
  told : (x y : ℕ) → x < component_side l.c l.layout.width
      → x < component_side l.c (l.column * ctb_size l.layout) → y < l.fn.lines
      → slice_index l.out (component_side l.c l.layout.width * y + x)
      ≡ samples_at (flight_in l.board.flight) l.line.picture B l.c x
      (component_side l.c (l.line.row * ctb_size l.layout) + (l.first + y));
}
