use Rattle.std.proofs.Common.{◌≡◌, ◌<◌, ◌≤◌, ℕ}
use Rattle.picture_buffer.specs.Planes.{HasSides, samples_of}
use Rattle.spec_loop_filters.specs.Filters.{final_samples, height_of, width_of}
use Rattle.loop_filters.specs.Formats.{filters_of}
use Rattle.loop_filters.specs.Scratch.{HasRoom}
use Rattle.loop_filters.proofs.picture.filter_picture.Given as goal

abbrev pub invariant-loop-c : goal.invariant-loop-c
invariant-loop-c g l = record {
  sides : HasSides l.planes l.format.width l.format.height;
  room : HasRoom l.scratch l.format.width l.format.height;
  told : (i x y : ℕ) → i < l.c → x < width_of l.format i → y < height_of l.format i → samples_of l.planes i x y
      ≡ final_samples (filters_of l.format (g.V.PlaceView.place_at l.view) (g.V.FilterView.unit_at l.view))
      (samples_of l.fn.planes) i x y;
  others : (i x y : ℕ) → l.c ≤ i → samples_of l.planes i x y ≡ samples_of l.fn.planes i x y;
}
