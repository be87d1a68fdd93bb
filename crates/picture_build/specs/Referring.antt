-- Samples of planes as pictures that are built refer to them.
use Rattle.std.specs.Prelude.{ℕ, ℤ, min}
use Rattle.picture_buffer.specs.Planes.{PictureSamples, plane_height, plane_width, samples_of}
use Rattle.spec_inter_prediction.specs.Taps.{clamped}

-- the sample of a component at a column and a line, or the nearest one inside, held to a greatest one
abbrev pub held_sample : PictureSamples → ℕ → ℕ → ℤ → ℤ → ℕ
held_sample planes c greatest x y =
    min (samples_of planes c (clamped x (plane_width planes c)) (clamped y (plane_height planes c))) greatest
