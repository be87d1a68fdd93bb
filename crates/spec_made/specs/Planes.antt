-- The samples of the pictures that are drawn, by place, 128x96 of luma and 64x48 of each chroma component.
use Rattle.std.specs.Prelude.{ℕ, ◌+◌, ◌-◌, ◌*◌, ◌/◌, ◌%◌, List, [], ◌∷◌, map, get_or, min, replicate, Option, Some}
use Rattle.std.specs.Prelude.{None}
use Rattle.std.specs.Prelude.{if◌then◌else◌}
use Rattle.std.specs.List.{range_with_len}
use Rattle.spec_made.specs.declared.units.PcmUnit.{PcmUnit}
use Rattle.spec_made.specs.declared.units.Shift.{Shift}
use Rattle.spec_made.specs.declared.units.Motion.{Motion}
use Rattle.spec_made.specs.PcmRows.{no_samples}

-- the planes of a picture, row after row
pub record Planes : Type 0 where
  pub luma : List ℕ
  pub cb : List ℕ
  pub cr : List ℕ

-- a component: the side of a unit in its samples, and where they begin among those of a unit and of a coding unit of
-- 8x8 luma samples
pub record Component : Type 0 where
  pub side : ℕ
  pub whole : ℕ
  pub quarter : ℕ

abbrev pub luma : Component
luma = record { side = 16; whole = 0; quarter = 0 }

abbrev pub cb : Component
cb = record { side = 8; whole = 256; quarter = 64 }

abbrev pub cr : Component
cr = record { side = 8; whole = 320; quarter = 80 }

-- a plane of 8 units across and 6 down, by the sample at each column and row
unfoldable pub plane_of : ℕ → (ℕ → ℕ → ℕ) → List ℕ
plane_of side sample = map (λ k. sample (k % (8 * side)) (k / (8 * side))) (range_with_len 0 (48 * side * side))

-- where the sample at a column and a row of a unit stands among its samples
abbrev pub place_in_unit : Component → PcmUnit → ℕ → ℕ → ℕ
place_in_unit c u x y =
    let half = c.side / 2 in
    if u.split then 96 * (2 * (y / half) + x / half) + c.quarter + half * (y % half) + x % half
    else c.whole + c.side * y + x

unfoldable pub pcm_sample : List PcmUnit → Component → ℕ → ℕ → ℕ
pcm_sample units c x y =
    let u = get_or units (8 * (y / c.side) + x / c.side) no_samples in
    get_or u.samples (place_in_unit c u (x % c.side) (y % c.side)) 0

abbrev pub pcm_planes : List PcmUnit → Planes
pcm_planes units = record {
  luma = plane_of 16 (pcm_sample units luma);
  cb = plane_of 8 (pcm_sample units cb);
  cr = plane_of 8 (pcm_sample units cr);
}

-- a column or a row of so many, moved and clamped: a vector of 2 * d - 200 luma samples is one of d - 100 in chroma
abbrev pub moved_place : ℕ → ℕ → ℕ → ℕ → ℕ
moved_place count factor x d = min (x + factor * d - 100 * factor) (count - 1)

unfoldable pub moved_sample : List ℕ → ℕ → Shift → ℕ → ℕ → ℕ
moved_sample plane side s x y =
    let column = moved_place (8 * side) (side / 8) x s.across in
    let row = moved_place (6 * side) (side / 8) y s.down in
    get_or plane (8 * side * row + column) 0

abbrev pub moved_planes : Planes → Shift → Planes
moved_planes p s = record {
  luma = plane_of 16 (moved_sample p.luma 16 s);
  cb = plane_of 8 (moved_sample p.cb 8 s);
  cr = plane_of 8 (moved_sample p.cr 8 s);
}

-- black, which no picture refers to
unfoldable pub blank : ℕ → List ℕ
blank n = replicate n 0

unfoldable pub no_planes : Planes
no_planes = record { luma = blank 12288; cb = blank 3072; cr = blank 3072 }

-- the mean of two planes, rounded up
abbrev pub mean_of : List ℕ → List ℕ → List ℕ
mean_of [] second = []
mean_of (a ∷ first) [] = []
mean_of (a ∷ first) (b ∷ second) = (a + b + 1) / 2 ∷ mean_of first second

abbrev pub mean_planes : Planes → Planes → Planes
mean_planes p q = record {
  luma = mean_of p.luma q.luma;
  cb = mean_of p.cb q.cb;
  cr = mean_of p.cr q.cr;
}

-- a picture by the motion of its two references
abbrev pub predicted_by : Planes → Planes → Shift → Option Shift → Planes
predicted_by older last first None = moved_planes last first
predicted_by older last first (Some second) = mean_planes (moved_planes older first) (moved_planes last second)

abbrev pub predicted_planes : Planes → Planes → Motion → Planes
predicted_planes older last m = predicted_by older last m.first m.second
