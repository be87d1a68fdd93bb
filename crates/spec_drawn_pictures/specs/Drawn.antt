-- The pictures that are drawn of a seed, one after the other, in groups of eight: one that has samples of its own, and
-- then by turns one that moves an earlier picture and one that is the mean of two. Nothing here is of a stream.
use Rattle.std.specs.Prelude.{ℕ, zero, suc, ◌%◌, ◌==◌, if◌then◌else◌}
use Rattle.rand_pcg.specs.Lcg.{Lcg}
use Rattle.spec_made.specs.Draws.{generator_of, inter_units_of, pcm_units_of, shift_of}
use Rattle.spec_made.specs.Planes.{Planes, mean_planes, moved_planes, no_planes, pcm_planes}

-- between two pictures: the generator, and the two pictures that others may be drawn of, the later one last
pub record Between : Type 0 where
  pub generator : Lcg
  pub older : Planes
  pub last : Planes

-- before the first picture
abbrev pub start_of : ℕ → Between
start_of seed = record { generator = generator_of seed; older = no_planes; last = no_planes }

-- a picture that has samples of its own, and what stands behind it: others may be drawn of it
unfoldable pub sampled : Between → Planes × Between
sampled b =
    let units = pcm_units_of b.generator in
    let planes = pcm_planes units.0 in
    (planes, record { generator = units.1; older = b.older; last = planes })

-- the last picture, moved by a vector. Which of its units are split and skipped is drawn behind that, and shows in no
-- sample. Others may be drawn of it
unfoldable pub moved : Between → Planes × Between
moved b =
    let vector = shift_of b.generator in
    let planes = moved_planes b.last vector.0 in
    (planes, record { generator = (inter_units_of vector.1).1; older = b.last; last = planes })

-- the mean of both pictures, each moved by a vector of its own. No other is drawn of it
unfoldable pub averaged : Between → Planes × Between
averaged b =
    let first = shift_of b.generator in
    let second = shift_of first.1 in
    let planes = mean_planes (moved_planes b.older first.0) (moved_planes b.last second.0) in
    (planes, record { generator = (inter_units_of second.1).1; older = b.older; last = b.last })

-- the picture of a number in its group, and what stands behind it
unfoldable pub picture_of : ℕ → Between → Planes × Between
picture_of g b = if g == 0 then sampled b else (if g % 2 == 1 then moved b else averaged b)

-- what stands before the picture of a number
unfoldable pub before : ℕ → ℕ → Between
before seed zero = start_of seed
before seed (suc j) = (picture_of (j % 8) (before seed j)).1

-- the picture of a number, by its seed
unfoldable pub picture_drawn : ℕ → ℕ → Planes
picture_drawn seed j = (picture_of (j % 8) (before seed j)).0
