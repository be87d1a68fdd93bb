-- A buffer that has the pictures drawn to which the picture of a number in its group refers.
use Rattle.std.specs.Prelude.{◌≡◌, ℕ, ◌%◌, ◌==◌, List, if◌then◌else◌}
use Rattle.spec_picture_build.specs.References.{DecodedPicture}
use Rattle.spec_made.specs.Planes.{Planes}
use Rattle.spec_made.specs.Stream.{Making}
use Rattle.made_laws.specs.Streams.{making_at, picture_at}
use Rattle.made_picture_laws.specs.Pictures.{AreBytes, HasDrawn}

-- the samples that are drawn of the picture of a number in the stream of a seed
abbrev pub planes_of : ℕ → ℕ → Planes
planes_of seed j = (picture_at (j % 8) (making_at seed j)).planes

-- the pictures that others may refer to have samples of 8 bits
pub record AreMade (m : Making) : Type 0 where
  pub older : AreBytes m.older
  pub last : AreBytes m.last

-- that before a P picture, at its place in the buffer, and those before and behind a B picture. An IDR picture has none
pub record HasReferences (g : ℕ) (m : Making) (buffer : List DecodedPicture) : Type 0 where
  pub one : g % 2 ≡ 1 → HasDrawn m.last buffer (if g == 1 then 0 else 1)
  pub older : ¬ (g ≡ 0) → ¬ (g % 2 ≡ 1) → HasDrawn m.older buffer 0
  pub last : ¬ (g ≡ 0) → ¬ (g % 2 ≡ 1) → HasDrawn m.last buffer 1
