-- What the planes of a picture end as once the samples of a component were lent for writing.
use Rattle.std.specs.Prelude.{ℕ, List}
use Rattle.std.specs.Borrow.{Array, Fml, Lends, MutBor, u16}
use Rattle.picture_buffer.specs.Planes.{PictureSamples, with_component}
use Rattle.picture_buffer.specs.contracts.planes.Planes.{the_row}

abbrev pub LendsComponent : MutBor PictureSamples → ℕ → MutBor (List ℕ) → Fml
LendsComponent planes c samples = Lends the_row (Array u16 0) planes samples (with_component planes.now c)
