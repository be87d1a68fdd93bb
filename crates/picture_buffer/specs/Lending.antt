-- What a plane ends as once its samples were lent for writing.
use Rattle.std.specs.Prelude.{ℕ, List}
use Rattle.std.specs.Borrow.{Array, Fml, Lends, MutBor, u16}
use Rattle.picture_buffer.specs.Planes.{PlaneSamples, with_samples}
use Rattle.picture_buffer.specs.contracts.plane.Plane.{the_row}

abbrev pub LendsSamples : MutBor PlaneSamples → MutBor (List ℕ) → Fml
LendsSamples plane samples = Lends the_row (Array u16 0) plane samples (with_samples plane.now)
