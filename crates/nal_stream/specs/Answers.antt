-- What an answer tells.
use Rattle.std.specs.Prelude.{List, [], ◌∷◌}
use Rattle.spec_nal_units.specs.Judged.{Told, Whole, Broken, Met, unit_of}
use Rattle.nal_stream.specs.declared.answer.Next.{Next}
use Rattle.nal_stream.specs.declared.answer.Next.TheVariants as next

-- what an answer tells of the stream: More and End tell nothing
abbrev pub told_by : Next → List Told
told_by (next.Unit n) = Whole (unit_of n) ∷ []
told_by (next.Fault f) = Broken f ∷ []
told_by (next.Limit l) = Met l ∷ []
told_by next.More = []
told_by next.End = []
