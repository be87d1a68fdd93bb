-- The names of the pictures of the buffer before each picture of a flight, by the plans of its pictures.
use Rattle.std.specs.Prelude.{ℕ, zero, suc, List, length, map, slice_get}
use Rattle.std.specs.List.{range_with_len}
use Rattle.plan_types.specs.declared.picture_plan.PicturePlan.{PicturePlan}
use Rattle.flight_plan.specs.declared.row_range.Reference.{Reference}
use Rattle.flight_plan.specs.declared.row_range.Reference.TheVariants.{Base}
use Rattle.spec_flights.specs.References.{names_behind}

-- before the picture at a place of a flight behind so many pictures
unfoldable pub names_at : List PicturePlan → ℕ → ℕ → List Reference
names_at pictures bases zero = map Base (range_with_len 0 bases)
names_at pictures bases (suc k) = names_behind (names_at pictures bases k) k (slice_get pictures k)

-- before the first so many
abbrev pub names_to : List PicturePlan → ℕ → ℕ → List (List Reference)
names_to pictures bases n = map (names_at pictures bases) (range_with_len 0 n)

-- before each one
abbrev pub all_names : List PicturePlan → ℕ → List (List Reference)
all_names pictures bases = names_to pictures bases (length pictures)
