-- Parts of the formats of short-term reference picture sets (7.3.7).
use Rattle.std.specs.Prelude.{ℕ, ◌+◌, ℤ, true, false, List, [], ◌∷◌, ◌++◌, reverse, length, nat_le}
use Rattle.header_types.specs.declared.short_term_set.ShortTermRef.{ShortTermRef}
use Rattle.header_types.specs.declared.short_term_set.StRps.{StRps}
use Rattle.header_fields.specs.SpecFormats.{Header, ◌>>=◌, give, ranged}
use Rattle.spec_reference_pictures.specs.ShortTermSets.{itself, moved, outward, sides}

-- a set of so many entries on each side
abbrev pub explicit_sides : ℕ → ℕ → Header StRps
explicit_sides num_negative_pics num_positive_pics = do
  negative ← outward true 0 num_negative_pics
  positive ← outward false 0 num_positive_pics
  give (record { negative = negative; positive = positive })

-- the set, if it has at most 16 entries
abbrev pub at_most_16 : StRps → Header StRps
at_most_16 set = do
  in_range ← ranged (nat_le (length set.negative + length set.positive) 16)
  give set

-- the set that becomes of moved entries, those of the source's two sides, and of the picture that it belongs to
abbrev pub with_itself : ℤ → List ShortTermRef → List ShortTermRef → Header StRps
with_itself delta negative positive = do
  own ← moved delta (itself ∷ [])
  at_most_16 (sides (reverse positive ++ (own ++ negative)))
