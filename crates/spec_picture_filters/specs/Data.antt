-- What the loop filters of a picture need of it, by the coding tree units that are read so far (8.7).
use Rattle.std.specs.Prelude.{ℕ, pos, Bool, true, false}
use Rattle.spec_boundary_strengths.specs.CtuRecords.{Off}
use Rattle.spec_loop_filters.specs.SpecDeblocking.{Place}
use Rattle.spec_loop_filters.specs.SpecSampleAdaptiveOffset.{OffsetUnit}

-- places of 4x4 luma samples by column and row, counted from 0: what deblocking asks, and whether their luma transform
-- blocks have levels that aren't 0; and components of coding tree units by the component and the unit's column and row
pub record FilterData : Type 0 where
  pub places : ℕ → ℕ → Place
  pub coded : ℕ → ℕ → Bool
  pub units : ℕ → ℕ → ℕ → OffsetUnit

-- a place and a unit of which nothing is read
abbrev pub no_place : Place
no_place = record {
  left_strength = 0;
  top_strength = 0;
  qp_y = pos 0;
  kept = false;
  slice_beta_offset_div2 = pos 0;
  slice_tc_offset_div2 = pos 0;
}

-- a unit that isn't read
abbrev pub no_unit : OffsetUnit
no_unit = record { offset = Off; slice = 0; across = true }

-- before the first unit
unfoldable pub no_data : FilterData
no_data = record { places = λ x y. no_place; coded = λ x y. false; units = λ c column row. no_unit }
