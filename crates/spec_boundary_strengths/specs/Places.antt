-- What deblocking asks of each place of a coding tree unit (8.7.2), counted from 0.
use Rattle.std.specs.Prelude.{ℕ, Bool, true, List, pos, ◌-ℤ◌, if◌then◌else◌}
use Rattle.std.specs.List.{fold}
use Rattle.ctu_records.specs.declared.item.Item.{Item}
use Rattle.ctu_records.specs.declared.item.Item.TheVariants.{Unit, Pcm}
use Rattle.ctu_records.specs.Tree.{laid, qp_at}
use Rattle.spec_boundary_strengths.specs.declared.place.UnitPlace.{UnitPlace}
use Rattle.spec_boundary_strengths.specs.Strengths.{Beside, coded_at, left_strength, top_strength, nowhere}

-- by pcm_loop_filter_disabled_flag
abbrev pub kept_laid : Bool → (ℕ → ℕ → Bool) → Item → ℕ → ℕ → Bool
kept_laid pcm_disabled places (Unit unit) = laid unit.square unit.transquant_bypass places
kept_laid pcm_disabled places (Pcm square) = if pcm_disabled then laid square true places else places
kept_laid pcm_disabled places other = places

-- whether the samples of a place stay: cu_transquant_bypass_flag, or pcm_flag where pcm_loop_filter_disabled_flag is 1
unfoldable pub kept_at : Bool → List Item → ℕ → ℕ → Bool
kept_at pcm_disabled items = fold (kept_laid pcm_disabled) nowhere items

-- a place by what is beside the unit, pcm_loop_filter_disabled_flag, QpBdOffsetY, and what was read of the unit
unfoldable pub unit_place : Beside → Bool → ℕ → List Item → ℕ → ℕ → UnitPlace
unit_place beside pcm_disabled qp_bd_offset items x y = record {
  left_strength = left_strength beside items x y;
  top_strength = top_strength beside items x y;
  coded = coded_at items x y;
  qp_y = pos (qp_at items x y) -ℤ pos qp_bd_offset;
  kept = kept_at pcm_disabled items x y;
}
