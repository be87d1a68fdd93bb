-- The samples of made coding tree units, by component: luma, Cb and Cr are counted 0, 1 and 2.
use Rattle.std.specs.Prelude.{◌≡◌, ℕ, ◌==◌, List, get_or, if◌then◌else◌}
use Rattle.spec_made.specs.declared.units.PcmUnit.{PcmUnit}
use Rattle.spec_made.specs.Planes.{Component, cb, cr, luma, place_in_unit}
use Rattle.spec_reconstruction.specs.declared.format.UnitFormat.{UnitFormat}

-- a component of a unit
abbrev pub component : ℕ → Component
component c = if c == 0 then luma else (if c == 1 then cb else cr)

-- the side of a unit in samples of a component
abbrev pub side_of : ℕ → ℕ
side_of c = if c == 0 then 16 else 8

-- the sample of a unit by pulse code modulation in a column and a line of it, counted from 0
abbrev pub pulse_at : PcmUnit → ℕ → ℕ → ℕ → ℕ
pulse_at u c x y = get_or u.samples (place_in_unit (component c) u x y) 0

-- samples of 8 bits, all of which are read of pulse code modulation
pub record HasEightBits (format : UnitFormat) : Type 0 where
  pub luma : format.luma_depth ≡ 8
  pub chroma : format.chroma_depth ≡ 8
  pub pcm_luma : format.pcm_luma_bits ≡ 8
  pub pcm_chroma : format.pcm_chroma_bits ≡ 8
