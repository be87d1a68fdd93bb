-- Places of four columns and four lines of luma samples, of which a plane has four or two of each.
use Rattle.std.specs.Prelude.{ℕ, ◌-◌, ◌*◌, ◌/◌}
use Rattle.spec_deblocking.specs.declared.place.Place.{Place}
use Rattle.spec_deblocking.specs.declared.place.Plane.{Plane}
use Rattle.spec_deblocking.specs.declared.place.Plane.TheVariants.{Luma, Chroma}

-- how many columns, and lines, of a plane a place has
abbrev pub side : Plane → ℕ
side Luma = 4
side (Chroma offset) = 2

-- the place of p0, where line y of a plane meets the edge at column 8 e
abbrev pub place_before : Plane → (ℕ → ℕ → Place) → ℕ → ℕ → Place
place_before plane places e y = places ((8 * e - 1) / side plane) (y / side plane)

-- the place of q0
abbrev pub place_behind : Plane → (ℕ → ℕ → Place) → ℕ → ℕ → Place
place_behind plane places e y = places (8 * e / side plane) (y / side plane)

-- a place where columns are exchanged with lines
abbrev pub exchanged : Place → Place
exchanged place = let p : Place = place in record {
  left_strength = p.top_strength;
  top_strength = p.left_strength;
  qp_y = p.qp_y;
  kept = p.kept;
  slice_beta_offset_div2 = p.slice_beta_offset_div2;
  slice_tc_offset_div2 = p.slice_tc_offset_div2;
}

-- places where columns are exchanged with lines
abbrev pub turned : (ℕ → ℕ → Place) → ℕ → ℕ → Place
turned places x y = exchanged (places y x)
