-- Edges of a row, filtered one after the other.
use Rattle.std.specs.Prelude.{ℕ, ◌+◌, ◌-◌, ◌*◌, ◌%◌, ◌≤◌, ◌<◌, ◌≡◌, Bool, true, ◌&&◌, ◌||◌, min}
use Rattle.std.specs.Prelude.{nat_le, nat_lt, cond, List, if◌then◌else◌}
use Rattle.spec_deblocking.specs.declared.place.Place.{Place}
use Rattle.spec_deblocking.specs.declared.place.Plane.{Plane}
use Rattle.spec_deblocking.specs.Places.{side, exchanged}
use Rattle.spec_deblocking.specs.Planes.{vertical}
use Rattle.deblock.specs.declared.pass.Pass.{Pass}
use Rattle.deblock.specs.Samples.{IsDepth}
use Rattle.deblock.specs.Windows.{IsWindow, holds, seen}

-- places across and along edges
abbrev pub placed : Bool → (ℕ → ℕ → Place) → ℕ → ℕ → Place
placed turned places a b = if turned then exchanged (places b a) else places a b

pub record IsPass (p : Pass) : Type 0 where
  pub depth : IsDepth p.bit_depth
  pub window : IsWindow p.window
  pub side : p.side ≤ 65536
  pub whole : p.side % 4 ≡ 0
  pub order : p.first ≤ p.end
  pub few : p.end ≤ 65536
  -- four samples are there on both sides of each edge
  pub low : p.window.across_first ≤ 8 * p.first - 4
  pub high : min p.side (8 * p.end - 4) ≤ p.window.across_end
  pub along_low : p.window.along_first ≤ p.along_first
  pub along_high : p.along_end ≤ p.window.along_end
  pub along_order : p.along_first ≤ p.along_end
  -- along edges there are whole places
  pub along_first : p.along_first % 4 ≡ 0
  pub along_end : p.along_end % 4 ≡ 0

-- whether a place along edges lies in the samples that are filtered
pub record IsAlong (p : Pass) (s : ℕ) : Type 0 where
  pub few : s ≤ 65536
  pub low : p.along_first ≤ side p.plane * s
  pub high : side p.plane * s + side p.plane ≤ p.along_end

-- whether an edge is among those that are filtered
pub record IsAcross (p : Pass) (e : ℕ) : Type 0 where
  pub low : p.first ≤ e
  pub high : e < p.end

-- the samples of place s along edge e
abbrev pub is_beside : Plane → ℕ → ℕ → ℕ → ℕ → Bool
is_beside plane s e i j =
    (nat_le (8 * e) (i + 4) && nat_lt (i + 4) (8 * e + 8))
    && (nat_le (side plane * s) j && nat_lt j (side plane * s + side plane))

-- a part of these
abbrev pub is_written : Plane → ℕ → ℕ → ℕ → ℕ → ℕ → ℕ → Bool
is_written plane s a from to i j =
    (nat_le (side plane * s) j && nat_lt j (side plane * s + side plane)) && (nat_le (a + from) i && nat_lt i (a + to))

-- which samples are filtered when edge e of place s is next
abbrev pub is_done : Pass → ℕ → ℕ → ℕ → ℕ → Bool
is_done p s e i j =
    (nat_le p.along_first j && nat_le (8 * p.first) (i + 4))
    && ((nat_lt j (side p.plane * s) && nat_lt (i + 4) (8 * p.end))
    || (nat_lt j (side p.plane * s + side p.plane) && nat_lt (i + 4) (8 * e)))

-- samples of a plane of which those are filtered
abbrev pub partly : Pass → (ℕ → ℕ → Place) → (ℕ → ℕ → ℕ) → ℕ → ℕ → ℕ → ℕ → ℕ
partly p places f s e i j =
    cond (is_done p s e i j) (vertical p.plane p.bit_depth p.side places f i j) (f i j)

-- a list that holds them
abbrev pub IsPartly : Pass → (ℕ → ℕ → Place) → (ℕ → ℕ → ℕ) → ℕ → ℕ → List ℕ → Type 0
IsPartly p places f s e samples =
    (i j : ℕ) → holds p.window i j ≡ true → seen p.window samples i j ≡ partly p places f s e i j
