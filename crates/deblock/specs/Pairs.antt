-- Edges of chroma at the lines of two places at once.
use Rattle.std.specs.Prelude.{ℕ, ◌+◌, ◌*◌, ◌≤◌, ◌≡◌, Bool, true, false, ◌&&◌, ◌||◌, nat_le, nat_lt, cond, List}
use Rattle.spec_deblocking.specs.declared.place.Place.{Place}
use Rattle.spec_deblocking.specs.Planes.{vertical}
use Rattle.deblock.specs.declared.pass.Pass.{Pass}
use Rattle.deblock.specs.Windows.{holds, seen}

-- whether four lines along edges lie in the samples that are filtered
pub record AreAlong (p : Pass) (s : ℕ) : Type 0 where
  pub few : s ≤ 32767
  pub low : p.along_first ≤ 4 * s
  pub high : 4 * s + 4 ≤ p.along_end

-- places before an edge, p and o, and behind it, q and r, between which it is filtered alike in chroma, and none of
-- whose samples stays
pub record AreAlike (p o q r : Place) : Type 0 where
  pub before : o.qp_y ≡ p.qp_y
  pub behind : r.qp_y ≡ q.qp_y
  pub first : q.left_strength ≡ 2
  pub second : r.left_strength ≡ 2
  pub offset : r.slice_tc_offset_div2 ≡ q.slice_tc_offset_div2
  pub p_free : p.kept ≡ false
  pub o_free : o.kept ≡ false
  pub q_free : q.kept ≡ false
  pub r_free : r.kept ≡ false

-- the samples of four lines along edge e
abbrev pub is_near : ℕ → ℕ → ℕ → ℕ → Bool
is_near s e i j =
    (nat_le (8 * e) (i + 4) && nat_lt (i + 4) (8 * e + 8)) && (nat_le (4 * s) j && nat_lt j (4 * s + 4))

-- which samples are filtered when edge e of four lines is next
abbrev pub is_passed : Pass → ℕ → ℕ → ℕ → ℕ → Bool
is_passed p s e i j =
    (nat_le p.along_first j && nat_le (8 * p.first) (i + 4))
    && ((nat_lt j (4 * s) && nat_lt (i + 4) (8 * p.end)) || (nat_lt j (4 * s + 4) && nat_lt (i + 4) (8 * e)))

-- samples of a plane of which those are filtered
abbrev pub pairly : Pass → (ℕ → ℕ → Place) → (ℕ → ℕ → ℕ) → ℕ → ℕ → ℕ → ℕ → ℕ
pairly p places f s e i j =
    cond (is_passed p s e i j) (vertical p.plane p.bit_depth p.side places f i j) (f i j)

-- a list that holds them
abbrev pub IsPairly : Pass → (ℕ → ℕ → Place) → (ℕ → ℕ → ℕ) → ℕ → ℕ → List ℕ → Type 0
IsPairly p places f s e samples =
    (i j : ℕ) → holds p.window i j ≡ true → seen p.window samples i j ≡ pairly p places f s e i j
