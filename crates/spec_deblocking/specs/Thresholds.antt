-- The thresholds of an edge, from the places of p0 and q0 (8.7.2.5.3, 8.7.2.5.5). The offsets are those of the slice
-- that has q0.
use Rattle.std.specs.Prelude.{ℕ, ◌*◌, ◌-◌, ◌^◌, ℤ, pos, negsuc, ◌+ℤ◌, ◌-ℤ◌, ◌*ℤ◌, slice_index_or}
use Rattle.spec_slice_data.specs.SpecArithmetic.{clip3_from_zero}
use Rattle.spec_slice_data.specs.SpecArithmetic.{rounded}
use Rattle.spec_slice_data.specs.Quantization.{chroma_qp_of_index}
use Rattle.spec_deblocking.specs.declared.place.Place.{Place}
use Rattle.spec_deblocking.specs.declared.place.Plane.{Plane}
use Rattle.spec_deblocking.specs.declared.place.Plane.TheVariants.{Luma, Chroma}
use Rattle.spec_deblocking.specs.declared.tables.TheConstants.{BETA, TC}

-- qPL
unfoldable pub mean_qp : Place → Place → ℤ
mean_qp p q = rounded 1 (p.qp_y +ℤ q.qp_y)

-- QpC by qPi, which below 0 is qPi itself (ChromaArrayType is 1; no bit depth offset)
unfoldable pub chroma_qp : ℤ → ℤ
chroma_qp (pos index) = pos (chroma_qp_of_index index)
chroma_qp (negsuc below) = negsuc below

-- what Q of tC' begins with: qPL, or QpC
unfoldable pub edge_qp : Plane → Place → Place → ℤ
edge_qp Luma p q = mean_qp p q
edge_qp (Chroma offset) p q = chroma_qp (mean_qp p q +ℤ offset)

-- Q of beta' (8.7.2.5.3)
abbrev pub beta_index : Place → Place → ℕ
beta_index p q = clip3_from_zero 51 (mean_qp p q +ℤ pos 2 *ℤ q.slice_beta_offset_div2)

-- Q of tC' (8.7.2.5.3, 8.7.2.5.5)
abbrev pub tc_index : Plane → Place → Place → ℕ
tc_index plane p q =
    clip3_from_zero 53
    (edge_qp plane p q +ℤ pos 2 *ℤ (pos q.left_strength -ℤ pos 1) +ℤ pos 2 *ℤ q.slice_tc_offset_div2)

-- the bound on how far the lines of an edge are from straight, at a bit depth
unfoldable pub beta : ℕ → Place → Place → ℕ
beta depth p q = slice_index_or BETA (beta_index p q) 0 * 2 ^ (depth - 8)

-- the greatest change of a sample
unfoldable pub tc : Plane → ℕ → Place → Place → ℕ
tc plane depth p q = slice_index_or TC (tc_index plane p q) 0 * 2 ^ (depth - 8)
