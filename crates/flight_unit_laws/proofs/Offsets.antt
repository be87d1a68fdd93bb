-- Sample adaptive offset asks of the units beside a sample's own for their slices alone.
use Rattle.std.proofs.Common.{◌≡◌, ℕ, ◌+◌, ◌-◌, Bool, true, false, List, ℤ, if◌then◌else◌, refl, ap, ◌∙◌}
use Rattle.ctu_records.specs.declared.offset.ComponentOffset.{ComponentOffset}
use Rattle.ctu_records.specs.declared.offset.ComponentOffset.TheVariants.{Off, Band, Edge}
use Rattle.spec_sample_adaptive_offset.specs.declared.unit.OffsetUnit.{OffsetUnit}
use Rattle.spec_sample_adaptive_offset.specs.Offsets.{band_moved}
use Rattle.spec_sample_adaptive_offset.specs.Plane.{OffsetPlane, edge_sample, first_column, first_line, may_read}
use Rattle.spec_sample_adaptive_offset.specs.Plane.{offset_sample, sample_by, unit_at}
use Rattle.flight_unit_laws.specs.Uses.{AreOfSameSlice}

-- a unit with the offset of another, but for one that is its own
abbrev pub mixed_by : Bool → OffsetUnit → OffsetUnit → OffsetUnit
mixed_by true a b = b
mixed_by false a b = record { offset = a.offset; slice = b.slice; across = b.across }

pub mixed_is : (t : Bool) (a b : OffsetUnit) → (t ≡ true → a ≡ b) → AreOfSameSlice a b → a ≡ mixed_by t a b
mixed_is true a b same slices = same refl
mixed_is false a b same slices =
    let with_slice : ℕ → OffsetUnit = λ n. record { offset = a.offset; slice = n; across = a.across } in
    let with_across : Bool → OffsetUnit = λ t. record { offset = a.offset; slice = b.slice; across = t } in
    ap with_slice slices.slice ∙ ap with_across slices.across

pub mixed_slices : (t : Bool) (a b : OffsetUnit) → AreOfSameSlice (mixed_by t a b) b
mixed_slices true a b = record { slice = refl; across = refl }
mixed_slices false a b = record { slice = refl; across = refl }

pub mixed_offset : (t : Bool) (a b : OffsetUnit) → t ≡ true → (mixed_by t a b).offset ≡ b.offset
mixed_offset true a b is = refl
mixed_offset false a b is = absurd cc

module _ (p q : OffsetPlane) (f : ℕ → ℕ → ℕ) (x y : ℕ) (width : p.width ≡ q.width) (height : p.height ≡ q.height)
    (depth : p.depth ≡ q.depth) (slices : (i j : ℕ) → AreOfSameSlice (unit_at p i j) (unit_at q i j)) where
  may_same : (column line : ℕ) → may_read p x y column line ≡ may_read q x y column line
  may_same column line =
      let a = (slices x y).slice in
      let b = (slices x y).across in
      let c = (slices (x + column - 1) (y + line - 1)).slice in
      let d = (slices (x + column - 1) (y + line - 1)).across in
      cc

  edge_same : (offsets : List ℤ) (column line : ℕ)
      → edge_sample p f offsets column line x y ≡ edge_sample q f offsets column line x y
  unfolding edge_sample
  edge_same offsets column line =
      let a = may_same column line in
      let b = may_same (2 - column) (2 - line) in
      cc

  by_offset : (o : ComponentOffset) → sample_by p f o x y ≡ sample_by q f o x y
  unfolding sample_by
  by_offset Off = refl
  by_offset (Band position offsets) = ap (λ d. band_moved d position offsets (f x y)) depth
  by_offset (Edge class offsets) = edge_same offsets (first_column class) (first_line class)

  pub slices_alone : p.kept x y ≡ q.kept x y → (unit_at p x y).offset ≡ (unit_at q x y).offset
      → offset_sample p f x y ≡ offset_sample q f x y
  unfolding offset_sample
  slices_alone kept offset =
      ap (λ k. if k then f x y else sample_by p f (unit_at p x y).offset x y) kept
      ∙ ap (λ (o : ComponentOffset). if q.kept x y then f x y else sample_by p f o x y) offset
      ∙ ap (λ s. if q.kept x y then f x y else s) (by_offset (unit_at q x y).offset)
