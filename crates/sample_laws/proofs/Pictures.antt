-- The samples of a picture while it is built are in range.
use Rattle.std.proofs.Common.{◌≡◌, ℕ, ◌+◌, ◌-◌, ◌*◌, ◌^◌, ◌<◌, ◌≤◌, List, [], ◌∷◌, ℤ, Option, Some, None, Result, Ok}
use Rattle.std.proofs.Common.{Err, refl, ap, subst, arith}
use Rattle.std.specs.Prelude.{◌&&◌, nat_le, min, slice_get}
use Rattle.std.specs.Option.{unwrap_or}
use Rattle.std.specs.List.{All, fold}
use Rattle.std.proofs.Math.Pow.{lt_of_le_ones}
use Rattle.std.proofs.lemmas.List.Elements.{All-head, All-tail}
use Rattle.header_types.specs.declared.sps.PictureFormat.{PictureFormat}
use Rattle.header_types.specs.SequenceParameterSets.{IsSps}
use Rattle.unit_laws.specs.PlanTypes.{PicturePlan}
use Rattle.unit_laws.specs.PlanTypes.{SegmentPlan}
use Rattle.unit_laws.specs.SpecPictureTrees.{TreeUnit, PictureBroken, Progress, Halt, picture_read}
use Rattle.unit_laws.specs.PlanTypes.{address_of}
use Rattle.unit_laws.specs.SpecPictureTrees.{picture_shape, slice_start}
use Rattle.unit_laws.specs.SpecSliceData.{PictureShape}
use Rattle.unit_laws.specs.SpecReconstruction.{InterUnit}
use Rattle.unit_laws.specs.SpecReconstruction.{Known}
use Rattle.unit_laws.specs.SpecReconstruction.{depth_of}
use Rattle.unit_laws.specs.SpecReconstruction.{IsFormat, ArePulses}
use Rattle.unit_laws.specs.SpecPictureBuild.{Samples, known_beside, sample_beside, is_available, is_inside}
use Rattle.unit_laws.specs.SpecPictureBuild.{unit_column, unit_line, unit_side}
use Rattle.unit_laws.specs.SpecPictureBuild.{BuiltPicture, no_picture, unit_inter, is_of_unit, unit_laid}
use Rattle.unit_laws.specs.SpecPictureBuild.{samples_added}
use Rattle.unit_laws.specs.SpecPictureBuild.{unit_added, added_in, with_unit, units_built, built_of, picture_built}
use Rattle.unit_laws.specs.SpecPictureBuild.{unit_format}
use Rattle.unit_laws.specs.SpecPictureBuild.{DecodedPicture, format_width, format_height, greatest_sample}
use Rattle.unit_laws.specs.SpecPictureBuild.{reference_sample}
use Rattle.spec_inter_prediction.specs.Taps.{clamped}
use Rattle.unit_laws.proofs.Pictures.{format-fits, read-sound}
use Rattle.sample_laws.specs.Ranges.{IsInRange, AreInRange}
use Rattle.sample_laws.proofs.Means.{case_holds}
use Rattle.sample_laws.proofs.Intra.{IsMost}
use Rattle.sample_laws.proofs.Units.{range_most, unit_in_range}

or_none_most : (m : ℕ) (o : Option ℕ) → IsMost m o → unwrap_or o 0 ≤ m
or_none_most m None is = omega arith
or_none_most m (Some sample) is = is

least_is : (a b : ℕ) → a ≤ b → min a b ≡ a
least_is a b small = omega (arith, small)

below_most : (depth v : ℕ) → v ≤ 2 ^ depth - 1 → v < 2 ^ depth
below_most depth v is = lt_of_le_ones depth is

module _ (p : PicturePlan) (fits : (s : SegmentPlan) → IsFormat (unit_format p.sps p.pps s.header.slice)) where
  abbrev IsFilled : TreeUnit → Type 0
  IsFilled unit = (s : SegmentPlan) → ArePulses (unit_format p.sps p.pps s.header.slice) unit.read.items

  abbrev AreBelow : Samples → Type 0
  AreBelow samples = (c x y : ℕ) → samples c x y ≤ greatest_sample p.sps.format c

  -- what is known of a component is in its range
  greatest_in_range : (s : SegmentPlan) (c v : ℕ) → v ≤ greatest_sample p.sps.format c
      → v < 2 ^ depth_of (unit_format p.sps p.pps s.header.slice) c
  unfolding unit_format
  greatest_in_range s c v is = below_most _ v is

  in_range_greatest : (s : SegmentPlan) (c : ℕ) (o : Option ℕ)
      → IsInRange (depth_of (unit_format p.sps p.pps s.header.slice) c) o
      → unwrap_or o 0 ≤ greatest_sample p.sps.format c
  unfolding unit_format
  in_range_greatest s c o is = or_none_most _ o (range_most _ o is)

  beside_in_range : (s : SegmentPlan) (slice address : ℕ) (samples : Samples) → AreBelow samples
      → AreInRange (unit_format p.sps p.pps s.header.slice)
      (known_beside (picture_shape p.sps p.pps) slice address samples)
  unfolding known_beside sample_beside
  beside_in_range s slice address samples below c column line =
      let picture : PictureShape = picture_shape p.sps p.pps in
      let depth : ℕ = depth_of (unit_format p.sps p.pps s.header.slice) c in
      case_holds (IsInRange depth) (nat_le column (2 * unit_side picture c))
      (sample_beside picture slice address samples c column line) None
      (λ near. case_holds (IsInRange depth)
      ((is_inside (unit_column picture c address) column && is_inside (unit_line picture c address) line)
      && is_available picture slice address c (unit_column picture c address + column - 1)
      (unit_line picture c address + line - 1)) _ None
      (λ there. greatest_in_range s c _ (below c _ _)) (λ gone. tt))
      (λ far. tt)

  laid_below : (s : SegmentPlan) (address : ℕ) (known : Known) (samples : Samples)
      → AreInRange (unit_format p.sps p.pps s.header.slice) known → AreBelow samples
      → AreBelow (unit_laid (picture_shape p.sps p.pps) address known samples)
  unfolding unit_laid
  laid_below s address known samples ranged below c x y =
      case_holds (λ v. v ≤ greatest_sample p.sps.format c)
      (is_of_unit (picture_shape p.sps p.pps) address c x y) _ (samples c x y)
      (λ held. in_range_greatest s c _ (ranged c _ _)) (λ held. below c x y)

  added_below : (inter : InterUnit) (s : SegmentPlan) (unit : TreeUnit) (samples : Samples) → IsFilled unit
      → AreBelow samples → AreBelow (samples_added inter p s unit samples)
  unfolding samples_added
  added_below inter s unit samples filled below =
      laid_below s unit.ctu _ samples
      (unit_in_range (unit_format p.sps p.pps s.header.slice) (fits s) inter unit.read.items _ (filled s)
      (beside_in_range s (address_of (slice_start p s)) unit.ctu samples below)) below

  segment_below : (buffer : List DecodedPicture) (s : Option SegmentPlan) (unit : TreeUnit) (built : BuiltPicture)
      → IsFilled unit → AreBelow built.samples → AreBelow (added_in buffer p s unit built).samples
  unfolding unit_added
  segment_below buffer None unit built filled below = below
  segment_below buffer (Some s) unit built filled below =
      added_below (unit_inter buffer p s unit built.motions) s unit built.samples filled below

  units_below : (buffer : List DecodedPicture) (units : List TreeUnit) (built : BuiltPicture) → All IsFilled units
      → AreBelow built.samples → AreBelow (fold (with_unit buffer p) built units).samples
  units_below buffer [] built filled below = below
  units_below buffer (unit ∷ units) built filled below =
      units_below buffer units (with_unit buffer p built unit) (All-tail IsFilled unit units filled)
      (segment_below buffer (slice_get p.segments unit.segment) unit built (All-head IsFilled unit units filled) below)

  pub built_below : (buffer : List DecodedPicture) (units : List TreeUnit)
      → All
      (λ (unit : TreeUnit). (s : SegmentPlan) → ArePulses (unit_format p.sps p.pps s.header.slice) unit.read.items)
      units
      → (c x y : ℕ) → (units_built buffer p units).samples c x y ≤ greatest_sample p.sps.format c
  unfolding units_built
  built_below buffer units filled = units_below buffer units no_picture filled (λ c x y. omega arith)

module _ (buffer : List DecodedPicture) (p : PicturePlan) (sps : IsSps p.sps) where
  filled_of : (progress : Progress) → picture_read p [] ≡ Ok progress
      → All
      (λ (unit : TreeUnit). (s : SegmentPlan) → ArePulses (unit_format p.sps p.pps s.header.slice) unit.read.items)
      progress.given
  filled_of progress is k d inside s = (read-sound p sps s progress is k d inside).pulses

  gives_below : (built : BuiltPicture) (r : Result Progress Halt) → picture_read p [] ≡ r
      → built_of buffer p r ≡ Ok built → (c x y : ℕ) → built.samples c x y ≤ greatest_sample p.sps.format c
  gives_below built (Err halt) is gives c x y = absurd cc
  gives_below built (Ok progress) is gives c x y =
      let same : units_built buffer p progress.given ≡ built =
      ap (λ (r : Result BuiltPicture PictureBroken). elim r as (λ r. BuiltPicture) [ Ok b ↦ b | Err e ↦ no_picture ])
      gives in
      subst (λ (b : BuiltPicture). b.samples c x y ≤ greatest_sample p.sps.format c) same
      (built_below p (λ s. format-fits p sps s) buffer progress.given (filled_of progress is) c x y)

  pub whole_below : (built : BuiltPicture) → picture_built buffer p ≡ Ok built
      → (c x y : ℕ) → built.samples c x y ≤ greatest_sample p.sps.format c
  unfolding picture_built
  whole_below built is = gives_below built (picture_read p []) refl is

pub held_idle : (format : PictureFormat) (d : DecodedPicture)
    → ((c x y : ℕ) → d.samples c x y ≤ greatest_sample format c) → (c : ℕ) (x y : ℤ)
    → reference_sample format (Some d) c x y
    ≡ d.samples c (clamped x (format_width d.format c)) (clamped y (format_height d.format c))
unfolding reference_sample
held_idle format d below c x y =
    least_is _ _ (below c (clamped x (format_width d.format c)) (clamped y (format_height d.format c)))
