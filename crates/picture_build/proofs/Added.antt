-- A unit is added to a picture.
use Rattle.std.proofs.Common.{◌≡◌, ℕ, zero, suc, ◌+◌, ◌-◌, ◌*◌, ◌/◌, ◌^◌, ◌<◌, ◌≤◌, ◌==◌, Bool, true, false, List}
use Rattle.std.proofs.Common.{refl}
use Rattle.std.proofs.Common.{sym, ap, subst, ◌∙◌, if◌then◌else◌, ◌⊎◌, inl, inr, arith}
use Rattle.std.specs.Option.{unwrap_or}
use Rattle.std.proofs.Math.Nat.{mul-le-mul_left}
use Rattle.std.proofs.Math.Path.{fun_ext}
use Rattle.std.proofs.lemmas.Bool.{cases_lt}
use Rattle.std.proofs.lemmas.Bool.Decides.{nat_tests}
use Rattle.std.specs.List.{All}
use Rattle.unit_build.specs.InterSamples.{inter_unit}
use Rattle.picture_buffer.specs.Pictures.{HeldPicture}
use Rattle.spec_motion.specs.Units.{IsPlacedItem}
use Rattle.spec_reconstruction.specs.Sound.{AreSound}
use Rattle.picture_build.specs.Pictures.{buffer_of}
use Rattle.picture_build.proofs.Deriving.{all_placed}
use Rattle.plan_types.specs.declared.picture_plan.PicturePlan.{PicturePlan}
use Rattle.plan_types.specs.declared.segment_plan.SegmentPlan.{SegmentPlan}
use Rattle.picture_trees.specs.PictureLayout.{IsShape}
use Rattle.spec_inter_prediction.specs.declared.tables.SliceWeighting.{SliceWeighting}
use Rattle.spec_motion.specs.declared.slice_motion.SliceMotion.{SliceMotion}
use Rattle.spec_motion.specs.Vectors as motion
use Rattle.picture_trees.specs.SpecPictureTrees.{TreeUnit}
use Rattle.plan_types.specs.Segments.{address_of}
use Rattle.picture_trees.specs.SpecPictureTrees.{picture_shape, slice_start}
use Rattle.spec_picture_motion.specs.Derived.{References, known_of_unit}
use Rattle.spec_picture_motion.specs.Derived as derived
use Rattle.picture_trees.specs.SpecPictureTrees.{first_column, first_row, unit_at}
use Rattle.spec_picture_motion.specs.Field.{Motions, unit_laid as motion_laid}
use Rattle.spec_picture_motion.specs.Slices.{slice_motion}
use Rattle.spec_picture_build.specs.Border.{Samples, has_sample, height_of, known_beside, unit_column, unit_line}
use Rattle.spec_picture_build.specs.Border.{unit_side, width_of}
use Rattle.spec_picture_build.specs.Built.{BuiltPicture, is_of_unit, samples_added, unit_added, unit_inter, unit_laid}
use Rattle.spec_picture_build.specs.Format.{unit_format}
use Rattle.spec_picture_build.specs.References.{DecodedPicture, motions_of, pictures_of}
use Rattle.spec_picture_build.specs.Weights.{slice_weighting}
use Rattle.spec_reconstruction.specs.declared.format.UnitFormat.{UnitFormat}
use Rattle.spec_reconstruction.specs.Inter.{InterUnit}
use Rattle.spec_reconstruction.specs.Known.{Known}
use Rattle.spec_reconstruction.specs.Unit.{unit_built}
use Rattle.spec_slice_data.specs.Residual.{samples_of_place}
use Rattle.spec_slice_data.specs.Segment.{PictureShape}
use Rattle.picture_build.proofs.Built.{same_picture}
use Rattle.picture_trees.proofs.PictureLayoutLemmas.{block_begins}
use Rattle.unit_build.proofs.Places.{row_is}
use Rattle.unit_build.proofs.Covering.{covered}

-- what inter prediction depends on
pub inter_is : (buffer : List DecodedPicture) (p : PicturePlan) (s : SegmentPlan) (unit : TreeUnit) (motions : Motions)
    (known : motion.Known) (slice : SliceMotion) (weighting : SliceWeighting) (column row : ℕ)
    → known ≡ known_of_unit (motions_of buffer) p s unit motions → slice ≡ slice_motion p s unit.ctu
    → weighting ≡ slice_weighting s.header.slice.inter
    → column ≡ first_column (picture_shape p.sps p.pps) unit.ctu → row ≡ first_row (picture_shape p.sps p.pps) unit.ctu
    → inter_unit known slice weighting (pictures_of p.sps.format buffer) column row
    ≡ unit_inter buffer p s unit motions
unfolding unit_inter
inter_is buffer p s unit motions known slice weighting column row ek es ew ec er = rw (ek, es, ew, ec, er) refl

-- the samples of a unit
pub samples_are : (inter : InterUnit) (p : PicturePlan) (s : SegmentPlan) (unit : TreeUnit) (picture : PictureShape)
    (slice : ℕ) (format : UnitFormat) (beside built : Known) (old new : Samples)
    → picture ≡ picture_shape p.sps p.pps → slice ≡ address_of (slice_start p s)
    → format ≡ unit_format p.sps p.pps s.header.slice
    → beside ≡ known_beside picture slice unit.ctu old → built ≡ unit_built format inter unit.read.items beside
    → new ≡ unit_laid picture unit.ctu built old
    → new ≡ samples_added inter p s unit old
unfolding samples_added
samples_are inter p s unit picture slice format beside built old new ep es ef ek eb en =
    rw (en, eb, ek, ef, es, ep) refl

-- a picture that a unit is added to, by its parts
pub added_is : (buffer : List DecodedPicture) (p : PicturePlan) (s : SegmentPlan) (unit : TreeUnit)
    (built : BuiltPicture) (samples : Samples) (motions : Motions)
    → samples ≡ samples_added (unit_inter buffer p s unit built.motions) p s unit built.samples
    → motions ≡ derived.unit_added (motions_of buffer) p s unit built.motions
    → record { samples = samples; motions = motions } ≡ unit_added buffer p s unit built
unfolding unit_added
added_is buffer p s unit built samples motions es em = same_picture _ _ _ _ es em

pub some_samples : (c : ℕ) → 1 ≤ samples_of_place c
some_samples c = either (c == 0)
  where
    either : (t : Bool) → 1 ≤ (if t then 4 else 2)
    either true = omega arith
    either false = omega arith

pub some_side : (size : ℕ) → 1 ≤ 2 ^ size
some_side zero = omega arith
some_side (suc size) =
    let one = some_side size in let e : 2 ^ suc size ≡ 2 * 2 ^ size = grind arith in omega (arith, one, e)

-- a unit below the picture has none of its samples
none_below : (picture : PictureShape) (a c x y : ℕ) → IsShape picture → picture.down ≤ first_row picture a
    → (t : Bool) → is_of_unit picture a c x y ≡ t → is_of_unit picture a c x y ≡ false
unfolding has_sample unit_at
none_below picture a c x y shape past false e = e
none_below picture a c x y shape past true e =
    let n : ℕ = unit_side picture c in
    let scale : ℕ = samples_of_place c in
    let w : ℕ = picture.width in
    let inside : x < width_of picture c = grind (arith, nat_tests) in
    let lower : y < height_of picture c = grind (arith, nat_tests) in
    let at : w * (y / n) + x / n ≡ a = grind (arith, nat_tests) in
    let big = mul-le-mul_left scale (some_side picture.size) in
    let one = some_samples c in
    let some : 1 ≤ n = omega (arith, big, one) in
    let row = row_is n w (width_of picture c) a x y some (covered picture c shape) inside at in
    let same : n * (a / w) ≡ n * (y / n) = ap (λ k. n * k) row in
    let begins = block_begins n y in
    let more : scale * picture.down ≤ scale * (2 ^ picture.size * (a / w)) = mul-le-mul_left scale past in
    let whole : scale * (2 ^ picture.size * (a / w)) ≡ n * (a / w) = grind arith in
    absurd (omega (arith, lower, more, whole, same, begins))

pub laid_below : (picture : PictureShape) (a : ℕ) (known : Known) (samples : Samples) → IsShape picture
    → picture.down ≤ first_row picture a → samples ≡ unit_laid picture a known samples
unfolding unit_laid
laid_below picture a known samples shape past = fun_ext (λ c. fun_ext (λ x. fun_ext (λ y. at c x y)))
  where
    at : (c x y : ℕ) → samples c x y ≡ unit_laid picture a known samples c x y
    at c x y =
        sym (ap
        (λ (t : Bool). if t then unwrap_or (known c (x - unit_column picture c a + 1) (y - unit_line picture c a + 1)) 0
        else samples c x y)
        (none_below picture a c x y shape past (is_of_unit picture a c x y) refl))

pub samples_below : (inter : InterUnit) (p : PicturePlan) (s : SegmentPlan) (unit : TreeUnit) (picture : PictureShape)
    (samples : Samples)
    → picture ≡ picture_shape p.sps p.pps → IsShape picture → picture.down ≤ first_row picture unit.ctu
    → samples ≡ samples_added inter p s unit samples
unfolding samples_added
samples_below inter p s unit picture samples ep shape past =
    laid_below picture unit.ctu
    (unit_built (unit_format p.sps p.pps s.header.slice) inter unit.read.items
    (known_beside (picture_shape p.sps p.pps) (address_of (slice_start p s)) unit.ctu samples))
    samples shape past
    ∙ ap (λ (q : PictureShape). unit_laid q unit.ctu
    (unit_built (unit_format p.sps p.pps s.header.slice) inter unit.read.items
    (known_beside (picture_shape p.sps p.pps) (address_of (slice_start p s)) unit.ctu samples))
    samples)
    ep

-- the samples behind a unit, whether the picture has it or not
samples_behind : (inter : InterUnit) (p : PicturePlan) (s : SegmentPlan) (unit : TreeUnit) (layout : PictureShape)
    (slice : ℕ) (format : UnitFormat) (built : Known) (old new : Samples)
    → layout ≡ picture_shape p.sps p.pps → slice ≡ address_of (slice_start p s)
    → format ≡ unit_format p.sps p.pps s.header.slice → IsShape layout
    → (first_row layout unit.ctu < layout.down
    → built ≡ unit_built format inter unit.read.items (known_beside layout slice unit.ctu old))
    → new ≡ unit_laid layout unit.ctu built old
    → new ≡ samples_added inter p s unit old
samples_behind inter p s unit layout slice format built old new ep es ef shape eb en =
    by (cases_lt (first_row layout unit.ctu) layout.down)
  where
    by : (first_row layout unit.ctu < layout.down) ⊎ (layout.down ≤ first_row layout unit.ctu)
        → new ≡ samples_added inter p s unit old
    by (inl there) =
        samples_are inter p s unit layout slice format (known_beside layout slice unit.ctu old) built old new ep es ef
        refl (eb there) en
    by (inr past) =
        en ∙ sym (laid_below layout unit.ctu built old shape past)
        ∙ samples_below inter p s unit layout old ep shape past

-- the motion behind it
moved_is : (pictures : References) (p : PicturePlan) (s : SegmentPlan) (unit : TreeUnit) (layout : PictureShape)
    (slice : SliceMotion) (known : motion.Known) (old new : Motions)
    → layout ≡ picture_shape p.sps p.pps → slice ≡ slice_motion p s unit.ctu
    → known ≡ known_of_unit pictures p s unit old → new ≡ motion_laid layout unit.ctu slice known old
    → new ≡ derived.unit_added pictures p s unit old
unfolding derived.unit_added
moved_is pictures p s unit layout slice known old new ep es ek en = rw (en, ek, es, ep) refl

pub moved : (bases : List HeldPicture) (p : PicturePlan) (s : SegmentPlan) (unit : TreeUnit) (layout : PictureShape)
    (slice : SliceMotion) (known : motion.Known) (old new : Motions)
    → layout ≡ picture_shape p.sps p.pps → slice ≡ slice_motion p s unit.ctu
    → (All IsPlacedItem unit.read.items → known ≡ known_of_unit (motions_of (buffer_of bases)) p s unit old)
    → new ≡ motion_laid layout unit.ctu slice known old
    → All IsPlacedItem unit.read.items → new ≡ derived.unit_added (motions_of (buffer_of bases)) p s unit old
moved bases p s unit layout slice known old new ep es ek en placed =
    moved_is (motions_of (buffer_of bases)) p s unit layout slice known old new ep es (ek placed) en

-- a unit is added
pub unit_is : (bases pictures : List HeldPicture) (p : PicturePlan) (s : SegmentPlan) (unit : TreeUnit)
    (layout : PictureShape) (slice : ℕ) (format : UnitFormat) (built : Known) (old : BuiltPicture) (new : Samples)
    (motions : Motions)
    → bases ≡ pictures → layout ≡ picture_shape p.sps p.pps → slice ≡ address_of (slice_start p s)
    → format ≡ unit_format p.sps p.pps s.header.slice → IsShape layout
    → AreSound (unit_format p.sps p.pps s.header.slice) unit.read.items
    → (All IsPlacedItem unit.read.items
    → motions ≡ derived.unit_added (motions_of (buffer_of bases)) p s unit old.motions)
    → (first_row layout unit.ctu < layout.down → AreSound format unit.read.items
    → built
    ≡ unit_built format (unit_inter (buffer_of bases) p s unit old.motions) unit.read.items
    (known_beside layout slice unit.ctu old.samples))
    → new ≡ unit_laid layout unit.ctu built old.samples
    → record { samples = new; motions = motions } ≡ unit_added (buffer_of pictures) p s unit old
unit_is bases pictures p s unit layout slice format built old new motions e ep es ef shape sound moved eb en =
    let same : AreSound format unit.read.items = subst (λ f. AreSound f unit.read.items) (sym ef) sound in
    added_is (buffer_of bases) p s unit old new motions
    (samples_behind (unit_inter (buffer_of bases) p s unit old.motions) p s unit layout slice format built
    old.samples new ep es ef shape (λ there. eb there same) en)
    (moved (all_placed (unit_format p.sps p.pps s.header.slice) unit.read.items sound))
    ∙ ap (λ b. unit_added (buffer_of b) p s unit old) e
