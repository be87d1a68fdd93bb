-- A picture behind its loop filters.
use Rattle.std.proofs.Common.{◌≡◌, ℕ, zero, suc, ◌+◌, ◌*◌, ◌-◌, ◌^◌, ◌<◌, ◌≤◌, ◌==◌, ◌&&◌, nat_lt, Bool, true, false}
use Rattle.std.proofs.Common.{List, [], Ok, Err, slice_index, refl, sym, ap, subst, ◌∙◌, if◌then◌else◌, arith}
use Rattle.std.proofs.Math.Path.{fun_ext}
use Rattle.std.proofs.lemmas.Bool.{and_parts, ltb-true}
use Rattle.std.proofs.lemmas.Bool.Decides.{nat_tests}
use Rattle.header_types.specs.declared.sps.PictureFormat.{PictureFormat}
use Rattle.header_types.specs.SequenceParameterSets.{IsSps}
use Rattle.plan_types.specs.declared.picture_plan.PicturePlan.{PicturePlan}
use Rattle.sample_laws.proofs.SpecDecodedPicturesLemmas.{one_fold}
use Rattle.sample_laws.specs.SpecDecodedPictures.{DecodedUnits, decoded_by, joined, picture_decoded, reading_decoded}
use Rattle.sample_laws.specs.SpecDecodedPictures.{samples_filtered, units_decoded}
use Rattle.unit_build.specs.SpecLoopFilters.{depth_of}
use Rattle.picture_trees.specs.SpecPictureTrees.{TreeUnit, PictureBroken, picture_read}
use Rattle.picture_trees.specs.SpecPictureTrees.{picture_shape}
use Rattle.unit_build.specs.SpecPictureFilters.{FilterData}
use Rattle.unit_build.specs.SpecPictureFilters.{Behind, filter_format, filtered, units_filtered}
use Rattle.spec_picture_motion.specs.Field.{Motions}
use Rattle.spec_picture_build.specs.Border.{Samples, has_sample}
use Rattle.spec_picture_build.specs.Built.{BuiltPicture, picture_built}
use Rattle.spec_picture_build.specs.References.{DecodedPicture, greatest_sample, motions_of as motions_at}
use Rattle.spec_slice_data.specs.Segment.{PictureShape}
use Rattle.picture_buffer.specs.Motion.{FieldPlaces, motions_of}
use Rattle.picture_buffer.specs.Planes.{HasSides, PictureSamples, PlaneSamples, plane_at, plane_height, plane_width}
use Rattle.picture_buffer.specs.Planes.{samples_of}
use Rattle.unit_build.specs.PictureFilters.{data_of}
use Rattle.picture_trees.specs.Given.{ReadsPicture}
use Rattle.picture_trees.specs.declared.trees.ReadError.{ReadError}
use Rattle.picture_trees.specs.declared.trees.ReadError.TheVariants as errors
use Rattle.picture_build.specs.Building.{Building, BuildsPicture, built_by, units_by}
use Rattle.picture_build.proofs.Built.{AreBuilt, picture_is}
use Rattle.picture_build.proofs.Planes.{heights, widths}

-- a decoded picture by its parts
abbrev of_parts : PictureFormat → Samples → Motions → DecodedPicture
of_parts format samples motions = record { format = format; samples = samples; motions = motions }

-- outside a plane there is nothing
plane_outside : (plane : PlaneSamples) (x y : ℕ) → (nat_lt x plane.width && nat_lt y plane.height) ≡ false
    → plane_at plane x y ≡ 0
unfolding plane_at
plane_outside plane x y e = ap (λ (t : Bool). if t then slice_index plane.samples (plane.width * y + x) else 0) e

pub outside : (planes : PictureSamples) (c x y : ℕ)
    → (nat_lt c 3 && (nat_lt x (plane_width planes c) && nat_lt y (plane_height planes c))) ≡ false
    → samples_of planes c x y ≡ 0
unfolding samples_of
outside planes zero x y e = plane_outside planes.luma x y e
outside planes (suc zero) x y e = plane_outside planes.cb x y e
outside planes (suc (suc zero)) x y e = plane_outside planes.cr x y e
outside planes (suc (suc (suc c))) x y e = grind (arith, nat_tests)

inside_same : (x y w v h g : ℕ) → w ≡ v → h ≡ g → (nat_lt x w && nat_lt y h) ≡ (nat_lt x v && nat_lt y g)
inside_same x y w v h g ew eh = ap (λ k. nat_lt x k && nat_lt y h) ew ∙ ap (λ k. nat_lt x v && nat_lt y k) eh

none_past : (t u v : Bool) → t ≡ false → (t && u) ≡ (t && v)
none_past t u v e = rw e refl

-- whether a picture has a sample, by its planes
pub has_by_planes : (planes : PictureSamples) (picture : PictureShape) (c x y : ℕ)
    → HasSides planes (4 * picture.across) (4 * picture.down)
    → has_sample picture c x y ≡ (nat_lt c 3 && (nat_lt x (plane_width planes c) && nat_lt y (plane_height planes c)))
unfolding has_sample
has_by_planes planes picture zero x y sides =
    inside_same x y _ _ _ _ (sym (widths planes picture 0 (omega arith) sides))
    (sym (heights planes picture 0 (omega arith) sides))
has_by_planes planes picture (suc zero) x y sides =
    inside_same x y _ _ _ _ (sym (widths planes picture 1 (omega arith) sides))
    (sym (heights planes picture 1 (omega arith) sides))
has_by_planes planes picture (suc (suc zero)) x y sides =
    inside_same x y _ _ _ _ (sym (widths planes picture 2 (omega arith) sides))
    (sym (heights planes picture 2 (omega arith) sides))
has_by_planes planes picture (suc (suc (suc c))) x y sides =
    let past : nat_lt (suc (suc (suc c))) 3 ≡ false = grind (arith, nat_tests) in
    none_past (nat_lt (suc (suc (suc c))) 3) _ _ past

-- the samples of planes that were filtered, which are told inside the picture
abbrev AreFiltered : PicturePlan → FilterData → PictureSamples → PictureSamples → Type 0
AreFiltered p gathered old new = (c x y : ℕ) → c < 3 → x < plane_width old c → y < plane_height old c
    → samples_of new c x y ≡ filtered p gathered (samples_of old) c x y

told_inside : (p : PicturePlan) (gathered : FilterData) (old new : PictureSamples) (c x y : ℕ)
    → AreFiltered p gathered old new
    → (nat_lt c 3 && (nat_lt x (plane_width old c) && nat_lt y (plane_height old c))) ≡ true
    → samples_of new c x y ≡ filtered p gathered (samples_of old) c x y
told_inside p gathered old new c x y told e =
    let parts = and_parts (nat_lt c 3) (nat_lt x (plane_width old c) && nat_lt y (plane_height old c)) e in
    let sides = and_parts (nat_lt x (plane_width old c)) (nat_lt y (plane_height old c)) parts.1 in
    told c x y (ltb-true c 3 parts.0) (ltb-true x (plane_width old c) sides.0) (ltb-true y (plane_height old c) sides.1)

filtered_at : (p : PicturePlan) (gathered : FilterData) (picture : PictureShape) (old new : PictureSamples) (c x y : ℕ)
    → HasSides old (4 * picture.across) (4 * picture.down) → HasSides new (4 * picture.across) (4 * picture.down)
    → AreFiltered p gathered old new
    → (t : Bool) → has_sample picture c x y ≡ t
    → samples_of new c x y ≡ (if t then filtered p gathered (samples_of old) c x y else 0)
filtered_at p gathered picture old new c x y before after told true e =
    told_inside p gathered old new c x y told (sym (has_by_planes old picture c x y before) ∙ e)
filtered_at p gathered picture old new c x y before after told false e =
    outside new c x y (sym (has_by_planes new picture c x y after) ∙ e)

samples_are : (p : PicturePlan) (gathered : FilterData) (picture : PictureShape) (old new : PictureSamples)
    → picture ≡ picture_shape p.sps p.pps
    → HasSides old (4 * picture.across) (4 * picture.down) → HasSides new (4 * picture.across) (4 * picture.down)
    → AreFiltered p gathered old new
    → samples_of new ≡ samples_filtered p gathered (samples_of old)
unfolding samples_filtered
samples_are p gathered picture old new ep before after told = fun_ext (λ c. fun_ext (λ x. fun_ext (λ y. at c x y)))
  where
    at : (c x y : ℕ) → samples_of new c x y ≡ samples_filtered p gathered (samples_of old) c x y
    at c x y =
        filtered_at p gathered picture old new c x y before after told (has_sample picture c x y) refl
        ∙ ap (λ (q : PictureShape). if has_sample q c x y then filtered p gathered (samples_of old) c x y else 0) ep

pub same_sides : (planes : PictureSamples) (w h v g : ℕ) → w ≡ v → h ≡ g → HasSides planes w h → HasSides planes v g
same_sides planes w h v g ew eh sides = subst (λ k. HasSides planes k g) ew (subst (λ k. HasSides planes w k) eh sides)

same_decoded : (f g : PictureFormat) (s t : Samples) (m n : Motions) → f ≡ g → s ≡ t → m ≡ n
    → of_parts f s m ≡ of_parts g t n
same_decoded f g s t m n ef es em =
    ap (λ v. of_parts v s m) ef ∙ ap (λ v. of_parts g v m) es ∙ ap (λ v. of_parts g t v) em

-- a picture whose planes were filtered
pub decoded_is : (building : Building) (picture : PictureShape) (format : PictureFormat) (new : PictureSamples)
    (field : FieldPlaces)
    → picture ≡ picture_shape building.plan.sps building.plan.pps
    → 4 * picture.across ≡ building.plan.sps.format.pic_width_in_luma_samples
    → 4 * picture.down ≡ building.plan.sps.format.pic_height_in_luma_samples → building.filters.plan ≡ building.plan
    → HasSides building.planes (4 * picture.across) (4 * picture.down)
    → HasSides new building.filters.plan.sps.format.pic_width_in_luma_samples
    building.filters.plan.sps.format.pic_height_in_luma_samples
    → format ≡ building.plan.sps.format → field ≡ building.motion
    → AreFiltered building.filters.plan (data_of building.filters) building.planes new
    → of_parts format (samples_of new) (motions_of field)
    ≡ decoded_by building.plan (units_by building)
unfolding decoded_by
decoded_is building picture format new field ep ew eh e before after ef em told =
    let sides : HasSides new (4 * picture.across) (4 * picture.down) =
    same_sides new _ _ _ _ (ap (λ (q : PicturePlan). q.sps.format.pic_width_in_luma_samples) e ∙ sym ew)
    (ap (λ (q : PicturePlan). q.sps.format.pic_height_in_luma_samples) e ∙ sym eh) after in
    let here : AreFiltered building.plan (data_of building.filters) building.planes new =
    subst (λ q. AreFiltered q (data_of building.filters) building.planes new) e told in
    same_decoded _ _ _ _ _ _ ef
    (samples_are building.plan (data_of building.filters) picture building.planes new ep before sides here)
    (ap motions_of em)

depth_either : (t : Bool) (l k : ℕ) → (if t then 8 + l else 8 + k) ≡ (if t then l + 8 else k + 8)
depth_either true l k = omega arith
depth_either false l k = omega arith

-- the greatest sample of a component by its bit depth
greatest_is : (p : PicturePlan) (c : ℕ) → greatest_sample p.sps.format c ≡ 2 ^ depth_of (filter_format p) c - 1
unfolding filter_format
greatest_is p c =
    ap (λ d. 2 ^ d - 1) (depth_either (c == 0) p.sps.format.bit_depth_luma_minus8 p.sps.format.bit_depth_chroma_minus8)

-- samples in range, as filtering asks for them
pub bounded : (p q : PicturePlan) (planes : PictureSamples) → q ≡ p
    → ((c x y : ℕ) → samples_of planes c x y ≤ greatest_sample p.sps.format c)
    → (c x y : ℕ) → samples_of planes c x y ≤ 2 ^ depth_of (filter_format q) c - 1
bounded p q planes e small c x y =
    subst (λ n. samples_of planes c x y ≤ n) (greatest_is p c ∙ ap (λ r. 2 ^ depth_of (filter_format r) c - 1) (sym e))
    (small c x y)

-- no sample that is built is greater
pub built_in_range : (buffer : List DecodedPicture) (p : PicturePlan) (building : Building) (given : List TreeUnit)
    → AreBuilt buffer building p given
    → ((buffer : List DecodedPicture) (p : PicturePlan) (built : BuiltPicture) → IsSps p.sps
    → picture_built buffer p ≡ Ok built → (c x y : ℕ) → built.samples c x y ≤ greatest_sample p.sps.format c)
    → (c x y : ℕ) → samples_of building.planes c x y ≤ greatest_sample building.plan.sps.format c
built_in_range buffer p building given are whole c x y =
    subst (λ (q : PicturePlan). samples_of building.planes c x y ≤ greatest_sample q.sps.format c) (sym are.is.plan)
    (whole buffer p (built_by building) are.sps (picture_is buffer p building given are) c x y)

-- all units are built: behind the loop filters they are the picture
pub decoded_all : (buffer : List DecodedPicture) (p : PicturePlan) (building : Building) (given : List TreeUnit)
    → AreBuilt buffer building p given
    → picture_decoded buffer p ≡ Ok (decoded_by building.plan (units_by building))
unfolding picture_decoded
decoded_all buffer p building given are =
    ap (reading_decoded buffer p) are.all.all
    ∙ ap (λ g. Ok (units_decoded buffer p g)) are.all.same
    ∙ ap (λ (u : DecodedUnits). Ok (decoded_by p u)) (one_fold buffer p given)
    ∙ ap (λ b. Ok (decoded_by p (joined b (units_filtered (motions_at buffer) p given))))
    (sym (are.is.picture are.sound))
    ∙ ap (λ (f : Behind). Ok (decoded_by p (joined (built_by building) f.gathered))) (sym (are.is.behind are.sound))
    ∙ ap (λ q. Ok (decoded_by q (units_by building))) (sym are.is.plan)

-- a rule is broken
decoded_broken : (buffer : List DecodedPicture) (p : PicturePlan) (given : List TreeUnit) (broken : PictureBroken)
    → picture_read p [] ≡ Err (record { given = given; broken = broken })
    → picture_decoded buffer p ≡ Err broken
unfolding picture_decoded
decoded_broken buffer p given broken e = ap (reading_decoded buffer p) e

-- reading a picture ended at a broken rule, or for want of memory
pub decoding_fails : (buffer : List DecodedPicture) (p : PicturePlan) (e : ReadError) (tells : List TreeUnit → Type 0)
    → ReadsPicture (Err e) tells (picture_read p []) → BuildsPicture (Err e) (picture_decoded buffer p)
decoding_fails buffer p errors.Memory tells read = tt
decoding_fails buffer p (errors.Broken breach nal ctu) tells read =
    decoded_broken buffer p read.0 (record { breach = breach; nal = nal; ctu = ctu }) read.2
