-- The samples of a picture in each phase of its loop filters are in the range of their bit depth.
use Rattle.std.proofs.Common.{◌≡◌, ℕ, ◌+◌, ◌-◌, ◌*◌, ◌/◌, ◌%◌, ◌^◌, ◌<◌, ◌≤◌, ◌||◌, ◌==◌, Bool, true, false, cond}
use Rattle.std.proofs.Common.{nat_lt, refl, ap, subst, ◌∙◌, arith, rules, if◌then◌else◌}
use Rattle.std.proofs.Math.Nat.{pow-le-pow_right}
use Rattle.std.proofs.lemmas.Bool.{and_right, ltb-false}
use Rattle.hv_base.specs.declared.line.Phase.{Phase}
use Rattle.hv_base.specs.declared.line.Phase.TheVariants.{B, V, H, S}
use Rattle.header_types.specs.SequenceParameterSets.{IsSps}
use Rattle.plan_types.specs.declared.picture_plan.PicturePlan.{PicturePlan}
use Rattle.sample_laws.specs.SpecDeblocking.{Place}
use Rattle.sample_laws.specs.SpecDeblocking.{Plane}
use Rattle.sample_laws.specs.SpecDeblocking.{turned}
use Rattle.sample_laws.specs.SpecDeblocking.{deblocked, edge_sample, horizontal, vertical}
use Rattle.sample_laws.proofs.SpecSampleAdaptiveOffsetLemmas.{in_range}
use Rattle.sample_laws.specs.SpecLoopFilters.{FilterFormat}
use Rattle.sample_laws.specs.SpecLoopFilters.{AreInRange, LoopFilters, deblocked_samples, depth_of}
use Rattle.sample_laws.specs.SpecLoopFilters.{offset_plane, plane_of}
use Rattle.sample_laws.proofs.SpecLoopFiltersLemmas.{deblocked_small}
use Rattle.known_picture_laws.specs.FilterLocalityLaws.{behind_vertical}
use Rattle.sample_laws.specs.SpecPictureFilters.{FilterData}
use Rattle.sample_laws.specs.SpecPictureFilters.{filter_format, loop_filters}
use Rattle.sample_laws.specs.SpecPictureBuild.{Samples}
use Rattle.sample_laws.specs.SpecPictureBuild.{greatest_sample}
use Rattle.sample_laws.specs.SpecDecodedPictures.{DecodedUnits}
use Rattle.sample_words.specs.Values.{sample_bits}
use Rattle.known_picture_laws.specs.SpecFlights.{horizontal_samples, offset_samples, phase_samples, vertical_samples}
use Rattle.known_picture_laws.specs.SpecFlights.{flight_sizes}
use Rattle.flight_value_laws.proofs.Over.{not_below}

-- a plane of no lines has no horizontal edges
flat_is : (plane : Plane) (depth : ℕ) (places : ℕ → ℕ → Place) (f : ℕ → ℕ → ℕ) (x y : ℕ)
    → horizontal plane depth 0 places f x y ≡ f x y
unfolding horizontal vertical
flat_is plane depth places f x y =
    ap
    (λ b.
    if b then edge_sample plane depth (turned places) (λ column line. f line column) ((y + 4) / 8) x ((y + 4) % 8)
    else f x y)
    (and_right (nat_lt 0 ((y + 4) / 8)) _ (not_below (8 * ((y + 4) / 8)) 0 (omega arith)))

none_of : (b : Bool) → 0 / (if b then 1 else 2) ≡ 0
none_of true = refl
none_of false = refl

-- a format of no lines
abbrev flat : FilterFormat → FilterFormat
flat format = record {
  width = format.width;
  height = 0;
  ctb_size = format.ctb_size;
  luma_depth = format.luma_depth;
  chroma_depth = format.chroma_depth;
  pps_cb_qp_offset = format.pps_cb_qp_offset;
  pps_cr_qp_offset = format.pps_cr_qp_offset;
}

module _ (p : PicturePlan) (gathered : FilterData) where
  abbrev format : FilterFormat
  format = filter_format p

  abbrev Small : Samples → Type 0
  Small = AreInRange (filter_format p)

  abbrev flat_filters : LoopFilters
  flat_filters = record { format = flat format; places = gathered.places; units = gathered.units }

  -- behind vertical edges
  vertical_is : (samples : Samples) (c x y : ℕ)
      → deblocked_samples flat_filters samples c x y ≡ vertical_samples p gathered samples c x y
  unfolding deblocked_samples deblocked vertical_samples
  vertical_is samples c x y =
      let plane : Plane = plane_of format c in
      let f : ℕ → ℕ → ℕ = behind_vertical format gathered.places c (samples c) in
      ap (λ h. horizontal plane (depth_of format c) h gathered.places f x y) (none_of (c == 0))
      ∙ flat_is plane (depth_of format c) gathered.places f x y

  vertical_small : (samples : Samples) → Small samples → Small (vertical_samples p gathered samples)
  vertical_small samples small c x y =
      subst (λ v. v < 2 ^ depth_of format c) (vertical_is samples c x y)
      (deblocked_small flat_filters samples small c x y)

  -- behind horizontal ones
  horizontal_is : (samples : Samples) (c x y : ℕ)
      → deblocked_samples (loop_filters p gathered) samples c x y
      ≡ horizontal_samples p gathered (vertical_samples p gathered samples) c x y
  unfolding deblocked_samples deblocked vertical_samples horizontal_samples
  horizontal_is samples c x y = refl

  horizontal_small : (samples : Samples) → Small samples
      → Small (horizontal_samples p gathered (vertical_samples p gathered samples))
  horizontal_small samples small c x y =
      subst (λ v. v < 2 ^ depth_of format c) (horizontal_is samples c x y)
      (deblocked_small (loop_filters p gathered) samples small c x y)

  -- behind sample adaptive offset
  offset_small : (samples : Samples) → Small samples → Small (offset_samples p gathered samples)
  unfolding offset_samples
  offset_small samples small c x y =
      in_range (offset_plane (loop_filters p gathered) c) (samples c) x y (small c x y)

pub phase_small : (p : PicturePlan) (units : DecodedUnits) → AreInRange (filter_format p) units.samples
    → (phase : Phase) → AreInRange (filter_format p) (phase_samples p units phase)
unfolding phase_samples
phase_small p units small B = small
phase_small p units small V = vertical_small p units.filters units.samples small
phase_small p units small H = horizontal_small p units.filters units.samples small
phase_small p units small S =
    offset_small p units.filters (horizontal_samples p units.filters (vertical_samples p units.filters units.samples))
    (horizontal_small p units.filters units.samples small)

both_same : (b : Bool) (u v w x : ℕ) → u ≡ v → w ≡ x → cond b u w ≡ cond b v x
both_same true u v w x first second = first
both_same false u v w x first second = second

below_power : (n v : ℕ) → v ≤ 2 ^ n - 1 → v < 2 ^ n
below_power n v h = let some : 0 < 2 ^ n = search rules in omega (arith, some, h)

-- the bits of a component are the same for the samples and for the filters
depth_same : (p : PicturePlan) (c : ℕ)
    → cond (c == 0) (8 + p.sps.format.bit_depth_luma_minus8) (8 + p.sps.format.bit_depth_chroma_minus8)
    ≡ depth_of (filter_format p) c
unfolding filter_format
depth_same p c = both_same (c == 0) _ _ _ _ (omega arith) (omega arith)

pub in_depth : (p : PicturePlan) (c v : ℕ) → v ≤ greatest_sample p.sps.format c → v < 2 ^ depth_of (filter_format p) c
in_depth p c v below = subst (λ (d : ℕ). v < 2 ^ d) (depth_same p c) (below_power _ v below)

-- a word has room for as many bits
deep_if : (luma chroma bits : ℕ) (more less : Bool) → luma ≤ 2 → chroma ≤ 2 → nat_lt 0 luma ≡ more
    → nat_lt 0 chroma ≡ less → (b : Bool)
    → cond b (luma + 8) (chroma + 8) ≤ (if more || less then 16 else 8)
deep_if luma chroma bits true less few too e f true = omega (arith, few)
deep_if luma chroma bits true less few too e f false = omega (arith, too)
deep_if luma chroma bits false true few too e f true = omega (arith, few)
deep_if luma chroma bits false true few too e f false = omega (arith, too)
deep_if luma chroma bits false false few too e f true = let none = ltb-false 0 luma e in omega (arith, none)
deep_if luma chroma bits false false few too e f false = let none = ltb-false 0 chroma f in omega (arith, none)

depth_few : (p : PicturePlan) → IsSps p.sps → (pictures c : ℕ)
    → depth_of (filter_format p) c ≤ sample_bits (flight_sizes p.sps pictures)
unfolding filter_format
depth_few p sps pictures c =
    deep_if p.sps.format.bit_depth_luma_minus8 p.sps.format.bit_depth_chroma_minus8 0 _ _ sps.format.luma_depth
    sps.format.chroma_depth refl refl (c == 0)

pub word_has_room : (p : PicturePlan) → IsSps p.sps → (pictures c v : ℕ) → v < 2 ^ depth_of (filter_format p) c
    → v < 2 ^ sample_bits (flight_sizes p.sps pictures)
word_has_room p sps pictures c v small =
    let more : 2 ^ depth_of (filter_format p) c ≤ 2 ^ sample_bits (flight_sizes p.sps pictures) =
    pow-le-pow_right {n = 2} (omega arith) (depth_few p sps pictures c) in
    omega (arith, more, small)
