-- The values of the pictures of a flight fit their words.
use Rattle.std.proofs.Common.{◌≡◌, ℕ, zero, suc, ◌+◌, ◌-◌, ◌*◌, ◌<◌, ◌≤◌, Bool, true, false, List, [], ◌∷◌}
use Rattle.std.proofs.Common.{All, IfSome, Option, Some, None, length, refl, sym, ap, subst, arith, slice_get}
use Rattle.std.proofs.Common.{if◌then◌else◌}
use Rattle.std.specs.Prelude.{slice_index_or}
use Rattle.std.specs.Option.{unwrap_or}
use Rattle.std.proofs.lemmas.List.Elements.{All-append, All-cons, All-head, All-nil, All-tail}
use Rattle.std.proofs.lemmas.Option.{get_or_from_slice_get, slice_get_within}
use Rattle.header_types.specs.declared.sps.SpsFields.{SpsFields}
use Rattle.header_types.specs.SequenceParameterSets.{IsSps, size_in_ctbs, width_in_ctbs}
use Rattle.slice_types.specs.SliceHeaders.{IsInterFields, IsSliceHeader}
use Rattle.slice_types.specs.declared.slice.InterFields.{InterFields}
use Rattle.slice_types.specs.declared.slice.SliceType.{SliceType}
use Rattle.plan_types.specs.declared.picture_plan.PicturePlan.{PicturePlan}
use Rattle.plan_types.specs.declared.segment_plan.SegmentPlan.{SegmentPlan}
use Rattle.known_picture_laws.specs.PlanLaws.{IsPlan}
use Rattle.ctu_records.specs.declared.item.Item.{Item}
use Rattle.ctu_records.specs.declared.item.Item.TheVariants as item
use Rattle.ctu_records.specs.declared.prediction.MotionSyntax.{MotionSyntax}
use Rattle.ctu_records.specs.declared.prediction.MotionSyntax.TheVariants.{Merge, Vectors}
use Rattle.ctu_records.specs.declared.prediction.VectorSyntax.{VectorSyntax}
use Rattle.ctu_records.specs.declared.side.Side.{Side}
use Rattle.ctu_records.specs.Tree.{Ctu, coding_at, luma_mode_at, qp_at}
use Rattle.spec_motion.specs.declared.slice_motion.SliceMotion.{SliceMotion}
use Rattle.spec_motion.specs.declared.vectors.Motion.{Motion}
use Rattle.spec_slice_data.specs.declared.syntax.InterSyntax.{InterSyntax}
use Rattle.spec_slice_data.specs.Segment.{PictureShape, no_group, nothing_read, side_of}
use Rattle.spec_known_units.specs.SpecPictureTrees.{TreeUnit}
use Rattle.spec_known_units.specs.SpecPictureTrees.{first_column, first_row, unit_at, unit_places}
use Rattle.spec_known_units.specs.SpecPictureTrees.{inter_syntax, picture_shape, segment_syntax, slice_syntax}
use Rattle.known_picture_laws.specs.CabacContexts.{packed, unpacked}
use Rattle.spec_known_units.specs.Known.{KnownUnit, contexts_behind, ctu_of, known_units, last_behind, units_known}
use Rattle.known_picture_laws.specs.SpecPictureMotion.{motion_of}
use Rattle.known_picture_laws.specs.SpecPictureMotion.{max_candidates, motion_of_slice, slice_motion}
use Rattle.sample_laws.specs.SpecDeblocking.{Place}
use Rattle.sample_laws.specs.SpecReconstruction.{UnitFormat}
use Rattle.sample_laws.specs.SpecReconstruction.{ArePulses, IsSound, IsMotion as IsToldMotion}
use Rattle.sample_laws.specs.SpecReconstruction.{IsVector as IsToldVector}
use Rattle.sample_laws.specs.SpecPictureFilters.{filter_format}
use Rattle.sample_laws.specs.SpecLoopFilters.{AreInRange}
use Rattle.sample_laws.specs.SpecPictureBuild.{unit_format}
use Rattle.sample_laws.specs.SpecPictureBuild.{DecodedPicture, motions_of}
use Rattle.sample_laws.specs.SpecDecodedPictures.{DecodedUnits, decoded_by}
use Rattle.sample_laws.proofs.SpecDecodedPicturesLemmas.{one_fold}
use Rattle.known_picture_laws.specs.SpecFlights.{BufferPicture, is_among, kept_as, kept_from, pictures_in}
use Rattle.sample_laws.proofs.UnitLawsLemmas.{format-fits}
use Rattle.sample_laws.proofs.Pictures.{built_below}
use Rattle.sample_words.specs.Offsets.{IsSao}
use Rattle.sample_words.specs.Values.{IsModes, IsMotion}
use Rattle.known_picture_laws.specs.SpecFlights.{PlannedFlight, buffer_before, buffer_behind, folded_at, folded_in}
use Rattle.known_picture_laws.specs.SpecFlights.{known_decoded}
use Rattle.known_picture_laws.specs.SpecFlights.{known_folded, pictures_before}
use Rattle.known_picture_laws.specs.SpecFlights.{flight_sizes, modes_at, modes_of, no_vectors, segment_number}
use Rattle.known_picture_laws.specs.SpecFlights.{values_in}
use Rattle.flight_value_laws.specs.Motion.{AreMotionsHeld, IsHeld}
use Rattle.flight_value_laws.specs.Ranges.{FitWords, HasMotionHeld, IsInRange}
use Rattle.flight_value_laws.proofs.Derived.{IsToldFor, IsToldItem}
use Rattle.flight_value_laws.proofs.ContextWords.{contexts_again, words_fit}
use Rattle.flight_value_laws.proofs.Fitting.{FitsWords, HasVector, depths_fit}
use Rattle.flight_value_laws.proofs.Known.{IsKnownFit, contexts_fit, known_fit, last_fits}
use Rattle.flight_value_laws.proofs.Offsets.{no_sao_fits}
use Rattle.flight_value_laws.proofs.Phases.{in_depth, phase_small, word_has_room}
use Rattle.flight_value_laws.proofs.Pictures.{AreReferencesHeld, AreUnitsFit, IsPlaceFit, IsTold, all_given}
use Rattle.flight_value_laws.proofs.Pictures.{folded_fit}
use Rattle.flight_value_laws.proofs.Segments.{few_units, rise_few}

-- ---- what is told of motion, for the slice that it is of

room_for : (sps : SpsFields) (kind : SliceType) (fields : Option InterFields) (index : ℕ)
    → IfSome fields IsInterFields → (inter_syntax sps kind fields).is_inter ≡ true
    → index ≤ (inter_syntax sps kind fields).max_merge - 1 → index < max_candidates fields
unfolding inter_syntax
room_for sps kind None index is on small = absurd cc
room_for sps kind (Some fields) index is on small = let most = is.merge in omega (arith, most, small)

module _ (p : PicturePlan) (s : SegmentPlan) (header : IsSliceHeader s.header) (address : ℕ) where
  abbrev slice : SliceMotion
  slice = slice_motion p s address

  abbrev inter : InterSyntax
  inter = (segment_syntax p s).inter

  merge_told : (index : ℕ) → inter.is_inter ≡ true → index ≤ inter.max_merge - 1 → index < slice.max_candidates
  unfolding slice_syntax motion_of_slice
  merge_told index on small =
      room_for p.sps s.header.slice.slice_type s.header.slice.inter index header.slice.inter on small

  small_vector : (o : Option VectorSyntax) → IsToldVector o → IfSome o (λ (v : VectorSyntax). v.ref_idx < 16)
  small_vector None is = tt
  small_vector (Some v) is = is

  motion_told : (told : MotionSyntax) → IsToldMotion told → inter.is_inter ≡ true → HasVector inter told
      → IsToldFor slice told
  motion_told (Merge index) is on fits = merge_told index on fits
  motion_told (Vectors first second) is on fits = (small_vector first is.0, small_vector second is.1, fits)

  item_told : (format : UnitFormat) (i : Item) → IsSound format i → FitsWords inter i → IsToldItem slice i
  item_told format (item.Prediction unit) sound fits = motion_told unit.motion sound.motion fits.0 fits.1
  item_told format (item.Unit unit) sound fits = tt
  item_told format (item.Luma luma) sound fits = tt
  item_told format (item.Chroma mode) sound fits = tt
  item_told format (item.Pcm square) sound fits = tt
  item_told format (item.Sample value) sound fits = tt
  item_told format (item.Transform unit) sound fits = tt
  item_told format (item.Delta delta) sound fits = tt
  item_told format (item.Block block) sound fits = tt
  item_told format (item.Level place value) sound fits = tt

  pub items_told : (format : UnitFormat) (items : List Item) → All (IsSound format) items
      → All (FitsWords inter) items → All (IsToldItem slice) items
  items_told format items sound fits k d inside =
      item_told format (slice_index_or items k d) (sound k d inside) (fits k d inside)

all_get : {X : Type 0} (P : X → Type 0) (xs : List X) (i : ℕ) (x : X) → All P xs → slice_get xs i ≡ Some x → P x
all_get P xs i x all e = subst P (get_or_from_slice_get xs i x x e) (all i x (slice_get_within xs i x e))

-- ---- sides, by place

module _ (p : PicturePlan) (sps : IsSps p.sps) where
  abbrev shape : PictureShape
  shape = picture_shape p.sps p.pps

  abbrev nothing : Ctu
  nothing = nothing_read shape.size no_group

  record IsSideFit (side : Side) : Type 0 where
    depth : side.depth < 4
    luma_mode : side.luma_mode < 64
    qp : side.qp < 128

  nothing_side : (x y : ℕ) → IsSideFit (side_of nothing x y)
  unfolding coding_at luma_mode_at qp_at
  nothing_side x y = record { depth = omega arith; luma_mode = omega arith; qp = omega arith }

  side_fits : (o : Option KnownUnit) → IfSome o (IsKnownFit p sps) → (x y : ℕ)
      → IsSideFit (side_of (ctu_of shape o) x y)
  side_fits None is x y = nothing_side x y
  side_fits (Some u) is x y =
      let kept = is.kept is.segment in
      let mode = kept.modes x y in
      let qp = kept.parameters x y in
      record {
        depth = depths_fit (segment_syntax p is.segment).inter u.read.items is.fit.each x y;
        luma_mode = omega (arith, mode);
        qp = omega (arith, qp, sps.format.luma_depth);
      }

  sao_fits : (o : Option KnownUnit) → IfSome o (IsKnownFit p sps) → IsSao (ctu_of shape o).sao
  sao_fits None is = no_sao_fits
  sao_fits (Some u) is = is.fit.sao

  number_small : (o : Option KnownUnit) → IfSome o (IsKnownFit p sps) → length p.segments ≤ 262144
      → segment_number o < 262144
  number_small None is few = omega arith
  number_small (Some u) is few =
      let inside = slice_get_within p.segments u.segment is.segment is.has in omega (arith, inside, few)

-- ---- a picture

module _ (p : PicturePlan) (plan : IsPlan p) where
  abbrev here : PictureShape
  here = picture_shape p.sps p.pps

  few_segments : length p.segments ≤ 262144
  few_segments =
      let rise = rise_few (size_in_ctbs p.sps) p.segments plan.order.rise in
      let units = few_units p.sps plan.sps in
      omega (arith, rise, units)

  abbrev KnownFit : KnownUnit → Type 0
  KnownFit = IsKnownFit p plan.sps

  pub fit_at : (a : ℕ) (u : KnownUnit) → units_known p a ≡ Some u → IsKnownFit p plan.sps u
  fit_at a u e = subst (λ o. IfSome o KnownFit) e (known_fit p plan.sps a)

  same_some : {X : Type 0} (a b : X) (o : Option X) → o ≡ Some a → o ≡ Some b → a ≡ b
  same_some a b o e f = cc

  filled : All (λ (unit : TreeUnit). (s : SegmentPlan) → ArePulses (unit_format p.sps p.pps s.header.slice)
      unit.read.items) (known_units p)
  filled =
      all_given p (λ (unit : TreeUnit). (s : SegmentPlan) → ArePulses (unit_format p.sps p.pps s.header.slice)
      unit.read.items) (λ a u e s. ((fit_at a u e).kept s).pulses)

  samples_small : (buffer : List DecodedPicture) → AreInRange (filter_format p) (known_folded buffer p).samples
  samples_small buffer =
      subst (λ (d : DecodedUnits). AreInRange (filter_format p) d.samples) (sym (one_fold buffer p (known_units p)))
      (λ c x y. in_depth p c _
      (built_below p (λ s. format-fits p plan.sps s) buffer (known_units p) filled c x y))

  module _ (buffer : List DecodedPicture) (references : AreReferencesHeld (motions_of buffer)) where
    told : (a : ℕ) (u : KnownUnit) → units_known p a ≡ Some u
        → IsTold buffer p references (record { segment = u.segment; ctu = a; read = u.read })
    told a u e s has =
        let is = fit_at a u e in
        let same : is.segment ≡ s = same_some is.segment s (slice_get p.segments u.segment) is.has has in
        items_told p s (all_get (λ (t : SegmentPlan). IsSliceHeader t.header) p.segments u.segment s plan.headers has) a
        (unit_format p.sps p.pps s.header.slice) u.read.items (is.kept s).each
        (subst (λ (t : SegmentPlan). All (FitsWords (segment_syntax p t).inter) u.read.items) same is.fit.each)

    pub units_fit : AreUnitsFit (known_folded buffer p)
    units_fit =
        folded_fit buffer p references (known_units p) (all_given p (IsTold buffer p references) told)

    value_fits : (o : Option Motion) → IfSome o IsHeld → IsMotion (unwrap_or o no_vectors)
    value_fits None is = record { list_0 = tt; list_1 = tt }
    value_fits (Some m) is = is.fits

    modes_fit : (o : Option KnownUnit) (address x y : ℕ) (place : Place) (coded : Bool) → IfSome o KnownFit
        → IsPlaceFit place → IsModes (modes_of here o address x y place coded)
    modes_fit o address x y place coded is fits =
        let side =
        side_fits p plan.sps o is (x - first_column here address) (y - first_row here address) in
        record {
          segment = number_small p plan.sps o is few_segments;
          depth = side.depth;
          luma_mode = side.luma_mode;
          qp = side.qp;
          left_strength = omega (arith, fits.left);
          top_strength = omega (arith, fits.top);
        }

    last_byte : (a : ℕ) → last_behind (units_known p a) < 256
    last_byte a =
        let most = last_fits p plan.sps a in omega (arith, most, plan.sps.format.luma_depth)

    pub picture_fits : (pictures : ℕ)
        → FitWords (flight_sizes p.sps pictures) (values_in p (known_folded buffer p))
    unfolding values_in modes_at
    picture_fits pictures =
        let d : DecodedUnits = known_folded buffer p in
        record {
          samples = λ phase c x y.
              word_has_room p plan.sps pictures c _ (phase_small p d (samples_small buffer) phase c x y);
          motion = λ x y. value_fits (motion_of (d.motions x y)) (units_fit.motions x y);
          modes = λ x y.
              let address : ℕ = unit_at here (unit_places here) x y in
              modes_fit (units_known p address) address x y (d.filters.places x y) (d.filters.coded x y)
              (known_fit p plan.sps address) (units_fit.places x y);
          offsets = λ column row.
              sao_fits p plan.sps (units_known p (row * width_in_ctbs p.sps + column)) (known_fit p plan.sps _);
          contexts = λ row.
              words_fit (contexts_behind (units_known p (row * width_in_ctbs p.sps + 1)))
              (contexts_fit p plan.sps (row * width_in_ctbs p.sps + 1));
          carried = λ row.
              let address : ℕ = row * width_in_ctbs p.sps + (width_in_ctbs p.sps - 1) in
              record {
                contexts = words_fit (contexts_behind (units_known p address)) (contexts_fit p plan.sps address);
                last = last_byte address;
              };
        }

-- ---- the buffer before each picture

references_held : (buffer : List BufferPicture) → All HasMotionHeld buffer
    → AreReferencesHeld (motions_of (pictures_in buffer))
references_held [] held place = λ x y. tt
references_held (b ∷ buffer) held zero = All-head HasMotionHeld b buffer held
references_held (b ∷ buffer) held (suc place) =
    references_held buffer (All-tail HasMotionHeld b buffer held) place

pub decoded_held : (p : PicturePlan) (buffer : List BufferPicture) → IsPlan p → All HasMotionHeld buffer
    → AreMotionsHeld (known_decoded (pictures_in buffer) p).motions
unfolding decoded_by
decoded_held p buffer plan held =
    (units_fit p plan (pictures_in buffer) (references_held buffer held)).motions

kept_held : (places : List ℕ) (place : ℕ) (buffer : List BufferPicture) → All HasMotionHeld buffer
    → All HasMotionHeld (kept_from places place buffer)
unfolding kept_from
kept_held places place [] held = All-nil HasMotionHeld
kept_held places place (b ∷ later) held =
    one_more (is_among places place) (kept_held places (suc place) later (All-tail HasMotionHeld b later held))
  where
    one_more : (t : Bool) → All HasMotionHeld (kept_from places (suc place) later)
        → All HasMotionHeld
        (if t then b ∷ kept_from places (suc place) later else kept_from places (suc place) later)
    one_more true rest = All-cons HasMotionHeld b _ (All-head HasMotionHeld b later held) rest
    one_more false rest = rest

module _ (f : PlannedFlight) (range : IsInRange f) where
  behind_held : (buffer : List BufferPicture) (o : Option PicturePlan) → ((p : PicturePlan) → o ≡ Some p → IsPlan p)
      → All HasMotionHeld buffer → All HasMotionHeld (buffer_behind buffer o)
  unfolding buffer_behind
  behind_held buffer None plan held = held
  behind_held buffer (Some p) plan held =
      kept_held p.outputs.kept 0 _
      (All-append HasMotionHeld buffer (kept_as p (known_decoded (pictures_in buffer) p) ∷ []) held
      (All-cons HasMotionHeld (kept_as p (known_decoded (pictures_in buffer) p)) []
      (decoded_held p buffer (plan p refl) held) (All-nil HasMotionHeld)))

  buffer_held : (k : ℕ) → All HasMotionHeld (buffer_before f k)
  unfolding buffer_before
  buffer_held zero = range.buffer
  buffer_held (suc k) = behind_held (buffer_before f k) (slice_get f.pictures k) (range.plans k) (buffer_held k)

  pub before_held : (k : ℕ) → AreReferencesHeld (motions_of (pictures_before f k))
  before_held k = references_held (buffer_before f k) (buffer_held k)

  pub folded_is : (k : ℕ) (p : PicturePlan) → slice_get f.pictures k ≡ Some p
      → folded_at f k ≡ known_folded (pictures_before f k) p
  unfolding folded_at
  folded_is k p has = ap (folded_in (pictures_before f k)) has

  pub values_fit : (k : ℕ) (p : PicturePlan) → slice_get f.pictures k ≡ Some p
      → FitWords (flight_sizes p.sps (length f.pictures)) (values_in p (folded_at f k))
  values_fit k p has =
      subst (λ d. FitWords (flight_sizes p.sps (length f.pictures)) (values_in p d)) (sym (folded_is k p has))
      (picture_fits p (range.plans k p has) (pictures_before f k) (before_held k) (length f.pictures))

-- the contexts behind a unit are those of their words
pub words_are : (p : PicturePlan) → IsSps p.sps → (a : ℕ)
    → unpacked (packed (contexts_behind (units_known p a))) ≡ contexts_behind (units_known p a)
words_are p sps a = contexts_again (contexts_behind (units_known p a)) (contexts_fit p sps a)
