-- IDR pictures are decoded as they are drawn.
use Rattle.std.proofs.Common.{◌≡◌, inl, inr, ℕ, zero, suc, ◌+◌, ◌-◌, ◌*◌, ◌/◌, ◌%◌, ◌<◌, cond, Bool, true, false}
use Rattle.std.proofs.Common.{length}
use Rattle.std.proofs.Common.{List, get_or, refl, sym, ap, subst, ◌∙◌, arith}
use Rattle.std.specs.Prelude.{◌==◌, Ok}
use Rattle.std.specs.Option.{unwrap_or}
use Rattle.std.proofs.lemmas.Bool.{cases_eq, lt-ltb}
use Rattle.header_types.specs.SequenceParameterSets.{blocks_across}
use Rattle.slice_types.specs.declared.slice.SliceType.TheVariants as slice
use Rattle.plan_types.specs.declared.picture_plan.PicturePlan.{PicturePlan}
use Rattle.plan_types.specs.declared.segment_plan.SegmentPlan.{SegmentPlan}
use Rattle.plan_types.specs.declared.stated_hash.StatedHash.{StatedHash}
use Rattle.ctu_records.specs.declared.item.Item.{Item}
use Rattle.spec_boundary_strengths.specs.Places.{unit_place}
use Rattle.spec_deblocking.specs.declared.place.Place.{Place}
use Rattle.spec_deblocking.specs.Places.{side}
use Rattle.spec_loop_filters.specs.Filters.{LoopFilters, height_of as filter_height, plane_of}
use Rattle.spec_loop_filters.specs.Filters.{width_of as filter_width}
use Rattle.spec_reconstruction.specs.Inter.{InterUnit}
use Rattle.spec_reconstruction.specs.Known.{Known}
use Rattle.spec_reconstruction.specs.Unit.{unit_built}
use Rattle.spec_picture_trees.specs.Places.{is_of_unit}
use Rattle.spec_picture_trees.specs.Shapes.{picture_shape}
use Rattle.spec_picture_filters.specs.Data.{FilterData}
use Rattle.spec_picture_filters.specs.Filtered.{filter_format, filtered, loop_filters}
use Rattle.spec_picture_filters.specs.Units.{place_of, places_laid, places_read, read_added}
use Rattle.spec_picture_build.specs.Border.{has_sample}
use Rattle.spec_picture_build.specs.Built.{samples_added}
use Rattle.spec_picture_build.specs.Format.{unit_format}
use Rattle.spec_picture_build.specs.References.{DecodedPicture}
use Rattle.spec_decoded_pictures.specs.Decoded.{DecodedUnits, decoded_by, picture_decoded, reading_decoded}
use Rattle.spec_decoded_pictures.specs.Decoded.{samples_filtered, unit_decoded, units_decoded, units_folded}
use Rattle.spec_made.specs.declared.units.PcmUnit.{PcmUnit}
use Rattle.spec_made.specs.PcmRows.{no_samples}
use Rattle.spec_made.specs.Planes.{pcm_planes, pcm_sample}
use Rattle.made_laws.specs.Headers.{made_header}
use Rattle.made_laws.specs.Plans.{BufferUse, MadeSlice, made_lists, plan_with, segment_with}
use Rattle.made_laws.specs.Sets.{made_pps, made_sps}
use Rattle.made_row_laws.specs.Rows.{IsReadAs, tree_drawn, trees_drawn}
use Rattle.made_row_laws.specs.Shapes.{made_shape}
use Rattle.made_row_laws.specs.Units.{ArePcmUnits, pcm_items, unit_drawn}
use Rattle.made_sample_laws.specs.Units.{HasEightBits, component, pulse_at, side_of}
use Rattle.made_sample_laws.proofs.Kept.{final_kept}
use Rattle.made_sample_laws.proofs.KeptUnits.{pulses_kept}
use Rattle.made_sample_laws.proofs.Pulses.{pulse_unit}
use Rattle.made_picture_laws.specs.Pictures.{IsDecodedAs, drawn_at, height_of, width_of}
use Rattle.made_picture_laws.proofs.Folding.{all_units}
use Rattle.made_picture_laws.proofs.Laying.{laid_elsewhere, laid_here, place_elsewhere, place_here, unit_of}
use Rattle.made_picture_laws.proofs.Laying.{unit_of_place}
use Rattle.made_picture_laws.proofs.Planes.{plane_at_16, plane_at_8}
use Rattle.made_picture_laws.proofs.Tests.{both, when_true}

cond_mod : (b : Bool) (x : ℕ) → x % cond b 16 8 < cond b 16 8
cond_mod true x = omega arith
cond_mod false x = omega arith

pub side_mod : (c x : ℕ) → x % side_of c < side_of c
side_mod c x = cond_mod (c == 0) x

pub has_it : (c x y : ℕ) → c < 3 → x < width_of c → y < height_of c → has_sample made_shape c x y ≡ true
unfolding has_sample
has_it zero x y least few low = both _ _ (lt-ltb x 128 few) (lt-ltb y 96 low)
has_it (suc zero) x y least few low = both _ _ (lt-ltb x 64 few) (lt-ltb y 48 low)
has_it (suc (suc zero)) x y least few low = both _ _ (lt-ltb x 64 few) (lt-ltb y 48 low)
has_it (suc (suc (suc c))) x y least few low = absurd (omega arith)

-- the unit of a sample is one of the picture's
pub unit_inside : (c x y : ℕ) → c < 3 → x < width_of c → y < height_of c → unit_of c x y < 48
unit_inside zero x y least few low = omega arith
unit_inside (suc zero) x y least few low = omega arith
unit_inside (suc (suc zero)) x y least few low = omega arith
unit_inside (suc (suc (suc c))) x y least few low = absurd (omega arith)

-- a picture that is read is decoded
pub decoded_is : (buffer : List DecodedPicture) (p : PicturePlan) (items : ℕ → List Item) → IsReadAs p items
    → picture_decoded buffer p ≡ Ok (units_decoded buffer p (trees_drawn items))
unfolding picture_decoded
decoded_is buffer p items is = ap (reading_decoded buffer p) is.read

count_each : (units : List PcmUnit) → ArePcmUnits units → (i : ℕ) → i < 48
    → length (get_or units i no_samples).samples ≡ 384
count_each units are i inside = (are.each i no_samples (omega (arith, are.count))).count

kept_cond : (b : Bool) (p q : Place) → b ≡ true → p.kept ≡ true → (cond b p q).kept ≡ true
kept_cond true p q e f = f
kept_cond false p q e f = absurd cc

kept_other : (b : Bool) (p q : Place) → b ≡ false → q.kept ≡ true → (cond b p q).kept ≡ true
kept_other true p q e f = absurd cc
kept_other false p q e f = f

pcm_at : (units : List PcmUnit) (c x y i : ℕ) → c < 3 → unit_of c x y ≡ i
    → pulse_at (get_or units i no_samples) c (x % side_of c) (y % side_of c) ≡ pcm_sample units (component c) x y
unfolding pcm_sample
pcm_at units zero x y i least at = ap (λ k. pulse_at (get_or units k no_samples) 0 (x % 16) (y % 16)) (sym at)
pcm_at units (suc zero) x y i least at = ap (λ k. pulse_at (get_or units k no_samples) 1 (x % 8) (y % 8)) (sym at)
pcm_at units (suc (suc zero)) x y i least at =
    ap (λ k. pulse_at (get_or units k no_samples) 2 (x % 8) (y % 8)) (sym at)
pcm_at units (suc (suc (suc c))) x y i least at = absurd (omega arith)

pcm_drawn : (units : List PcmUnit) (c x y : ℕ) → c < 3 → x < width_of c → y < height_of c
    → pcm_sample units (component c) x y ≡ drawn_at (pcm_planes units) c x y
pcm_drawn units zero x y least few low = sym (plane_at_16 (pcm_sample units (component 0)) x y few low)
pcm_drawn units (suc zero) x y least few low = sym (plane_at_8 (pcm_sample units (component 1)) x y few low)
pcm_drawn units (suc (suc zero)) x y least few low = sym (plane_at_8 (pcm_sample units (component 2)) x y few low)
pcm_drawn units (suc (suc (suc c))) x y least few low = absurd (omega arith)

-- the sides of a component as its loop filters have them
pub record HasSides (filters : LoopFilters) (c : ℕ) : Type 0 where
  pub width : filter_width filters.format c ≡ side (plane_of filters.format c) * 32
  pub height : filter_height filters.format c ≡ side (plane_of filters.format c) * 24
  pub columns : width_of c ≡ filter_width filters.format c
  pub lines : height_of c ≡ filter_height filters.format c

module _ (buffer : List DecodedPicture) (d : BufferUse) (poc nal : ℕ) (s : MadeSlice) (hashes : List StatedHash)
    (units : List PcmUnit) (are : ArePcmUnits units) where
  abbrev plan : PicturePlan
  plan = plan_with d slice.I poc nal s hashes

  abbrev segment : SegmentPlan
  segment =
      segment_with (made_lists d slice.I poc) (made_header slice.I poc nal s.entry_points s.data_place) s

  record Holds (n : ℕ) (u : DecodedUnits) : Type 0 where
    pub samples : (c x y : ℕ) → c < 3 → x < width_of c → y < height_of c → unit_of c x y < n
        → u.samples c x y ≡ pcm_sample units (component c) x y
    pub kept : (x y : ℕ) → x < 32 → y < 24 → unit_of_place x y < n → (u.filters.places x y).kept ≡ true

  abbrev behind : ℕ → DecodedUnits → DecodedUnits
  behind i u = unit_decoded buffer plan segment (tree_drawn (pcm_items units) i) u

  eight : HasEightBits (unit_format plan.sps plan.pps segment.header.slice)
  unfolding unit_format made_sps made_pps
  eight = record { luma = refl; chroma = refl; pcm_luma = refl; pcm_chroma = refl }

  built : (inter : InterUnit) (known : Known) (i c x y : ℕ) → i < 48 → c < 3
      → unwrap_or (unit_built (unit_format plan.sps plan.pps segment.header.slice) inter
      (unit_drawn (pcm_items units) i).items known c (x % side_of c + 1) (y % side_of c + 1)) 0
      ≡ pulse_at (get_or units i no_samples) c (x % side_of c) (y % side_of c)
  unfolding unit_drawn pcm_items
  built inter known i c x y inside least =
      ap (λ o. unwrap_or o 0)
      (pulse_unit (unit_format plan.sps plan.pps segment.header.slice) inter (get_or units i no_samples) known c
      (x % side_of c) (y % side_of c) eight (count_each units are i inside) least (side_mod c x) (side_mod c y))

  samples_step : (i : ℕ) (u : DecodedUnits) → i < 48 → Holds i u → (c x y : ℕ) → c < 3 → x < width_of c
      → y < height_of c → unit_of c x y < i + 1 → (behind i u).samples c x y ≡ pcm_sample units (component c) x y
  unfolding unit_decoded samples_added picture_shape blocks_across made_sps made_pps
  samples_step i u inside is c x y least few low before =
      elim (cases_eq (unit_of c x y) i) [
        | inl at ↦
            laid_here i c x y _ u.samples least few low at ∙ built _ _ i c x y inside least
            ∙ pcm_at units c x y i least at
        | inr apart ↦
            laid_elsewhere i c x y _ u.samples least apart ∙ is.samples c x y least few low (omega arith)
      ]

  kept_step : (i : ℕ) (u : DecodedUnits) → i < 48 → Holds i u → (x y : ℕ) → x < 32 → y < 24
      → unit_of_place x y < i + 1 → ((behind i u).filters.places x y).kept ≡ true
  unfolding unit_decoded read_added places_laid place_of places_read unit_place unit_drawn pcm_items picture_shape
      blocks_across made_sps made_pps
  kept_step i u inside is x y few low before =
      elim (cases_eq (unit_of_place x y) i) [
        | inl at ↦
            kept_cond (is_of_unit made_shape i x y) _ (u.filters.places x y) (place_here i x y few low at)
            (pulses_kept (get_or units i no_samples) (x - 4 * (i % 8)) (y - 4 * (i / 8)) (omega arith) (omega arith))
        | inr apart ↦
            kept_other (is_of_unit made_shape i x y) _ (u.filters.places x y) (place_elsewhere i x y few inside apart)
            (is.kept x y few low (omega arith))
      ]

  all_hold : Holds 48 (units_folded buffer plan (trees_drawn (pcm_items units)))
  all_hold =
      all_units buffer plan segment (pcm_items units) refl Holds
      (λ i u inside is. record { samples = samples_step i u inside is; kept = kept_step i u inside is })
      (record {
        samples = λ c x y least few low before. absurd (omega arith);
        kept = λ x y few low before. absurd (omega arith);
      })

  sides_are : (c : ℕ) (gathered : FilterData) → c < 3 → HasSides (loop_filters plan gathered) c
  unfolding filter_format made_sps made_pps
  sides_are zero gathered least = record { width = refl; height = refl; columns = refl; lines = refl }
  sides_are (suc zero) gathered least = record { width = refl; height = refl; columns = refl; lines = refl }
  sides_are (suc (suc zero)) gathered least = record { width = refl; height = refl; columns = refl; lines = refl }
  sides_are (suc (suc (suc c))) gathered least = absurd (omega arith)

  filtered_is : (c x y : ℕ) → c < 3 → x < width_of c → y < height_of c
      → samples_filtered plan (units_folded buffer plan (trees_drawn (pcm_items units))).filters
      (units_folded buffer plan (trees_drawn (pcm_items units))).samples c x y
      ≡ pcm_sample units (component c) x y
  unfolding samples_filtered filtered picture_shape blocks_across made_sps made_pps
  filtered_is c x y least few low =
      let u : DecodedUnits = units_folded buffer plan (trees_drawn (pcm_items units)) in
      let sides = sides_are c u.filters least in
      let all = all_hold in
      when_true _ _ _ _ (has_it c x y least few low)
      (final_kept (loop_filters plan u.filters) u.samples 32 24 c x y
      (λ i j column row. all.kept i j column row (omega arith)) sides.width sides.height
      (subst (λ k. x < k) sides.columns few) (subst (λ k. y < k) sides.lines low)
      ∙ all.samples c x y least few low (unit_inside c x y least few low))

  pub idr_decoded : IsReadAs plan (pcm_items units) → IsDecodedAs buffer plan (pcm_planes units)
  unfolding decoded_by made_sps
  idr_decoded is = record {
    picture = units_decoded buffer plan (trees_drawn (pcm_items units));
    decoded = decoded_is buffer plan (pcm_items units) is;
    drawn = record {
      format = refl;
      samples = λ c x y least few low. filtered_is c x y least few low ∙ pcm_drawn units c x y least few low;
    };
  }
