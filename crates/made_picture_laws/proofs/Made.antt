-- The planned P and B pictures of streams that are made.
use Rattle.std.proofs.Common.{◌≡◌, ℕ, zero, suc, ◌+◌, ◌-◌, ◌*◌, ◌/◌, ◌<◌, cond, Bool, true, false, List}
use Rattle.std.proofs.Common.{pos, Some, None, refl, sym, ap, ◌∙◌, arith}
use Rattle.std.specs.Prelude.{◌==◌, slice_index_or}
use Rattle.header_types.specs.SequenceParameterSets.{blocks_across}
use Rattle.header_types.specs.declared.reference_pictures.Mark.{Mark}
use Rattle.slice_types.specs.declared.slice.SliceType.TheVariants as slice
use Rattle.plan_types.specs.declared.segment_plan.SegmentPlan.{SegmentPlan}
use Rattle.plan_types.specs.declared.stated_hash.StatedHash.{StatedHash}
use Rattle.spec_motion.specs.declared.vectors.Reference.{Reference}
use Rattle.spec_motion.specs.Vectors.{no_reference, reference_in}
use Rattle.spec_picture_trees.specs.Shapes.{picture_shape}
use Rattle.spec_picture_motion.specs.Slices.{collocated_entry, motion_of_slice, references}
use Rattle.spec_picture_build.specs.Format.{unit_format}
use Rattle.spec_picture_build.specs.References.{DecodedPicture}
use Rattle.spec_picture_build.specs.Weights.{slice_weighting}
use Rattle.spec_reconstruction.specs.Inter.{Pictures}
use Rattle.spec_made.specs.declared.units.InterUnit.{InterUnit as MadeUnit}
use Rattle.spec_made.specs.declared.units.Shift.{Shift}
use Rattle.spec_made.specs.Draws.{no_unit}
use Rattle.spec_made.specs.InterRows.{is_skipped}
use Rattle.spec_made.specs.Planes.{Planes, mean_planes, moved_planes}
use Rattle.made_laws.specs.Headers.{made_header}
use Rattle.made_laws.specs.Plans.{BufferUse, MadeSlice, made_lists, plan_with, segment_with}
use Rattle.made_laws.specs.Sets.{made_pps, made_sps}
use Rattle.made_row_laws.specs.Rows.{IsReadAs}
use Rattle.made_row_laws.specs.Units.{IsShift, inter_items}
use Rattle.made_sample_laws.specs.Units.{HasEightBits}
use Rattle.made_picture_laws.specs.Inter.{IsInter, backward, both_ways}
use Rattle.made_picture_laws.specs.Pictures.{AreBytes, HasDrawn, IsDecodedAs, drawn_at, height_of, width_of}
use Rattle.made_picture_laws.proofs.Inter.{inter_decoded}
use Rattle.made_picture_laws.proofs.Planes.{length_16, length_8}
use Rattle.made_picture_laws.proofs.Predicted.{by_one, by_two, led_to, mean_at}
use Rattle.made_picture_laws.proofs.Vectors.{moved_bytes, moved_is}
use Rattle.spec_made.specs.Planes.{moved_sample}

-- the first entries of the lists
abbrev entry : ℕ → ℕ → Reference
entry place order = record { picture = place; order = pos order; long_term = false }

abbrev first_p : ℕ → ℕ → ℕ → Reference
first_p place poc list = cond (list == 0) (entry place (poc - 2)) no_reference

abbrev first_b : ℕ → ℕ → ℕ → ℕ → Reference
first_b one two poc list = cond (list == 0) (entry one (poc - 1)) (entry two (poc + 1))

which : (b : Bool) (r s : List Reference) (v w : Reference) → slice_index_or r 0 no_reference ≡ v
    → slice_index_or s 0 no_reference ≡ w → slice_index_or (cond b r s) 0 no_reference ≡ cond b v w
which true r s v w e f = e
which false r s v w e f = f

module _ (marks : List Mark) (before behind kept : List ℕ) (poc nal : ℕ) (s : MadeSlice) (hashes : List StatedHash)
  where
    abbrev p_use : ℕ → BufferUse
    p_use place = backward marks before behind kept place

    abbrev b_use : ℕ → ℕ → BufferUse
    b_use one two = both_ways marks before behind kept one two

    abbrev p_segment : ℕ → SegmentPlan
    p_segment place =
        segment_with (made_lists (p_use place) slice.P poc) (made_header slice.P poc nal s.entry_points s.data_place) s

    abbrev b_segment : ℕ → ℕ → SegmentPlan
    b_segment one two =
        segment_with (made_lists (b_use one two) slice.B poc) (made_header slice.B poc nal s.entry_points
        s.data_place) s

    p_bits : (place : ℕ) → HasEightBits (unit_format made_sps made_pps (p_segment place).header.slice)
    unfolding unit_format made_sps made_pps made_header
    p_bits place = record { luma = refl; chroma = refl; pcm_luma = refl; pcm_chroma = refl }

    b_bits : (one two : ℕ) → HasEightBits (unit_format made_sps made_pps (b_segment one two).header.slice)
    unfolding unit_format made_sps made_pps made_header
    b_bits one two = record { luma = refl; chroma = refl; pcm_luma = refl; pcm_chroma = refl }

    p_references : (place list i : ℕ)
        → reference_in (motion_of_slice (picture_shape made_sps made_pps) (plan_with (p_use place) slice.P poc nal s
        hashes)
        (p_segment place).header.slice (p_segment place).lists i) list 0
        ≡ first_p place poc list
    unfolding reference_in motion_of_slice references
    p_references place list i = which (list == 0) _ _ _ _ refl refl

    b_references : (one two list i : ℕ)
        → reference_in (motion_of_slice (picture_shape made_sps made_pps) (plan_with (b_use one two) slice.B poc nal s
        hashes) (b_segment one two).header.slice (b_segment one two).lists i) list 0
        ≡ first_b one two poc list
    unfolding reference_in motion_of_slice references
    b_references one two list i = which (list == 0) _ _ _ _ refl refl

    p_is : (place : ℕ) → IsInter (plan_with (p_use place) slice.P poc nal s hashes) (p_segment place) (first_p place
        poc)
    unfolding picture_shape blocks_across made_sps made_pps made_header motion_of_slice collocated_entry slice_weighting
    p_is place = record {
      only = refl;
      format = refl;
      shape = refl;
      address = refl;
      plain = λ i. record { temporal = refl; parallel = refl };
      references = p_references place;
      weighting = refl;
      bits = p_bits place;
    }

    b_is : (one two : ℕ)
        → IsInter (plan_with (b_use one two) slice.B poc nal s hashes) (b_segment one two) (first_b one two poc)
    unfolding picture_shape blocks_across made_sps made_pps made_header motion_of_slice collocated_entry slice_weighting
    b_is one two = record {
      only = refl;
      format = refl;
      shape = refl;
      address = refl;
      plain = λ i. record { temporal = refl; parallel = refl };
      references = b_references one two;
      weighting = refl;
      bits = b_bits one two;
    }

    -- a P picture
    pub p_decoded : (buffer : List DecodedPicture) (place : ℕ) (last : Planes) (shift : Shift) (units : List MadeUnit)
        → IsShift shift → is_skipped (slice_index_or units 0 no_unit) 0 ≡ false → AreBytes last
        → HasDrawn last buffer place
        → IsReadAs (plan_with (p_use place) slice.P poc nal s hashes)
        (inter_items (record { first = shift; second = None }) units)
        → IsDecodedAs buffer (plan_with (p_use place) slice.P poc nal s hashes) (moved_planes last shift)
    p_decoded buffer place last shift units small coded bytes has read =
        inter_decoded buffer (plan_with (p_use place) slice.P poc nal s hashes) (p_segment place) (first_p place poc)
        (p_is place) (record { first = shift; second = None }) (small, tt) units coded
        (drawn_at (moved_planes last shift))
        (λ inter c x y pictures weighting refers least few low.
        by_one (unit_format made_sps made_pps (p_segment place).header.slice) inter c shift x y
        (drawn_at (moved_planes last shift) c x y) (p_bits place) least weighting
        (ap (λ (r : Reference). led_to inter.pictures r.picture c shift x y) (refers 0)
        ∙ ap (λ (q : Pictures). led_to q place c shift x y) pictures
        ∙ moved_is last bytes buffer place has shift c x y least few low)
        (moved_bytes last shift bytes c x y least few low))
        (moved_planes last shift) read (λ c x y least few low. refl)

    mean_drawn : (a b : Planes) (first second : Shift) (c x y : ℕ) → c < 3 → x < width_of c → y < height_of c
        → (drawn_at (moved_planes a first) c x y + drawn_at (moved_planes b second) c x y + 1) / 2
        ≡ drawn_at (mean_planes (moved_planes a first) (moved_planes b second)) c x y
    mean_drawn a b first second zero x y least few low =
        let one = length_16 (moved_sample a.luma 16 first) in
        let two = length_16 (moved_sample b.luma 16 second) in
        sym (mean_at _ _ (128 * y + x) (omega (arith, one)) (omega (arith, two)))
    mean_drawn a b first second (suc zero) x y least few low =
        let one = length_8 (moved_sample a.cb 8 first) in
        let two = length_8 (moved_sample b.cb 8 second) in
        sym (mean_at _ _ (64 * y + x) (omega (arith, one)) (omega (arith, two)))
    mean_drawn a b first second (suc (suc zero)) x y least few low =
        let one = length_8 (moved_sample a.cr 8 first) in
        let two = length_8 (moved_sample b.cr 8 second) in
        sym (mean_at _ _ (64 * y + x) (omega (arith, one)) (omega (arith, two)))
    mean_drawn a b first second (suc (suc (suc c))) x y least few low = absurd (omega arith)

    -- a B picture
    pub b_decoded : (buffer : List DecodedPicture) (one two : ℕ) (older last : Planes) (first second : Shift)
        (units : List MadeUnit)
        → IsShift first → IsShift second → is_skipped (slice_index_or units 0 no_unit) 0 ≡ false → AreBytes older
        → AreBytes last → HasDrawn older buffer one → HasDrawn last buffer two
        → IsReadAs (plan_with (b_use one two) slice.B poc nal s hashes)
        (inter_items (record { first = first; second = Some second }) units)
        → IsDecodedAs buffer (plan_with (b_use one two) slice.B poc nal s hashes)
        (mean_planes (moved_planes older first) (moved_planes last second))
    b_decoded buffer one two older last first second units small few coded of_older of_last has_older has_last read =
        inter_decoded buffer (plan_with (b_use one two) slice.B poc nal s hashes) (b_segment one two) (first_b one two
        poc)
        (b_is one two) (record { first = first; second = Some second }) (small, few) units coded
        (λ c x y. (drawn_at (moved_planes older first) c x y + drawn_at (moved_planes last second) c x y + 1) / 2)
        (λ inter c x y pictures weighting refers least left low.
        by_two (unit_format made_sps made_pps (b_segment one two).header.slice) inter c first second x y
        (drawn_at (moved_planes older first) c x y) (drawn_at (moved_planes last second) c x y) (b_bits one two)
        least weighting
        (ap (λ (r : Reference). led_to inter.pictures r.picture c first x y) (refers 0)
        ∙ ap (λ (q : Pictures). led_to q one c first x y) pictures
        ∙ moved_is older of_older buffer one has_older first c x y least left low)
        (moved_bytes older first of_older c x y least left low)
        (ap (λ (r : Reference). led_to inter.pictures r.picture c second x y) (refers 1)
        ∙ ap (λ (q : Pictures). led_to q two c second x y) pictures
        ∙ moved_is last of_last buffer two has_last second c x y least left low)
        (moved_bytes last second of_last c x y least left low))
        (mean_planes (moved_planes older first) (moved_planes last second)) read
        (λ c x y least few low. mean_drawn older last first second c x y least few low)
