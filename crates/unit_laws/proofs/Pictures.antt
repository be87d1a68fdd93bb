-- All units of a picture are sound.
use Rattle.std.proofs.Common.{◌≡◌, ℕ, zero, suc, ◌+◌, ◌≤◌, Bool, true, false, cond, List, [], ◌∷◌, ℤ, pos, negsuc}
use Rattle.std.proofs.Common.{Option, Some, None, Result, Ok, Err, min, refl, subst, arith}
use Rattle.std.specs.Prelude.{IfSome, ⊤, unsigned_abs, int_lt, slice_index_or}
use Rattle.std.specs.List.{All}
use Rattle.std.specs.Int.{int_max, int_min}
use Rattle.std.proofs.lemmas.Bool.{ltb-false}
use Rattle.std.proofs.lemmas.List.Elements.{All-nil, All-cons, All-append}
use Rattle.hv_base.specs.declared.breach.Breach.{Breach}
use Rattle.header_types.specs.declared.sps.BlockSizes.{BlockSizes}
use Rattle.spec_picture_build.specs.SliceTypes.{InterFields}
use Rattle.spec_picture_build.specs.SliceTypes.{SliceType}
use Rattle.header_types.specs.declared.sps.PcmFormat.{PcmFormat}
use Rattle.header_types.specs.declared.sps.PictureFormat.{PictureFormat}
use Rattle.header_types.specs.declared.sps.SpsFields.{SpsFields}
use Rattle.header_types.specs.SequenceParameterSets.{IsSps, IsPcmFormat, ctb_log2, max_tb_log2}
use Rattle.header_types.specs.SequenceParameterSets.{max_pcm_log2, size_in_ctbs}
use Rattle.spec_picture_build.specs.PlanTypes.{SegmentPlan}
use Rattle.spec_picture_build.specs.PlanTypes.{PicturePlan}
use Rattle.spec_picture_build.specs.SpecReconstruction.{UnitFormat}
use Rattle.spec_picture_build.specs.SpecReconstruction.{IsFormat, AreSound}
use Rattle.spec_slice_data.specs.declared.syntax.PcmSyntax.{PcmSyntax}
use Rattle.block_geometry.specs.CodingTreeBlocks.{ctb_scan}
use Rattle.spec_slice_data.specs.Segment.{Between, unit_step}
use Rattle.spec_picture_build.specs.SpecSliceHeaders.{slice_qp}
use Rattle.spec_picture_build.specs.SpecPictureTrees.{picture_shape, qp_bd_offset, pcm_syntax, inter_syntax}
use Rattle.spec_picture_build.specs.SpecPictureTrees.{slice_syntax}
use Rattle.spec_picture_build.specs.SpecPictureTrees.{segment_syntax, first_qp, end_of, segment_shape}
use Rattle.spec_picture_build.specs.SpecPictureTrees.{before_picture, TreeUnit, Progress, Halt, SegmentAt, segment_at}
use Rattle.spec_picture_build.specs.SpecPictureTrees.{with_unit}
use Rattle.spec_picture_build.specs.SpecPictureTrees.{then_units, units_read, and_segments, segment_read}
use Rattle.spec_picture_build.specs.SpecPictureTrees.{segments_read}
use Rattle.spec_picture_build.specs.SpecPictureTrees.{picture_read, unit_given}
use Rattle.spec_picture_build.specs.Format.{unit_format}
use Rattle.unit_laws.proofs.Items.{IsKept}
use Rattle.unit_laws.proofs.Predictions.{FitsInter}
use Rattle.unit_laws.proofs.Quadtree.{Fits}
use Rattle.unit_laws.proofs.Units.{OkHolds, AreKept, unit_kept, step_kept}

-- a number up to a greatest one, if it isn't negative
abbrev IsLow : ℕ → ℤ → Type 0
IsLow most (pos n) = n ≤ most
IsLow most (negsuc n) = ⊤

low_if : (most n : ℕ) (b : Bool) → (b ≡ false → n ≤ most) → IsLow most (cond b (pos most) (pos n))
low_if most n true below = omega arith
low_if most n false below = below refl

lowered : (most : ℕ) (z : ℤ) → IsLow most (int_min z (pos most))
lowered most (pos n) = low_if most n (int_lt (pos most) (pos n)) (λ e. ltb-false most n e)
lowered most (negsuc n) = tt

size-small : (most : ℕ) (b : Bool) (x y : ℤ) → unsigned_abs x ≤ most → unsigned_abs y ≤ most
    → unsigned_abs (cond b x y) ≤ most
size-small most true x y first second = first
size-small most false x y first second = second

raised : (most : ℕ) (z : ℤ) → IsLow most z → unsigned_abs (int_max (pos 0) z) ≤ most
raised most (pos n) low = size-small most (int_lt (pos n) (pos 0)) (pos 0) (pos n) (omega arith) low
raised most (negsuc n) low = omega arith

first_qp-small : (offset : ℕ) (qp : ℤ) → first_qp offset qp ≤ 51 + offset
first_qp-small offset qp = raised (51 + offset) (int_min _ (pos (51 + offset))) (lowered (51 + offset) _)

-- the blocks of pulse code modulation that a sequence parameter set has
record IsPcm (f : PictureFormat) (pcm : PcmSyntax) : Type 0 where
  luma_bits : pcm.luma_bits ≤ 8 + f.bit_depth_luma_minus8
  chroma_bits : pcm.chroma_bits ≤ 8 + f.bit_depth_chroma_minus8
  least : pcm.enabled ≡ true → 1 ≤ pcm.log2_least
  greatest : pcm.log2_greatest ≤ 3

below_both : (n a b : ℕ) → n ≤ min a b → n ≤ b
below_both n a b small = omega (arith, small)

pcm-fits : (f : PictureFormat) (b : BlockSizes) (pcm : Option PcmFormat) → IfSome pcm (IsPcmFormat f b)
    → IsPcm f (pcm_syntax pcm)
pcm-fits f b None is =
    record { luma_bits = omega arith; chroma_bits = omega arith; least = λ e. absurd cc; greatest = omega arith }
pcm-fits f b (Some pcm) is =
    let most = below_both (max_pcm_log2 pcm) (ctb_log2 b) 5 is.greatest in
    record {
      luma_bits = omega (arith, is.luma_depth);
      chroma_bits = omega (arith, is.chroma_depth);
      least = λ e. omega arith;
      greatest = omega (arith, most);
    }

-- at most five candidates and 16 references
inter-fits : (sps : SpsFields) (kind : SliceType) (fields : Option InterFields)
    → FitsInter (inter_syntax sps kind fields)
unfolding inter_syntax
inter-fits sps kind None = record { merge = omega arith; active_0 = omega arith; active_1 = omega arith }
inter-fits sps kind (Some fields) = record { merge = omega arith; active_0 = omega arith; active_1 = omega arith }

module _ (p : PicturePlan) (sps : IsSps p.sps) (t : SegmentPlan) where
  abbrev Format : UnitFormat
  Format = unit_format p.sps p.pps t.header.slice

  abbrev greatest : ℕ
  greatest = 51 + qp_bd_offset p.sps

  abbrev IsUnitKept : TreeUnit → Type 0
  IsUnitKept unit = IsKept Format greatest unit.read

  pub format-fits : IsFormat (unit_format p.sps p.pps t.header.slice)
  unfolding unit_format
  format-fits =
      let pcm = pcm-fits p.sps.format p.sps.blocks p.sps.tools.pcm sps.tools.pcm in
      record {
        luma = (omega arith, omega (arith, sps.format.luma_depth));
        chroma = (omega arith, omega (arith, sps.format.chroma_depth));
        pcm_luma = omega (arith, pcm.luma_bits);
        pcm_chroma = omega (arith, pcm.chroma_bits);
      }

  syntax-fits : (s : SegmentPlan) → Fits Format (segment_syntax p s)
  unfolding unit_format slice_syntax
  syntax-fits s =
      let pcm = pcm-fits p.sps.format p.sps.blocks p.sps.tools.pcm sps.tools.pcm in
      let most = below_both (max_tb_log2 p.sps.blocks) (ctb_log2 p.sps.blocks) 5 sps.blocks.max_tb in
      record {
        transform = omega (arith, most);
        luma_pulses = refl;
        chroma_pulses = refl;
        least = pcm.least;
        greatest = pcm.greatest;
        coding = omega arith;
        inter = inter-fits p.sps s.header.slice.slice_type s.header.slice.inter;
      }

  -- what stands between two units, and the units that were handed over
  record IsProgress (progress : Progress) : Type 0 where
    between : AreKept Format greatest progress.between
    given : All IsUnitKept progress.given

  -- the units that were handed over, in the end or before the first broken rule
  abbrev AreGiven : Result Progress Halt → Type 0
  AreGiven (Ok progress) = IsProgress progress
  AreGiven (Err halt) = All IsUnitKept halt.given

  given_kept : (at : SegmentAt) (ctu : ℕ) (given : List TreeUnit) (between : Between) → All IsUnitKept given
      → AreKept Format greatest between → IsProgress (with_unit at ctu given between)
  given_kept at ctu given between before kept = record {
    between = kept;
    given = All-append IsUnitKept given (unit_given at ctu between ∷ []) before
        (All-cons IsUnitKept (unit_given at ctu between) [] (unit_kept Format greatest at.picture between ctu kept)
        (All-nil IsUnitKept));
  }

  then_given : (at : SegmentAt) (ctu : ℕ) (given : List TreeUnit) (r : Result Between Breach)
      (next : Progress → Result Progress Halt)
      → All IsUnitKept given → OkHolds (AreKept Format greatest) r
      → ((progress : Progress) → IsProgress progress → AreGiven (next progress))
      → AreGiven (then_units at ctu given r next)
  then_given at ctu given (Err e) next before kept later = before
  then_given at ctu given (Ok between) next before kept later =
      later (with_unit at ctu given between) (given_kept at ctu given between before kept)

  units_given : (at : SegmentAt)
      → ((address : ℕ) (between : Between) → AreKept Format greatest between
      → OkHolds (AreKept Format greatest) (unit_step at.syntax at.picture at.shape address between))
      → (n place : ℕ) (progress : Progress) → IsProgress progress → AreGiven (units_read at n place progress)
  unfolding units_read
  units_given at step zero place progress kept = kept
  units_given at step (suc n) place progress kept =
      then_given at (ctb_scan place) progress.given _ (units_read at n (place + 1)) kept.given
      (step (ctb_scan place) progress.between kept.between)
      (λ next next_kept. units_given at step n (place + 1) next next_kept)

  step_given : (number first : ℕ) (s : SegmentPlan) (later : List SegmentPlan) (address : ℕ) (between : Between)
      → AreKept Format greatest between
      → OkHolds (AreKept Format greatest)
      (unit_step (segment_at p number first s later).syntax (segment_at p number first s later).picture
      (segment_at p number first s later).shape address between)
  unfolding slice_syntax picture_shape segment_shape
  step_given number first s later address between kept =
      let shape = segment_shape p s first (end_of (size_in_ctbs p.sps) first later) in
      step_kept Format (segment_syntax p s) (syntax-fits s) (picture_shape p.sps p.pps)
      (omega (arith, sps.blocks.greatest_ctb)) (omega arith) shape
      (first_qp-small (qp_bd_offset p.sps) (slice_qp p.pps s.header.slice.slice_qp_delta)) address between kept

  and_given : (r : Result Progress Halt) (next : Progress → Result Progress Halt) → AreGiven r
      → ((progress : Progress) → IsProgress progress → AreGiven (next progress)) → AreGiven (and_segments r next)
  and_given (Err halt) next before later = before
  and_given (Ok progress) next before later = later progress before

  segments_given : (number first : ℕ) (segments : List SegmentPlan) (progress : Progress) → IsProgress progress
      → AreGiven (segments_read p number first segments progress)
  unfolding segments_read
  segments_given number first [] progress kept = kept
  segments_given number first (s ∷ later) progress kept =
      let at = segment_at p number first s later in
      and_given (segment_read at progress) _
      (units_given at (step_given number first s later) at.shape.count at.shape.first progress kept)
      (λ next next_kept. segments_given (number + 1) (end_of (size_in_ctbs p.sps) first later) later next next_kept)

  picture_given : AreGiven (picture_read p [])
  unfolding picture_read before_picture
  picture_given =
      segments_given 0 0 p.segments (record { between = before_picture; given = [] })
      (record {
        between = record { units = All-nil (IsKept Format greatest); last = omega arith };
        given = All-nil IsUnitKept;
      })

  unit-sound : (unit : TreeUnit) → IsUnitKept unit → AreSound Format unit.read.items
  unfolding unit_format
  unit-sound unit kept = record {
    each = kept.each;
    pulses = kept.pulses;
    modes = kept.modes;
    parameters = λ i j. let below = kept.parameters i j in omega (arith, below);
  }

  ended : (r : Result Progress Halt) (progress : Progress) → AreGiven r → r ≡ Ok progress
      → All IsUnitKept progress.given
  ended (Ok q) progress kept e =
      let same : q ≡ progress = cc in subst (λ (x : Progress). All IsUnitKept x.given) same kept.given
  ended (Err halt) progress kept e = absurd cc

  halted : (r : Result Progress Halt) (halt : Halt) → AreGiven r → r ≡ Err halt → All IsUnitKept halt.given
  halted (Ok q) halt kept e = absurd cc
  halted (Err h) halt kept e = let same : h ≡ halt = cc in subst (λ (x : Halt). All IsUnitKept x.given) same kept

  pub read-sound : (progress : Progress) → picture_read p [] ≡ Ok progress
      → All (λ (unit : TreeUnit). AreSound (unit_format p.sps p.pps t.header.slice) unit.read.items) progress.given
  read-sound progress is k d inside =
      unit-sound (slice_index_or progress.given k d) (ended (picture_read p []) progress picture_given is k d inside)

  pub halted-sound : (halt : Halt) → picture_read p [] ≡ Err halt
      → All (λ (unit : TreeUnit). AreSound (unit_format p.sps p.pps t.header.slice) unit.read.items) halt.given
  halted-sound halt is k d inside =
      unit-sound (slice_index_or halt.given k d) (halted (picture_read p []) halt picture_given is k d inside)
