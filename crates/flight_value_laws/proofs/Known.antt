-- What is known of the units of a picture fits its words.
use Rattle.std.proofs.Common.{◌≡◌, ℕ, zero, suc, ◌+◌, ◌-◌, ◌≤◌, Bool, true, false, cond}
use Rattle.std.proofs.Common.{List, [], ◌∷◌, ◌++◌, IfSome, Option, Some, None, Result, Ok, Err, is_some, length}
use Rattle.std.proofs.Common.{get_or, ℤ, pos, negsuc, min, refl, sym, ap, subst, ◌∙◌, arith, slice_get, eqb}
use Rattle.std.proofs.Common.{if◌then◌else◌, nat_lt}
use Rattle.std.specs.Prelude.{⊤, int_lt, unsigned_abs}
use Rattle.std.specs.List.{list_all, range_with_len}
use Rattle.std.specs.Int.{int_max, int_min}
use Rattle.std.proofs.lemmas.Bool.{ltb-false}
use Rattle.std.proofs.lemmas.List.{get_or_push}
use Rattle.std.proofs.lemmas.List.Elements.{All-map, All-nil}
use Rattle.hv_base.specs.declared.breach.Breach.{Breach}
use Rattle.header_types.specs.declared.sps.BlockSizes.{BlockSizes}
use Rattle.header_types.specs.declared.sps.PcmFormat.{PcmFormat}
use Rattle.header_types.specs.declared.sps.PictureFormat.{PictureFormat}
use Rattle.header_types.specs.declared.sps.SpsFields.{SpsFields}
use Rattle.header_types.specs.SequenceParameterSets.{IsPcmFormat, IsSps, ctb_log2, max_pcm_log2, max_tb_log2}
use Rattle.header_types.specs.SequenceParameterSets.{size_in_ctbs}
use Rattle.slice_types.specs.declared.slice.InterFields.{InterFields}
use Rattle.slice_types.specs.declared.slice.SliceType.{SliceType}
use Rattle.plan_types.specs.declared.picture_plan.PicturePlan.{PicturePlan}
use Rattle.plan_types.specs.declared.segment_plan.SegmentPlan.{SegmentPlan}
use Rattle.ctu_records.specs.Tree.{Ctu}
use Rattle.spec_bits.specs.Bits.{bits}
use Rattle.spec_cabac.specs.Bins.{State, Tree, read}
use Rattle.spec_cabac.specs.Engine.{Engine, start_at}
use Rattle.sample_laws.specs.SpecReconstruction.{UnitFormat}
use Rattle.spec_slice_data.specs.declared.syntax.CtuSyntax.{CtuSyntax}
use Rattle.spec_slice_data.specs.declared.syntax.End.{End}
use Rattle.spec_slice_data.specs.declared.syntax.PcmSyntax.{PcmSyntax}
use Rattle.spec_slice_data.specs.Segment.{Between, PictureShape, SegmentShape, before_unit, begins_row}
use Rattle.spec_slice_data.specs.Segment.{begins_substream}
use Rattle.spec_slice_data.specs.Segment.{behind_unit, contexts_before, is_last, judged_end, no_group, nothing_read}
use Rattle.spec_slice_data.specs.Segment.{qp_before, read_unit, restarted, substream_of, syntax_at, then_unit}
use Rattle.spec_slice_data.specs.Segment.{unit_at}
use Rattle.spec_slice_data.specs.Segment.{unit_begins, unit_of, unit_step}
use Rattle.spec_known_units.specs.SpecSliceHeaders.{slice_qp}
use Rattle.spec_known_units.specs.SpecPictureTrees.{SegmentAt, before_picture}
use Rattle.spec_known_units.specs.SpecPictureTrees.{first_qp, inter_syntax, pcm_syntax, picture_shape, qp_bd_offset}
use Rattle.spec_known_units.specs.SpecPictureTrees.{segment_shape, segment_syntax, slice_syntax}
use Rattle.spec_known_units.specs.Known.{Entries, KnownUnit, behind_step, between_from, ctu_of, entries_before}
use Rattle.spec_known_units.specs.Known.{known_of}
use Rattle.spec_known_units.specs.Known.{contexts_behind}
use Rattle.spec_known_units.specs.Known.{last_behind, picture_segments, read_in, read_uses, segment_having, unit_read}
use Rattle.spec_known_units.specs.Known.{units_known, units_to}
use Rattle.sample_laws.specs.SpecPictureBuild.{unit_format}
use Rattle.sample_words.specs.Offsets.{IsSao}
use Rattle.sample_laws.proofs.UnitLawsLemmas.{Gives, cond_holds}
use Rattle.sample_laws.proofs.UnitLawsLemmas.{IsKept}
use Rattle.sample_laws.proofs.UnitLawsLemmas.{FitsInter}
use Rattle.sample_laws.proofs.UnitLawsLemmas.{Fits}
use Rattle.sample_laws.proofs.UnitLawsLemmas.{AreKept, OkHolds, step_kept, unit_kept}
use Rattle.flight_value_laws.specs.Ranges.{AreContexts}
use Rattle.flight_value_laws.proofs.Contexts.{HasContexts, first_are, step_has}
use Rattle.flight_value_laws.proofs.Fitting.{FitsWords, IsFit, unit_and_end_fit}
use Rattle.flight_value_laws.proofs.Offsets.{no_sao_fits}
use Rattle.flight_value_laws.proofs.Over.{from_unit, long}
use Rattle.flight_value_laws.proofs.Segments.{IsAt, found_at}

-- ---- a unit over what stands before it

read_holds : {X : Type 0} {P : X → Type 0} {format : Tree X} → Gives P format
    → (s : State) (r : Result (X × State) Breach) → read format s ≡ r → OkHolds (λ x. P x.0) r
read_holds gives s (Ok x) is = gives.gives s x.1 x.0 is
read_holds gives s (Err e) is = tt

module _ (common : CtuSyntax) (picture : PictureShape) (segment : SegmentShape) (address : ℕ) (between : Between)
    (long_is : length between.units ≡ address)
    (saos : (a : ℕ) → IsSao (get_or between.units a (nothing_read picture.size no_group)).sao)
    (some : 1 ≤ common.log2_min_coding) (small : picture.size ≤ 4) (least : 1 ≤ picture.size) where
  abbrev nothing : Ctu
  nothing = nothing_read picture.size no_group

  abbrev HasFit : Between → Type 0
  HasFit b = IsFit common.inter (unit_of picture b address)

  abbrev HasUnits : Between → Type 0
  HasUnits b = b.units ≡ between.units

  sao_there : (b : Between) → HasUnits b → (a : ℕ) → IsSao (unit_of picture b a).sao
  sao_there b same a = subst (λ (units : List Ctu). IsSao (get_or units a nothing).sao) (sym same) (saos a)

  elements_fit : (b : Between) → HasUnits b
      → Gives (λ (r : Ctu × End). IsFit common.inter r.0) (unit_at common picture segment address b)
  unfolding syntax_at unit_begins
  elements_fit b same =
      unit_and_end_fit common.inter (syntax_at common picture segment address) refl some _ _ (is_last segment address)
      (begins_row picture (address + 1)) (unit_begins picture segment address b) (sao_there b same (address - 1))
      (sao_there b same (address - picture.width)) small least
      (record { each = All-nil (FitsWords common.inter); sao = no_sao_fits })

  last_fit : (b : Between) → HasUnits b → (ctu : Ctu) → IsFit common.inter ctu
      → IsFit common.inter (get_or (b.units ++ ctu ∷ []) address nothing)
  last_fit b same ctu fit =
      subst (IsFit common.inter)
      (sym (get_or_push b.units ctu nothing address (ap (λ (l : List Ctu). length l) same ∙ long_is))) fit

  behind_fit : (b : Between) → HasUnits b → (r : Result ((Ctu × End) × State) Breach)
      → OkHolds (λ (x : (Ctu × End) × State). IsFit common.inter x.0.0) r
      → OkHolds HasFit (behind_unit picture address b r)
  behind_fit b same (Err e) fit = tt
  behind_fit b same (Ok r) fit =
      cond_holds (OkHolds HasFit) (judged_end r.0.1 r.1.0) _ _ (last_fit b same r.0.0 fit) tt

  read_fit : (b : Between) → HasUnits b → OkHolds HasFit (read_unit common picture segment address b)
  unfolding read_unit
  read_fit b same =
      behind_fit b same (read (unit_at common picture segment address b) (b.engine, b.contexts))
      (read_holds (elements_fit b same) (b.engine, b.contexts) _ refl)

  then_fit : (r : Result Between Breach) → OkHolds HasUnits r
      → OkHolds HasFit (then_unit common picture segment address r)
  then_fit (Err e) has = tt
  then_fit (Ok b) has = read_fit b has

  restarted_has : (contexts : List ℕ) (last : ℕ) (start : Option Engine)
      → OkHolds HasUnits (restarted contexts last between start)
  restarted_has contexts last None = tt
  restarted_has contexts last (Some engine) = refl

  before_has : OkHolds HasUnits (before_unit picture segment address between)
  unfolding before_unit
  before_has =
      cond_holds (OkHolds HasUnits) (begins_substream picture segment address) _ (Ok between)
      (restarted_has (contexts_before picture segment address between) (qp_before picture segment address between)
      (start_at (bits (get_or segment.substreams (substream_of picture segment address) [])))) refl

  step_fit : OkHolds HasFit (unit_step common picture segment address between)
  step_fit = then_fit (before_unit picture segment address between) before_has

-- ---- the syntax of a picture's segments

abbrev IsLow : ℕ → ℤ → Type 0
IsLow most (pos n) = n ≤ most
IsLow most (negsuc n) = ⊤

low_if : (most n : ℕ) (b : Bool) → (b ≡ false → n ≤ most) → IsLow most (cond b (pos most) (pos n))
low_if most n true below = omega arith
low_if most n false below = below refl

lowered : (most : ℕ) (z : ℤ) → IsLow most (int_min z (pos most))
lowered most (pos n) = low_if most n (int_lt (pos most) (pos n)) (λ e. ltb-false most n e)
lowered most (negsuc n) = tt

size_small : (most : ℕ) (b : Bool) (x y : ℤ) → unsigned_abs x ≤ most → unsigned_abs y ≤ most
    → unsigned_abs (cond b x y) ≤ most
size_small most true x y first second = first
size_small most false x y first second = second

raised : (most : ℕ) (z : ℤ) → IsLow most z → unsigned_abs (int_max (pos 0) z) ≤ most
raised most (pos n) low = size_small most (int_lt (pos n) (pos 0)) (pos 0) (pos n) (omega arith) low
raised most (negsuc n) low = omega arith

first_qp_small : (offset : ℕ) (qp : ℤ) → first_qp offset qp ≤ 51 + offset
first_qp_small offset qp = raised (51 + offset) (int_min _ (pos (51 + offset))) (lowered (51 + offset) _)

record IsPcm (f : PictureFormat) (pcm : PcmSyntax) : Type 0 where
  least : pcm.enabled ≡ true → 1 ≤ pcm.log2_least
  greatest : pcm.log2_greatest ≤ 3

below_both : (n a b : ℕ) → n ≤ min a b → n ≤ b
below_both n a b small = omega (arith, small)

pcm_fits : (f : PictureFormat) (b : BlockSizes) (pcm : Option PcmFormat) → IfSome pcm (IsPcmFormat f b)
    → IsPcm f (pcm_syntax pcm)
pcm_fits f b None is = record { least = λ e. absurd cc; greatest = omega arith }
pcm_fits f b (Some pcm) is =
    let most = below_both (max_pcm_log2 pcm) (ctb_log2 b) 5 is.greatest in
    record { least = λ e. omega arith; greatest = omega (arith, most) }

inter_fits : (sps : SpsFields) (kind : SliceType) (fields : Option InterFields)
    → FitsInter (inter_syntax sps kind fields)
unfolding inter_syntax
inter_fits sps kind None = record { merge = omega arith; active_0 = omega arith; active_1 = omega arith }
inter_fits sps kind (Some fields) = record { merge = omega arith; active_0 = omega arith; active_1 = omega arith }

module _ (p : PicturePlan) (sps : IsSps p.sps) where
  abbrev greatest : ℕ
  greatest = 51 + qp_bd_offset p.sps

  abbrev format_of : SegmentPlan → UnitFormat
  format_of t = unit_format p.sps p.pps t.header.slice

  syntax_fits : (t s : SegmentPlan) → Fits (format_of t) (segment_syntax p s)
  unfolding unit_format slice_syntax
  syntax_fits t s =
      let pcm = pcm_fits p.sps.format p.sps.blocks p.sps.tools.pcm sps.tools.pcm in
      let most = below_both (max_tb_log2 p.sps.blocks) (ctb_log2 p.sps.blocks) 5 sps.blocks.max_tb in
      record {
        transform = omega (arith, most);
        luma_pulses = refl;
        chroma_pulses = refl;
        least = pcm.least;
        greatest = pcm.greatest;
        coding = omega arith;
        inter = inter_fits p.sps s.header.slice.slice_type s.header.slice.inter;
      }

  -- what is known of a unit fits
  pub record IsKnownFit (u : KnownUnit) : Type 0 where
    pub kept : (t : SegmentPlan) → IsKept (unit_format p.sps p.pps t.header.slice) (51 + qp_bd_offset p.sps) u.read
    pub last : u.last ≤ 51 + qp_bd_offset p.sps
    pub segment : SegmentPlan
    pub has : slice_get p.segments u.segment ≡ Some segment
    pub fit : IsFit (segment_syntax p segment).inter u.read
    pub contexts : AreContexts u.contexts

  abbrev IsEntry : Option KnownUnit → Type 0
  IsEntry o = IfSome o IsKnownFit

  abbrev AreEntries : Entries → Type 0
  AreEntries known = (a : ℕ) → IsEntry (known a)

  -- a picture has some segment, whose format is that of all of them as far as it is asked here
  module _ (t : SegmentPlan) where
    abbrev Kept : Between → Type 0
    Kept = AreKept (format_of t) greatest

    before_kept : AreKept (format_of t) greatest before_picture
    unfolding before_picture
    before_kept = record { units = All-nil (IsKept (format_of t) greatest); last = omega arith }

    nothing_kept : IsKept (format_of t) greatest (nothing_read (picture_shape p.sps p.pps).size no_group)
    unfolding before_picture
    nothing_kept = unit_kept (format_of t) greatest (picture_shape p.sps p.pps) before_picture 0 before_kept

    entry_kept : (o : Option KnownUnit) → IsEntry o
        → IsKept (format_of t) greatest (ctu_of (picture_shape p.sps p.pps) o)
    entry_kept None is = nothing_kept
    entry_kept (Some u) is = is.kept t

    last_small : (o : Option KnownUnit) → IsEntry o → last_behind o ≤ greatest
    unfolding before_picture
    last_small None is = omega arith
    last_small (Some u) is = is.last

    from_kept : (known : Entries) (address : ℕ) → AreEntries known
        → Kept (between_from known (picture_shape p.sps p.pps) address)
    unfolding between_from
    from_kept known address each = record {
      units =
          All-map (IsKept (format_of t) greatest) (λ place. ctu_of (picture_shape p.sps p.pps) (known place))
          (range_with_len 0 address) (λ k d inside. entry_kept (known _) (each _));
      last = last_small (known (address - 1)) (each (address - 1));
    }

  -- contexts behind a unit
  contexts_are : (o : Option KnownUnit) → IsEntry o → AreContexts (contexts_behind o)
  unfolding before_picture
  contexts_are None is = first_are (pos 0) 0
  contexts_are (Some u) is = is.contexts

  entry_sao : (o : Option KnownUnit) → IsEntry o → IsSao (ctu_of (picture_shape p.sps p.pps) o).sao
  entry_sao None is = no_sao_fits
  entry_sao (Some u) is = is.fit.sao

  earlier_entries : (known : Entries) (address : ℕ) → AreEntries known → AreEntries (entries_before known address)
  earlier_entries known address each a = some_if (nat_lt a address) (known a) (each a)
    where
      some_if : (b : Bool) (o : Option KnownUnit) → IsEntry o → IsEntry (if b then o else None)
      some_if true o is = is
      some_if false o is = tt

  -- a unit of a segment
  module _ (known : Entries) (each : AreEntries known) (address : ℕ) (at : SegmentAt) (is : IsAt p p.segments 0 at)
    where
      abbrev shape : PictureShape
      shape = picture_shape p.sps p.pps

      abbrev segment : SegmentShape
      segment = segment_shape p is.s is.first is.behind

      abbrev common : CtuSyntax
      common = segment_syntax p is.s

      abbrev earlier : Entries
      earlier = entries_before known address

      abbrev from : Between
      from = between_from earlier shape address

      abbrev at_here : SegmentAt
      at_here = record { number = at.number; nal = at.nal; syntax = common; picture = shape; shape = segment }

      step_is_kept : (t : SegmentPlan)
          → OkHolds (AreKept (format_of t) greatest) (unit_step common shape segment address from)
      unfolding slice_syntax picture_shape segment_shape
      step_is_kept t =
          step_kept (format_of t) common (syntax_fits t is.s) shape (omega (arith, sps.blocks.greatest_ctb))
          (omega arith) segment
          (first_qp_small (qp_bd_offset p.sps) (slice_qp p.pps is.s.header.slice.slice_qp_delta)) address from
          (from_kept t earlier address (earlier_entries known address each))

      saos : (a : ℕ) → IsSao (get_or from.units a (nothing_read shape.size no_group)).sao
      saos a =
          subst (λ (ctu : Ctu). IsSao ctu.sao) (sym (from_unit known at_here address a))
          (entry_sao (earlier a) (earlier_entries known address each a))

      step_is_fit : OkHolds (λ b. IsFit common.inter (unit_of shape b address))
          (unit_step common shape segment address from)
      unfolding slice_syntax picture_shape
      step_is_fit =
          step_fit common shape segment address from (long known at_here address) saos (omega arith)
          (omega (arith, sps.blocks.greatest_ctb)) (omega (arith, sps.blocks.least_ctb))

      from_has : HasContexts from
      unfolding between_from
      from_has = record {
        contexts = contexts_are (earlier (address - 1)) (earlier_entries known address each (address - 1));
        stored =
            contexts_are (earlier (address - shape.width + 1))
            (earlier_entries known address each (address - shape.width + 1));
      }

      step_contexts : OkHolds (λ (b : Between). AreContexts b.contexts) (unit_step common shape segment address from)
      unfolding segment_shape
      step_contexts = step_has common shape segment address (first_are _ _) from from_has

      -- what is read of it fits
      abbrev IsReadFit : Result KnownUnit Breach → Type 0
      IsReadFit (Ok u) = IsKnownFit u
      IsReadFit (Err e) = ⊤

      number_has : slice_get p.segments at.number ≡ Some is.s
      number_has =
          let same : at.number ≡ is.i = omega (arith, is.number_is) in ap (slice_get p.segments) same ∙ is.has

      by_step : (r : Result Between Breach) → ((t : SegmentPlan) → OkHolds (AreKept (format_of t) greatest) r)
          → OkHolds (λ b. IsFit common.inter (unit_of shape b address)) r
          → OkHolds (λ (b : Between). AreContexts b.contexts) r → IsReadFit (behind_step at_here address r)
      by_step (Err e) kept fit contexts = tt
      by_step (Ok b) kept fit contexts = record {
        kept = λ t. unit_kept (format_of t) greatest shape b address (kept t);
        last = (kept is.s).last;
        segment = is.s;
        has = number_has;
        fit = fit;
        contexts = contexts;
      }

      abbrev with_parts : CtuSyntax → PictureShape → SegmentShape → SegmentAt
      with_parts syntax picture shape =
          record { number = at.number; nal = at.nal; syntax = syntax; picture = picture; shape = shape }

      at_is : at ≡ at_here
      at_is =
          ap (λ s. with_parts s at.picture at.shape) is.syntax ∙ ap (λ q. with_parts common q at.shape) is.picture
          ∙ ap (λ h. with_parts common shape h) is.shape

      by_test : (t : Bool) (r : Result KnownUnit Breach) → IsReadFit r → IsEntry (known_of (if t then Some r else None))
      by_test false r fit = tt
      by_test true (Err e) fit = tt
      by_test true (Ok u) fit = fit

      read_here : IsEntry (known_of (read_in earlier address (Some at_here)))
      unfolding read_in
      read_here =
          by_test (list_all (λ used. is_some (earlier used)) (read_uses at_here address)) _
          (by_step (unit_step common shape segment address from) step_is_kept step_is_fit step_contexts)

      read_entry : IsEntry (known_of (read_in earlier address (Some at)))
      read_entry = subst (λ a. IsEntry (known_of (read_in earlier address (Some a)))) (sym at_is) read_here

  by_segment : (known : Entries) → AreEntries known → (address : ℕ) (o : Option SegmentAt)
      → ((at : SegmentAt) → o ≡ Some at → IsAt p p.segments 0 at)
      → IsEntry (known_of (read_in (entries_before known address) address o))
  unfolding read_in
  by_segment known each address None at = tt
  by_segment known each address (Some a) at = read_entry known each address a (at a refl)

  next_entry : (known : Entries) → AreEntries known → (address : ℕ) → IsEntry (known_of (unit_read p known address))
  unfolding unit_read
  next_entry known each address =
      by_segment known each address (segment_having (picture_segments p) address) (found_at p address)

  entry_if : (b : Bool) (x y : Option KnownUnit) → IsEntry x → IsEntry y → IsEntry (if b then x else y)
  entry_if true x y first second = first
  entry_if false x y first second = second

  to_entries : (n : ℕ) → AreEntries (units_to p n)
  unfolding units_to
  to_entries zero a = tt
  to_entries (suc n) a =
      entry_if (eqb a n) (known_of (unit_read p (units_to p n) a)) (units_to p n a)
      (next_entry (units_to p n) (to_entries n) a) (to_entries n a)

  -- the contexts behind each unit, known or not, and Qp'Y of its last coding unit
  pub contexts_fit : (a : ℕ) → AreContexts (contexts_behind (units_known p a))
  unfolding units_known
  contexts_fit a = contexts_are (units_to p (size_in_ctbs p.sps) a) (to_entries (size_in_ctbs p.sps) a)

  last_below : (o : Option KnownUnit) → IsEntry o → last_behind o ≤ greatest
  unfolding before_picture
  last_below None is = omega arith
  last_below (Some u) is = is.last

  pub last_fits : (a : ℕ) → last_behind (units_known p a) ≤ 51 + qp_bd_offset p.sps
  unfolding units_known
  last_fits a = last_below (units_to p (size_in_ctbs p.sps) a) (to_entries (size_in_ctbs p.sps) a)

  -- all that are known fit
  pub known_fit : (a : ℕ) → IfSome (units_known p a) IsKnownFit
  unfolding units_known
  known_fit a = to_entries (size_in_ctbs p.sps) a
