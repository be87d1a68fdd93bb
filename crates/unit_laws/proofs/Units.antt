-- Units that are read one after the other are kept.
use Rattle.std.proofs.Common.{◌≡◌, ℕ, ◌+◌, ◌-◌, ◌^◌, ◌≤◌, false, cond, List, [], ◌∷◌, length, Option, Some, None}
use Rattle.std.proofs.Common.{Result, Ok, Err, inl, inr, refl, sym, subst, arith}
use Rattle.std.specs.Prelude.{slice_index_or, nat_lt, ◌==◌, ◌&&◌, ◌||◌, not, ⊤}
use Rattle.std.specs.List.{All, range_with_len}
use Rattle.std.proofs.lemmas.Bool.{cases_lt}
use Rattle.std.proofs.lemmas.List.{get_or_past}
use Rattle.std.proofs.lemmas.List.Elements.{All-nil, All-cons, All-append, All-map}
use Rattle.hv_base.specs.declared.breach.Breach.{Breach}
use Rattle.ctu_records.specs.declared.side.Side.{Side}
use Rattle.ctu_records.specs.declared.offset.Sao.{Sao}
use Rattle.ctu_records.specs.declared.records.Quantization.{Quantization}
use Rattle.ctu_records.specs.Tree.{Ctu, luma_mode_at, qp_at, no_side, side}
use Rattle.spec_cabac.specs.Engine.{Engine, start_at}
use Rattle.spec_cabac.specs.Bins.{State, Tree, read}
use Rattle.spec_bits.specs.Bits.{bits}
use Rattle.spec_picture_build.specs.SpecReconstruction.{UnitFormat}
use Rattle.spec_picture_build.specs.SpecReconstruction.{IsSound, ArePulses}
use Rattle.spec_slice_data.specs.declared.syntax.CtuSyntax.{CtuSyntax}
use Rattle.spec_slice_data.specs.declared.syntax.End.{End}
use Rattle.spec_slice_data.specs.Offset.{no_sao}
use Rattle.spec_slice_data.specs.Segment.{PictureShape, SegmentShape, Between, nothing_read, no_group, unit_of}
use Rattle.spec_slice_data.specs.Segment.{begins_row, begins_substream, side_of, unit_begins, syntax_at}
use Rattle.spec_slice_data.specs.Segment.{contexts_before, qp_before, restarted, substream_of, before_unit}
use Rattle.spec_slice_data.specs.Segment.{judged_end}
use Rattle.spec_slice_data.specs.Segment.{behind_unit, is_last, unit_at, read_unit, then_unit, unit_step}
use Rattle.unit_laws.proofs.Formats.{Gives, cond_holds}
use Rattle.unit_laws.proofs.Items.{IsQuantized, IsKept, cond_below}
use Rattle.unit_laws.proofs.Quadtree.{Fits, unit_and_end_kept}

-- an element of a list, or what stands in its place
pub element_or : {X : Type 0} (P : X → Type 0) (xs : List X) (i : ℕ) (d : X) → All P xs → P d
    → P (slice_index_or xs i d)
element_or P xs i d each none = elim (cases_lt i (length xs)) [
  | inl inside ↦ each i d inside
  | inr past ↦ subst P (sym (get_or_past xs i d past)) none
]

all_always : {X : Type 0} (P : X → Type 0) (xs : List X) → ((x : X) → P x) → All P xs
all_always P xs holds k d inside = holds (slice_index_or xs k d)

-- what holds of a value, if there is one
abbrev pub OkHolds : {X : Type 0} → (X → Type 0) → Result X Breach → Type 0
OkHolds P (Ok x) = P x
OkHolds P (Err e) = ⊤

read_holds : {X : Type 0} {P : X → Type 0} {format : Tree X} → Gives P format
    → (s : State) (r : Result (X × State) Breach) → read format s ≡ r → OkHolds (λ x. P x.0) r
read_holds gives s (Ok x) is = gives.gives s x.1 x.0 is
read_holds gives s (Err e) is = tt

abbrev IsSide : Side → Type 0
IsSide s = s.luma_mode ≤ 34

side-small : (count : ℕ) (f : ℕ → Side) → ((k : ℕ) → IsSide (f k))
    → (k : ℕ) → IsSide (slice_index_or (side count f) k no_side)
unfolding side
side-small count f small k =
    element_or IsSide (side count f) k no_side
    (All-map IsSide (λ j. cond (nat_lt j count) (f j) no_side) (range_with_len 0 16)
    (all_always (λ j. IsSide (cond (nat_lt j count) (f j) no_side)) (range_with_len 0 16)
    (λ j. cond_holds IsSide (nat_lt j count) (f j) no_side (small j) (omega arith))))
    (omega arith)

module _ (format : UnitFormat) (greatest : ℕ) where
  -- a unit of which nothing is read
  fresh_kept : (size : ℕ) (left above : List Side) (sao : Sao) (q : Quantization) → IsQuantized greatest q
      → ((k : ℕ) → IsSide (slice_index_or left k no_side))
      → IsKept format greatest
      (record { size = size; left = left; above = above; sao = sao; quantization = q; items = [] })
  unfolding luma_mode_at qp_at ArePulses
  fresh_kept size left above sao q quantized small = record {
    each = All-nil (IsSound format);
    pulses = tt;
    modes = λ i j. omega arith;
    parameters = λ i j. omega arith;
    quantized = quantized;
    left = small;
  }

  nothing_kept : (size : ℕ) → IsKept format greatest (nothing_read size no_group)
  nothing_kept size =
      fresh_kept size [] [] no_sao no_group (record { last = omega arith; predicted = omega arith; qp = omega arith })
      (λ k. element_or IsSide [] k no_side (All-nil IsSide) (omega arith))

  -- between units
  pub record AreKept (between : Between) : Type 0 where
    pub units : All (IsKept format greatest) between.units
    pub last : between.last ≤ greatest

  pub unit_kept : (picture : PictureShape) (between : Between) (address : ℕ) → AreKept between
      → IsKept format greatest (unit_of picture between address)
  unit_kept picture between address kept =
      element_or (IsKept format greatest) between.units address (nothing_read picture.size no_group) kept.units
      (nothing_kept picture.size)

  begins_kept : (picture : PictureShape) (segment : SegmentShape) (address : ℕ) (between : Between) → AreKept between
      → IsKept format greatest (unit_begins picture segment address between)
  unfolding unit_begins
  begins_kept picture segment address between kept =
      let n = 2 ^ picture.size in
      let left = unit_of picture between (address - 1) in
      let left_kept = unit_kept picture between (address - 1) kept in
      fresh_kept picture.size _ _ no_sao
      (record { last = between.last; predicted = between.last; qp = between.last; coded = false })
      (record { last = kept.last; predicted = kept.last; qp = kept.last })
      (side-small _ (λ k. side_of left (n - 1) k) (λ k. left_kept.modes (n - 1) k))

  restarted_kept : (contexts : List ℕ) (last : ℕ) (between : Between) (start : Option Engine) → last ≤ greatest
      → AreKept between → OkHolds AreKept (restarted contexts last between start)
  restarted_kept contexts last between None small kept = tt
  restarted_kept contexts last between (Some engine) small kept = record { units = kept.units; last = small }

  qp_before-small : (picture : PictureShape) (segment : SegmentShape) (address : ℕ) (between : Between)
      → segment.qp ≤ greatest → AreKept between → qp_before picture segment address between ≤ greatest
  unfolding qp_before
  qp_before-small picture segment address between small kept =
      cond_below (begins_row picture address || (address == segment.first && not segment.dependent)) greatest segment.qp
      between.last small kept.last

  before_kept : (picture : PictureShape) (segment : SegmentShape) (address : ℕ) (between : Between)
      → segment.qp ≤ greatest → AreKept between → OkHolds AreKept (before_unit picture segment address between)
  unfolding before_unit
  before_kept picture segment address between small kept =
      cond_holds (OkHolds AreKept) (begins_substream picture segment address) _ (Ok between)
      (restarted_kept (contexts_before picture segment address between)
      (qp_before picture segment address between) between
      (start_at (bits (slice_index_or segment.substreams (substream_of picture segment address) [])))
      (qp_before-small picture segment address between small kept) kept)
      kept

  behind_kept : (picture : PictureShape) (address : ℕ) (between : Between) (r : Result ((Ctu × End) × State) Breach)
      → AreKept between
      → OkHolds (λ (x : (Ctu × End) × State). IsKept format greatest x.0.0) r
      → OkHolds AreKept (behind_unit picture address between r)
  behind_kept picture address between (Err e) kept read_kept = tt
  behind_kept picture address between (Ok r) kept read_kept =
      cond_holds (OkHolds AreKept) (judged_end r.0.1 r.1.0) _ _
      (record {
        units =
            All-append (IsKept format greatest) between.units (r.0.0 ∷ []) kept.units
            (All-cons (IsKept format greatest) r.0.0 [] read_kept (All-nil (IsKept format greatest)));
        last = read_kept.quantized.last;
      })
      tt

module _ (format : UnitFormat) (common : CtuSyntax) (fits : Fits format common) (picture : PictureShape)
    (small : picture.size ≤ 4) (least : common.log2_min_coding ≤ picture.size) (segment : SegmentShape)
    (first : segment.qp ≤ 51 + common.qp_offset) where
  abbrev Kept : Between → Type 0
  Kept = AreKept format (51 + common.qp_offset)

  fits_at : (address : ℕ) → Fits format (syntax_at common picture segment address)
  unfolding syntax_at
  fits_at address = record {
    transform = fits.transform;
    luma_pulses = fits.luma_pulses;
    chroma_pulses = fits.chroma_pulses;
    least = fits.least;
    greatest = fits.greatest;
    coding = fits.coding;
    inter = fits.inter;
  }

  elements_kept : (address : ℕ) (between : Between) → Kept between
      → Gives (λ (r : Ctu × End). IsKept format (51 + common.qp_offset) r.0)
      (unit_at common picture segment address between)
  unfolding syntax_at unit_begins
  elements_kept address between kept =
      unit_and_end_kept format (syntax_at common picture segment address) (fits_at address) _ _
      (is_last segment address) (begins_row picture (address + 1))
      (unit_begins picture segment address between) small least
      (begins_kept format (51 + common.qp_offset) picture segment address between kept)

  read_kept : (address : ℕ) (between : Between) → Kept between
      → OkHolds Kept (read_unit common picture segment address between)
  unfolding read_unit
  read_kept address between kept =
      behind_kept format (51 + common.qp_offset) picture address between
      (read (unit_at common picture segment address between) (between.engine, between.contexts)) kept
      (read_holds (elements_kept address between kept) (between.engine, between.contexts) _ refl)

  then_kept : (address : ℕ) (r : Result Between Breach) → OkHolds Kept r
      → OkHolds Kept (then_unit common picture segment address r)
  then_kept address (Err e) kept = tt
  then_kept address (Ok between) kept = read_kept address between kept

  -- a unit, from what stands between it and the one before
  pub step_kept : (address : ℕ) (between : Between) → AreKept format (51 + common.qp_offset) between
      → OkHolds (AreKept format (51 + common.qp_offset)) (unit_step common picture segment address between)
  step_kept address between kept =
      then_kept address (before_unit picture segment address between)
      (before_kept format (51 + common.qp_offset) picture segment address between first kept)
