-- A flight as its rows see it is in range, and tells what its vectors reach.
use Rattle.std.proofs.Common.{◌≡◌, ℕ, ◌+◌, ◌-◌, ◌*◌, ◌/◌, ◌^◌, ◌<◌, ◌≤◌, List, [], ◌∷◌, All}
use Rattle.std.proofs.Common.{length, get_or, Option, Some, None, slice_get, refl, sym, ap, subst, ◌∙◌, arith}
use Rattle.std.proofs.Common.{inl, inr}
use Rattle.std.specs.List.{range_with_len}
use Rattle.std.specs.Option.{option_and_then}
use Rattle.std.proofs.lemmas.Bool.{cases_lt}
use Rattle.std.proofs.lemmas.List.Elements.{All-append, All-cons, All-contains_itself, All-from_get_or, All-map}
use Rattle.std.proofs.lemmas.List.Elements.{All-nil}
use Rattle.std.proofs.lemmas.List.FromFn.{get_or-map-range_with_len, get_or-range_with_len, length-range_with_len}
use Rattle.std.proofs.lemmas.Nat.{div-add-mod', le-div, pow_pos}
use Rattle.std.proofs.lemmas.Option.{get_or_from_slice_get, slice_get_cases, slice_get_within}
use Rattle.std.proofs.Math.Nat.{div-mul-le_self, mod-lt, mul-le-mul_right, pow-le-pow_right}
use Rattle.hv_base.specs.declared.line.Line.{Line}
use Rattle.header_types.specs.declared.reference_pictures.RefEntry.{RefEntry}
use Rattle.header_types.specs.declared.sps.PictureFormat.{PictureFormat}
use Rattle.header_types.specs.declared.sps.SpsFields.{SpsFields}
use Rattle.header_types.specs.SequenceParameterSets.{IsSps, blocks_across, ctb_log2, height_in_ctbs, size_in_ctbs}
use Rattle.header_types.specs.SequenceParameterSets.{width_in_ctbs}
use Rattle.plan_types.specs.declared.picture_plan.PicturePlan.{PicturePlan}
use Rattle.plan_types.specs.declared.segment_plan.SegmentPlan.{SegmentPlan}
use Rattle.ctu_records.specs.declared.item.Item.{Item}
use Rattle.ctu_records.specs.declared.item.Item.TheVariants.{Unit, Luma, Chroma, Prediction, Pcm, Sample, Transform}
use Rattle.ctu_records.specs.declared.item.Item.TheVariants.{Delta, Block, Level}
use Rattle.ctu_records.specs.declared.prediction.Rectangle.{Rectangle}
use Rattle.ctu_records.specs.Prediction.{part_block}
use Rattle.spec_motion.specs.declared.vectors.Motion.{Motion}
use Rattle.spec_motion.specs.declared.vectors.Vector.{Vector}
use Rattle.spec_motion.specs.declared.slice_motion.SliceMotion.{SliceMotion}
use Rattle.spec_motion.specs.Vectors.{Known, reference_in}
use Rattle.known_picture_laws.specs.SpecPictureTrees.{first_row}
use Rattle.known_picture_laws.specs.SpecPictureTrees.{picture_shape, slice_start}
use Rattle.known_picture_laws.specs.SpecKnownUnits.{KnownUnit, units_known}
use Rattle.known_picture_laws.specs.SpecPictureMotion.{collocated_entry, slice_motion}
use Rattle.known_picture_laws.specs.SpecPictureBuild.{DecodedPicture}
use Rattle.flight_plan.specs.Flight.{IsEarlier, IsFlight, IsInRange, IsNoneOrEarlier, IsTreeUnit, PictureRows}
use Rattle.flight_plan.specs.Flight.{ReadsEarlier}
use Rattle.flight_plan.specs.Flight.{picture_at}
use Rattle.flight_plan.specs.declared.row_range.Reference.{Reference}
use Rattle.flight_plan.specs.declared.row_range.RowRange.{RowRange}
use Rattle.board_core.specs.declared.predicted_blocks.LumaLines.{LumaLines}
use Rattle.board_core.specs.declared.predicted_blocks.PredictedBlock.{PredictedBlock}
use Rattle.board_core.specs.Places.{IsLine, width_of}
use Rattle.board_core.specs.Needs.{unit_in_picture}
use Rattle.board_core.specs.Reach.{IsLumaLines, TellsMotion, blocks_of, range_of, reach_of, told_reach}
use Rattle.board_core.proofs.Counting.{pieces_all}
use Rattle.board_core.proofs.Order.{within_rows}
use Rattle.known_picture_laws.specs.LocalityLaws.{IsHalved}
use Rattle.known_picture_laws.proofs.LocalityLaws.{halved}
use Rattle.known_picture_laws.specs.SpecFlights.{PlannedFlight, pictures_before}
use Rattle.known_picture_laws.specs.SpecFlights.{block_by, block_from, blocks_at, blocks_by, blocks_in, collocated_at}
use Rattle.known_picture_laws.specs.SpecFlights.{collocated_by, item_blocks, known_blocks, known_motion, named}
use Rattle.known_picture_laws.specs.SpecFlights.{names_before}
use Rattle.known_picture_laws.specs.SpecFlights.{segment_blocks, segment_of}
use Rattle.known_picture_laws.specs.SpecFlights.{bad_units, flight_motion, flight_rows, lines_in, luma_lines}
use Rattle.known_picture_laws.specs.SpecFlights.{picture_rows, rows_in}
use Rattle.known_picture_laws.specs.SpecFlights.{rows_of}
use Rattle.flight_unit_laws.specs.Planned.{IsPlanned}
use Rattle.flight_unit_laws.specs.Stops.{IsBadUnit}
use Rattle.flight_unit_laws.proofs.Bad.{bad_is}
use Rattle.flight_unit_laws.proofs.Names.{all_earlier}
use Rattle.flight_unit_laws.proofs.Pictures.{as_many, has_plan, height_is, rows_are, rows_at, width_is}

-- sides in coding tree blocks
some_blocks : (block side : ℕ) → 0 < block → 1 ≤ side → 1 ≤ blocks_across block side
unfolding blocks_across
some_blocks block side some wide = le-div 1 (side + (block - 1)) block some (omega arith)

few_blocks : (block side : ℕ) → 16 ≤ block → side ≤ 8192 → blocks_across block side ≤ 512
unfolding blocks_across
few_blocks block side wide small =
    elim (cases_lt 512 ((side + (block - 1)) / block)) [
      | inl many ↦
          let low = div-mul-le_self (side + (block - 1)) block in
          let most : 513 * block ≤ (side + (block - 1)) / block * block =
          mul-le-mul_right {m = 513} block (omega (arith, many)) in
          absurd (omega (arith, low, most, wide, small))
      | inr few ↦ few
    ]

sixteen : (sps : SpsFields) → IsSps sps → 16 ≤ 2 ^ ctb_log2 sps.blocks
sixteen sps s = pow-le-pow_right {n = 2} (omega arith) s.blocks.least_ctb

covered : (block side : ℕ) → 1 ≤ block → side ≤ blocks_across block side * block
unfolding blocks_across
covered block side some =
    let parts = div-add-mod' (side + (block - 1)) block in
    let less = mod-lt (side + (block - 1)) some in
    omega (arith, parts, less, some)

-- references of the buffer before a picture are earlier
module _ (k : ℕ) (names : List Reference) (all : All (IsEarlier k) names) where
  name_earlier : (place : ℕ) (r : Reference) → slice_get names place ≡ Some r → IsEarlier k r
  name_earlier place r e =
      subst (IsEarlier k) (get_or_from_slice_get names place r r e) (all place r (slice_get_within names place r e))

  none_or : (o : Option Reference) → ((r : Reference) → o ≡ Some r → IsEarlier k r) → IsNoneOrEarlier k o
  none_or None each = tt
  none_or (Some r) each = each r refl

  by_entry : (o : Option RefEntry) → IsNoneOrEarlier k (option_and_then (named names) o)
  by_entry None = tt
  by_entry (Some entry) = none_or (slice_get names entry.place) (name_earlier entry.place)

  by_segment : (p : PicturePlan) (o : Option SegmentPlan)
      → IsNoneOrEarlier k (option_and_then (collocated_by names p) o)
  by_segment p None = tt
  by_segment p (Some s) = by_entry (collocated_entry s.header.slice (slice_start p s).lists)

  abbrev FromEarlier : PredictedBlock → Type 0
  FromEarlier b = IsEarlier k b.reference

  from_name : (row : ℕ) (block : Rectangle) (v : Vector) (o : Option Reference)
      → ((r : Reference) → o ≡ Some r → IsEarlier k r) → All FromEarlier (block_from row block v o)
  from_name row block v None each = All-nil FromEarlier
  from_name row block v (Some r) each = All-cons FromEarlier _ [] (each r refl) (All-nil FromEarlier)

  by_vector : (slice : SliceMotion) (row : ℕ) (block : Rectangle) (list : ℕ) (o : Option Vector)
      → All FromEarlier (block_by names slice row block list o)
  by_vector slice row block list None = All-nil FromEarlier
  by_vector slice row block list (Some v) =
      from_name row block v (slice_get names (reference_in slice list v.ref_idx).picture)
      (name_earlier (reference_in slice list v.ref_idx).picture)

  by_motion : (slice : SliceMotion) (row : ℕ) (block : Rectangle) (o : Option Motion)
      → All FromEarlier (blocks_by names slice row block o)
  by_motion slice row block None = All-nil FromEarlier
  by_motion slice row block (Some m) =
      All-append FromEarlier (block_by names slice row block 0 m.list_0) (block_by names slice row block 1 m.list_1)
      (by_vector slice row block 0 m.list_0) (by_vector slice row block 1 m.list_1)

  by_item : (slice : SliceMotion) (row : ℕ) (motion : Known) (item : Item)
      → All FromEarlier (item_blocks names slice row motion item)
  by_item slice row motion (Prediction unit) =
      by_motion slice row (part_block unit.unit unit.part_mode unit.part)
      (motion ((part_block unit.unit unit.part_mode unit.part).x + 1)
      ((part_block unit.unit unit.part_mode unit.part).y + 1))
  by_item slice row motion (Unit unit) = All-nil FromEarlier
  by_item slice row motion (Luma luma) = All-nil FromEarlier
  by_item slice row motion (Chroma mode) = All-nil FromEarlier
  by_item slice row motion (Pcm square) = All-nil FromEarlier
  by_item slice row motion (Sample value) = All-nil FromEarlier
  by_item slice row motion (Transform unit) = All-nil FromEarlier
  by_item slice row motion (Delta delta) = All-nil FromEarlier
  by_item slice row motion (Block block) = All-nil FromEarlier
  by_item slice row motion (Level place value) = All-nil FromEarlier

  of_segment : (buffer : List DecodedPicture) (p : PicturePlan) (address : ℕ) (known : KnownUnit)
      (o : Option SegmentPlan) → All FromEarlier (segment_blocks names buffer p address known o)
  of_segment buffer p address known None = All-nil FromEarlier
  of_segment buffer p address known (Some s) =
      pieces_all FromEarlier
      (item_blocks names (slice_motion p s address) (first_row (picture_shape p.sps p.pps) address)
      (known_motion buffer p s address known)) known.read.items
      (λ i d inside.
      by_item (slice_motion p s address) (first_row (picture_shape p.sps p.pps) address)
      (known_motion buffer p s address known) (get_or known.read.items i d))

  of_known : (buffer : List DecodedPicture) (p : PicturePlan) (address : ℕ) (o : Option KnownUnit)
      → All FromEarlier (known_blocks names buffer p address o)
  of_known buffer p address None = All-nil FromEarlier
  of_known buffer p address (Some known) =
      of_segment buffer p address known (slice_get p.segments known.segment)

  of_picture : (buffer : List DecodedPicture) (address : ℕ) (o : Option PicturePlan)
      → All FromEarlier (blocks_in names buffer address o)
  of_picture buffer address None = All-nil FromEarlier
  of_picture buffer address (Some p) = of_known buffer p address (units_known p address)

module _ (f : PlannedFlight) (planned : IsPlanned f) where
  in_range : (k : ℕ) (p : PicturePlan) → slice_get f.pictures k ≡ Some p → IsInRange (rows_in f k p)
  unfolding rows_in
  in_range k p has =
      let s = planned.sps k p has in
      let block : ℕ = 2 ^ ctb_log2 p.sps.blocks in
      let wide = sixteen p.sps s in
      let some = pow_pos (ctb_log2 p.sps.blocks) in
      record {
        some_width = some_blocks (2 ^ ctb_log2 p.sps.blocks) _ some s.format.some_width;
        width = few_blocks (2 ^ ctb_log2 p.sps.blocks) _ wide s.format.width;
        some_rows = some_blocks (2 ^ ctb_log2 p.sps.blocks) _ some s.format.some_height;
        rows = few_blocks (2 ^ ctb_log2 p.sps.blocks) _ wide s.format.height;
      }

  sizes : All IsInRange (picture_rows f)
  unfolding picture_rows
  sizes =
      let n : ℕ = length f.pictures in
      let g : ℕ → PictureRows = λ k. rows_of f k (slice_get f.pictures k) in
      All-map IsInRange g (range_with_len 0 (length f.pictures))
      (All-from_get_or (λ k. IsInRange (g k)) (range_with_len 0 (length f.pictures)) 0 (λ i less.
      let few : i < length f.pictures = omega (arith, less, length-range_with_len 0 (length f.pictures)) in
      let e : get_or (range_with_len 0 (length f.pictures)) i 0 ≡ 0 + i =
      get_or-range_with_len 0 (length f.pictures) i 0 few in
      one (get_or (range_with_len 0 (length f.pictures)) i 0) (omega (arith, e, few))))
    where
      one : (k : ℕ) → k < length f.pictures → IsInRange (rows_of f k (slice_get f.pictures k))
      one k few =
          elim ((slice_get_cases f.pictures k).1) [
            | inl there ↦ subst (λ o. IsInRange (rows_of f k o)) (sym there.2) (in_range k there.0 there.2)
            | inr past ↦ absurd (omega (arith, few, past.0))
          ]

  reads_earlier : (k : ℕ) (p : PicturePlan) → ReadsEarlier k (rows_in f k p)
  unfolding rows_in collocated_at blocks_at
  reads_earlier k p =
      let all = all_earlier f k in
      let size : ℕ = size_in_ctbs p.sps in
      record {
        collocated =
            All-map (IsNoneOrEarlier k) (collocated_at (names_before f k) p) (range_with_len 0 (size_in_ctbs p.sps))
            (λ i d inside. by_segment k (names_before f k) all p (segment_of p _));
        reach =
            All-map (λ ranges. All (λ (r : RowRange). IsEarlier k r.picture) ranges)
            (λ address. reach_of (luma_lines p) (blocks_at f k address)) (range_with_len 0 (size_in_ctbs p.sps))
            (λ i d inside.
            All-map (λ (r : RowRange). IsEarlier k r.picture) (range_of (luma_lines p)) (blocks_at f k _)
            (of_picture k (names_before f k) all (pictures_before f k) _ (slice_get f.pictures k)));
      }

  tree_unit : (u : ℕ) → IsBadUnit f u → IsTreeUnit (picture_rows f) u
  tree_unit u bad =
      let w = width_is f bad.picture bad.plan bad.has in
      let h = height_is f bad.picture bad.plan bad.has in
      let r : PictureRows = picture_at (flight_rows f) bad.picture in
      let tree : (picture_at (flight_rows f) bad.picture).rows * (picture_at (flight_rows f) bad.picture).width
      ≡ height_in_ctbs bad.plan.sps * width_in_ctbs bad.plan.sps =
      ap (λ n. n * (picture_at (flight_rows f) bad.picture).width) h ∙ ap (λ n. height_in_ctbs bad.plan.sps * n) w in
      let turned : height_in_ctbs bad.plan.sps * width_in_ctbs bad.plan.sps
      ≡ width_in_ctbs bad.plan.sps * height_in_ctbs bad.plan.sps =
      grind arith in (
        bad.picture,
        record {
          picture = omega (arith, slice_get_within f.pictures bad.picture bad.plan bad.has, as_many f);
          from = omega (arith, bad.number);
          below = omega (arith, bad.number, bad.inside, tree, turned);
        },
      )

  pub is_flight : IsFlight (flight_rows f)
  is_flight = record {
    few = omega (arith, planned.few, as_many f);
    sizes = sizes;
    earlier = λ k less.
        let there : k < length f.pictures = omega (arith, less, as_many f) in
        earlier_at k (slice_get f.pictures k) refl;
    bad = λ i d less. tree_unit _ (bad_is f _ (All-contains_itself (bad_units f) i d less));
  }
    where
      earlier_at : (k : ℕ) (o : Option PicturePlan) → slice_get f.pictures k ≡ o
          → ReadsEarlier k (picture_at (flight_rows f) k)
      earlier_at k (Some p) e = subst (ReadsEarlier k) (sym (rows_are f k p e)) (reads_earlier k p)
      earlier_at k None e =
          subst (ReadsEarlier k) (sym (rows_at f k ∙ ap (rows_of f k) e))
          (record { collocated = All-nil (IsNoneOrEarlier k); reach = All-nil _ })

  -- and tells what the vectors of its units reach
  some_lines : (p : PicturePlan) → IsSps p.sps → IsLumaLines (luma_lines p)
  some_lines p s =
      let h : IsHalved p.sps.format = halved p.sps s in
      record {
        some = omega (arith, h.high);
        height = s.format.height;
        even = omega (arith, h.even);
        some_log2 = omega (arith, s.blocks.least_ctb);
        log2 = s.blocks.greatest_ctb;
      }

  first_lines : (pictures : List PicturePlan) → 1 ≤ length pictures
      → ((k : ℕ) (p : PicturePlan) → slice_get pictures k ≡ Some p → IsSps p.sps) → IsLumaLines (lines_in pictures)
  first_lines [] some each = absurd (omega (arith, some))
  first_lines (p ∷ later) some each = some_lines p (each 0 p refl)

  pub same_lines : (k : ℕ) (p : PicturePlan) → slice_get f.pictures k ≡ Some p → luma_lines p ≡ lines_in f.pictures
  same_lines k p has = by_first f.pictures refl
    where
      by_first : (pictures : List PicturePlan) → f.pictures ≡ pictures → luma_lines p ≡ lines_in pictures
      by_first [] e =
          let less = slice_get_within f.pictures k p has in
          let none : length f.pictures ≡ 0 = ap (λ (l : List PicturePlan). length l) e in
          absurd (omega (arith, less, none))
      by_first (q ∷ later) e =
          let first : slice_get f.pictures 0 ≡ Some q = ap (λ (l : List PicturePlan). slice_get l 0) e in
          let heights : p.sps.format.pic_height_in_luma_samples ≡ q.sps.format.pic_height_in_luma_samples =
          ap (λ (g : PictureFormat). g.pic_height_in_luma_samples) (planned.formats k 0 p q has first) in
          let sizes : ctb_log2 p.sps.blocks ≡ ctb_log2 q.sps.blocks =
          ap ctb_log2 (planned.blocks k 0 p q has first) in
          let with_height : ℕ → LumaLines = λ h. record { height = h; ctb_log2 = ctb_log2 p.sps.blocks } in
          let with_size : ℕ → LumaLines =
          λ b. record { height = q.sps.format.pic_height_in_luma_samples; ctb_log2 = b } in
          ap with_height heights ∙ ap with_size sizes

  pub lines_high : (k : ℕ) (p : PicturePlan) → slice_get f.pictures k ≡ Some p
      → (lines_in f.pictures).height ≤ (picture_at (flight_rows f) k).rows * 2 ^ (lines_in f.pictures).ctb_log2
  lines_high k p has =
      let e = same_lines k p has in
      let h = height_is f k p has in
      let own : (luma_lines p).height ≤ height_in_ctbs p.sps * 2 ^ (luma_lines p).ctb_log2 =
      covered (2 ^ ctb_log2 p.sps.blocks) p.sps.format.pic_height_in_luma_samples
      (let some = pow_pos (ctb_log2 p.sps.blocks) in omega (arith, some)) in
      let here : (luma_lines p).height ≤ (picture_at (flight_rows f) k).rows * 2 ^ (luma_lines p).ctb_log2 =
      subst (λ n. (luma_lines p).height ≤ n * 2 ^ (luma_lines p).ctb_log2) (sym h) own in
      subst (λ (l : LumaLines). l.height ≤ (picture_at (flight_rows f) k).rows * 2 ^ l.ctb_log2) e here

  pub reach_told : (l : Line) (x : ℕ) → IsLine (flight_rows f) l → x < width_of (flight_rows f) l
      → told_reach (flight_rows f) l x
      ≡ reach_of (lines_in f.pictures) (blocks_of (flight_rows f) (flight_motion f) l x)
  unfolding rows_in
  reach_told l x line inside =
      let found = has_plan f l line in
      let k : ℕ = l.picture in
      let p : PicturePlan = found.0 in
      let w = width_is f l.picture found.0 found.1 in
      let h = height_is f l.picture found.0 found.1 in
      let address : ℕ = unit_in_picture (flight_rows f) l x in
      let row : l.row < (picture_at (flight_rows f) l.picture).rows = line in
      let low = within_rows (picture_at (flight_rows f) l.picture).width (picture_at (flight_rows f) l.picture).rows
      l.row x row inside in
      let tree : (picture_at (flight_rows f) l.picture).rows * (picture_at (flight_rows f) l.picture).width
      ≡ height_in_ctbs found.0.sps * width_in_ctbs found.0.sps =
      ap (λ n. n * (picture_at (flight_rows f) l.picture).width) h ∙ ap (λ n. height_in_ctbs found.0.sps * n) w in
      let turned : height_in_ctbs found.0.sps * width_in_ctbs found.0.sps
      ≡ width_in_ctbs found.0.sps * height_in_ctbs found.0.sps =
      grind arith in
      let g : ℕ → List RowRange = λ a. reach_of (luma_lines found.0) (blocks_at f l.picture a) in
      ap (λ (r : PictureRows). get_or r.reach (unit_in_picture (flight_rows f) l x) [])
      (rows_are f l.picture found.0 found.1)
      ∙ get_or-map-range_with_len g 0 (size_in_ctbs found.0.sps) (unit_in_picture (flight_rows f) l x)
      (unit_in_picture (flight_rows f) l x) [] (omega (arith, low, tree, turned)) (omega arith)
      ∙ ap (λ (lines : LumaLines). reach_of lines (blocks_at f l.picture (unit_in_picture (flight_rows f) l x)))
      (same_lines l.picture found.0 found.1)

  pub tells_motion : TellsMotion (flight_rows f) (flight_motion f)
  tells_motion = record {
    lines = first_lines f.pictures planned.some planned.sps;
    rows = λ k less.
        high_at k (omega (arith, less, as_many f));
    reach = reach_told;
  }
    where
      high_at : (k : ℕ) → k < length f.pictures
          → (lines_in f.pictures).height ≤ (picture_at (flight_rows f) k).rows * 2 ^ (lines_in f.pictures).ctb_log2
      high_at k less =
          elim ((slice_get_cases f.pictures k).1) [
            | inl there ↦ lines_high k there.0 there.2
            | inr past ↦ absurd (omega (arith, less, past.0))
          ]
