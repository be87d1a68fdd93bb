-- The rows that the prediction units of a coding tree unit need are among those that building it uses.
use Rattle.std.proofs.Common.{◌≡◌, ℕ, ◌+◌, ◌*◌, ◌/◌, ◌^◌, ◌<◌, ◌≤◌, ◌==◌, Bool, true, false}
use Rattle.std.proofs.Common.{List, All, get_or, Option, Some, None, slice_get, if◌then◌else◌}
use Rattle.std.proofs.Common.{inl, inr, refl, sym, ap, subst, ◌∙◌, arith}
use Rattle.std.specs.List.{Contains, flat_map}
use Rattle.std.proofs.lemmas.Nat.{pow_pos}
use Rattle.std.proofs.lemmas.Option.{get_or_from_slice_get, slice_get_within}
use Rattle.hv_base.specs.declared.line.Line.{Line}
use Rattle.hv_base.specs.declared.line.Phase.TheVariants.{B, S}
use Rattle.header_types.specs.declared.sps.PictureFormat.{PictureFormat}
use Rattle.header_types.specs.SequenceParameterSets.{ctb_log2, height_in_ctbs, width_in_ctbs}
use Rattle.plan_types.specs.declared.picture_plan.PicturePlan.{PicturePlan}
use Rattle.plan_types.specs.declared.segment_plan.SegmentPlan.{SegmentPlan}
use Rattle.plan_types.specs.Segments.{address_of}
use Rattle.ctu_records.specs.declared.item.Item.{Item}
use Rattle.ctu_records.specs.declared.item.Item.TheVariants.{Unit, Luma, Chroma, Prediction, Pcm, Sample, Transform}
use Rattle.ctu_records.specs.declared.item.Item.TheVariants.{Delta, Block, Level}
use Rattle.ctu_records.specs.declared.prediction.Rectangle.{Rectangle}
use Rattle.ctu_records.specs.Prediction.{part_block}
use Rattle.spec_motion.specs.declared.vectors.Motion.{Motion}
use Rattle.spec_motion.specs.declared.vectors.Vector.{Vector}
use Rattle.spec_motion.specs.Vectors.{Known, reference_in}
use Rattle.known_picture_laws.specs.SpecPictureTrees.{TreeUnit}
use Rattle.known_picture_laws.specs.SpecPictureTrees.{first_row}
use Rattle.known_picture_laws.specs.SpecPictureTrees.{picture_shape, slice_start}
use Rattle.known_picture_laws.specs.SpecKnownUnits.{KnownUnit, units_known}
use Rattle.known_picture_laws.specs.SpecPictureMotion.{collocated_motions, known_of_unit}
use Rattle.known_picture_laws.specs.SpecPictureMotion.{collocated_entry, slice_motion}
use Rattle.known_picture_laws.specs.SpecReconstruction.{InterUnit}
use Rattle.known_picture_laws.specs.SpecPictureBuild.{unit_inter}
use Rattle.known_picture_laws.specs.SpecPictureBuild.{DecodedPicture, format_height, motions_of}
use Rattle.known_picture_laws.specs.SpecDecodedPictures.{DecodedUnits, unit_decoded}
use Rattle.known_picture_laws.specs.LocalityLaws.{MotionAgreesBeneath}
use Rattle.known_picture_laws.specs.LocalityLaws.{AgreeAlong, AgreeByMotion, AgreeForItem, AgreeWhereNeeded}
use Rattle.known_picture_laws.specs.LocalityLaws.{HaveSameRows}
use Rattle.known_picture_laws.specs.LocalityLaws.{IsHalved}
use Rattle.known_picture_laws.specs.LocalityLaws.{first_needed, last_needed, luma_line}
use Rattle.known_picture_laws.proofs.LocalityLaws.{known_of_unit_agrees}
use Rattle.flight_plan.specs.Flight.{FlightRows, picture_at}
use Rattle.flight_plan.specs.declared.row_range.Reference.{Reference}
use Rattle.flight_plan.specs.declared.row_range.Reference.TheVariants.{Base, Flight}
use Rattle.flight_plan.specs.declared.row_range.RowRange.{RowRange}
use Rattle.board_core.specs.declared.predicted_blocks.LumaLines.{LumaLines}
use Rattle.board_core.specs.declared.predicted_blocks.PredictedBlock.{PredictedBlock}
use Rattle.board_core.specs.Needs.{unit_in_picture}
use Rattle.board_core.specs.Places.{IsLine, line_of}
use Rattle.board_core.specs.Reach.{range_of, reach_of, told_reach}
use Rattle.board_core.specs.Uses.{Reached}
use Rattle.board_core.proofs.Reaching.{map_contains}
use Rattle.known_picture_laws.specs.SpecFlights.{PlannedFlight, folded_at, folded_in, known_folded, pictures_before}
use Rattle.known_picture_laws.specs.SpecFlights.{block_by, block_from, blocks_at, blocks_by, blocks_in, given_at}
use Rattle.known_picture_laws.specs.SpecFlights.{item_blocks}
use Rattle.known_picture_laws.specs.SpecFlights.{known_blocks, known_motion, names_before, segment_blocks}
use Rattle.known_picture_laws.specs.SpecFlights.{flight_rows, luma_lines}
use Rattle.known_picture_laws.specs.Steps.{AgreeOnUnit, ReadsAsPicture}
use Rattle.known_picture_laws.proofs.Steps.{decoded_by_step}
use Rattle.flight_unit_laws.specs.Planned.{IsPlanned}
use Rattle.flight_unit_laws.specs.Uses.{AgreeWhereUsed, BuffersAgree, NamedAgree}
use Rattle.flight_unit_laws.proofs.Border.{not_far}
use Rattle.flight_unit_laws.proofs.Building.{at_place, coded_beside, edges_beside, motion_beneath}
use Rattle.flight_unit_laws.proofs.Building.{motions_beside, named_plan, samples_beside}
use Rattle.flight_unit_laws.proofs.Lists.{in_left, in_pieces, in_right}
use Rattle.flight_unit_laws.proofs.Pictures.{height_is, width_is}
use Rattle.flight_unit_laws.proofs.Range.{lines_high, reach_told, same_lines}
use Rattle.flight_unit_laws.proofs.Sound.{in_picture}

-- the luma line of a component's line lies in the picture
line_inside : (format : PictureFormat) (c z : ℕ) → z < format_height format c
    → luma_line c z < format.pic_height_in_luma_samples
line_inside format c z less = by (c == 0) less
  where
    by : (t : Bool)
        → z < (if t then format.pic_height_in_luma_samples else format.pic_height_in_luma_samples / 2)
        → (if t then z else 2 * z) < format.pic_height_in_luma_samples
    by true less = less
    by false less = omega (arith, less)

module _ (f : PlannedFlight) (planned : IsPlanned f) (k row x : ℕ) (p : PicturePlan)
    (has : slice_get f.pictures k ≡ Some p) (row_inside : row < height_in_ctbs p.sps)
    (inside : x < width_in_ctbs p.sps) (others : List DecodedPicture)
    (buffers : BuffersAgree f (line_of B k row) x k p others)
    (halves : All (λ (d : DecodedPicture). IsHalved d.format) (pictures_before f k)) where
  abbrev plan : FlightRows
  plan = flight_rows f

  abbrev l : Line
  l = line_of B k row

  abbrev a : ℕ
  a = row * width_in_ctbs p.sps + x

  abbrev buffer : List DecodedPicture
  buffer = pictures_before f k

  abbrev names : List Reference
  names = names_before f k

  abbrev log2 : ℕ
  log2 = ctb_log2 p.sps.blocks

  is_line : IsLine plan (line_of B k row)
  is_line = let h = height_is f k p has in omega (arith, h, row_inside)

  in_width : x < (picture_at plan k).width
  in_width = let w = width_is f k p has in omega (arith, w, inside)

  told_is : told_reach plan l x ≡ reach_of (luma_lines p) (blocks_at f k a)
  told_is =
      let w = width_is f k p has in
      let place : unit_in_picture plan l x ≡ a = ap (λ n. row * n + x) w in
      reach_told f planned l x is_line in_width
      ∙ ap (λ (lines : LumaLines). reach_of lines (blocks_at f k (unit_in_picture plan l x)))
      (sym (same_lines f planned k p has))
      ∙ ap (λ n. reach_of (luma_lines p) (blocks_at f k n)) place

  range_told : (b : PredictedBlock) → Contains (blocks_at f k a) b
      → Contains (told_reach plan l x) (range_of (luma_lines p) b)
  range_told b has_it =
      subst (λ (t : List RowRange). Contains t (range_of (luma_lines p) b)) (sym told_is)
      (map_contains (range_of (luma_lines p)) (blocks_at f k a) b has_it)

  -- the row of a line of a picture of the flight
  row_is_line : (j : ℕ) (q : PicturePlan) → slice_get f.pictures j ≡ Some q → (n : ℕ)
      → n < p.sps.format.pic_height_in_luma_samples → IsLine plan (line_of S j (n / 2 ^ log2))
  row_is_line j q there n less =
      let some = pow_pos log2 in
      let e = same_lines f planned k p has in
      let high : (luma_lines p).height ≤ (picture_at plan j).rows * 2 ^ (luma_lines p).ctb_log2 =
      subst (λ (t : LumaLines). t.height ≤ (picture_at plan j).rows * 2 ^ t.ctb_log2) (sym e)
      (lines_high f planned j q there) in
      let turned : (picture_at plan j).rows * 2 ^ log2 ≡ 2 ^ log2 * (picture_at plan j).rows = grind arith in
      not_far (2 ^ log2) (picture_at plan j).rows n (omega (arith, some)) (omega (arith, less, high, turned))

  module _ (first : ℕ) (block : Rectangle) (v : Vector) where
    abbrev block_in : Reference → PredictedBlock
    block_in r =
        record { reference = r; first = 4 * (first + block.y); lines = 4 * block.height; down = v.mv.y }

    abbrev low_row : PictureFormat → ℕ
    low_row format = first_needed format.pic_height_in_luma_samples log2 (4 * (first + block.y)) v.mv.y

    abbrev high_row : PictureFormat → ℕ
    high_row format =
        last_needed format.pic_height_in_luma_samples log2 (4 * (first + block.y)) (4 * block.height) v.mv.y

    same_rows : (i : ℕ) (r : Reference) (m o : DecodedPicture) → slice_get names i ≡ Some r
        → slice_get buffer i ≡ Some m → NamedAgree f l x p r m o → Contains (blocks_at f k a) (block_in r)
        → HaveSameRows log2 (low_row m.format) (high_row m.format) m o
    same_rows i (Base place) m o name mine agree block_has =
        let half : IsHalved m.format =
        subst (λ (d : DecodedPicture). IsHalved d.format) (get_or_from_slice_get buffer i m m mine)
        (halves i m (slice_get_within buffer i m mine)) in
        subst (λ (d : DecodedPicture). HaveSameRows log2 (low_row m.format) (high_row m.format) m d) agree
        (record { halved = half; format = refl; samples = λ c y z across down low high. refl })
    same_rows i (Flight j) m o name mine agree block_has =
        let half : IsHalved m.format =
        subst (λ (d : DecodedPicture). IsHalved d.format) (get_or_from_slice_get buffer i m m mine)
        (halves i m (slice_get_within buffer i m mine)) in
        let found = named_plan f planned k row x p has row_inside inside others buffers j i m name mine in
        record {
          halved = half;
          format = agree.format;
          samples = λ c y z across down low high.
              let low_is : low_row p.sps.format ≤ luma_line c z / 2 ^ log2 =
              subst (λ (g : PictureFormat). low_row g ≤ luma_line c z / 2 ^ log2) found.2 low in
              let high_is : luma_line c z / 2 ^ log2 ≤ high_row p.sps.format =
              subst (λ (g : PictureFormat). luma_line c z / 2 ^ log2 ≤ high_row g) found.2 high in
              let under : luma_line c z < p.sps.format.pic_height_in_luma_samples =
              line_inside p.sps.format c z
              (subst (λ (g : PictureFormat). z < format_height g c) found.2 down) in
              agree.samples c y z
              (Reached (range_of (luma_lines p) (block_in (Flight j))) j (luma_line c z / 2 ^ log2)
              (range_told (block_in (Flight j)) block_has) refl low_is high_is refl
              (row_is_line j found.0 found.1 (luma_line c z) under) refl);
        }

    -- the pictures that the vector points to agree in the rows that the block needs
    vector_agrees : (i : ℕ)
        → ((r : Reference) → slice_get names i ≡ Some r → Contains (blocks_at f k a) (block_in r))
        → AgreeWhereNeeded log2 (4 * (first + block.y)) (4 * block.height) v.mv.y (slice_get buffer i)
        (slice_get others i)
    vector_agrees i each =
        let needs : Option DecodedPicture → Option DecodedPicture → Type 0 =
        AgreeWhereNeeded log2 (4 * (first + block.y)) (4 * block.height) v.mv.y in
        elim (at_place f planned k row x p has row_inside inside others buffers i) [
          | inl none ↦
              subst (λ o. needs o (slice_get others i)) (sym none.0)
              (subst (λ o. needs None o) (sym none.1) tt)
          | inr at ↦
              subst (λ o. needs o (slice_get others i)) (sym at.mine_is)
              (subst (λ o. needs (Some at.mine) o) (sym at.other_is)
              (same_rows i at.name at.mine at.other at.name_is at.mine_is at.agree (each at.name at.name_is)))
        ]

  -- by what the blocks of the unit are
  module _ (inter : InterUnit) where
    along : (block : Rectangle) (list : ℕ) (o : Option Vector)
        → ((b : PredictedBlock) → Contains (block_by names inter.slice inter.row block list o) b
        → Contains (blocks_at f k a) b)
        → AgreeAlong log2 inter buffer others block list o
    along block list None each = tt
    along block list (Some v) each =
        vector_agrees inter.row block v (reference_in inter.slice list v.ref_idx).picture (λ r name.
        each (block_in inter.row block v r)
        (subst (λ o. Contains (block_from inter.row block v o) (block_in inter.row block v r)) (sym name)
        (0, omega arith, refl)))

    by_motion : (block : Rectangle) (o : Option Motion)
        → ((b : PredictedBlock) → Contains (blocks_by names inter.slice inter.row block o) b
        → Contains (blocks_at f k a) b)
        → AgreeByMotion log2 inter buffer others block o
    by_motion block None each = tt
    by_motion block (Some m) each =
        let first : List PredictedBlock = block_by names inter.slice inter.row block 0 m.list_0 in
        let second : List PredictedBlock = block_by names inter.slice inter.row block 1 m.list_1 in (
          along block 0 m.list_0 (λ b here. each b (in_left first second b here)),
          along block 1 m.list_1 (λ b here. each b (in_right first second b here)),
        )

    by_item : (item : Item)
        → ((b : PredictedBlock) → Contains (item_blocks names inter.slice inter.row inter.motion item) b
        → Contains (blocks_at f k a) b)
        → AgreeForItem log2 inter buffer others item
    by_item (Prediction unit) each =
        by_motion (part_block unit.unit unit.part_mode unit.part)
        (inter.motion ((part_block unit.unit unit.part_mode unit.part).x + 1)
        ((part_block unit.unit unit.part_mode unit.part).y + 1)) each
    by_item (Unit unit) each = tt
    by_item (Luma luma) each = tt
    by_item (Chroma mode) each = tt
    by_item (Pcm square) each = tt
    by_item (Sample value) each = tt
    by_item (Transform unit) each = tt
    by_item (Delta delta) each = tt
    by_item (Block block) each = tt
    by_item (Level place value) each = tt

  module _ (known : KnownUnit) (is : units_known p a ≡ Some known) (s : SegmentPlan)
      (of : slice_get p.segments known.segment ≡ Some s) (g : DecodedUnits)
      (own : AgreeWhereUsed f (line_of B k row) x k p (folded_at f k) g) where
    abbrev unit : TreeUnit
    unit = given_at a known

    abbrev step_inter : InterUnit
    step_inter = unit_inter others p s unit g.motions

    abbrev slice_at : ℕ
    slice_at = address_of (slice_start p s)

    folded_is : folded_at f k ≡ known_folded buffer p
    unfolding folded_at
    folded_is = ap (folded_in buffer) has

    beneath : MotionAgreesBeneath (picture_shape p.sps p.pps) a
        (collocated_motions (motions_of buffer) (collocated_entry s.header.slice (slice_start p s).lists))
        (collocated_motions (motions_of others) (collocated_entry s.header.slice (slice_start p s).lists))
    beneath = motion_beneath f planned k row x p has row_inside inside others buffers known is s of

    -- the unit's motion in the whole picture is that of its step
    motion_same : known_motion buffer p s a known ≡ known_of_unit (motions_of others) p s unit g.motions
    motion_same =
        ap (λ (d : DecodedUnits). known_of_unit (motions_of buffer) p s unit d.motions) (sym folded_is)
        ∙ known_of_unit_agrees (motions_of buffer) (motions_of others) p s unit (folded_at f k).motions g.motions
        (motions_beside f planned k row x p has row_inside inside g own slice_at) beneath

    abbrev blocks_with : Known → List PredictedBlock
    blocks_with motion =
        flat_map
        (item_blocks names (slice_motion p s a) (first_row (picture_shape p.sps p.pps) a) motion) known.read.items

    blocks_are : blocks_at f k a ≡ blocks_with (known_of_unit (motions_of others) p s unit g.motions)
    unfolding blocks_at
    blocks_are =
        ap (blocks_in names buffer a) has
        ∙ ap (known_blocks names buffer p a) is
        ∙ ap (segment_blocks names buffer p a known) of
        ∙ ap blocks_with motion_same

    needed_agree : All (AgreeForItem log2 step_inter buffer others) known.read.items
    unfolding unit_inter
    needed_agree i d less =
        by_item step_inter (get_or known.read.items i d) (λ b here.
        subst (λ (t : List PredictedBlock). Contains t b) (sym blocks_are)
        (in_pieces
        (item_blocks names (slice_motion p s a) (first_row (picture_shape p.sps p.pps) a)
        (known_of_unit (motions_of others) p s unit g.motions))
        known.read.items i d b less here))

    reads : ReadsAsPicture buffer others p s unit (folded_at f k) g
    reads = record {
      samples = samples_beside f planned k row x p has row_inside inside g own slice_at;
      motions = motions_beside f planned k row x p has row_inside inside g own slice_at;
      beneath = beneath;
      needed = needed_agree;
      edges = edges_beside f planned k row x p has row_inside inside g own;
      coded = coded_beside f planned k row x p has row_inside inside g own;
    }

    pub built_from_uses : AgreeOnUnit p a (folded_at f k) (unit_decoded others p s unit g)
    built_from_uses =
        subst (λ (d : DecodedUnits). AgreeOnUnit p a d (unit_decoded others p s unit g)) (sym folded_is)
        (decoded_by_step buffer others p a known s g (planned.sps k p has)
        (in_picture f k row x p has row_inside inside) is of
        (subst (λ (d : DecodedUnits). ReadsAsPicture buffer others p s unit d g) folded_is reads))
