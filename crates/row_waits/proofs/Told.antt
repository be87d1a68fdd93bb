-- The rows that the items of a known unit reach are those that its flight tells of it.
use Rattle.std.proofs.Common.{◌≡◌, ℕ, ◌+◌, ◌*◌, ◌<◌, List, [], ◌∷◌, ◌++◌, All, Some, length, slice_get, map}
use Rattle.std.proofs.Common.{refl, sym, ap, subst, ◌∙◌, arith, inl, inr}
use Rattle.std.specs.Prelude.{slice_index_or}
use Rattle.std.specs.List.{flat_map}
use Rattle.std.proofs.lemmas.Bool.{cases_lt}
use Rattle.std.proofs.lemmas.List.{get_or_past, map-append}
use Rattle.hv_base.specs.declared.line.Line.{Line}
use Rattle.hv_base.specs.declared.line.Phase.TheVariants.{B}
use Rattle.header_types.specs.SequenceParameterSets.{height_in_ctbs, width_in_ctbs}
use Rattle.plan_types.specs.declared.picture_plan.PicturePlan.{PicturePlan}
use Rattle.plan_types.specs.declared.segment_plan.SegmentPlan.{SegmentPlan}
use Rattle.ctu_records.specs.declared.item.Item.{Item}
use Rattle.ctu_motion.specs.Held.{held}
use Rattle.spec_picture_trees.specs.Places.{first_row}
use Rattle.spec_picture_trees.specs.Shapes.{picture_shape}
use Rattle.spec_known_units.specs.Known.{KnownUnit, units_known}
use Rattle.flight_windows.specs.SpecPictureMotion.{slice_motion}
use Rattle.flight_plan.specs.Flight.{FlightRows, IsEarlier, IsFlight, picture_at}
use Rattle.flight_plan.specs.declared.row_range.RowRange.{RowRange}
use Rattle.board_core.specs.Needs.{unit_in_picture}
use Rattle.board_core.specs.Places.{IsLine, line_of, width_of}
use Rattle.board_core.specs.Reach.{range_of, reach_of, told_reach}
use Rattle.board_core.proofs.Counting.{pieces_each}
use Rattle.unit_reach.specs.SpecFlights.{PlannedFlight, pictures_before}
use Rattle.unit_reach.specs.SpecFlights.{blocks_at, blocks_in, item_blocks, known_blocks, names_before}
use Rattle.unit_reach.specs.SpecFlights.{segment_blocks}
use Rattle.unit_reach.specs.SpecFlights.{flight_rows, lines_in}
use Rattle.flight_waits.specs.FactsOfFlights.{IsPlanned}
use Rattle.flight_waits.proofs.FactsOfFlights.{as_many, height_is, width_is}
use Rattle.flight_waits.proofs.FactsOfFlights.{is_flight, reach_told, same_lines}
use Rattle.std.proofs.lemmas.Option.{slice_get_within}
use Rattle.unit_reach.specs.declared.reach.ReachSource.{ReachSource}
use Rattle.row_waits.specs.Seen.{ReachesEarlier, reach_in}
use Rattle.row_waits.specs.Told.{IsSourceOf}

flat_of_map : {X Y Z : Type 0} (g : Y → Z) (h : X → List Y) (xs : List X)
    → flat_map (λ x. map g (h x)) xs ≡ map g (flat_map h xs)
flat_of_map g h [] = refl
flat_of_map g h (x ∷ xs) =
    ap (λ ys. map g (h x) ++ ys) (flat_of_map g h xs) ∙ sym (map-append g (h x) (flat_map h xs))

-- all ranges that a flight tells of a unit are of earlier pictures
module _ (plan : FlightRows) (flight : IsFlight plan) (l : Line) (x : ℕ) (there : l.picture < length plan.pictures)
  where
    abbrev IsOfEarlier : RowRange → Type 0
    IsOfEarlier range = IsEarlier l.picture range.picture

    pub told_earlier : All (λ (range : RowRange). IsEarlier l.picture range.picture) (told_reach plan l x)
    told_earlier i d inside =
        let reach : List (List RowRange) = (picture_at plan l.picture).reach in
        let at : ℕ = unit_in_picture plan l x in
        let earlier = (flight.earlier l.picture there).reach in
        elim (cases_lt at (length reach)) [
          | inl h ↦ earlier at [] h i d inside
          | inr h ↦ let none : slice_index_or reach at [] ≡ [] = get_or_past reach at [] h in
              let few : length (slice_index_or reach at []) ≡ 0 = ap length none in
              absurd (omega (arith, few, inside))
        ]

module _ (f : PlannedFlight) (planned : IsPlanned f) (k row x : ℕ) (p : PicturePlan)
    (has : slice_get f.pictures k ≡ Some p) (row_inside : row < height_in_ctbs p.sps)
    (inside : x < width_in_ctbs p.sps) (known : KnownUnit) (s : SegmentPlan)
    (is : units_known p (row * width_in_ctbs p.sps + x) ≡ Some known)
    (segment : slice_get p.segments known.segment ≡ Some s) (source : ReachSource)
    (told : IsSourceOf f k p (row * width_in_ctbs p.sps + x) s known source) where
  abbrev plan : FlightRows
  plan = flight_rows f

  abbrev l : Line
  l = line_of B k row

  abbrev a : ℕ
  a = row * width_in_ctbs p.sps + x

  abbrev items : List Item
  items = known.read.items

  abbrev first : ℕ
  first = first_row (picture_shape p.sps p.pps) (row * width_in_ctbs p.sps + x)

  blocks_are :
      flat_map (item_blocks source.names.now source.slice.now source.row (held source.motion.now)) known.read.items
      ≡ blocks_at f k (row * width_in_ctbs p.sps + x)
  unfolding blocks_at
  blocks_are =
      ap (λ n. flat_map (item_blocks n source.slice.now source.row (held source.motion.now)) items) told.names
      ∙ (ap (λ m. flat_map (item_blocks (names_before f k) m source.row (held source.motion.now)) items) told.slice
      ∙ (ap (λ r. flat_map (item_blocks (names_before f k) (slice_motion p s a) r (held source.motion.now)) items)
      told.row
      ∙ (ap (λ m. flat_map (item_blocks (names_before f k) (slice_motion p s a) first m) items) told.motion
      ∙ sym (ap (λ o. blocks_in (names_before f k) (pictures_before f k) a o) has
      ∙ (ap (λ o. known_blocks (names_before f k) (pictures_before f k) p a o) is
      ∙ ap (λ o. segment_blocks (names_before f k) (pictures_before f k) p a known o) segment)))))

  line_there : IsLine (flight_rows f) (line_of B k row)
  line_there = let h = height_is f k p has in omega (arith, h, row_inside)

  pub reach_is : flat_map (reach_in source) known.read.items ≡ told_reach (flight_rows f) (line_of B k row) x
  reach_is =
      let w = width_is f k p has in
      let across : x < width_of (flight_rows f) (line_of B k row) = omega (arith, w, inside) in
      flat_of_map (range_of source.lines)
      (item_blocks source.names.now source.slice.now source.row (held source.motion.now)) items
      ∙ (ap (reach_of source.lines) blocks_are
      ∙ (ap (λ lines. reach_of lines (blocks_at f k a)) (told.lines ∙ same_lines f planned k p has)
      ∙ (ap (λ n. reach_of (lines_in f.pictures) (blocks_at f k (row * n + x))) (sym w)
      ∙ sym (reach_told f planned l x line_there across))))

  pub items_earlier : All (ReachesEarlier k source) known.read.items
  items_earlier i d less =
      let many : k < length plan.pictures =
      let few = slice_get_within f.pictures k p has in omega (arith, few, as_many f) in
      pieces_each (λ (r : RowRange). IsEarlier k r.picture) (reach_in source) items
      (subst (All (λ (r : RowRange). IsEarlier k r.picture)) (sym reach_is)
      (told_earlier plan (is_flight f planned) l x many))
      i d less
