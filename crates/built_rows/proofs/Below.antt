-- A row below the first one of a picture, which goes on from the row above.
use Rattle.std.proofs.Common.{◌≡◌, ℕ, ◌+◌, ◌-◌, ◌*◌, ◌%◌, ◌<◌, ◌≤◌, true, false, List, sym, ap, subst, ◌∙◌, arith}
use Rattle.hv_base.specs.declared.line.Phase.TheVariants.{B}
use Rattle.header_types.specs.SequenceParameterSets.{size_in_ctbs, width_in_ctbs}
use Rattle.plan_types.specs.declared.picture_plan.PicturePlan.{PicturePlan}
use Rattle.spec_known_units.specs.Known.{contexts_behind, units_known}
use Rattle.board_core.specs.Places.{line_of}
use Rattle.sample_words.specs.declared.carry.Carry.{Carry}
use Rattle.sample_words.specs.Sizes.{columns}
use Rattle.sample_words.specs.Words.{line_number}
use Rattle.spec_flights.specs.Words.{carried_behind}
use Rattle.progress_words.specs.declared.pass.Pass.{Pass}
use Rattle.progress_words.specs.declared.view.View.{View}
use Rattle.progress_words.specs.Passes.{Knows, view}
use Rattle.progress_words.specs.Places.{Place}
use Rattle.progress_words.specs.Views.{seen_of}
use Rattle.line_words.specs.Places.{IsUnit, UnitAt}
use Rattle.row_waits.specs.RowTrees.{RowReader}
use Rattle.row_waits.specs.RowTrees.{BeginsAlone, CarriesBehind, OfSegment, StandsBefore}
use Rattle.border_words.specs.FlightFacts.{FlightFacts}
use Rattle.border_words.specs.FlightFacts.{flight_in}
use Rattle.row_waits.specs.declared.picture_view.PictureView.{PictureView}
use Rattle.row_waits.specs.Pictures.{address_in}
use Rattle.built_rows.specs.declared.row_builder.RowBuilder.{RowBuilder}
use Rattle.built_rows.specs.Beginning.{BeginsBelow}
use Rattle.built_rows.specs.Stages.{IsStored, StandsAt}
use Rattle.built_rows.proofs.Begun.{stands_first}
use Rattle.built_rows.proofs.First.{begins_alone, begins_here, carries, none_if_carried, none_if_narrow, sound_known}
use Rattle.built_rows.proofs.First.{stands_alone, stored_is}
use Rattle.built_rows.proofs.Inside.{address_inside, column_inside, columns_are}
use Rattle.built_rows.proofs.UsesSeen.{last_above_seen, last_above_sound, row_above_seen}

module _ (board : Place FlightFacts) (picture : PictureView) (at : UnitAt) (pass : Pass FlightFacts) (b : RowBuilder)
    (begins : BeginsBelow board picture at pass b) (there : IsUnit at) where
  abbrev facts : FlightFacts
  facts = board.flight

  abbrev p : PicturePlan
  p = picture.plan.now

  abbrev wide : ℕ
  wide = width_in_ctbs picture.plan.now.sps

  some : 0 < width_in_ctbs picture.plan.now.sps
  some =
      let inside = column_inside board.flight picture begins.flight at begins.working.unit there in
      omega (arith, inside)

  wide_is : columns picture.layout.now ≡ width_in_ctbs picture.plan.now.sps
  wide_is = columns_are board.flight picture begins.flight

  -- what is seen of the row above
  module _ (upper : ℕ) (is : upper ≡ at.line.row - 1) where
    pub second_seen : 2 ≤ columns picture.layout.now
        → 1 < seen_of (view pass) (line_number picture.layout.now (line_of B picture.place upper))
    second_seen two =
        let w = wide_is in
        subst (λ row. 1 < seen_of (view pass) (line_number picture.layout.now (line_of B picture.place row))) (sym is)
        (row_above_seen facts picture at (view pass) begins.flight begins.working.unit there begins.working.holds.next
        begins.working.known begins.seen 1 begins.below (omega (arith, begins.first)) (omega (arith, begins.first))
        (omega (arith, w, two))).seen

    pub all_seen : picture.plan.now.pps.prediction.entropy_coding_sync_enabled_flag ≡ false
        → columns picture.layout.now
        ≤ seen_of (view pass) (line_number picture.layout.now (line_of B picture.place upper))
    all_seen off =
        let w = wide_is in
        let few = some in
        let last =
        (last_above_seen facts picture at (view pass) begins.flight begins.working.unit there
        begins.working.holds.next begins.working.known begins.seen (wide - 1) begins.below off begins.first
        (omega (arith, few))).seen in
        let all : columns picture.layout.now
        ≤ seen_of (view pass) (line_number picture.layout.now (line_of B picture.place (at.line.row - 1))) =
        omega (arith, last, few, w) in
        subst
        (λ row. columns picture.layout.now
        ≤ seen_of (view pass) (line_number picture.layout.now (line_of B picture.place row)))
        (sym is) all

    pub carry_is : (carry : Carry) → picture.plan.now.pps.prediction.entropy_coding_sync_enabled_flag ≡ false
        → carry
        ≡ carried_behind (units_known picture.plan.now
        (upper * width_in_ctbs picture.plan.now.sps + (width_in_ctbs picture.plan.now.sps - 1)))
        → CarriesBehind picture.plan.now (address_in picture.plan.now at) carry
    carry_is carry off value =
        let few = some in
        let sound =
        last_above_sound facts picture at (view pass) begins.flight begins.working.unit there
        begins.working.holds.next begins.working.known begins.seen (wide - 1) begins.below off begins.first
        (omega (arith, few)) in
        carries picture.plan.now at.line.row at.unit begins.first some carry begins.below
        (value ∙ ap (λ row. carried_behind (units_known picture.plan.now (row * wide + (wide - 1)))) is)
        (sound_known (flight_in facts) picture.place (at.line.row - 1) (wide - 1) picture.plan.now begins.flight.plan
        sound)

    pub stored_there : (stored : List ℕ) → 2 ≤ columns picture.layout.now
        → stored ≡ contexts_behind (units_known picture.plan.now (upper * width_in_ctbs picture.plan.now.sps + 1))
        → OfSegment picture.plan.now (address_in picture.plan.now at)
        (IsStored picture.plan.now (address_in picture.plan.now at) stored)
    stored_there stored two value =
        let w = wide_is in
        stored_is picture.plan.now at.line.row at.unit begins.first some stored begins.below (omega (arith, w, two))
        (value ∙ ap (λ row. contexts_behind (units_known picture.plan.now (row * wide + 1))) is)

  pub none_stored : (stored : List ℕ) → columns picture.layout.now < 2
      → OfSegment picture.plan.now (address_in picture.plan.now at)
      (IsStored picture.plan.now (address_in picture.plan.now at) stored)
  none_stored stored narrow =
      let w = wide_is in
      none_if_narrow picture.plan.now at.line.row at.unit begins.first some stored (omega (arith, w, narrow))

  pub none_carried : (stored : List ℕ) → picture.plan.now.pps.prediction.entropy_coding_sync_enabled_flag ≡ false
      → OfSegment picture.plan.now (address_in picture.plan.now at)
      (IsStored picture.plan.now (address_in picture.plan.now at) stored)
  none_carried stored off =
      none_if_carried picture.plan.now at.line.row at.unit begins.first some stored off

  -- the address of the unit, for a reader of the picture's plan
  module _ (a : ℕ) (same : a ≡ address_in picture.plan.now at) where
    pub behind_some : 0 < a
    behind_some =
        let few = some in
        let up : at.line.row * wide ≡ (at.line.row - 1) * wide + wide = row_up at.line.row begins.below in
        omega (arith, same, few, up)
      where
        row_up : (row : ℕ) → 0 < row → row * wide ≡ (row - 1) * wide + wide
        row_up row below =
            let e : (row - 1 + 1) * wide ≡ (row - 1) * wide + wide = grind arith in
            let f : row - 1 + 1 ≡ row = omega (arith, below) in
            ap (λ n. n * wide) (sym f) ∙ e

    pub first_there : a % width_in_ctbs b.reader.segments.plan.sps ≡ 0
    first_there =
        subst (λ (q : PicturePlan). a % width_in_ctbs q.sps ≡ 0) (sym begins.working.plan)
        (subst (λ n. n % width_in_ctbs picture.plan.now.sps ≡ 0) (sym same)
        (begins_here picture.plan.now at.line.row at.unit begins.first some))

    pub inside_there : a < size_in_ctbs b.reader.segments.plan.sps
    inside_there =
        subst (λ (q : PicturePlan). a < size_in_ctbs q.sps) (sym begins.working.plan)
        (subst (λ n. n < size_in_ctbs picture.plan.now.sps) (sym same)
        (address_inside board.flight picture begins.flight at begins.working.unit there))

    pub carries_there : (carry : Carry) → CarriesBehind picture.plan.now (address_in picture.plan.now at) carry
        → CarriesBehind b.reader.segments.plan a carry
    carries_there carry carries =
        subst (λ (q : PicturePlan). CarriesBehind q a carry) (sym begins.working.plan)
        (subst (λ n. CarriesBehind picture.plan.now n carry) (sym same) carries)

    pub resumed_there : (r : RowReader) → StandsBefore b.reader.segments.plan a r.reader r.left
        → StandsBefore picture.plan.now (address_in picture.plan.now at) r.reader r.left
    resumed_there r stands =
        subst (λ n. StandsBefore picture.plan.now n r.reader r.left) same
        (subst (λ (q : PicturePlan). StandsBefore q a r.reader r.left) begins.working.plan stands)

  -- a reader that begins the row by itself
  pub alone_there : (r : RowReader) → picture.plan.now.pps.prediction.entropy_coding_sync_enabled_flag ≡ true
      → ((address : ℕ) → address % width_in_ctbs b.reader.segments.plan.sps ≡ 0
      → BeginsAlone b.reader.segments.plan address → StandsBefore b.reader.segments.plan address r.reader r.left)
      → StandsBefore picture.plan.now (address_in picture.plan.now at) r.reader r.left
  alone_there r on each =
      stands_alone b.reader.segments.plan picture.plan.now (address_in picture.plan.now at) r.reader r.left
      begins.working.plan each (begins_here picture.plan.now at.line.row at.unit begins.first some)
      (begins_alone picture.plan.now at.line.row at.unit begins.first some on)

  -- with another reader, and other contexts
  pub begun : (after : Pass FlightFacts) (r : RowReader) (stored : List ℕ) → Knows pass after (view pass)
      → r.segments.plan ≡ b.reader.segments.plan
      → StandsBefore picture.plan.now (address_in picture.plan.now at) r.reader r.left
      → OfSegment picture.plan.now (address_in picture.plan.now at)
      (IsStored picture.plan.now (address_in picture.plan.now at) stored)
      → StandsAt board.flight picture at (view after) (record b { reader = r; stored = stored })
  begun after r stored knows plan reader contexts =
      subst (λ (u : View FlightFacts). StandsAt board.flight picture at u (record b { reader = r; stored = stored }))
      (sym knows.1)
      (stands_first board.flight picture at (view pass) (record b { reader = r; stored = stored })
      (record {
        unit = begins.working.unit;
        holds = begins.working.holds;
        written = begins.working.written;
        known = begins.working.known;
        rows = begins.working.rows;
        plan = plan ∙ begins.working.plan;
        layout = begins.working.layout;
        common = begins.working.common;
        depths = begins.working.depths;
      })
      begins.first some reader contexts)
