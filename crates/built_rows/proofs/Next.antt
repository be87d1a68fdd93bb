-- A builder that goes from a unit that is counted to the next one of its row.
use Rattle.std.proofs.Common.{◌≡◌, ℕ, ◌+◌, ◌-◌, ◌*◌, ◌<◌, ◌≤◌, true, min, inl, inr, refl, sym, ap, subst, ◌∙◌, arith}
use Rattle.std.proofs.lemmas.Bool.{and_parts, cases_eq, eqb-true}
use Rattle.std.proofs.lemmas.Nat.{mod-mul-add}
use Rattle.header_types.specs.SequenceParameterSets.{width_in_ctbs}
use Rattle.plan_types.specs.declared.picture_plan.PicturePlan.{PicturePlan}
use Rattle.picture_layout.specs.Shape.{IsShape}
use Rattle.spec_slice_data.specs.Segment.{PictureShape, begins_row, column_of}
use Rattle.spec_picture_trees.specs.Places.{unit_places}
use Rattle.spec_picture_trees.specs.Shapes.{picture_shape}
use Rattle.progress_words.specs.declared.view.View.{View}
use Rattle.progress_words.specs.Views.{AllSound, counting, seen_of}
use Rattle.progress_words.proofs.Counts.{put_other, put_same}
use Rattle.line_words.specs.Places.{UnitAt, number_at}
use Rattle.border_words.proofs.FlightValueLawsLemmas.{shape_of as segment_shape}
use Rattle.row_waits.specs.RowTrees.{StandsBefore}
use Rattle.border_words.specs.RowBorders.{at_unit, with_left}
use Rattle.border_words.specs.RowBorders.{HasColumn, IsLaid}
use Rattle.border_words.proofs.RowBordersLemmas.{is_at_left}
use Rattle.border_words.specs.FlightFacts.{FlightFacts}
use Rattle.border_words.specs.FlightFacts.{flight_meaning}
use Rattle.border_words.specs.FlightFacts.{flight_in}
use Rattle.done_units.specs.FlightWaits.{AreAllKnown}
use Rattle.row_waits.specs.declared.picture_view.PictureView.{PictureView}
use Rattle.built_rows.specs.declared.row_builder.RowBuilder.{RowBuilder}
use Rattle.row_waits.specs.Pictures.{address_in}
use Rattle.built_rows.specs.Stages.{HasBuilt, HasRead, IsLeftOf, IsWorking, StandsAt, next_of, shape_of}
use Rattle.built_rows.specs.Stages.{units_in}
use Rattle.row_waits.proofs.Rows.{rows_stay}

-- one unit more of a line is counted
module _ (v : View FlightFacts) (line x : ℕ) (was : seen_of v line ≡ x) where
  pub counted_line : seen_of (counting v line (x + 1)) line ≡ x + 1
  counted_line = put_same v.seen line (x + 1)

  pub counted_more : (l : ℕ) → seen_of v l ≤ seen_of (counting v line (x + 1)) l
  counted_more l =
      elim (cases_eq l line) [
        | inl same ↦
            let now : seen_of (counting v line (x + 1)) l ≡ x + 1 =
            ap (seen_of (counting v line (x + 1))) same ∙ counted_line in
            let before : seen_of v l ≡ x = ap (seen_of v) same ∙ was in
            omega (arith, now, before)
        | inr other ↦ let e = put_other v.seen line (x + 1) l other in omega (arith, e)
      ]

  pub counted_known : (facts : FlightFacts) → AreAllKnown facts v
      → AllSound (flight_meaning (flight_in facts)) line (x + 1) → AreAllKnown facts (counting v line (x + 1))
  counted_known facts known sound l =
      elim (cases_eq l line) [
        | inl same ↦
            subst (λ (n : ℕ). AllSound (flight_meaning (flight_in facts)) n (seen_of (counting v line (x + 1)) n))
            (sym same)
            (subst (λ (n : ℕ). AllSound (flight_meaning (flight_in facts)) line n) (sym counted_line) sound)
        | inr other ↦
            subst (λ (n : ℕ). AllSound (flight_meaning (flight_in facts)) l n)
            (sym (put_other v.seen line (x + 1) l other)) (known l)
      ]

-- no unit but the first one of a row begins it
not_first : (p : PicturePlan) (row x : ℕ) → x + 1 < width_in_ctbs p.sps
    → begins_row (picture_shape p.sps p.pps) (row * width_in_ctbs p.sps + (x + 1)) ≡ true → ⊥
unfolding picture_shape
not_first p row x inside begins =
    let zero : column_of (picture_shape p.sps p.pps) (row * width_in_ctbs p.sps + (x + 1)) ≡ 0 =
    eqb-true (column_of (picture_shape p.sps p.pps) (row * width_in_ctbs p.sps + (x + 1))) 0
    (and_parts _ _ begins).1 in
    let is = mod-mul-add row (width_in_ctbs p.sps) (x + 1) inside in
    omega (arith, zero, is)

right_of_first : (p : PicturePlan) (row x : ℕ) → x + 1 < width_in_ctbs p.sps
    → 1 ≤ column_of (picture_shape p.sps p.pps) (row * width_in_ctbs p.sps + (x + 1))
unfolding picture_shape
right_of_first p row x inside =
    let is = mod-mul-add row (width_in_ctbs p.sps) (x + 1) inside in omega (arith, is)

module _ (facts : FlightFacts) (picture : PictureView) (at : UnitAt) (v : View FlightFacts) (b c : RowBuilder)
    (working : IsWorking facts picture at v b) (read : HasRead facts picture at v b)
    (built : HasBuilt facts picture at b)
    (kept : c ≡ record b { border = with_left b.border c.border.left })
    (shape : IsShape (shape_of picture)) (column : HasColumn c.border.unit.layout c.border.left b.built)
    (sound : AllSound (flight_meaning (flight_in facts)) (number_at at) (at.unit + 1))
    (inside : at.unit + 1 < width_in_ctbs picture.plan.now.sps) where
  abbrev w : View FlightFacts
  w = counting v (number_at at) (at.unit + 1)

  abbrev p : PicturePlan
  p = picture.plan.now

  abbrev a : ℕ
  a = address_in picture.plan.now (next_of at)

  -- what stays of the builder
  abbrev left_laid : RowBuilder
  left_laid = record b { border = with_left b.border c.border.left }

  address_next : address_in picture.plan.now at + 1 ≡ address_in picture.plan.now (next_of at)
  address_next = omega arith

  working_next : IsWorking facts picture (next_of at) (counting v (number_at at) (at.unit + 1)) left_laid
  working_next =
      let more = counted_more v (number_at at) at.unit working.holds.next in
      record {
        unit = record { sizes = working.unit.sizes; phase = working.unit.phase; place = working.unit.place };
        holds = record {
          job = working.holds.job;
          next = counted_line v (number_at at) at.unit working.holds.next;
        };
        written = refl;
        known = counted_known v (number_at at) at.unit working.holds.next facts working.known sound;
        rows = rows_stay picture.layout.now v w b.seen more working.rows;
        plan = working.plan;
        layout = working.layout;
        common = working.common;
        depths = working.depths;
      }

  layout_is : c.border.unit.layout ≡ shape_of picture
  layout_is = ap (λ (t : RowBuilder). t.border.unit.layout) kept ∙ working.layout

  left_next : IsLeftOf (shape_of picture) (address_in picture.plan.now (next_of at)) left_laid.border
      (units_in facts picture)
  left_next slice =
      let has : HasColumn (shape_of picture) c.border.left b.built =
      subst (λ (q : PictureShape). HasColumn q c.border.left b.built) layout_is column in
      is_at_left p (address_in p at)
      (at_unit left_laid.border (record { layout = shape_of picture; slice = slice; address = a })) b.built
      (units_in facts picture) shape refl (sym address_next)
      (right_of_first p at.line.row at.unit inside) built has

  laid_next : IsLaid (shape_of picture) at.line.row b.border.above (units_in facts picture)
      (unit_places (shape_of picture) * (at.unit + 1 + 1))
  laid_next =
      let end : min (at.unit + 2) (width_in_ctbs picture.plan.now.sps) ≡ at.unit + 1 + 1 = omega (arith, inside) in
      subst
      (λ n. IsLaid (shape_of picture) at.line.row b.border.above (units_in facts picture)
      (unit_places (shape_of picture) * n))
      end read.laid

  stands_left : StandsAt facts picture (next_of at) (counting v (number_at at) (at.unit + 1)) left_laid
  stands_left = record {
    working = working_next;
    reader = subst (λ n. StandsBefore p n b.reader.reader b.reader.left) address_next read.next;
    stored = λ at_segment having begins has.
        let picture_is = segment_shape p a at_segment having in
        absurd (not_first p at.line.row at.unit inside (subst (λ q. begins_row q a ≡ true) picture_is begins));
    laid = λ some. laid_next;
    above = λ some below. read.above inside below;
    left = left_next;
  }

  pub stands_next : StandsAt facts picture (next_of at) (counting v (number_at at) (at.unit + 1)) c
  stands_next =
      subst (λ (t : RowBuilder). StandsAt facts picture (next_of at) w t) (sym kept) stands_left
