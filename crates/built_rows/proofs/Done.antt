-- A coding tree unit whose samples are built is done.
use Rattle.std.proofs.Common.{◌≡◌, ℕ, ◌+◌, ◌*◌, ◌<◌, Some, ap, sym, subst, ◌∙◌}
use Rattle.header_types.specs.SequenceParameterSets.{height_in_ctbs, width_in_ctbs}
use Rattle.plan_types.specs.declared.picture_plan.PicturePlan.{PicturePlan}
use Rattle.spec_known_units.specs.Known.{KnownUnit, units_known}
use Rattle.border_words.specs.UnitWords.{DoneUnit}
use Rattle.row_waits.specs.RowTrees.{IsReadAs}
use Rattle.border_words.specs.RowBorders.{HoldsUnit}
use Rattle.spec_flights.specs.Pictures.{folded_at}
use Rattle.done_units.specs.FlightPackingLaws.{unit_address}
use Rattle.line_words.specs.Places.{IsUnit, UnitAt}
use Rattle.border_words.specs.FlightFacts.{FlightFacts}
use Rattle.border_words.specs.FlightFacts.{flight_in}
use Rattle.done_units.specs.Done.{IsDoneAt}
use Rattle.row_waits.specs.declared.picture_view.PictureView.{PictureView}
use Rattle.row_waits.specs.Pictures.{IsPictureOf, IsUnitOf, address_in}
use Rattle.built_rows.specs.Stages.{units_in}
use Rattle.built_rows.proofs.Inside.{column_inside, plan_at, row_inside, sizes_are}

module _ (facts : FlightFacts) (picture : PictureView) (is : IsPictureOf facts picture) (at : UnitAt)
    (unit : IsUnitOf picture at) (there : IsUnit at) (known : KnownUnit)
    (has : units_known picture.plan.now (address_in picture.plan.now at) ≡ Some known) (d : DoneUnit)
    (row : d.row ≡ at.line.row) (column : d.column ≡ at.unit) where
  abbrev p : PicturePlan
  p = picture.plan.now

  abbrev w : ℕ
  w = width_in_ctbs p.sps

  address_is : unit_address picture.plan.now d ≡ address_in picture.plan.now at
  address_is =
      ap (λ (r : ℕ). r * w + d.column) row ∙ ap (λ (x : ℕ). at.line.row * w + x) column

  pub is_done : d.layout.now ≡ picture.layout.now → d.segment ≡ known.segment
      → IsReadAs known d.records.now d.reader.now
      → HoldsUnit picture.plan.now (address_in picture.plan.now at) d.built.now (units_in facts picture)
      → IsDoneAt (flight_in facts) at d
  is_done layout segment same built = record {
    plan = p;
    known = known;
    done = record {
      picture = plan_at facts picture is at unit there;
      row = subst (λ (r : ℕ). r < height_in_ctbs p.sps) (sym row) (row_inside facts picture is at unit there);
      column = subst (λ (x : ℕ). x < width_in_ctbs p.sps) (sym column) (column_inside facts picture is at unit there);
      unit = ap (units_known p) address_is ∙ has;
      layout = layout ∙ sizes_are facts picture is;
      segment = segment;
      records = same.read;
      engine = same.engine;
      contexts = same.contexts;
      last = same.last;
      built =
          subst (λ (a : ℕ). HoldsUnit p a d.built.now (folded_at (flight_in facts) at.line.picture)) (sym address_is)
          (subst (λ (k : ℕ). HoldsUnit p (address_in p at) d.built.now (folded_at (flight_in facts) k)) (sym unit.place)
          built);
    };
    phase = unit.phase;
    row = row;
    column = column;
  }
