use Rattle.std.proofs.Common.{◌≡◌, All, List, false, true, subst, sym, ap, ◌∙◌}
use Rattle.flight_plan.specs.declared.row_range.RowRange.{RowRange}
use Rattle.flight_plan.specs.Flight.{IsEarlier, PictureRows}
use Rattle.flight_plan.proofs.plan.FlightPicture.reaches_earlier.Goals as goal

pub returns-then-not-are_earlier : goal.returns-then-not-are_earlier
returns-then-not-are_earlier c =
    let items = c.deref-ranges-items.result.now in
    let same : c.args.self.now.reach ≡ items =
    sym (ap (λ (p : PictureRows). p.reach) c.self.view_is) ∙ sym c.deref-ranges-items.ensures.value in
    let AllEarlier : List RowRange → Type 0 = λ ranges. All (λ range. IsEarlier c.args.count range.picture) ranges in
    let Each : List (List RowRange) → Type 0 = λ reach. All AllEarlier reach in (
      λ t. let e : false ≡ true = t in cc,
      λ all.
          let each = subst Each same all in
          let here =
          subst AllEarlier (sym c.ranges-item.is)
          (each c.loop-ranges.ranges-index c.ranges-item.result c.loop-ranges-test.true) in
          let e : c.are_earlier.result ≡ true = c.are_earlier.ensures.1 here in
          let f : false ≡ true = sym c.if-not-are_earlier.true ∙ e in f,
    )
