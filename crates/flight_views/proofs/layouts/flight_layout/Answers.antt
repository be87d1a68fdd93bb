use Rattle.std.proofs.Common.{refl, sym, ◌∙◌}
use Rattle.std.proofs.lemmas.Bool.{false≢true}
use Rattle.std.proofs.lemmas.Option.{slice_get_read}
use Rattle.flight_views.specs.Layouts.{IsLaidFor}
use Rattle.flight_views.proofs.Planned.{halved, laid_by, lies_so, sets_by}
use Rattle.flight_views.proofs.layouts.flight_layout.Goals.{
  else-are_alike-via-else-are_alike,
  else-are_alike-via-then-are_alike+else-are_halved,
}
use Rattle.flight_views.proofs.layouts.flight_layout.Goals as goal

laid : (c : goal.After-layout_of) → IsLaidFor c.args.plans.now c.args.bases.now c.layout_of.result
laid c =
    let counts = c.has_counts.ensures.0 c.if-not-has_counts.false in
    let here = c.index-plans-0 in
    let first = slice_get_read c.args.plans.now _ 0 here.result refl counts.0 here.is in
    laid_by c.args.plans.now c.args.bases.now here.result first counts.0 counts.1 counts.2
    (c.are_alike.ensures.alike.0 c.if-are_alike.true) c.are_alike.ensures.in_range
    (c.are_halved.ensures.0 c.if-are_halved.true) c.layout_of.result c.layout_of.ensures

pub returns-then-are_halved-clause-laid : goal.returns-then-are_halved-clause-laid
returns-then-are_halved-clause-laid c = laid c

pub returns-then-are_halved-clause-flight : goal.returns-then-are_halved-clause-flight
returns-then-are_halved-clause-flight c = λ facts stands range.
    lies_so c.args.plans.now c.args.bases.now c.layout_of.result (laid c) facts stands range

pub returns-else-are_alike-clause-none : goal.returns-else-are_alike-clause-none
returns-else-are_alike-clause-none c = λ none few planned.
    let counts = c.has_counts.ensures.0 c.if-not-has_counts.false in
    let here = c.index-plans-0 in
    let first = slice_get_read c.args.plans.now _ 0 here.result refl counts.0 here.is in
    elim c.else-are_alike.branch [
      | else-are_alike-via-then-are_alike+else-are_halved w ↦
          false≢true (sym w.if-are_halved.false
          ∙ w.are_halved.ensures.1 (halved c.args.bases.now planned.halves))
      | else-are_alike-via-else-are_alike w ↦
          false≢true (sym w.if-are_alike.false
          ∙ c.are_alike.ensures.alike.1
          (sets_by c.args.plans.now c.args.bases.now here.result first planned))
    ]
