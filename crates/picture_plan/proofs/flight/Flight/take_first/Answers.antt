use Rattle.std.proofs.Common.{rules, ◌≡◌, ◌<◌, [], ◌∷◌, ◌++◌, length, drop, ap, ◌∙◌}
use Rattle.std.specs.Prelude.{slice_index_or}
use Rattle.std.specs.List.{remove}
use Rattle.picture_plan.proofs.Fronts.{first_then, left_then}
use Rattle.picture_plan.proofs.flight.Flight.take_first.Goals as goal

pub loop-taken-preserved : goal.loop-taken-preserved
loop-taken-preserved c =
    let pictures = c.args.self.now in
    let k = c.loop-taken._taken in
    let x = c.remove.result in
    let less : k < length pictures = search rules in
    let next : x ≡ slice_index_or (drop k pictures) 0 x =
    c.remove.ensures.value ∙ ap (λ ps. slice_index_or ps 0 x) c.loop-taken.invariant.left in
    record {
      first =
          c.in_ok-push.ensures.items
          ∙ ap (λ ps. ps ++ x ∷ []) c.loop-taken.invariant.first
          ∙ first_then pictures k x less next;
      left =
          c.remove.ensures.items
          ∙ ap (λ ps. remove ps 0) c.loop-taken.invariant.left
          ∙ left_then pictures k less;
    }
