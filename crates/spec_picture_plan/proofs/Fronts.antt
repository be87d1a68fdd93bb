-- What is planned of the front of an input stays as the input goes on.
use Rattle.std.proofs.Common.{ℕ, Bool, false, List, [], ◌∷◌, ◌++◌, Result, Ok, Err, refl}
use Rattle.std.proofs.Common.{sym, ap, ◌∙◌, append_assoc, append-nil}
use Rattle.hv_base.specs.declared.refusal.Stop.{Stop}
use Rattle.spec_slice_headers.specs.PlanTypes.{PicturePlan}
use Rattle.spec_slice_headers.specs.SpecNalUnits.{Told, told_of}
use Rattle.spec_slice_headers.proofs.SpecNalUnitsLemmas.{told_of-go}
use Rattle.spec_slice_headers.specs.PlanTypes.{Between}
use Rattle.spec_picture_plan.specs.Pictures.{beginning}
use Rattle.spec_picture_plan.specs.Steps.{step}
use Rattle.spec_picture_plan.specs.Planned.{Planned, behind_closed, planned_next, planned_from, planned_of, Extends}

-- a unit's pictures and what follows it
next_extends : (r : Result Between Stop) (closed : List PicturePlan) (f g : Between → Planned)
    → ((s : Between) → Extends (f s) (g s))
    → Extends (behind_closed closed (planned_next r f)) (behind_closed closed (planned_next r g))
next_extends (Err e) closed f g h = record {
  more = [];
  pictures = sym (append-nil (closed ++ []));
  stopped = λ e is. refl;
}
next_extends (Ok s) closed f g h =
    let i = h s in
    record {
      more = i.more;
      pictures =
          ap (λ (ps : List PicturePlan). closed ++ ps) i.pictures ∙ sym (append_assoc closed (f s).pictures i.more);
      stopped = λ e is. ap (behind_closed closed) (i.stopped e is);
    }

from_extends : (ended : Bool) (s : Between) (front later : List Told)
    → Extends (planned_from false s front) (planned_from ended s (front ++ later))
from_extends ended s [] later = record {
  more = (planned_from ended s later).pictures;
  pictures = refl;
  stopped = λ e is. absurd cc;
}
from_extends ended s (t ∷ ts) later =
    next_extends (step s t).next (step s t).closed (λ n. planned_from false n ts)
    (λ n. planned_from ended n (ts ++ later)) (λ n. from_extends ended n ts later)

pub of_extends : (front rest : List ℕ) (ended : Bool)
    → Extends (planned_of false front) (planned_of ended (front ++ rest))
unfolding planned_of
of_extends front rest ended =
    let told = told_of-go front rest ended in
    let long = from_extends ended beginning (told_of false front) told.0 in
    rw told.1 long
