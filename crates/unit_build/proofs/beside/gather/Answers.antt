use Rattle.std.proofs.Common.{◌∙◌}
use Rattle.unit_build.proofs.Known.{known_all}
use Rattle.unit_build.proofs.beside.gather.Goals as goal

pub returns : goal.returns
returns g c =
    let e0 = c.restart.ensures in
    let e1 = c.gather_component.ensures (λ j k. e0 0 j k) in
    let e2 = c.gather_component-2.ensures (λ j k. e1 1 j k ∙ e0 1 j k) in
    let e3 = c.gather_component-3.ensures (λ j k. e2 2 j k ∙ e1 2 j k ∙ e0 2 j k) in
    known_all _ _ _ _ _ _ _ _ e0 e1 e2 e3
