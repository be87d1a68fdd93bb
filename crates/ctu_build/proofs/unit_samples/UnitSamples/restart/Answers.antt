use Rattle.ctu_build.proofs.Cells.{are_cleared, none_left, nothing_held, zeros_left}
use Rattle.std.proofs.Common.{refl, false, arith}
use Rattle.std.proofs.lemmas.Bool.Decides.{nat_tests}
use Rattle.ctu_build.proofs.unit_samples.UnitSamples.restart.Goals as goal

pub returns : goal.returns
returns c =
    nothing_held _
    (none_left c.self.inside.known _ _ _ _ c.self.inside.lines _ _ _ c.self.invariant refl refl refl
    (λ q. c.fill-4.ensures q false) (λ q. c.fill-5.ensures q false) (λ q. c.fill-6.ensures q false))

pub invariant_of-self : goal.invariant_of-self
invariant_of-self c =
    are_cleared _ _ _
    (zeros_left c.self.inside.values _ _ _ _ c.self.inside.lines _ _ _ c.self.invariant refl refl refl
    (λ q. c.fill.ensures q 0) (λ q. c.fill-2.ensures q 0) (λ q. c.fill-3.ensures q 0))
    (none_left c.self.inside.known _ _ _ _ c.self.inside.lines _ _ _ c.self.invariant refl refl refl
    (λ q. c.fill-4.ensures q false) (λ q. c.fill-5.ensures q false) (λ q. c.fill-6.ensures q false))
    (λ d. grind (arith, nat_tests))
