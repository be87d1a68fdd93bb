use Rattle.std.proofs.Common.{◌*◌, arith, refl, ap, ◌∙◌}
use Rattle.spec_deblocking.specs.Filters.{held}
use Rattle.deblock.specs.Lanes.{lane}
use Rattle.deblock.proofs.Vectors.{given, plus, shifted, splat}
use Rattle.deblock.proofs.lanes.first.Goals as goal

pub returns-clause-value : goal.returns-clause-value
returns-clause-value c k lt =
    let ls2 = c.requires.outer.0 k lt in
    let vs2 = given c.fits-s2.0 refl in
    let ls1 = c.requires.outer.1 k lt in
    let vs1 = given c.fits-s1.0 refl in
    let ls0 = c.requires.inner.0 k lt in
    let vs0 = given c.fits-s0.0 refl in
    let lt0 = c.requires.inner.1 k lt in
    let vt0 = given c.fits-t0.0 refl in
    let lt1 = c.requires.inner.2 k lt in
    let vt1 = given c.fits-t1.0 refl in
    let a1 = plus lt vs2 vs1 (omega (arith, ls2, ls1, ls0, lt0, lt1)) in
    let a2 = plus lt a1 vs1 (omega (arith, ls2, ls1, ls0, lt0, lt1)) in
    let a3 = plus lt a2 vs0 (omega (arith, ls2, ls1, ls0, lt0, lt1)) in
    let a4 = plus lt a3 vs0 (omega (arith, ls2, ls1, ls0, lt0, lt1)) in
    let a5 = plus lt a4 vt0 (omega (arith, ls2, ls1, ls0, lt0, lt1)) in
    let a6 = plus lt a5 vt0 (omega (arith, ls2, ls1, ls0, lt0, lt1)) in
    let a7 = plus lt a6 vt1 (omega (arith, ls2, ls1, ls0, lt0, lt1)) in
    let a8 = plus lt a7 (splat lt 4) (omega (arith, ls2, ls1, ls0, lt0, lt1)) in
    let q = shifted lt 3 8 refl a8 in
    c.held.ensures.value k lt
    ∙ ap (λ v. held v (lane c.args.s0 k) (2 * c.args.tc)) (q.is ∙ omega arith)
