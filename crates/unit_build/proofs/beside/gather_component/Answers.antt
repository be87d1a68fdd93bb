use Rattle.std.proofs.Common.{◌∙◌, sym}
use Rattle.unit_build.proofs.Known.{gathered, gathered_above}
use Rattle.unit_build.proofs.beside.gather_component.Goals as goal

pub returns-then-has_left : goal.returns-then-has_left
returns-then-has_left g c = λ none.
    gathered c.args.unit.now.layout c.args.unit.now.slice c.args.unit.now.address c.of_unit-part.result
    (g.B.Beside.sample_at c.args.beside.now) _ _ _ _ c.of_unit-part.ensures.part c.of_unit-part.ensures.room
    c.of_unit-part.ensures.shape
    c.first_above.ensures.value (sym c.if-has_left.true ∙ c.has_left.ensures) c.gather_above.ensures
    c.gather_left.ensures c.args.c c.of_unit-part.ensures.component none

pub returns-else-has_left : goal.returns-else-has_left
returns-else-has_left g c = λ none.
    gathered_above c.args.unit.now.layout c.args.unit.now.slice c.args.unit.now.address c.of_unit-part.result
    (g.B.Beside.sample_at c.args.beside.now) _ _ _ c.of_unit-part.ensures.part c.of_unit-part.ensures.room
    c.of_unit-part.ensures.shape
    c.first_above.ensures.value (sym c.if-has_left.false ∙ c.has_left.ensures) c.gather_above.ensures c.args.c
    c.of_unit-part.ensures.component none
