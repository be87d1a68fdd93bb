use Rattle.std.proofs.Common.{◌∙◌}
use Rattle.spec_deblocking.specs.Lines.{across}
use Rattle.deblock.specs.Windows.{seen}
use Rattle.deblock.proofs.Abreast.{four_of, four_small}
use Rattle.deblock.proofs.columns.read_columns.Goals as goal

pub returns-clause-value : goal.returns-clause-value
returns-clause-value c = λ n lt.
    four_of (λ y. across (seen c.args.w.now c.args.samples.now) c.args.a y) c.turned.result c.args.b
    (c.turned.ensures.first ∙ c.read_line.ensures.value)
    (c.turned.ensures.second ∙ c.read_line-2.ensures.value) (c.turned.ensures.third ∙ c.read_line-3.ensures.value)
    (c.turned.ensures.fourth ∙ c.read_line-4.ensures.value) n lt

pub returns-clause-small : goal.returns-clause-small
returns-clause-small c = λ greatest all n lt.
    four_small greatest c.turned.result _ _ _ _ c.turned.ensures.first c.turned.ensures.second c.turned.ensures.third
    c.turned.ensures.fourth (c.read_line.ensures.small greatest all) (c.read_line-2.ensures.small greatest all)
    (c.read_line-3.ensures.small greatest all) (c.read_line-4.ensures.small greatest all) n lt
