use Rattle.std.proofs.Common.{◌-◌, arith, sym, ap, ◌∙◌}
use Rattle.spec_cabac.specs.Engine.{Engine}
use Rattle.cabac_engine.proofs.Reading.{Same}
use Rattle.cabac_engine.proofs.Stepping.{room, renormalizes, renormalized_live}
use Rattle.cabac_engine.proofs.interval.Interval.renormalize.Goals as goal

pub renormalize-requires-clause-small : goal.renormalize-requires-clause-small
renormalize-requires-clause-small c =
    let offset = c.has.ensures.offset ∙ ap (λ (e : Engine). e.offset) c.self.view_is in
    rw offset (room c.args.range (c.args.self.now.offset - c.args.less) c.doublings-n.result c.requires.low
    c.requires.high c.requires.below c.doublings-n.ensures.value)

pub returns-clause-value : goal.returns-clause-value
returns-clause-value c =
    let e = c.has.ensures in
    let same : Same c.self.inside.register c.has.new.self = record { offset = e.offset; bits = e.bits; at = e.at } in
    rw (← c.self.view_is)
    (renormalizes c.args.range c.args.less c.doublings-n.result c.self.inside.range c.self.inside.register
    c.has.new.self c.renormalize.new.self c.doublings-n.ensures.value c.requires.low c.requires.high
    (sym c.if-not-has.false ∙ e.value) same c.renormalize.ensures.offset c.renormalize.ensures.bits
    c.renormalize.ensures.at)

pub returns-clause-live : goal.returns-clause-live
returns-clause-live c =
    let e = c.has.ensures in
    let same : Same c.self.inside.register c.has.new.self = record { offset = e.offset; bits = e.bits; at = e.at } in
    let offset = ap (λ (e : Engine). e.offset) c.self.view_is in
    renormalized_live c.args.range c.args.less c.doublings-n.result c.self.inside.register
    c.has.new.self c.renormalize.new.self c.doublings-n.ensures.value c.requires.low c.requires.high
    (omega (arith, offset, c.requires.below))
    (sym c.if-not-has.false ∙ e.value) e.inside same c.renormalize.ensures.offset
