use Rattle.std.proofs.Common.{◌-◌, length, arith, ap}
use Rattle.spec_bits.proofs.Places.{length-bits}
use Rattle.cabac_engine.specs.Ahead.{Ahead}
use Rattle.cabac_engine.proofs.Held.{same_test}
use Rattle.cabac_engine.proofs.register.Register.has.Goals as goal

pub returns-clause-value : goal.returns-clause-value
returns-clause-value c =
    let held = ap (λ (a : Ahead). a.held) c.self.view_is in
    let at = ap (λ (a : Ahead). a.at) c.self.view_is in
    let all = ap (λ (a : Ahead). length a.bits) c.self.view_is in
    let before = ap length c.prepare.ensures.bits in
    same_test c.args.n c.self.inside.held (length c.args.self.now.bits - c.args.self.now.at)
    (omega (
      arith,
      held,
      at,
      all,
      before,
      c.prepare.ensures.at,
      length-bits c.self.inside.bytes.now,
      c.self.invariant.inside,
      c.self.invariant.behind,
    ))
    (λ there. let enough = c.prepare.ensures.enough there in omega (arith, held, enough))

pub returns-clause-inside : goal.returns-clause-inside
returns-clause-inside c =
    let at = ap (λ (a : Ahead). a.at) c.self.view_is in
    let all = ap (λ (a : Ahead). length a.bits) c.self.view_is in
    let before = ap length c.prepare.ensures.bits in
    omega (arith, at, all, before, c.prepare.ensures.at, length-bits c.self.inside.bytes.now, c.self.invariant.inside)
