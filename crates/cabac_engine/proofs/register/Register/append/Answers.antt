use Rattle.std.proofs.Common.{length, arith, ap, ◌∙◌}
use Rattle.spec_bits.proofs.Places.{length-bits}
use Rattle.cabac_engine.specs.Ahead.{Ahead}
use Rattle.cabac_engine.proofs.Held.{appended, value_small}
use Rattle.cabac_engine.proofs.register.Register.append.Goals as goal

pub overflow_mul-self : goal.overflow_mul-self
overflow_mul-self c =
    let held = ap (λ (a : Ahead). a.held) c.self.view_is in
    omega (arith, value_small _ _ _ _ c.self.invariant (omega (arith, held)))

pub byte_at-requires : goal.byte_at-requires
byte_at-requires c =
    let held = ap (λ (a : Ahead). a.held) c.self.view_is in
    let at = ap (λ (a : Ahead). a.at) c.self.view_is in
    let all = ap (λ (a : Ahead). length a.bits) c.self.view_is in
    record { inside = omega (arith, held, at, all, length-bits c.self.inside.bytes.now, c.self.invariant.behind) }

pub overflow_add-self : goal.overflow_add-self
overflow_add-self c =
    let held = ap (λ (a : Ahead). a.held) c.self.view_is in
    omega (arith, value_small _ _ _ _ c.self.invariant (omega (arith, held)), c.from.ensures, c.byte_at.type_inv)

pub invariant_of-self : goal.invariant_of-self
invariant_of-self c =
    let held = ap (λ (a : Ahead). a.held) c.self.view_is in
    let at = ap (λ (a : Ahead). a.at) c.self.view_is in
    let all = ap (λ (a : Ahead). length a.bits) c.self.view_is in
    (appended c.self.inside.value c.self.inside.held c.self.inside.next c.from.result c.self.inside.bytes.now
    c.self.invariant (omega (arith, held))
    (omega (arith, held, at, all, length-bits c.self.inside.bytes.now, c.self.invariant.behind))
    (c.from.ensures ∙ c.byte_at.ensures)).kept

pub returns-clause-offset : goal.returns-clause-offset
returns-clause-offset c =
    let held = ap (λ (a : Ahead). a.held) c.self.view_is in
    let at = ap (λ (a : Ahead). a.at) c.self.view_is in
    let all = ap (λ (a : Ahead). length a.bits) c.self.view_is in
    (appended c.self.inside.value c.self.inside.held c.self.inside.next c.from.result c.self.inside.bytes.now
    c.self.invariant (omega (arith, held))
    (omega (arith, held, at, all, length-bits c.self.inside.bytes.now, c.self.invariant.behind))
    (c.from.ensures ∙ c.byte_at.ensures)).top
    ∙ ap (λ (a : Ahead). a.offset) c.self.view_is
