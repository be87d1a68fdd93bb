use Rattle.std.proofs.Common.{◌≡◌, ◌<◌, ◌≤◌, nat_le, ℕ, List, length, arith, ap, ◌∙◌}
use Rattle.spec_bits.proofs.Places.{length-bits}
use Rattle.cabac_engine.specs.Ahead.{Ahead, IsKept, ahead, lengthened, reduced}
use Rattle.cabac_engine.proofs.Held.{halved, Halved}
use Rattle.cabac_engine.proofs.register.Register.halve.Goals as goal
use Rattle.cabac_engine.proofs.register.Register.halve.Goals.{then-bin, else-bin}

half : (value held next range from : ℕ) (bytes : List ℕ) (a : Ahead) → ahead value held next bytes ≡ a → from ≡ range
    → IsKept value held next bytes → 1 ≤ a.held → a.offset < range → range ≤ 510
    → Halved value held next from bytes
half value held next range from bytes a view is kept some below high =
    let held_is = ap (λ (x : Ahead). x.held) view in
    let offset_is = ap (λ (x : Ahead). x.offset) view in
    halved value held next from bytes kept (omega (arith, held_is)) (omega (arith, offset_is, is)) (omega (arith, is))

left : (value held next : ℕ) (bytes : List ℕ) (a : Ahead) → ahead value held next bytes ≡ a
    → IsKept value held next bytes → 1 ≤ a.held → a.at < length a.bits
left value held next bytes a view kept some =
    let held_is = ap (λ (x : Ahead). x.held) view in
    let at_is = ap (λ (x : Ahead). x.at) view in
    let all = ap (λ (x : Ahead). length x.bits) view in
    omega (arith, held_is, at_is, all, length-bits bytes, kept.inside, kept.behind)

pub invariant_of-self : goal.invariant_of-self
invariant_of-self c =
    let h =
    half c.self.inside.value c.self.inside.held c.self.inside.next c.args.range c.from.result
    c.self.inside.bytes.now c.args.self.now c.self.view_is c.from.ensures c.self.invariant c.requires.held
    c.requires.below c.requires.small in
    elim c.if-bin.branch [
      | then-bin w ↦ rw w.self-is (h.over w.if-bin.true).kept
      | else-bin w ↦ rw w.self-is (h.under w.if-bin.false).kept
    ]

pub returns-clause-bin : goal.returns-clause-bin
returns-clause-bin c =
    let w = lengthened (ahead c.self.inside.value c.self.inside.held c.self.inside.next c.self.inside.bytes.now) in
    (half c.self.inside.value c.self.inside.held c.self.inside.next c.args.range c.from.result
    c.self.inside.bytes.now c.args.self.now c.self.view_is c.from.ensures c.self.invariant c.requires.held
    c.requires.below c.requires.small).test ∙ ap (λ x. nat_le x w) c.from.ensures
    ∙ ap (λ (a : Ahead). nat_le c.args.range (lengthened a)) c.self.view_is

pub returns-clause-offset : goal.returns-clause-offset
returns-clause-offset c =
    let w = lengthened (ahead c.self.inside.value c.self.inside.held c.self.inside.next c.self.inside.bytes.now) in
    let h =
    half c.self.inside.value c.self.inside.held c.self.inside.next c.args.range c.from.result
    c.self.inside.bytes.now c.args.self.now c.self.view_is c.from.ensures c.self.invariant c.requires.held
    c.requires.below c.requires.small in
    let reduced_is =
    ap (λ x. reduced x w) c.from.ensures ∙ ap (λ (a : Ahead). reduced c.args.range (lengthened a)) c.self.view_is in
    elim c.if-bin.branch [
      | then-bin w ↦ rw w.self-is ((h.over w.if-bin.true).top ∙ reduced_is)
      | else-bin w ↦ rw w.self-is ((h.under w.if-bin.false).top ∙ reduced_is)
    ]

pub returns-clause-inside : goal.returns-clause-inside
returns-clause-inside c =
    left c.self.inside.value c.self.inside.held c.self.inside.next c.self.inside.bytes.now c.args.self.now
    c.self.view_is c.self.invariant c.requires.held
