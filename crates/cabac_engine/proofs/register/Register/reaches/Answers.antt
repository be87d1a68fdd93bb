use Rattle.std.proofs.Common.{◌*◌, ◌%◌, ◌^◌, nat_le, arith, ap, ◌∙◌}
use Rattle.cabac_engine.proofs.Held.{reached}
use Rattle.cabac_engine.specs.Ahead.{Ahead}
use Rattle.cabac_engine.proofs.register.Register.reaches.Goals as goal

pub returns : goal.returns
returns c =
    ap (λ x. nat_le (x * 2 ^ c.self.inside.held % 18446744073709551616) c.self.inside.value) c.from.ensures
    ∙ reached c.args.number c.self.inside.value c.self.inside.held c.self.inside.next c.self.inside.bytes.now
    (omega arith) c.self.invariant
    ∙ ap (λ (a : Ahead). nat_le c.args.number a.offset) c.self.view_is
