use Rattle.std.proofs.Common.{◌≡◌, ◌-◌}
use Rattle.cabac_engine.proofs.register.Register.fill.Given as goal

abbrev pub invariant-loop-self : goal.invariant-loop-self
invariant-loop-self l = record {
  offset : l.self.offset ≡ l.fn.self.offset;
  bits : l.self.bits ≡ l.fn.self.bits;
  at : l.self.at ≡ l.fn.self.at;
}

abbrev pub decreases-loop-self : goal.decreases-loop-self
decreases-loop-self l = 48 - l.self.held
