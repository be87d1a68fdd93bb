use Rattle.cabac_engine.proofs.register.Register.prepare.Goals as goal

pub returns-then-self-n-clause-enough : goal.returns-then-self-n-clause-enough
returns-then-self-n-clause-enough c = λ there. c.fill.ensures.enough c.args.n c.requires there
