use Rattle.nal_stream.proofs.Framers.{next-answers, next-value}
use Rattle.nal_stream.proofs.framer.Framer.next.Goals as goal

pub returns-clause-value : goal.returns-clause-value
returns-clause-value c =
    λ h s. next-value c.answer.result _ c.reach_unit.new.self _ h c.reach_unit.ensures.goes c.answer.ensures.value s

pub returns-clause-answers : goal.returns-clause-answers
returns-clause-answers c =
    next-answers c.answer.result _ c.reach_unit.new.self _ c.reach_unit.ensures.goes c.answer.ensures.value
