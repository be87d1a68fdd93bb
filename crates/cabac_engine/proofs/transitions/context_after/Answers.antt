use Rattle.std.proofs.Common.{◌∙◌, ◌+◌, ◌*◌, ap}
use Rattle.spec_bits.proofs.Numbers.{bool_byte-digit}
use Rattle.cabac_engine.specs.ContextTable.{entry_of}
use Rattle.cabac_engine.proofs.ContextRules.{entry_is}
use Rattle.cabac_engine.proofs.transitions.context_after.Goals as goal

pub returns-clause-value : goal.returns-clause-value
returns-clause-value c =
    c.entry.ensures.value ∙ ap (λ x. entry_of (2 * x + c.from-2.result)) c.from.ensures
    ∙ entry_is c.args.context c.from-2.result c.args.less_probable
    (c.from-2.ensures ∙ bool_byte-digit c.args.less_probable) c.requires
