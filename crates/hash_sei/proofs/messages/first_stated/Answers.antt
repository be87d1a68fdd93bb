use Rattle.std.proofs.Common.{rules, length, sym, ◌∙◌}
use Rattle.hash_sei.specs.Messages.{seen}
use Rattle.hash_sei.proofs.Searching.{begun, next, passed}
use Rattle.hash_sei.proofs.messages.first_stated.Goals as goal

pub loop-init : goal.loop-init
loop-init c = (begun _, search rules)

pub loop-preserved : goal.loop-preserved
loop-preserved c =
    let m = seen c.in_ok-message.message in
    let states = next (length c.args.bytes.now) c.loop.counter c.loop.rest.now m (search rules) (search rules) in (
      sym (passed m _ (search rules)) ∙ sym states ∙ c.loop.invariant.0,
      search rules,
    )
