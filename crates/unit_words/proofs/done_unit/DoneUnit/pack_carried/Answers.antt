use Rattle.unit_words.proofs.Held.{carried_held}
use Rattle.unit_words.proofs.done_unit.DoneUnit.pack_carried.Goals as goal

pub returns : goal.returns
returns c = λ k below.
    carried_held c.args.self.now c.state.result c.pack.result k _ c.requires c.state.ensures c.pack.ensures
    (c.carried_words.ensures k below)
