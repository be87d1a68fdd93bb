use Rattle.cabac_contexts.proofs.Packs.{round_trip}
use Rattle.cabac_contexts.proofs.packing.packed_contexts_are_unpacked.Goals as goal

pub returns : goal.returns
returns c = round_trip
