use Rattle.unit_words.proofs.WordBytes.{byte_is_lane}
use Rattle.unit_words.proofs.octets.samples_of.Goals as goal

pub returns-clause-value : goal.returns-clause-value
returns-clause-value c j lt =
    let e = c.to_le_bytes.ensures in
    let b = byte_is_lane c.args.word j lt in
    rw e b
