use Rattle.picture_build.proofs.Referring.{are_small}
use Rattle.picture_build.proofs.references.References.new.Goals as goal

pub returns-clause-small : goal.returns-clause-small
returns-clause-small c format depths = are_small c.args.sps.now format c.args.bases.now depths
