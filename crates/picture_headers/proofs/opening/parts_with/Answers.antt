use Rattle.std.proofs.Common.{rules}
use Rattle.picture_headers.proofs.KeptPictures.{parts_fit}
use Rattle.picture_headers.proofs.opening.parts_with.Goals as goal

pub returns-clause-value : goal.returns-clause-value
returns-clause-value c = search rules

pub returns-clause-fits : goal.returns-clause-fits
returns-clause-fits c =
    parts_fit c.args.header.now c.args.sets.0 _ _ c.args.rps c.args.former.now.dpb _ (returns-clause-value c)
    c.requires.anew
