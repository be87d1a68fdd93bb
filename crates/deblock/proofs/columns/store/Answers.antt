use Rattle.deblock.proofs.Abreast.{laid}
use Rattle.deblock.proofs.columns.store.Goals as goal

pub returns-clause-value : goal.returns-clause-value
returns-clause-value c q = laid c.args.start c.args.out.now _ c.requires.room c.fits-lanes.0 q
