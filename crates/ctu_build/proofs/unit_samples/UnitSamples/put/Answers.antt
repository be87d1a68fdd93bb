use Rattle.ctu_build.proofs.Cells.{put_one}
use Rattle.ctu_build.proofs.unit_samples.UnitSamples.put.Goals as goal

pub returns : goal.returns
returns c = λ i j k. put_one c.args.c c.args.column c.args.line c.args.value i j k _ _ (c.put_line.ensures i j k)
