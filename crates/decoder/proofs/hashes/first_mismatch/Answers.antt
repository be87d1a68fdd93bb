use Rattle.std.proofs.Common.{rules, ◌≡◌, length}
use Rattle.row_jobs.specs.PictureBuild.{decoded_of}
use Rattle.decoder.proofs.Hashing.{no-unit}
use Rattle.decoder.proofs.hashes.first_mismatch.Goals as goal

pub returns-then-is_empty : goal.returns-then-is_empty
returns-then-is_empty c =
    let none : length c.args.stated.now ≡ 0 = search rules in
    no-unit (decoded_of c.args.picture.now) c.args.stated.now none
