use Rattle.row_jobs.specs.PictureBuild.{decoded_of}
use Rattle.decoder.proofs.Hashing.{cb-differs, cr-decides, luma-differs}
use Rattle.decoder.proofs.hashes.mismatch_by.Goals as goal

pub returns-in-Some : goal.returns-in-Some
returns-in-Some c =
    luma-differs (decoded_of c.args.picture.now) c.args.stated.now c.args.computed.now c.in-Some.fault c.requires
    c.in-Some.ensures

pub returns-in-Some-mismatch_of : goal.returns-in-Some-mismatch_of
returns-in-Some-mismatch_of c =
    cb-differs (decoded_of c.args.picture.now) c.args.stated.now c.args.computed.now c.in-Some-mismatch_of.fault
    c.requires c.in-None.ensures c.in-Some-mismatch_of.ensures

pub returns-in-None-mismatch_of : goal.returns-in-None-mismatch_of
returns-in-None-mismatch_of c =
    cr-decides (decoded_of c.args.picture.now) c.args.stated.now c.args.computed.now
    c.mismatch_of-in-None-mismatch_of.result c.requires c.in-None.ensures c.in-None-mismatch_of.ensures
    c.mismatch_of-in-None-mismatch_of.ensures
