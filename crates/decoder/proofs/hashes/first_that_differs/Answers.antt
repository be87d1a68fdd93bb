use Rattle.std.proofs.Common.{get_or, refl}
use Rattle.hv_base.specs.declared.digest.Digest.{Digest}
use Rattle.plan_types.specs.declared.stated_hash.StatedHash.{StatedHash}
use Rattle.row_jobs.specs.PictureBuild.{decoded_of}
use Rattle.decoder.proofs.Hashing.{left-none, left-some, passed-all}
use Rattle.decoder.proofs.hashes.first_that_differs.Goals as goal

abbrev no_digest : Digest
no_digest = record { first = 0; last = 0 }

-- what stands for a unit behind the last
abbrev no_unit : StatedHash
no_unit = record { nal = 0; luma = no_digest; cb = no_digest; cr = no_digest }

pub returns-in-Some : goal.returns-in-Some
returns-in-Some c =
    left-some (decoded_of c.args.picture.now) c.args.stated.now c.loop-hash.hash-index
    (get_or c.args.stated.now c.loop-hash.hash-index no_unit) no_unit c.in-Some.fault
    c.loop-hash-test.true refl c.in-Some.ensures c.loop-hash.invariant

pub loop-hash-preserved : goal.loop-hash-preserved
loop-hash-preserved c =
    left-none (decoded_of c.args.picture.now) c.args.stated.now c.loop-hash.hash-index
    (get_or c.args.stated.now c.loop-hash.hash-index no_unit) no_unit
    c.loop-hash-test.true refl c.in-None.ensures c.loop-hash.invariant

pub returns : goal.returns
returns c =
    passed-all (decoded_of c.args.picture.now) c.args.stated.now c.loop-hash.hash-index c.loop-hash-test.false
    c.loop-hash.invariant
