use Rattle.std.proofs.Common.{rules, arith, ◌<◌, ℕ}
use Rattle.std.specs.Prelude.{get_or}
use Rattle.std.proofs.lemmas.Iterator.{YieldsList-from_slice, YieldsList-from_map}
use Rattle.stream_maker.proofs.Hashes.{all_given, hash_is}
use Rattle.stream_maker.proofs.stream.hash_of.Goals as goal

pub returns : goal.returns
returns c =
    let small : (i : ℕ) → get_or c.args.plane.now i 0 < 256 = λ i. omega (arith, c.type_inv.plane i) in
    let given = c.plane_md5.ensures in
    hash_is given.0 c.args.plane.now _ small
    (all_given given.0 c.args.plane.now given.1
    (YieldsList-from_map _ (λ (x : ℕ). x) (YieldsList-from_slice c.args.plane.now (search rules))
    c.map.ensures.closure (λ x r q k. search rules)))
    given.2
