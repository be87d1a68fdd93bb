use Rattle.std.proofs.Common.{◌≡◌, ◌∙◌, ◌++◌, cond, rules}
use Rattle.spec_bits.specs.Spelling.{u_bits}
use Rattle.stream_maker.proofs.Codes.{flag_bits}
use Rattle.stream_maker.proofs.headers.flag.Goals as goal

pub returns : goal.returns
returns c =
    let is : c.u.new.self ≡ c.args.writer.now ++ u_bits 1 (cond c.args.value 1 0) = search rules in
    is ∙ flag_bits c.args.writer.now c.args.value
