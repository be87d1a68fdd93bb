use Rattle.std.proofs.Common.{◌≡◌, ◌∙◌, rules}
use Rattle.stream_maker.proofs.Codes.{aligned_are}
use Rattle.stream_maker.proofs.headers.aligned_bytes.Goals as goal

pub returns : goal.returns
returns c =
    let same : c.extend_from_slice.new.self.items ≡ c.bytes-written.result.now = search rules in
    same
    ∙ aligned_are c.args.writer c.align.new.self c.bytes-written.result.now c.are_bytes.ensures (search rules)
    c.bytes-written.ensures.value
