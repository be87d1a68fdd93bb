use Rattle.std.proofs.Common.{◌≡◌, length, sym, subst, ◌∙◌}
use Rattle.decoder.specs.Buffers.{HeldBuffer, buffer_of}
use Rattle.decoder.proofs.Buffers.{length-tagged}
use Rattle.decoder.proofs.buffer.Buffer.len.Goals as goal

pub returns : goal.returns
returns c =
    subst (λ (b : HeldBuffer). c.len.result ≡ length (buffer_of b)) c.self.view_is
    (c.len.ensures.value ∙ sym (length-tagged c.self.inside.tags.items c.self.inside.pictures c.self.invariant))
