use Rattle.std.proofs.Common.{◌≡◌, ℕ, ◌+◌, true, refl, sym, ap, subst, ◌∙◌}
use Rattle.hv_io.specs.Streams.{Gains, GainsPrefix}
use Rattle.spec_decoder.specs.Decoder.{picture_out}
use Rattle.spec_decoder.specs.Output.{piece_of, told_number}
use Rattle.decoder.specs.Buffers.{HeldBuffer, buffer_of, tagged}
use Rattle.decoder.proofs.Buffers.{next_number}
use Rattle.decoder.proofs.Writes.{place-cut, place-none, place-written}
use Rattle.decoder.proofs.buffer.Buffer.write_place.Goals as goal

pub returns-in-None : goal.returns-in-None
returns-in-None g c = record {
  wrote = place-none g.O.Sink.contents g.O.Sink.faults c.args.form c.args.out.now c.args.self.now.number
      c.args.place (buffer_of c.args.self.now) (sym c.in-None.ensures);
  same = refl;
}

pub returns-in-Ok-clause-wrote : goal.returns-in-Ok-clause-wrote
returns-in-Ok-clause-wrote g c =
    let number : c.self.inside.number ≡ c.args.self.now.number = ap (λ (b : HeldBuffer). b.number) c.self.view_is in
    place-written g.O.Sink.contents g.O.Sink.faults c.args.form c.args.out.now c.write_piece.new.out
    c.args.self.now.number c.saturating_add-self-inside.result c.args.place (buffer_of c.args.self.now)
    (tagged c.in-Some.tag c.in-Some.picture.now) (sym c.in-Some.ensures)
    (subst (λ (k : ℕ). told_number (k + 1) ≡ told_number c.saturating_add-self-inside.result) number
    (next_number c.self.inside.number ∙ ap told_number (sym c.saturating_add-self-inside.ensures)))
    (subst (λ (k : ℕ). Gains (g.O.Sink.contents c.args.out.now) (g.O.Sink.contents c.write_piece.new.out)
    (piece_of c.args.form k (picture_out (tagged c.in-Some.tag c.in-Some.picture.now)))) number c.in-Ok.ensures.gained)
    c.in-Ok.ensures.quiet

pub returns-in-Err-clause-wrote : goal.returns-in-Err-clause-wrote
returns-in-Err-clause-wrote g c =
    let number : c.self.inside.number ≡ c.args.self.now.number = ap (λ (b : HeldBuffer). b.number) c.self.view_is in
    place-cut g.O.Sink.contents g.O.Sink.faults c.args.form c.args.out.now c.write_piece.new.out
    c.args.self.now.number c.args.place (buffer_of c.args.self.now)
    (tagged c.in-Some.tag c.in-Some.picture.now) (sym c.in-Some.ensures)
    (subst (λ (k : ℕ). GainsPrefix (g.O.Sink.contents c.args.out.now) (g.O.Sink.contents c.write_piece.new.out)
    (piece_of c.args.form k (picture_out (tagged c.in-Some.tag c.in-Some.picture.now)))) number c.in-Err.ensures.front)
    c.in-Err.ensures.counted
