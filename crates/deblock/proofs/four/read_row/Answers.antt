use Rattle.std.proofs.Common.{ℕ, ◌+◌, ap, sym, ◌∙◌}
use Rattle.deblock.specs.Lanes.{lane}
use Rattle.deblock.proofs.Beside.{row_index}
use Rattle.deblock.proofs.four.read_row.Goals as goal

pub returns : goal.returns
returns c = record {
  value = λ n lt.
      let next = row_index c.args.w.now (c.args.a + c.args.k) c.args.b n c.requires.turned in
      c.load.ensures.value n lt
      ∙ ap (λ (q : ℕ). lane c.args.samples.now (q + n)) c.start_of.ensures.value
      ∙ ap (λ (q : ℕ). lane c.args.samples.now q) (sym next);
}
