use Rattle.std.proofs.Common.{◌≡◌, [], ◌∷◌, None, Some, false, length, take, sym, ap, ◌∙◌, arith}
use Rattle.std.proofs.lemmas.List.{length-take-le}
use Rattle.spec_nal_units.specs.Units.{unit_end, trimmed}
use Rattle.spec_nal_units.specs.Judged.{judged}
use Rattle.spec_nal_units.proofs.Ends.{unit_end-length}
use Rattle.nal_stream.specs.Framing.{pending}
use Rattle.nal_stream.proofs.Framers.{judged-whole, judged-last, unfinished}
use Rattle.nal_stream.proofs.framer.Framer.pass_unit.Goals as goal

pub slice_bounds-judge-end : goal.slice_bounds-judge-end
slice_bounds-judge-end c =
    let end : unit_end c.held-bytes.result.now ≡ Some c.in-Some.size = sym c.end_of_unit.ensures ∙ c.in-Some.is in
    let long = unit_end-length c.held-bytes.result.now c.in-Some.size end in
    sym (length-take-le c.in-Some.size c.held-bytes.result.now (omega (arith, long)))

pub settle-requires-clause-inside : goal.settle-requires-clause-inside
settle-requires-clause-inside c =
    let end : unit_end (pending c.args.self.now) ≡ Some c.in-Some.size =
    ap unit_end (sym c.held-bytes.ensures) ∙ sym c.end_of_unit.ensures ∙ c.in-Some.is in
    let long = unit_end-length (pending c.args.self.now) c.in-Some.size end in
    omega (arith, long)

pub settle-requires-clause-judged : goal.settle-requires-clause-judged
settle-requires-clause-judged c =
    let f = c.args.self.now in
    let end : unit_end (pending f) ≡ Some c.in-Some.size =
    ap unit_end (sym c.held-bytes.ensures) ∙ sym c.end_of_unit.ensures ∙ c.in-Some.is in
    judged-whole f c.in_ok-judged-in-Some.judged c.in-Some.size c.requires.inside c.requires.going end
    (c.in_ok-judged-in-Some.ensures ∙ ap (λ bs. judged f.index (take c.in-Some.size bs) ∷ []) c.held-bytes.ensures)

pub settle-requires-then-self-clause-judged : goal.settle-requires-then-self-clause-judged
settle-requires-then-self-clause-judged c =
    let f = c.args.self.now in
    let end : unit_end (pending f) ≡ None =
    ap unit_end (sym c.held-bytes.ensures) ∙ sym c.end_of_unit.ensures ∙ c.in-None.is in
    judged-last f c.in_ok-judged-in-None.judged _ c.requires.inside c.requires.going c.if-self.true end
    (ap length c.held-bytes.ensures)
    (c.in_ok-judged-in-None.ensures
    ∙ ap (λ u. judged f.index u ∷ []) (c.without_zeros.ensures ∙ ap trimmed c.held-bytes.ensures))

pub note_searched-requires : goal.note_searched-requires
note_searched-requires c = ap unit_end (sym c.held-bytes.ensures) ∙ sym c.end_of_unit.ensures ∙ c.in-None.is

pub returns-else-self-clause-value : goal.returns-else-self-clause-value
returns-else-self-clause-value c =
    let f = c.args.self.now in
    let end : unit_end (pending f) ≡ None =
    ap unit_end (sym c.held-bytes.ensures) ∙ sym c.end_of_unit.ensures ∙ c.in-None.is in (
      record {
        finished = c.note_searched.ensures.finished;
        to_tell = λ ended rest g. sym (c.note_searched.ensures.same ended rest);
      },
      c.if-self.false,
      c.note_searched.ensures.same false [] ∙ unfinished f c.requires.inside c.requires.going end,
    )
