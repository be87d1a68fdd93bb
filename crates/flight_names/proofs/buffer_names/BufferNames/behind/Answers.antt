use Rattle.std.proofs.Common.{rules, ◌≡◌, ◌≤◌, ◌+◌, ℕ, length, get_or, ◌++◌, ◌∷◌, [], arith, sym, subst, ◌∙◌, ap}
use Rattle.std.specs.Prelude.{if◌then◌else◌}
use Rattle.flight_plan.specs.declared.row_range.Reference.TheVariants.{Flight}
use Rattle.spec_flights.specs.SpecDecoderDecoder.{is_among}
use Rattle.flight_names.proofs.Staying.{kept_last, kept_next, staying_none}
use Rattle.flight_names.proofs.buffer_names.BufferNames.behind.Goals as goal

pub loop-place-init : goal.loop-place-init
loop-place-init c = (c.new-names.ensures.items ∙ sym (staying_none c.args.kept.now 0), omega arith)

pub loop-place-preserved : goal.loop-place-preserved
loop-place-preserved c =
    let n = c.loop-place.place in
    let inside = c.loop-place-test.true in
    let end : c.len-place-end.result ≡ length c.args.self.now = search rules in
    let here : n + 1 ≤ length c.args.self.now = omega (arith, inside, end) in
    let is : c.index.result.now ≡ get_or c.args.self.now n c.index.result.now = search rules in (
      kept_next c.args.kept.now c.args.self.now n (n + 1) c.index.result.now c.loop-place.names.items
          c.keep.new.names.items (omega (arith, here)) (omega arith) is c.loop-place.invariant.0
          c.in_ok-keep.ensures,
      here,
    )

pub returns : goal.returns
returns c =
    let n = c.loop-place.place in
    let past = c.loop-place-test.false in
    let end : c.len-place-end.result ≡ length c.args.self.now = search rules in
    let count : c.len.result ≡ length c.args.self.now = search rules in
    let old = c.loop-place.names.items in
    let name = Flight c.args.picture in
    kept_last c.args.kept.now c.args.self.now n name old c.keep-2.new.names.items (omega (arith, past, end))
    c.loop-place.invariant.1 c.loop-place.invariant.0
    (subst
    (λ (k : ℕ). c.keep-2.new.names.items ≡ (if is_among c.args.kept.now k then old ++ name ∷ [] else old)) count
    c.in_ok-keep-2.ensures)
