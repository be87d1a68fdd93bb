use Rattle.std.proofs.Common.{◌≡◌, ℕ, ◌+◌, ◌-◌, ◌*◌, ◌/◌, ◌∙◌, arith}
use Rattle.spec_deblocking.specs.declared.place.Place.{Place}
use Rattle.spec_deblocking.specs.Places.{side}
use Rattle.deblock.specs.Windows.{seen}
use Rattle.deblock.specs.Passes.{placed}
use Rattle.deblock.proofs.Near.{alike_laid, first_along, near_inside, same_tc, second_along, two_laid}
use Rattle.deblock.proofs.pairs.filter_both.Goals as goal

pub filter_alike-requires-clause-bounded : goal.filter_alike-requires-clause-bounded
filter_alike-requires-clause-bounded g c = rw c.greatest_sample-greatest.ensures.value c.requires.bounded

pub filter_alike-requires-clause-low : goal.filter_alike-requires-clause-low
filter_alike-requires-clause-low g c = omega (arith, c.requires.pass.along_low, c.requires.along.low)

pub filter_alike-requires-clause-first : goal.filter_alike-requires-clause-first
filter_alike-requires-clause-first g c = λ k few.
    near_inside c.args.pass.now c.args.e c.args.s k _ c.requires.pass c.requires.across c.requires.along
    c.requires.edge c.requires.within few (omega arith) (omega arith)

pub filter_alike-requires-clause-inside : goal.filter_alike-requires-clause-inside
filter_alike-requires-clause-inside g c = λ k n few lt.
    near_inside c.args.pass.now c.args.e c.args.s k _ c.requires.pass c.requires.across c.requires.along
    c.requires.edge c.requires.within few (omega arith) (omega (arith, lt))

pub returns-then-are_alike-clause-bounded : goal.returns-then-are_alike-clause-bounded
returns-then-are_alike-clause-bounded g c =
    rw c.greatest_sample-greatest.ensures.value at c.filter_alike.ensures.bounded

pub returns-then-are_alike-clause-value : goal.returns-then-are_alike-clause-value
returns-then-are_alike-clause-value g c = λ i j h.
    let pass = c.args.pass.now in
    let is = c.are_alike.ensures c.if-are_alike.true in
    let at : ℕ → ℕ → Place = placed pass.window.turned (g.V.PlaceView.place_at c.args.view.now) in
    let p : c.place-p.result ≡ at ((8 * c.args.e - 1) / side pass.plane) (2 * c.args.s) =
    rw c.requires.chroma c.place-p.ensures in
    let o : c.place-o.result ≡ at ((8 * c.args.e - 1) / side pass.plane) (2 * c.args.s + 1) =
    rw c.requires.chroma c.place-o.ensures in
    let q : c.place-q.result ≡ at (8 * c.args.e / side pass.plane) (2 * c.args.s) =
    rw c.requires.chroma c.place-q.ensures in
    let r : c.place-r.result ≡ at (8 * c.args.e / side pass.plane) (2 * c.args.s + 1) =
    rw c.requires.chroma c.place-r.ensures in
    let tc = c.tc-most.ensures.value in
    let other = tc ∙ same_tc pass.plane pass.bit_depth c.place-p.result c.place-q.result c.place-o.result
    c.place-r.result is.before is.behind is.first is.second is.offset in
    alike_laid pass.plane pass.bit_depth (placed pass.window.turned (g.V.PlaceView.place_at c.args.view.now))
    (seen pass.window c.args.out.now) c.args.e c.args.s i j c.tc-most.result c.greatest_sample-greatest.result _
    c.requires.edge c.requires.chroma
    (record {
      strength = rw q at is.first;
      before = rw p at is.p_free;
      behind = rw q at is.q_free;
      most = rw (p, q) at tc;
    })
    (record {
      strength = rw r at is.second;
      before = rw o at is.o_free;
      behind = rw r at is.r_free;
      most = rw (o, r) at other;
    })
    c.greatest_sample-greatest.ensures.value (c.filter_alike.ensures.value i j h)

pub filter_place-requires-clause-along : goal.filter_place-requires-clause-along
filter_place-requires-clause-along g c = first_along c.args.pass.now c.args.s c.requires.chroma c.requires.along

pub filter_place-requires-2-clause-along : goal.filter_place-requires-2-clause-along
filter_place-requires-2-clause-along g c = second_along c.args.pass.now c.args.s c.requires.chroma c.requires.along

pub filter_place-requires-clause-place : goal.filter_place-requires-clause-place
filter_place-requires-clause-place g c = rw c.requires.chroma c.place-q.ensures

pub filter_place-requires-2-clause-place : goal.filter_place-requires-2-clause-place
filter_place-requires-2-clause-place g c = rw c.requires.chroma c.place-r.ensures

pub returns-clause-value : goal.returns-clause-value
returns-clause-value g c =
    two_laid c.args.pass.now (placed c.args.pass.now.window.turned (g.V.PlaceView.place_at c.args.view.now))
    c.args.s c.args.e c.filter_place-2.new.out c.filter_place.new.out c.args.out.now c.requires.pass
    c.requires.chroma c.requires.across c.requires.along c.requires.edge c.requires.within
    c.filter_place-2.ensures.value c.filter_place.ensures.value
