use Rattle.std.proofs.Common.{rules, ◌≡◌, ◌+◌, ◌-◌, ◌*◌, ◌/◌, ◌^◌, ◌<◌, min, ap, sym, subst, ◌∙◌, arith}
use mir.Val.{SFits}
use mir.Syntax.{w32}
use Rattle.spec_inter_prediction.specs.Taps.{clamped}
use Rattle.sample_lines.specs.LocalityLaws.{luma_line}
use Rattle.sample_words.specs.declared.sizes.FlightSizes.{FlightSizes}
use Rattle.sample_words.specs.Contents.{component_side}
use Rattle.sample_words.specs.Sizes.{height_of}
use Rattle.flight_windows.specs.Lines.{height_in}
use Rattle.flight_windows.proofs.Plain.{plain}
use Rattle.flight_windows.proofs.Sides.{few_side, some_side}
use Rattle.flight_windows.proofs.row_places.RowPlace.of.Goals as goal

pub clamped-line-requires-clause-some_side : goal.clamped-line-requires-clause-some_side
clamped-line-requires-clause-some_side c =
    let some = some_side c.args.c c.sizes-sizes.result.height c.sizes-sizes.ensures.there.some_height in
    subst (λ n. 0 < n) (sym c.component_side.ensures) some

pub clamped-line-requires-clause-side : goal.clamped-line-requires-clause-side
clamped-line-requires-clause-side c =
    let few = few_side c.args.c c.sizes-sizes.result.height 8192 c.sizes-sizes.ensures.there.height in
    let e = c.component_side.ensures in
    omega (arith, few, e)

pub returns-clause-place : goal.returns-clause-place
unfolding height_of
returns-clause-place c =
    let s : FlightSizes = c.args.layout.now in
    let a = c.args in
    let sizes : c.sizes-sizes.result ≡ s = c.sizes-sizes.ensures.value in
    let fy : SFits w32 a.y = search rules in
    let side : c.component_side.result ≡ height_in s a.c =
    c.component_side.ensures ∙ ap (λ (t : FlightSizes). height_in t a.c) sizes in
    let y : c.of_line.result.y ≡ a.y = c.of_line.ensures.y ∙ plain a.y fy in
    let line : c.clamped-line.result ≡ clamped c.of_line.result.y (height_in s a.c) =
    c.clamped-line.ensures.value
    ∙ ((λ i. clamped (plain a.y fy i) (side i)) ∙ (λ i. clamped (sym y i) (height_in s a.c))) in
    record {
      row = c.of_line.ensures.row ∙ (λ i. luma_line a.c (line i) / 2 ^ (sizes i).ctb_log2);
      line = (λ i. component_side a.c (c.of_line.result.row * 2 ^ (sym sizes i).ctb_log2) + c.of_line.result.line)
          ∙ (c.of_line.ensures.line ∙ line);
      inside = subst
          (λ (t : FlightSizes). c.of_line.result.line
          < component_side a.c (min (2 ^ t.ctb_log2) (t.height - c.of_line.result.row * 2 ^ t.ctb_log2)))
          sizes c.of_line.ensures.inside;
    }
