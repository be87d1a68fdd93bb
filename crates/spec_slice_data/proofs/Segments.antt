-- The units of a segment, one after the other: what is read is spelled, and what is spelled is read.
use Rattle.std.proofs.Common.{◌≡◌, ℕ, zero, suc, ◌+◌, List, [], ◌∷◌, Result, Ok, Err, refl, ap, ◌∙◌}
use Rattle.hv_base.specs.declared.breach.Breach.{Breach}
use Rattle.ctu_records.specs.Tree.{Ctu}
use Rattle.spec_residuals.specs.SpecCabac.{State, read, bin_at}
use Rattle.spec_residuals.proofs.SpecFormatsLemmas.{found, only}
use Rattle.spec_slice_data.specs.declared.syntax.CtuSyntax.{CtuSyntax}
use Rattle.spec_slice_data.specs.declared.syntax.End.{End}
use Rattle.spec_residuals.specs.BlockGeometry.{ctb_scan}
use Rattle.spec_slice_data.specs.Segment.{PictureShape, SegmentShape, Between, Broken, Bins, before_unit, behind_unit}
use Rattle.spec_slice_data.specs.Segment.{unit_at, read_unit, then_unit, unit_step, and_then, units_from}
use Rattle.spec_slice_data.specs.Segment.{IsUnitSpelled}
use Rattle.spec_slice_data.specs.Segment.{UnitsSpelled, IsSegmentSpelled}

-- what a step that wasn't refused gave, and what came of it
record Stepped (r : Result Between Breach) (next : Between → Result Between Broken) (after : Between) : Type 0 where
  between : Between
  is : r ≡ Ok between
  then_is : next between ≡ Ok after

stepped : (address : ℕ) (r : Result Between Breach) (next : Between → Result Between Broken) (after : Between)
    → and_then address r next ≡ Ok after → Stepped r next after
stepped address (Ok b) next after e = record { between = b; is = refl; then_is = e }
stepped address (Err d) next after e = absurd cc

record Started (common : CtuSyntax) (picture : PictureShape) (segment : SegmentShape) (address : ℕ)
    (r : Result Between Breach) (next : Between) : Type 0 where
  start : Between
  is : r ≡ Ok start
  then_is : read_unit common picture segment address start ≡ Ok next

started : (common : CtuSyntax) (picture : PictureShape) (segment : SegmentShape) (address : ℕ)
    (r : Result Between Breach) (next : Between)
    → then_unit common picture segment address r ≡ Ok next → Started common picture segment address r next
started common picture segment address (Ok b) next e = record { start = b; is = refl; then_is = e }
started common picture segment address (Err d) next e = absurd cc

record Kept (picture : PictureShape) (address : ℕ) (start : Between) (r : Result ((Ctu × End) × State) Breach)
    (next : Between) : Type 0 where
  got : (Ctu × End) × State
  is : r ≡ Ok got
  kept : behind_unit picture address start (Ok got) ≡ Ok next

kept_of : (picture : PictureShape) (address : ℕ) (start : Between) (r : Result ((Ctu × End) × State) Breach)
    (next : Between)
    → behind_unit picture address start r ≡ Ok next → Kept picture address start r next
kept_of picture address start (Ok x) next e = record { got = x; is = refl; kept = e }
kept_of picture address start (Err d) next e = absurd cc

record Spelling (common : CtuSyntax) (picture : PictureShape) (segment : SegmentShape) (address : ℕ)
    (start next : Between) : Type 0 where
  words : Bins
  spelled : IsUnitSpelled common picture segment address start next words

unit_found : (common : CtuSyntax) (picture : PictureShape) (segment : SegmentShape) (address : ℕ) (start next : Between)
    → read_unit common picture segment address start ≡ Ok next
    → Spelling common picture segment address start next
unfolding read_unit
unit_found common picture segment address start next e =
    let format = unit_at common picture segment address start in
    let k = kept_of picture address start (read format (start.engine, start.contexts)) next e in
    let f = found bin_at format (start.engine, start.contexts) k.got k.is in
    record {
      words = f.words;
      spelled = record { read = k.got.0; behind = k.got.1; spelled = f.spells; there = f.has; kept = k.kept };
    }

unit_only : (common : CtuSyntax) (picture : PictureShape) (segment : SegmentShape) (address : ℕ) (start next : Between)
    (words : Bins)
    → IsUnitSpelled common picture segment address start next words
    → read_unit common picture segment address start ≡ Ok next
unfolding read_unit
unit_only common picture segment address start next words s =
    ap (behind_unit picture address start)
    (only bin_at (unit_at common picture segment address start) s.read words (start.engine, start.contexts)
    s.behind s.spelled s.there)
    ∙ s.kept

record Words (common : CtuSyntax) (picture : PictureShape) (segment : SegmentShape) (n place : ℕ)
    (between after : Between) : Type 0 where
  words : List Bins
  spelled : UnitsSpelled common picture segment n place between after words

units_found : (common : CtuSyntax) (picture : PictureShape) (segment : SegmentShape) (n place : ℕ)
    (between after : Between)
    → units_from common picture segment n place between ≡ Ok after
    → Words common picture segment n place between after
unfolding units_from
units_found common picture segment zero place between after e = record { words = []; spelled = (cc, refl) }
units_found common picture segment (suc n) place between after e =
    let step =
    stepped (ctb_scan place) (unit_step common picture segment (ctb_scan place) between)
    (units_from common picture segment n (place + 1)) after e in
    let start =
    started common picture segment (ctb_scan place) (before_unit picture segment (ctb_scan place) between)
    step.between step.is in
    let unit = unit_found common picture segment (ctb_scan place) start.start step.between start.then_is in
    let rest = units_found common picture segment n (place + 1) step.between after step.then_is in
    record {
      words = unit.words ∷ rest.words;
      spelled = (start.start, step.between, unit.words, rest.words, refl, start.is, unit.spelled, rest.spelled);
    }

units_only : (common : CtuSyntax) (picture : PictureShape) (segment : SegmentShape) (n place : ℕ)
    (between after : Between) (words : List Bins)
    → UnitsSpelled common picture segment n place between after words
    → units_from common picture segment n place between ≡ Ok after
unfolding units_from
units_only common picture segment zero place between after words s = ap (λ (b : Between). Ok b) s.0
units_only common picture segment (suc n) place between after words s =
    let address = ctb_scan place in
    let starts : unit_step common picture segment address between ≡ read_unit common picture segment address s.0 =
    ap (then_unit common picture segment address) s.5 in
    let steps : unit_step common picture segment address between ≡ Ok s.1 =
    starts ∙ unit_only common picture segment address s.0 s.1 s.2 s.6 in
    ap (λ (r : Result Between Breach). and_then address r (units_from common picture segment n (place + 1))) steps
    ∙ units_only common picture segment n (place + 1) s.1 after s.3 s.7

pub segment_spelled : (common : CtuSyntax) (picture : PictureShape) (segment : SegmentShape) (n place : ℕ)
    → IsSegmentSpelled common picture segment n place
segment_spelled common picture segment n place = record {
  found = λ between after e. let w = units_found common picture segment n place between after e in (w.words, w.spelled);
  only = λ between after words s. units_only common picture segment n place between after words s;
}
