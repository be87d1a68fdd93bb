-- The contexts that are stored.
use Rattle.std.proofs.Common.{◌≡◌, ℕ, zero, suc, ◌+◌, ◌<◌, Bool, true, false, List, Option, Some, None, Result, Ok}
use Rattle.std.proofs.Common.{Err}
use Rattle.std.proofs.Common.{refl, ap, sym, ◌∙◌, if◌then◌else◌, arith}
use Rattle.hv_base.specs.declared.breach.Breach.{Breach}
use Rattle.hv_base.specs.declared.breach.Breach.TheVariants as breach
use Rattle.hv_base.specs.declared.fault.FaultKind.TheVariants as rule
use Rattle.spec_slice_data.specs.BlockGeometry.{ctb_scan}
use Rattle.ctu_records.specs.Tree.{Ctu}
use Rattle.spec_slice_data.specs.SpecCabac.{Engine}
use Rattle.spec_slice_data.specs.SpecCabac.{State, read}
use Rattle.spec_slice_data.specs.declared.syntax.CtuSyntax.{CtuSyntax}
use Rattle.spec_slice_data.specs.declared.syntax.End.{End}
use Rattle.spec_slice_data.specs.Segment.{PictureShape, SegmentShape, Between, Broken, and_then, before_unit}
use Rattle.spec_slice_data.specs.Segment.{begins_substream, behind_unit, judged_end, read_unit, restarted}
use Rattle.spec_slice_data.specs.Segment.{stored_behind, then_unit, unit_at, unit_step, units_from}
use Rattle.unit_trees.specs.CodingQuadtree.{next_between}
use Rattle.unit_tree_laws.specs.Agreement.{stores}

restart_keeps : (contexts : List ℕ) (last : ℕ) (before after : Between) (engine : Option Engine)
    → restarted contexts last before engine ≡ Ok after → after.stored ≡ before.stored
restart_keeps contexts last before after None e = absurd cc
restart_keeps contexts last before after (Some engine) e =
    let same : record {
      engine = engine;
      contexts = contexts;
      stored = before.stored;
      last = last;
      units = before.units;
    } ≡ after = cc in
    ap (λ (b : Between). b.stored) (sym same)

start_if : (anew : Bool) (before after : Between) (start : Result Between Breach)
    → ((x : Between) → start ≡ Ok x → x.stored ≡ before.stored)
    → (if anew then start else Ok before) ≡ Ok after → after.stored ≡ before.stored
start_if true before after start keeps e = keeps after e
start_if false before after start keeps e =
    let same : before ≡ after = cc in ap (λ (b : Between). b.stored) (sym same)

start_keeps : (picture : PictureShape) (segment : SegmentShape) (address : ℕ) (before after : Between)
    → before_unit picture segment address before ≡ Ok after → after.stored ≡ before.stored
unfolding before_unit
start_keeps picture segment address before after e =
    start_if (begins_substream picture segment address) before after _
    (λ x f. restart_keeps _ _ before x _ f) e

-- a unit that was read leaves these contexts stored
judged_stores : (right : Bool) (picture : PictureShape) (address : ℕ) (before after : Between)
    (r : (Ctu × End) × State)
    → (if right then Ok (next_between picture address before r.0.0 r.1) else Err (breach.Fault rule.TrailingBits))
    ≡ Ok after
    → after.stored ≡ stored_behind picture address after.contexts before.stored
judged_stores true picture address before after r e =
    let same : next_between picture address before r.0.0 r.1 ≡ after = cc in
    ap (λ (b : Between). b.stored) (sym same)
    ∙ ap (λ (b : Between). stored_behind picture address b.contexts before.stored) same
judged_stores false picture address before after r e = absurd cc

behind_stores : (picture : PictureShape) (address : ℕ) (before after : Between)
    (r : Result ((Ctu × End) × State) Breach)
    → behind_unit picture address before r ≡ Ok after
    → after.stored ≡ stored_behind picture address after.contexts before.stored
behind_stores picture address before after (Ok r) e =
    judged_stores (judged_end r.0.1 r.1.0) picture address before after r e
behind_stores picture address before after (Err d) e = absurd cc

read_stores : (common : CtuSyntax) (picture : PictureShape) (segment : SegmentShape) (address : ℕ)
    (before after : Between)
    → read_unit common picture segment address before ≡ Ok after
    → after.stored ≡ stored_behind picture address after.contexts before.stored
unfolding read_unit
read_stores common picture segment address before after e =
    behind_stores picture address before after
    (read (unit_at common picture segment address before) (before.engine, before.contexts)) e

then_stores : (common : CtuSyntax) (picture : PictureShape) (segment : SegmentShape) (address : ℕ)
    (before after : Between) (start : Result Between Breach)
    → ((x : Between) → start ≡ Ok x → x.stored ≡ before.stored)
    → then_unit common picture segment address start ≡ Ok after
    → after.stored ≡ stored_behind picture address after.contexts before.stored
then_stores common picture segment address before after (Ok x) keeps e =
    read_stores common picture segment address x after e
    ∙ ap (stored_behind picture address after.contexts) (keeps x refl)
then_stores common picture segment address before after (Err d) keeps e = absurd cc

step_stores : (common : CtuSyntax) (picture : PictureShape) (segment : SegmentShape) (address : ℕ)
    (before after : Between)
    → unit_step common picture segment address before ≡ Ok after
    → after.stored ≡ stored_behind picture address after.contexts before.stored
step_stores common picture segment address before after e =
    then_stores common picture segment address before after (before_unit picture segment address before)
    (λ x f. start_keeps picture segment address before x f) e

pub second_stores : (common : CtuSyntax) (picture : PictureShape) (segment : SegmentShape) (address : ℕ)
    (before after : Between)
    → unit_step common picture segment address before ≡ Ok after → stores picture address ≡ true
    → after.stored ≡ after.contexts
second_stores common picture segment address before after e second =
    step_stores common picture segment address before after e
    ∙ ap (λ b. if b then after.contexts else before.stored) second

other_keeps : (common : CtuSyntax) (picture : PictureShape) (segment : SegmentShape) (address : ℕ)
    (before after : Between)
    → unit_step common picture segment address before ≡ Ok after → stores picture address ≡ false
    → after.stored ≡ before.stored
other_keeps common picture segment address before after e other =
    step_stores common picture segment address before after e
    ∙ ap (λ b. if b then after.contexts else before.stored) other

rest_keeps : (address : ℕ) (before after : Between) (step : Result Between Breach)
    (rest : Between → Result Between Broken)
    → ((x : Between) → step ≡ Ok x → x.stored ≡ before.stored)
    → ((x : Between) → rest x ≡ Ok after → after.stored ≡ x.stored)
    → and_then address step rest ≡ Ok after → after.stored ≡ before.stored
rest_keeps address before after (Ok x) rest first later e = later x e ∙ first x refl
rest_keeps address before after (Err d) rest first later e = absurd cc

pub units_keep : (common : CtuSyntax) (picture : PictureShape) (segment : SegmentShape) (n place : ℕ)
    (before after : Between)
    → units_from common picture segment n place before ≡ Ok after
    → ((k : ℕ) → k < n → stores picture (ctb_scan (place + k)) ≡ false) → after.stored ≡ before.stored
unfolding units_from
units_keep common picture segment zero place before after e none =
    let same : before ≡ after = cc in ap (λ (b : Between). b.stored) (sym same)
units_keep common picture segment (suc n) place before after e none =
    let here : place + 0 ≡ place = omega arith in
    rest_keeps (ctb_scan place) before after (unit_step common picture segment (ctb_scan place) before)
    (units_from common picture segment n (place + 1))
    (λ x f. other_keeps common picture segment (ctb_scan place) before x f
    (ap (λ k. stores picture (ctb_scan k)) (sym here) ∙ none 0 (omega arith)))
    (λ x f. units_keep common picture segment n (place + 1) x after f
    (λ k lt.
    let next : place + 1 + k ≡ place + (k + 1) = omega arith in
    ap (λ p. stores picture (ctb_scan p)) next ∙ none (k + 1) (omega (arith, lt)))) e
