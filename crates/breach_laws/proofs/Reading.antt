-- What stops the reading of a unit of a picture.
use Rattle.std.proofs.Common.{◌≡◌, ℕ, Bool, true, false, List, Option, Some, None, Result, Ok, Err, refl, ap, subst}
use Rattle.std.proofs.Common.{◌∙◌, if◌then◌else◌, is_some}
use Rattle.std.specs.List.{list_all}
use Rattle.hv_base.specs.declared.breach.Breach.{Breach}
use Rattle.hv_base.specs.declared.breach.Breach.TheVariants as breach
use Rattle.hv_base.specs.declared.fault.FaultKind.TheVariants as rule
use Rattle.spec_known_units.specs.PlanTypes.{PicturePlan}
use Rattle.ctu_records.specs.Tree.{Ctu}
use Rattle.spec_cabac.specs.Engine.{Engine}
use Rattle.spec_cabac.specs.Bins.{State, data_end, read}
use Rattle.spec_slice_data.specs.declared.syntax.End.{End}
use Rattle.spec_slice_data.specs.Segment.{Between, PictureShape, before_unit, begins_substream, behind_unit}
use Rattle.spec_slice_data.specs.Segment.{contexts_before, judged_end, qp_before, read_unit, restarted}
use Rattle.spec_slice_data.specs.Segment.{then_unit, unit_at, unit_step}
use Rattle.spec_known_units.specs.SpecPictureTrees.{SegmentAt}
use Rattle.spec_known_units.specs.Known.{Entries, KnownUnit, behind_step, between_from}
use Rattle.spec_known_units.specs.Known.{entries_before, picture_segments}
use Rattle.spec_known_units.specs.Known.{read_in, read_uses, segment_having, unit_read}
use Rattle.rule_numbers.specs.Rules.{IsDataRule}
use Rattle.breach_laws.proofs.Breaking.{data_end_rule, err_is}
use Rattle.breach_laws.proofs.Units.{unit_breaks_few}

restarted_ends : (contexts : List ℕ) (last : ℕ) (between : Between) (o : Option Engine) (e : Breach)
    → restarted contexts last between o ≡ Err e → IsDataRule e
restarted_ends contexts last between None e is =
    subst IsDataRule (err_is {X = Between} (Err data_end) data_end e refl is) data_end_rule
restarted_ends contexts last between (Some f) e is = absurd cc

before_if : (at : SegmentAt) (address : ℕ) (between : Between) (o : Option Engine) (b : Bool) (e : Breach)
    → (if b
    then restarted (contexts_before at.picture at.shape address between)
    (qp_before at.picture at.shape address between) between o
    else Ok between)
    ≡ Err e
    → IsDataRule e
before_if at address between o true e is = restarted_ends _ _ between o e is
before_if at address between o false e is = absurd cc

before_breaks : (at : SegmentAt) (address : ℕ) (between : Between) (e : Breach)
    → before_unit at.picture at.shape address between ≡ Err e → IsDataRule e
unfolding before_unit
before_breaks at address between e is =
    before_if at address between _ (begins_substream at.picture at.shape address) e is

behind_if : (after : Between) (b : Bool) (e : Breach)
    → (if b then Ok after else Err (breach.Fault rule.TrailingBits)) ≡ Err e → IsDataRule e
behind_if after true e is = absurd cc
behind_if after false e is =
    subst IsDataRule
    (err_is {X = Between} (Err (breach.Fault rule.TrailingBits)) (breach.Fault rule.TrailingBits) e refl is)
    refl

behind_breaks : (picture : PictureShape) (address : ℕ) (between : Between) (q : Result ((Ctu × End) × State) Breach)
    (e : Breach) → ((d : Breach) → q ≡ Err d → IsDataRule d) → behind_unit picture address between q ≡ Err e
    → IsDataRule e
behind_breaks picture address between (Err d) e each is =
    subst IsDataRule (err_is {X = Between} (Err d) d e refl is) (each d refl)
behind_breaks picture address between (Ok r) e each is = behind_if _ (judged_end r.0.1 r.1.0) e is

read_breaks : (at : SegmentAt) (address : ℕ) (between : Between) (e : Breach)
    → read_unit at.syntax at.picture at.shape address between ≡ Err e → IsDataRule e
unfolding read_unit
read_breaks at address between e is =
    behind_breaks at.picture address between
    (read (unit_at at.syntax at.picture at.shape address between) (between.engine, between.contexts)) e
    (λ d no. (unit_breaks_few _ _ _ _ _ _).breaks (between.engine, between.contexts) d no) is

then_breaks : (at : SegmentAt) (address : ℕ) (between : Between) (b : Result Between Breach) (e : Breach)
    → before_unit at.picture at.shape address between ≡ b → then_unit at.syntax at.picture at.shape address b ≡ Err e
    → IsDataRule e
then_breaks at address between (Err d) e before is =
    before_breaks at address between e (before ∙ is)
then_breaks at address between (Ok begun) e before is = read_breaks at address begun e is

pub step_breaks : (at : SegmentAt) (address : ℕ) (between : Between) (e : Breach)
    → unit_step at.syntax at.picture at.shape address between ≡ Err e → IsDataRule e
step_breaks at address between e is =
    then_breaks at address between (before_unit at.picture at.shape address between) e refl is

err_in : Breach → Option (Result KnownUnit Breach) → Breach
err_in d None = d
err_in d (Some (Ok u)) = d
err_in d (Some (Err e)) = e

behind_step_breaks : (at : SegmentAt) (address : ℕ) (r : Result Between Breach) (e : Breach)
    → ((d : Breach) → r ≡ Err d → IsDataRule d) → Some (behind_step at address r) ≡ Some (Err e) → IsDataRule e
unfolding err_in
behind_step_breaks at address (Err d) e each is = subst IsDataRule (ap (err_in d) is) (each d refl)
behind_step_breaks at address (Ok after) e each is = absurd cc

read_if : (at : SegmentAt) (address : ℕ) (r : Result Between Breach) (b : Bool) (e : Breach)
    → ((d : Breach) → r ≡ Err d → IsDataRule d)
    → (if b then Some (behind_step at address r) else None) ≡ Some (Err e) → IsDataRule e
read_if at address r true e each is = behind_step_breaks at address r e each is
read_if at address r false e each is = absurd cc

in_segment : (entries : Entries) (address : ℕ) (o : Option SegmentAt) (e : Breach)
    → read_in entries address o ≡ Some (Err e) → IsDataRule e
unfolding read_in
in_segment entries address None e is = absurd cc
in_segment entries address (Some at) e is =
    read_if at address (unit_step at.syntax at.picture at.shape address (between_from entries at.picture address))
    (list_all (λ u. is_some (entries u)) (read_uses at address)) e
    (λ d no. step_breaks at address (between_from entries at.picture address) d no) is

pub reading_breaks : (p : PicturePlan) (entries : Entries) (address : ℕ) (e : Breach)
    → unit_read p entries address ≡ Some (Err e) → IsDataRule e
unfolding unit_read
reading_breaks p entries address e is =
    in_segment (entries_before entries address) address (segment_having (picture_segments p) address) e is
