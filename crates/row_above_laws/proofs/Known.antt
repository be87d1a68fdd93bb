-- What is read of a known unit has what its format gives.
use Rattle.std.proofs.Common.{◌≡◌, ℕ, ◌<◌, Bool, true, false, List, [], ◌∷◌, ◌++◌}
use Rattle.std.proofs.Common.{length, get_or, IfSome, Option, Some, None, is_some, Result, Ok, Err, if◌then◌else◌}
use Rattle.std.proofs.Common.{refl, ap, sym, subst, ◌∙◌}
use Rattle.std.specs.Prelude.{⊤}
use Rattle.std.specs.List.{list_all}
use Rattle.std.proofs.lemmas.List.{get_or_push}
use Rattle.std.proofs.lemmas.List.FromFn.{length-map-range_with_len}
use Rattle.hv_base.specs.declared.breach.Breach.{Breach}
use Rattle.header_types.specs.SequenceParameterSets.{size_in_ctbs}
use Rattle.plan_types.specs.declared.picture_plan.PicturePlan.{PicturePlan}
use Rattle.ctu_records.specs.Tree.{Ctu}
use Rattle.spec_bits.specs.Bits.{bits}
use Rattle.spec_cabac.specs.Bins.{State, Tree, read}
use Rattle.spec_cabac.specs.Engine.{Engine, start_at}
use Rattle.spec_slice_data.specs.declared.syntax.CtuSyntax.{CtuSyntax}
use Rattle.spec_slice_data.specs.declared.syntax.End.{End}
use Rattle.spec_slice_data.specs.Segment.{Between, PictureShape, SegmentShape, before_unit, begins_substream}
use Rattle.spec_slice_data.specs.Segment.{behind_unit, contexts_before, judged_end, no_group, nothing_read, qp_before}
use Rattle.spec_slice_data.specs.Segment.{read_unit, restarted, substream_of, then_unit, unit_at, unit_of, unit_step}
use Rattle.spec_picture_trees.specs.Picture.{SegmentAt}
use Rattle.spec_known_units.specs.Known.{Entries, KnownUnit, behind_step, between_from, ctu_of, entries_before}
use Rattle.spec_known_units.specs.Known.{known_of, picture_segments, read_in, read_uses, segment_having, unit_read}
use Rattle.spec_known_units.specs.Known.{units_known}
use Rattle.flight_value_laws.proofs.KnownUnitLawsLemmas.{known_step}
use Rattle.unit_laws.proofs.Formats.{Gives, cond_holds}
use Rattle.unit_laws.proofs.Units.{OkHolds}

-- ---- a unit over what stands before it

module _ (common : CtuSyntax) (picture : PictureShape) (segment : SegmentShape) (address : ℕ) (between : Between)
    (long_is : length between.units ≡ address) (P : Ctu → Type 0)
    (gives : (b : Between) → Gives (λ (r : Ctu × End). P r.0) (unit_at common picture segment address b)) where
  abbrev nothing : Ctu
  nothing = nothing_read picture.size no_group

  abbrev Has : Between → Type 0
  Has b = P (unit_of picture b address)

  abbrev HasUnits : Between → Type 0
  HasUnits b = b.units ≡ between.units

  last_has : (b : Between) → HasUnits b → (ctu : Ctu) → P ctu → P (get_or (b.units ++ ctu ∷ []) address nothing)
  last_has b same ctu has =
      subst P (sym (get_or_push b.units ctu nothing address (ap (λ (l : List Ctu). length l) same ∙ long_is))) has

  behind_has : (b : Between) → HasUnits b → (r : Result ((Ctu × End) × State) Breach)
      → OkHolds (λ (x : (Ctu × End) × State). P x.0.0) r → OkHolds Has (behind_unit picture address b r)
  behind_has b same (Err e) has = tt
  behind_has b same (Ok r) has =
      cond_holds (OkHolds Has) (judged_end r.0.1 r.1.0) _ _ (last_has b same r.0.0 has) tt

  read_ok : (format : Tree (Ctu × End)) (s : State) (r : Result ((Ctu × End) × State) Breach)
      → Gives (λ (x : Ctu × End). P x.0) format → read format s ≡ r
      → OkHolds (λ (x : (Ctu × End) × State). P x.0.0) r
  read_ok format s (Ok x) all is = all.gives s x.1 x.0 is
  read_ok format s (Err e) all is = tt

  read_has : (b : Between) → HasUnits b → OkHolds Has (read_unit common picture segment address b)
  unfolding read_unit
  read_has b same =
      behind_has b same (read (unit_at common picture segment address b) (b.engine, b.contexts))
      (read_ok (unit_at common picture segment address b) (b.engine, b.contexts) _ (gives b) refl)

  then_has : (r : Result Between Breach) → OkHolds HasUnits r
      → OkHolds Has (then_unit common picture segment address r)
  then_has (Err e) has = tt
  then_has (Ok b) has = read_has b has

  restarted_has : (contexts : List ℕ) (last : ℕ) (start : Option Engine)
      → OkHolds HasUnits (restarted contexts last between start)
  restarted_has contexts last None = tt
  restarted_has contexts last (Some engine) = refl

  before_has : OkHolds HasUnits (before_unit picture segment address between)
  unfolding before_unit
  before_has =
      cond_holds (OkHolds HasUnits) (begins_substream picture segment address) _ (Ok between)
      (restarted_has (contexts_before picture segment address between) (qp_before picture segment address between)
      (start_at (bits (get_or segment.substreams (substream_of picture segment address) [])))) refl

  step_has : OkHolds (λ b. P (unit_of picture b address)) (unit_step common picture segment address between)
  step_has = then_has (before_unit picture segment address between) before_has

-- ---- a known unit

module _ (P : Ctu → Type 0) where
  abbrev HasRead : KnownUnit → Type 0
  HasRead u = P u.read

  abbrev IsReadSo : Result KnownUnit Breach → Type 0
  IsReadSo (Ok u) = P u.read
  IsReadSo (Err e) = ⊤

  by_step : (at : SegmentAt) (address : ℕ) (r : Result Between Breach)
      → OkHolds (λ b. P (unit_of at.picture b address)) r → IsReadSo (behind_step at address r)
  by_step at address (Err e) has = tt
  by_step at address (Ok b) has = has

  by_test : (t : Bool) (r : Result KnownUnit Breach) → IsReadSo r
      → IfSome (known_of (if t then Some r else None)) HasRead
  by_test false r has = tt
  by_test true (Err e) has = tt
  by_test true (Ok u) has = has

  abbrev Given : ℕ → SegmentAt → Type 0
  Given address at =
      (b : Between) → Gives (λ (r : Ctu × End). P r.0) (unit_at at.syntax at.picture at.shape address b)

  long : (known : Entries) (picture : PictureShape) (address : ℕ)
      → length (between_from known picture address).units ≡ address
  unfolding between_from
  long known picture address = length-map-range_with_len (λ place. ctu_of picture (known place)) 0 address

  by_segment : (known : Entries) (address : ℕ) (o : Option SegmentAt)
      → ((at : SegmentAt) → o ≡ Some at → Given address at) → IfSome (known_of (read_in known address o)) HasRead
  unfolding read_in
  by_segment known address None given = tt
  by_segment known address (Some at) given =
      by_test (list_all (λ used. is_some (known used)) (read_uses at address)) _
      (by_step at address _
      (step_has at.syntax at.picture at.shape address (between_from known at.picture address)
      (long known at.picture address) P (given at refl)))

  pub known_has : (p : PicturePlan) (address : ℕ) (u : KnownUnit) → address < size_in_ctbs p.sps
      → units_known p address ≡ Some u
      → ((at : SegmentAt) → segment_having (picture_segments p) address ≡ Some at → (b : Between)
      → Gives (λ (r : Ctu × End). P r.0) (unit_at at.syntax at.picture at.shape address b))
      → P u.read
  unfolding unit_read
  known_has p address u inside is given =
      subst (λ o. IfSome o HasRead) (sym (known_step p address inside) ∙ is)
      (by_segment (entries_before (units_known p) address) address (segment_having (picture_segments p) address)
      given)
