-- A unit that is read over edges, behind what stands before it, is what is known of it.
use Rattle.std.proofs.Common.{◌≡◌, ℕ, ◌-◌, ◌≤◌, Bool, true, false, List, [], ◌∷◌, ◌++◌, length, get_or}
use Rattle.std.proofs.Common.{Option, Some, None, is_some, Result, Ok, Err, if◌then◌else◌, inl, inr, nat_lt}
use Rattle.std.proofs.Common.{refl, sym, ap, subst, ◌∙◌, arith}
use Rattle.std.specs.List.{list_all}
use Rattle.std.proofs.lemmas.Bool.{cases_lt, false_from_ne_true, ltb-true}
use Rattle.std.proofs.lemmas.List.{get_or_past, get_or_push}
use Rattle.std.proofs.lemmas.List.FromFn.{get_or-map-range_with_len, length-map-range_with_len}
use Rattle.hv_base.specs.declared.breach.Breach.{Breach}
use Rattle.plan_types.specs.declared.picture_plan.PicturePlan.{PicturePlan}
use Rattle.ctu_records.specs.Tree.{Ctu}
use Rattle.spec_bits.specs.Bits.{bits}
use Rattle.spec_cabac.specs.Bins.{State}
use Rattle.spec_cabac.specs.Engine.{Engine, start_at}
use Rattle.spec_slice_data.specs.declared.syntax.End.{End}
use Rattle.spec_slice_data.specs.Segment.{Between, before_unit, begins_substream, contexts_before, has_above}
use Rattle.spec_slice_data.specs.Segment.{has_left}
use Rattle.spec_slice_data.specs.Segment.{no_group, nothing_read}
use Rattle.spec_slice_data.specs.Segment.{qp_before, restarted, substream_of, then_unit, unit_of, unit_step}
use Rattle.spec_known_units.specs.SpecPictureTrees.{SegmentAt}
use Rattle.known_picture_laws.specs.UnitTrees.{Edge}
use Rattle.known_picture_laws.specs.UnitTrees.{then_next, unit_over}
use Rattle.known_picture_laws.specs.UnitTreeLaws.{Agree, IsSameStep}
use Rattle.known_picture_laws.proofs.UnitTreeLaws.{steps_same}
use Rattle.spec_known_units.specs.Known.{Entries, KnownUnit, behind_step, between_from, ctu_of, entries_before}
use Rattle.spec_known_units.specs.Known.{picture_segments, read_in, read_uses, segment_having, unit_read}
use Rattle.flight_value_laws.specs.Reading.{IsLeftBefore, IsLeftEdge, IsTopEdge, read_from, read_over, unit_left}
use Rattle.flight_value_laws.proofs.Edges.{next_over}

pub not_below : (a b : ℕ) → b ≤ a → nat_lt a b ≡ false
not_below a b le = false_from_ne_true (nat_lt a b) (λ e. let less = ltb-true a b e in omega (arith, le, less))

-- the same, behind these units
abbrev with_units : List Ctu → Between → Between
with_units units b =
    record { engine = b.engine; contexts = b.contexts; stored = b.stored; last = b.last; units = units }

abbrev start_with : List Ctu → Result Between Breach → Result Between Breach
start_with units (Err e) = Err e
start_with units (Ok b) = Ok (with_units units b)

start_if : (anew : Bool) (contexts : List ℕ) (last : ℕ) (units : List Ctu) (b : Between) (engine : Option Engine)
    → (if anew then restarted contexts last (with_units units b) engine else Ok (with_units units b))
    ≡ start_with units (if anew then restarted contexts last b engine else Ok b)
start_if true contexts last units b None = refl
start_if true contexts last units b (Some engine) = refl
start_if false contexts last units b engine = refl

-- two steps that add the same unit leave the same
pub behind_same : (at : SegmentAt) (address : ℕ) (a b : Between) (r s : Result Between Breach)
    → length a.units ≡ address → length b.units ≡ address → IsSameStep a b r s
    → behind_step at address r ≡ behind_step at address s
behind_same at address a b (Ok x) (Ok y) long_a long_b s =
    let nothing : Ctu = nothing_read at.picture.size no_group in
    let of_x : get_or x.units address nothing ≡ s.ctu =
    ap (λ (l : List Ctu). get_or l address nothing) s.units_a ∙ get_or_push a.units s.ctu nothing address long_a in
    let of_y : get_or y.units address nothing ≡ s.ctu =
    ap (λ (l : List Ctu). get_or l address nothing) s.units_b ∙ get_or_push b.units s.ctu nothing address long_b in
    rw (of_x, of_y, s.engine, s.contexts, s.last) refl
behind_same at address a b (Err e) (Err f) long_a long_b s = ap Err s
behind_same at address a b (Ok x) (Err f) long_a long_b s = let no : ⊥ = s in absurd no
behind_same at address a b (Err e) (Ok y) long_a long_b s = let no : ⊥ = s in absurd no

module _ (known : Entries) (at : SegmentAt) (address : ℕ) where
  abbrev earlier : Entries
  earlier = entries_before known address

  abbrev from : Between
  from = between_from earlier at.picture address

  abbrev nothing : Ctu
  nothing = nothing_read at.picture.size no_group

  pub long : length from.units ≡ address
  unfolding between_from
  long = length-map-range_with_len (λ place. ctu_of at.picture (earlier place)) 0 address

  -- what was read of a unit before this one
  pub from_unit : (a : ℕ) → get_or from.units a nothing ≡ ctu_of at.picture (earlier a)
  unfolding between_from
  from_unit a =
      elim (cases_lt a address) [
        | inl less ↦ get_or-map-range_with_len (λ place. ctu_of at.picture (earlier place)) 0 address a a nothing less
            (omega arith)
        | inr past ↦ get_or_past from.units a nothing (omega (arith, past, long))
            ∙ sym (ap (λ b. ctu_of at.picture (if b then known a else None)) (not_below a address past))
      ]

  module _ (before : Between) (left above : Edge) (h : IsLeftBefore at earlier address before left above) where
    abbrev standing : Between
    standing = with_units from.units before

    agrees : Agree at.picture at.shape address from standing
    unfolding between_from
    agrees = record {
      engine = λ e. sym (h.engine e);
      contexts = λ e f. sym (h.contexts e f);
      last = λ e f. sym (h.last e f);
      stored = λ e f. sym (h.stored e f);
      left = λ e. refl;
      above = λ e. refl;
    }

    start_is : before_unit at.picture at.shape address standing
        ≡ start_with from.units (before_unit at.picture at.shape address before)
    unfolding before_unit contexts_before qp_before
    start_is =
        start_if (begins_substream at.picture at.shape address) (contexts_before at.picture at.shape address before)
        (qp_before at.picture at.shape address before) from.units before
        (start_at (bits (get_or at.shape.substreams (substream_of at.picture at.shape address) [])))

    left_by : (start : Between) (r : Result ((Ctu × End) × State) Breach)
        → behind_step at address (then_next at.picture address (with_units from.units start) r) ≡ unit_left at r
    left_by start (Err e) = refl
    left_by start (Ok r) =
        let e : get_or (from.units ++ r.0.0 ∷ []) address nothing ≡ r.0.0 =
        get_or_push from.units r.0.0 nothing address long in
        rw e refl

    left_there : (start : Between) → has_left at.picture at.shape address ≡ true
        → IsLeftEdge at.picture address (unit_of at.picture (with_units from.units start) (address - 1)) left
    left_there start e =
        subst (λ (ctu : Ctu). IsLeftEdge at.picture address ctu left) (sym (from_unit (address - 1))) (h.on_left e)

    top_there : (start : Between) → has_above at.picture at.shape address ≡ true
        → IsTopEdge at.picture address
        (unit_of at.picture (with_units from.units start) (address - at.picture.width)) above
    top_there start e =
        subst (λ (ctu : Ctu). IsTopEdge at.picture address ctu above)
        (sym (from_unit (address - at.picture.width))) (h.on_top e)

    step_by : (r : Result Between Breach)
        → behind_step at address (then_unit at.syntax at.picture at.shape address (start_with from.units r))
        ≡ read_from at address left above r
    step_by (Err e) = refl
    step_by (Ok start) =
        ap (behind_step at address)
        (next_over at.syntax at.picture at.shape address (with_units from.units start) left above (left_there start)
        (top_there start))
        ∙ left_by start
        (unit_over at.syntax at.picture at.shape address left above start.last (start.engine, start.contexts))

    step_is : behind_step at address (unit_step at.syntax at.picture at.shape address from)
        ≡ read_over at address left above before
    step_is =
        behind_same at address from standing (unit_step at.syntax at.picture at.shape address from)
        (unit_step at.syntax at.picture at.shape address standing) long long
        (steps_same at.syntax at.picture at.shape address from standing agrees)
        ∙ ap (λ r. behind_step at address (then_unit at.syntax at.picture at.shape address r)) start_is
        ∙ step_by (before_unit at.picture at.shape address before)

    by_test : (t : Bool) (step r : Result KnownUnit Breach) → (if t then Some step else None) ≡ Some r → step ≡ r
    by_test true step r e = cc
    by_test false step r e = absurd cc

    pub read_is : (p : PicturePlan) (r : Result KnownUnit Breach)
        → segment_having (picture_segments p) address ≡ Some at → unit_read p known address ≡ Some r
        → read_over at address left above before ≡ r
    unfolding unit_read read_in
    read_is p r having is =
        sym step_is
        ∙ by_test (list_all (λ used. is_some (earlier used)) (read_uses at address))
        (behind_step at address (unit_step at.syntax at.picture at.shape address from)) r
        (sym (ap (read_in earlier address) having) ∙ is)
