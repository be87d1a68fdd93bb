-- The contexts of a slice stay as many, and each keeps a value of a context, whatever is read.
use Rattle.std.proofs.Common.{◌≡◌, ℕ, ◌+◌, ◌-◌, ◌*◌, ◌/◌, ◌%◌, ◌<◌, ◌≤◌, ◌==◌, ◌&&◌, Bool, true, false, cond, not}
use Rattle.std.proofs.Common.{List}
use Rattle.std.proofs.Common.{length, Option, Some, None, Result, Ok, Err, nat_le, ℤ, pos, negsuc, ◌≤ℤ◌, ◌*ℤ◌}
use Rattle.std.proofs.Common.{◌-ℤ◌}
use Rattle.std.proofs.Common.{◌+ℤ◌, refl, subst, ◌∙◌, arith, inl, inr, [], if◌then◌else◌}
use Rattle.std.specs.Prelude.{slice_index, slice_index_or, slice_set}
use Rattle.std.specs.List.{range_with_len}
use Rattle.std.specs.Int.{int_max, int_min, int_shr}
use Rattle.std.specs.Int.Signed.{mag}
use Rattle.std.proofs.lemmas.Bool.{cases_lt}
use Rattle.std.proofs.lemmas.Int.{int_max_is, int_min_is, ints}
use Rattle.std.proofs.lemmas.List.{get_or_past, length-set}
use Rattle.std.proofs.lemmas.List.Elements.{All-map, All-set}
use Rattle.std.proofs.lemmas.List.FromFn.{length-map-range_with_len}
use Rattle.hv_base.specs.declared.breach.Breach.{Breach}
use Rattle.spec_bits.specs.Bits.{bits, ◌>>=◌}
use Rattle.spec_formats.specs.Format.{Give, One, Refuse, Then}
use Rattle.spec_formats.proofs.Agreement.{bind_ok}
use Rattle.spec_cabac.specs.Bins.{Bin, BinValue, Bypass, Decision, PcmEnd, PcmStart, Sample, State, Terminate, Tree}
use Rattle.spec_cabac.specs.Bins.{bin_at, decided, moved, placed, read, stepped}
use Rattle.spec_cabac.specs.Contexts.{clip3, context_after_lps, context_after_mps, first_context}
use Rattle.spec_cabac.specs.Contexts.{first_contexts, lps_range_of, pre_context_state}
use Rattle.spec_cabac.specs.declared.init_values.TheConstants.{INIT_VALUES}
use Rattle.spec_cabac.specs.Engine.{Engine, decision_at, start_at}
use Rattle.spec_cabac.proofs.TableRules.{state_after_lps_bound, state_after_mps_bound}
use Rattle.ctu_records.specs.Tree.{Ctu}
use Rattle.spec_slice_data.specs.declared.syntax.CtuSyntax.{CtuSyntax}
use Rattle.spec_slice_data.specs.declared.syntax.End.{End}
use Rattle.spec_slice_data.specs.Segment.{Between, PictureShape, SegmentShape, before_unit, begins_row}
use Rattle.spec_slice_data.specs.Segment.{begins_substream}
use Rattle.spec_slice_data.specs.Segment.{behind_unit, contexts_before, has_stored, is_first, judged_end, qp_before}
use Rattle.spec_slice_data.specs.Segment.{read_unit, restarted, substream_of, then_unit, unit_at, unit_step}
use Rattle.sample_laws.proofs.UnitLawsLemmas.{cond_holds}
use Rattle.sample_laws.proofs.UnitLawsLemmas.{OkHolds}
use Rattle.flight_value_laws.specs.Ranges.{AreContexts}

-- ---- a context behind a bin

exchanged_small : (b : Bool) (m : ℕ) → m < 2 → (if b then 1 - m else m) < 2
exchanged_small true m h = omega arith
exchanged_small false m h = omega (arith, h)

lps_small : (context : ℕ) → context < 126 → context_after_lps context < 126
unfolding context_after_lps
lps_small context small =
    let b = state_after_lps_bound (context / 2) (omega (arith, small)) in
    let e = exchanged_small (context / 2 == 0) (context % 2) (omega arith) in
    omega (arith, b, e)

mps_small : (context : ℕ) → context < 126 → context_after_mps context < 126
unfolding context_after_mps
mps_small context small =
    let b = state_after_mps_bound (context / 2) (omega (arith, small)) in omega (arith, b)

behind_one : (m : Option Engine) (bin : Bool) (next : ℕ) (d : Bool × (Engine × ℕ)) → next < 126
    → (m >>= (λ after. Some (bin, (after, next)))) ≡ Some d → d.1.1 < 126
behind_one None bin next d small e = absurd cc
behind_one (Some after) bin next d small e =
    let is : (bin, (after, next)) ≡ d = cc in subst (λ (v : Bool × (Engine × ℕ)). v.1.1 < 126) is small

by_side : (b : Bool) (m n : Option Engine) (mps : Bool) (low high : ℕ) (d : Bool × (Engine × ℕ)) → low < 126
    → high < 126
    → (if b then (m >>= (λ after. Some (not mps, (after, low)))) else (n >>= (λ after. Some (mps, (after, high)))))
    ≡ Some d → d.1.1 < 126
by_side true m n mps low high d small too e = behind_one m (not mps) low d small e
by_side false m n mps low high d small too e = behind_one n mps high d too e

decision_small : (before : Engine × ℕ) (d : Bool × (Engine × ℕ)) → before.1 < 126 → decision_at before ≡ Some d
    → d.1.1 < 126
unfolding decision_at
decision_small before d small e =
    by_side (nat_le (before.0.range - lps_range_of (before.1 / 2) before.0.range) before.0.offset) _ _
    (before.1 % 2 == 1) (context_after_lps before.1) (context_after_mps before.1) d (lps_small before.1 small)
    (mps_small before.1 small) e

-- ---- all of them

pub context_at : (contexts : List ℕ) (i : ℕ) → AreContexts contexts → slice_index contexts i < 126
context_at contexts i are = elim (cases_lt i (length contexts)) [
  | inl inside ↦ are.small i 0 inside
  | inr past ↦ let zero : slice_index contexts i ≡ 0 = get_or_past contexts i 0 past in omega (arith, zero)
]

set_are : (contexts : List ℕ) (i v : ℕ) → AreContexts contexts → v < 126 → AreContexts (slice_set contexts i v)
set_are contexts i v are small = record {
  count = length-set contexts i v ∙ are.count;
  small = All-set (λ (n : ℕ). n < 126) contexts i v small are.small;
}

decided_are : (contexts : List ℕ) (i : ℕ) (o : Option (Bool × (Engine × ℕ))) (x : Bool) (t : State)
    → AreContexts contexts → ((d : Bool × (Engine × ℕ)) → o ≡ Some d → d.1.1 < 126)
    → decided contexts i o ≡ Ok (x, t) → AreContexts t.1
decided_are contexts i None x t are small e = absurd cc
decided_are contexts i (Some d) x t are small e =
    let is : (d.0, (d.1.0, slice_set contexts i d.1.1)) ≡ (x, t) = cc in
    subst (λ (v : Bool × State). AreContexts v.1.1) is (set_are contexts i d.1.1 are (small d refl))

stepped_are : {X : Type 0} (contexts : List ℕ) (o : Option (X × Engine)) (x : X) (t : State) → AreContexts contexts
    → stepped contexts o ≡ Ok (x, t) → AreContexts t.1
stepped_are contexts None x t are e = absurd cc
stepped_are {X = X} contexts (Some d) x t are e =
    let is : (d.0, (d.1, contexts)) ≡ (x, t) = cc in subst (λ (v : X × State). AreContexts v.1.1) is are

moved_are : (contexts : List ℕ) (o : Option Engine) (x : Unit {0}) (t : State) → AreContexts contexts
    → moved contexts o ≡ Ok (x, t) → AreContexts t.1
moved_are contexts None x t are e = absurd cc
moved_are contexts (Some d) x t are e =
    let is : (tt, (d, contexts)) ≡ (x, t) = cc in subst (λ (v : Unit {0} × State). AreContexts v.1.1) is are

placed_are : (contexts : List ℕ) (o : Option (ℕ × Engine)) (x : Unit {0}) (t : State) → AreContexts contexts
    → placed contexts o ≡ Ok (x, t) → AreContexts t.1
placed_are contexts None x t are e = absurd cc
placed_are contexts (Some d) x t are e =
    let is : (tt, (d.1, contexts)) ≡ (x, t) = cc in subst (λ (v : Unit {0} × State). AreContexts v.1.1) is are

bin_are : (a : Bin) (s : State) (x : BinValue a) (t : State) → AreContexts s.1 → bin_at a s ≡ Ok (x, t)
    → AreContexts t.1
unfolding bin_at
bin_are (Decision i) s x t are e =
    decided_are s.1 i (decision_at (s.0, slice_index s.1 i)) x t are
    (λ d is. decision_small (s.0, slice_index s.1 i) d (context_at s.1 i are) is) e
bin_are Bypass s x t are e = stepped_are s.1 _ x t are e
bin_are Terminate s x t are e = stepped_are s.1 _ x t are e
bin_are PcmStart s x t are e = placed_are s.1 _ x t are e
bin_are (Sample size) s x t are e = stepped_are s.1 _ x t are e
bin_are PcmEnd s x t are e = moved_are s.1 _ x t are e

-- whatever the format
read_are : {X : Type 0} (format : Tree X) (s : State) (x : X) (t : State) → AreContexts s.1
    → read format s ≡ Ok (x, t) → AreContexts t.1
read_are {X = X} (Give v) s x t are e =
    let is : (v, s) ≡ (x, t) = cc in subst (λ (w : X × State). AreContexts w.1.1) is are
read_are (Refuse breach) s x t are e = absurd cc
read_are (One a) s x t are e = bin_are a s x t are e
read_are (Then m f) s x t are e =
    let step = bind_ok (read m s) (λ v u. read (f v) u) (x, t) e in
    read_are (f step.value) step.state x t (read_are m s step.value step.state are step.read) step.then_read

-- ---- those that a slice begins with

clipped_is : (z : ℤ) → pos 1 ≤ℤ z → z ≤ℤ pos 126 → (1 ≤ mag z) × (mag z ≤ 126)
clipped_is (pos n) low high = (omega (arith, ints, low), omega (arith, ints, high))
clipped_is (negsuc n) low high = absurd (omega (arith, ints, low))

clip_is : (z : ℤ) → (1 ≤ mag (clip3 (pos 1) (pos 126) z)) × (mag (clip3 (pos 1) (pos 126) z) ≤ 126)
clip_is z =
    let v : ℤ = int_min z (pos 126) in
    let most : v ≤ℤ pos 126 = omega (arith, ints, int_min_is z (pos 126)) in
    let least : pos 1 ≤ℤ int_max (pos 1) v = omega (arith, ints, int_max_is (pos 1) v) in
    let below : int_max (pos 1) v ≤ℤ pos 126 = omega (arith, ints, int_max_is (pos 1) v, most) in
    clipped_is (int_max (pos 1) v) least below

pre_small : (b : Bool) (pre : ℕ) → 1 ≤ pre → pre ≤ 126 → cond b (2 * (63 - pre)) (2 * (pre - 64) + 1) < 126
pre_small true pre low high = omega (arith, low)
pre_small false pre low high = omega (arith, high)

first_small : (qp value : ℕ) → first_context qp value < 126
unfolding first_context pre_context_state
first_small qp value =
    let is = clip_is (int_shr ((pos (value / 16 * 5) -ℤ pos 45) *ℤ pos qp) 4 +ℤ (pos (value % 16 * 8) -ℤ pos 16)) in
    pre_small (nat_le _ 63) _ is.0 is.1

pub first_are : (qp : ℤ) (init_type : ℕ) → AreContexts (first_contexts qp init_type)
unfolding first_contexts
first_are qp init_type =
    let held : ℕ = mag (clip3 (pos 0) (pos 51) qp) in
    let values : List ℕ = slice_index_or INIT_VALUES init_type [] in
    let of : ℕ → ℕ = λ i. first_context held (slice_index values i) in
    record {
      count = length-map-range_with_len of 0 154;
      small = All-map (λ (n : ℕ). n < 126) of (range_with_len 0 154)
          (λ k d inside. first_small held (slice_index values (slice_index_or (range_with_len 0 154) k d)));
    }

-- ---- a unit over what stands before it

pub record HasContexts (b : Between) : Type 0 where
  pub contexts : AreContexts b.contexts
  pub stored : AreContexts b.stored

module _ (common : CtuSyntax) (picture : PictureShape) (segment : SegmentShape) (address : ℕ)
    (first : AreContexts segment.contexts) where
  either : (b : Bool) (x y : List ℕ) → AreContexts x → AreContexts y → AreContexts (cond b x y)
  either true x y is too = is
  either false x y is too = too

  before_are : (b : Between) → HasContexts b → AreContexts (contexts_before picture segment address b)
  unfolding contexts_before
  before_are b has =
      either (begins_row picture address) _ _
      (either (has_stored picture segment address) b.stored segment.contexts has.stored first)
      (either (is_first segment address && not segment.dependent) segment.contexts b.contexts first has.contexts)

  restarted_has : (b : Between) (contexts : List ℕ) (last : ℕ) (start : Option Engine) → AreContexts contexts
      → HasContexts b → OkHolds HasContexts (restarted contexts last b start)
  restarted_has b contexts last None are has = tt
  restarted_has b contexts last (Some engine) are has = record { contexts = are; stored = has.stored }

  start_has : (b : Between) → HasContexts b → OkHolds HasContexts (before_unit picture segment address b)
  unfolding before_unit
  start_has b has =
      cond_holds (OkHolds HasContexts) (begins_substream picture segment address) _ (Ok b)
      (restarted_has b (contexts_before picture segment address b) (qp_before picture segment address b)
      (start_at (bits (slice_index_or segment.substreams (substream_of picture segment address) [])))
      (before_are b has) has) has

  abbrev Has : Between → Type 0
  Has b = AreContexts b.contexts

  behind_has : (b : Between) (r : Result ((Ctu × End) × State) Breach)
      → OkHolds (λ (x : (Ctu × End) × State). AreContexts x.1.1) r → OkHolds Has (behind_unit picture address b r)
  behind_has b (Err e) are = tt
  behind_has b (Ok r) are = cond_holds (OkHolds Has) (judged_end r.0.1 r.1.0) _ _ are tt

  read_ok : (format : Tree (Ctu × End)) (s : State) (r : Result ((Ctu × End) × State) Breach) → AreContexts s.1
      → read format s ≡ r → OkHolds (λ (x : (Ctu × End) × State). AreContexts x.1.1) r
  read_ok format s (Ok x) are is = read_are format s x.0 x.1 are is
  read_ok format s (Err e) are is = tt

  read_has : (b : Between) → HasContexts b → OkHolds Has (read_unit common picture segment address b)
  unfolding read_unit
  read_has b has =
      behind_has b (read (unit_at common picture segment address b) (b.engine, b.contexts))
      (read_ok (unit_at common picture segment address b) (b.engine, b.contexts) _ has.contexts refl)

  then_has : (r : Result Between Breach) → OkHolds HasContexts r
      → OkHolds Has (then_unit common picture segment address r)
  then_has (Err e) has = tt
  then_has (Ok b) has = read_has b has

  pub step_has : (b : Between) → HasContexts b
      → OkHolds (λ (c : Between). AreContexts c.contexts) (unit_step common picture segment address b)
  step_has b has = then_has (before_unit picture segment address b) (start_has b has)
