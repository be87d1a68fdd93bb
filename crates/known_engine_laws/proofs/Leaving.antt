-- What known units leave, one after the other.
use Rattle.std.proofs.Common.{◌≡◌, ℕ, zero, suc, ◌+◌, ◌-◌, ◌/◌, ◌%◌, ◌<◌, ◌≤◌, Bool, true, false, ◌&&◌, ◌||◌, List}
use Rattle.std.proofs.Common.{[]}
use Rattle.std.proofs.Common.{◌∷◌, ◌++◌, length, Option, Some, None, is_some, Result, Ok, Err, if◌then◌else◌}
use Rattle.std.proofs.Common.{refl, ap, sym}
use Rattle.std.proofs.Common.{subst, ◌∙◌, arith, nat_lt}
use Rattle.std.specs.Prelude.{slice_index, slice_index_or, not, ◌==◌}
use Rattle.std.specs.List.{list_all}
use Rattle.std.proofs.lemmas.Bool.{ltb-true, ltb-false, lt-ltb, eqb-true, eqb-false, false_from_ne_true}
use Rattle.hv_base.specs.declared.breach.Breach.{Breach}
use Rattle.hv_base.specs.declared.breach.Breach.TheVariants as breach
use Rattle.hv_base.specs.declared.fault.FaultKind.TheVariants as rule
use Rattle.header_types.specs.SequenceParameterSets.{size_in_ctbs}
use Rattle.plan_types.specs.declared.picture_plan.PicturePlan.{PicturePlan}
use Rattle.ctu_records.specs.Tree.{Ctu}
use Rattle.spec_bits.specs.Bits.{bits}
use Rattle.spec_cabac.specs.Engine.{Engine, IsLive, start_at}
use Rattle.spec_cabac.specs.Bins.{State, read}
use Rattle.spec_slice_data.specs.declared.syntax.End.{End}
use Rattle.spec_slice_data.specs.Segment.{Between, SegmentShape, PictureShape, before_unit, begins_row}
use Rattle.spec_slice_data.specs.Segment.{begins_substream}
use Rattle.spec_slice_data.specs.Segment.{behind_unit, contexts_before, has_stored, is_first, is_last, judged_end}
use Rattle.spec_slice_data.specs.Segment.{next_unit}
use Rattle.spec_slice_data.specs.Segment.{stored_behind}
use Rattle.spec_slice_data.specs.Segment.{qp_before, read_unit, restarted, substream_of, syntax_at, then_unit}
use Rattle.spec_slice_data.specs.Segment.{unit_at}
use Rattle.spec_slice_data.specs.Segment.{unit_begins, unit_of, unit_step}
use Rattle.spec_picture_trees.specs.Picture.{SegmentAt, before_picture}
use Rattle.spec_known_units.specs.Known.{Entries, KnownUnit, behind_step, between_from, contexts_behind}
use Rattle.spec_known_units.specs.Known.{engine_behind}
use Rattle.spec_known_units.specs.Known.{entries_before, goes_on, if_used, known_of, picture_segments, read_in}
use Rattle.spec_known_units.specs.Known.{read_uses}
use Rattle.spec_known_units.specs.Known.{segment_having, unit_read, units_known}
use Rattle.known_unit_laws.proofs.Entries.{known_step}
use Rattle.engine_laws.specs.Going.{IsGoing, IsWithin}
use Rattle.engine_laws.proofs.Engines.{started_is}
use Rattle.engine_laws.proofs.Units.{EndsAs, unit_leaves}
use Rattle.known_engine_laws.specs.Leaving.{LeavesEngine}
use Rattle.known_engine_laws.proofs.Contexts.{first_contexts_below}
use Rattle.known_engine_laws.proofs.Segments.{IsSegment, former_having, having_is, some_is}

abbrev Below : List ℕ → Type 0
Below contexts = (i : ℕ) → slice_index contexts i < 126

or_first : (a b : Bool) → (a || b) ≡ false → a ≡ false
or_first true b e = absurd cc
or_first false b e = refl

or_second : (a b : Bool) → (a || b) ≡ false → b ≡ false
or_second true b e = absurd cc
or_second false b e = e

or_false : (a : Bool) → (a || false) ≡ a
or_false true = refl
or_false false = refl

and_first : (a b : Bool) → (a && b) ≡ true → a ≡ true
and_first true b e = refl
and_first false b e = absurd cc

-- a unit that is known was read
known_read : (o : Option (Result KnownUnit Breach)) (known : KnownUnit) → known_of o ≡ Some known → o ≡ Some (Ok known)
known_read None known e = absurd cc
known_read (Some (Err b)) known e = absurd cc
known_read (Some (Ok u)) known e = ap (λ (k : KnownUnit). Some (Ok k)) (some_is u known e)

-- it was read by a step, where what it uses is known
record IsStep (entries : Entries) (at : SegmentAt) (address : ℕ) (known : KnownUnit) : Type 0 where
  used : list_all (λ u. is_some (entries u)) (read_uses at address) ≡ true
  after : Between
  step : unit_step at.syntax at.picture at.shape address (between_from entries at.picture address) ≡ Ok after
  engine : known.engine ≡ after.engine
  contexts : known.contexts ≡ after.contexts

ok_of : {X : Type 0} → X → Result X Breach → X
ok_of d (Ok x) = x
ok_of d (Err b) = d

ok_same : {X : Type 0} (x y : X) (r : Result X Breach) → r ≡ Ok x → r ≡ Ok y → x ≡ y
unfolding ok_of
ok_same x y r e f = ap (ok_of x) (sym e ∙ f)

behind_ok : (at : SegmentAt) (address : ℕ) (r : Result Between Breach) (known : KnownUnit)
    → Some (behind_step at address r) ≡ Some (Ok known)
    → (after : Between) × (r ≡ Ok after) × (known.engine ≡ after.engine) × (known.contexts ≡ after.contexts)
behind_ok at address (Err b) known e = absurd cc
behind_ok at address (Ok after) known e =
    let u : KnownUnit = record {
      segment = at.number;
      read = unit_of at.picture after address;
      engine = after.engine;
      contexts = after.contexts;
      last = after.last;
    } in
    let same : u ≡ known = ok_same u known (Ok u) refl (some_is (Ok u) (Ok known) e) in
    (after, refl, ap (λ (k : KnownUnit). k.engine) (sym same), ap (λ (k : KnownUnit). k.contexts) (sym same))

step_if : (entries : Entries) (at : SegmentAt) (address : ℕ) (known : KnownUnit) (b : Bool)
    → list_all (λ u. is_some (entries u)) (read_uses at address) ≡ b
    → (if b then Some (behind_step at address
    (unit_step at.syntax at.picture at.shape address (between_from entries at.picture address))) else None)
    ≡ Some (Ok known)
    → IsStep entries at address known
step_if entries at address known true used e =
    let found = behind_ok at address
    (unit_step at.syntax at.picture at.shape address (between_from entries at.picture address)) known e in
    record { used = used; after = found.0; step = found.1; engine = found.2; contexts = found.3 }
step_if entries at address known false used e = absurd cc

in_segment : (entries : Entries) (address : ℕ) (o : Option SegmentAt) (known : KnownUnit)
    → read_in entries address o ≡ Some (Ok known) → (at : SegmentAt) × (o ≡ Some at) × IsStep entries at address known
unfolding read_in
in_segment entries address None known e = absurd cc
in_segment entries address (Some at) known e =
    (at, refl, step_if entries at address known (list_all (λ u. is_some (entries u)) (read_uses at address)) refl e)

-- the contexts before a unit may be
before_if : (segment : SegmentShape) (between : Between) (row stored first : Bool) → Below segment.contexts
    → Below between.contexts → Below between.stored
    → Below (if row then (if stored then between.stored else segment.contexts)
    else (if first then segment.contexts else between.contexts))
before_if segment between true true first of_slice here kept = kept
before_if segment between true false first of_slice here kept = of_slice
before_if segment between false stored true of_slice here kept = of_slice
before_if segment between false stored false of_slice here kept = here

contexts_below : (picture : PictureShape) (segment : SegmentShape) (address : ℕ) (between : Between)
    → Below segment.contexts → Below between.contexts → Below between.stored
    → Below (contexts_before picture segment address between)
unfolding contexts_before
contexts_below picture segment address between of_slice here kept =
    before_if segment between (begins_row picture address) (has_stored picture segment address)
    (is_first segment address && not segment.dependent) of_slice here kept

-- the engine before a unit: it begins anew, or goes on
record IsBegun (at : SegmentAt) (address : ℕ) (between begun : Between) : Type 0 where
  stream : List Bool
  going : IsGoing stream (begun.engine, begun.contexts)
  anew : begins_substream at.picture at.shape address ≡ true
      → stream ≡ bits (slice_index_or at.shape.substreams (substream_of at.picture at.shape address) [])
  on : begins_substream at.picture at.shape address ≡ false → stream ≡ between.engine.bits

restarted_is : (contexts : List ℕ) (last : ℕ) (between begun : Between) (stream : List Bool) → Below contexts
    → (o : Option Engine) → start_at stream ≡ o → restarted contexts last between o ≡ Ok begun
    → IsGoing stream (begun.engine, begun.contexts)
restarted_is contexts last between begun stream all None is e = absurd cc
restarted_is contexts last between begun stream all (Some f) is e =
    let first : Engine = record { range = 510; offset = 0; bits = stream; at = 0 } in
    let started = started_is first f is in
    let made : Between =
    record { engine = f; contexts = contexts; stored = between.stored; last = last; units = between.units } in
    subst (λ (b : Between). IsGoing stream (b.engine, b.contexts)) (ok_same made begun (Ok made) refl e)
    (record {
      within =
          record { bits = started.inside.bits; at = started.inside.at (omega arith); contexts = all };
      live = started.live;
    })

begun_if : (at : SegmentAt) (address : ℕ) (between begun : Between) (b : Bool)
    → begins_substream at.picture at.shape address ≡ b
    → Below (contexts_before at.picture at.shape address between) → Below between.contexts
    → (b ≡ false → IsGoing between.engine.bits (between.engine, between.contexts))
    → (if b
    then restarted (contexts_before at.picture at.shape address between)
    (qp_before at.picture at.shape address between) between
    (start_at (bits (slice_index_or at.shape.substreams (substream_of at.picture at.shape address) [])))
    else Ok between)
    ≡ Ok begun
    → IsBegun at address between begun
begun_if at address between begun true is all here on e =
    let stream = bits (slice_index_or at.shape.substreams (substream_of at.picture at.shape address) []) in
    record {
      stream = stream;
      going = restarted_is _ _ between begun stream all (start_at stream) refl e;
      anew = λ begins. refl;
      on = λ no. absurd cc;
    }
begun_if at address between begun false is all here on e =
    record {
      stream = between.engine.bits;
      going =
          subst (λ (b : Between). IsGoing between.engine.bits (b.engine, b.contexts))
          (ok_same between begun (Ok between) refl e) (on refl);
      anew = λ begins. absurd cc;
      on = λ no. refl;
    }

begun_is : (at : SegmentAt) (address : ℕ) (between begun : Between)
    → Below (contexts_before at.picture at.shape address between) → Below between.contexts
    → (begins_substream at.picture at.shape address ≡ false
    → IsGoing between.engine.bits (between.engine, between.contexts))
    → before_unit at.picture at.shape address between ≡ Ok begun
    → IsBegun at address between begun
unfolding before_unit
begun_is at address between begun all here on e =
    begun_if at address between begun (begins_substream at.picture at.shape address) refl all here on e

-- behind a unit
record IsBehind (at : SegmentAt) (address : ℕ) (stream : List Bool) (after : Between) : Type 0 where
  within : IsWithin stream (after.engine, after.contexts)
  live : is_last at.shape address ≡ false → begins_row at.picture (address + 1) ≡ false → IsLive after.engine

abbrev made : SegmentAt → ℕ → Between → (Ctu × End) × State → Between
made at address between r = record {
  engine = r.1.0;
  contexts = r.1.1;
  stored = stored_behind at.picture address r.1.1 between.stored;
  last = r.0.0.quantization.last;
  units = between.units ++ r.0.0 ∷ [];
}

behind_if : (at : SegmentAt) (address : ℕ) (stream : List Bool) (between after : Between) (r : (Ctu × End) × State)
    → EndsAs stream (is_last at.shape address) (begins_row at.picture (next_unit address)) r.0.1 r.1 → (b : Bool)
    → (if b then Ok (made at address between r) else Err (breach.Fault rule.TrailingBits)) ≡ Ok after
    → IsBehind at address stream after
behind_if at address stream between after r ends true e =
    subst (IsBehind at address stream)
    (ok_same (made at address between r) after (Ok (made at address between r)) refl e)
    (record { within = ends.within; live = λ last row. (ends.going (ends.more last row)).live })
behind_if at address stream between after r ends false e = absurd cc

behind_read : (at : SegmentAt) (address : ℕ) (stream : List Bool) (between after : Between)
    (q : Result ((Ctu × End) × State) Breach)
    → ((r : (Ctu × End) × State) → q ≡ Ok r
    → EndsAs stream (is_last at.shape address) (begins_row at.picture (next_unit address)) r.0.1 r.1)
    → behind_unit at.picture address between q ≡ Ok after
    → IsBehind at address stream after
behind_read at address stream between after (Err b) ends e = absurd cc
behind_read at address stream between after (Ok r) ends e =
    behind_if at address stream between after r (ends r refl) (judged_end r.0.1 r.1.0) e

then_behind : (at : SegmentAt) (address : ℕ) (before after : Between) (b : Result Between Breach)
    → before_unit at.picture at.shape address before ≡ b
    → then_unit at.syntax at.picture at.shape address b ≡ Ok after
    → ((begun : Between) → b ≡ Ok begun → IsBegun at address before begun)
    → (begun : Between) × IsBegun at address before begun
    × (read_unit at.syntax at.picture at.shape address begun ≡ Ok after)
then_behind at address before after (Err x) is e begins = absurd cc
then_behind at address before after (Ok begun) is e begins = (begun, begins begun refl, e)

read_behind : (at : SegmentAt) (address : ℕ) (stream : List Bool) (begun after : Between)
    → IsGoing stream (begun.engine, begun.contexts)
    → read_unit at.syntax at.picture at.shape address begun ≡ Ok after → IsBehind at address stream after
unfolding read_unit
read_behind at address stream begun after going e =
    behind_read at address stream begun after
    (read (unit_at at.syntax at.picture at.shape address begun) (begun.engine, begun.contexts))
    (λ r is.
    unit_leaves (syntax_at at.syntax at.picture at.shape address) (unit_of at.picture begun (address - 1)).sao
    (unit_of at.picture begun (address - at.picture.width)).sao (is_last at.shape address)
    (begins_row at.picture (next_unit address)) (unit_begins at.picture at.shape address begun) stream
    (begun.engine, begun.contexts) r.1 r.0 going is)
    e

first_used : (test : ℕ → Bool) (b : Bool) (a : ℕ) (rest : List ℕ) → b ≡ true
    → list_all test (if_used b a ++ rest) ≡ true → test a ≡ true
first_used test true a rest is all = and_first (test a) (list_all test rest) all
first_used test false a rest is all = absurd cc

module _ (p : PicturePlan) where
  abbrev LeavesAt : ℕ → Type 0
  LeavesAt n =
      (at : SegmentAt) (known : KnownUnit) → segment_having (picture_segments p) n ≡ Some at
      → units_known p n ≡ Some known → LeavesEngine at n known

  of_picture : (n : ℕ) (at : SegmentAt) → segment_having (picture_segments p) n ≡ Some at → IsSegment 0 n at
  of_picture n at is = having_is p p.segments 0 0 n at is

  former_of : (n : ℕ) (at : SegmentAt) → segment_having (picture_segments p) n ≡ Some at → at.shape.first < n
      → segment_having (picture_segments p) (n - 1) ≡ Some at
  former_of n at is after = former_having p p.segments 0 0 n at is after

  reading : (n : ℕ) (known : KnownUnit) → n < size_in_ctbs p.sps → units_known p n ≡ Some known
      → (at : SegmentAt) × (segment_having (picture_segments p) n ≡ Some at)
      × IsStep (entries_before (units_known p) n) at n known
  unfolding unit_read
  reading n known lt is =
      in_segment (entries_before (units_known p) n) n (segment_having (picture_segments p) n) known
      (known_read (unit_read p (units_known p) n) known (sym (known_step p n lt) ∙ is))

  module _ (n : ℕ) (lt : n < size_in_ctbs p.sps) (ih : (k : ℕ) → k < n → LeavesAt k) where
    abbrev entries : Entries
    entries = entries_before (units_known p) n

    none_below : (i : ℕ) → slice_index before_picture.contexts i < 126
    unfolding before_picture
    none_below i = first_contexts_below _ _ i

    entry_below : (k : ℕ) (b : Bool) → nat_lt k n ≡ b → (o : Option KnownUnit) → units_known p k ≡ o
        → Below (contexts_behind (if b then o else None))
    entry_below k true before None is = none_below
    entry_below k true before (Some u) is =
        let inside = ltb-true k n before in
        let found = reading k u (omega (arith, inside, lt)) is in
        (ih k inside found.0 u found.1 is).contexts
    entry_below k false after o is = none_below

    below : (k : ℕ) → Below (contexts_behind (entries k))
    below k = entry_below k (nat_lt k n) refl (units_known p k) refl

    -- where the unit goes on, what stands behind the former one does
    module _ (at : SegmentAt) (having : segment_having (picture_segments p) n ≡ Some at)
        (used : list_all (λ u. is_some (entries u)) (read_uses at n) ≡ true)
        (no : begins_substream at.picture at.shape n ≡ false) where
      here : IsSegment 0 n at
      here = of_picture n at having

      not_first : is_first at.shape n ≡ false
      not_first = or_first (is_first at.shape n) (begins_row at.picture n) no

      not_row : begins_row at.picture n ≡ false
      not_row = or_second (is_first at.shape n) (begins_row at.picture n) no

      after_first : at.shape.first < n
      after_first = omega (arith, here.from, eqb-false n at.shape.first not_first)

      goes : goes_on at n ≡ true
      goes =
          ap (λ b. nat_lt 0 n && not (b || (is_first at.shape n && not at.shape.dependent))) not_row
          ∙ ap (λ b. nat_lt 0 n && not (false || (b && not at.shape.dependent))) not_first
          ∙ ap (λ b. b && true) (lt-ltb 0 n (omega (arith, after_first)))

      former_known : is_some (entries (n - 1)) ≡ true
      unfolding read_uses
      former_known = first_used (λ u. is_some (entries u)) (goes_on at n) (n - 1) _ goes used

      going_by : (b : Bool) → nat_lt (n - 1) n ≡ b → (o : Option KnownUnit) → units_known p (n - 1) ≡ o
          → is_some (if b then o else None) ≡ true
          → IsGoing (engine_behind (if b then o else None)).bits
          (engine_behind (if b then o else None), contexts_behind (if b then o else None))
          × (at.picture.sync ≡ false
          → (engine_behind (if b then o else None)).bits ≡ bits (slice_index_or at.shape.substreams 0 []))
      going_by true before None is some = absurd cc
      going_by true before (Some u) is some =
          let left = ih (n - 1) (ltb-true (n - 1) n before) at u (former_of n at having after_first) is in
          let back : n - 1 + 1 ≡ n = omega (arith, after_first) in
          let last : is_last at.shape (n - 1) ≡ false =
          false_from_ne_true (is_last at.shape (n - 1))
          (λ e. omega (arith, eqb-true (n - 1 + 1) (at.shape.first + at.shape.count) e, here.below, back)) in
          let row : begins_row at.picture (n - 1 + 1) ≡ false = ap (λ k. begins_row at.picture k) back ∙ not_row in (
            record {
              within = record { bits = refl; at = left.inside; contexts = left.contexts };
              live = left.live last row;
            },
            left.whole,
          )
      going_by false before o is some = absurd cc

      going : IsGoing (engine_behind (entries (n - 1))).bits
          (engine_behind (entries (n - 1)), contexts_behind (entries (n - 1)))
          × (at.picture.sync ≡ false
          → (engine_behind (entries (n - 1))).bits ≡ bits (slice_index_or at.shape.substreams 0 []))
      going = going_by (nat_lt (n - 1) n) refl (units_known p (n - 1)) refl former_known

    -- without entropy coding sync a segment has one substream
    first_row : (picture : PictureShape) (first address : ℕ) → address ≡ first
        → address / picture.width - first / picture.width ≡ 0
    first_row picture first address same =
        ap (λ k. k / picture.width - first / picture.width) same ∙ omega arith

    whole_by : (at : SegmentAt) → segment_having (picture_segments p) n ≡ Some at
        → list_all (λ u. is_some (entries u)) (read_uses at n) ≡ true → (begun : Between)
        → (is : IsBegun at n (between_from entries at.picture n) begun) → (b : Bool)
        → begins_substream at.picture at.shape n ≡ b → at.picture.sync ≡ false
        → is.stream ≡ bits (slice_index_or at.shape.substreams 0 [])
    unfolding between_from
    whole_by at having used begun is true begins unsynced =
        let row : begins_row at.picture n ≡ false = ap (λ b. b && (n % at.picture.width == 0)) unsynced in
        let first : is_first at.shape n ≡ true =
        sym (or_false (is_first at.shape n)) ∙ sym (ap (λ b. is_first at.shape n || b) row) ∙ begins in
        let zero_is = first_row at.picture at.shape.first n (eqb-true n at.shape.first first) in
        is.anew begins ∙ ap (λ k. bits (slice_index_or at.shape.substreams k [])) zero_is
    whole_by at having used begun is false goes unsynced = is.on goes ∙ (going at having used goes).1 unsynced

    leaves_by : (at : SegmentAt) (known : KnownUnit) → segment_having (picture_segments p) n ≡ Some at
        → (found : SegmentAt) → segment_having (picture_segments p) n ≡ Some found → IsStep entries found n known
        → LeavesEngine at n known
    unfolding between_from
    leaves_by at known having found again step =
        let same : found ≡ at = some_is found at (sym again ∙ having) in
        let is : IsStep entries at n known = subst (λ (a : SegmentAt). IsStep entries a n known) same step in
        let here = of_picture n at having in
        let before : Between = between_from entries at.picture n in
        let of_slice = contexts_below at.picture at.shape n before here.contexts (below (n - 1))
        (below (n - at.picture.width + 1)) in
        let begun = then_behind at n before is.after (before_unit at.picture at.shape n before) refl is.step
        (λ b e. begun_is at n before b of_slice (below (n - 1)) (λ no. (going at having is.used no).0) e) in
        let behind = read_behind at n begun.1.stream begun.0 is.after begun.1.going begun.2 in
        let stream : known.engine.bits ≡ begun.1.stream =
        ap (λ (e : Engine). e.bits) is.engine ∙ behind.within.bits in
        record {
          contexts = subst Below (sym is.contexts) behind.within.contexts;
          inside =
              subst (λ (e : Engine). e.at ≤ length e.bits) (sym is.engine)
              (subst (λ (b : List Bool). is.after.engine.at ≤ length b) (sym behind.within.bits) behind.within.at);
          whole = λ unsynced.
              stream ∙ whole_by at having is.used begun.0 begun.1 (begins_substream at.picture at.shape n)
              refl unsynced;
          live = λ last row. subst IsLive (sym is.engine) (behind.live last row);
        }

  leaves_at : (n : ℕ) → n < size_in_ctbs p.sps → ((k : ℕ) → k < n → LeavesAt k) → LeavesAt n
  leaves_at n lt ih at known having is =
      let found = reading n known lt is in leaves_by n lt ih at known having found.0 found.1 found.2

  last_or : (n k : ℕ) → n < size_in_ctbs p.sps → k < suc n → ((j : ℕ) → j < n → LeavesAt j) → (b : Bool)
      → nat_lt k n ≡ b → LeavesAt k
  last_or n k lt le ih true before = ih k (ltb-true k n before)
  last_or n k lt le ih false behind =
      let same : n ≡ k = omega (arith, le, ltb-false k n behind) in subst LeavesAt same (leaves_at n lt ih)

  leaves_below : (n : ℕ) → n ≤ size_in_ctbs p.sps → (k : ℕ) → k < n → LeavesAt k
  leaves_below zero le k below = absurd (omega arith)
  leaves_below (suc n) le k below =
      last_or n k (omega (arith, le)) below (leaves_below n (omega (arith, le))) (nat_lt k n) refl

  pub leaves : (n : ℕ) → n < size_in_ctbs p.sps → LeavesAt n
  leaves n lt = leaves_below (size_in_ctbs p.sps) (omega arith) n lt
