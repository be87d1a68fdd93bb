-- What is carried on to a unit.
use Rattle.std.proofs.Common.{◌≡◌, ℕ, ◌+◌, ◌-◌, ◌%◌, ◌<◌, ◌≤◌, ◌==◌, ◌&&◌, ◌||◌, Bool, true, false, List, [], All}
use Rattle.std.proofs.Common.{Some, None, if◌then◌else◌, length, refl, ap, sym, subst, ◌∙◌, arith, lt-ltb}
use Rattle.std.proofs.Common.{inl, inr}
use Rattle.std.specs.Prelude.{slice_index_or}
use Rattle.std.proofs.lemmas.Bool.{and_from, cases_lt, eq-eqb, eqb-true, false_from_ne_true}
use Rattle.header_types.specs.SequenceParameterSets.{IsSps, size_in_ctbs, width_in_ctbs}
use Rattle.plan_types.specs.declared.picture_plan.PicturePlan.{PicturePlan}
use Rattle.cabac_contexts.specs.Packing.{unpacked}
use Rattle.spec_cabac.specs.Engine.{Engine, IsLive}
use Rattle.spec_slice_data.specs.Segment.{PictureShape, begins_row, begins_substream, is_first, is_last}
use Rattle.spec_picture_trees.specs.Picture.{SegmentAt}
use Rattle.spec_picture_trees.specs.Shapes.{picture_shape}
use Rattle.unit_words.specs.UnitTrees.{UnitReader}
use Rattle.unit_words.specs.Above.{AreContexts, MayResume, ReadsOn}
use Rattle.unit_words.specs.Work.{carry_behind}
use Rattle.unit_words.proofs.Resumed.{contexts_found, may_be_resumed}
use Rattle.sample_words.specs.declared.carry.Carry.{Carry}
use Rattle.spec_known_units.specs.Known.{KnownUnit, contexts_behind, engine_behind, last_behind, picture_segments}
use Rattle.spec_known_units.specs.Known.{segment_having, units_known}
use Rattle.known_engine_laws.specs.Leaving.{LeavesEngine}
use Rattle.known_engine_laws.proofs.Leaving.{leaves}
use Rattle.known_engine_laws.proofs.Segments.{former_having, having_is, some_is}
use Rattle.flight_value_laws.proofs.Known.{contexts_fit}
use Rattle.flight_value_laws.proofs.Within.{shape_of}
use Rattle.row_trees.specs.Reading.{CarriesBehind, IsCarried, OfSegment, known_to}

pub or_first : (a b : Bool) → (a || b) ≡ false → a ≡ false
or_first true b e = absurd cc
or_first false b e = refl

pub or_second : (a b : Bool) → (a || b) ≡ false → b ≡ false
or_second true b e = absurd cc
or_second false b e = e

pub no_both : (b : Bool) → b ≡ true → b ≡ false → ⊥
no_both true e f = absurd cc
no_both false e f = absurd cc

and_other : (a b : Bool) → (a && b) ≡ false → b ≡ true → a ≡ false
and_other true b e t = absurd (no_both b t e)
and_other false b e t = refl

lt_of : (a b : ℕ) → a ≤ b → (b ≡ a → ⊥) → a < b
lt_of a b le other =
    elim (cases_lt a b) [
      | inl less ↦ less
      | inr not_less ↦ absurd (other (omega (arith, le, not_less)))
    ]

pub column_is : (p : PicturePlan) (address : ℕ) (at : SegmentAt) → address % width_in_ctbs p.sps ≡ 0
    → segment_having (picture_segments p) address ≡ Some at → address % at.picture.width ≡ 0
unfolding picture_shape
column_is p address at first having =
    let wide : at.picture.width ≡ width_in_ctbs p.sps =
    ap (λ (s : PictureShape). s.width) (shape_of p address at having) in
    ap (λ n. address % n) wide ∙ first

-- where each row has a substream of its own nothing is carried to a row
pub carried_anew : (p : PicturePlan) (address : ℕ) (reader : UnitReader)
    → p.pps.prediction.entropy_coding_sync_enabled_flag ≡ true → address % width_in_ctbs p.sps ≡ 0
    → OfSegment p address (IsCarried p address reader)
unfolding picture_shape
carried_anew p address reader on first at having =
    let sync : at.picture.sync ≡ true = ap (λ (s : PictureShape). s.sync) (shape_of p address at having) ∙ on in
    let column : address % at.picture.width ≡ 0 = column_is p address at first having in
    let begins : begins_row at.picture address ≡ true =
    and_from at.picture.sync _ sync (eq-eqb (address % at.picture.width) 0 column) in
    record {
      live = λ e. absurd (no_both (begins_row at.picture address) begins (or_second (is_first at.shape address) _ e));
      engine = λ e. absurd (no_both (begins_row at.picture address) begins (or_second (is_first at.shape address) _ e));
      contexts = λ e f. absurd (no_both (begins_row at.picture address) begins e);
      last = λ e f. absurd (no_both (begins_row at.picture address) begins e);
    }

-- a reader has the engine behind a known unit, where the next one goes on in the substream
abbrev pub HasEngine : ℕ → KnownUnit → UnitReader → SegmentAt → Type 0
HasEngine address known reader at =
    begins_substream at.picture at.shape (address + 1) ≡ false → reader.bins.interval ≡ known.engine

abbrev made : Engine → List ℕ → ℕ → UnitReader
made engine contexts last = record { bins = record { interval = engine; contexts = contexts }; last = last }

-- a reader with what a known unit leaves
abbrev pub reader_behind : KnownUnit → UnitReader
reader_behind known = made known.engine known.contexts known.last

-- before the unit behind a known one
module _ (p : PicturePlan) (address : ℕ) (inside : address < size_in_ctbs p.sps) (known : KnownUnit)
    (is : units_known p address ≡ Some known) where
  pub former_is : known_to p (address + 1) (address + 1 - 1) ≡ Some known
  former_is =
      let e : address + 1 - 1 ≡ address = omega arith in
      ap (known_to p (address + 1)) e
      ∙ ap (λ b. if b then units_known p address else None) (lt-ltb address (address + 1) (omega arith)) ∙ is

  -- which goes on in the substream
  module _ (at : SegmentAt) (having : segment_having (picture_segments p) (address + 1) ≡ Some at)
      (goes : begins_substream at.picture at.shape (address + 1) ≡ false) where
    after : at.shape.first < address + 1
    after =
        let not_first : is_first at.shape (address + 1) ≡ false = or_first (is_first at.shape (address + 1)) _ goes in
        lt_of at.shape.first (address + 1) (having_is p p.segments 0 0 (address + 1) at having).from
        (λ e. no_both (is_first at.shape (address + 1)) (eq-eqb (address + 1) at.shape.first e) not_first)

    same : segment_having (picture_segments p) address ≡ Some at
    same =
        let e : address + 1 - 1 ≡ address = omega arith in
        ap (segment_having (picture_segments p)) (sym e) ∙ former_having p p.segments 0 0 (address + 1) at having after

    left_engine : LeavesEngine at address known
    left_engine = leaves p address inside at known same is

    live_next : IsLive known.engine
    live_next =
        let below = (having_is p p.segments 0 0 (address + 1) at having).below in
        let inner : is_last at.shape address ≡ false =
        false_from_ne_true (is_last at.shape address) (λ t.
        omega (arith, below, eqb-true (address + 1) (at.shape.first + at.shape.count) t)) in
        left_engine.live inner (or_second (is_first at.shape (address + 1)) _ goes)

    -- without substreams of its own a row goes on in that of the segment
    reads_on : (address + 1) % width_in_ctbs p.sps ≡ 0 → AreContexts known.contexts
        → ReadsOn (slice_index_or at.shape.substreams 0 []) (reader_behind known)
    reads_on first contexts =
        let column = column_is p (address + 1) at first having in
        let unsynced : at.picture.sync ≡ false =
        and_other at.picture.sync ((address + 1) % at.picture.width == 0)
        (or_second (is_first at.shape (address + 1)) _ goes)
        (eq-eqb ((address + 1) % at.picture.width) 0 column) in
        record {
          bits = left_engine.whole unsynced;
          inside = left_engine.inside;
          live = live_next;
          contexts = contexts;
        }

  pub carried_next : (reader : UnitReader) → reader.bins.contexts ≡ known.contexts → reader.last ≡ known.last
      → OfSegment p (address + 1) (HasEngine address known reader)
      → OfSegment p (address + 1) (IsCarried p (address + 1) reader)
  carried_next reader contexts last engine at having = record {
    live = λ e. subst IsLive (sym (engine at having e)) (live_next at having e);
    engine = λ e. engine at having e ∙ sym (ap engine_behind former_is);
    contexts = λ e f. contexts ∙ sym (ap contexts_behind former_is);
    last = λ e f. last ∙ sym (ap last_behind former_is);
  }

-- contexts that are known may be
known_contexts : (p : PicturePlan) (sps : IsSps p.sps) (address : ℕ) (known : KnownUnit)
    → units_known p address ≡ Some known → AreContexts known.contexts
known_contexts p sps address known is =
    let are = contexts_fit p sps address in
    let same : contexts_behind (units_known p address) ≡ known.contexts = ap contexts_behind is in
    record {
      count = ap length (sym same) ∙ are.count;
      small = subst (All (λ value. value < 126)) same are.small;
    }

-- at the first unit of a row below the first one, behind what the row above carries on
module _ (p : PicturePlan) (sps : IsSps p.sps) (address : ℕ) (some : 0 < address)
    (inside : address < size_in_ctbs p.sps) (carry : Carry) (carries : CarriesBehind p address carry) where
  back : address - 1 + 1 ≡ address
  back = omega (arith, some)

  abbrev known : KnownUnit
  known = carries.known

  contexts : AreContexts known.contexts
  contexts = known_contexts p sps (address - 1) known carries.is

  pub contexts_are : unpacked carry.contexts ≡ known.contexts
  contexts_are = contexts_found carry.contexts known.contexts contexts (ap (λ (c : Carry). c.contexts) carries.carried)

  pub contexts_small : All (λ value. value < 126) (unpacked carry.contexts)
  contexts_small = subst (All (λ value. value < 126)) (sym contexts_are) contexts.small

  pub goes_on : (at : SegmentAt) → segment_having (picture_segments p) address ≡ Some at
      → address % width_in_ctbs p.sps ≡ 0 → begins_substream at.picture at.shape address ≡ false
      → ReadsOn (slice_index_or at.shape.substreams 0 []) (reader_behind known)
  goes_on at having first goes =
      reads_on p (address - 1) (omega (arith, inside)) known carries.is at
      (ap (segment_having (picture_segments p)) back ∙ having)
      (ap (begins_substream at.picture at.shape) back ∙ goes) (ap (λ n. n % width_in_ctbs p.sps) back ∙ first) contexts

  pub may_resume : (at : SegmentAt) → segment_having (picture_segments p) address ≡ Some at
      → address % width_in_ctbs p.sps ≡ 0 → begins_substream at.picture at.shape address ≡ false
      → MayResume (slice_index_or at.shape.substreams 0 []) carry
  may_resume at having first goes =
      let bytes : List ℕ = slice_index_or at.shape.substreams 0 [] in
      subst (MayResume bytes) (sym carries.carried)
      (may_be_resumed bytes (reader_behind known) (goes_on at having first goes))

  -- a reader that has the contexts and Qp'Y where a substream begins, and else is the one that goes on
  pub is_carried : (at : SegmentAt) (reader : UnitReader) → segment_having (picture_segments p) address ≡ Some at
      → address % width_in_ctbs p.sps ≡ 0
      → (begins_substream at.picture at.shape address ≡ true → reader.bins.contexts ≡ unpacked carry.contexts)
      → (begins_substream at.picture at.shape address ≡ true → reader.last ≡ carry.last)
      → (begins_substream at.picture at.shape address ≡ false → (r : UnitReader)
      → ReadsOn (slice_index_or at.shape.substreams 0 []) r → carry ≡ carry_behind r → reader ≡ r)
      → IsCarried p address reader at
  is_carried at reader having first anew_contexts anew_last on =
      by_test (begins_substream at.picture at.shape address) refl
    where
      last_is : carry.last ≡ known.last
      last_is = ap (λ (c : Carry). c.last) carries.carried

      next : reader.bins.contexts ≡ known.contexts → reader.last ≡ known.last
          → (begins_substream at.picture at.shape address ≡ false → reader.bins.interval ≡ known.engine)
          → IsCarried p address reader at
      next same_contexts same_last same_engine =
          let also : segment_having (picture_segments p) (address - 1 + 1) ≡ Some at =
          ap (segment_having (picture_segments p)) back ∙ having in
          subst (λ n. IsCarried p n reader at) back
          (carried_next p (address - 1) (omega (arith, inside)) known carries.is reader same_contexts same_last
          (λ other has goes. same_engine_of other has goes) at also)
        where
          same_engine_of : (other : SegmentAt)
              → segment_having (picture_segments p) (address - 1 + 1) ≡ Some other
              → begins_substream other.picture other.shape (address - 1 + 1) ≡ false
              → reader.bins.interval ≡ known.engine
          same_engine_of other has goes =
              let is : other ≡ at =
              some_is other at (sym has ∙ ap (segment_having (picture_segments p)) back ∙ having) in
              same_engine
              (ap (λ (a : SegmentAt). begins_substream a.picture a.shape address) (sym is)
              ∙ ap (begins_substream other.picture other.shape) (sym back) ∙ goes)

      by_test : (b : Bool) → begins_substream at.picture at.shape address ≡ b → IsCarried p address reader at
      by_test true begins =
          next (anew_contexts begins ∙ contexts_are) (anew_last begins ∙ last_is)
          (λ goes. absurd (no_both (begins_substream at.picture at.shape address) begins goes))
      by_test false goes =
          let same : reader ≡ reader_behind known =
          on goes (reader_behind known) (goes_on at having first goes) carries.carried in
          next (ap (λ (r : UnitReader). r.bins.contexts) same) (ap (λ (r : UnitReader). r.last) same)
          (λ no. ap (λ (r : UnitReader). r.bins.interval) same)
