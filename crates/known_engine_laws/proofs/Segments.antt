-- The segment of a unit, and of the one before it.
use Rattle.std.proofs.Common.{◌≡◌, ℕ, ◌+◌, ◌-◌, ◌<◌, ◌≤◌, Bool, true, false, List, [], ◌∷◌, Option, Some, None}
use Rattle.std.proofs.Common.{if◌then◌else◌, refl, ap, sym, subst, ◌∙◌, arith, le-leb, lt-ltb, nat_le, nat_lt}
use Rattle.std.specs.Prelude.{slice_index}
use Rattle.std.proofs.lemmas.Bool.{and_from, and_parts, leb-true, ltb-true}
use Rattle.header_types.specs.SequenceParameterSets.{size_in_ctbs}
use Rattle.plan_types.specs.declared.picture_plan.PicturePlan.{PicturePlan}
use Rattle.plan_types.specs.declared.segment_plan.SegmentPlan.{SegmentPlan}
use Rattle.spec_picture_trees.specs.Picture.{SegmentAt, segment_at}
use Rattle.spec_picture_trees.specs.Shapes.{end_of, segment_shape}
use Rattle.spec_known_units.specs.Known.{is_in, segment_having, segments_from}
use Rattle.known_unit_laws.proofs.Lookup.{ends_behind, found_later}
use Rattle.known_engine_laws.proofs.Contexts.{first_contexts_below}

abbrev given : {X : Type 0} → X → Option X → X
given d None = d
given d (Some x) = x

pub some_is : {X : Type 0} (x y : X) → Some x ≡ Some y → x ≡ y
some_is x y e = ap (given x) e

-- what is known of the segment that has a unit
pub record IsSegment (first address : ℕ) (at : SegmentAt) : Type 0 where
  pub behind : first ≤ at.shape.first
  pub from : at.shape.first ≤ address
  pub below : address < at.shape.first + at.shape.count
  pub contexts : (i : ℕ) → slice_index at.shape.contexts i < 126

module _ (p : PicturePlan) where
  abbrev head : ℕ → ℕ → SegmentPlan → List SegmentPlan → SegmentAt
  head number first s later = segment_at p number first s later

  head_contexts : (number first : ℕ) (s : SegmentPlan) (later : List SegmentPlan) (i : ℕ)
      → slice_index (head number first s later).shape.contexts i < 126
  unfolding segment_shape
  head_contexts number first s later i = first_contexts_below _ _ i

  head_first : (number first : ℕ) (s : SegmentPlan) (later : List SegmentPlan)
      → (head number first s later).shape.first ≡ first
  unfolding segment_shape
  head_first number first s later = refl

  head_end : (number first : ℕ) (s : SegmentPlan) (later : List SegmentPlan)
      → (head number first s later).shape.first + (head number first s later).shape.count
      ≡ end_of (size_in_ctbs p.sps) first later
  unfolding segment_shape
  head_end number first s later = omega (arith, ends_behind (size_in_ctbs p.sps) first later)

  having_if : (number first : ℕ) (s : SegmentPlan) (later : List SegmentPlan) (address : ℕ) (at : SegmentAt)
      → (b : Bool) → is_in (head number first s later) address ≡ b
      → (if b then Some (head number first s later)
      else segment_having (segments_from p (number + 1) (end_of (size_in_ctbs p.sps) first later) later) address)
      ≡ Some at
      → ((c : ℕ) (n : ℕ) → segment_having (segments_from p n c later) address ≡ Some at → IsSegment c address at)
      → IsSegment first address at
  having_if number first s later address at true inside is rest =
      let same = some_is (head number first s later) at is in
      let parts = and_parts _ _ inside in
      let from = leb-true _ _ parts.0 in
      let below = ltb-true _ _ parts.1 in
      subst (IsSegment first address) same (record {
        behind = omega (arith, head_first number first s later);
        from = from;
        below = below;
        contexts = head_contexts number first s later;
      })
  having_if number first s later address at false outside is rest =
      let found = rest (end_of (size_in_ctbs p.sps) first later) (number + 1) is in
      record {
        behind = omega (arith, found.behind, ends_behind (size_in_ctbs p.sps) first later);
        from = found.from;
        below = found.below;
        contexts = found.contexts;
      }

  pub having_is : (segments : List SegmentPlan) (number first address : ℕ) (at : SegmentAt)
      → segment_having (segments_from p number first segments) address ≡ Some at → IsSegment first address at
  unfolding segment_having segments_from
  having_is [] number first address at is = absurd cc
  having_is (s ∷ later) number first address at is =
      having_if number first s later address at (is_in (head number first s later) address) refl is
      (λ c n e. having_is later n c address at e)

  -- the unit before one that isn't the first of its segment is of that segment
  former_if : (number first : ℕ) (s : SegmentPlan) (later : List SegmentPlan) (address : ℕ) (at : SegmentAt)
      → (b : Bool) → is_in (head number first s later) address ≡ b
      → (if b then Some (head number first s later)
      else segment_having (segments_from p (number + 1) (end_of (size_in_ctbs p.sps) first later) later) address)
      ≡ Some at
      → at.shape.first < address
      → ((c : ℕ) (n : ℕ) → segment_having (segments_from p n c later) address ≡ Some at
      → segment_having (segments_from p n c later) (address - 1) ≡ Some at)
      → segment_having
      (head number first s later ∷ segments_from p (number + 1) (end_of (size_in_ctbs p.sps) first later) later)
      (address - 1)
      ≡ Some at
  unfolding segment_having
  former_if number first s later address at true inside is after rest =
      let same = some_is (head number first s later) at is in
      let h : SegmentAt = head number first s later in
      let inner : address < h.shape.first + h.shape.count =
      ltb-true address (h.shape.first + h.shape.count)
      (and_parts (nat_le h.shape.first address) (nat_lt address (h.shape.first + h.shape.count)) inside).1 in
      let started : h.shape.first ≤ address - 1 =
      subst (λ (a : SegmentAt). a.shape.first ≤ address - 1) (sym same) (omega (arith, after)) in
      let low : nat_le h.shape.first (address - 1) ≡ true = le-leb h.shape.first (address - 1) started in
      let high : nat_lt (address - 1) (h.shape.first + h.shape.count) ≡ true =
      lt-ltb (address - 1) (h.shape.first + h.shape.count) (omega (arith, inner)) in
      ap (λ b. if b then Some (head number first s later)
      else segment_having (segments_from p (number + 1) (end_of (size_in_ctbs p.sps) first later) later) (address - 1))
      (and_from _ _ low high)
      ∙ is
  former_if number first s later address at false outside is after rest =
      let found = having_is later (number + 1) (end_of (size_in_ctbs p.sps) first later) address at is in
      found_later (head number first s later)
      (segments_from p (number + 1) (end_of (size_in_ctbs p.sps) first later) later) (address - 1)
      (omega (arith, head_end number first s later, found.behind, after))
      ∙ rest (end_of (size_in_ctbs p.sps) first later) (number + 1) is

  pub former_having : (segments : List SegmentPlan) (number first address : ℕ) (at : SegmentAt)
      → segment_having (segments_from p number first segments) address ≡ Some at → at.shape.first < address
      → segment_having (segments_from p number first segments) (address - 1) ≡ Some at
  unfolding segment_having segments_from
  former_having [] number first address at is after = absurd cc
  former_having (s ∷ later) number first address at is after =
      former_if number first s later address at (is_in (head number first s later) address) refl is after
      (λ c n e. former_having later n c address at e after)
