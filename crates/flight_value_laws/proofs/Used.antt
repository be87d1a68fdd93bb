-- Reading a unit depends on the entries of the units that it uses alone.
use Rattle.std.proofs.Common.{◌≡◌, ℕ, ◌+◌, ◌-◌, ◌^◌, ◌≤◌, Bool, true, false, ◌&&◌, ◌||◌, not, List, ◌++◌}
use Rattle.std.proofs.Common.{Option, Some, None, is_some, Result, if◌then◌else◌, inl, inr, nat_lt}
use Rattle.std.proofs.Common.{refl, sym, ap, ◌∙◌, arith, lt-ltb}
use Rattle.std.specs.List.{list_all}
use Rattle.std.proofs.lemmas.Bool.{cases_lt}
use Rattle.std.proofs.lemmas.List.Folds.{list_all-append}
use Rattle.hv_base.specs.declared.breach.Breach.{Breach}
use Rattle.plan_types.specs.declared.picture_plan.PicturePlan.{PicturePlan}
use Rattle.spec_slice_data.specs.Segment.{Between, begins_row, begins_substream, has_above, has_left, has_stored}
use Rattle.spec_slice_data.specs.Segment.{is_first, unit_step}
use Rattle.spec_known_units.specs.SpecPictureTrees.{SegmentAt}
use Rattle.known_picture_laws.specs.UnitTrees.{bottom_of, right_of}
use Rattle.known_picture_laws.specs.UnitTreeLaws.{Agree, begins_slice}
use Rattle.known_picture_laws.proofs.UnitTreeLaws.{steps_same}
use Rattle.spec_known_units.specs.Known.{Entries, KnownUnit, behind_step, between_from, contexts_behind, ctu_of}
use Rattle.spec_known_units.specs.Known.{engine_behind, entries_before, goes_on, if_used, last_behind}
use Rattle.spec_known_units.specs.Known.{picture_segments}
use Rattle.spec_known_units.specs.Known.{read_in, read_uses, segment_having, takes_stored, unit_read}
use Rattle.flight_value_laws.proofs.Over.{behind_same, from_unit, long, not_below}

-- entries agree on the units that reading the one at an address uses
pub record AgreeOnUses (at : SegmentAt) (address : ℕ) (a b : Entries) : Type 0 where
  pub former : goes_on at address ≡ true → a (address - 1) ≡ b (address - 1)
  pub left : has_left at.picture at.shape address ≡ true → a (address - 1) ≡ b (address - 1)
  pub above : has_above at.picture at.shape address ≡ true
      → a (address - at.picture.width) ≡ b (address - at.picture.width)
  pub second : takes_stored at address ≡ true
      → a (address - at.picture.width + 1) ≡ b (address - at.picture.width + 1)

-- a unit that begins neither a row of its own nor a slice goes on
goes : (some row slice : Bool) → some ≡ true → row ≡ false → slice ≡ false → some && not (row || slice) ≡ true
goes true true slice e f g = absurd cc
goes true false true e f g = absurd cc
goes true false false e f g = refl
goes false row slice e f g = absurd cc

both : (a b : Bool) → a ≡ true → b ≡ true → a && b ≡ true
both true b e f = f
both false b e f = absurd cc

-- one that begins no substream begins neither
no_slice : (first row dependent : Bool) → first || row ≡ false → first && not dependent ≡ false
no_slice true row dependent e = absurd cc
no_slice false row dependent e = refl

no_row : (first row : Bool) → first || row ≡ false → row ≡ false
no_row true row e = absurd cc
no_row false row e = e

all_if_same : (t u : ℕ → Bool) (used : Bool) (a : ℕ) → (used ≡ true → t a ≡ u a)
    → list_all t (if_used used a) ≡ list_all u (if_used used a)
all_if_same t u true a same = ap (λ b. b && true) (same refl)
all_if_same t u false a same = refl

both_same : (t u : ℕ → Bool) (xs ys : List ℕ) → list_all t xs ≡ list_all u xs → list_all t ys ≡ list_all u ys
    → list_all t (xs ++ ys) ≡ list_all u (xs ++ ys)
both_same t u xs ys e f =
    list_all-append t xs ys ∙ ap (λ b. b && list_all t ys) e ∙ ap (λ b. list_all u xs && b) f
    ∙ sym (list_all-append u xs ys)

read_if_same : (t u : Bool) (r s : Result KnownUnit Breach) → t ≡ u → r ≡ s
    → (if t then Some r else None) ≡ (if u then Some s else None)
read_if_same true true r s e f = ap Some f
read_if_same false false r s e f = refl
read_if_same true false r s e f = absurd cc
read_if_same false true r s e f = absurd cc

module _ (at : SegmentAt) (address : ℕ) (a b : Entries) (h : AgreeOnUses at address a b) where
  abbrev before_a : Entries
  before_a = entries_before a address

  abbrev before_b : Entries
  before_b = entries_before b address

  abbrev from_a : Between
  from_a = between_from before_a at.picture address

  abbrev from_b : Between
  from_b = between_from before_b at.picture address

  same_before : (u : ℕ) → a u ≡ b u → before_a u ≡ before_b u
  same_before u e = ap (λ (o : Option KnownUnit). if nat_lt u address then o else None) e

  none_before : (u : ℕ) → address ≤ u → before_a u ≡ before_b u
  none_before u past =
      ap (λ t. if t then a u else None) (not_below u address past)
      ∙ sym (ap (λ t. if t then b u else None) (not_below u address past))

  former_same : begins_row at.picture address ≡ false → begins_slice at.shape address ≡ false
      → before_a (address - 1) ≡ before_b (address - 1)
  former_same row slice =
      elim (cases_lt 0 address) [
        | inl some ↦ same_before (address - 1)
            (h.former (goes (nat_lt 0 address) (begins_row at.picture address) (begins_slice at.shape address)
            (lt-ltb 0 address some) row slice))
        | inr none ↦ none_before (address - 1) (omega (arith, none))
      ]

  anew_same : begins_substream at.picture at.shape address ≡ false
      → before_a (address - 1) ≡ before_b (address - 1)
  anew_same e =
      former_same (no_row (is_first at.shape address) (begins_row at.picture address) e)
      (no_slice (is_first at.shape address) (begins_row at.picture address) at.shape.dependent e)

  unit_same : (u : ℕ) → a u ≡ b u → ctu_of at.picture (before_a u) ≡ ctu_of at.picture (before_b u)
  unit_same u e = ap (ctu_of at.picture) (same_before u e)

  pub agree : Agree at.picture at.shape address from_a from_b
  unfolding between_from
  agree = record {
    engine = λ e. ap engine_behind (anew_same e);
    contexts = λ row slice. ap contexts_behind (former_same row slice);
    last = λ row slice. ap last_behind (former_same row slice);
    stored = λ row there.
        ap contexts_behind
        (same_before (address - at.picture.width + 1)
        (h.second (both (begins_row at.picture address) (has_stored at.picture at.shape address) row there)));
    left = λ e.
        ap (right_of (2 ^ at.picture.size))
        (from_unit a at address (address - 1) ∙ unit_same (address - 1) (h.left e)
        ∙ sym (from_unit b at address (address - 1)));
    above = λ e.
        ap (bottom_of (2 ^ at.picture.size))
        (from_unit a at address (address - at.picture.width)
        ∙ unit_same (address - at.picture.width) (h.above e)
        ∙ sym (from_unit b at address (address - at.picture.width)));
  }

  abbrev test_a : ℕ → Bool
  test_a u = is_some (before_a u)

  abbrev test_b : ℕ → Bool
  test_b u = is_some (before_b u)

  known_same : (u : ℕ) → a u ≡ b u → test_a u ≡ test_b u
  known_same u e = ap is_some (same_before u e)

  uses_same : list_all test_a (read_uses at address) ≡ list_all test_b (read_uses at address)
  unfolding read_uses
  uses_same =
      let former : List ℕ = if_used (goes_on at address) (address - 1) in
      let left : List ℕ = if_used (has_left at.picture at.shape address) (address - 1) in
      let above : List ℕ = if_used (has_above at.picture at.shape address) (address - at.picture.width) in
      let second : List ℕ = if_used (takes_stored at address) (address - at.picture.width + 1) in
      both_same test_a test_b former (left ++ (above ++ second))
      (all_if_same test_a test_b (goes_on at address) (address - 1) (λ e. known_same (address - 1) (h.former e)))
      (both_same test_a test_b left (above ++ second)
      (all_if_same test_a test_b (has_left at.picture at.shape address) (address - 1)
      (λ e. known_same (address - 1) (h.left e)))
      (both_same test_a test_b above second
      (all_if_same test_a test_b (has_above at.picture at.shape address) (address - at.picture.width)
      (λ e. known_same (address - at.picture.width) (h.above e)))
      (all_if_same test_a test_b (takes_stored at address) (address - at.picture.width + 1)
      (λ e. known_same (address - at.picture.width + 1) (h.second e)))))

  step_same : behind_step at address (unit_step at.syntax at.picture at.shape address from_a)
      ≡ behind_step at address (unit_step at.syntax at.picture at.shape address from_b)
  step_same =
      behind_same at address from_a from_b (unit_step at.syntax at.picture at.shape address from_a)
      (unit_step at.syntax at.picture at.shape address from_b) (long a at address) (long b at address)
      (steps_same at.syntax at.picture at.shape address from_a from_b agree)

  pub read_same : read_in before_a address (Some at) ≡ read_in before_b address (Some at)
  unfolding read_in
  read_same =
      read_if_same (list_all test_a (read_uses at address)) (list_all test_b (read_uses at address))
      (behind_step at address (unit_step at.syntax at.picture at.shape address from_a))
      (behind_step at address (unit_step at.syntax at.picture at.shape address from_b)) uses_same step_same

-- and so of a picture, whichever segment has the unit
read_by : (address : ℕ) (a b : Entries) (o : Option SegmentAt)
    → ((at : SegmentAt) → o ≡ Some at → AgreeOnUses at address a b)
    → read_in (entries_before a address) address o ≡ read_in (entries_before b address) address o
unfolding read_in
read_by address a b None h = refl
read_by address a b (Some at) h = read_same at address a b (h at refl)

pub unit_read_same : (p : PicturePlan) (address : ℕ) (a b : Entries)
    → ((at : SegmentAt) → segment_having (picture_segments p) address ≡ Some at → AgreeOnUses at address a b)
    → unit_read p a address ≡ unit_read p b address
unfolding unit_read
unit_read_same p address a b h = read_by address a b (segment_having (picture_segments p) address) h
