-- A planned picture whose segments are in range.
use Rattle.std.proofs.Common.{◌≡◌, ℕ, zero, suc, ◌+◌, ◌-◌, ◌/◌, ◌<◌, ◌≤◌, List, [], ◌∷◌, All, IfSome, Some, length}
use Rattle.std.proofs.Common.{Bool, false, Option, Decides, add-one, drop, take, slice_get, refl, sym, subst, ◌∙◌}
use Rattle.std.proofs.Common.{arith, inl, inr}
use Rattle.std.proofs.lemmas.Bool.{cases_lt, false≢true}
use Rattle.std.proofs.lemmas.List.{take_all}
use Rattle.std.proofs.lemmas.List.Elements.{All-cons, All-more, All-nil, All-same}
use Rattle.std.proofs.lemmas.Option.{get_or_from_slice_get, none-some, same_Some, slice_get-get_or, slice_get_cases}
use Rattle.std.proofs.lemmas.Option.{slice_get_within}
use Rattle.header_types.specs.PictureParameterSet.{IsPps}
use Rattle.header_types.specs.SequenceParameterSets.{IsSps, size_in_ctbs, width_in_ctbs}
use Rattle.slice_types.specs.SliceHeaders.{IsSliceHeader}
use Rattle.plan_types.specs.declared.picture_plan.PicturePlan.{PicturePlan}
use Rattle.plan_types.specs.declared.segment_plan.SegmentPlan.{SegmentPlan}
use Rattle.plan_types.specs.Segments.{Rise, address_of, begins_at}
use Rattle.spec_picture_plan.specs.Closing.{row_before}
use Rattle.plan_laws.specs.Plans.{AreReferences, BeginSlicesFrom, HaveRows, IsPlan}
use Rattle.flight_ranges.specs.Segments.{IsInPlace}

-- what holds of the first so many items holds of one more
pub grown : {X : Type 0} (P : ℕ → X → Type 0) (xs : List X) (n : ℕ)
    → ((k : ℕ) (x : X) → k < n → slice_get xs k ≡ Some x → P k x)
    → ((x : X) → slice_get xs n ≡ Some x → P n x)
    → (k : ℕ) (x : X) → k < n + 1 → slice_get xs k ≡ Some x → P k x
grown {X} P xs n before here k x less has =
    elim (cases_lt k n) [
      | inl below ↦ before k x below has
      | inr past ↦
          let e : n ≡ k = omega (arith, less, past) in
          let at : slice_get xs n ≡ Some x = subst (λ (i : ℕ). slice_get xs i ≡ Some x) (sym e) has in
          subst (λ (i : ℕ). P i x) e (here x at)
    ]

-- the same of all of the first so many
pub taken_more : {X : Type 0} (P : X → Type 0) (xs : List X) (n : ℕ) → n < length xs → All P (take n xs)
    → IfSome (slice_get xs n) P → All P (take (n + 1) xs)
taken_more {X} P xs n inside before here k d less =
    let next = subst (λ (o : Option X). IfSome o P) (slice_get-get_or xs n d inside) here in
    All-more P xs n d inside before next k d less

-- all are taken
pub all_taken : {X : Type 0} (P : X → Type 0) (xs : List X) (n : ℕ) → length xs ≤ n → All P (take n xs) → All P xs
all_taken P xs n past taken = All-same P xs (take n xs) (sym (take_all n xs past)) taken

-- what holds of the item at each place holds of all, and the other way round
pub all_of : {X : Type 0} (P : X → Type 0) (xs : List X) → ((k : ℕ) (x : X) → slice_get xs k ≡ Some x → P x)
    → All P xs
all_of P [] each = All-nil P
all_of P (x ∷ later) each = All-cons P x later (each 0 x refl) (all_of P later (λ k y has. each (suc k) y has))

pub each_of : {X : Type 0} (P : X → Type 0) (xs : List X) → All P xs → (k : ℕ) (x : X) → slice_get xs k ≡ Some x
    → P x
each_of P xs all k x has = subst P (get_or_from_slice_get xs k x x has) (all k x (slice_get_within xs k x has))

-- each segment begins before the next one where it does so at its place, and the other way round
rises : (size : ℕ) (xs : List SegmentPlan)
    → ((k : ℕ) (s : SegmentPlan) → slice_get xs k ≡ Some s → address_of s < begins_at size (drop (suc k) xs))
    → Rise size xs
rises size [] each = tt
rises size (s ∷ later) each = (each 0 s refl, rises size later (λ k t has. each (suc k) t has))

begins_before : (size : ℕ) (xs : List SegmentPlan) → Rise size xs → (k : ℕ) (s : SegmentPlan)
    → slice_get xs k ≡ Some s → address_of s < begins_at size (drop (suc k) xs)
begins_before size [] rise k s has = absurd (none-some s has)
begins_before size (x ∷ later) rise zero s has =
    subst (λ (t : SegmentPlan). address_of t < begins_at size later) (same_Some x s has) rise.0
begins_before size (x ∷ later) rise (suc k) s has = begins_before size later rise.1 k s has

-- so does each slice at its segment or at one before it
slices_begin : (n : ℕ) (xs : List SegmentPlan)
    → ((k : ℕ) (s : SegmentPlan) → slice_get xs k ≡ Some s → s.slice ≤ n + k) → BeginSlicesFrom n xs
slices_begin n [] each = tt
slices_begin n (s ∷ later) each =
    let first : s.slice ≤ n + 0 = each 0 s refl in (
      omega (arith, first),
      slices_begin (n + 1) later (λ k t has.
          let next : t.slice ≤ n + suc k = each (suc k) t has in omega (arith, next)),
    )

slice_begins : (n : ℕ) (xs : List SegmentPlan) → BeginSlicesFrom n xs → (k : ℕ) (s : SegmentPlan)
    → slice_get xs k ≡ Some s → s.slice ≤ n + k
slice_begins n [] slices k s has = absurd (none-some s has)
slice_begins n (x ∷ later) slices zero s has =
    subst (λ (t : SegmentPlan). t.slice ≤ n + 0) (same_Some x s has) (let le = slices.0 in omega (arith, le))
slice_begins n (x ∷ later) slices (suc k) s has =
    let le = slice_begins (n + 1) later slices.1 k s has in omega (arith, le)

abbrev HasRows : ℕ → ℕ → List SegmentPlan → ℕ → SegmentPlan → Type 0
HasRows width size xs k s =
    length s.substreams ≡ row_before width (begins_at size (drop (suc k) xs)) - address_of s / width + 1

-- and each segment has its rows
have_rows : (width size : ℕ) (xs : List SegmentPlan)
    → ((k : ℕ) (s : SegmentPlan) → slice_get xs k ≡ Some s → HasRows width size xs k s) → HaveRows width size xs
have_rows width size [] each = tt
have_rows width size (s ∷ later) each = (each 0 s refl, have_rows width size later (λ k t has. each (suc k) t has))

has_rows : (width size : ℕ) (xs : List SegmentPlan) → HaveRows width size xs → (k : ℕ) (s : SegmentPlan)
    → slice_get xs k ≡ Some s → HasRows width size xs k s
has_rows width size [] rows k s has = absurd (none-some s has)
has_rows width size (x ∷ later) rows zero s has =
    subst (HasRows width size (x ∷ later) 0) (same_Some x s has) rows.0
has_rows width size (x ∷ later) rows (suc k) s has = has_rows width size later rows.1 k s has

-- the first segment begins where the picture does, whatever the picture's size is
begins_first : (size : ℕ) (xs : List SegmentPlan) → 0 < length xs → begins_at 0 xs ≡ 0 → begins_at size xs ≡ 0
begins_first size [] some first = absurd (omega (arith, some))
begins_first size (s ∷ later) some first = first

-- a picture whose segments are all in range
pub plan_is : (p : PicturePlan) → IsSps p.sps → IsPps p.pps → 0 < length p.segments → begins_at 0 p.segments ≡ 0
    → ((k : ℕ) (s : SegmentPlan) → slice_get p.segments k ≡ Some s → IsInPlace p k s) → IsPlan p
plan_is p sps pps some first each = record {
  sps = sps;
  pps = pps;
  headers =
      all_of (λ (s : SegmentPlan). IsSliceHeader s.header) p.segments (λ k s has. (each k s has).header);
  some = omega (arith, some);
  order = record {
    first = begins_first (size_in_ctbs p.sps) p.segments some first;
    rise = rises (size_in_ctbs p.sps) p.segments (λ k s has.
        subst (λ (n : ℕ). address_of s < begins_at (size_in_ctbs p.sps) (drop n p.segments)) (add-one k)
        (each k s has).rise);
  };
  slices = slices_begin 0 p.segments (λ k s has. let le = (each k s has).slice in omega (arith, le));
  references =
      all_of (λ (s : SegmentPlan). IfSome s.lists (AreReferences (length p.rps.marks))) p.segments
      (λ k s has. (each k s has).references);
  rows = λ sync.
      have_rows (width_in_ctbs p.sps) (size_in_ctbs p.sps) p.segments (λ k s has.
      subst (λ (n : ℕ). length s.substreams
      ≡ row_before (width_in_ctbs p.sps) (begins_at (size_in_ctbs p.sps) (drop n p.segments))
      - address_of s / width_in_ctbs p.sps + 1) (add-one k) ((each k s has).rows sync));
}

-- and so they are in each plan
pub place_is : (p : PicturePlan) → IsPlan p → (k : ℕ) (s : SegmentPlan) → slice_get p.segments k ≡ Some s
    → IsInPlace p k s
place_is p plan k s has = record {
  header = each_of (λ (t : SegmentPlan). IsSliceHeader t.header) p.segments plan.headers k s has;
  rise =
      subst (λ (n : ℕ). address_of s < begins_at (size_in_ctbs p.sps) (drop n p.segments)) (sym (add-one k))
      (begins_before (size_in_ctbs p.sps) p.segments plan.order.rise k s has);
  slice = let le = slice_begins 0 p.segments plan.slices k s has in omega (arith, le);
  references =
      each_of (λ (t : SegmentPlan). IfSome t.lists (AreReferences (length p.rps.marks))) p.segments plan.references k s
      has;
  rows = λ sync.
      subst (λ (n : ℕ). length s.substreams
      ≡ row_before (width_in_ctbs p.sps) (begins_at (size_in_ctbs p.sps) (drop n p.segments))
      - address_of s / width_in_ctbs p.sps + 1) (sym (add-one k))
      (has_rows (width_in_ctbs p.sps) (size_in_ctbs p.sps) p.segments (plan.rows sync) k s has);
}

-- where one of its segments is out of range a picture is none
pub no_plan : (p : PicturePlan) (k : ℕ) (t : Bool) → t ≡ false → k < length p.segments
    → ((s : SegmentPlan) → slice_get p.segments k ≡ Some s → Decides t (IsInPlace p k s)) → Decides false (IsPlan p)
no_plan p k t out inside decided = (
  λ e. absurd (false≢true e),
  λ plan. sym out
      ∙ elim ((slice_get_cases p.segments k).1) [
        | inl there ↦ (decided there.0 there.2).1 (place_is p plan k there.0 there.2)
        | inr past ↦ absurd (omega (arith, past.0, inside))
      ],
)
