-- Parts of which some are taken.
use Rattle.std.proofs.Common.{◌≡◌, ℕ, suc, zero, ◌+◌, ◌-◌, ◌<◌, ◌≤◌, List, ◌++◌, Some, length}
use Rattle.std.proofs.Common.{length-append, length-set, slice_get, slice_set, refl, sym, ap, ◌∙◌, subst}
use Rattle.std.proofs.Common.{arith, inl, inr}
use Rattle.std.proofs.lemmas.Bool.{cases_eq, cases_lt}
use Rattle.std.proofs.lemmas.Option.{same_Some, slice_get_within}
use Rattle.plan_types.specs.declared.picture_plan.PicturePlan.{PicturePlan}
use Rattle.sample_words.specs.declared.sizes.FlightSizes.{FlightSizes}
use Rattle.taken_pictures.specs.SpecFlights.{PlannedFlight}
use Rattle.taken_pictures.specs.FlightFacts.{FlightFacts}
use Rattle.taken_pictures.specs.FlightFacts.{flight_in}
use Rattle.taken_pictures.specs.FlightFacts.{IsOfFlight}
use Rattle.taken_pictures.proofs.Pictures.{picture_inside}
use Rattle.taken_pictures.proofs.Places.{sizes_of}
use Rattle.taken_flights.specs.Taken.{AreDecoded, AreParts, AreSized, AreTaken, IsBroken, IsDecoded, IsSized, Part}
use Rattle.taken_flights.proofs.Lists.{back_at, front_at, set_apart, set_at, there}

-- the first so many are
pub record AreTakenSoFar (f : PlannedFlight) (first : ℕ) (plans : List PicturePlan) (parts now : List Part)
    (k : ℕ) : Type 0 where
  pub as_many : length now ≡ length parts
  pub sized : AreSized plans now
  pub few : k ≤ length parts
  pub decoded : AreDecoded f first plans now k

module _ {f : PlannedFlight} {first : ℕ} {plans : List PicturePlan} {parts : List Part} where
  pub none_taken : AreParts f first plans parts → AreTakenSoFar f first plans parts parts 0
  none_taken are = record {
    as_many = refl;
    sized = are.sized;
    few = omega arith;
    decoded = λ k p part less. absurd (omega (arith, less));
  }

  module _ {now : List Part} {k : ℕ} (far : AreTakenSoFar f first plans parts now k) where
    -- one of them has changed
    sized_more : {p : PicturePlan} {part : Part} → slice_get plans k ≡ Some p → IsSized p part
        → AreSized plans (slice_set now k part)
    sized_more {p} {part} plan sized i q x there has =
        elim (cases_eq i k) [
          | inl same ↦
              let here : slice_get (slice_set now k part) k ≡ Some x =
              subst (λ n. slice_get (slice_set now k part) n ≡ Some x) same has in
              let is : part ≡ x = set_at now k part x here in
              let plan_is : p ≡ q = same_Some p q (sym plan ∙ (ap (slice_get plans) (sym same) ∙ there)) in
              subst (IsSized q) is (subst (λ r. IsSized r part) plan_is sized)
          | inr other ↦ far.sized i q x there (sym (set_apart now k i part other) ∙ has)
        ]

    decoded_still : (part : Part) → AreDecoded f first plans (slice_set now k part) k
    decoded_still part i q x less there has =
        far.decoded i q x less there (sym (set_apart now k i part (λ e. omega (arith, e, less))) ∙ has)

    pub one_more : {p : PicturePlan} {part : Part} → k < length parts → slice_get plans k ≡ Some p → IsSized p part
        → IsDecoded f (first + k) p part → AreTakenSoFar f first plans parts (slice_set now k part) (k + 1)
    one_more {p} {part} less plan sized is = record {
      as_many = length-set now k part ∙ far.as_many;
      sized = sized_more plan sized;
      few = omega (arith, less);
      decoded = λ i q x below there has.
          elim (cases_eq i k) [
            | inl same ↦
                let here : slice_get (slice_set now k part) k ≡ Some x =
                subst (λ n. slice_get (slice_set now k part) n ≡ Some x) same has in
                let part_is : part ≡ x = set_at now k part x here in
                let plan_is : p ≡ q = same_Some p q (sym plan ∙ (ap (slice_get plans) (sym same) ∙ there)) in
                subst (λ n. IsDecoded f (first + n) q x) (sym same)
                (subst (IsDecoded f (first + k) q) part_is (subst (λ r. IsDecoded f (first + k) r part) plan_is is))
            | inr other ↦ decoded_still part i q x (omega (arith, below, other)) there has
          ];
    }

    -- it is broken
    pub taken_to : {p : PicturePlan} {part : Part} → slice_get plans k ≡ Some p → IsSized p part
        → IsBroken f (first + k) → AreTaken f first plans parts (slice_set now k part) k
    taken_to {p} {part} plan sized broken = record {
      as_many = length-set now k part ∙ far.as_many;
      sized = sized_more plan sized;
      few = far.few;
      decoded = decoded_still part;
      stopped = λ less. broken;
    }

    -- all are
    pub all_taken : {n : ℕ} → n ≡ k → length parts ≤ k → AreTaken f first plans parts now n
    all_taken {n} same all = record {
      as_many = far.as_many;
      sized = far.sized;
      few = subst (λ m. m ≤ length parts) (sym same) far.few;
      decoded = subst (AreDecoded f first plans now) (sym same) far.decoded;
      stopped = λ less. absurd (omega (arith, less, same, all));
    }

-- parts for pictures of a flight are few
module _ {facts : FlightFacts} {s : FlightSizes} {first : ℕ} {plans : List PicturePlan} {parts : List Part}
    (is : IsOfFlight facts s) (are : AreParts (flight_in facts) first plans parts) where
  pub picture_there : (k : ℕ) → k < length parts → first + k < s.pictures
  picture_there k less =
      let count = are.count in
      let has = there plans k (omega (arith, less, count)) in
      picture_inside facts s (first + k) has.0 is (are.planned k has.0 has.1)

  pub few_parts : (k : ℕ) → k < length parts → first + k < 65536
  few_parts k less =
      let inside = picture_there k less in
      let few = (sizes_of facts s is).pictures in
      omega (arith, inside, few)

  pub few_all : (n : ℕ) → n ≤ length parts → n ≤ 65536
  few_all zero most = omega arith
  few_all (suc k) most =
      let last = few_parts k (omega (arith, most)) in
      omega (arith, last)

  pub few_behind : (n : ℕ) → 1 ≤ n → n ≤ length parts → first + n ≤ 65536
  few_behind zero some most = absurd (omega (arith, some))
  few_behind (suc k) some most =
      let last = few_parts k (omega (arith, most)) in
      omega (arith, last)

-- the same of lists by other names
pub taken_of : {f : PlannedFlight} {first n : ℕ} {plans ps : List PicturePlan} {parts xs taken : List Part}
    → plans ≡ ps → parts ≡ xs → AreTaken f first ps xs taken n → AreTaken f first plans parts taken n
taken_of {f} {first} {n} {plans} {ps} {parts} {xs} {taken} plans_are parts_are is =
    subst (λ zs. AreTaken f first zs parts taken n) (sym plans_are)
    (subst (λ zs. AreTaken f first ps zs taken n) (sym parts_are) is)

module _ {f : PlannedFlight} {first next : ℕ} (ps qs : List PicturePlan) (xs ys : List Part)
    (fit : length ps ≡ length xs) (next_is : next ≡ first + length xs) where
  pub front_parts : {plans : List PicturePlan} {parts : List Part} → plans ≡ ps ++ qs → parts ≡ xs ++ ys
      → AreParts f first plans parts → AreParts f first ps xs
  front_parts {plans} {parts} plans_are parts_are are = record {
    count = fit;
    planned = λ k p has. are.planned k p (plan_at k p has);
    sized = λ k p part has there.
        are.sized k p part (plan_at k p has)
        (ap (λ zs. slice_get zs k) parts_are ∙ (front_at xs ys k (slice_get_within xs k part there) ∙ there));
  }
    where
      plan_at : (k : ℕ) (p : PicturePlan) → slice_get ps k ≡ Some p → slice_get plans k ≡ Some p
      plan_at k p has =
          ap (λ zs. slice_get zs k) plans_are ∙ (front_at ps qs k (slice_get_within ps k p has) ∙ has)

  pub back_parts : {plans : List PicturePlan} {parts : List Part} → plans ≡ ps ++ qs → parts ≡ xs ++ ys
      → length qs ≡ length ys → AreParts f first plans parts → AreParts f next qs ys
  back_parts {plans} {parts} plans_are parts_are fits are = record {
    count = fits;
    planned = λ k p has.
        let place : first + (length xs + k) ≡ next + k = omega (arith, next_is) in
        subst (λ n. slice_get f.pictures n ≡ Some p) place (are.planned (length xs + k) p (plan_at k p has));
    sized = λ k p part has there.
        are.sized (length xs + k) p part (plan_at k p has)
        (ap (λ zs. slice_get zs (length xs + k)) parts_are ∙ (back_at xs ys k (length xs + k) refl ∙ there));
  }
    where
      plan_at : (k : ℕ) (p : PicturePlan) → slice_get qs k ≡ Some p → slice_get plans (length xs + k) ≡ Some p
      plan_at k p has =
          ap (λ zs. slice_get zs (length xs + k)) plans_are
          ∙ (back_at ps qs k (length xs + k) (omega (arith, fit)) ∙ has)

  module _ {taken more : List Part} {a c : ℕ} (front : AreTaken f first ps xs taken a)
      (back : AreTaken f next qs ys more c) where
    -- one that stands in both lists as one
    record IsAt (k : ℕ) (p : PicturePlan) (part : Part) : Type 0 where
      pub plan : slice_get (ps ++ qs) k ≡ Some p
      pub there : slice_get (taken ++ more) k ≡ Some part

    front_is : (k : ℕ) (p : PicturePlan) (part : Part) → IsAt k p part → k < length xs
        → (slice_get ps k ≡ Some p) × (slice_get taken k ≡ Some part)
    front_is k p part at less =
        let many = front.as_many in (
          sym (front_at ps qs k (omega (arith, less, fit))) ∙ at.plan,
          sym (front_at taken more k (omega (arith, less, many))) ∙ at.there,
        )

    back_is : (k i : ℕ) (p : PicturePlan) (part : Part) → IsAt k p part → k ≡ length xs + i
        → (slice_get qs i ≡ Some p) × (slice_get more i ≡ Some part)
    back_is k i p part at is =
        let many = front.as_many in (
          sym (back_at ps qs i k (omega (arith, is, fit))) ∙ at.plan,
          sym (back_at taken more i k (omega (arith, is, many))) ∙ at.there,
        )

    both_sized : AreSized (ps ++ qs) (taken ++ more)
    both_sized k p part plan there =
        let at : IsAt k p part = record { plan = plan; there = there } in
        elim (cases_lt k (length xs)) [
          | inl low ↦ let is = front_is k p part at low in front.sized k p part is.0 is.1
          | inr high ↦
              let is = back_is k (k - length xs) p part at (omega (arith, high)) in
              back.sized (k - length xs) p part is.0 is.1
        ]

    both_many : length (taken ++ more) ≡ length (xs ++ ys)
    both_many =
        let one = front.as_many in
        let two = back.as_many in
        let left = length-append taken more in
        let right = length-append xs ys in
        omega (arith, one, two, left, right)

    pub stops_in_front : a < length xs → AreTaken f first (ps ++ qs) (xs ++ ys) (taken ++ more) a
    stops_in_front less =
        let right = length-append xs ys in
        record {
          as_many = both_many;
          sized = both_sized;
          few = omega (arith, less, right);
          decoded = λ k p part below plan there.
              let is = front_is k p part (record { plan = plan; there = there }) (omega (arith, below, less)) in
              front.decoded k p part below is.0 is.1;
          stopped = λ short. front.stopped less;
        }

    pub goes_on : length xs ≤ a → AreTaken f first (ps ++ qs) (xs ++ ys) (taken ++ more) (a + c)
    goes_on all =
        let few = front.few in
        let few_more = back.few in
        let right = length-append xs ys in
        record {
          as_many = both_many;
          sized = both_sized;
          few = omega (arith, few, few_more, right);
          decoded = λ k p part below plan there.
              let at : IsAt k p part = record { plan = plan; there = there } in
              elim (cases_lt k (length xs)) [
                | inl low ↦
                    let is = front_is k p part at low in
                    front.decoded k p part (omega (arith, low, all)) is.0 is.1
                | inr high ↦
                    let is = back_is k (k - length xs) p part at (omega (arith, high)) in
                    let place : next + (k - length xs) ≡ first + k = omega (arith, next_is, high) in
                    subst (λ n. IsDecoded f n p part) place
                    (back.decoded (k - length xs) p part (omega (arith, below, few, high)) is.0 is.1)
              ];
          stopped = λ short.
              let place : next + c ≡ first + (a + c) = omega (arith, next_is, few, all) in
              subst (IsBroken f) place (back.stopped (omega (arith, short, few, all, right)));
        }
