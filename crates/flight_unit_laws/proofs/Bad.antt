-- Which units of a flight are bad.
use Rattle.std.proofs.Common.{◌≡◌, ℕ, ◌+◌, ◌<◌, Bool, true, List, All, Option, Some, None}
use Rattle.std.proofs.Common.{is_some, length, get_or, map, slice_get, refl, sym, ap, subst, ◌∙◌, arith}
use Rattle.std.specs.List.{Contains, filter, flat_map, range_with_len}
use Rattle.std.proofs.lemmas.List.Elements.{All-filter, All-from_get_or, All-map, All-nil, filter_passes}
use Rattle.std.proofs.lemmas.List.FromFn.{get_or-range_with_len, length-range_with_len}
use Rattle.std.proofs.lemmas.Option.{slice_get_within}
use Rattle.hv_base.specs.declared.breach.Breach.{Breach}
use Rattle.header_types.specs.SequenceParameterSets.{size_in_ctbs}
use Rattle.plan_types.specs.declared.picture_plan.PicturePlan.{PicturePlan}
use Rattle.board_core.specs.States.{IsBad}
use Rattle.board_core.proofs.Counting.{pieces_all}
use Rattle.board_core.proofs.Reaching.{map_contains}
use Rattle.known_picture_laws.specs.SpecFlights.{PlannedFlight}
use Rattle.known_picture_laws.specs.SpecFlights.{bad_units, broken_at, broken_units, flight_rows, unit_number}
use Rattle.flight_unit_laws.specs.Stops.{IsBadUnit}
use Rattle.flight_unit_laws.proofs.Lists.{holds_of, in_filter, in_pieces}

is_there : {X : Type 0} (o : Option X) → is_some o ≡ true → (x : X) × (o ≡ Some x)
is_there None e = absurd cc
is_there (Some x) e = (x, refl)

module _ (f : PlannedFlight) where
  abbrev numbers : ℕ → List ℕ
  numbers k = map (unit_number f k) (broken_units (slice_get f.pictures k))

  -- a unit at which a rule is broken is bad
  module _ (k : ℕ) (p : PicturePlan) (has : slice_get f.pictures k ≡ Some p) (address : ℕ)
      (inside : address < size_in_ctbs p.sps) (breach : Breach) (rule : broken_at p address ≡ Some breach) where
    among : Contains (broken_units (slice_get f.pictures k)) address
    among =
        let size : ℕ = size_in_ctbs p.sps in
        let here : Contains (broken_units (Some p)) address =
        in_filter (λ a. is_some (broken_at p a)) (range_with_len 0 (size_in_ctbs p.sps)) address address
        (omega (arith, inside, length-range_with_len 0 (size_in_ctbs p.sps)))
        (let none : 0 + address ≡ address = omega arith in
        get_or-range_with_len 0 (size_in_ctbs p.sps) address address inside ∙ none) (ap is_some rule) in
        subst (λ o. Contains (broken_units o) address) (sym has) here

    pub bad_has : IsBad (flight_rows f) (unit_number f k address)
    unfolding bad_units
    bad_has =
        let n : ℕ = length f.pictures in
        let in_flight : k < length f.pictures = slice_get_within f.pictures k p has in
        let none : 0 + k ≡ k = omega arith in
        let at : get_or (range_with_len 0 (length f.pictures)) k 0 ≡ k =
        get_or-range_with_len 0 (length f.pictures) k 0 in_flight ∙ none in
        let number : Contains (numbers k) (unit_number f k address) =
        map_contains (unit_number f k) (broken_units (slice_get f.pictures k)) address among in
        in_pieces numbers (range_with_len 0 (length f.pictures)) k 0 (unit_number f k address)
        (omega (arith, in_flight, length-range_with_len 0 (length f.pictures)))
        (subst (λ j. Contains (numbers j) (unit_number f k address)) (sym at) number)

  -- and no other is
  of_picture : (k : ℕ) (o : Option PicturePlan) → slice_get f.pictures k ≡ o
      → All (IsBadUnit f) (map (unit_number f k) (broken_units o))
  of_picture k None has = All-nil (IsBadUnit f)
  of_picture k (Some p) has =
      let size : ℕ = size_in_ctbs p.sps in
      let test : ℕ → Bool = λ a. is_some (broken_at p a) in
      let low : All (λ a. a < size_in_ctbs p.sps) (range_with_len 0 (size_in_ctbs p.sps)) =
      All-from_get_or (λ a. a < size_in_ctbs p.sps) (range_with_len 0 (size_in_ctbs p.sps)) 0 (λ i less.
      let few : i < size_in_ctbs p.sps = omega (arith, less, length-range_with_len 0 (size_in_ctbs p.sps)) in
      let e = get_or-range_with_len 0 (size_in_ctbs p.sps) i 0 few in
      omega (arith, e, few)) in
      let inside : All (λ a. a < size_in_ctbs p.sps) (filter test (range_with_len 0 (size_in_ctbs p.sps))) =
      All-filter test (λ a. a < size_in_ctbs p.sps) (range_with_len 0 (size_in_ctbs p.sps)) low in
      let passes = filter_passes test (range_with_len 0 (size_in_ctbs p.sps)) in
      All-map (IsBadUnit f) (unit_number f k) (filter test (range_with_len 0 (size_in_ctbs p.sps))) (λ i d less.
      let a : ℕ = get_or (filter test (range_with_len 0 (size_in_ctbs p.sps))) i d in
      let found = is_there (broken_at p (get_or (filter test (range_with_len 0 (size_in_ctbs p.sps))) i d))
      (passes i d less) in
      record {
        picture = k;
        plan = p;
        address = a;
        breach = found.0;
        has = has;
        inside = inside i d less;
        number = refl;
        rule = found.1;
      })

  pub bad_is : (u : ℕ) → IsBad (flight_rows f) u → IsBadUnit f u
  unfolding bad_units
  bad_is u bad =
      holds_of (IsBadUnit f) (flat_map numbers (range_with_len 0 (length f.pictures))) u
      (pieces_all (IsBadUnit f) numbers (range_with_len 0 (length f.pictures)) (λ i d less.
      of_picture (get_or (range_with_len 0 (length f.pictures)) i d)
      (slice_get f.pictures (get_or (range_with_len 0 (length f.pictures)) i d)) refl)) bad
