-- A flight with one more picture is a flight.
use Rattle.std.proofs.Common.{ℕ, ◌≡◌, ◌+◌, ◌*◌, ◌<◌, ◌≤◌, List, [], ◌∷◌, ◌++◌, length, get_or, inl, inr, arith, rules}
use Rattle.std.proofs.Common.{sym, subst, ap, All, slice_index_or, take}
use Rattle.std.proofs.Math.Nat.{mul-le-mul}
use Rattle.std.proofs.lemmas.Bool.{cases_lt}
use Rattle.std.proofs.lemmas.List.{get_or_append_left, get_or-append_right, length-append, take-append-le}
use Rattle.std.proofs.lemmas.List.Sums.{sum_by_more_le, sum_by_push}
use Rattle.std.proofs.lemmas.List.Elements.{All-push, All-weaker}
use Rattle.flight_plan.specs.Flight.{FlightRows, PictureRows, IsFlight, IsInRange, IsTreeUnit, ReadsEarlier}
use Rattle.flight_plan.specs.Flight.{no_picture}
use Rattle.flight_plan.specs.Flight.{picture_units, tree_units, units_of}

each_and_last : (P : ℕ → PictureRows → Type 0) (ps : List PictureRows) (p : PictureRows)
    → ((k : ℕ) → k < length ps → P k (slice_index_or ps k no_picture)) → P (length ps) p
    → (k : ℕ) → k < length (ps ++ p ∷ []) → P k (slice_index_or (ps ++ p ∷ []) k no_picture)
each_and_last P ps p each last k inside =
    elim (cases_lt k (length ps)) [
      | inl h ↦ subst (P k) (sym (get_or_append_left ps (p ∷ []) no_picture k h)) (each k h)
      | inr h ↦ let at : k ≡ length ps = omega (arith, length-append ps (p ∷ [])) in
          let e = get_or-append_right ps (p ∷ []) (length ps) k no_picture (λ _. length ps) h in
          search rules
    ]

pub more_units : (ps : List PictureRows) (p : PictureRows) → units_of (ps ++ p ∷ []) ≡ units_of ps + picture_units p
more_units ps p = sum_by_push picture_units ps p

-- a unit's picture has it also where there is one more picture
more_tree_unit : (ps : List PictureRows) (p : PictureRows) (u : ℕ) → IsTreeUnit ps u → IsTreeUnit (ps ++ p ∷ []) u
more_tree_unit ps p u (k, unit) =
    let before : take k (ps ++ p ∷ []) ≡ take k ps = take-append-le k ps (p ∷ []) (omega (arith, unit.picture)) in
    let at : get_or (ps ++ p ∷ []) k no_picture ≡ get_or ps k no_picture =
    get_or_append_left ps (p ∷ []) no_picture k unit.picture in
    let first = ap units_of before in
    let units = ap tree_units at in (
      k,
      record {
        picture = omega (arith, unit.picture, length-append ps (p ∷ []));
        from = omega (arith, first, unit.from);
        below = omega (arith, first, units, unit.below);
      },
    )

-- a coding tree unit of these pictures is one of their units
pub tree_unit_inside : (ps : List PictureRows) (u : ℕ) → IsTreeUnit ps u → u < units_of ps
tree_unit_inside ps u (k, unit) =
    let more = sum_by_more_le picture_units ps k no_picture unit.picture in
    omega (arith, more, unit.below)

pub bad_inside : (plan : FlightRows) → IsFlight plan → All (λ unit. unit < units_of plan.pictures) plan.bad
bad_inside plan flight =
    All-weaker (IsTreeUnit plan.pictures) (λ unit. unit < units_of plan.pictures)
    (λ unit is. tree_unit_inside plan.pictures unit is) plan.bad flight.bad

pub one_more : (ps : List PictureRows) (bad : List ℕ) (p : PictureRows) → IsFlight (record { pictures = ps; bad = bad })
    → length ps < 65536 → IsInRange p → ReadsEarlier (length ps) p
    → IsFlight (record { pictures = ps ++ p ∷ []; bad = bad })
one_more ps bad p flight room in_range earlier = record {
  few = omega (arith, length-append ps (p ∷ []));
  sizes = All-push IsInRange ps p flight.sizes in_range;
  earlier = each_and_last ReadsEarlier ps p flight.earlier earlier;
  bad = All-weaker (IsTreeUnit ps) (IsTreeUnit (ps ++ p ∷ [])) (λ unit is. more_tree_unit ps p unit is) bad flight.bad;
}

pub few_units : (p : PictureRows) → IsInRange p → p.rows * p.width ≤ 262144
few_units p in_range = mul-le-mul in_range.rows in_range.width
