use Rattle.std.proofs.Common.{ℕ, ◌≡◌, ◌+◌, ◌<◌, ◌≤◌, List, inl, inr, arith, ap, sym, ◌∙◌, length, take, get_or}
use Rattle.std.proofs.Common.{slice_index, subst}
use Rattle.std.proofs.lemmas.Bool.{cases_lt}
use Rattle.std.proofs.lemmas.List.{get_or_default}
use Rattle.std.proofs.lemmas.List.Sums.{sum_by_more}
use Rattle.std.proofs.Math.Seq.{take-length}
use Rattle.flight_plan.specs.Flight.{FlightRows, IsTreeUnit, PictureRows, no_picture, picture_units, tree_units}
use Rattle.flight_plan.specs.Flight.{units_of}
use Rattle.board_core.proofs.Units.{past_tree}
use Rattle.board_core.proofs.flight_layout.FlightLayout.place.Goals as goal

pub returns-then-within-tree_units-clause-none : goal.returns-then-within-tree_units-clause-none
returns-then-within-tree_units-clause-none c _ =
    let ps : List PictureRows = c.self.inside.plan.now.pictures in
    let table : List ℕ = c.self.inside.first_units.items in
    let k = c.last_at_most-picture.result in
    let invariant = c.self.invariant in
    let slice : c.as_slice.result.now ≡ table = c.as_slice.ensures.value in
    let count = ap (λ (xs : List ℕ). length xs) slice in
    let in_table : k < length table = omega (arith, c.last_at_most-picture.ensures.inside, count) in
    let inside : k < length ps = omega (arith, in_table, invariant.2) in
    let first : slice_index table k ≡ units_of (take k ps) = invariant.7 k inside in
    let at_index : c.index.result.now ≡ slice_index table k =
    c.index.ensures ∙ get_or_default table k c.index.result.now _ in_table in
    let low : slice_index table k ≤ c.args.unit =
    subst (λ (xs : List ℕ). slice_index xs k ≤ c.args.unit) slice c.last_at_most-picture.ensures.low in
    let tree : c.tree_units.result ≡ tree_units (get_or ps k no_picture) =
    c.tree_units.ensures.value
    ∙ sym (ap (λ (f : FlightRows). tree_units (get_or f.pictures k no_picture)) c.self.view_is) in
    let more = sum_by_more picture_units ps k no_picture inside in
    let total : c.args.unit < units_of ps = omega (arith, c.if-unit-units.false, c.units.ensures.value) in
    let high : c.args.unit < units_of (take (k + 1) ps) =
    elim (cases_lt (k + 1) (length ps)) [
      | inl next ↦ let in_next : k + 1 < length c.as_slice.result.now = omega (arith, next, count, invariant.2) in
          let above : c.args.unit < slice_index table (k + 1) =
          subst (λ (xs : List ℕ). c.args.unit < slice_index xs (k + 1)) slice
          (c.last_at_most-picture.ensures.high in_next) in
          omega (arith, above, invariant.7 (k + 1) next)
      | inr last ↦ let end : k + 1 ≡ length ps = omega (arith, inside, last) in
          let all : take (k + 1) ps ≡ ps = ap (λ n. take n ps) end ∙ take-length ps in
          subst (λ xs. c.args.unit < units_of xs) (sym all) total
    ] in
    let no =
    past_tree ps c.args.unit k inside (omega (arith, at_index, first, low, tree, c.if-within-tree_units.true))
    (omega (arith, high, more)) in
    λ is. no (subst (λ (f : FlightRows). IsTreeUnit f.pictures c.args.unit) (sym c.self.view_is) is)
