-- What a coding tree unit needs to be counted.
use Rattle.std.proofs.Common.{◌≡◌, ℕ, ◌<◌, ◌≤◌, sym, subst, List, ◌++◌, All, arith, get_or}
use Rattle.std.specs.Prelude.{map}
use Rattle.std.proofs.lemmas.List.{get_or-map, length-map}
use Rattle.std.proofs.lemmas.List.Elements.{All-append, All-map}
use Rattle.hv_base.specs.declared.line.Line.{Line}
use Rattle.hv_base.specs.declared.line.Phase.{Phase}
use Rattle.hv_base.specs.declared.line.Phase.TheVariants.{B}
use Rattle.flight_plan.specs.Flight.{FlightRows}
use Rattle.flight_plan.specs.declared.row_range.RowRange.{RowRange}
use Rattle.board_core.specs.Needs.{above_needs, build_needs, collocated_of, counting_needs, range_needs}
use Rattle.board_core.specs.Needs.{reach_needs, read_needs, row_needs, unit_needs}
use Rattle.board_core.specs.Reach.{told_reach}
use Rattle.board_core.proofs.Counting.{pieces_all, right_part}
use Rattle.sample_words.specs.declared.sizes.FlightSizes.{FlightSizes}
use Rattle.flight_lines.specs.Numbers.{numbered, numbered_needs}
use Rattle.progress_words.specs.Core.{AreMet}
use Rattle.progress_words.specs.Meanings.{Meaning}

-- what holds of what a list is mapped to holds so of the list
all_of_map : {X Y : Type 0} (P : X → Type 0) (f : Y → X) (ys : List Y) → All P (map f ys) → All (λ y. P (f y)) ys
all_of_map P f ys all k d inside =
    let many = length-map ys f in
    subst P (get_or-map f ys k d (f d) inside) (all k (f d) (omega (arith, inside, many)))

module _ (m : Meaning) (count : ℕ → ℕ) (s : FlightSizes) where
  -- a need by number is met
  abbrev IsNumberMet : ℕ × ℕ → Type 0
  IsNumberMet need = (need.0 < m.lines) × (need.1 ≤ count need.0)

  abbrev IsMet : Line × ℕ → Type 0
  IsMet need = IsNumberMet (numbered s need)

  by_line : (needs : List (Line × ℕ)) → AreMet m count (numbered_needs s needs) → All IsMet needs
  by_line needs met = all_of_map IsNumberMet (numbered s) needs met

  by_number : (needs : List (Line × ℕ)) → All IsMet needs → AreMet m count (numbered_needs s needs)
  by_number needs met = All-map IsNumberMet (numbered s) needs met

  module _ (plan : FlightRows) (l : Line) (x : ℕ) where
    build_met : AreMet m count (numbered_needs s (read_needs plan l x))
        → AreMet m count (numbered_needs s (row_needs plan (collocated_of plan l x) l.row))
        → All (λ range. AreMet m count (numbered_needs s (range_needs plan range))) (told_reach plan l x)
        → All IsMet (build_needs plan l x)
    build_met above row reach =
        let rows = row_needs plan (collocated_of plan l x) l.row in
        All-append IsMet (above_needs plan l x) (rows ++ reach_needs plan l x)
        (by_line (above_needs plan l x) above)
        (All-append IsMet rows (reach_needs plan l x) (by_line rows row)
        (pieces_all IsMet (range_needs plan) (told_reach plan l x)
        (λ k d inside.
        by_line (range_needs plan (get_or (told_reach plan l x) k d)) (reach k d inside))))

    pub unit_met : l.phase ≡ B → AreMet m count (numbered_needs s (read_needs plan l x))
        → AreMet m count (numbered_needs s (row_needs plan (collocated_of plan l x) l.row))
        → All (λ range. AreMet m count (numbered_needs s (range_needs plan range))) (told_reach plan l x)
        → AreMet m count (numbered_needs s (unit_needs plan l x))
    unit_met is above row reach =
        by_number (unit_needs plan l x)
        (subst (λ (p : Phase). All IsMet (counting_needs p plan l x)) (sym is) (build_met above row reach))

  -- of needs of two lists those of the second are met
  pub second_met : (first second : List (Line × ℕ)) → AreMet m count (numbered_needs s (first ++ second))
      → AreMet m count (numbered_needs s second)
  second_met first second met =
      by_number second (right_part IsMet first second (by_line (first ++ second) met))
