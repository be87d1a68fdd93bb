-- Intra prediction modes are at most 34.
use Rattle.std.proofs.Common.{ℕ, ◌+◌, ◌-◌, ◌<◌, ◌≤◌, Bool, true, false, cond, min, max, arith}
use Rattle.std.specs.Prelude.{◌==◌, ◌&&◌, not, nat_lt, nat_le}
use Rattle.ctu_records.specs.declared.item.Item.TheVariants.{Luma}
use Rattle.ctu_records.specs.declared.item.Square.{Square}
use Rattle.ctu_records.specs.Tree.{Ctu, mode_left, mode_above, luma_mode_at}
use Rattle.spec_picture_build.specs.SpecReconstruction.{UnitFormat}
use Rattle.spec_slice_data.specs.declared.modes.Candidates.{Candidates}
use Rattle.spec_slice_data.specs.Modes.{third_candidate, candidates, candidate, passed, remaining, luma_mode}
use Rattle.spec_slice_data.specs.Modes.{upper_left, upper_right, lower_left, lower_right, luma_block, luma_blocks}
use Rattle.spec_slice_data.specs.Modes.{luma_quarters, luma_modes, listed_mode, chroma_mode, chroma_modes}
use Rattle.unit_laws.proofs.Formats.{Gives, give_gives, then_gives, after_any, when_gives, fixed_gives}
use Rattle.unit_laws.proofs.Items.{IsKept, added_kept, cond_below}

record AreModes (c : Candidates) : Type 0 where
  first : c.first ≤ 34
  second : c.second ≤ 34
  third : c.third ≤ 34

cond_modes : (b : Bool) (c d : Candidates) → AreModes c → AreModes d → AreModes (cond b c d)
cond_modes true c d first second = first
cond_modes false c d first second = second

third-small : (a b : ℕ) → third_candidate a b ≤ 34
unfolding third_candidate
third-small a b =
    cond_below (not (a == 0) && not (b == 0)) 34 0 _ (omega arith)
    (cond_below (not (a == 1) && not (b == 1)) 34 1 26 (omega arith) (omega arith))

candidates-small : (a b : ℕ) → a ≤ 34 → b ≤ 34 → AreModes (candidates a b)
unfolding candidates
candidates-small a b left above =
    cond_modes (a == b) _ _
    (cond_modes (nat_lt a 2) _ _
    (record { first = omega arith; second = omega arith; third = omega arith })
    (record { first = left; second = omega arith; third = omega arith }))
    (record { first = left; second = above; third = third-small a b })

candidate-small : (c : Candidates) (index : ℕ) → AreModes c → candidate c index ≤ 34
candidate-small c index small =
    cond_below (index == 0) 34 c.first _ small.first
    (cond_below (index == 1) 34 c.second c.third small.second small.third)

passed-small : (c v most : ℕ) → v ≤ most → passed c v ≤ most + 1
passed-small c v most small = cond_below (nat_le c v) (most + 1) (v + 1) v (omega (arith, small)) (omega (arith, small))

remaining-small : (c : Candidates) (rem : ℕ) → rem < 32 → remaining c rem ≤ 34
unfolding remaining
remaining-small c rem small =
    let low = min c.first c.second in
    let high = max c.first c.second in
    let least = min low c.third in
    let between = max low c.third in
    let middle = min high between in
    let greatest = max high between in
    passed-small greatest (passed middle (passed least rem)) 33
    (passed-small middle (passed least rem) 32 (passed-small least rem 31 (omega (arith, small))))

abbrev pub IsMode : ℕ → Type 0
IsMode mode = mode ≤ 34

luma_mode-gives : (most_probable : Bool) (c : Candidates) → AreModes c → Gives IsMode (luma_mode most_probable c)
unfolding luma_mode
luma_mode-gives most_probable c small =
    when_gives most_probable
    (λ held. after_any (λ index. give_gives (candidate c index) (candidate-small c index small)))
    (λ held. then_gives (fixed_gives 5 0) (λ rem below. give_gives (remaining c rem) (remaining-small c rem below)))

listed_mode-small : (choice : ℕ) → listed_mode choice ≤ 34
unfolding listed_mode
listed_mode-small choice =
    cond_below (choice == 0) 34 0 _ (omega arith)
    (cond_below (choice == 1) 34 26 _ (omega arith) (cond_below (choice == 2) 34 10 1 (omega arith) (omega arith)))

chroma_mode-small : (choice luma : ℕ) → luma ≤ 34 → chroma_mode choice luma ≤ 34
unfolding chroma_mode
chroma_mode-small choice luma small =
    cond_below (choice == 4) 34 luma _ small
    (cond_below (listed_mode choice == luma) 34 34 (listed_mode choice) (omega arith) (listed_mode-small choice))

module _ (format : UnitFormat) (greatest : ℕ) where
  abbrev Kept : Ctu → Type 0
  Kept ctu = IsKept format greatest ctu

  mode_left-small : (ctu : Ctu) (x y : ℕ) → Kept ctu → mode_left ctu x y ≤ 34
  unfolding mode_left
  mode_left-small ctu x y kept =
      cond_below (x == 0) 34 _ (luma_mode_at ctu.items (x - 1) y) (kept.left y) (kept.modes (x - 1) y)

  mode_above-small : (ctu : Ctu) (x y : ℕ) → Kept ctu → mode_above ctu x y ≤ 34
  unfolding mode_above
  mode_above-small ctu x y kept =
      cond_below (y == 0) 34 1 (luma_mode_at ctu.items x (y - 1)) (omega arith) (kept.modes x (y - 1))

  block_kept : (square : Square) (most_probable : Bool) (ctu : Ctu) → Kept ctu
      → Gives (IsKept format greatest) (luma_block square most_probable ctu)
  unfolding luma_block
  block_kept square most_probable ctu kept =
      then_gives
      (luma_mode-gives most_probable (candidates (mode_left ctu square.x square.y) (mode_above ctu square.x square.y))
      (candidates-small _ _ (mode_left-small ctu square.x square.y kept) (mode_above-small ctu square.x square.y kept)))
      (λ mode small. give_gives _
      (added_kept format greatest ctu (Luma (record { square = square; mode = mode })) kept tt small tt tt))

  blocks_kept : (square : Square) (flag_0 flag_1 flag_2 flag_3 : Bool) (ctu : Ctu) → Kept ctu
      → Gives (IsKept format greatest) (luma_blocks square flag_0 flag_1 flag_2 flag_3 ctu)
  unfolding luma_blocks
  blocks_kept square flag_0 flag_1 flag_2 flag_3 ctu kept =
      then_gives (block_kept (upper_left square) flag_0 ctu kept) (λ first first_kept.
      then_gives (block_kept (upper_right square) flag_1 first first_kept) (λ second second_kept.
      then_gives (block_kept (lower_left square) flag_2 second second_kept) (λ third third_kept.
      block_kept (lower_right square) flag_3 third third_kept)))

  quarters_kept : (square : Square) (ctu : Ctu) → Kept ctu → Gives (IsKept format greatest) (luma_quarters square ctu)
  unfolding luma_quarters
  quarters_kept square ctu kept =
      after_any (λ flag_0. after_any (λ flag_1. after_any (λ flag_2. after_any
      (λ flag_3. blocks_kept square flag_0 flag_1 flag_2 flag_3 ctu kept))))

  pub luma_modes_kept : (split : Bool) (square : Square) (ctu : Ctu) → IsKept format greatest ctu
      → Gives (IsKept format greatest) (luma_modes split square ctu)
  luma_modes_kept split square ctu kept =
      when_gives split (λ held. quarters_kept square ctu kept)
      (λ held. after_any (λ most_probable. block_kept square most_probable ctu kept))

  pub chroma_modes-gives : (x y : ℕ) (ctu : Ctu) → IsKept format greatest ctu → Gives IsMode (chroma_modes x y ctu)
  unfolding chroma_modes
  chroma_modes-gives x y ctu kept =
      after_any (λ choice. give_gives (chroma_mode choice (luma_mode_at ctu.items x y))
      (chroma_mode-small choice (luma_mode_at ctu.items x y) (kept.modes x y)))
