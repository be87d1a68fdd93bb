-- Intra prediction modes: their elements (7.3.8.5, 9.3.3), and what they are derived as (8.4.2, 8.4.3).
use Rattle.std.specs.Prelude.{ℕ, ◌+◌, ◌-◌, ◌%◌, ◌^◌, ◌==◌, ◌&&◌, not, min, max, nat_le, nat_lt, Bool, if◌then◌else◌}
use Rattle.ctu_records.specs.declared.item.Item.TheVariants.{Luma}
use Rattle.ctu_records.specs.declared.item.Square.{Square}
use Rattle.ctu_records.specs.Tree.{Ctu, added, mode_left, mode_above, luma_mode_at}
use Rattle.spec_residuals.specs.SpecCabac.{PREV_INTRA_LUMA_PRED_FLAG, INTRA_CHROMA_PRED_MODE}
use Rattle.spec_residuals.specs.SpecCabac.{Tree, decision, bypass, fixed, truncated}
use Rattle.spec_residuals.specs.SpecFormats.{◌>>=◌, give, when◌then◌else◌}
use Rattle.spec_slice_data.specs.declared.modes.Candidates.{Candidates}

-- the first of planar, DC and vertical that is neither of two others
unfoldable pub third_candidate : ℕ → ℕ → ℕ
third_candidate a b =
    if not (a == 0) && not (b == 0) then 0
    else (if not (a == 1) && not (b == 1) then 1 else 26)

-- candModeList, by the modes on the left and above (8.4.2)
unfoldable pub candidates : ℕ → ℕ → Candidates
candidates a b =
    if a == b
    then (if nat_lt a 2
    then record { first = 0; second = 1; third = 26 }
    else record { first = a; second = 2 + (a + 29) % 32; third = 2 + (a - 1) % 32 })
    else record { first = a; second = b; third = third_candidate a b }

-- a candidate by its number
abbrev pub candidate : Candidates → ℕ → ℕ
candidate c index = if index == 0 then c.first else (if index == 1 then c.second else c.third)

-- one higher where it has reached a candidate
abbrev pub passed : ℕ → ℕ → ℕ
passed candidate mode = if nat_le candidate mode then mode + 1 else mode

-- the mode with this number among those that are no candidates, which the candidates are passed for in rising order
unfoldable pub remaining : Candidates → ℕ → ℕ
remaining c rem =
    let low = min c.first c.second in
    let high = max c.first c.second in
    let least = min low c.third in
    let between = max low c.third in
    let middle = min high between in
    let greatest = max high between in
    passed greatest (passed middle (passed least rem))

-- mpm_idx or rem_intra_luma_pred_mode, and the mode that it tells
unfoldable pub luma_mode : Bool → Candidates → Tree ℕ
luma_mode most_probable c =
    when most_probable
    then (do
      index ← truncated (λ i. bypass) 2
      give (candidate c index))
    else (do
      rem ← fixed 5
      give (remaining c rem))

-- the four quarters of a square
abbrev pub upper_left : Square → Square
upper_left s = record { x = s.x; y = s.y; log2_size = s.log2_size - 1 }

-- the upper right quarter of a square
abbrev pub upper_right : Square → Square
upper_right s = record { x = s.x + 2 ^ (s.log2_size - 1); y = s.y; log2_size = s.log2_size - 1 }

-- the lower left one
abbrev pub lower_left : Square → Square
lower_left s = record { x = s.x; y = s.y + 2 ^ (s.log2_size - 1); log2_size = s.log2_size - 1 }

-- the lower right one
abbrev pub lower_right : Square → Square
lower_right s = record { x = s.x + 2 ^ (s.log2_size - 1); y = s.y + 2 ^ (s.log2_size - 1); log2_size = s.log2_size - 1 }

-- a prediction block
unfoldable pub luma_block : Square → Bool → Ctu → Tree Ctu
luma_block square most_probable ctu = do
  mode ← luma_mode most_probable (candidates (mode_left ctu square.x square.y) (mode_above ctu square.x square.y))
  give (added ctu (Luma (record { square = square; mode = mode })))

-- prev_intra_luma_pred_flag
abbrev pub prev_intra_luma_pred_flag : Tree Bool
prev_intra_luma_pred_flag = decision PREV_INTRA_LUMA_PRED_FLAG

-- the one block of a coding unit
abbrev pub luma_whole : Square → Ctu → Tree Ctu
luma_whole square ctu = do
  most_probable ← prev_intra_luma_pred_flag
  luma_block square most_probable ctu

-- four blocks by their flags
unfoldable pub luma_blocks : Square → Bool → Bool → Bool → Bool → Ctu → Tree Ctu
luma_blocks square flag_0 flag_1 flag_2 flag_3 ctu = do
  first ← luma_block (upper_left square) flag_0 ctu
  second ← luma_block (upper_right square) flag_1 first
  third ← luma_block (lower_left square) flag_2 second
  luma_block (lower_right square) flag_3 third

-- the four blocks of a coding unit, whose flags stand together before the modes
unfoldable pub luma_quarters : Square → Ctu → Tree Ctu
luma_quarters square ctu = do
  flag_0 ← prev_intra_luma_pred_flag
  flag_1 ← prev_intra_luma_pred_flag
  flag_2 ← prev_intra_luma_pred_flag
  flag_3 ← prev_intra_luma_pred_flag
  luma_blocks square flag_0 flag_1 flag_2 flag_3 ctu

-- the luma modes of a coding unit: one, or four
abbrev pub luma_modes : Bool → Square → Ctu → Tree Ctu
luma_modes split square ctu = when split then luma_quarters square ctu else luma_whole square ctu

-- intra_chroma_pred_mode: 4 by one bin, another by two bypass bins behind it
unfoldable pub intra_chroma_pred_mode : Tree ℕ
intra_chroma_pred_mode = do
  listed ← decision INTRA_CHROMA_PRED_MODE
  when listed then fixed 2 else give 4

-- planar, vertical, horizontal, DC
unfoldable pub listed_mode : ℕ → ℕ
listed_mode choice = if choice == 0 then 0 else (if choice == 1 then 26 else (if choice == 2 then 10 else 1))

-- IntraPredModeC by intra_chroma_pred_mode and the luma mode of the first block (8.4.3)
unfoldable pub chroma_mode : ℕ → ℕ → ℕ
chroma_mode choice luma = if choice == 4 then luma else (if listed_mode choice == luma then 34 else listed_mode choice)

-- the chroma mode of a coding unit at a place
unfoldable pub chroma_modes : ℕ → ℕ → Ctu → Tree ℕ
chroma_modes x y ctu = do
  choice ← intra_chroma_pred_mode
  give (chroma_mode choice (luma_mode_at ctu.items x y))
