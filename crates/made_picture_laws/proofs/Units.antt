-- The coding tree units of made P and B pictures: their motion, and the samples that it predicts.
use Rattle.std.proofs.Common.{◌≡◌, inl, inr, ℕ, zero, suc, ◌+◌, ◌-◌, ◌*◌, ◌^◌, ◌<◌, ◌≤◌, cond, Bool, true, false}
use Rattle.std.proofs.Common.{List, ◌++◌, Option, Some, None, refl, ap, ◌∙◌, arith}
use Rattle.std.proofs.lemmas.Bool.{cases_lt, le-leb, lt-ltb}
use Rattle.ctu_records.specs.declared.item.Item.{Item}
use Rattle.ctu_records.specs.declared.item.Square.{Square}
use Rattle.ctu_records.specs.declared.prediction.MotionSyntax.{MotionSyntax}
use Rattle.ctu_records.specs.declared.prediction.Rectangle.{Rectangle}
use Rattle.ctu_records.specs.Prediction.{is_inside, part_of, rectangle}
use Rattle.spec_motion.specs.declared.slice_motion.SliceMotion.{SliceMotion}
use Rattle.spec_motion.specs.declared.vectors.Motion.{Motion as UnitMotion}
use Rattle.spec_motion.specs.Derivation.{prediction_motion}
use Rattle.spec_motion.specs.Units.{unit_derived}
use Rattle.spec_motion.specs.Vectors.{Beneath, Known as KnownMotion}
use Rattle.spec_reconstruction.specs.declared.format.UnitFormat.{UnitFormat}
use Rattle.spec_reconstruction.specs.Inter.{InterUnit, block_predicted_by, component_predicted, inter_sample}
use Rattle.spec_reconstruction.specs.Inter.{prediction_laid, rectangle_laid}
use Rattle.spec_reconstruction.specs.Known.{Known}
use Rattle.spec_reconstruction.specs.Unit.{before_unit, items_built, unit_built}
use Rattle.spec_slice_data.specs.Offset.{signed}
use Rattle.spec_slice_data.specs.Residual.{samples_of_place}
use Rattle.spec_boundary_strengths.specs.Strengths.{coded_at}
use Rattle.spec_made.specs.declared.units.InterUnit.{InterUnit as MadeUnit}
use Rattle.spec_made.specs.declared.units.Motion.{Motion}
use Rattle.spec_made.specs.declared.units.Shift.{Shift}
use Rattle.spec_made.specs.InterRows.{is_skipped, later_motion}
use Rattle.made_motion_laws.specs.Keeping.{IsBesideUnit, Keeps, quarter_square, whole_part, whole_square}
use Rattle.made_motion_laws.specs.Uniform.{IsOrNone, IsPlain}
use Rattle.made_motion_laws.proofs.Units.{first_is, four_keep, merge_keeps, one_keeps, quarter_beside, vectors_keep}
use Rattle.made_motion_laws.proofs.Units.{whole_beside}
use Rattle.made_row_laws.specs.Units.{IsMotion, motion_coded, part_items, quarter, unit_items, whole}
use Rattle.made_sample_laws.specs.Units.{side_of}
use Rattle.made_picture_laws.specs.Motion.{motion_drawn}
use Rattle.made_picture_laws.proofs.Vectors.{list_0_first, list_1_first}

-- ---- motion

-- the items of four coding units
abbrev four_items : Motion → Motion → Bool → Bool → Bool → Bool → List Item
four_items first later a b c d =
    part_items 1 (quarter 0 0) a first
    ++ (part_items 1 (quarter 1 0) b later ++ (part_items 1 (quarter 0 1) c later ++ part_items 1 (quarter 1 1) d
    later))

module _ (slice : SliceMotion) (beneath : Beneath) (plain : IsPlain slice) (m : Motion) (small : IsMotion m) where
  abbrev motion : UnitMotion
  motion = motion_drawn m

  -- a coding unit with the predicted vectors, by whether it has two of them
  vectors_alone : (first : Shift) (second : Option Shift) (square : Square)
      → IsMotion (record { first = first; second = second })
      → Keeps slice beneath (motion_drawn (record { first = first; second = second }))
      (whole_part square (motion_coded false (later_motion (record { first = first; second = second }))))
  unfolding signed
  vectors_alone first None square fits =
      let n : Motion = record { first = first; second = None } in
      vectors_keep slice beneath (motion_drawn n) square (list_0_first n fits) (list_1_first n fits)
  vectors_alone first (Some s) square fits =
      let n : Motion = record { first = first; second = Some s } in
      vectors_keep slice beneath (motion_drawn n) square (list_0_first n fits) (list_1_first n fits)

  later_keeps : (skipped : Bool) (square : Square)
      → Keeps slice beneath motion (whole_part square (motion_coded skipped (later_motion m)))
  later_keeps true square = merge_keeps slice beneath motion square plain
  later_keeps false square = vectors_alone m.first m.second square small

  -- the first coding unit of a picture
  first_alone : (first : Shift) (second : Option Shift) (known : KnownMotion) (square : Square)
      → IsMotion (record { first = first; second = second }) → ((column row : ℕ) → known column row ≡ None)
      → prediction_motion slice beneath known
      (whole_part square (motion_coded false (record { first = first; second = second })))
      ≡ motion_drawn (record { first = first; second = second })
  first_alone first None known square fits none =
      let n : Motion = record { first = first; second = None } in
      first_is slice beneath known (motion_drawn n) square (list_0_first n fits) (list_1_first n fits) plain none
  first_alone first (Some s) known square fits none =
      let n : Motion = record { first = first; second = Some s } in
      first_is slice beneath known (motion_drawn n) square (list_0_first n fits) (list_1_first n fits) plain none

  -- behind the units of a coding tree unit, by its first one
  any_derived : (split a b c d : Bool) (first : Motion) (known : KnownMotion) (column row : ℕ)
      → ((column row : ℕ) → IsOrNone motion (known column row))
      → prediction_motion slice beneath known (whole_part (quarter_square 0 0) (motion_coded a first)) ≡ motion
      → prediction_motion slice beneath known (whole_part whole_square (motion_coded a first)) ≡ motion
      → 1 ≤ column → column ≤ 4 → 1 ≤ row → row ≤ 4
      → unit_derived slice beneath
      (cond split (four_items first (later_motion m) a b c d) (part_items 0 whole a first)) known column row
      ≡ Some motion
  unfolding unit_derived
  any_derived true a b c d first known column row each quarter_is whole_is left right above below =
      four_keep slice beneath motion known (motion_coded a first) (motion_coded b (later_motion m))
      (motion_coded c (later_motion m)) (motion_coded d (later_motion m)) column row each quarter_is
      (later_keeps b (quarter_square 1 0)) (later_keeps c (quarter_square 0 1)) (later_keeps d (quarter_square 1 1))
      left
      right above below
  any_derived false a b c d first known column row each quarter_is whole_is left right above below =
      one_keeps slice beneath motion known (motion_coded a first) column row whole_is left right above below

  pub later_derived : (u : MadeUnit) (known : KnownMotion) (column row : ℕ) → IsBesideUnit motion known
      → 1 ≤ column → column ≤ 4 → 1 ≤ row → row ≤ 4
      → unit_derived slice beneath (unit_items (later_motion m) (later_motion m) u) known column row ≡ Some motion
  later_derived u known column row beside left right above below =
      any_derived u.split (is_skipped u 0) (is_skipped u 1) (is_skipped u 2) (is_skipped u 3) (later_motion m) known
      column row beside.each
      (later_keeps (is_skipped u 0) (quarter_square 0 0) known
      (quarter_beside slice beneath motion known (motion_coded (is_skipped u 0) (later_motion m)) beside))
      (later_keeps (is_skipped u 0) whole_square known
      (whole_beside slice beneath motion known (motion_coded (is_skipped u 0) (later_motion m)) beside))
      left right above below

  first_coded : (skipped : Bool) (known : KnownMotion) (square : Square) → skipped ≡ false
      → ((column row : ℕ) → known column row ≡ None)
      → prediction_motion slice beneath known (whole_part square (motion_coded skipped m)) ≡ motion
  first_coded true known square e none = absurd cc
  first_coded false known square e none = first_alone m.first m.second known square small none

  pub first_derived : (u : MadeUnit) (known : KnownMotion) (column row : ℕ) → is_skipped u 0 ≡ false
      → ((column row : ℕ) → known column row ≡ None)
      → 1 ≤ column → column ≤ 4 → 1 ≤ row → row ≤ 4
      → unit_derived slice beneath (unit_items m (later_motion m) u) known column row ≡ Some motion
  first_derived u known column row coded none left right above below =
      any_derived u.split (is_skipped u 0) (is_skipped u 1) (is_skipped u 2) (is_skipped u 3) m known column row
      (λ column row. inl (none column row)) (first_coded (is_skipped u 0) known (quarter_square 0 0) coded none)
      (first_coded (is_skipped u 0) known whole_square coded none) left right above below

-- ---- nothing is coded

any_uncoded : (split a b c d : Bool) (first later : Motion) (x y : ℕ)
    → coded_at (cond split (four_items first later a b c d) (part_items 0 whole a first)) x y ≡ false
unfolding coded_at
any_uncoded true a b c d first later x y = refl
any_uncoded false a b c d first later x y = refl

pub uncoded : (first later : Motion) (u : MadeUnit) (x y : ℕ) → coded_at (unit_items first later u) x y ≡ false
uncoded first later u x y =
    any_uncoded u.split (is_skipped u 0) (is_skipped u 1) (is_skipped u 2) (is_skipped u 3) first later x y

-- ---- samples

module _ (format : UnitFormat) (inter : InterUnit) (m : UnitMotion)
    (has : (column row : ℕ) → 1 ≤ column → column ≤ 4 → 1 ≤ row → row ≤ 4 → inter.motion column row ≡ Some m) where
  -- the sample in a column and a line of the unit, counted from 1
  abbrev value : ℕ → ℕ → ℕ → ℕ
  value c column line =
      inter_sample format inter c m (samples_of_place c * inter.column + (column - 1))
      (samples_of_place c * inter.row + (line - 1))

  -- whether a sample is one of a block
  abbrev is_of : ℕ → Rectangle → ℕ → ℕ → Bool
  is_of c block column line =
      is_inside (rectangle (samples_of_place c * block.x + 1) (samples_of_place c * block.y + 1)
      (samples_of_place c * block.width) (samples_of_place c * block.height)) column line

  -- what a block of one motion lays
  abbrev laid_by : Rectangle → Known → Known
  laid_by block known = block_predicted_by format inter block (Some m) known

  laid_at : (block : Rectangle) (known : Known) (c column line : ℕ) → c < 3
      → laid_by block known c column line
      ≡ cond (is_of c block column line) (Some (value c column line)) (known c column line)
  unfolding component_predicted rectangle_laid
  laid_at block known zero column line least = refl
  laid_at block known (suc zero) column line least = refl
  laid_at block known (suc (suc zero)) column line least = refl
  laid_at block known (suc (suc (suc c))) column line least = absurd (omega arith)

  one_laid : (square : Square) (motion : MotionSyntax) (known : Known)
      → 1 ≤ square.x + 1 → square.x + 1 ≤ 4 → square.y + 1 ≤ 4
      → prediction_laid format inter (whole_part square motion) known
      ≡ laid_by (rectangle square.x square.y (2 ^ square.log2_size) (2 ^ square.log2_size)) known
  unfolding prediction_laid part_of
  one_laid square motion known some few low =
      ap (λ (o : Option UnitMotion).
      block_predicted_by format inter (rectangle square.x square.y (2 ^ square.log2_size) (2 ^ square.log2_size)) o
      known)
      (has (square.x + 1) (square.y + 1) some few (omega arith) low)

  -- what four blocks lay
  abbrev quarter_block : ℕ → ℕ → Rectangle
  quarter_block column row = rectangle (2 * column) (2 * row) 2 2

  abbrev four_by : Known → Known
  four_by known =
      laid_by (quarter_block 1 1)
      (laid_by (quarter_block 0 1) (laid_by (quarter_block 1 0) (laid_by (quarter_block 0 0) known)))

  over : (block : Rectangle) (known : Known) (c column line : ℕ) → c < 3 → is_of c block column line ≡ true
      → laid_by block known c column line ≡ Some (value c column line)
  over block known c column line least is =
      laid_at block known c column line least
      ∙ ap (λ b. cond b (Some (value c column line)) (known c column line)) is

  keeps_cond : (b : Bool) (v : ℕ) (o : Option ℕ) → o ≡ Some v → cond b (Some v) o ≡ Some v
  keeps_cond true v o e = refl
  keeps_cond false v o e = e

  kept : (block : Rectangle) (known : Known) (c column line : ℕ) → c < 3
      → known c column line ≡ Some (value c column line)
      → laid_by block known c column line ≡ Some (value c column line)
  kept block known c column line least e =
      laid_at block known c column line least
      ∙ keeps_cond (is_of c block column line) (value c column line) (known c column line) e

  in_square : (x y n column line : ℕ) → x ≤ column → column < x + n → y ≤ line → line < y + n
      → is_inside (rectangle x y n n) column line ≡ true
  in_square x y n column line left right above below =
      rw (le-leb x column left, lt-ltb column (x + n) right, le-leb y line above, lt-ltb line (y + n) below) refl

  -- by half a side of the unit in samples of a component
  by_half : (s c column line : ℕ) (known : Known) → c < 3
      → (column < s + 1 → line < s + 1 → is_of c (quarter_block 0 0) column line ≡ true)
      → (s + 1 ≤ column → line < s + 1 → is_of c (quarter_block 1 0) column line ≡ true)
      → (column < s + 1 → s + 1 ≤ line → is_of c (quarter_block 0 1) column line ≡ true)
      → (s + 1 ≤ column → s + 1 ≤ line → is_of c (quarter_block 1 1) column line ≡ true)
      → four_by known c column line ≡ Some (value c column line)
  by_half s c column line known least i00 i10 i01 i11 =
      let l0 : Known = laid_by (quarter_block 0 0) known in
      let l1 : Known = laid_by (quarter_block 1 0) l0 in
      let l2 : Known = laid_by (quarter_block 0 1) l1 in
      elim (cases_lt column (s + 1)) [
        | inl west ↦ elim (cases_lt line (s + 1)) [
          | inl north ↦
              kept (quarter_block 1 1) l2 c column line least (kept (quarter_block 0 1) l1 c column line least
              (kept (quarter_block 1 0) l0 c column line least
              (over (quarter_block 0 0) known c column line least (i00 west north))))
          | inr south ↦
              kept (quarter_block 1 1) l2 c column line least
              (over (quarter_block 0 1) l1 c column line least (i01 west south))
        ]
        | inr east ↦ elim (cases_lt line (s + 1)) [
          | inl north ↦
              kept (quarter_block 1 1) l2 c column line least (kept (quarter_block 0 1) l1 c column line least
              (over (quarter_block 1 0) l0 c column line least (i10 east north)))
          | inr south ↦ over (quarter_block 1 1) l2 c column line least (i11 east south)
        ]
      ]

  four_cover : (known : Known) (c i j : ℕ) → c < 3 → i < side_of c → j < side_of c
      → four_by known c (i + 1) (j + 1) ≡ Some (value c (i + 1) (j + 1))
  four_cover known zero i j least few low =
      by_half 8 0 (i + 1) (j + 1) known least
      (λ west north. in_square 1 1 8 (i + 1) (j + 1) (omega arith) west (omega arith) north)
      (λ east north. in_square 9 1 8 (i + 1) (j + 1) east (omega arith) (omega arith) north)
      (λ west south. in_square 1 9 8 (i + 1) (j + 1) (omega arith) west south (omega arith))
      (λ east south. in_square 9 9 8 (i + 1) (j + 1) east (omega arith) south (omega arith))
  four_cover known (suc zero) i j least few low =
      by_half 4 1 (i + 1) (j + 1) known least
      (λ west north. in_square 1 1 4 (i + 1) (j + 1) (omega arith) west (omega arith) north)
      (λ east north. in_square 5 1 4 (i + 1) (j + 1) east (omega arith) (omega arith) north)
      (λ west south. in_square 1 5 4 (i + 1) (j + 1) (omega arith) west south (omega arith))
      (λ east south. in_square 5 5 4 (i + 1) (j + 1) east (omega arith) south (omega arith))
  four_cover known (suc (suc zero)) i j least few low =
      by_half 4 2 (i + 1) (j + 1) known least
      (λ west north. in_square 1 1 4 (i + 1) (j + 1) (omega arith) west (omega arith) north)
      (λ east north. in_square 5 1 4 (i + 1) (j + 1) east (omega arith) (omega arith) north)
      (λ west south. in_square 1 5 4 (i + 1) (j + 1) (omega arith) west south (omega arith))
      (λ east south. in_square 5 5 4 (i + 1) (j + 1) east (omega arith) south (omega arith))
  four_cover known (suc (suc (suc c))) i j least few low = absurd (omega arith)

  one_cover : (known : Known) (c i j : ℕ) → c < 3 → i < side_of c → j < side_of c
      → laid_by (rectangle 0 0 4 4) known c (i + 1) (j + 1) ≡ Some (value c (i + 1) (j + 1))
  one_cover known zero i j least few low =
      over (rectangle 0 0 4 4) known 0 (i + 1) (j + 1) least
      (in_square 1 1 16 (i + 1) (j + 1) (omega arith) (omega arith) (omega arith) (omega arith))
  one_cover known (suc zero) i j least few low =
      over (rectangle 0 0 4 4) known 1 (i + 1) (j + 1) least
      (in_square 1 1 8 (i + 1) (j + 1) (omega arith) (omega arith) (omega arith) (omega arith))
  one_cover known (suc (suc zero)) i j least few low =
      over (rectangle 0 0 4 4) known 2 (i + 1) (j + 1) least
      (in_square 1 1 8 (i + 1) (j + 1) (omega arith) (omega arith) (omega arith) (omega arith))
  one_cover known (suc (suc (suc c))) i j least few low = absurd (omega arith)

  four_laid_by : (a b c d : MotionSyntax) (known : Known)
      → prediction_laid format inter (whole_part (quarter_square 1 1) d)
      (prediction_laid format inter (whole_part (quarter_square 0 1) c)
      (prediction_laid format inter (whole_part (quarter_square 1 0) b)
      (prediction_laid format inter (whole_part (quarter_square 0 0) a) known)))
      ≡ four_by known
  four_laid_by a b c d known =
      let l0 : Known = laid_by (quarter_block 0 0) known in
      let l1 : Known = laid_by (quarter_block 1 0) l0 in
      let l2 : Known = laid_by (quarter_block 0 1) l1 in
      ap (λ (k : Known). prediction_laid format inter (whole_part (quarter_square 1 1) d)
      (prediction_laid format inter (whole_part (quarter_square 0 1) c)
      (prediction_laid format inter (whole_part (quarter_square 1 0) b) k)))
      (one_laid (quarter_square 0 0) a known (omega arith) (omega arith) (omega arith))
      ∙ ap (λ (k : Known). prediction_laid format inter (whole_part (quarter_square 1 1) d)
      (prediction_laid format inter (whole_part (quarter_square 0 1) c) k))
      (one_laid (quarter_square 1 0) b l0 (omega arith) (omega arith) (omega arith))
      ∙ ap (λ (k : Known). prediction_laid format inter (whole_part (quarter_square 1 1) d) k)
      (one_laid (quarter_square 0 1) c l1 (omega arith) (omega arith) (omega arith))
      ∙ one_laid (quarter_square 1 1) d l2 (omega arith) (omega arith) (omega arith)

  any_built : (split s0 s1 s2 s3 : Bool) (first later : Motion) (all : List Item) (known : Known) (c i j : ℕ) → c < 3
      → i < side_of c → j < side_of c
      → (items_built format inter all (cond split (four_items first later s0 s1 s2 s3) (part_items 0 whole s0 first))
      (before_unit known)).known c (i + 1) (j + 1)
      ≡ Some (value c (i + 1) (j + 1))
  unfolding items_built
  any_built true s0 s1 s2 s3 first later all known c i j least few low =
      ap (λ (k : Known). k c (i + 1) (j + 1))
      (four_laid_by (motion_coded s0 first) (motion_coded s1 later) (motion_coded s2 later) (motion_coded s3 later)
      known)
      ∙ four_cover known c i j least few low
  any_built false s0 s1 s2 s3 first later all known c i j least few low =
      ap (λ (k : Known). k c (i + 1) (j + 1))
      (one_laid whole_square (motion_coded s0 first) known (omega arith) (omega arith) (omega arith))
      ∙ one_cover known c i j least few low

  -- a unit all places of which have one motion has the samples that are predicted by it
  pub inter_built : (first later : Motion) (u : MadeUnit) (known : Known) (c i j : ℕ) → c < 3 → i < side_of c
      → j < side_of c
      → unit_built format inter (unit_items first later u) known c (i + 1) (j + 1) ≡ Some (value c (i + 1) (j + 1))
  unfolding unit_built
  inter_built first later u known c i j least few low =
      any_built u.split (is_skipped u 0) (is_skipped u 1) (is_skipped u 2) (is_skipped u 3) first later
      (unit_items first later u) known c i j least few low
