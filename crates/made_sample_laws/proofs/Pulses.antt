-- Samples by pulse code modulation are laid as they are drawn.
use Rattle.std.proofs.Common.{◌≡◌, ℕ, zero, suc, ◌+◌, ◌-◌, ◌*◌, ◌/◌, ◌%◌, ◌^◌, ◌<◌, ◌≤◌, Bool, true, false}
use Rattle.std.proofs.Common.{List, [], ◌∷◌, ◌++◌, length, drop, get_or, Option, Some}
use Rattle.std.proofs.Common.{refl, sym, ap, subst, ◌∙◌, arith, append-nil, get_or-take, get_or-drop}
use Rattle.std.specs.Prelude.{◌==◌, ◌&&◌, nat_le, nat_lt}
use Rattle.std.proofs.lemmas.Bool.{le-leb, lt-ltb}
use Rattle.std.proofs.lemmas.Bool.Decides.{nat_tests}
use Rattle.std.proofs.lemmas.List.{length-drop, length-take-le}
use Rattle.ctu_records.specs.declared.item.Item.{Item}
use Rattle.ctu_records.specs.declared.item.Item.TheVariants as item
use Rattle.ctu_records.specs.declared.item.Square.{Square}
use Rattle.ctu_records.specs.Places.{inside}
use Rattle.spec_made.specs.declared.units.PcmUnit.{PcmUnit}
use Rattle.spec_made.specs.PcmRows.{quarter_of}
use Rattle.spec_reconstruction.specs.declared.format.UnitFormat.{UnitFormat}
use Rattle.spec_reconstruction.specs.Inter.{InterUnit}
use Rattle.spec_reconstruction.specs.Known.{Known, changed, laid}
use Rattle.spec_reconstruction.specs.Pulses.{pulses_laid, sample_of, shifted}
use Rattle.spec_reconstruction.specs.Unit.{Building, items_built, mode_of, unit_built}
use Rattle.made_row_laws.specs.Units.{coding_unit_of, pcm_unit_items, pulse_items, quarter, sample_items, whole}
use Rattle.made_sample_laws.specs.Units.{HasEightBits, pulse_at, side_of}

and_no : (a : Bool) → (a && false) ≡ false
and_no true = refl
and_no false = refl

-- the value of one of the samples that items begin with
value_at : (xs : List ℕ) (rest : List Item) (k : ℕ) → k < length xs
    → sample_of (get_or (sample_items xs ++ rest) k (item.Sample 0)) ≡ get_or xs k 0
value_at [] rest k inside = absurd (omega arith)
value_at (x ∷ xs) rest zero inside = refl
value_at (x ∷ xs) rest (suc k) inside = value_at xs rest k (omega arith)

shifted_at : (xs : List ℕ) (rest : List Item) (depth bits first n x y : ℕ) → depth ≡ 8 → bits ≡ 8
    → first + n * y + x < length xs
    → shifted (depth - bits) first (sample_items xs ++ rest) n x y ≡ get_or xs (first + n * y + x) 0
shifted_at xs rest depth bits first n x y d b small =
    let k : ℕ = first + n * y + x in
    let value = value_at xs rest k small in
    let none : depth - bits ≡ 0 = omega arith in
    let once : get_or xs k 0 * 1 ≡ get_or xs k 0 = omega arith in
    rw none (ap (λ v. v * 1) value ∙ once)

-- ---- squares

pub is_in : (x y n column line : ℕ) → x ≤ column → column < x + n → y ≤ line → line < y + n
    → inside x y n column line ≡ true
is_in x y n column line left right above below =
    rw (le-leb x column left, lt-ltb column (x + n) right, le-leb y line above, lt-ltb line (y + n) below) refl

pub before_column : (x y n column line : ℕ) → column < x → inside x y n column line ≡ false
before_column x y n column line less =
    let no : nat_le x column ≡ false = grind (arith, nat_tests) in rw no refl

pub before_line : (x y n column line : ℕ) → line < y → inside x y n column line ≡ false
before_line x y n column line less =
    let no : nat_le y line ≡ false = grind (arith, nat_tests) in
    rw no (and_no (nat_le x column && nat_lt column (x + n)))

laid_at : (c x y n i j column line : ℕ) (block : ℕ → ℕ → ℕ) (known : Known) → column ≡ x + i + 1 → line ≡ y + j + 1
    → i < n → j < n → laid c x y n block known c column line ≡ Some (block i j)
unfolding changed
laid_at c x y n i j column line block known at on few low =
    let same : (c == c) ≡ true = grind (arith, nat_tests) in
    let here : inside (x + 1) (y + 1) n column line ≡ true =
    is_in (x + 1) (y + 1) n column line (omega arith) (omega arith) (omega arith) (omega arith) in
    let across : column - (x + 1) ≡ i = omega arith in
    let down : line - (y + 1) ≡ j = omega arith in
    rw (same, here, across, down) refl

laid_past : (c x y n column line : ℕ) (block : ℕ → ℕ → ℕ) (known : Known)
    → inside (x + 1) (y + 1) n column line ≡ false → laid c x y n block known c column line ≡ known c column line
unfolding changed
laid_past c x y n column line block known is =
    let same : (c == c) ≡ true = grind (arith, nat_tests) in
    rw (same, is) refl

laid_apart : (c d x y n column line : ℕ) (block : ℕ → ℕ → ℕ) (known : Known) → (d == c) ≡ false
    → laid c x y n block known d column line ≡ known d column line
unfolding changed
laid_apart c d x y n column line block known apart = rw apart refl

-- ---- a coding unit

module _ (format : UnitFormat) (eight : HasEightBits format) (square : Square) (xs : List ℕ) (rest : List Item)
    (known : Known) (column line : ℕ) where
  abbrev n : ℕ
  n = 4 * 2 ^ square.log2_size

  abbrev half : ℕ
  half = 2 * 2 ^ square.log2_size

  luma_at : (i j : ℕ) → column ≡ 4 * square.x + i + 1 → line ≡ 4 * square.y + j + 1 → i < n → j < n
      → 0 + n * j + i < length xs
      → pulses_laid format square (sample_items xs ++ rest) known 0 column line ≡ Some (get_or xs (0 + n * j + i) 0)
  unfolding pulses_laid
  luma_at i j at on few low small =
      laid_apart 2 0 _ _ _ column line _ _ refl ∙ laid_apart 1 0 _ _ _ column line _ _ refl
      ∙ laid_at 0 (4 * square.x) (4 * square.y) n i j column line _ known at on few low
      ∙ ap Some (shifted_at xs rest format.luma_depth format.pcm_luma_bits 0 n i j eight.luma eight.pcm_luma small)

  luma_past : inside (4 * square.x + 1) (4 * square.y + 1) n column line ≡ false
      → pulses_laid format square (sample_items xs ++ rest) known 0 column line ≡ known 0 column line
  unfolding pulses_laid
  luma_past is =
      laid_apart 2 0 _ _ _ column line _ _ refl ∙ laid_apart 1 0 _ _ _ column line _ _ refl
      ∙ laid_past 0 (4 * square.x) (4 * square.y) n column line _ known is

  cb_at : (i j : ℕ) → column ≡ 2 * square.x + i + 1 → line ≡ 2 * square.y + j + 1 → i < half → j < half
      → n * n + half * j + i < length xs
      → pulses_laid format square (sample_items xs ++ rest) known 1 column line
      ≡ Some (get_or xs (n * n + half * j + i) 0)
  unfolding pulses_laid
  cb_at i j at on few low small =
      laid_apart 2 1 _ _ _ column line _ _ refl
      ∙ laid_at 1 (2 * square.x) (2 * square.y) half i j column line _ _ at on few low
      ∙ ap Some (shifted_at xs rest format.chroma_depth format.pcm_chroma_bits (n * n) half i j eight.chroma
      eight.pcm_chroma small)

  cb_past : inside (2 * square.x + 1) (2 * square.y + 1) half column line ≡ false
      → pulses_laid format square (sample_items xs ++ rest) known 1 column line ≡ known 1 column line
  unfolding pulses_laid
  cb_past is =
      laid_apart 2 1 _ _ _ column line _ _ refl
      ∙ laid_past 1 (2 * square.x) (2 * square.y) half column line _ _ is
      ∙ laid_apart 0 1 _ _ _ column line _ known refl

  cr_at : (i j : ℕ) → column ≡ 2 * square.x + i + 1 → line ≡ 2 * square.y + j + 1 → i < half → j < half
      → n * n + half * half + half * j + i < length xs
      → pulses_laid format square (sample_items xs ++ rest) known 2 column line
      ≡ Some (get_or xs (n * n + half * half + half * j + i) 0)
  unfolding pulses_laid
  cr_at i j at on few low small =
      laid_at 2 (2 * square.x) (2 * square.y) half i j column line _ _ at on few low
      ∙ ap Some (shifted_at xs rest format.chroma_depth format.pcm_chroma_bits (n * n + half * half) half i j
      eight.chroma eight.pcm_chroma small)

  cr_past : inside (2 * square.x + 1) (2 * square.y + 1) half column line ≡ false
      → pulses_laid format square (sample_items xs ++ rest) known 2 column line ≡ known 2 column line
  unfolding pulses_laid
  cr_past is =
      laid_past 2 (2 * square.x) (2 * square.y) half column line _ _ is
      ∙ laid_apart 1 2 _ _ _ column line _ _ refl ∙ laid_apart 0 2 _ _ _ column line _ known refl

-- ---- four coding units

quarter_at : (xs : List ℕ) (q k : ℕ) → k < 96 → get_or (quarter_of xs q) k 0 ≡ get_or xs (96 * q + k) 0
quarter_at xs q k small = get_or-take 96 (drop (96 * q) xs) k 0 small ∙ get_or-drop (96 * q) xs k 0

quarter_size : (xs : List ℕ) (q : ℕ) → length xs ≡ 384 → q < 4 → length (quarter_of xs q) ≡ 96
quarter_size xs q e few = length-take-le 96 (drop (96 * q) xs) (omega (arith, length-drop (96 * q) xs))

-- the samples of four coding units, one laid behind the other, whatever follows the samples of each
abbrev four : UnitFormat → List ℕ → List Item → List Item → List Item → List Item → Known → Known
four format xs r0 r1 r2 r3 known =
    pulses_laid format (quarter 1 1) (sample_items (quarter_of xs 3) ++ r3)
    (pulses_laid format (quarter 0 1) (sample_items (quarter_of xs 2) ++ r2)
    (pulses_laid format (quarter 1 0) (sample_items (quarter_of xs 1) ++ r1)
    (pulses_laid format (quarter 0 0) (sample_items (quarter_of xs 0) ++ r0) known)))

-- of a component, by its side in a coding unit and by where its samples begin
module _ (format : UnitFormat) (c s first : ℕ) (room : (i j : ℕ) → i < s → j < s → first + s * j + i < 96)
    (at : (qx qy : ℕ) (xs : List ℕ) (rest : List Item) (known : Known) (i j : ℕ) → i < s → j < s
    → first + s * j + i < length xs
    → pulses_laid format (quarter qx qy) (sample_items xs ++ rest) known c (s * qx + i + 1) (s * qy + j + 1)
    ≡ Some (get_or xs (first + s * j + i) 0))
    (past : (qx qy : ℕ) (xs : List ℕ) (rest : List Item) (known : Known) (column line : ℕ)
    → inside (s * qx + 1) (s * qy + 1) s column line ≡ false
    → pulses_laid format (quarter qx qy) (sample_items xs ++ rest) known c column line ≡ known c column line) where
  one_at : (xs : List ℕ) (q qx qy : ℕ) (rest : List Item) (known : Known) (i j : ℕ) → length xs ≡ 384 → q < 4 → i < s
      → j < s
      → pulses_laid format (quarter qx qy) (sample_items (quarter_of xs q) ++ rest) known c (s * qx + i + 1)
      (s * qy + j + 1)
      ≡ Some (get_or xs (96 * q + (first + s * j + i)) 0)
  one_at xs q qx qy rest known i j e few across down =
      let small = room i j across down in
      at qx qy (quarter_of xs q) rest known i j across down (omega (arith, quarter_size xs q e few))
      ∙ ap Some (quarter_at xs q (first + s * j + i) small)

  four_at : (xs : List ℕ) (r0 r1 r2 r3 : List Item) (known : Known) (qx qy i j : ℕ) → length xs ≡ 384 → qx < 2 → qy < 2
      → i < s → j < s
      → four format xs r0 r1 r2 r3 known c (s * qx + i + 1) (s * qy + j + 1)
      ≡ Some (get_or xs (96 * (2 * qy + qx) + (first + s * j + i)) 0)
  four_at xs r0 r1 r2 r3 known zero zero i j e a b across down =
      past 1 1 _ r3 _ _ _ (before_column (s * 1 + 1) (s * 1 + 1) s _ _ (omega arith))
      ∙ past 0 1 _ r2 _ _ _ (before_line (s * 0 + 1) (s * 1 + 1) s _ _ (omega arith))
      ∙ past 1 0 _ r1 _ _ _ (before_column (s * 1 + 1) (s * 0 + 1) s _ _ (omega arith))
      ∙ one_at xs 0 0 0 r0 known i j e (omega arith) across down
  four_at xs r0 r1 r2 r3 known (suc zero) zero i j e a b across down =
      past 1 1 _ r3 _ _ _ (before_line (s * 1 + 1) (s * 1 + 1) s _ _ (omega arith))
      ∙ past 0 1 _ r2 _ _ _ (before_line (s * 0 + 1) (s * 1 + 1) s _ _ (omega arith))
      ∙ one_at xs 1 1 0 r1 _ i j e (omega arith) across down
  four_at xs r0 r1 r2 r3 known zero (suc zero) i j e a b across down =
      past 1 1 _ r3 _ _ _ (before_column (s * 1 + 1) (s * 1 + 1) s _ _ (omega arith))
      ∙ one_at xs 2 0 1 r2 _ i j e (omega arith) across down
  four_at xs r0 r1 r2 r3 known (suc zero) (suc zero) i j e a b across down =
      one_at xs 3 1 1 r3 _ i j e (omega arith) across down
  four_at xs r0 r1 r2 r3 known (suc (suc qx)) qy i j e a b across down = absurd (omega arith)
  four_at xs r0 r1 r2 r3 known qx (suc (suc qy)) i j e a b across down = absurd (omega arith)

-- ---- units

eight_of : (q : ℕ) → 8 * q ≡ 4 * (2 * q)
eight_of q = omega arith

four_of : (q : ℕ) → 4 * q ≡ 2 * (2 * q)
four_of q = omega arith

-- the same sample by another name of its place
placed : (known : ℕ → ℕ → Option ℕ) (xs : List ℕ) (column line column' line' k k' : ℕ) → column ≡ column' → line ≡ line'
    → k ≡ k' → known column line ≡ Some (get_or xs k 0) → known column' line' ≡ Some (get_or xs k' 0)
placed known xs column line column' line' k k' a b e is =
    ap (λ x. known x line') (sym a) ∙ ap (known column) (sym b) ∙ is ∙ ap (λ x. Some (get_or xs x 0)) e

luma_room : (i j : ℕ) → i < 8 → j < 8 → 0 + 8 * j + i < 96
luma_room i j across down = omega arith

cb_room : (i j : ℕ) → i < 4 → j < 4 → 64 + 4 * j + i < 96
cb_room i j across down = omega arith

cr_room : (i j : ℕ) → i < 4 → j < 4 → 80 + 4 * j + i < 96
cr_room i j across down = omega arith

module _ (format : UnitFormat) (eight : HasEightBits format) where
  luma_four : (xs : List ℕ) (r0 r1 r2 r3 : List Item) (known : Known) (qx qy i j : ℕ) → length xs ≡ 384 → qx < 2
      → qy < 2
      → i < 8 → j < 8
      → four format xs r0 r1 r2 r3 known 0 (8 * qx + i + 1) (8 * qy + j + 1)
      ≡ Some (get_or xs (96 * (2 * qy + qx) + (0 + 8 * j + i)) 0)
  luma_four =
      four_at format 0 8 0 luma_room
      (λ qx qy xs rest known i j few low small.
      luma_at format eight (quarter qx qy) xs rest known (8 * qx + i + 1) (8 * qy + j + 1) i j (omega arith) (omega
      arith)
      few low small)
      (λ qx qy xs rest known column line is.
      luma_past format eight (quarter qx qy) xs rest known column line
      (subst (λ k. inside (k + 1) (4 * (2 * qy) + 1) 8 column line ≡ false) (eight_of qx)
      (subst (λ k. inside (8 * qx + 1) (k + 1) 8 column line ≡ false) (eight_of qy) is)))

  cb_four : (xs : List ℕ) (r0 r1 r2 r3 : List Item) (known : Known) (qx qy i j : ℕ) → length xs ≡ 384 → qx < 2 → qy < 2
      → i < 4 → j < 4
      → four format xs r0 r1 r2 r3 known 1 (4 * qx + i + 1) (4 * qy + j + 1)
      ≡ Some (get_or xs (96 * (2 * qy + qx) + (64 + 4 * j + i)) 0)
  cb_four =
      four_at format 1 4 64 cb_room
      (λ qx qy xs rest known i j few low small.
      cb_at format eight (quarter qx qy) xs rest known (4 * qx + i + 1) (4 * qy + j + 1) i j (omega arith) (omega arith)
      few low small)
      (λ qx qy xs rest known column line is.
      cb_past format eight (quarter qx qy) xs rest known column line
      (subst (λ k. inside (k + 1) (2 * (2 * qy) + 1) 4 column line ≡ false) (four_of qx)
      (subst (λ k. inside (4 * qx + 1) (k + 1) 4 column line ≡ false) (four_of qy) is)))

  cr_four : (xs : List ℕ) (r0 r1 r2 r3 : List Item) (known : Known) (qx qy i j : ℕ) → length xs ≡ 384 → qx < 2 → qy < 2
      → i < 4 → j < 4
      → four format xs r0 r1 r2 r3 known 2 (4 * qx + i + 1) (4 * qy + j + 1)
      ≡ Some (get_or xs (96 * (2 * qy + qx) + (80 + 4 * j + i)) 0)
  cr_four =
      four_at format 2 4 80 cr_room
      (λ qx qy xs rest known i j few low small.
      cr_at format eight (quarter qx qy) xs rest known (4 * qx + i + 1) (4 * qy + j + 1) i j (omega arith) (omega arith)
      few low small)
      (λ qx qy xs rest known column line is.
      cr_past format eight (quarter qx qy) xs rest known column line
      (subst (λ k. inside (k + 1) (2 * (2 * qy) + 1) 4 column line ≡ false) (four_of qx)
      (subst (λ k. inside (4 * qx + 1) (k + 1) 4 column line ≡ false) (four_of qy) is)))

  -- the samples of a unit, split or not
  split_at : (xs : List ℕ) (r0 r1 r2 r3 : List Item) (known : Known) (c i j : ℕ) → length xs ≡ 384 → c < 3
      → i < side_of c → j < side_of c
      → four format xs r0 r1 r2 r3 known c (i + 1) (j + 1)
      ≡ Some (pulse_at (record { split = true; samples = xs }) c i j)
  split_at xs r0 r1 r2 r3 known zero i j e least across down =
      placed (four format xs r0 r1 r2 r3 known 0) xs (8 * (i / 8) + i % 8 + 1) (8 * (j / 8) + j % 8 + 1) (i + 1) (j +
      1) _
      _ (omega arith) (omega arith) (omega arith)
      (luma_four xs r0 r1 r2 r3 known (i / 8) (j / 8) (i % 8) (j % 8) e (omega arith) (omega arith) (omega arith)
      (omega arith))
  split_at xs r0 r1 r2 r3 known (suc zero) i j e least across down =
      placed (four format xs r0 r1 r2 r3 known 1) xs (4 * (i / 4) + i % 4 + 1) (4 * (j / 4) + j % 4 + 1) (i + 1) (j +
      1) _
      _ (omega arith) (omega arith) (omega arith)
      (cb_four xs r0 r1 r2 r3 known (i / 4) (j / 4) (i % 4) (j % 4) e (omega arith) (omega arith) (omega arith)
      (omega arith))
  split_at xs r0 r1 r2 r3 known (suc (suc zero)) i j e least across down =
      placed (four format xs r0 r1 r2 r3 known 2) xs (4 * (i / 4) + i % 4 + 1) (4 * (j / 4) + j % 4 + 1) (i + 1) (j +
      1) _
      _ (omega arith) (omega arith) (omega arith)
      (cr_four xs r0 r1 r2 r3 known (i / 4) (j / 4) (i % 4) (j % 4) e (omega arith) (omega arith) (omega arith)
      (omega arith))
  split_at xs r0 r1 r2 r3 known (suc (suc (suc c))) i j e least across down = absurd (omega arith)

  whole_at : (xs : List ℕ) (rest : List Item) (known : Known) (c i j : ℕ) → length xs ≡ 384 → c < 3
      → i < side_of c → j < side_of c
      → pulses_laid format whole (sample_items xs ++ rest) known c (i + 1) (j + 1)
      ≡ Some (pulse_at (record { split = false; samples = xs }) c i j)
  whole_at xs rest known zero i j e least across down =
      luma_at format eight whole xs rest known (i + 1) (j + 1) i j (omega arith) (omega arith) across down (omega arith)
  whole_at xs rest known (suc zero) i j e least across down =
      cb_at format eight whole xs rest known (i + 1) (j + 1) i j (omega arith) (omega arith) across down (omega arith)
  whole_at xs rest known (suc (suc zero)) i j e least across down =
      cr_at format eight whole xs rest known (i + 1) (j + 1) i j (omega arith) (omega arith) across down (omega arith)
  whole_at xs rest known (suc (suc (suc c))) i j e least across down = absurd (omega arith)

-- ---- items

module _ (format : UnitFormat) (inter : InterUnit) (all : List Item) where
  skipped : (xs : List ℕ) (rest : List Item) (b : Building)
      → items_built format inter all (sample_items xs ++ rest) b ≡ items_built format inter all rest b
  unfolding items_built
  skipped [] rest b = refl
  skipped (x ∷ xs) rest b = skipped xs rest b

  -- behind a coding unit
  abbrev behind : ℕ → Square → List ℕ → List Item → Building → Building
  behind depth square xs rest b = record {
    mode = mode_of (coding_unit_of depth square false true);
    chroma_mode = b.chroma_mode;
    known = pulses_laid format square (sample_items xs ++ rest) b.known;
  }

  pulses : (depth : ℕ) (square : Square) (xs : List ℕ) (rest : List Item) (b : Building)
      → items_built format inter all (pulse_items depth square xs ++ rest) b
      ≡ items_built format inter all rest (behind depth square xs rest b)
  unfolding items_built
  pulses depth square xs rest b = skipped xs rest (behind depth square xs rest b)

  last_pulses : (depth : ℕ) (square : Square) (xs : List ℕ) (b : Building)
      → items_built format inter all (pulse_items depth square xs) b ≡ behind depth square xs [] b
  unfolding items_built
  last_pulses depth square xs b =
      ap (λ l. items_built format inter all l b) (sym (append-nil (pulse_items depth square xs)))
      ∙ pulses depth square xs [] b

  split_built : (xs : List ℕ) (b : Building) (r1 r2 r3 : List Item)
      → r3 ≡ pulse_items 1 (quarter 1 1) (quarter_of xs 3)
      → r2 ≡ pulse_items 1 (quarter 0 1) (quarter_of xs 2) ++ r3
      → r1 ≡ pulse_items 1 (quarter 1 0) (quarter_of xs 1) ++ r2
      → (items_built format inter all (pulse_items 1 (quarter 0 0) (quarter_of xs 0) ++ r1) b).known
      ≡ four format xs r1 r2 r3 [] b.known
  split_built xs b r1 r2 r3 e3 e2 e1 =
      let b0 : Building = behind 1 (quarter 0 0) (quarter_of xs 0) r1 b in
      let b1 : Building = behind 1 (quarter 1 0) (quarter_of xs 1) r2 b0 in
      let b2 : Building = behind 1 (quarter 0 1) (quarter_of xs 2) r3 b1 in
      ap (λ (w : Building). w.known)
      (pulses 1 (quarter 0 0) (quarter_of xs 0) r1 b
      ∙ ap (λ l. items_built format inter all l b0) e1 ∙ pulses 1 (quarter 1 0) (quarter_of xs 1) r2 b0
      ∙ ap (λ l. items_built format inter all l b1) e2 ∙ pulses 1 (quarter 0 1) (quarter_of xs 2) r3 b1
      ∙ ap (λ l. items_built format inter all l b2) e3 ∙ last_pulses 1 (quarter 1 1) (quarter_of xs 3) b2)

unit_at : (format : UnitFormat) (inter : InterUnit) (all : List Item) (split : Bool) (xs : List ℕ) (b : Building)
    (c i j : ℕ) → HasEightBits format → length xs ≡ 384 → c < 3 → i < side_of c → j < side_of c
    → (items_built format inter all (pcm_unit_items (record { split = split; samples = xs })) b).known c (i + 1) (j + 1)
    ≡ Some (pulse_at (record { split = split; samples = xs }) c i j)
unit_at format inter all true xs b c i j eight e least across down =
    ap (λ (k : Known). k c (i + 1) (j + 1)) (split_built format inter all xs b _ _ _ refl refl refl)
    ∙ split_at format eight xs _ _ _ [] b.known c i j e least across down
unit_at format inter all false xs b c i j eight e least across down =
    ap (λ (w : Building). w.known c (i + 1) (j + 1)) (last_pulses format inter all 0 whole xs b)
    ∙ whole_at format eight xs [] b.known c i j e least across down

pub pulse_unit : (format : UnitFormat) (inter : InterUnit) (u : PcmUnit) (known : Known) (c i j : ℕ)
    → HasEightBits format → length u.samples ≡ 384 → c < 3 → i < side_of c → j < side_of c
    → unit_built format inter (pcm_unit_items u) known c (i + 1) (j + 1) ≡ Some (pulse_at u c i j)
unfolding unit_built
pulse_unit format inter u known c i j eight e least across down =
    unit_at format inter (pcm_unit_items u) u.split u.samples _ c i j eight e least across down
