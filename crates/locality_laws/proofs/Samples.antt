-- What is known beside a unit, over samples that agree at its border.
use Rattle.std.proofs.Common.{◌≡◌, ◌≢◌, ℕ, suc, ◌+◌, ◌-◌, ◌*◌, ◌/◌, ◌%◌, ◌^◌, ◌<◌, ◌≤◌, ◌==◌, ◌&&◌, nat_le, nat_lt}
use Rattle.std.proofs.Common.{Bool, true, false}
use Rattle.std.proofs.Common.{Option, Some, None, refl, sym, ap, ◌∙◌, if◌then◌else◌, arith}
use Rattle.std.proofs.lemmas.Bool.{and_parts, eqb-true, leb-true, ltb-true}
use Rattle.std.proofs.lemmas.Nat.{pow_pos}
use Rattle.block_geometry.specs.CodingTreeBlocks.{is_from}
use Rattle.picture_layout.specs.SpecSliceData.{samples_of_place}
use Rattle.picture_layout.specs.SpecSliceData.{PictureShape}
use Rattle.spec_picture_build.specs.SpecReconstruction.{Known}
use Rattle.picture_layout.specs.SpecPictureTrees.{unit_at}
use Rattle.spec_picture_build.specs.Border.{Samples, has_sample, is_available, is_inside, known_beside, sample_beside}
use Rattle.spec_picture_build.specs.Border.{unit_column, unit_line, unit_side}
use Rattle.spec_picture_build.specs.Built.{is_of_unit, unit_laid}
use Rattle.locality_laws.specs.Beside.{IsOneOfFour, SamplesAgreeBeside, is_at_border}
use Rattle.locality_laws.proofs.Border.{beside_is}
use Rattle.locality_laws.proofs.Places.{at_border}

-- a unit's side has some samples
pub some_side : (picture : PictureShape) (c : ℕ) → 1 ≤ unit_side picture c
some_side picture c = by (c == 0) (pow_pos picture.size)
  where
    by : (t : Bool) → 0 < 2 ^ picture.size → 1 ≤ (if t then 4 else 2) * 2 ^ picture.size
    by true some = omega arith
    by false some = omega arith

-- a place at the border is of one of four units
pub border_of_four : (picture : PictureShape) (side address x y : ℕ) → 1 ≤ side
    → is_at_border side (side * (address % picture.width)) (side * (address / picture.width)) x y ≡ true
    → IsOneOfFour picture.width address (unit_at picture side x y)
unfolding unit_at
border_of_four picture side address x y some = at_border side picture.width address x y some

-- the unit of a sample that is available is decoded before
pub earlier : (picture : PictureShape) (slice address c x y : ℕ) → is_available picture slice address c x y ≡ true
    → unit_at picture (unit_side picture c) x y < address
unfolding is_available
earlier picture slice address c x y there =
    ltb-true _ _
    (and_parts (is_from slice (unit_at picture (unit_side picture c) x y)) _
    (and_parts (has_sample picture c x y) _ there).1).1

-- a sample that is available stands at the border
at_border_if : (picture : PictureShape) (slice address c column line : ℕ) → 1 ≤ picture.width
    → column ≤ 2 * unit_side picture c → 1 ≤ unit_column picture c address + column
    → 1 ≤ unit_line picture c address + line
    → unit_at picture (unit_side picture c) (unit_column picture c address + column - 1)
    (unit_line picture c address + line - 1) < address
    → is_at_border (unit_side picture c) (unit_column picture c address) (unit_line picture c address)
    (unit_column picture c address + column - 1) (unit_line picture c address + line - 1) ≡ true
unfolding unit_at
at_border_if picture slice address c column line wide few right low first =
    beside_is (unit_side picture c) picture.width address (some_side picture c) wide column line right low few first

some_if : (b : Bool) (x y : ℕ) → (b ≡ true → x ≡ y) → (if b then Some x else None) ≡ (if b then Some y else None)
some_if true x y e = ap Some (e refl)
some_if false x y e = refl

same_if : (b : Bool) (x y : Option ℕ) → (b ≡ true → x ≡ y) → (if b then x else None) ≡ (if b then y else None)
same_if true x y e = e refl
same_if false x y e = refl

module _ (picture : PictureShape) (slice address : ℕ) (f g : Samples) (wide : 1 ≤ picture.width)
    (agree : SamplesAgreeBeside picture slice address f g) where
  sample_agrees : (c column line : ℕ) → column ≤ 2 * unit_side picture c
      → sample_beside picture slice address f c column line ≡ sample_beside picture slice address g c column line
  unfolding sample_beside
  sample_agrees c column line few =
      let x = unit_column picture c address + column - 1 in
      let y = unit_line picture c address + line - 1 in
      some_if _ _ _ (λ e.
      let there : is_available picture slice address c x y ≡ true = (and_parts _ _ e).1 in
      let inside = and_parts _ (is_inside (unit_line picture c address) line) (and_parts _ _ e).0 in
      agree c x y (at_border_if picture slice address c column line wide few (leb-true _ _ inside.0)
      (leb-true _ _ inside.1) (earlier picture slice address c x y there)) there)

  pub known_agrees : known_beside picture slice address f ≡ known_beside picture slice address g
  unfolding known_beside
  known_agrees i c column line =
      same_if (nat_le column (2 * unit_side picture c)) _ _ (λ e. sample_agrees c column line (leb-true _ _ e)) i

unless : (b : Bool) (x y : ℕ) → (b ≡ true → ⊥) → (if b then x else y) ≡ y
unless true x y never = absurd (never refl)
unless false x y never = refl

-- the unit of a sample
pub unit_is : (picture : PictureShape) (address c x y : ℕ) → is_of_unit picture address c x y ≡ true
    → unit_at picture (unit_side picture c) x y ≡ address
unit_is picture address c x y e = eqb-true _ _ (and_parts _ _ e).1

pub others_stay : (picture : PictureShape) (address : ℕ) (known : Known) (f : Samples) (c x y : ℕ)
    → unit_at picture (unit_side picture c) x y ≢ address → unit_laid picture address known f c x y ≡ f c x y
unfolding unit_laid
others_stay picture address known f c x y other =
    unless (is_of_unit picture address c x y) _ _ (λ e. other (unit_is picture address c x y e))
