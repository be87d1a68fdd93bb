-- What is laid above a row of units, as it grows, and above each of its units.
use Rattle.std.proofs.Common.{◌≡◌, ◌≢◌, ℕ, zero, suc, ◌+◌, ◌-◌, ◌*◌, ◌<◌, ◌≤◌, ◌==◌, ◌&&◌, nat_le, nat_lt}
use Rattle.std.proofs.Common.{Bool, true, false, List, Option, length, min, slice_index, refl, sym, ap, subst, ◌∙◌}
use Rattle.std.proofs.Common.{if◌then◌else◌, ◌⊎◌, inl, inr, arith}
use Rattle.std.proofs.Math.Nat.{mul-le-mul_left}
use Rattle.std.proofs.lemmas.Bool.{cases_lt}
use Rattle.std.proofs.lemmas.Bool.Decides.{nat_tests}
use Rattle.picture_buffer.specs.declared.place_motion.PlaceMotion.{PlaceMotion}
use Rattle.picture_layout.specs.declared.coding_tree_unit.CodingTreeUnit.{CodingTreeUnit}
use Rattle.picture_layout.specs.Shape.{IsShape}
use Rattle.known_picture_laws.specs.SpecDecodedPictures.{DecodedUnits}
use Rattle.spec_picture_build.specs.Border.{unit_column, unit_side, width_of}
use Rattle.spec_picture_trees.specs.Places.{first_column, unit_places}
use Rattle.spec_slice_data.specs.Residual.{samples_of_place}
use Rattle.spec_slice_data.specs.Segment.{PictureShape, column_of, row_of}
use Rattle.row_borders.specs.Borders.{Bordering}
use Rattle.row_borders.specs.Building.{IsAbove}
use Rattle.row_borders.specs.Next.{HasLine, HasPlaces, IsLaid, IsNextInRow, LaysPlace, LaysSamples}
use Rattle.row_borders.specs.Strips.{StripPlaces, coded_along, motion_along, sample_along}
use Rattle.row_borders.proofs.Next.{next_row}

pub some_factor : (n r : ℕ) → 1 ≤ n * r → 1 ≤ r
some_factor n zero some = let none : n * 0 ≡ 0 = grind arith in absurd (omega (arith, some, none))
some_factor n (suc r) some = omega arith

least_below : (s a b x : ℕ) → x < s * a → x < s * b → x < s * min a b
least_below s a b x first second = by (cases_lt a b)
  where
    by : (a < b) ⊎ (b ≤ a) → x < s * min a b
    by (inl less) = let e : a ≡ min a b = omega (arith, less) in subst (λ k. x < s * k) e first
    by (inr more) = let e : b ≡ min a b = omega (arith, more) in subst (λ k. x < s * k) e second

-- above a unit
pub laid_above : (border : Bordering) (units : DecodedUnits) (end : ℕ)
    → IsLaid border.unit.layout (row_of border.unit.layout border.unit.address) border.above units end
    → min (first_column border.unit.layout border.unit.address + 2 * unit_places border.unit.layout)
    border.unit.layout.across ≤ end
    → IsAbove border units
laid_above border units end laid enough =
    let q : PictureShape = border.unit.layout in
    let a : ℕ = border.unit.address in
    record {
      line = λ c x component low from to across.
          let s : ℕ = samples_of_place c in
          let far : s * (first_column q a + 2 * unit_places q) ≡ unit_column q c a + 2 * unit_side q c = grind arith in
          let least = least_below s (first_column q a + 2 * unit_places q) q.across x (omega (arith, to, far)) across in
          let most : s * min (first_column q a + 2 * unit_places q) q.across ≤ s * end = mul-le-mul_left s enough in
          laid.line c component x (some_factor (unit_side q c) (row_of q a) low) (omega (arith, least, most)) across;
      motion = λ x low from to across.
          laid.places.motion x (some_factor (unit_places q) (row_of q a) low) (omega (arith, to, across, enough))
          across;
      flags = λ x low from to across.
          laid.places.flags x (some_factor (unit_places q) (row_of q a) low) (omega (arith, to, across, enough)) across;
    }

-- and above the next one
pub same_row : (unit next : CodingTreeUnit) → IsShape unit.layout → IsNextInRow unit next
    → row_of next.layout next.address ≡ row_of unit.layout unit.address
same_row unit next shape is =
    let right : 1 ≤ column_of unit.layout (unit.address + 1) =
    subst (λ (q : PictureShape). 1 ≤ column_of q (unit.address + 1)) is.layout
    (subst (λ k. 1 ≤ column_of next.layout k) is.address is.right) in
    ap (λ (q : PictureShape). row_of q next.address) is.layout
    ∙ ap (λ k. row_of unit.layout k) is.address
    ∙ next_row unit.address unit.layout.width shape.some right

pub laid_stays : (unit next : CodingTreeUnit) (above : StripPlaces) (units : DecodedUnits) (end : ℕ)
    → IsShape unit.layout → IsNextInRow unit next
    → IsLaid unit.layout (row_of unit.layout unit.address) above units end
    → IsLaid next.layout (row_of next.layout next.address) above units end
laid_stays unit next above units end shape is laid =
    subst (λ (q : PictureShape). IsLaid q (row_of next.layout next.address) above units end) (sym is.layout)
    (subst (λ r. IsLaid unit.layout r above units end) (sym (same_row unit next shape is)) laid)

-- before anything is laid, and above the first row
pub none_laid : (picture : PictureShape) (row : ℕ) (above : StripPlaces) (units : DecodedUnits)
    → IsLaid picture row above units 0
none_laid picture row above units = record {
  line = λ c component x low less across.
      let none : samples_of_place c * 0 ≡ 0 = grind arith in absurd (omega (arith, less, none));
  places = record {
    motion = λ x low less across. absurd (omega (arith, less));
    flags = λ x low less across. absurd (omega (arith, less));
  };
}

pub none_above : (picture : PictureShape) (above : StripPlaces) (units : DecodedUnits) (end : ℕ)
    → IsLaid picture 0 above units end
none_above picture above units end = record {
  line = λ c component x low less across. absurd (omega (arith, low));
  places = record {
    motion = λ x low less across. absurd (omega (arith, low));
    flags = λ x low less across. absurd (omega (arith, low));
  };
}

-- one more run of a line
same_test : (c : ℕ) → (c == c) ≡ true
same_test c = grind (arith, nat_tests)

other_test : (i c : ℕ) → i ≢ c → (i == c) ≡ false
other_test i c other = by (i == c) refl
  where
    by : (t : Bool) → (i == c) ≡ t → (i == c) ≡ false
    by true e = let same : i ≡ c = grind (arith, nat_tests) in absurd (other same)
    by false e = e

none_of : {A : Type 0} (b t : Bool) (x y z : A) → b ≡ false → z ≡ (if b && t then x else y) → z ≡ y
none_of false t x y z isnt e = e
none_of true t x y z isnt e = absurd cc

all_of : {A : Type 0} (b t : Bool) (x y z : A) → b ≡ true → z ≡ (if b && t then x else y) → z ≡ (if t then x else y)
all_of true t x y z is e = e
all_of false t x y z is e = absurd cc

module _ (picture : PictureShape) (row : ℕ) (old new : StripPlaces) (units : DecodedUnits) (c first : ℕ)
    (samples : List ℕ) (lays : LaysSamples old new c first samples) where
  pub line_grows : ((k : ℕ) → 1 ≤ row → k < length samples → first + k < width_of picture c
      → slice_index samples k ≡ units.samples c (first + k) (unit_side picture c * row - 1))
      → HasLine picture row old units c first → HasLine picture row new units c (first + length samples)
  line_grows are has x low less across = by (cases_lt x first)
    where
      told : sample_along new c x
          ≡ (if nat_le first x && nat_lt x (first + length samples) then slice_index samples (x - first)
          else sample_along old c x)
      told = all_of (c == c) _ _ _ _ (same_test c) (lays c x)

      by : (x < first) ⊎ (first ≤ x) → sample_along new c x ≡ units.samples c x (unit_side picture c * row - 1)
      by (inl past) =
          let no : (nat_le first x && nat_lt x (first + length samples)) ≡ false = grind (arith, nat_tests) in
          told
          ∙ ap (λ (b : Bool). if b then slice_index samples (x - first) else sample_along old c x) no
          ∙ has x low past across
      by (inr from) =
          let yes : (nat_le first x && nat_lt x (first + length samples)) ≡ true = grind (arith, nat_tests) in
          let at : first + (x - first) ≡ x = omega (arith, from) in
          told
          ∙ ap (λ (b : Bool). if b then slice_index samples (x - first) else sample_along old c x) yes
          ∙ are (x - first) low (omega (arith, from, less)) (omega (arith, from, across))
          ∙ ap (λ k. units.samples c k (unit_side picture c * row - 1)) at

  pub line_stays : (i end : ℕ) → i ≢ c → HasLine picture row old units i end → HasLine picture row new units i end
  line_stays i end other has x low less across =
      none_of (i == c) _ _ _ _ (other_test i c other) (lays i x) ∙ has x low less across

-- one more place
one_place : {A : Type 0} (i x : ℕ) (value old now : A) (want : ℕ → A) → now ≡ (if i == x then value else old)
    → (i ≡ x → value ≡ want x) → (i < x → old ≡ want i) → i < x + 1 → now ≡ want i
one_place i x value old now want e new before less = by (i == x) refl
  where
    by : (t : Bool) → (i == x) ≡ t → now ≡ want i
    by true t =
        let same : i ≡ x = grind (arith, nat_tests) in
        e ∙ ap (λ (b : Bool). if b then value else old) t ∙ new same ∙ ap want (sym same)
    by false t =
        let past : i < x = grind (arith, nat_tests) in
        e ∙ ap (λ (b : Bool). if b then value else old) t ∙ before past

pub places_grow : (picture : PictureShape) (row : ℕ) (old new : StripPlaces) (units : DecodedUnits) (x : ℕ)
    (motion : Option PlaceMotion) (coded : Bool) → LaysPlace old new x motion coded
    → (1 ≤ row → x < picture.across → motion ≡ units.motions x (unit_places picture * row - 1))
    → (1 ≤ row → x < picture.across → coded ≡ units.filters.coded x (unit_places picture * row - 1))
    → HasPlaces picture row old units x → HasPlaces picture row new units (x + 1)
places_grow picture row old new units x motion coded lays motion_is coded_is has = record {
  motion = λ i low less across.
      one_place i x motion (motion_along old i) (motion_along new i)
      (λ k. units.motions k (unit_places picture * row - 1)) (lays.motion i)
      (λ e. motion_is low (subst (λ k. k < picture.across) e across)) (λ past. has.motion i low past across) less;
  flags = λ i low less across.
      one_place i x coded (coded_along old i) (coded_along new i)
      (λ k. units.filters.coded k (unit_places picture * row - 1)) (lays.flags i)
      (λ e. coded_is low (subst (λ k. k < picture.across) e across)) (λ past. has.flags i low past across) less;
}
