-- What was built is on the left of the next unit.
use Rattle.std.proofs.Common.{◌≡◌, ℕ, ◌+◌, ◌-◌, ◌*◌, ◌/◌, ◌%◌, ◌<◌, ◌≤◌, ◌==◌, ◌&&◌, nat_le, nat_lt}
use Rattle.std.proofs.Common.{true, sym, ap, subst, ◌∙◌, arith}
use Rattle.std.proofs.Math.Nat.{mod-lt, mul-le-mul_left}
use Rattle.std.proofs.lemmas.Bool.Decides.{nat_tests}
use Rattle.std.proofs.lemmas.Nat.{div-mul-add, mod-mul-add}
use Rattle.picture_layout.specs.declared.coding_tree_unit.CodingTreeUnit.{CodingTreeUnit}
use Rattle.picture_layout.specs.Shape.{IsShape}
use Rattle.picture_layout.proofs.Places.{whole}
use Rattle.plan_types.specs.declared.picture_plan.PicturePlan.{PicturePlan}
use Rattle.known_picture_laws.specs.SpecDecodedPictures.{DecodedUnits}
use Rattle.spec_picture_build.specs.Border.{has_sample, height_of, unit_column, unit_line, unit_side, width_of}
use Rattle.spec_picture_build.specs.Built.{is_of_unit}
use Rattle.spec_picture_trees.specs.Places.{first_column, first_row, is_of_unit as has_place_of, unit_at, unit_places}
use Rattle.spec_picture_trees.specs.Shapes.{picture_shape}
use Rattle.spec_slice_data.specs.Residual.{samples_of_place}
use Rattle.spec_slice_data.specs.Segment.{PictureShape, column_of}
use Rattle.known_picture_laws.proofs.LocalityLaws.{some_places}
use Rattle.known_picture_laws.proofs.LocalityLaws.{some_side}
use Rattle.unit_build.specs.declared.built.BuiltUnit.{BuiltUnit}
use Rattle.unit_build.proofs.Places.{unit_is}
use Rattle.row_borders.specs.Borders.{Bordering, at_unit}
use Rattle.row_borders.specs.Building.{HoldsUnit, IsAtLeft, built_coded, built_motion, built_sample}
use Rattle.row_borders.specs.Next.{HasColumn, IsNextInRow}

-- the column and the row of the unit behind another of its row
next_column : (a w : ℕ) → 1 ≤ w → 1 ≤ (a + 1) % w → (a + 1) % w ≡ a % w + 1
next_column a w wide right =
    let wh = whole (a + 1) w in
    let e : a ≡ (a + 1) / w * w + ((a + 1) % w - 1) = omega (arith, wh, right) in
    let lt : (a + 1) % w - 1 < w = omega (arith, mod-lt (a + 1) wide) in
    let at : a % w ≡ (a + 1) % w - 1 = ap (λ k. k % w) e ∙ mod-mul-add ((a + 1) / w) w ((a + 1) % w - 1) lt in
    omega (arith, at, right)

pub next_row : (a w : ℕ) → 1 ≤ w → 1 ≤ (a + 1) % w → (a + 1) / w ≡ a / w
next_row a w wide right =
    let wh = whole (a + 1) w in
    let e : a ≡ (a + 1) / w * w + ((a + 1) % w - 1) = omega (arith, wh, right) in
    let lt : (a + 1) % w - 1 < w = omega (arith, mod-lt (a + 1) wide) in
    sym (ap (λ k. k / w) e ∙ div-mul-add ((a + 1) / w) w ((a + 1) % w - 1) lt)

-- a place in the last column of a unit, by the first column of the next one
module _ (n w a : ℕ) (some : 1 ≤ n) (wide : 1 ≤ w) (right : 1 ≤ (a + 1) % w) where
  abbrev X : ℕ
  X = n * ((a + 1) % w)

  abbrev Y : ℕ
  Y = n * ((a + 1) / w)

  first_is : X ≡ n * (a % w) + n
  first_is =
      let next : n * (a % w + 1) ≡ n * (a % w) + n = grind arith in
      ap (λ k. n * k) (next_column a w wide right) ∙ next

  line_is : Y ≡ n * (a / w)
  line_is = ap (λ k. n * k) (next_row a w wide right)

  pub column_before : X - 1 - n * (a % w) ≡ n - 1
  column_before = let e = first_is in omega (arith, e)

  pub line_before : (k : ℕ) → Y + k - n * (a / w) ≡ k
  line_before k = let e = line_is in omega (arith, e)

  pub from_left : n * (a % w) ≤ X - 1
  from_left = let e = first_is in omega (arith, e, some)

  pub to_right : X - 1 < n * (a % w) + n
  to_right = let e = first_is in omega (arith, e, some)

  pub from_top : (k : ℕ) → n * (a / w) ≤ Y + k
  from_top k = let e = line_is in omega (arith, e)

  pub to_bottom : (k : ℕ) → k < n → Y + k < n * (a / w) + n
  to_bottom k few = let e = line_is in omega (arith, e, few)

  pub unit_before : (k : ℕ) → k < n → w * ((Y + k) / n) + (X - 1) / n ≡ a
  unit_before k few = unit_is n w a (X - 1) (Y + k) from_left to_right (from_top k) (to_bottom k few)

-- the units of a row begin in the picture
begins_inside : (picture : PictureShape) (b : ℕ) → IsShape picture → first_column picture b < picture.across
begins_inside picture b shape =
    let below : b % picture.width < picture.width = mod-lt b shape.some in
    let most : unit_places picture * (b % picture.width) ≤ unit_places picture * (picture.width - 1) =
    mul-le-mul_left (unit_places picture) (omega (arith, below)) in
    let needed = shape.needed in
    omega (arith, most, needed)

samples_inside : (picture : PictureShape) (c b : ℕ) → IsShape picture → unit_column picture c b ≤ width_of picture c
samples_inside picture c b shape =
    let inside = begins_inside picture b shape in
    let most : samples_of_place c * first_column picture b ≤ samples_of_place c * picture.across =
    mul-le-mul_left (samples_of_place c) (omega (arith, inside)) in
    let same : samples_of_place c * first_column picture b ≡ unit_column picture c b = grind arith in
    omega (arith, most, same)

sample_tests : (c width height x y at a : ℕ) → c < 3 → x < width → y < height → at ≡ a
    → ((nat_lt c 3 && (nat_lt x width && nat_lt y height)) && at == a) ≡ true
sample_tests c width height x y at a few across down is = grind (arith, nat_tests)

place_tests : (across down first line n x y : ℕ) → x < across → y < down → first ≤ x → x < first + n → line ≤ y
    → y < line + n
    → ((nat_lt x across && nat_lt y down)
    && ((nat_le first x && nat_lt x (first + n)) && (nat_le line y && nat_lt y (line + n)))) ≡ true
place_tests across down first line n x y a b c d e f = grind (arith, nat_tests)

-- what a picture has in the column before a unit is what was built last
record IsBefore (picture : PictureShape) (b : ℕ) (built : BuiltUnit) (units : DecodedUnits) : Type 0 where
  samples : (c k : ℕ) → c < 3 → k < unit_side picture c → unit_line picture c b + k < height_of picture c
      → built_sample built c (unit_side picture c - 1) k
      ≡ units.samples c (unit_column picture c b - 1) (unit_line picture c b + k)
  motion : (k : ℕ) → k < unit_places picture → first_row picture b + k < picture.down
      → built_motion built (unit_places picture - 1) k
      ≡ units.motions (first_column picture b - 1) (first_row picture b + k)
  flags : (k : ℕ) → k < unit_places picture → first_row picture b + k < picture.down
      → built_coded built (unit_places picture - 1) k
      ≡ units.filters.coded (first_column picture b - 1) (first_row picture b + k)

module _ (p : PicturePlan) (a : ℕ) (built : BuiltUnit) (units : DecodedUnits)
    (shape : IsShape (picture_shape p.sps p.pps)) (right : 1 ≤ column_of (picture_shape p.sps p.pps) (a + 1))
    (held : HoldsUnit p a built units) where
  abbrev q : PictureShape
  q = picture_shape p.sps p.pps

  abbrev n : ℕ
  n = unit_places q

  abbrev first : ℕ
  first = first_column q (a + 1)

  abbrev line : ℕ
  line = first_row q (a + 1)

  starts : 1 ≤ first
  starts = let e = first_is n q.width a (some_places q) shape.some right in omega (arith, e, some_places q)

  sample_of : (c k : ℕ) → c < 3 → k < unit_side q c → unit_line q c (a + 1) + k < height_of q c
      → is_of_unit q a c (unit_column q c (a + 1) - 1) (unit_line q c (a + 1) + k) ≡ true
  unfolding has_sample unit_at
  sample_of c k component few down =
      let s : ℕ = unit_side q c in
      let some = some_side q c in
      let e = first_is s q.width a some shape.some right in
      let inside = samples_inside q c (a + 1) shape in
      sample_tests c (width_of q c) (height_of q c) (unit_column q c (a + 1) - 1) (unit_line q c (a + 1) + k)
      (q.width * ((unit_line q c (a + 1) + k) / s) + (unit_column q c (a + 1) - 1) / s) a component
      (omega (arith, e, some, inside)) down (unit_before s q.width a some shape.some right k few)

  place_of : (k : ℕ) → k < n → line + k < q.down → has_place_of q a (first - 1) (line + k) ≡ true
  place_of k few down =
      let inside = begins_inside q (a + 1) shape in
      let some = some_places q in
      place_tests q.across q.down (first_column q a) (first_row q a) n (first - 1) (line + k)
      (omega (arith, starts, inside)) down (from_left n q.width a some shape.some right)
      (to_right n q.width a some shape.some right) (from_top n q.width a some shape.some right k)
      (to_bottom n q.width a some shape.some right k few)

  -- places of the unit, counted from its first ones
  at_place : {A : Type 0} (g : ℕ → ℕ → A) (v : A) (k : ℕ)
      → g (first - 1 - first_column q a) (line + k - first_row q a) ≡ v → g (n - 1) k ≡ v
  at_place g v k e =
      sym (ap (λ i. g i (line + k - first_row q a)) (column_before n q.width a (some_places q) shape.some right)
      ∙ ap (λ j. g (n - 1) j) (line_before n q.width a (some_places q) shape.some right k))
      ∙ e

  samples_before : (c k : ℕ) → c < 3 → k < unit_side q c → unit_line q c (a + 1) + k < height_of q c
      → built_sample built c (unit_side q c - 1) k
      ≡ units.samples c (unit_column q c (a + 1) - 1) (unit_line q c (a + 1) + k)
  samples_before c k component few down =
      let some = some_side q c in
      sym (ap (λ i. built_sample built c i (unit_line q c (a + 1) + k - unit_line q c a))
      (column_before (unit_side q c) q.width a some shape.some right)
      ∙ ap (λ j. built_sample built c (unit_side q c - 1) j)
      (line_before (unit_side q c) q.width a some shape.some right k))
      ∙ held.samples c (unit_column q c (a + 1) - 1) (unit_line q c (a + 1) + k) (sample_of c k component few down)

  is_before : IsBefore q (a + 1) built units
  is_before = record {
    samples = samples_before;
    motion = λ k few down.
        at_place (built_motion built) (units.motions (first - 1) (line + k)) k
        (held.motions (first - 1) (line + k) (place_of k few down));
    flags = λ k few down.
        at_place (built_coded built) (units.filters.coded (first - 1) (line + k)) k
        (held.coded (first - 1) (line + k) (place_of k few down));
  }

-- so it is on the left of the next unit
pub is_at_left : (p : PicturePlan) (address : ℕ) (border : Bordering) (built : BuiltUnit) (units : DecodedUnits)
    → IsShape border.unit.layout → border.unit.layout ≡ picture_shape p.sps p.pps
    → border.unit.address ≡ address + 1 → 1 ≤ column_of border.unit.layout border.unit.address
    → HoldsUnit p address built units → HasColumn border.unit.layout border.left built → IsAtLeft border units
is_at_left p address border built units shape layout next right held has =
    let q : PictureShape = picture_shape p.sps p.pps in
    let behind : 1 ≤ column_of q (address + 1) =
    subst (λ (r : PictureShape). 1 ≤ column_of r (address + 1)) layout
    (subst (λ k. 1 ≤ column_of border.unit.layout k) next right) in
    let before : IsBefore border.unit.layout border.unit.address built units =
    subst (λ (r : PictureShape). IsBefore r border.unit.address built units) (sym layout)
    (subst (λ k. IsBefore q k built units) (sym next)
    (is_before p address built units (subst IsShape layout shape) behind held)) in
    record {
      column = λ c k component some few down. has.samples c k component few ∙ before.samples c k component few down;
      motion = λ k some few down. has.motion k few ∙ before.motion k few down;
      flags = λ k some few down. has.flags k few ∙ before.flags k few down;
    }

pub next_at_left : (p : PicturePlan) (border : Bordering) (built : BuiltUnit) (units : DecodedUnits)
    (next : CodingTreeUnit)
    → IsShape border.unit.layout → border.unit.layout ≡ picture_shape p.sps p.pps
    → HoldsUnit p border.unit.address built units → HasColumn border.unit.layout border.left built
    → IsNextInRow border.unit next → IsAtLeft (at_unit border next) units
next_at_left p border built units next shape layout held has is =
    is_at_left p border.unit.address (at_unit border next) built units (subst IsShape (sym is.layout) shape)
    (is.layout ∙ layout) is.address is.right held
    (subst (λ (r : PictureShape). HasColumn r border.left built) (sym is.layout) has)

-- and nothing is on the left of the first unit of a row
pub none_at_left : (border : Bordering) (units : DecodedUnits)
    → first_column border.unit.layout border.unit.address ≡ 0 → IsAtLeft border units
none_at_left border units none =
    let q : PictureShape = border.unit.layout in
    let a : ℕ = border.unit.address in
    record {
      column = λ c k component some few down.
          let same : unit_column q c a ≡ samples_of_place c * first_column q a = grind arith in
          let zero : samples_of_place c * first_column q a ≡ samples_of_place c * 0 =
          ap (λ x. samples_of_place c * x) none in
          let no : samples_of_place c * 0 ≡ 0 = grind arith in
          absurd (omega (arith, some, same, zero, no));
      motion = λ k some few down. absurd (omega (arith, some, none));
      flags = λ k some few down. absurd (omega (arith, some, none));
    }
