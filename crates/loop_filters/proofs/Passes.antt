-- The edges of a row of coding tree blocks.
use Rattle.std.proofs.Common.{◌≡◌, ℕ, ◌-◌, ◌+◌, ◌*◌, ◌/◌, ◌%◌, ◌<◌, ◌≤◌, ◌&&◌, Bool, true, false, cond, nat_le}
use Rattle.std.proofs.Common.{nat_lt}
use Rattle.std.proofs.Common.{List, inl, inr, refl, ap, sym, ◌∙◌, arith}
use Rattle.std.specs.Prelude.{min}
use Rattle.std.proofs.Math.Path.{fun_ext}
use Rattle.std.proofs.lemmas.Bool.{cases_lt}
use Rattle.std.proofs.lemmas.Bool.Decides.{nat_tests}
use Rattle.deblock.specs.Rows.{IsRow}
use Rattle.deblock.specs.Windows.{at}
use Rattle.deblock.proofs.Edges.{edge_alone}
use Rattle.deblock.proofs.Laying.{cond_no, cond_yes}
use Rattle.deblock.proofs.Lines.{beside_of}
use Rattle.spec_loop_filters.specs.SpecDeblocking.{Place}
use Rattle.spec_loop_filters.specs.SpecDeblocking.{Plane}
use Rattle.spec_loop_filters.specs.SpecDeblocking.{Luma, Chroma}
use Rattle.spec_loop_filters.specs.SpecDeblocking.{side, turned}
use Rattle.spec_loop_filters.specs.SpecDeblocking.{deblocked, vertical, horizontal}
use Rattle.spec_loop_filters.proofs.SpecDeblockingLemmas.{if_same}
use Rattle.spec_loop_filters.proofs.SpecDeblockingLemmas.{first_line, vertical_rows}
use Rattle.loop_filters.specs.declared.component.Component.{Component}
use Rattle.loop_filters.specs.Formats.{IsPlane}
use Rattle.loop_filters.specs.Rows.{IsStage, row_of}

from_zero : (j : ℕ) → j - 0 ≡ j
from_zero j = omega arith

whole : (width : ℕ) (samples : List ℕ) → (λ (i j : ℕ). at width samples i (j - 0)) ≡ at width samples
whole width samples = fun_ext (λ i. fun_ext (λ j. ap (λ (k : ℕ). at width samples i k) (from_zero j)))

-- lines that are counted from the first one of the plane
from_first : (width height : ℕ) (filter : (ℕ → ℕ → ℕ) → ℕ → ℕ → ℕ) (test : ℕ → Bool) (old new : List ℕ) →
    ((x y : ℕ) → x < width → 0 ≤ y → y < height
    → at width new x (y - 0)
    ≡ cond (test y) (filter (λ i j. at width old i (j - 0)) x y) (at width old x (y - 0))) →
    (x y : ℕ) → x < width → y < height
    → at width new x y ≡ cond (test y) (filter (at width old) x y) (at width old x y)
from_first width height filter test old new told x y a b =
    let low : 0 ≤ y = omega arith in
    ap (λ (k : ℕ). at width new x k) (sym (from_zero y)) ∙ told x y a low b
    ∙ ap (λ (f : ℕ → ℕ → ℕ). cond (test y) (filter f x y) (at width old x (y - 0))) (whole width old)
    ∙ ap (λ (k : ℕ). cond (test y) (filter (at width old) x y) (at width old x k)) (from_zero y)

eights : (s r : ℕ) → s % 8 ≡ 0 → (s * r) % 8 ≡ 0
eights s r e =
    let m : s ≡ 8 * (s / 8) = omega (arith, e) in
    let n : s * r ≡ 8 * (s / 8 * r) = rw m (grind arith) in
    omega (arith, n)

pub is_row : (component : Component) (row : ℕ) → IsPlane component → component.size % 8 ≡ 0
    → component.size * row < component.height → IsRow (row_of component row)
is_row component row is grid begins =
    let top = eights component.size row grid in
    record {
      depth = record { least = is.depth.0; greatest = is.depth.1 };
      width = omega (arith, is.width.1);
      height = omega (arith, is.height.1);
      columns = is.columns;
      lines = is.lines;
      first = omega arith;
      top = omega (arith, begins);
      bottom = omega arith;
      end = omega arith;
      begins = omega (arith, top);
      ends = omega (arith, top, grid, is.lines);
    }

place_inside : (plane : Plane) (width x l : ℕ) → width % 4 ≡ 0 → x < width
    → l < side plane * (x / side plane) + side plane → l < width
place_inside Luma width x l w p h = omega arith
place_inside (Chroma offset) width x l w p h = omega arith

-- samples beside a horizontal edge alone count
horizontal_beside : (plane : Plane) (depth height : ℕ) (places : ℕ → ℕ → Place) (f g : ℕ → ℕ → ℕ) (width x y : ℕ) →
    width % 4 ≡ 0 → x < width →
    ((i j : ℕ) → i < width → 8 * ((y + 4) / 8) < height → 8 * ((y + 4) / 8) ≤ j + 4 → j + 4 < 8 * ((y + 4) / 8) + 8
    → f i j ≡ g i j) → f x y ≡ g x y →
    horizontal plane depth height places f x y ≡ horizontal plane depth height places g x y
unfolding horizontal vertical
horizontal_beside plane depth height places f g width x y columns a same here =
    let first = first_line plane x in
    if_same _ _ _ _ _ (λ (t : (nat_lt 0 ((y + 4) / 8) && nat_lt (8 * ((y + 4) / 8)) height) ≡ true).
    let some : 0 < (y + 4) / 8 = grind (arith, nat_tests) in
    let inside : 8 * ((y + 4) / 8) < height = grind (arith, nat_tests) in
    edge_alone plane depth (turned places) (λ i j. g j i) (λ i j. f j i) (x / side plane) ((y + 4) / 8) x ((y + 4) % 8)
    some first.0 first.1
    (λ i l b. let at = beside_of plane (x / side plane) ((y + 4) / 8) i l b in
    same l i (place_inside plane width x l columns a at.last) inside at.low at.high))
    here

-- behind the last edge samples stay
pub horizontal_past : (plane : Plane) (depth height : ℕ) (places : ℕ → ℕ → Place) (f : ℕ → ℕ → ℕ) (x y : ℕ)
    → height ≤ 8 * ((y + 4) / 8) → f x y ≡ horizontal plane depth height places f x y
unfolding horizontal vertical
horizontal_past plane depth height places f x y past =
    let none : (nat_lt 0 ((y + 4) / 8) && nat_lt (8 * ((y + 4) / 8)) height) ≡ false = grind (arith, nat_tests) in
    rw none refl

-- a row whose vertical edges are filtered
pub vertical_stage : (component : Component) (row done : ℕ) (places : ℕ → ℕ → Place) (before behind : ℕ → ℕ → ℕ)
    (old new : List ℕ) → IsPlane component → component.size % 8 ≡ 0 → component.size * row < component.height →
    done ≤ component.size * row - 4 →
    ((x y : ℕ) → x < component.width → 0 ≤ y → y < component.height
    → at component.width new x (y - 0)
    ≡ cond (nat_le (component.size * row) y && nat_lt y (min (component.size * row + component.size) component.height))
    (vertical component.plane component.depth component.width places (λ i j. at component.width old i (j - 0)) x y)
    (at component.width old x (y - 0))) →
    IsStage component places before behind done (component.size * row) (component.size * row) old →
    IsStage component places before behind done (component.size * row) (component.size * row + component.size) new
vertical_stage component row done places before behind old new is grid begins early told stage =
    let top = eights component.size row grid in
    let value = from_first component.width component.height
    (vertical component.plane component.depth component.width places)
    (λ y. nat_le (component.size * row) y
    && nat_lt y (min (component.size * row + component.size) component.height)) old new told in
    let out : (x y : ℕ) → x < component.width → y < component.height → y < component.size * row
    → at component.width new x y ≡ at component.width old x y = λ x y a b lt.
    let no : (nat_le (component.size * row) y
    && nat_lt y (min (component.size * row + component.size) component.height)) ≡ false = grind (arith, nat_tests) in
    cond_no _ _ _ _ (value x y a b) no in
    record {
      final = λ x y a b lt. out x y a b (omega (arith, lt, early)) ∙ stage.final x y a b lt;
      deblocked = λ x y a b low next. out x y a b (omega (arith, next, top)) ∙ stage.deblocked x y a b low next;
      vertical = λ x y a b next ready. elim (cases_lt y (component.size * row)) [
        | inl lt ↦ out x y a b lt ∙ stage.vertical x y a b next lt
        | inr le ↦
            let inside : y < min (component.size * row + component.size) component.height =
            omega (arith, ready, b) in
            let yes : (nat_le (component.size * row) y
            && nat_lt y (min (component.size * row + component.size) component.height)) ≡ true =
            grind (arith, nat_tests) in
            cond_yes _ _ _ _ (value x y a b) yes
            ∙ vertical_rows component.plane component.depth component.width places places (at component.width old)
            before
            (component.size * row)
            (min (component.size * row + component.size) component.height - component.size * row) x y
            is.columns top (omega (arith, top, grid, is.lines, begins)) a le (omega (arith, inside, le))
            (λ i s _ _. refl)
            (λ i j hi low high. stage.yet i j hi (omega (arith, high, low, begins)) low)
      ];
      yet = λ x y a b ready.
          let no : (nat_le (component.size * row) y
          && nat_lt y (min (component.size * row + component.size) component.height)) ≡ false =
          let past : min (component.size * row + component.size) component.height ≤ y = omega (arith, ready) in
          grind (arith, nat_tests) in
          cond_no _ _ _ _ (value x y a b) no ∙ stage.yet x y a b (omega (arith, ready));
    }

-- and its horizontal ones
pub horizontal_stage : (component : Component) (row done : ℕ) (places : ℕ → ℕ → Place) (before behind : ℕ → ℕ → ℕ)
    (old new : List ℕ) → IsPlane component → component.size % 8 ≡ 0 → component.size * row < component.height →
    done ≤ component.size * row - 4 →
    ((x y : ℕ) → x < component.width → 0 ≤ y → y < component.height
    → at component.width new x (y - 0)
    ≡ cond (nat_le (component.size * row) (8 * ((y + 4) / 8))
    && nat_lt (8 * ((y + 4) / 8)) (min (component.size * row + component.size) component.height))
    (horizontal component.plane component.depth component.height places (λ i j. at component.width old i (j - 0)) x y)
    (at component.width old x (y - 0))) →
    IsStage component places before behind done (component.size * row) (component.size * row + component.size) old →
    IsStage component places before behind done (component.size * row + component.size)
    (component.size * row + component.size) new
unfolding deblocked
horizontal_stage component row done places before behind old new is grid begins early told stage =
    let top = eights component.size row grid in
    let value = from_first component.width component.height
    (horizontal component.plane component.depth component.height places)
    (λ y. nat_le (component.size * row) (8 * ((y + 4) / 8))
    && nat_lt (8 * ((y + 4) / 8)) (min (component.size * row + component.size) component.height)) old new told in
    let above : (x y : ℕ) → x < component.width → y < component.height → 8 * ((y + 4) / 8) < component.size * row
    → at component.width new x y ≡ at component.width old x y = λ x y a b lt.
    let no : (nat_le (component.size * row) (8 * ((y + 4) / 8))
    && nat_lt (8 * ((y + 4) / 8)) (min (component.size * row + component.size) component.height)) ≡ false =
    grind (arith, nat_tests) in
    cond_no _ _ _ _ (value x y a b) no in
    let below : (x y : ℕ) → x < component.width → y < component.height
    → min (component.size * row + component.size) component.height ≤ 8 * ((y + 4) / 8)
    → at component.width new x y ≡ at component.width old x y = λ x y a b le.
    let no : (nat_le (component.size * row) (8 * ((y + 4) / 8))
    && nat_lt (8 * ((y + 4) / 8)) (min (component.size * row + component.size) component.height)) ≡ false =
    grind (arith, nat_tests) in
    cond_no _ _ _ _ (value x y a b) no in
    record {
      final = λ x y a b lt. above x y a b (omega (arith, lt, early)) ∙ stage.final x y a b lt;
      deblocked = λ x y a b low next. elim (cases_lt (8 * ((y + 4) / 8)) (component.size * row)) [
        | inl lt ↦ above x y a b lt ∙ stage.deblocked x y a b low lt
        | inr le ↦ elim (cases_lt (8 * ((y + 4) / 8)) component.height) [
          | inl inside ↦
              let less : 8 * ((y + 4) / 8) < min (component.size * row + component.size) component.height =
              omega (arith, next, inside) in
              let yes : (nat_le (component.size * row) (8 * ((y + 4) / 8))
              && nat_lt (8 * ((y + 4) / 8)) (min (component.size * row + component.size) component.height)) ≡ true =
              grind (arith, nat_tests) in
              cond_yes _ _ _ _ (value x y a b) yes
              ∙ horizontal_beside component.plane component.depth component.height places (at component.width old)
              (vertical component.plane component.depth component.width places before) component.width x y is.columns a
              (λ i j hi _ low high. stage.vertical i j hi (omega (arith, high, inside, is.lines))
              (omega (arith, low, le, top)) (omega (arith, high, next, top, grid)))
              (stage.vertical x y a b le (omega (arith, next, top, grid)))
          | inr past ↦
              below x y a b (omega (arith, past)) ∙ stage.vertical x y a b le (omega (arith, next, top, grid))
              ∙ horizontal_past component.plane component.depth component.height places
              (vertical component.plane component.depth component.width places before) x y past
        ]
      ];
      vertical = λ x y a b next ready.
          below x y a b (omega (arith, next)) ∙ stage.vertical x y a b (omega (arith, next)) ready;
      yet = λ x y a b ready.
          below x y a b (omega (arith, ready, top, grid)) ∙ stage.yet x y a b ready;
    }
