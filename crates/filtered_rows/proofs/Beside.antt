-- Lines of a component of a row, and of the rows beside it, as they are built.
use Rattle.std.proofs.Common.{◌≡◌, ℕ, ◌+◌, ◌-◌, ◌*◌, ◌<◌, ◌≤◌, min, inl, inr, arith, ap, ◌∙◌}
use Rattle.std.proofs.Common.{List, get_or}
use Rattle.std.proofs.lemmas.Bool.{cases_eq}
use Rattle.hv_base.specs.declared.line.Line.{Line}
use Rattle.deblock.specs.Windows.{at}
use Rattle.loop_filters.specs.declared.component.Component.{Component}
use Rattle.row_filters.specs.Lines.{end_line}
use Rattle.sample_words.specs.declared.sizes.FlightSizes.{FlightSizes}
use Rattle.sample_words.specs.Contents.{component_side}
use Rattle.sample_words.specs.Sizes.{IsFlight, ctb_size, height_of, rows}
use Rattle.filtered_rows.specs.Components.{HasSidesOf, IsPartOfRow}
use Rattle.filtered_rows.proofs.Sides.{begins, begins_row, lines_are, size_range, top_is}

module _ (s : FlightSizes) (k : Component) (is : IsFlight s) (of : HasSidesOf s k) where
  module _ (row : ℕ) where
    -- lines from a to before b of the component are among the row's
    pub lines_inside : (a b top : ℕ) → top ≡ k.size * row → top ≤ a → a < b → b ≤ end_line k row 0
        → a - top + (b - a) ≤ component_side k.c (height_of s row)
    lines_inside a b top t low some high =
        let h = lines_are s k is of row in omega (arith, t, low, some, high, h)

    -- and are as many samples as are read
    pub lines_room : (n count : ℕ) → n ≡ k.width * count → n ≡ component_side k.c s.width * count
    lines_room n count e = e ∙ ap (λ (w : ℕ). w * count) of.width

    -- so they are those of the picture
    pub lines_told : (g : ℕ → ℕ → ℕ) (out : List ℕ) (a n top : ℕ) → top ≡ k.size * row → top ≤ a
        → ((x y : ℕ) → x < component_side k.c s.width → y < n
        → get_or out (component_side k.c s.width * y + x) 0
        ≡ g x (component_side k.c (row * ctb_size s) + (a - top) + y))
        → (x y : ℕ) → x < k.width → y < n → at k.width out x y ≡ g x (a + y)
    lines_told g out a n top t low told x y column line =
        let w = of.width in
        let e = top_is s k is of row in
        let place : component_side k.c (row * ctb_size s) + (a - top) + y ≡ a + y = omega (arith, e, t, low) in
        ap (λ (j : ℕ). get_or out (j * y + x) 0) w
        ∙ (told x y (omega (arith, w, column)) line ∙ ap (g x) place)

  -- the parts of the lines around a row
  module _ (l : Line) (inside : l.row < rows s) (top beside : ℕ) (is_top : top ≡ k.size * l.row) (few : beside ≤ 4)
    where
      some_above : 0 < top → 0 < l.row
      some_above some =
          elim (cases_eq l.row 0) [
            | inl none ↦
                let e : k.size * l.row ≡ k.size * 0 = ap (λ (n : ℕ). k.size * n) none in
                let z : k.size * 0 ≡ 0 = omega arith in
                absurd (omega (arith, is_top, e, z, some))
            | inr row ↦ omega (arith, row)
          ]

      pub upper_part : (first upper : ℕ) → first ≡ top - beside → upper ≡ l.row - 1 → first < top
          → IsPartOfRow s k l upper first top
      upper_part first upper e u less =
          let range = size_range s k is of in
          let some = some_above (omega (arith, less)) in
          let whole : upper + 1 ≡ l.row = omega (arith, u, some) in
          let next : k.size * (upper + 1) ≡ k.size * upper + k.size = omega arith in
          let all : k.size * (upper + 1) ≡ k.size * l.row = ap (λ (n : ℕ). k.size * n) whole in
          let here = begins s k is of l.row inside in
          record {
            inside = omega (arith, whole, inside);
            up = omega (arith, whole);
            down = omega (arith, whole);
            top = omega (arith, e, is_top, next, all, range.0, few);
            bottom = omega (arith, is_top, next, all, here);
          }

      pub own_part : (end : ℕ) → end ≡ min (top + k.size) k.height → top < end → IsPartOfRow s k l l.row top end
      own_part end e less = record {
        inside = inside;
        up = omega arith;
        down = omega arith;
        top = omega (arith, is_top);
        bottom = omega (arith, is_top, e);
      }

      pub lower_part : (end last lower : ℕ) → end ≡ min (top + k.size) k.height
          → last ≡ min (top + k.size + beside) k.height → lower ≡ l.row + 1 → end < last
          → IsPartOfRow s k l lower end last
      lower_part end last lower e m u less =
          let range = size_range s k is of in
          let next : k.size * (l.row + 1) ≡ k.size * l.row + k.size = omega arith in
          let all : k.size * lower ≡ k.size * (l.row + 1) = ap (λ (n : ℕ). k.size * n) u in
          let more : k.size * lower < k.height = omega (arith, e, m, less, is_top, next, all) in
          record {
            inside = begins_row s k is of lower more;
            up = omega (arith, u);
            down = omega (arith, u);
            top = omega (arith, e, is_top, next, all);
            bottom = omega (arith, m, is_top, next, all, range.0, few);
          }
