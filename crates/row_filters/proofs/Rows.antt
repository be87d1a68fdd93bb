-- Rows of coding tree blocks behind their edges, by what is known of them and of the places and lines beside them.
use Rattle.std.proofs.Common.{◌≡◌, ℕ, ◌+◌, ◌-◌, ◌*◌, ◌/◌, ◌%◌, ◌<◌, ◌≤◌, ◌&&◌, Bool, true, false, cond, nat_le}
use Rattle.std.proofs.Common.{nat_lt}
use Rattle.std.proofs.Common.{inl, inr, refl, ap, sym, ◌∙◌, arith}
use Rattle.std.proofs.lemmas.Bool.{cases_lt}
use Rattle.std.proofs.lemmas.Bool.Decides.{nat_tests}
use Rattle.spec_deblocking.specs.declared.place.Place.{Place}
use Rattle.spec_deblocking.specs.declared.place.Plane.{Plane}
use Rattle.spec_deblocking.specs.Places.{side}
use Rattle.spec_deblocking.specs.Planes.{horizontal, vertical}
use Rattle.spec_loop_filters.specs.declared.format.FilterFormat.{FilterFormat}
use Rattle.spec_loop_filters.specs.Filters.{depth_of, plane_of}
use Rattle.filter_locality_laws.specs.Rows.{behind_horizontal, behind_vertical}
use Rattle.filter_locality_laws.proofs.Near.{horizontal_near, vertical_near}
use Rattle.deblock.specs.Rows.{IsRow}
use Rattle.loop_filters.specs.declared.component.Component.{Component}
use Rattle.loop_filters.specs.Formats.{IsComponent, IsFormat}
use Rattle.loop_filters.proofs.RowParts.{place_inside, row_begins}
use Rattle.row_filters.specs.Known.{ArePlaces}
use Rattle.row_filters.specs.Lines.{all_lines, end_line, first_line, row_around}
use Rattle.row_filters.proofs.Places.{before_edge, behind_edge, line_place, same_place, top_whole}

-- a row of a component begins in it
pub begins : (format : FilterFormat) (k : Component) (row : ℕ) → IsComponent format k → row < k.rows
    → k.size * row < k.height
begins format k row of less = row_begins k.size row k.rows k.height of.high.1 less

-- its lines and some beside it are a row of the plane
pub is_row : (format : FilterFormat) (k : Component) (row beside : ℕ) → IsFormat format → IsComponent format k
    → row < k.rows → beside % 4 ≡ 0 → IsRow (row_around k row beside)
is_row format k row beside is of less four =
    let top = top_whole format k row is of in
    let inside = begins format k row of less in
    record {
      depth = record { least = of.is_plane.depth.0; greatest = of.is_plane.depth.1 };
      width = omega (arith, of.is_plane.width.1);
      height = omega (arith, of.is_plane.height.1);
      columns = of.is_plane.columns;
      lines = of.is_plane.lines;
      first = omega arith;
      top = omega (arith, inside);
      bottom = omega arith;
      end = omega arith;
      begins = omega (arith, top);
      ends = omega (arith, top, of.grid, of.is_plane.lines, four);
    }

pub is_all : (format : FilterFormat) (k : Component) (row : ℕ) → IsFormat format → IsComponent format k
    → row < k.rows → IsRow (all_lines k row)
is_all format k row is of less =
    let r = is_row format k row 4 is of less refl in
    let whole = r.begins in
    record {
      depth = r.depth;
      width = r.width;
      height = r.height;
      columns = r.columns;
      lines = r.lines;
      first = omega arith;
      top = omega (arith, r.first, r.top);
      bottom = omega arith;
      end = r.end;
      begins = omega (arith, whole);
      ends = r.ends;
    }

module _ (format : FilterFormat) (k : Component) (row : ℕ) (places known : ℕ → ℕ → Place) (f g : ℕ → ℕ → ℕ)
    (is : IsFormat format) (of : IsComponent format k)
    (same : (i j : ℕ) → i < k.width → first_line k row 4 ≤ j → j < end_line k row 4 → g i j ≡ f i j) where
  -- behind vertical edges
  pub vertical_all : ArePlaces format row 2 places known
      → (x y : ℕ) → x < k.width → first_line k row 4 ≤ y → y < end_line k row 4
      → vertical k.plane k.depth k.width known g x y ≡ behind_vertical format places k.c f x y
  vertical_all are x y column low high =
      let top = top_whole format k row is of in
      let columns = of.is_plane.columns in
      let place = line_place format k row is of y (omega (arith, low)) (omega (arith, high)) in
      let down = place_inside k.plane y k.height _ of.down (omega (arith, high)) in
      vertical_near k.plane k.depth k.width known places g f x y
      (λ some inside.
      sym (are ((8 * ((x + 4) / 8) - 1) / side k.plane) (y / side k.plane)
      (place_inside k.plane (8 * ((x + 4) / 8) - 1) k.width _ of.across (omega (arith, some, inside))) down place))
      (λ some inside.
      sym (are (8 * ((x + 4) / 8) / side k.plane) (y / side k.plane)
      (place_inside k.plane (8 * ((x + 4) / 8)) k.width _ of.across inside) down place))
      (λ i j inside left right above below.
      let lines =
      same_place k.plane (first_line k row 4) (end_line k row 4) y j (omega (arith, top))
      (omega (arith, top, of.grid, of.is_plane.lines)) low high above below in
      same i j (omega (arith, columns, inside, right)) lines.0 lines.1)
      (same x y column low high)
      ∙ ap (λ (p : Plane). vertical p k.depth k.width places f x y) of.plane
      ∙ ap (λ (d : ℕ). vertical (plane_of format k.c) d k.width places f x y) of.depth
      ∙ ap (λ (w : ℕ). vertical (plane_of format k.c) (depth_of format k.c) w places f x y) of.width

  -- behind horizontal edges
  pub horizontal_all : ArePlaces format row 1 places known
      → (x y : ℕ) → x < k.width → first_line k row 4 ≤ y → y < end_line k row 4
      → horizontal k.plane k.depth k.height known g x y ≡ behind_horizontal format places k.c f x y
  horizontal_all are x y column low high =
      let top = top_whole format k row is of in
      let across = place_inside k.plane x k.width _ of.across column in
      let above : k.size * row ≤ y + 4 = omega (arith, low) in
      let below : y < k.size * row + k.size + 4 = omega (arith, high) in
      horizontal_near k.plane k.depth k.height known places g f x y
      (λ some inside.
      sym (are (x / side k.plane) ((8 * ((y + 4) / 8) - 1) / side k.plane) across
      (place_inside k.plane (8 * ((y + 4) / 8) - 1) k.height _ of.down (omega (arith, some, inside)))
      (before_edge format k row is of y above below some)))
      (λ some inside.
      sym (are (x / side k.plane) (8 * ((y + 4) / 8) / side k.plane) across
      (place_inside k.plane (8 * ((y + 4) / 8)) k.height _ of.down inside)
      (behind_edge format k row is of y above below)))
      (λ i j inside up down left right.
      let columns =
      same_place k.plane 0 k.width x i (omega arith) of.is_plane.columns (omega arith) column left right in
      same i j columns.1 (omega (arith, top, above, up))
      (omega (arith, top, of.grid, of.is_plane.lines, below, inside, down)))
      (same x y column low high)
      ∙ ap (λ (p : Plane). horizontal p k.depth k.height places f x y) of.plane
      ∙ ap (λ (d : ℕ). horizontal (plane_of format k.c) d k.height places f x y) of.depth
      ∙ ap (λ (h : ℕ). horizontal (plane_of format k.c) (depth_of format k.c) h places f x y) of.height

-- a sample at an edge that the plane doesn't have stays
past_edges : (plane : Plane) (depth height : ℕ) (places : ℕ → ℕ → Place) (g : ℕ → ℕ → ℕ) (x y : ℕ)
    → height ≤ 8 * ((y + 4) / 8) → g x y ≡ horizontal plane depth height places g x y
unfolding horizontal vertical
past_edges plane depth height places g x y past =
    let none : (nat_lt 0 ((y + 4) / 8) && nat_lt (8 * ((y + 4) / 8)) height) ≡ false = grind (arith, nat_tests) in
    rw none refl

cond_same : (b : Bool) (u v : ℕ) → v ≡ u → cond b u v ≡ u
cond_same true u v e = refl
cond_same false u v e = e

cond_first : (b : Bool) (u v : ℕ) → b ≡ true → cond b u v ≡ u
cond_first true u v e = refl
cond_first false u v e = absurd cc

-- the edges that are filtered are all that the row's lines and four beside it stand at
pub edges_of_row : (plane : Plane) (depth height : ℕ) (places : ℕ → ℕ → Place) (g : ℕ → ℕ → ℕ) (top end x y : ℕ)
    → top % 8 ≡ 0 → top ≤ y + 4 → (8 * ((y + 4) / 8) < height → 8 * ((y + 4) / 8) < end)
    → cond (nat_le top (8 * ((y + 4) / 8)) && nat_lt (8 * ((y + 4) / 8)) end)
    (horizontal plane depth height places g x y) (g x y)
    ≡ horizontal plane depth height places g x y
edges_of_row plane depth height places g top end x y whole low all = elim (cases_lt (8 * ((y + 4) / 8)) height) [
  | inl lt ↦
      let less = all lt in
      let t : (nat_le top (8 * ((y + 4) / 8)) && nat_lt (8 * ((y + 4) / 8)) end) ≡ true =
      let below : top ≤ 8 * ((y + 4) / 8) = omega (arith, whole, low) in
      grind (arith, nat_tests) in
      cond_first _ _ _ t
  | inr past ↦ cond_same _ _ _ (past_edges plane depth height places g x y past)
]
