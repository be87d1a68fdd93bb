use Rattle.std.proofs.Common.{rules, ◌≡◌, ◌<◌, ◌≤◌, ◌+◌, ◌-◌, ◌*◌, ℕ, ap, sym, subst, ◌∙◌, refl, arith}
use Rattle.spec_loop_filters.specs.Filters.{offset_plane}
use Rattle.loop_filters.specs.Formats.{columns_of, filters_of}
use Rattle.loop_filters.proofs.RowParts.{block_is_one, kept_among, row_begins, row_is_one}
use Rattle.row_filters.proofs.Written.{known_kept}
use Rattle.row_filters.proofs.offsets.offset_row.Goals as goal

pub sao_row-requires-clause-row : goal.sao_row-requires-clause-row
sao_row-requires-clause-row g c =
    let k = c.requires.component in
    let begins =
    row_begins c.args.component.now.size c.args.row c.args.component.now.rows c.args.component.now.height
    k.high.1 c.requires.row in
    let wide = k.wide in
    record {
      size = (omega (arith, k.size_few.0), k.size_few.1);
      width = (k.is_plane.width.0, omega (arith, k.is_plane.width.1));
      height = omega (arith, k.is_plane.height.1);
      depth = subst (λ d. (8 ≤ d) × (d ≤ 14)) refl k.is_plane.depth;
      begins = begins;
      here =
          subst (λ n. (c.args.component.now.width ≤ c.args.component.now.size * n)
          × (c.args.component.now.size * n < c.args.component.now.width + c.args.component.now.size))
          (sym c.units-2.ensures.count) wide;
      above = λ _. subst (λ n. c.args.component.now.width ≤ c.args.component.now.size * n)
          (sym c.units.ensures.count) wide.0;
      below = λ _. subst (λ n. c.args.component.now.width ≤ c.args.component.now.size * n)
          (sym c.units-3.ensures.count) wide.0;
      places = (k.place_few, search rules);
    }

pub returns : goal.returns
returns g c = λ places units f are known held i j column line stood.
    let k = c.requires.component in
    let p = c.args.component.now in
    let t : ℕ = c.args.component.now.size * c.args.row in
    let begins = row_begins p.size c.args.row p.rows p.height k.high.1 c.requires.row in
    let one : (u : ℕ) → c.args.component.now.size * u < c.args.component.now.width
    → u < columns_of (g.V.FilterView.shape c.args.view.now) =
    λ u lt. block_is_one c.args.component.now.size u _ c.args.component.now.width k.wide.0 lt in
    c.sao_row.ensures.picture
    (offset_plane (filters_of (g.V.FilterView.shape c.args.view.now) places units) c.args.component.now.c)
    f
    (record {
      width = sym k.width;
      height = sym k.height;
      size = sym k.size;
      depth = sym k.depth;
      above = λ low u lt.
          known u (c.args.row - 1) (one u lt) (omega (arith, k.rows, c.requires.row)) (omega arith) (omega arith)
          ∙ ap (λ v. g.V.FilterView.unit_at c.args.view.now c.args.component.now.c u v) (sym c.saturating_sub.ensures)
          ∙ sym (c.units.ensures.units u (one u lt));
      here = λ u lt.
          known u c.args.row (one u lt) (omega (arith, k.rows, c.requires.row)) (omega arith) (omega arith)
          ∙ sym (c.units-2.ensures.units u (one u lt));
      below = λ more u lt.
          let next =
          row_is_one c.args.component.now.size c.args.row c.args.component.now.rows
          c.args.component.now.height k.high.0 more in
          let is : c.args.row + 1 ≡ c.min.result = omega (arith, next, c.min.ensures) in
          known u (c.args.row + 1) (one u lt) (omega (arith, k.rows, next)) (omega arith) (omega arith)
          ∙ ap (λ v. g.V.FilterView.unit_at c.args.view.now c.args.component.now.c u v) is
          ∙ sym (c.units-3.ensures.units u (one u lt));
      kept = λ x j h l. kept_among c.args.component.now.plane _ c.args.component.now.place_log2
          c.args.component.now.places c.args.component.now.size c.args.row c.args.component.now.width
          c.args.component.now.height x j _ _ _ c.kept.result.now places k.plane
          k.place_side k.places k.across k.down k.block
          (known_kept (g.V.FilterView.shape c.args.view.now) c.args.row places (g.V.PlaceView.place_at c.args.view.now)
          c.kept.result.now c.requires.format are c.kept.ensures)
          h l;
      samples = λ x y left low high more. sym (held x y left (omega (arith, high)) (omega (arith, low, more)));
    })
    i j column line
    (stood ∙ sym (held i (t + j) column (omega arith) (omega (arith, line))))
