-- The places that the filters of a row of coding tree blocks ask for.
use Rattle.std.proofs.Common.{◌≡◌, ℕ, ◌+◌, ◌-◌, ◌*◌, ◌/◌, ◌%◌, ◌<◌, ◌≤◌, refl, ap, subst, sym, arith}
use Rattle.spec_deblocking.specs.declared.place.Place.{Place}
use Rattle.spec_deblocking.specs.declared.place.Plane.{Plane}
use Rattle.spec_deblocking.specs.declared.place.Plane.TheVariants.{Luma, Chroma}
use Rattle.spec_deblocking.specs.Places.{side}
use Rattle.spec_loop_filters.specs.declared.format.FilterFormat.{FilterFormat}
use Rattle.filter_locality_laws.specs.Rows.{IsFilterFormat, IsPlaceOfRow}
use Rattle.filter_locality_laws.proofs.Sizes.{row_is}
use Rattle.loop_filters.specs.declared.component.Component.{Component}
use Rattle.loop_filters.specs.Formats.{IsComponent, IsFormat}
use Rattle.row_filters.specs.Known.{AreKept, ArePlaces}

pub whole : (format : FilterFormat) → IsFormat format → IsFilterFormat format
whole format is = record {
  width = is.columns;
  height = is.lines;
  some = omega (arith, is.size.0);
  ctb_size = is.grid;
}

module _ (format : FilterFormat) (k : Component) (row : ℕ) (is : IsFormat format) (of : IsComponent format k) where
  -- each row begins at a multiple of eight
  pub top_whole : k.size * row % 8 ≡ 0
  top_whole =
      let r = row_is format k.c row (whole format is) in
      subst (λ s. s * row % 8 ≡ 0) (sym of.size) r.top

  -- the place of a line of the row or of four lines beside it, and the other lines of that place
  pub line_place : (y : ℕ) → k.size * row ≤ y + 4 → y < k.size * row + k.size + 4
      → IsPlaceOfRow format row 2 (y / side k.plane)
  line_place y low high =
      let r = row_is format k.c row (whole format is) in
      let a = rw of.size at low in
      let b = rw of.size at high in
      subst (λ (p : Plane). IsPlaceOfRow format row 2 (y / side p)) (sym of.plane) (r.near 4 y refl a b)

  -- the places on both sides of the horizontal edge that such a line stands at
  pub before_edge : (y : ℕ) → k.size * row ≤ y + 4 → y < k.size * row + k.size + 4 → 0 < (y + 4) / 8
      → IsPlaceOfRow format row 1 ((8 * ((y + 4) / 8) - 1) / side k.plane)
  before_edge y low high some =
      let r = row_is format k.c row (whole format is) in
      let a = rw of.size at low in
      let b = rw of.size at high in
      subst (λ (p : Plane). IsPlaceOfRow format row 1 ((8 * ((y + 4) / 8) - 1) / side p)) (sym of.plane)
      (r.before y a b some)

  pub behind_edge : (y : ℕ) → k.size * row ≤ y + 4 → y < k.size * row + k.size + 4
      → IsPlaceOfRow format row 1 (8 * ((y + 4) / 8) / side k.plane)
  behind_edge y low high =
      let r = row_is format k.c row (whole format is) in
      let a = rw of.size at low in
      let b = rw of.size at high in
      subst (λ (p : Plane). IsPlaceOfRow format row 1 (8 * ((y + 4) / 8) / side p)) (sym of.plane) (r.behind y a b)

-- places that are known two rows of places beside a row are known one beside it, and so is whether its own are kept
pub fewer_places : (format : FilterFormat) (row : ℕ) (places known : ℕ → ℕ → Place)
    → ArePlaces format row 2 places known → ArePlaces format row 1 places known
fewer_places format row places known are i s less lower at =
    are i s less lower (omega (arith, at.0), omega (arith, at.1))

pub kept_places : (format : FilterFormat) (row : ℕ) (places known : ℕ → ℕ → Place)
    → ArePlaces format row 2 places known → AreKept format row places known
kept_places format row places known are i s less lower at =
    ap (λ (p : Place). p.kept) (are i s less lower (omega (arith, at.0), omega (arith, at.1)))

-- the other lines of a line's place
pub same_place : (plane : Plane) (first end y j : ℕ) → first % 4 ≡ 0 → end % 4 ≡ 0 → first ≤ y → y < end
    → side plane * (y / side plane) ≤ j → j < side plane * (y / side plane) + side plane → (first ≤ j) × (j < end)
same_place Luma first end y j a b low high c d = (omega arith, omega arith)
same_place (Chroma offset) first end y j a b low high c d = (omega arith, omega arith)
