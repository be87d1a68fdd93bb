-- A unit leaves what stands above its row.
use Rattle.std.proofs.Common.{◌≡◌, ◌≢◌, ℕ, ◌+◌, ◌-◌, ◌*◌, ◌/◌, ◌<◌, ◌≤◌, Bool, true, false, List, refl, sym, ap, ◌∙◌}
use Rattle.std.proofs.Common.{if◌then◌else◌, subst, arith}
use Rattle.std.proofs.lemmas.Nat.{div_below}
use Rattle.picture_layout.specs.declared.coding_tree_unit.CodingTreeUnit.{CodingTreeUnit}
use Rattle.picture_layout.specs.Shape.{IsShape}
use Rattle.plan_types.specs.declared.picture_plan.PicturePlan.{PicturePlan}
use Rattle.plan_types.specs.declared.segment_plan.SegmentPlan.{SegmentPlan}
use Rattle.plan_types.specs.Segments.{address_of}
use Rattle.known_picture_laws.specs.SpecDecodedPictures.{DecodedUnits, unit_decoded}
use Rattle.spec_picture_build.specs.Border.{known_beside, unit_side, width_of}
use Rattle.spec_picture_build.specs.Built.{samples_added, unit_inter}
use Rattle.spec_picture_build.specs.Format.{unit_format}
use Rattle.spec_picture_build.specs.References.{DecodedPicture, motions_of}
use Rattle.spec_picture_filters.specs.Units.{coded_laid, read_added}
use Rattle.spec_picture_motion.specs.Derived.{known_of_unit, unit_added as motion_added}
use Rattle.spec_picture_motion.specs.Slices.{slice_motion}
use Rattle.spec_picture_trees.specs.Picture.{TreeUnit}
use Rattle.spec_picture_trees.specs.Places.{is_of_unit as has_place_of, unit_at, unit_places}
use Rattle.spec_picture_trees.specs.Shapes.{picture_shape, slice_start}
use Rattle.spec_reconstruction.specs.Unit.{unit_built}
use Rattle.spec_slice_data.specs.Segment.{PictureShape, row_of}
use Rattle.known_picture_laws.proofs.LocalityLaws.{motion_stays, some_places}
use Rattle.known_picture_laws.proofs.LocalityLawsMotion.{place_is}
use Rattle.known_picture_laws.proofs.LocalityLaws.{others_stay, some_side}
use Rattle.unit_build.specs.declared.built.BuiltUnit.{BuiltUnit}
use Rattle.unit_build.proofs.Covering.{covered}
use Rattle.unit_build.proofs.Places.{row_is}
use Rattle.row_borders.specs.Borders.{Bordering, at_unit}
use Rattle.row_borders.specs.Building.{HoldsUnit, IsAbove, IsBeside}
use Rattle.row_borders.specs.Next.{HasColumn, IsLaid, IsNextInRow}
use Rattle.row_borders.specs.Strips.{StripPlaces}
use Rattle.row_borders.proofs.Laid.{same_row, some_factor}
use Rattle.row_borders.proofs.Next.{next_at_left}

-- the unit of a place above a row of units isn't one of that row or of a row below
other_unit : (n w W b x row : ℕ) → 1 ≤ n → W ≤ n * w → x < W → 1 ≤ row → row ≤ b / w
    → w * ((n * row - 1) / n) + x / n ≢ b
other_unit n w W b x row some covered across low below e =
    let at : b / w ≡ (n * row - 1) / n = row_is n w W b x (n * row - 1) some covered across e in
    let some_lines : 1 ≤ n * row = grind arith in
    let past : n * row - 1 < row * n = grind arith in
    let above : (n * row - 1) / n < row = div_below (n * row - 1) n row some past in
    omega (arith, at, above, below)

unless : {A : Type 0} (b : Bool) (x y : A) → (b ≡ true → ⊥) → (if b then x else y) ≡ y
unless true x y never = absurd (never refl)
unless false x y never = refl

module _ (others : List DecodedPicture) (p : PicturePlan) (s : SegmentPlan) (unit : TreeUnit) (units : DecodedUnits)
    (shape : IsShape (picture_shape p.sps p.pps)) (row : ℕ) (low : 1 ≤ row)
    (below : row ≤ row_of (picture_shape p.sps p.pps) unit.ctu) where
  abbrev q : PictureShape
  q = picture_shape p.sps p.pps

  abbrev behind : DecodedUnits
  behind = unit_decoded others p s unit units

  pub sample_stays : (c x : ℕ) → x < width_of q c
      → behind.samples c x (unit_side q c * row - 1) ≡ units.samples c x (unit_side q c * row - 1)
  unfolding unit_decoded samples_added unit_at
  sample_stays c x across =
      others_stay q unit.ctu
      (unit_built (unit_format p.sps p.pps s.header.slice) (unit_inter others p s unit units.motions) unit.read.items
      (known_beside q (address_of (slice_start p s)) unit.ctu units.samples))
      units.samples c x (unit_side q c * row - 1)
      (other_unit (unit_side q c) q.width (width_of q c) unit.ctu x row (some_side q c) (covered q c shape) across low
      below)

  other_place : (x : ℕ) → x < q.across → unit_at q (unit_places q) x (unit_places q * row - 1) ≢ unit.ctu
  unfolding unit_at
  other_place x across =
      other_unit (unit_places q) q.width q.across unit.ctu x row (some_places q) shape.covered across low below

  pub place_stays : (x : ℕ) → x < q.across
      → behind.motions x (unit_places q * row - 1) ≡ units.motions x (unit_places q * row - 1)
  unfolding unit_decoded motion_added
  place_stays x across =
      motion_stays q unit.ctu (slice_motion p s unit.ctu) (known_of_unit (motions_of others) p s unit units.motions)
      units.motions x (unit_places q * row - 1) (other_place x across)

  pub flag_stays : (x : ℕ) → x < q.across
      → behind.filters.coded x (unit_places q * row - 1) ≡ units.filters.coded x (unit_places q * row - 1)
  unfolding unit_decoded read_added coded_laid
  flag_stays x across =
      unless {A = Bool} (has_place_of q unit.ctu x (unit_places q * row - 1)) _ _
      (λ e. other_place x across (place_is q unit.ctu x (unit_places q * row - 1) e))

-- so what is laid stays so, and what stands above a unit
pub laid_of_later : (others : List DecodedPicture) (p : PicturePlan) (s : SegmentPlan) (unit : TreeUnit)
    (picture : PictureShape) (row : ℕ) (above : StripPlaces) (units : DecodedUnits) (end : ℕ)
    → IsShape picture → picture ≡ picture_shape p.sps p.pps → row ≤ row_of picture unit.ctu
    → IsLaid picture row above units end → IsLaid picture row above (unit_decoded others p s unit units) end
laid_of_later others p s unit picture row above units end shape same below laid =
    subst (λ (q : PictureShape). IsLaid q row above (unit_decoded others p s unit units) end) (sym same)
    (here (subst IsShape same shape) (subst (λ (q : PictureShape). row ≤ row_of q unit.ctu) same below)
    (subst (λ (q : PictureShape). IsLaid q row above units end) same laid))
  where
    here : IsShape (picture_shape p.sps p.pps) → row ≤ row_of (picture_shape p.sps p.pps) unit.ctu
        → IsLaid (picture_shape p.sps p.pps) row above units end
        → IsLaid (picture_shape p.sps p.pps) row above (unit_decoded others p s unit units) end
    here shape below laid = record {
      line = λ c component x low less across.
          laid.line c component x low less across
          ∙ sym (sample_stays others p s unit units shape row low below c x across);
      places = record {
        motion = λ x low less across.
            laid.places.motion x low less across
            ∙ sym (place_stays others p s unit units shape row low below x across);
        flags = λ x low less across.
            laid.places.flags x low less across
            ∙ sym (flag_stays others p s unit units shape row low below x across);
      };
    }

pub above_of_later : (others : List DecodedPicture) (p : PicturePlan) (s : SegmentPlan) (unit : TreeUnit)
    (border : Bordering) (units : DecodedUnits)
    → IsShape border.unit.layout → border.unit.layout ≡ picture_shape p.sps p.pps
    → row_of border.unit.layout border.unit.address ≤ row_of border.unit.layout unit.ctu
    → IsAbove border units → IsAbove border (unit_decoded others p s unit units)
above_of_later others p s unit border units shape same below above =
    let q : PictureShape = border.unit.layout in
    let r : ℕ = row_of border.unit.layout border.unit.address in
    let here : IsShape (picture_shape p.sps p.pps) = subst IsShape same shape in
    let under : r ≤ row_of (picture_shape p.sps p.pps) unit.ctu =
    subst (λ (q : PictureShape). r ≤ row_of q unit.ctu) same below in
    let behind : DecodedUnits = unit_decoded others p s unit units in
    let samples : (c x : ℕ) → 1 ≤ r → x < width_of q c
    → behind.samples c x (unit_side q c * r - 1) ≡ units.samples c x (unit_side q c * r - 1) =
    subst (λ (t : PictureShape). (c x : ℕ) → 1 ≤ r → x < width_of t c
    → behind.samples c x (unit_side t c * r - 1) ≡ units.samples c x (unit_side t c * r - 1)) (sym same)
    (λ c x low across. sample_stays others p s unit units here r low under c x across) in
    let places : (x : ℕ) → 1 ≤ r → x < q.across
    → behind.motions x (unit_places q * r - 1) ≡ units.motions x (unit_places q * r - 1) =
    subst (λ (t : PictureShape). (x : ℕ) → 1 ≤ r → x < t.across
    → behind.motions x (unit_places t * r - 1) ≡ units.motions x (unit_places t * r - 1)) (sym same)
    (λ x low across. place_stays others p s unit units here r low under x across) in
    let flags : (x : ℕ) → 1 ≤ r → x < q.across
    → behind.filters.coded x (unit_places q * r - 1) ≡ units.filters.coded x (unit_places q * r - 1) =
    subst (λ (t : PictureShape). (x : ℕ) → 1 ≤ r → x < t.across
    → behind.filters.coded x (unit_places t * r - 1) ≡ units.filters.coded x (unit_places t * r - 1)) (sym same)
    (λ x low across. flag_stays others p s unit units here r low under x across) in
    record {
      line = λ c x component low from to across.
          above.line c x component low from to across
          ∙ sym (samples c x (some_factor (unit_side q c) r low) across);
      motion = λ x low from to across.
          above.motion x low from to across ∙ sym (places x (some_factor (unit_places q) r low) across);
      flags = λ x low from to across.
          above.flags x low from to across ∙ sym (flags x (some_factor (unit_places q) r low) across);
    }

-- so a border is beside the next unit behind this one
pub beside_behind : (others : List DecodedPicture) (p : PicturePlan) (s : SegmentPlan) (unit : TreeUnit)
    (border : Bordering) (built : BuiltUnit) (units : DecodedUnits) (next : CodingTreeUnit)
    → IsShape border.unit.layout → border.unit.layout ≡ picture_shape p.sps p.pps → unit.ctu ≡ border.unit.address
    → HoldsUnit p border.unit.address built (unit_decoded others p s unit units)
    → HasColumn border.unit.layout border.left built → IsNextInRow border.unit next
    → IsAbove (at_unit border next) units
    → IsBeside (at_unit border next) (unit_decoded others p s unit units)
beside_behind others p s unit border built units next shape layout here held has is above =
    let row : row_of next.layout next.address ≡ row_of next.layout unit.ctu =
    same_row border.unit next shape is
    ∙ ap (λ (q : PictureShape). row_of q border.unit.address) (sym is.layout)
    ∙ ap (λ k. row_of next.layout k) (sym here) in
    record {
      above = above_of_later others p s unit (at_unit border next) units (subst IsShape (sym is.layout) shape)
          (is.layout ∙ layout) (omega (arith, row)) above;
      left = next_at_left p border built (unit_decoded others p s unit units) next shape layout held has is;
    }
