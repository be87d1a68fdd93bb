-- What is laid above a row, step by step.
use Rattle.std.proofs.Common.{◌≡◌, ℕ, zero, suc, ◌+◌, ◌-◌, ◌*◌, ◌<◌, ◌≤◌}
use Rattle.std.proofs.Common.{Bool, Option, refl, arith, ap, sym, ◌∙◌, subst, min}
use Rattle.std.proofs.Math.Nat.{mul-le-mul_left}
use Rattle.header_types.specs.SequenceParameterSets.{width_in_ctbs}
use Rattle.plan_types.specs.declared.picture_plan.PicturePlan.{PicturePlan}
use Rattle.picture_layout.specs.Shape.{IsShape}
use Rattle.picture_buffer.specs.declared.place_motion.PlaceMotion.{PlaceMotion}
use Rattle.spec_flights.specs.SpecDecodedPictures.{DecodedUnits}
use Rattle.spec_picture_trees.specs.Places.{unit_places}
use Rattle.spec_picture_trees.specs.Shapes.{picture_shape}
use Rattle.spec_slice_data.specs.Segment.{PictureShape}
use Rattle.row_above_laws.specs.Above.{places_across}
use Rattle.row_borders.specs.Borders.{Bordering, with_above}
use Rattle.row_borders.specs.Next.{HasLine, HasPlaces, LaysPlace}
use Rattle.row_borders.specs.Strips.{StripPlaces, with_places, with_samples}
use Rattle.row_borders.proofs.Laid.{places_grow}

-- one more place
pub place_laid : (picture : PictureShape) (row : ℕ) (old new : StripPlaces) (units : DecodedUnits) (x i : ℕ)
    (motion : Option PlaceMotion) (coded : Bool) → LaysPlace old new (x + i) motion coded
    → motion ≡ units.motions (x + i) (unit_places picture * row - 1)
    → coded ≡ units.filters.coded (x + i) (unit_places picture * row - 1)
    → HasPlaces picture row old units (x + i) → HasPlaces picture row new units (x + (i + 1))
place_laid picture row old new units x i motion coded lays motion_is coded_is has =
    let e : x + i + 1 ≡ x + (i + 1) = omega arith in
    subst (λ end. HasPlaces picture row new units end) e
    (places_grow picture row old new units (x + i) motion coded lays (λ low across. motion_is)
    (λ low across. coded_is) has)

-- nothing but places of the line above changes
pub same_places : (old mid new : Bordering)
    → mid ≡ with_above old (with_places old.above mid.above.motion mid.above.coded)
    → new ≡ with_above mid (with_places mid.above new.above.motion new.above.coded)
    → new ≡ with_above old (with_places old.above new.above.motion new.above.coded)
same_places old mid new first second =
    second ∙ ap (λ (b : Bordering). with_above b (with_places b.above new.above.motion new.above.coded)) first

-- places that the picture has are laid as far as its end
pub places_end : (picture : PictureShape) (row : ℕ) (above : StripPlaces) (units : DecodedUnits) (n x count : ℕ)
    → count ≡ min n (picture.across - n * x) → HasPlaces picture row above units (n * x + count)
    → HasPlaces picture row above units (n * (x + 1))
places_end picture row above units n x count is has =
    let next : n * (x + 1) ≡ n * x + n = grind arith in
    record {
      motion = λ i low less across. has.motion i low (omega (arith, next, is, less, across)) across;
      flags = λ i low less across. has.flags i low (omega (arith, next, is, less, across)) across;
    }

-- and the picture has them
fit : (n x w across : ℕ) → x < w → n * (w - 1) < across → n * x + min n (across - n * x) ≤ across
fit n x w across less needed =
    let most : n * x ≤ n * (w - 1) = mul-le-mul_left n (omega (arith, less)) in
    omega (arith, most, needed)

pub width_is : (p : PicturePlan) → (picture_shape p.sps p.pps).width ≡ width_in_ctbs p.sps
unfolding picture_shape
width_is p = refl

pub places_fit : (p : PicturePlan) (x count : ℕ) → IsShape (picture_shape p.sps p.pps) → x < width_in_ctbs p.sps
    → count ≡ places_across (picture_shape p.sps p.pps) x
    → unit_places (picture_shape p.sps p.pps) * x + count ≤ (picture_shape p.sps p.pps).across
places_fit p x count shape less is =
    let q : PictureShape = picture_shape p.sps p.pps in
    let inside : x < q.width = subst (λ w. x < w) (sym (width_is p)) less in
    subst (λ m. unit_places q * x + m ≤ q.across) (sym is)
    (fit (unit_places q) x q.width q.across inside shape.needed)

-- the lowest row of places
pub lowest_row : (n row rows : ℕ) → 1 ≤ n → rows ≡ n → n * (row + 1) - 1 ≡ n * row + (rows - 1)
lowest_row n row rows some is = let e : n * (row + 1) ≡ n * row + n = grind arith in omega (arith, e, some, is)

-- ---- places, and then lines

pub line_kept : (old mid : Bordering) (picture : PictureShape) (row : ℕ) (units : DecodedUnits) (c end : ℕ)
    → mid ≡ with_above old (with_places old.above mid.above.motion mid.above.coded)
    → HasLine picture row old.above units c end → HasLine picture row mid.above units c end
line_kept old mid picture row units c end same has =
    let above : mid.above ≡ with_places old.above mid.above.motion mid.above.coded =
    ap (λ (b : Bordering). b.above) same in
    subst (λ (s : StripPlaces). HasLine picture row s units c end) (sym above) has

pub places_kept : (mid new : Bordering) (picture : PictureShape) (row : ℕ) (units : DecodedUnits) (end : ℕ)
    → new ≡ with_above mid (with_samples mid.above new.above.samples)
    → HasPlaces picture row mid.above units end → HasPlaces picture row new.above units end
places_kept mid new picture row units end same has =
    let above : new.above ≡ with_samples mid.above new.above.samples = ap (λ (b : Bordering). b.above) same in
    subst (λ (s : StripPlaces). HasPlaces picture row s units end) (sym above)
    (record { motion = has.motion; flags = has.flags })

pub same_lines : (old mid new : Bordering) → mid ≡ with_above old (with_samples old.above mid.above.samples)
    → new ≡ with_above mid (with_samples mid.above new.above.samples)
    → new ≡ with_above old (with_samples old.above new.above.samples)
same_lines old mid new first second =
    second ∙ ap (λ (b : Bordering). with_above b (with_samples b.above new.above.samples)) first

-- nothing but the line above changes
pub same_above : (old mid new : Bordering) (first second : StripPlaces) → mid ≡ with_above old first
    → new ≡ with_above mid second → new ≡ with_above old new.above
same_above old mid new first second before behind =
    behind ∙ (ap (λ (b : Bordering). with_above b second) before
    ∙ ap (with_above old) (sym (ap (λ (b : Bordering). b.above) behind)))

-- the shape of a picture stays that of the border
pub shape_stays : (old new : Bordering) (above : StripPlaces) (picture : PictureShape) → new ≡ with_above old above
    → old.unit.layout ≡ picture → new.unit.layout ≡ picture
shape_stays old new above picture same is = ap (λ (b : Bordering). b.unit.layout) same ∙ is

-- what holds of three components
pub three : (P : ℕ → Type 0) → P 0 → P 1 → P 2 → (c : ℕ) → c < 3 → P c
three P first second third zero less = first
three P first second third (suc zero) less = second
three P first second third (suc (suc zero)) less = third
three P first second third (suc (suc (suc c))) less = absurd (omega (arith, less))
