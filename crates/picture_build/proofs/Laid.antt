-- The samples of a unit, laid component after component.
use Rattle.std.proofs.Common.{◌≡◌, ℕ, zero, suc, ◌+◌, ◌-◌, ◌*◌, ◌≤◌, ◌==◌, ◌&&◌, nat_le, nat_lt, Bool, true, false}
use Rattle.std.proofs.Common.{refl, sym, ap, subst, ◌∙◌, if◌then◌else◌, arith}
use Rattle.std.specs.Option.{unwrap_or}
use Rattle.std.proofs.Math.Path.{fun_ext}
use Rattle.std.proofs.lemmas.Bool.Decides.{nat_tests}
use Rattle.spec_slice_data.specs.Segment.{PictureShape}
use Rattle.spec_reconstruction.specs.Known.{Known}
use Rattle.spec_picture_build.specs.Border.{Samples, has_sample, height_of, unit_column, unit_line, unit_side}
use Rattle.spec_picture_build.specs.Border.{width_of}
use Rattle.picture_trees.specs.SpecPictureTrees.{unit_at}
use Rattle.spec_picture_build.specs.Built.{is_of_unit, unit_laid}
use Rattle.unit_build.specs.declared.part.Part.{Part}
use Rattle.unit_build.specs.Parts.{IsPart, IsRoom, is_in_part}
use Rattle.unit_build.proofs.Covering.{whole_part}
use Rattle.unit_build.proofs.Tests.{other}
use Rattle.unit_build.proofs.Units.{of_unit}

without : (r s t : Bool) → r ≡ true → ((r && s) && t) ≡ (s && t)
without true s t e = refl
without false s t e = absurd cc

with_component : (c : ℕ) (t : Bool) → ((c == c) && t) ≡ t
with_component c true = grind (arith, nat_tests)
with_component c false = grind (arith, nat_tests)

-- the samples of a unit are those of its part
part_is : (picture : PictureShape) (a : ℕ) (part : Part) → IsPart picture a part → IsRoom part
    → width_of picture part.c ≤ unit_side picture part.c * picture.width → (x y : ℕ)
    → is_of_unit picture a part.c x y ≡ is_in_part part part.c x y
unfolding has_sample unit_at
part_is picture a part e room covered x y =
    let some : 1 ≤ unit_side picture part.c = subst (λ n. 1 ≤ n) e.side room.some in
    without (nat_lt part.c 3) (nat_lt x (width_of picture part.c) && nat_lt y (height_of picture part.c))
    (unit_at picture (unit_side picture part.c) x y == a) (let lt = room.component in grind (arith, nat_tests))
    ∙ of_unit (unit_side picture part.c) picture.width (width_of picture part.c)
    (height_of picture part.c) a x y some covered
    ∙ sym (with_component part.c _)
    ∙ ap (λ (p : Part). is_in_part p part.c x y) (sym (whole_part picture a part e))

-- a part of a unit is laid
pub laid_part : (picture : PictureShape) (a : ℕ) (part : Part) (known : Known) (before after : Samples)
    → IsPart picture a part → IsRoom part → width_of picture part.c ≤ unit_side picture part.c * picture.width
    → ((i j k : ℕ)
    → after i j k
    ≡ (if is_in_part part i j k then unwrap_or (known i (j - part.x + 1) (k - part.y + 1)) 0 else before i j k))
    → (j k : ℕ) → after part.c j k ≡ unit_laid picture a known before part.c j k
unfolding unit_laid
laid_part picture a part known before after e room covered told j k =
    let value : ℕ → ℕ → Bool → ℕ =
    λ x y t. if t then unwrap_or (known part.c (j - x + 1) (k - y + 1)) 0 else before part.c j k in
    told part.c j k
    ∙ ap (value part.x part.y) (sym (part_is picture a part e room covered j k))
    ∙ ap (λ x. value x part.y (is_of_unit picture a part.c j k)) e.x
    ∙ ap (λ y. value (unit_column picture part.c a) y (is_of_unit picture a part.c j k)) e.y

pub other_part : (part : Part) (known : Known) (before after : Samples)
    → ((i j k : ℕ)
    → after i j k
    ≡ (if is_in_part part i j k then unwrap_or (known i (j - part.x + 1) (k - part.y + 1)) 0 else before i j k))
    → (i j k : ℕ) → (i == part.c) ≡ false → after i j k ≡ before i j k
other_part part known before after told i j k apart =
    told i j k
    ∙ ap (λ (t : Bool). if t
    && ((nat_le part.x j && (nat_lt j (part.x + part.side) && nat_lt j part.width))
    && (nat_le part.y k && (nat_lt k (part.y + part.side) && nat_lt k part.height)))
    then unwrap_or (known i (j - part.x + 1) (k - part.y + 1)) 0
    else before i j k)
    apart

-- a component is laid, and the others stay
pub laid_component : (picture : PictureShape) (a : ℕ) (part : Part) (known : Known) (before after : Samples)
    → IsPart picture a part → IsRoom part → width_of picture part.c ≤ unit_side picture part.c * picture.width
    → ((i j k : ℕ)
    → after i j k
    ≡ (if is_in_part part i j k then unwrap_or (known i (j - part.x + 1) (k - part.y + 1)) 0 else before i j k))
    → (c i j k : ℕ) → part.c ≡ c
    → after i j k ≡ (if i == c then unit_laid picture a known before i j k else before i j k)
laid_component picture a part known before after e room covered told c i j k is = by (i == c) refl
  where
    by : (t : Bool) → (i == c) ≡ t → after i j k ≡ (if t then unit_laid picture a known before i j k else before i j k)
    by true same =
        let at : part.c ≡ i = grind (arith, nat_tests) in
        subst (λ d. after d j k ≡ unit_laid picture a known before d j k) at
        (laid_part picture a part known before after e room covered told j k)
    by false apart = other_part part known before after told i j k (ap (λ d. i == d) is ∙ apart)

-- nothing is laid of what is no component
pub laid_none : (picture : PictureShape) (a : ℕ) (known : Known) (samples : Samples) (c : ℕ) → 3 ≤ c
    → (j k : ℕ) → unit_laid picture a known samples c j k ≡ samples c j k
unfolding unit_laid has_sample
laid_none picture a known samples c le j k = grind (arith, nat_tests)

laid_same : (picture : PictureShape) (a : ℕ) (known : Known) (s t : Samples) (c j k : ℕ) → s c j k ≡ t c j k
    → unit_laid picture a known s c j k ≡ unit_laid picture a known t c j k
unfolding unit_laid
laid_same picture a known s t c j k e =
    ap (λ v. if is_of_unit picture a c j k
    then unwrap_or (known c (j - unit_column picture c a + 1) (k - unit_line picture c a + 1)) 0
    else v)
    e

-- the components one after the other
pub laid_all : (picture : PictureShape) (a : ℕ) (known : Known) (s0 s1 s2 s3 : Samples)
    → ((i j k : ℕ) → s1 i j k ≡ (if i == 0 then unit_laid picture a known s0 i j k else s0 i j k))
    → ((i j k : ℕ) → s2 i j k ≡ (if i == 1 then unit_laid picture a known s1 i j k else s1 i j k))
    → ((i j k : ℕ) → s3 i j k ≡ (if i == 2 then unit_laid picture a known s2 i j k else s2 i j k))
    → s3 ≡ unit_laid picture a known s0
laid_all picture a known s0 s1 s2 s3 e1 e2 e3 = fun_ext (λ i. fun_ext (λ j. fun_ext (λ k. at i j k)))
  where
    at : (i j k : ℕ) → s3 i j k ≡ unit_laid picture a known s0 i j k
    at zero j k = e3 0 j k ∙ e2 0 j k ∙ e1 0 j k
    at (suc zero) j k = e3 1 j k ∙ e2 1 j k ∙ laid_same picture a known s1 s0 1 j k (e1 1 j k)
    at (suc (suc zero)) j k = e3 2 j k ∙ laid_same picture a known s2 s0 2 j k (e2 2 j k ∙ e1 2 j k)
    at (suc (suc (suc i))) j k =
        let c : ℕ = suc (suc (suc i)) in
        other c 2 _ _ _ (omega arith) (e3 c j k) ∙ other c 1 _ _ _ (omega arith) (e2 c j k)
        ∙ other c 0 _ _ _ (omega arith) (e1 c j k) ∙ sym (laid_none picture a known s0 c (omega arith) j k)
