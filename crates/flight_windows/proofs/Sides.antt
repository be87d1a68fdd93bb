-- Sides of components, and places in a row of coding tree blocks.
use Rattle.std.proofs.Common.{◌≡◌, ℕ, ◌+◌, ◌*◌, ◌/◌, ◌%◌, ◌<◌, ◌≤◌, ◌==◌, Bool, true, false}
use Rattle.std.proofs.Common.{if◌then◌else◌, sym, subst, arith}
use Rattle.std.proofs.lemmas.Bool.{and_from, lt-ltb}
use Rattle.header_types.specs.declared.sps.SpsFields.{SpsFields}
use Rattle.header_types.specs.declared.pps.PpsFields.{PpsFields}
use Rattle.spec_slice_data.specs.Residual.{samples_of_place}
use Rattle.spec_picture_build.specs.SpecPictureTrees.{picture_shape}
use Rattle.spec_picture_build.specs.Border.{has_sample}
use Rattle.sample_words.specs.Contents.{component_side}

side_by : (t : Bool) (n : ℕ) → n % 8 ≡ 0 → (if t then 4 else 2) * (n / 4) ≡ (if t then n else n / 2)
side_by true n whole = omega (arith, whole)
side_by false n whole = omega (arith, whole)

-- a side in samples is that in places
side_is : (c n : ℕ) → n % 8 ≡ 0 → samples_of_place c * (n / 4) ≡ component_side c n
side_is c n whole = side_by (c == 0) n whole

some_by : (t : Bool) (n : ℕ) → 8 ≤ n → 0 < (if t then n else n / 2)
some_by true n some = omega (arith, some)
some_by false n some = omega (arith, some)

pub some_side : (c n : ℕ) → 8 ≤ n → 0 < component_side c n
some_side c n some = some_by (c == 0) n some

few_by : (t : Bool) (n m : ℕ) → n ≤ m → (if t then n else n / 2) ≤ m
few_by true n m few = omega (arith, few)
few_by false n m few = omega (arith, few)

pub few_side : (c n m : ℕ) → n ≤ m → component_side c n ≤ m
few_side c n m few = few_by (c == 0) n m few

none_by : (t : Bool) (x : ℕ) → (if t then 0 else 0 / 2) + x ≡ x
none_by true x = omega arith
none_by false x = omega arith

-- a whole row begins at its first column
pub from_first : (c x : ℕ) → component_side c 0 + x ≡ x
from_first c x = none_by (c == 0) x

-- a picture has the samples inside its sides
pub has_it : (sps : SpsFields) (pps : PpsFields) (c x y : ℕ) → sps.format.pic_width_in_luma_samples % 8 ≡ 0
    → sps.format.pic_height_in_luma_samples % 8 ≡ 0 → c < 3
    → x < component_side c sps.format.pic_width_in_luma_samples
    → y < component_side c sps.format.pic_height_in_luma_samples
    → has_sample (picture_shape sps pps) c x y ≡ true
unfolding has_sample picture_shape
has_it sps pps c x y wide high three hx hy =
    let w : ℕ = sps.format.pic_width_in_luma_samples in
    let h : ℕ = sps.format.pic_height_in_luma_samples in
    let across : x < samples_of_place c * (w / 4) = subst (λ n. x < n) (sym (side_is c w wide)) hx in
    let down : y < samples_of_place c * (h / 4) = subst (λ n. y < n) (sym (side_is c h high)) hy in
    and_from _ _ (lt-ltb c 3 three) (and_from _ _ (lt-ltb _ _ across) (lt-ltb _ _ down))
