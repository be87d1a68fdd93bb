-- The places beside a unit, one by one.
use Rattle.std.proofs.Common.{◌≡◌, ℕ, ◌<◌, Bool, true, false, List, length, get_or, refl, sym, ◌∙◌}
use Rattle.std.proofs.Common.{if◌then◌else◌, map, nat_lt, arith}
use Rattle.std.specs.List.{range_with_len}
use Rattle.std.proofs.lemmas.Bool.Decides.{nat_tests}
use Rattle.std.proofs.lemmas.List.FromFn.{fill_by_all, get_or-map-range_with_len, length-map-range_with_len}
use Rattle.ctu_records.specs.declared.side.Side.{Side}
use Rattle.ctu_records.specs.Tree.{no_side, side}

taken : (b : Bool) (x y : Side) → b ≡ true → (if b then x else y) ≡ x
taken true x y e = refl
taken false x y e = absurd cc

-- sixteen places that are all known
pub places_side : (places : List Side) (f : ℕ → Side) → length places ≡ 16
    → ((k : ℕ) → k < 16 → get_or places k no_side ≡ f k) → places ≡ side 16 f
unfolding side
places_side places f full each =
    fill_by_all (λ k. if nat_lt k 16 then f k else no_side) places 16 no_side full
    (λ k h. each k h ∙ sym (taken (nat_lt k 16) (f k) no_side (grind (arith, nat_tests))))

-- a place of a side
pub at_side : (f : ℕ → Side) (k : ℕ) → k < 16 → get_or (side 16 f) k no_side ≡ f k
unfolding side
at_side f k h =
    get_or-map-range_with_len (λ i. if nat_lt i 16 then f i else no_side) 0 16 k k no_side h (omega arith)
    ∙ taken (nat_lt k 16) (f k) no_side (grind (arith, nat_tests))

where_same : (b : Bool) (x y z : Side) → (b ≡ true → x ≡ y) → (if b then x else z) ≡ (if b then y else z)
where_same true x y z same = same refl
where_same false x y z same = refl

-- sides whose sixteen places are alike, as far as there are so many
pub side_near : (count : ℕ) (f g : ℕ → Side) → ((k : ℕ) → k < 16 → k < count → f k ≡ g k) → side count f ≡ side count g
unfolding side
side_near count f g same =
    let of : (ℕ → Side) → ℕ → Side = λ h k. if nat_lt k count then h k else no_side in
    fill_by_all (of g) (map (of f) (range_with_len 0 16)) 16 no_side (length-map-range_with_len (of f) 0 16)
    (λ k h. get_or-map-range_with_len (of f) 0 16 k k no_side h (omega arith)
    ∙ where_same (nat_lt k count) (f k) (g k) no_side (λ e. same k h (grind (arith, nat_tests))))
