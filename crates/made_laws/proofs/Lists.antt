-- The units and the plans of a made stream, one picture after the other.
use Rattle.std.proofs.Common.{◌≡◌, ℕ, zero, suc, ◌+◌, ◌%◌, List, [], ◌∷◌, ◌++◌, map, refl, ap, ◌∙◌, arith}
use Rattle.std.specs.List.{flat_map, range_with_len}
use Rattle.plan_types.specs.declared.picture_plan.PicturePlan.{PicturePlan}
use Rattle.spec_nal_units.specs.Judged.{NalUnit}
use Rattle.spec_made.specs.Stream.{Making, picture_made, start_of}
use Rattle.made_laws.specs.Streams.{hash_numbered, made_plans, made_units, making_at, plan_at, plan_of, set_units}
use Rattle.made_laws.specs.Streams.{slice_numbered, units_of}

-- the units of so many pictures from one on, before which this stands
unfoldable pub units_from : ℕ → ℕ → Making → List NalUnit
units_from j zero m = []
units_from j (suc n) m =
    slice_numbered j (j % 8) m ∷ hash_numbered j (j % 8) m ∷ units_from (j + 1) n (picture_made (j % 8) m).1

-- their plans
unfoldable pub plans_from : ℕ → ℕ → Making → List PicturePlan
plans_from j zero m = []
plans_from j (suc n) m =
    plan_at j (j % 8) m ∷ plans_from (j + 1) n (picture_made (j % 8) m).1

-- those of the whole stream
abbrev pub listed_units : ℕ → ℕ → List NalUnit
listed_units seed pictures = set_units ++ units_from 0 pictures (start_of seed)

abbrev pub listed_plans : ℕ → ℕ → List PicturePlan
listed_plans seed pictures = plans_from 0 pictures (start_of seed)

-- what stands before the next picture
next_making : (seed j : ℕ) → (picture_made (j % 8) (making_at seed j)).1 ≡ making_at seed (j + 1)
unfolding making_at
next_making seed j = let e : suc j ≡ j + 1 = omega arith in ap (making_at seed) e

units_placed : (n j seed : ℕ) → units_from j n (making_at seed j) ≡ flat_map (units_of seed) (range_with_len j n)
unfolding units_from
units_placed zero j seed = refl
units_placed (suc n) j seed =
    ap (λ m. units_of seed j ++ units_from (j + 1) n m) (next_making seed j)
    ∙ ap (λ l. units_of seed j ++ l) (units_placed n (j + 1) seed)

plans_placed : (n j seed : ℕ) → plans_from j n (making_at seed j) ≡ map (plan_of seed) (range_with_len j n)
unfolding plans_from
plans_placed zero j seed = refl
plans_placed (suc n) j seed =
    ap (λ m. plan_of seed j ∷ plans_from (j + 1) n m) (next_making seed j)
    ∙ ap (λ l. plan_of seed j ∷ l) (plans_placed n (j + 1) seed)

pub units_are : (seed n : ℕ) → listed_units seed n ≡ made_units seed n
unfolding making_at
units_are seed n = ap (λ l. set_units ++ l) (units_placed n 0 seed)

pub plans_are : (seed n : ℕ) → listed_plans seed n ≡ made_plans seed n
unfolding making_at
plans_are seed n = plans_placed n 0 seed
