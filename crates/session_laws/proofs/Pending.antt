-- A planner's flights end before more pictures wait than a flight has at most.
use Rattle.std.proofs.Common.{◌≡◌, ℕ, suc, ◌-◌, ◌<◌, ◌≤◌, Bool, true, false, List, [], ◌∷◌, length, nat_le}
use Rattle.std.proofs.Common.{if◌then◌else◌, Result, Ok, Err, refl, ap, arith}
use Rattle.std.proofs.lemmas.Bool.{leb-false}
use Rattle.hv_base.specs.declared.refusal.Stop.{Stop}
use Rattle.plan_types.specs.declared.between.Between.{Between}
use Rattle.plan_types.specs.declared.picture_plan.PicturePlan.{PicturePlan}
use Rattle.spec_nal_units.specs.Judged.{Told}
use Rattle.spec_picture_plan.specs.Steps.{Stepped}
use Rattle.picture_plan.specs.Flights.{Gathered, cut, cut_at_stop, joined_with, waiting, with_picture, with_pictures}
use Rattle.picture_plan.specs.Plans.{Plans, after_step, behind_unit, going_on, stepped}
use Rattle.picture_plan.proofs.Pictures.{cut-none}

none_left : (g : Gathered) → length (cut g).pending ≡ 0
none_left g = ap (λ (ps : List PicturePlan). length ps) (cut-none g)

full_few : (ahead : ℕ) (g : Gathered) (full : Bool) → nat_le ahead (length g.pending) ≡ full → 1 ≤ ahead
    → length (if full then cut g else g).pending < ahead
full_few ahead g true is some = let none = none_left g in omega (arith, none, some)
full_few ahead g false is some = leb-false ahead (length g.pending) is

picture_few : (ahead : ℕ) (g : Gathered) (p : PicturePlan) → 1 ≤ ahead
    → length (with_picture ahead g p).pending < ahead
unfolding with_picture
picture_few ahead g p some =
    full_few ahead (joined_with g p) (nat_le ahead (length (joined_with g p).pending)) refl some

-- no more than so many wait, where a flight has at most one more
pictures_few : (ahead most : ℕ) (g : Gathered) (closed : List PicturePlan) → 1 ≤ ahead → ahead ≤ suc most
    → length g.pending ≤ most → length (with_pictures ahead g closed).pending ≤ most
pictures_few ahead most g [] some one few = few
pictures_few ahead most g (p ∷ closed) some one few =
    let less = picture_few ahead g p some in
    pictures_few ahead most (with_picture ahead g p) closed some one (omega (arith, less, one))

stop_few : (most : ℕ) (next : Result Between Stop) (g : Gathered) → length g.pending ≤ most
    → length (cut_at_stop next g).pending ≤ most
stop_few most (Ok s) g few = few
stop_few most (Err e) g few = let none = none_left g in omega (arith, none)

next_few : (p : Plans) (most : ℕ) (told : List Told) (next : Result Between Stop) → 1 ≤ p.ahead → p.ahead ≤ suc most
    → length p.pending ≤ most
    → length (going_on p next (λ s. after_step p (stepped s told))).left.pending ≤ most
next_few p most told (Err e) some one few = few
next_few p most told (Ok s) some one few =
    let t : Stepped = stepped s told in
    stop_few most t.next (with_pictures p.ahead (waiting p.pending) t.closed)
    (pictures_few p.ahead most (waiting p.pending) t.closed some one few)

unit_few : (p : Plans) (most : ℕ) (told : List Told) → 1 ≤ p.ahead → p.ahead ≤ suc most → length p.pending ≤ most
    → length (behind_unit p told).left.pending ≤ most
unfolding behind_unit
unit_few p most told some one few = next_few p most told p.next some one few

pub few_wait : (p : Plans) (told : List Told) → 1 ≤ p.ahead → length p.pending ≤ p.ahead
    → length (behind_unit p told).left.pending ≤ p.ahead
few_wait p told some few = unit_few p p.ahead told some (omega arith) few

pub fewer_wait : (p : Plans) (told : List Told) → length p.pending < p.ahead
    → length (behind_unit p told).left.pending < p.ahead
fewer_wait p told few =
    let most = unit_few p (p.ahead - 1) told (omega (arith, few)) (omega (arith, few)) (omega (arith, few)) in
    omega (arith, most, few)

next_ahead : (p : Plans) (told : List Told) (next : Result Between Stop)
    → (going_on p next (λ s. after_step p (stepped s told))).left.ahead ≡ p.ahead
next_ahead p told (Err e) = refl
next_ahead p told (Ok s) = refl

pub same_ahead : (p : Plans) (told : List Told) → (behind_unit p told).left.ahead ≡ p.ahead
unfolding behind_unit
same_ahead p told = next_ahead p told p.next
