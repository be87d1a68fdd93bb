-- Edges of chroma at the lines of two places at once.
use Rattle.std.proofs.Common.{◌≡◌, ℕ, ◌+◌, ◌-◌, ◌*◌, ◌/◌, ◌%◌, ◌^◌, ◌<◌, ◌≤◌, Bool, true, false, ◌&&◌, ◌||◌, cond}
use Rattle.std.proofs.Common.{nat_le, nat_lt, refl, ap, sym, subst, ◌∙◌, inl, inr, ◌⊎◌, List, arith}
use Rattle.std.proofs.lemmas.Bool.Decides.{nat_tests}
use Rattle.std.specs.Prelude.{◌==◌}
use Rattle.spec_deblocking.specs.declared.line.Line.{Line}
use Rattle.spec_deblocking.specs.declared.line.Filter.TheVariants.{Nearest}
use Rattle.spec_deblocking.specs.declared.place.Place.{Place}
use Rattle.spec_deblocking.specs.declared.place.Plane.{Plane}
use Rattle.spec_deblocking.specs.declared.place.Plane.TheVariants.{Luma, Chroma}
use Rattle.spec_deblocking.specs.Lines.{across, nth}
use Rattle.spec_deblocking.specs.Places.{side}
use Rattle.spec_deblocking.specs.Thresholds.{tc, edge_qp, mean_qp}
use Rattle.spec_deblocking.specs.Decisions.{edge_filter}
use Rattle.spec_deblocking.specs.Filters.{filtered}
use Rattle.spec_deblocking.specs.Planes.{edge_sample, vertical}
use Rattle.spec_deblocking.proofs.Across.{nth_is}
use Rattle.deblock.specs.declared.pass.Pass.{Pass}
use Rattle.deblock.specs.Pairs.{AreAlong, IsPairly, is_near, is_passed, pairly}
use Rattle.deblock.specs.Passes.{is_beside, is_done, IsPass, IsAlong, IsAcross, IsPartly}
use Rattle.deblock.specs.Windows.{holds, seen}
use Rattle.deblock.proofs.Flat.{inside_holds}
use Rattle.deblock.proofs.Laying.{more, cond_by, cond_intro, cond_no, cond_yes}
use Rattle.deblock.proofs.Lines.{beside_of, place_laid, place_line, written_yes}
use Rattle.deblock.proofs.Edges.{IsOff, beside_inside, edge_alone, edge_in, edge_out, edge_some, edge_within}
use Rattle.deblock.proofs.Edges.{same_either, sample_weak, weak_place}

either_of : (a b : Bool) → (a || b) ≡ true → (a ≡ true) ⊎ (b ≡ true)
either_of true b t = inl refl
either_of false b t = inr t

or_second : (a b : Bool) → b ≡ true → (a || b) ≡ true
or_second true b t = refl
or_second false b t = t

or_first : (a b : Bool) → a ≡ true → (a || b) ≡ true
or_first a b t = rw t refl

-- the lines of two places
pub first_along : (pass : Pass) (s : ℕ) → side pass.plane ≡ 2 → AreAlong pass s → IsAlong pass (2 * s)
first_along pass s two along = record {
  few = omega (arith, along.few);
  low = rw two (omega (arith, along.low));
  high = rw two (omega (arith, along.high));
}

pub second_along : (pass : Pass) (s : ℕ) → side pass.plane ≡ 2 → AreAlong pass s → IsAlong pass (2 * s + 1)
second_along pass s two along = record {
  few = omega (arith, along.few);
  low = rw two (omega (arith, along.low));
  high = rw two (omega (arith, along.high));
}

near_halves : (plane : Plane) (s e i j : ℕ) → side plane ≡ 2
    → is_near s e i j ≡ (is_beside plane (2 * s) e i j || is_beside plane (2 * s + 1) e i j)
near_halves plane s e i j two = rw two (grind (arith, nat_tests))

half_of : (plane : Plane) (s e i j : ℕ) → side plane ≡ 2 → is_near s e i j ≡ true
    → (is_beside plane (2 * s) e i j ≡ true) ⊎ (is_beside plane (2 * s + 1) e i j ≡ true)
half_of plane s e i j two t = either_of _ _ (sym (near_halves plane s e i j two) ∙ t)

near_first : (plane : Plane) (s e i j : ℕ) → side plane ≡ 2 → is_beside plane (2 * s) e i j ≡ true
    → is_near s e i j ≡ true
near_first plane s e i j two t = near_halves plane s e i j two ∙ or_first _ _ t

near_second : (plane : Plane) (s e i j : ℕ) → side plane ≡ 2 → is_beside plane (2 * s + 1) e i j ≡ true
    → is_near s e i j ≡ true
near_second plane s e i j two t = near_halves plane s e i j two ∙ or_second _ _ t

apart : (n s e i j : ℕ) → n ≡ 2
    → ((nat_le (8 * e) (i + 4) && nat_lt (i + 4) (8 * e + 8))
    && (nat_le (n * (2 * s + 1)) j && nat_lt j (n * (2 * s + 1) + n)))
    ≡ true
    → ((nat_le (8 * e) (i + 4) && nat_lt (i + 4) (8 * e + 8)) && (nat_le (n * (2 * s)) j && nat_lt j (n * (2 * s) + n)))
    ≡ false
apart n s e i j two t =
    let u = rw two at t in
    rw two (grind (arith, nat_tests, u))

-- what is read across an edge lies in the samples that are there
pub near_inside : (pass : Pass) (e s k b : ℕ) → IsPass pass → IsAcross pass e → AreAlong pass s → 0 < e →
    8 * e < pass.side → k < 8 → 4 * s ≤ b → b < 4 * s + 4 → holds pass.window (8 * e - 4 + k) b ≡ true
near_inside pass e s k b is across along some inside few first last =
    inside_holds pass.window _ _ (omega (arith, is.low, across.low)) (omega (arith, is.high, is.whole, across.high))
    (omega (arith, is.along_low, along.low)) (omega (arith, is.along_high, along.high))

near_holds : (pass : Pass) (e s i j : ℕ) → IsPass pass → side pass.plane ≡ 2 → IsAcross pass e → AreAlong pass s
    → 0 < e → 8 * e < pass.side → is_near s e i j ≡ true → holds pass.window i j ≡ true
near_holds pass e s i j is two across along some inside t =
    elim (half_of pass.plane s e i j two t) [
      | inl b ↦ beside_inside pass e (2 * s) i j is across (first_along pass s two along) some inside b
      | inr b ↦ beside_inside pass e (2 * s + 1) i j is across (second_along pass s two along) some inside b
    ]

-- an edge, filtered at one place and then at the other
pub two_laid : (pass : Pass) (places : ℕ → ℕ → Place) (s e : ℕ) (now mid before : List ℕ) → IsPass pass
    → side pass.plane ≡ 2 → IsAcross pass e → AreAlong pass s → 0 < e → 8 * e < pass.side
    → ((i j : ℕ) → holds pass.window i j ≡ true → seen pass.window now i j
    ≡ cond (is_beside pass.plane (2 * s + 1) e i j)
    (edge_sample pass.plane pass.bit_depth places (seen pass.window mid) e j (i + 4 - 8 * e))
    (seen pass.window mid i j))
    → ((i j : ℕ) → holds pass.window i j ≡ true → seen pass.window mid i j
    ≡ cond (is_beside pass.plane (2 * s) e i j)
    (edge_sample pass.plane pass.bit_depth places (seen pass.window before) e j (i + 4 - 8 * e))
    (seen pass.window before i j))
    → (i j : ℕ) → holds pass.window i j ≡ true → seen pass.window now i j
    ≡ cond (is_near s e i j)
    (edge_sample pass.plane pass.bit_depth places (seen pass.window before) e j (i + 4 - 8 * e))
    (seen pass.window before i j)
two_laid pass places s e now mid before is two across along some inside new old i j h =
    let same : (k l : ℕ) → is_beside pass.plane (2 * s + 1) e k l ≡ true
    → seen pass.window mid k l ≡ seen pass.window before k l = λ k l t.
    cond_no _ _ _ _
    (old k l (beside_inside pass e (2 * s + 1) k l is across (second_along pass s two along) some inside t))
    (apart (side pass.plane) s e k l two t) in
    more _ _ _ _ _ (seen pass.window before i j) _ _ (new i j h) (old i j h)
    (λ (t : is_beside pass.plane (2 * s + 1) e i j ≡ true).
    let at = beside_of pass.plane (2 * s + 1) e i j t in
    edge_alone pass.plane pass.bit_depth places (seen pass.window before) (seen pass.window mid) (2 * s + 1) e j
    (i + 4 - 8 * e) some at.first at.last same)
    (near_halves pass.plane s e i j two)

-- a place whose edge is filtered in chroma, by this greatest change, and none of whose samples stays
pub record IsOpen (plane : Plane) (depth : ℕ) (places : ℕ → ℕ → Place) (e s t : ℕ) : Type 0 where
  pub strength : (places (8 * e / side plane) s).left_strength ≡ 2
  pub before : (places ((8 * e - 1) / side plane) s).kept ≡ false
  pub behind : (places (8 * e / side plane) s).kept ≡ false
  pub most : t ≡ tc plane depth (places ((8 * e - 1) / side plane) s) (places (8 * e / side plane) s)

nearest_is : (plane : Plane) (depth : ℕ) (p q : Place) (a b : Line) → side plane ≡ 2 → q.left_strength ≡ 2
    → Nearest ≡ edge_filter plane depth p q a b
unfolding edge_filter
nearest_is Luma depth p q a b two h = absurd (omega (arith, two))
nearest_is (Chroma offset) depth p q a b two h = rw h refl

open_one : (plane : Plane) (depth : ℕ) (places : ℕ → ℕ → Place) (f : ℕ → ℕ → ℕ) (e s i j t greatest new : ℕ) → 0 < e
    → side plane ≡ 2 → IsOpen plane depth places e s t → greatest ≡ 2 ^ depth - 1 → is_beside plane s e i j ≡ true
    → new ≡ nth (filtered Nearest greatest t (across f (8 * e - 4) j)) (i - (8 * e - 4))
    → new ≡ edge_sample plane depth places f e j (i + 4 - 8 * e)
open_one plane depth places f e s i j t greatest new some two is eg b n =
    let at = beside_of plane s e i j b in
    let w = written_yes plane s (8 * e - 4) 0 8 i j at.first at.last (omega (arith, at.low)) (omega (arith, at.high)) in
    let from : 0 ≡ cond (places ((8 * e - 1) / side plane) s).kept 4 0 = rw is.before refl in
    let to : 8 ≡ cond (places (8 * e / side plane) s).kept 4 8 = rw is.behind refl in
    cond_yes _ _ _ _
    (place_laid plane depth places f e s i j (places ((8 * e - 1) / side plane) s) (places (8 * e / side plane) s)
    Nearest greatest t 0 8 new some refl refl (nearest_is plane depth _ _ _ _ two is.strength) eg is.most from to
    (rw w n))
    b

near_test : (s e i j : ℕ) → 0 < e
    → ((nat_le (4 * s) j && nat_lt j (4 * s + 4)) && (nat_le (8 * e - 4) i && nat_lt i (8 * e - 4 + 8)))
    ≡ is_near s e i j
near_test s e i j some = grind (arith, nat_tests)

-- an edge that is filtered alike at both places
pub alike_laid : (plane : Plane) (depth : ℕ) (places : ℕ → ℕ → Place) (f : ℕ → ℕ → ℕ) (e s i j t greatest new : ℕ)
    → 0 < e → side plane ≡ 2 → IsOpen plane depth places e (2 * s) t → IsOpen plane depth places e (2 * s + 1) t
    → greatest ≡ 2 ^ depth - 1
    → new
    ≡ cond ((nat_le (4 * s) j && nat_lt j (4 * s + 4)) && (nat_le (8 * e - 4) i && nat_lt i (8 * e - 4 + 8)))
    (nth (filtered Nearest greatest t (across f (8 * e - 4) j)) (i - (8 * e - 4))) (f i j)
    → new ≡ cond (is_near s e i j) (edge_sample plane depth places f e j (i + 4 - 8 * e)) (f i j)
alike_laid plane depth places f e s i j t greatest new some two first second eg n =
    let m = cond_by _ (is_near s e i j) _ _ _ n (near_test s e i j some) in
    cond_intro (is_near s e i j) _ _ _
    (λ (yes : is_near s e i j ≡ true).
    let v = cond_yes _ _ _ _ m yes in
    elim (half_of plane s e i j two yes) [
      | inl b ↦ open_one plane depth places f e (2 * s) i j t greatest new some two first eg b v
      | inr b ↦ open_one plane depth places f e (2 * s + 1) i j t greatest new some two second eg b v
    ])
    (λ (no : is_near s e i j ≡ false). cond_no _ _ _ _ m no)

pub same_tc : (plane : Plane) (depth : ℕ) (p q o r : Place) → o.qp_y ≡ p.qp_y → r.qp_y ≡ q.qp_y
    → q.left_strength ≡ 2 → r.left_strength ≡ 2 → r.slice_tc_offset_div2 ≡ q.slice_tc_offset_div2
    → tc plane depth p q ≡ tc plane depth o r
unfolding tc edge_qp mean_qp
same_tc Luma depth p q o r a b c d e = rw (a, b, c, d, e) refl
same_tc (Chroma offset) depth p q o r a b c d e = rw (a, b, c, d, e) refl

-- one more edge
passed_more : (p : Pass) (s e i j : ℕ) → p.first ≤ e → e < p.end → p.along_first ≤ 4 * s
    → is_passed p s (e + 1) i j ≡ (is_passed p s e i j || is_near s e i j)
passed_more p s e i j low high along = grind (arith, nat_tests)

passed_not : (p : Pass) (s e i j : ℕ) → is_near s e i j ≡ true → is_passed p s e i j ≡ false
passed_not p s e i j t = grind (arith, nat_tests)

not_passed : (p : Pass) (places : ℕ → ℕ → Place) (f : ℕ → ℕ → ℕ) (s e i j old : ℕ) → old ≡ pairly p places f s e i j
    → is_near s e i j ≡ true → old ≡ f i j
not_passed p places f s e i j old o t = let n = passed_not p s e i j t in rw n at o

near_edge : (plane : Plane) (depth width : ℕ) (places : ℕ → ℕ → Place) (f g : ℕ → ℕ → ℕ) (s e i j : ℕ) → 0 < e
    → 8 * e < width → is_beside plane s e i j ≡ true
    → ((k l : ℕ) → is_beside plane s e k l ≡ true → g k l ≡ f k l)
    → edge_sample plane depth places g e j (i + 4 - 8 * e) ≡ vertical plane depth width places f i j
near_edge plane depth width places f g s e i j some inside b same =
    let at = beside_of plane s e i j b in
    edge_alone plane depth places f g s e j (i + 4 - 8 * e) some at.first at.last same
    ∙ edge_in plane depth width places f s e i j at some inside

pub pair_more : (p : Pass) (places : ℕ → ℕ → Place) (f : ℕ → ℕ → ℕ) (s e : ℕ) (now before : List ℕ) →
    IsPass p → side p.plane ≡ 2 → IsAcross p e → AreAlong p s → 0 < e → 8 * e < p.side →
    ((i j : ℕ) → holds p.window i j ≡ true → seen p.window now i j
    ≡ cond (is_near s e i j)
    (edge_sample p.plane p.bit_depth places (seen p.window before) e j (i + 4 - 8 * e)) (seen p.window before i j)) →
    IsPairly p places f s e before → IsPairly p places f s (e + 1) now
pair_more p places f s e now before is two across along some inside new old i j h =
    let same : (k l : ℕ) → is_near s e k l ≡ true → seen p.window before k l ≡ f k l = λ k l t.
    not_passed p places f s e k l _ (old k l (near_holds p e s k l is two across along some inside t)) t in
    more _ _ _ _ _ (f i j) _ _ (new i j h) (old i j h)
    (λ (t : is_near s e i j ≡ true).
    elim (half_of p.plane s e i j two t) [
      | inl b ↦
          near_edge p.plane p.bit_depth p.side places f (seen p.window before) (2 * s) e i j some inside b
          (λ k l u. same k l (near_first p.plane s e k l two u))
      | inr b ↦
          near_edge p.plane p.bit_depth p.side places f (seen p.window before) (2 * s + 1) e i j some inside b
          (λ k l u. same k l (near_second p.plane s e k l two u))
    ])
    (passed_more p s e i j across.low across.high along.low)

-- an edge that is none
pub pair_none : (p : Pass) (places : ℕ → ℕ → Place) (f : ℕ → ℕ → ℕ) (s e : ℕ) (samples : List ℕ) →
    side p.plane ≡ 2 → IsAcross p e → AreAlong p s → (nat_lt 0 e && nat_lt (8 * e) p.side) ≡ false →
    IsPairly p places f s e samples → IsPairly p places f s (e + 1) samples
pair_none p places f s e samples two across along none old i j h =
    let o = old i j h in
    let n : seen p.window samples i j ≡ cond (is_near s e i j) (f i j) (seen p.window samples i j) =
    same_either (is_near s e i j) (f i j) _ (not_passed p places f s e i j _ o) in
    more _ _ _ _ _ (f i j) _ _ n o
    (λ (t : is_near s e i j ≡ true).
    elim (half_of p.plane s e i j two t) [
      | inl b ↦
          edge_out p.plane p.bit_depth p.side places f (2 * s) e i j (beside_of p.plane (2 * s) e i j b) none
      | inr b ↦
          edge_out p.plane p.bit_depth p.side places f (2 * s + 1) e i j (beside_of p.plane (2 * s + 1) e i j b) none
    ])
    (passed_more p s e i j across.low across.high along.low)

-- an edge that no filter changes
weak_at : (plane : Plane) (depth : ℕ) (places : ℕ → ℕ → Place) (g : ℕ → ℕ → ℕ) (s e i j : ℕ) → 0 < e
    → is_beside plane s e i j ≡ true → IsOff plane depth (places (8 * e / side plane) s)
    → g i j ≡ edge_sample plane depth places g e j (i + 4 - 8 * e)
weak_at plane depth places g s e i j some b off =
    let at = beside_of plane s e i j b in
    let here = place_line plane s j at.first at.last in
    let weak : IsOff plane depth (places (8 * e / side plane) (j / side plane)) =
    subst (λ (r : ℕ). IsOff plane depth (places (8 * e / side plane) r)) (sym here) off in
    let k : 8 * e - 4 + (i + 4 - 8 * e) ≡ i = omega (arith, at.low) in
    sym (sample_weak plane depth places g e j (i + 4 - 8 * e) weak
    ∙ nth_is g (8 * e - 4) j (i + 4 - 8 * e) (omega (arith, at.high)) ∙ ap (λ (x : ℕ). g x j) k)

pair_weak : (p : Pass) (places : ℕ → ℕ → Place) (f : ℕ → ℕ → ℕ) (s e : ℕ) (samples : List ℕ) →
    IsPass p → side p.plane ≡ 2 → IsAcross p e → AreAlong p s → 0 < e → 8 * e < p.side →
    IsOff p.plane p.bit_depth (places (8 * e / side p.plane) (2 * s)) →
    IsOff p.plane p.bit_depth (places (8 * e / side p.plane) (2 * s + 1)) →
    IsPairly p places f s e samples → IsPairly p places f s (e + 1) samples
pair_weak p places f s e samples is two across along some inside first second old =
    pair_more p places f s e samples samples is two across along some inside
    (λ i j h. same_either (is_near s e i j) _ _ (λ (t : is_near s e i j ≡ true).
    elim (half_of p.plane s e i j two t) [
      | inl b ↦ weak_at p.plane p.bit_depth places (seen p.window samples) (2 * s) e i j some b first
      | inr b ↦ weak_at p.plane p.bit_depth places (seen p.window samples) (2 * s + 1) e i j some b second
    ]))
    old

still_case : (p : Pass) (places : ℕ → ℕ → Place) (f : ℕ → ℕ → ℕ) (s e : ℕ) (samples : List ℕ) (b : Bool) →
    (nat_lt 0 e && nat_lt (8 * e) p.side) ≡ b → IsPass p → side p.plane ≡ 2 → IsAcross p e → AreAlong p s →
    IsOff p.plane p.bit_depth (places (8 * e / side p.plane) (2 * s)) →
    IsOff p.plane p.bit_depth (places (8 * e / side p.plane) (2 * s + 1)) →
    IsPairly p places f s e samples → IsPairly p places f s (e + 1) samples
still_case p places f s e samples true t is two across along first second old =
    pair_weak p places f s e samples is two across along (edge_some e p.side t) (edge_within e p.side t) first second
    old
still_case p places f s e samples false t is two across along first second old =
    pair_none p places f s e samples two across along t old

pub pair_still : (p : Pass) (places : ℕ → ℕ → Place) (f : ℕ → ℕ → ℕ) (s e : ℕ) (samples : List ℕ) (q r : Place) →
    IsPass p → side p.plane ≡ 2 → IsAcross p e → AreAlong p s →
    q ≡ places (8 * e / side p.plane) (2 * s) → r ≡ places (8 * e / side p.plane) (2 * s + 1) →
    (q.left_strength == 2) ≡ false → (r.left_strength == 2) ≡ false →
    IsPairly p places f s e samples → IsPairly p places f s (e + 1) samples
pair_still p places f s e samples q r is two across along eq er weak other old =
    still_case p places f s e samples _ refl is two across along
    (weak_place p.plane p.bit_depth 2 q _ (sym two) eq (λ four. absurd (omega (arith, four))) (λ same. weak))
    (weak_place p.plane p.bit_depth 2 r _ (sym two) er (λ four. absurd (omega (arith, four))) (λ same. other))
    old

-- from the first lines to the last
pub pair_first : (p : Pass) (places : ℕ → ℕ → Place) (f : ℕ → ℕ → ℕ) (s i j old : ℕ) →
    p.along_first % 4 ≡ 0 → s ≡ p.along_first / 4 → old ≡ f i j → old ≡ pairly p places f s 0 i j
pair_first p places f s i j old whole e o =
    let t : is_passed p s 0 i j ≡ false = grind (arith, nat_tests) in
    rw t o

pub pairs_none : (p : Pass) (places : ℕ → ℕ → Place) (f : ℕ → ℕ → ℕ) (s : ℕ) (samples : List ℕ) →
    IsPairly p places f s 0 samples → IsPairly p places f s p.first samples
pairs_none p places f s samples old i j h =
    let t : is_passed p s p.first i j ≡ is_passed p s 0 i j = grind (arith, nat_tests) in
    let o = old i j h in
    rw t o

pub pairs_all : (p : Pass) (places : ℕ → ℕ → Place) (f : ℕ → ℕ → ℕ) (s e : ℕ) (samples : List ℕ) → e ≡ p.end →
    IsPairly p places f s e samples → IsPairly p places f (s + 1) 0 samples
pairs_all p places f s e samples last old i j h =
    let t : is_passed p (s + 1) 0 i j ≡ is_passed p s e i j = rw last (grind (arith, nat_tests)) in
    let o = old i j h in
    rw t o

pub pairs_part : (p : Pass) (places : ℕ → ℕ → Place) (f : ℕ → ℕ → ℕ) (s : ℕ) (samples : List ℕ) →
    side p.plane ≡ 2 → p.along_end % 4 ≡ 0 → s ≡ p.along_end / 4 →
    IsPairly p places f s 0 samples → IsPartly p places f (p.along_end / side p.plane) 0 samples
pairs_part p places f s samples two whole last old i j h =
    let t : is_done p (p.along_end / side p.plane) 0 i j ≡ is_passed p s 0 i j =
    rw (two, last) (grind (arith, nat_tests)) in
    let o = old i j h in
    rw t o
