-- The lines of a place, filtered in part.
use Rattle.std.proofs.Common.{◌≡◌, ℕ, ◌+◌, ◌-◌, ◌*◌, ◌/◌, ◌^◌, ◌<◌, ◌≤◌, Bool, true, false, cond}
use Rattle.std.proofs.Common.{nat_lt, refl, ap, sym, ◌∙◌, inl, inr, arith, if◌then◌else◌}
use Rattle.std.proofs.lemmas.Bool.{cases_lt}
use Rattle.std.proofs.lemmas.Bool.Decides.{nat_tests}
use Rattle.spec_deblocking.specs.declared.line.Line.{Line}
use Rattle.spec_deblocking.specs.declared.line.Filter.{Filter}
use Rattle.spec_deblocking.specs.declared.place.Place.{Place}
use Rattle.spec_deblocking.specs.declared.place.Plane.{Plane}
use Rattle.spec_deblocking.specs.declared.place.Plane.TheVariants.{Luma, Chroma}
use Rattle.spec_deblocking.specs.Lines.{across, nth}
use Rattle.spec_deblocking.specs.Places.{side, place_before, place_behind}
use Rattle.spec_deblocking.specs.Thresholds.{tc}
use Rattle.spec_deblocking.specs.Decisions.{edge_filter}
use Rattle.spec_deblocking.specs.Filters.{filtered}
use Rattle.spec_deblocking.specs.Planes.{filtered_line, edge_sample}
use Rattle.spec_deblocking.proofs.Across.{nth_is}
use Rattle.deblock.specs.Passes.{is_beside, is_written}
use Rattle.deblock.proofs.Laying.{cond_intro, cond_yes, cond_no}

-- the place along an edge that a line is in
pub place_line : (plane : Plane) (s j : ℕ) → side plane * s ≤ j → j < side plane * s + side plane → j / side plane ≡ s
place_line Luma s j h l = omega arith
place_line (Chroma offset) s j h l = omega arith

pub record IsBeside (plane : Plane) (s e i j : ℕ) : Type 0 where
  pub low : 8 * e ≤ i + 4
  pub high : i + 4 < 8 * e + 8
  pub first : side plane * s ≤ j
  pub last : j < side plane * s + side plane

pub beside_of : (plane : Plane) (s e i j : ℕ) → is_beside plane s e i j ≡ true → IsBeside plane s e i j
beside_of plane s e i j t = record {
  low = grind (arith, nat_tests);
  high = grind (arith, nat_tests);
  first = grind (arith, nat_tests);
  last = grind (arith, nat_tests);
}

pub written_yes : (plane : Plane) (s a from to i j : ℕ) → side plane * s ≤ j → j < side plane * s + side plane
    → a + from ≤ i → i < a + to → is_written plane s a from to i j ≡ true
written_yes plane s a from to i j p q r t = grind (arith, nat_tests)

written_early : (plane : Plane) (s a from to i j : ℕ) → i < a + from → is_written plane s a from to i j ≡ false
written_early plane s a from to i j p = grind (arith, nat_tests)

written_late : (plane : Plane) (s a from to i j : ℕ) → a + to ≤ i → is_written plane s a from to i j ≡ false
written_late plane s a from to i j p = grind (arith, nat_tests)

written_apart : (plane : Plane) (s e from to i j : ℕ) → 0 < e → to ≤ 8 → is_beside plane s e i j ≡ false
    → is_written plane s (8 * e - 4) from to i j ≡ false
written_apart plane s e from to i j p q t = grind (arith, nat_tests)

first_few : (b : Bool) (from : ℕ) → from ≡ cond b 4 0 → from ≤ 4
first_few true from e = omega (arith, e)
first_few false from e = omega (arith, e)

first_is : (kept b : Bool) (from : ℕ) → from ≡ cond kept 4 0 → kept ≡ b → from ≡ cond b 4 0
first_is kept b from e k = rw k at e

end_some : (b : Bool) (to : ℕ) → to ≡ cond b 4 8 → 4 ≤ to
end_some true to e = omega (arith, e)
end_some false to e = omega (arith, e)

end_is : (kept b : Bool) (to : ℕ) → to ≡ cond kept 4 8 → kept ≡ b → to ≡ cond b 4 8
end_is kept b to e k = rw k at e

kept_sample : (plane : Plane) (depth : ℕ) (places : ℕ → ℕ → Place) (f : ℕ → ℕ → ℕ) (e j k : ℕ) (b : Bool) →
    nat_lt k 4 ≡ b →
    (if b then (place_before plane places e j).kept else (place_behind plane places e j).kept) ≡ true → k < 8 →
    edge_sample plane depth places f e j k ≡ f (8 * e - 4 + k) j
unfolding edge_sample
kept_sample plane depth places f e j k b t kept few = rw (t, kept) (nth_is f (8 * e - 4) j k few)

open_sample : (plane : Plane) (depth : ℕ) (places : ℕ → ℕ → Place) (f : ℕ → ℕ → ℕ) (e j k : ℕ) (b : Bool) →
    nat_lt k 4 ≡ b →
    (if b then (place_before plane places e j).kept else (place_behind plane places e j).kept) ≡ false →
    edge_sample plane depth places f e j k ≡ nth (filtered_line plane depth places f e j) k
unfolding edge_sample
open_sample plane depth places f e j k b t kept = rw (t, kept) refl

line_of : (plane : Plane) (depth : ℕ) (places : ℕ → ℕ → Place) (f : ℕ → ℕ → ℕ) (e s j : ℕ) (p q : Place)
    (filter : Filter) (greatest t : ℕ) →
    j / side plane ≡ s →
    p ≡ place_before plane places e j → q ≡ place_behind plane places e j →
    filter
    ≡ edge_filter plane depth p q (across f (8 * e - 4) (side plane * s))
    (across f (8 * e - 4) (side plane * s + (side plane - 1))) →
    greatest ≡ 2 ^ depth - 1 → t ≡ tc plane depth p q →
    filtered_line plane depth places f e j ≡ filtered filter greatest t (across f (8 * e - 4) j)
unfolding filtered_line
line_of plane depth places f e s j p q filter greatest t here ep eq ef eg et = rw (ef, eg, et, ep, eq, ← here) refl

before_laid : (kept : Bool) (plane : Plane) (depth : ℕ) (places : ℕ → ℕ → Place) (f : ℕ → ℕ → ℕ) (e s i j : ℕ)
    (p : Place) (from to : ℕ) (line : Line) (new old : ℕ) →
    p.kept ≡ kept → 0 < e → IsBeside plane s e i j → i < 8 * e → p ≡ place_before plane places e j →
    line ≡ filtered_line plane depth places f e j → from ≡ cond p.kept 4 0 → 4 ≤ to →
    old ≡ f i j →
    new ≡ cond (is_written plane s (8 * e - 4) from to i j) (nth line (i - (8 * e - 4))) old →
    new ≡ edge_sample plane depth places f e j (i + 4 - 8 * e)
before_laid true plane depth places f e s i j p from to line new old kp some at lt ep el efrom eto eo n =
    let four : from ≡ 4 = first_is p.kept true from efrom kp in
    let k : 8 * e - 4 + (i + 4 - 8 * e) ≡ i = omega (arith, at.low) in
    let first : nat_lt (i + 4 - 8 * e) 4 ≡ true = grind (arith, nat_tests) in
    let few : i + 4 - 8 * e < 8 = omega (arith, at.high) in
    let kb : (place_before plane places e j).kept ≡ true = rw ep at kp in
    cond_no _ _ _ _ n (written_early plane s (8 * e - 4) from to i j (omega (arith, four, at.low))) ∙ eo
    ∙ sym (kept_sample plane depth places f e j (i + 4 - 8 * e) true first kb few ∙ ap (λ (x : ℕ). f x j) k)
before_laid false plane depth places f e s i j p from to line new old kp some at lt ep el efrom eto eo n =
    let none : from ≡ 0 = first_is p.kept false from efrom kp in
    let k : i - (8 * e - 4) ≡ i + 4 - 8 * e = omega (arith, at.low) in
    let first : nat_lt (i + 4 - 8 * e) 4 ≡ true = grind (arith, nat_tests) in
    let kb : (place_before plane places e j).kept ≡ false = rw ep at kp in
    cond_yes _ _ _ _ n
    (written_yes plane s (8 * e - 4) from to i j at.first at.last (omega (arith, none, at.low))
    (omega (arith, eto, at.low)))
    ∙ ap (λ (x : ℕ). nth line x) k ∙ ap (λ (l : Line). nth l (i + 4 - 8 * e)) el
    ∙ sym (open_sample plane depth places f e j (i + 4 - 8 * e) true first kb)

behind_laid : (kept : Bool) (plane : Plane) (depth : ℕ) (places : ℕ → ℕ → Place) (f : ℕ → ℕ → ℕ) (e s i j : ℕ)
    (q : Place) (from to : ℕ) (line : Line) (new old : ℕ) →
    q.kept ≡ kept → 0 < e → IsBeside plane s e i j → 8 * e ≤ i → q ≡ place_behind plane places e j →
    line ≡ filtered_line plane depth places f e j → from ≤ 4 → to ≡ cond q.kept 4 8 →
    old ≡ f i j →
    new ≡ cond (is_written plane s (8 * e - 4) from to i j) (nth line (i - (8 * e - 4))) old →
    new ≡ edge_sample plane depth places f e j (i + 4 - 8 * e)
behind_laid true plane depth places f e s i j q from to line new old kq some at le eq el efrom eto eo n =
    let four : to ≡ 4 = end_is q.kept true to eto kq in
    let k : 8 * e - 4 + (i + 4 - 8 * e) ≡ i = omega (arith, at.low) in
    let first : nat_lt (i + 4 - 8 * e) 4 ≡ false = grind (arith, nat_tests) in
    let few : i + 4 - 8 * e < 8 = omega (arith, at.high) in
    let kb : (place_behind plane places e j).kept ≡ true = rw eq at kq in
    cond_no _ _ _ _ n (written_late plane s (8 * e - 4) from to i j (omega (arith, four))) ∙ eo
    ∙ sym (kept_sample plane depth places f e j (i + 4 - 8 * e) false first kb few ∙ ap (λ (x : ℕ). f x j) k)
behind_laid false plane depth places f e s i j q from to line new old kq some at le eq el efrom eto eo n =
    let eight : to ≡ 8 = end_is q.kept false to eto kq in
    let k : i - (8 * e - 4) ≡ i + 4 - 8 * e = omega (arith, at.low) in
    let first : nat_lt (i + 4 - 8 * e) 4 ≡ false = grind (arith, nat_tests) in
    let kb : (place_behind plane places e j).kept ≡ false = rw eq at kq in
    cond_yes _ _ _ _ n
    (written_yes plane s (8 * e - 4) from to i j at.first at.last (omega (arith, efrom))
    (omega (arith, eight, at.high)))
    ∙ ap (λ (x : ℕ). nth line x) k ∙ ap (λ (l : Line). nth l (i + 4 - 8 * e)) el
    ∙ sym (open_sample plane depth places f e j (i + 4 - 8 * e) false first kb)

end_few : (b : Bool) (to : ℕ) → to ≡ cond b 4 8 → to ≤ 8
end_few true to e = omega (arith, e)
end_few false to e = omega (arith, e)

-- the lines of a place across an edge, each side laid where it isn't kept
pub place_laid : (plane : Plane) (depth : ℕ) (places : ℕ → ℕ → Place) (f : ℕ → ℕ → ℕ) (e s i j : ℕ) (p q : Place)
    (filter : Filter) (greatest t from to new : ℕ) →
    0 < e →
    p ≡ places ((8 * e - 1) / side plane) s → q ≡ places (8 * e / side plane) s →
    filter
    ≡ edge_filter plane depth p q (across f (8 * e - 4) (side plane * s))
    (across f (8 * e - 4) (side plane * s + (side plane - 1))) →
    greatest ≡ 2 ^ depth - 1 → t ≡ tc plane depth p q →
    from ≡ cond p.kept 4 0 → to ≡ cond q.kept 4 8 →
    new
    ≡ cond (is_written plane s (8 * e - 4) from to i j)
    (nth (filtered filter greatest t (across f (8 * e - 4) j)) (i - (8 * e - 4))) (f i j) →
    new ≡ cond (is_beside plane s e i j) (edge_sample plane depth places f e j (i + 4 - 8 * e)) (f i j)
place_laid plane depth places f e s i j p q filter greatest t from to new some ep eq ef eg et efrom eto n =
    cond_intro (is_beside plane s e i j) _ _ _
    (λ (b : is_beside plane s e i j ≡ true).
    let at = beside_of plane s e i j b in
    let here = place_line plane s j at.first at.last in
    let pb : p ≡ place_before plane places e j = rw here ep in
    let qb : q ≡ place_behind plane places e j = rw here eq in
    let line = sym (line_of plane depth places f e s j p q filter greatest t here pb qb ef eg et) in
    elim (cases_lt i (8 * e)) [
      | inl lt ↦
          before_laid p.kept plane depth places f e s i j p from to _ new _ refl some at lt pb line efrom
          (end_some _ to eto) refl n
      | inr le ↦
          behind_laid q.kept plane depth places f e s i j q from to _ new _ refl some at le qb line
          (first_few _ from efrom) eto refl n
    ])
    (λ (b : is_beside plane s e i j ≡ false). cond_no _ _ _ _ n
    (written_apart plane s e from to i j some (end_few _ to eto) b))

written_beside : (plane : Plane) (s e from to i j : ℕ) → 0 < e → to ≤ 8
    → is_written plane s (8 * e - 4) from to i j ≡ true
    → is_beside plane s e i j ≡ true
written_beside plane s e from to i j p q t = grind (arith, nat_tests)

unwritten : (plane : Plane) (s e from to i j : ℕ) (f : ℕ → ℕ → ℕ) (line : Line) → 0 < e → to ≤ 8 →
    line ≡ across f (8 * e - 4) j →
    f i j ≡ cond (is_written plane s (8 * e - 4) from to i j) (nth line (i - (8 * e - 4))) (f i j)
unwritten plane s e from to i j f line some few el =
    cond_intro (is_written plane s (8 * e - 4) from to i j) _ _ _
    (λ (w : is_written plane s (8 * e - 4) from to i j ≡ true).
    let b : is_beside plane s e i j ≡ true = written_beside plane s e from to i j some few w in
    let at = beside_of plane s e i j b in
    let k : 8 * e - 4 + (i - (8 * e - 4)) ≡ i = omega (arith, at.low) in
    let less : i - (8 * e - 4) < 8 = omega (arith, at.high) in
    sym (ap (λ (l : Line). nth l (i - (8 * e - 4))) el ∙ nth_is f (8 * e - 4) j (i - (8 * e - 4)) less
    ∙ ap (λ (x : ℕ). f x j) k))
    (λ (w : is_written plane s (8 * e - 4) from to i j ≡ false). refl)

-- the lines of a place across an edge whose filter changes none
pub off_laid : (plane : Plane) (depth : ℕ) (places : ℕ → ℕ → Place) (f : ℕ → ℕ → ℕ) (e s i j : ℕ) (p q : Place)
    (filter : Filter) →
    0 < e →
    p ≡ places ((8 * e - 1) / side plane) s → q ≡ places (8 * e / side plane) s →
    filter
    ≡ edge_filter plane depth p q (across f (8 * e - 4) (side plane * s))
    (across f (8 * e - 4) (side plane * s + (side plane - 1))) →
    ((greatest t : ℕ) (line : Line) → filtered filter greatest t line ≡ line) →
    f i j ≡ cond (is_beside plane s e i j) (edge_sample plane depth places f e j (i + 4 - 8 * e)) (f i j)
off_laid plane depth places f e s i j p q filter some ep eq ef same =
    place_laid plane depth places f e s i j p q filter (2 ^ depth - 1) (tc plane depth p q)
    (cond p.kept 4 0) (cond q.kept 4 8) _ some ep eq ef refl refl refl refl
    (unwritten plane s e _ _ i j f _ some (end_few q.kept _ refl) (same _ _ _))
