-- Edge after edge, and place after place.
use Rattle.std.proofs.Common.{◌≡◌, ℕ, ◌+◌, ◌-◌, ◌*◌, ◌/◌, ◌%◌, ◌^◌, ◌<◌, ◌≤◌, Bool, true, false, ◌&&◌, ◌||◌, cond}
use Rattle.std.proofs.Common.{◌==◌, nat_le, nat_lt, refl, ap, sym, subst, ◌∙◌, inl, inr, ◌⊎◌, List, arith}
use Rattle.std.proofs.Common.{if◌then◌else◌}
use Rattle.std.proofs.lemmas.Bool.Decides.{nat_tests}
use Rattle.spec_deblocking.specs.declared.line.Line.{Line}
use Rattle.spec_deblocking.specs.declared.place.Place.{Place}
use Rattle.spec_deblocking.specs.declared.place.Plane.{Plane}
use Rattle.spec_deblocking.specs.declared.place.Plane.TheVariants.{Luma, Chroma}
use Rattle.spec_deblocking.specs.Lines.{across, nth}
use Rattle.spec_deblocking.specs.Places.{side, place_behind}
use Rattle.spec_deblocking.specs.Thresholds.{tc}
use Rattle.spec_deblocking.specs.Decisions.{edge_filter}
use Rattle.spec_deblocking.specs.Filters.{filtered}
use Rattle.spec_deblocking.specs.Planes.{edge_sample, filtered_line, vertical}
use Rattle.spec_deblocking.specs.declared.line.Filter.TheVariants.{Off}
use Rattle.spec_deblocking.specs.Places.{place_before}
use Rattle.spec_deblocking.proofs.Across.{across_same, five_same, if_one, nth_is}
use Rattle.spec_deblocking.proofs.Unchanged.{filter_off}
use Rattle.deblock.specs.declared.pass.Pass.{Pass}
use Rattle.deblock.specs.Passes.{is_beside, is_done, partly, IsPass, IsAlong, IsAcross, IsPartly}
use Rattle.deblock.specs.Windows.{holds, seen}
use Rattle.deblock.proofs.Flat.{inside_holds}
use Rattle.deblock.proofs.Laying.{more}
use Rattle.deblock.proofs.Lines.{IsBeside, beside_of, place_line}

pub same_either : (b : Bool) (v old : ℕ) → (b ≡ true → old ≡ v) → old ≡ cond b v old
same_either true v old e = e refl
same_either false v old e = refl

-- a line of a place is not laid before it is read
pub line_yet : (first n b : ℕ) (r : Bool) (v new start : ℕ) → b ≡ first + n
    → new ≡ cond ((nat_le first b && nat_lt b (first + n)) && r) v start → new ≡ start
line_yet first n b r v new start e is =
    let none : ((nat_le first b && nat_lt b (first + n)) && r) ≡ false = grind (arith, nat_tests) in
    rw none at is

-- what is read of a place across an edge lies in the samples that are there
pub reads_inside : (pass : Pass) (e s k b : ℕ) → IsPass pass → IsAcross pass e → IsAlong pass s → 0 < e →
    8 * e < pass.side → k < 8 → side pass.plane * s ≤ b → b < side pass.plane * s + side pass.plane →
    holds pass.window (8 * e - 4 + k) b ≡ true
reads_inside pass e s k b is across along some inside few first last =
    inside_holds pass.window _ _ (omega (arith, is.low, across.low)) (omega (arith, is.high, is.whole, across.high))
    (omega (arith, is.along_low, along.low)) (omega (arith, is.along_high, along.high))

pub beside_inside : (pass : Pass) (e s i j : ℕ) → IsPass pass → IsAcross pass e → IsAlong pass s → 0 < e →
    8 * e < pass.side → is_beside pass.plane s e i j ≡ true → holds pass.window i j ≡ true
beside_inside pass e s i j is across along some inside t =
    let at = beside_of pass.plane s e i j t in
    let k : 8 * e - 4 + (i + 4 - 8 * e) ≡ i = omega (arith, at.low) in
    subst (λ (x : ℕ). holds pass.window x j ≡ true) k
    (reads_inside pass e s (i + 4 - 8 * e) j is across along some inside (omega (arith, at.high)) at.first at.last)

beside_is : (plane : Plane) (s e i j : ℕ) → 8 * e ≤ i + 4 → i + 4 < 8 * e + 8 → side plane * s ≤ j
    → j < side plane * s + side plane → is_beside plane s e i j ≡ true
beside_is plane s e i j a b c d = grind (arith, nat_tests)

some_lines : (plane : Plane) → 0 < side plane
some_lines Luma = omega arith
some_lines (Chroma offset) = omega arith

-- samples beside an edge alone count
pub edge_alone : (plane : Plane) (depth : ℕ) (places : ℕ → ℕ → Place) (f g : ℕ → ℕ → ℕ) (s e j k : ℕ) → 0 < e →
    side plane * s ≤ j → j < side plane * s + side plane →
    ((i l : ℕ) → is_beside plane s e i l ≡ true → g i l ≡ f i l) →
    edge_sample plane depth places g e j k ≡ edge_sample plane depth places f e j k
unfolding edge_sample filtered_line
edge_alone plane depth places f g s e j k some low high same =
    let here = place_line plane s j low high in
    let some_line = some_lines plane in
    let line : (l : ℕ) → side plane * s ≤ l → l < side plane * s + side plane
    → across g (8 * e - 4) l ≡ across f (8 * e - 4) l = λ l a b.
    across_same g f (8 * e - 4) l
    (λ k few. same _ l (beside_is plane s e _ l (omega arith) (omega arith) a b)) in
    five_same (λ (p q : Place) (a b c : Line). if (if nat_lt k 4 then p.kept else q.kept) then nth c k
    else nth (filtered (edge_filter plane depth p q a b) (2 ^ depth - 1) (tc plane depth p q) c) k)
    _ _ _ _ _ _ _ _ _ _ refl refl
    (rw here (line (side plane * s) (omega arith) (omega arith)))
    (rw here (line (side plane * s + (side plane - 1)) (omega arith) (omega arith)))
    (line j low high)

pub edge_in : (plane : Plane) (depth width : ℕ) (places : ℕ → ℕ → Place) (f : ℕ → ℕ → ℕ) (s e i j : ℕ) →
    IsBeside plane s e i j → 0 < e → 8 * e < width →
    edge_sample plane depth places f e j (i + 4 - 8 * e) ≡ vertical plane depth width places f i j
unfolding vertical
edge_in plane depth width places f s e i j at some inside =
    let d : (i + 4) / 8 ≡ e = omega (arith, at.low, at.high) in
    let m : (i + 4) % 8 ≡ i + 4 - 8 * e = omega (arith, at.low, at.high) in
    let t : (nat_lt 0 e && nat_lt (8 * e) width) ≡ true = grind (arith, nat_tests) in
    rw (d, m, t) refl

pub edge_out : (plane : Plane) (depth width : ℕ) (places : ℕ → ℕ → Place) (f : ℕ → ℕ → ℕ) (s e i j : ℕ) →
    IsBeside plane s e i j → (nat_lt 0 e && nat_lt (8 * e) width) ≡ false →
    f i j ≡ vertical plane depth width places f i j
unfolding vertical
edge_out plane depth width places f s e i j at none =
    let d : (i + 4) / 8 ≡ e = omega (arith, at.low, at.high) in
    rw (d, none) refl

pub no_edge : (e width : ℕ) → (e ≤ 0) ⊎ (width ≤ 8 * e) → (nat_lt 0 e && nat_lt (8 * e) width) ≡ false
no_edge e width (inl none) = grind (arith, nat_tests)
no_edge e width (inr past) = grind (arith, nat_tests)

done_more : (p : Pass) (s e i j : ℕ) → p.first ≤ e → e < p.end → p.along_first ≤ side p.plane * s
    → is_done p s (e + 1) i j ≡ (is_done p s e i j || is_beside p.plane s e i j)
done_more p s e i j low high along = grind (arith, nat_tests)

done_not : (p : Pass) (s e i j : ℕ) → is_beside p.plane s e i j ≡ true → is_done p s e i j ≡ false
done_not p s e i j t = grind (arith, nat_tests)

pub not_yet : (p : Pass) (places : ℕ → ℕ → Place) (f : ℕ → ℕ → ℕ) (s e i j old : ℕ) →
    old ≡ partly p places f s e i j →
    is_beside p.plane s e i j ≡ true → old ≡ f i j
not_yet p places f s e i j old o t = let n = done_not p s e i j t in rw n at o

-- one more edge, filtered over samples of which the former ones are filtered
pub edge_more : (p : Pass) (places : ℕ → ℕ → Place) (f : ℕ → ℕ → ℕ) (s e : ℕ) (now before : List ℕ) →
    IsPass p → IsAcross p e → IsAlong p s → 0 < e → 8 * e < p.side →
    ((i j : ℕ) → holds p.window i j ≡ true → seen p.window now i j
    ≡ cond (is_beside p.plane s e i j)
    (edge_sample p.plane p.bit_depth places (seen p.window before) e j (i + 4 - 8 * e)) (seen p.window before i j)) →
    IsPartly p places f s e before → IsPartly p places f s (e + 1) now
edge_more p places f s e now before is across along some inside new old i j h =
    let same : (k l : ℕ) → is_beside p.plane s e k l ≡ true → seen p.window before k l ≡ f k l = λ k l t.
    not_yet p places f s e k l _ (old k l (beside_inside p e s k l is across along some inside t)) t in
    more _ _ _ _ _ (f i j) _ _ (new i j h) (old i j h)
    (λ (t : is_beside p.plane s e i j ≡ true).
    let at = beside_of p.plane s e i j t in
    edge_alone p.plane p.bit_depth places f (seen p.window before) s e j (i + 4 - 8 * e) some at.first at.last same
    ∙ edge_in p.plane p.bit_depth p.side places f s e i j at some inside)
    (done_more p s e i j across.low across.high along.low)

-- an edge that changes nothing
pub edge_none : (p : Pass) (places : ℕ → ℕ → Place) (f : ℕ → ℕ → ℕ) (s e : ℕ) (samples : List ℕ) →
    IsAcross p e → IsAlong p s →
    (nat_lt 0 e && nat_lt (8 * e) p.side) ≡ false →
    IsPartly p places f s e samples → IsPartly p places f s (e + 1) samples
edge_none p places f s e samples across along none old i j h =
    let o = old i j h in
    let n : seen p.window samples i j ≡ cond (is_beside p.plane s e i j) (f i j) (seen p.window samples i j) =
    same_either (is_beside p.plane s e i j) (f i j) _ (not_yet p places f s e i j _ o) in
    more _ _ _ _ _ (f i j) _ _ n o
    (λ (t : is_beside p.plane s e i j ≡ true). edge_out p.plane p.bit_depth p.side places f s e i j
    (beside_of p.plane s e i j t) none)
    (done_more p s e i j across.low across.high along.low)

-- an edge that no lines make a filter change
abbrev pub IsOff : Plane → ℕ → Place → Type 0
IsOff plane depth q = (p : Place) (first last : Line) → edge_filter plane depth p q first last ≡ Off

pub weak_of : (plane : Plane) (depth : ℕ) (q r : Place) → q ≡ r → q.left_strength ≡ 0 → IsOff plane depth r
weak_of plane depth q r e h p first last =
    filter_off plane depth p r first last (subst (λ (x : Place). x.left_strength ≡ 0) e h)

pub weak_place : (plane : Plane) (depth n : ℕ) (q r : Place) → n ≡ side plane → q ≡ r
    → (n ≡ 4 → (q.left_strength == 0) ≡ true) → (n ≡ 2 → (q.left_strength == 2) ≡ false) → IsOff plane depth r
unfolding edge_filter
weak_place Luma depth n q r e same luma chroma p first last =
    let t : (r.left_strength == 0) ≡ true = subst (λ (x : Place). (x.left_strength == 0) ≡ true) same (luma e) in
    rw t refl
weak_place (Chroma offset) depth n q r e same luma chroma p first last =
    let t : (r.left_strength == 2) ≡ false = subst (λ (x : Place). (x.left_strength == 2) ≡ false) same (chroma e) in
    rw t refl

line_weak : (plane : Plane) (depth : ℕ) (places : ℕ → ℕ → Place) (samples : ℕ → ℕ → ℕ) (e y : ℕ) →
    IsOff plane depth (place_behind plane places e y) →
    filtered_line plane depth places samples e y ≡ across samples (8 * e - 4) y
unfolding filtered_line filtered
line_weak plane depth places samples e y off =
    let first = across samples (8 * e - 4) (side plane * (y / side plane)) in
    let last = across samples (8 * e - 4) (side plane * (y / side plane) + (side plane - 1)) in
    rw (off (place_before plane places e y) first last) refl

pub sample_weak : (plane : Plane) (depth : ℕ) (places : ℕ → ℕ → Place) (samples : ℕ → ℕ → ℕ) (e y k : ℕ) →
    IsOff plane depth (place_behind plane places e y) →
    edge_sample plane depth places samples e y k ≡ nth (across samples (8 * e - 4) y) k
unfolding edge_sample
sample_weak plane depth places samples e y k off =
    if_one _ _ _ _ (λ t. refl) (ap (λ (line : Line). nth line k) (line_weak plane depth places samples e y off))

pub edge_weak : (p : Pass) (places : ℕ → ℕ → Place) (f : ℕ → ℕ → ℕ) (s e : ℕ) (samples : List ℕ) →
    IsPass p → IsAcross p e → IsAlong p s → 0 < e → 8 * e < p.side →
    IsOff p.plane p.bit_depth (places (8 * e / side p.plane) s) →
    IsPartly p places f s e samples → IsPartly p places f s (e + 1) samples
edge_weak p places f s e samples is across along some inside off old =
    edge_more p places f s e samples samples is across along some inside
    (λ i j h. same_either (is_beside p.plane s e i j) _ _ (λ (t : is_beside p.plane s e i j ≡ true).
    let at = beside_of p.plane s e i j t in
    let here = place_line p.plane s j at.first at.last in
    let weak : IsOff p.plane p.bit_depth (place_behind p.plane places e j) =
    subst (λ (r : ℕ). IsOff p.plane p.bit_depth (places (8 * e / side p.plane) r)) (sym here) off in
    let k : 8 * e - 4 + (i + 4 - 8 * e) ≡ i = omega (arith, at.low) in
    sym (sample_weak p.plane p.bit_depth places (seen p.window samples) e j (i + 4 - 8 * e) weak
    ∙ nth_is (seen p.window samples) (8 * e - 4) j (i + 4 - 8 * e) (omega (arith, at.high))
    ∙ ap (λ (x : ℕ). seen p.window samples x j) k)))
    old

pub edge_some : (e width : ℕ) → (nat_lt 0 e && nat_lt (8 * e) width) ≡ true → 0 < e
edge_some e width t = grind (arith, nat_tests)

pub edge_within : (e width : ℕ) → (nat_lt 0 e && nat_lt (8 * e) width) ≡ true → 8 * e < width
edge_within e width t = grind (arith, nat_tests)

weak_or_none : (p : Pass) (places : ℕ → ℕ → Place) (f : ℕ → ℕ → ℕ) (s e : ℕ) (samples : List ℕ) (b : Bool) →
    (nat_lt 0 e && nat_lt (8 * e) p.side) ≡ b → IsPass p → IsAcross p e → IsAlong p s →
    IsOff p.plane p.bit_depth (places (8 * e / side p.plane) s) →
    IsPartly p places f s e samples → IsPartly p places f s (e + 1) samples
weak_or_none p places f s e samples true t is across along off old =
    edge_weak p places f s e samples is across along (edge_some e p.side t) (edge_within e p.side t) off old
weak_or_none p places f s e samples false t is across along off old =
    edge_none p places f s e samples across along t old

-- an edge that is not filtered, whether there is one or not
pub edge_still : (p : Pass) (places : ℕ → ℕ → Place) (f : ℕ → ℕ → ℕ) (s e : ℕ) (samples : List ℕ) →
    IsPass p → IsAcross p e → IsAlong p s →
    IsOff p.plane p.bit_depth (places (8 * e / side p.plane) s) →
    IsPartly p places f s e samples → IsPartly p places f s (e + 1) samples
edge_still p places f s e samples is across along off old =
    weak_or_none p places f s e samples _ refl is across along off old

-- a row's places
none_done : (plane : Plane) (first s j : ℕ) (a b c : Bool) → first % 4 ≡ 0 → s ≡ first / side plane →
    ((nat_le first j && a) && ((nat_lt j (side plane * s) && b) || (nat_lt j (side plane * s + side plane) && c)))
    ≡ ((nat_le first j && a) && (nat_lt j (side plane * s + side plane) && c))
none_done Luma first s j a b c whole e = grind (arith, nat_tests)
none_done (Chroma offset) first s j a b c whole e = grind (arith, nat_tests)

pub part_none : (p : Pass) (places : ℕ → ℕ → Place) (f : ℕ → ℕ → ℕ) (s i j old : ℕ) →
    p.along_first % 4 ≡ 0 → s ≡ p.along_first / side p.plane → old ≡ f i j →
    old ≡ partly p places f s 0 i j
part_none p places f s i j old whole e o =
    let t : is_done p s 0 i j ≡ false =
    none_done p.plane p.along_first s j (nat_le (8 * p.first) (i + 4)) (nat_lt (i + 4) (8 * p.end))
    (nat_lt (i + 4) (8 * 0)) whole e
    ∙ grind (arith, nat_tests) in
    rw t o

-- a place's edges
pub edges_none : (p : Pass) (places : ℕ → ℕ → Place) (f : ℕ → ℕ → ℕ) (s : ℕ) (samples : List ℕ) →
    IsPartly p places f s 0 samples → IsPartly p places f s p.first samples
edges_none p places f s samples old i j h =
    let t : is_done p s p.first i j ≡ is_done p s 0 i j = grind (arith, nat_tests) in
    let o = old i j h in
    rw t o

next_place : (plane : Plane) (s : ℕ) → side plane * (s + 1) ≡ side plane * s + side plane
next_place Luma s = omega arith
next_place (Chroma offset) s = omega arith

pub edges_all : (p : Pass) (places : ℕ → ℕ → Place) (f : ℕ → ℕ → ℕ) (s e : ℕ) (samples : List ℕ) → e ≡ p.end →
    IsPartly p places f s e samples → IsPartly p places f (s + 1) 0 samples
edges_all p places f s e samples last old i j h =
    let n = next_place p.plane s in
    let t : is_done p (s + 1) 0 i j ≡ is_done p s e i j = rw (n, last) (grind (arith, nat_tests)) in
    let o = old i j h in
    rw t o
