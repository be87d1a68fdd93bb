-- Filters keep samples in the range of their bit depth.
use Rattle.std.proofs.Common.{ℕ, ◌+◌, ◌-◌, ◌*◌, ◌/◌, ◌%◌, ◌^◌, ◌<◌, ◌≤◌, Bool, true, false, ◌&&◌, cond, nat_lt, ℤ}
use Rattle.std.proofs.Common.{pos}
use Rattle.std.proofs.Common.{negsuc, ◌≤ℤ◌, arith, rules, if◌then◌else◌}
use Rattle.std.specs.Int.{int_max, int_min}
use Rattle.std.specs.Int.RustNames.{unsigned_abs}
use Rattle.std.proofs.lemmas.Int.{ints, int_max_is, int_min_is}
use Rattle.std.proofs.lemmas.Bool.Decides.{nat_tests}
use Rattle.spec_sample_adaptive_offset.specs.SpecArithmetic.{clip3_from_zero}
use Rattle.spec_deblocking.specs.declared.line.Line.{Line}
use Rattle.spec_deblocking.specs.declared.line.Filter.{Filter}
use Rattle.spec_deblocking.specs.declared.line.Filter.TheVariants.{Off, Normal, Strong, Nearest}
use Rattle.spec_deblocking.specs.declared.place.Place.{Place}
use Rattle.spec_deblocking.specs.declared.place.Plane.{Plane}
use Rattle.spec_deblocking.specs.Lines.{across, nth}
use Rattle.spec_deblocking.specs.Places.{place_before, place_behind, turned}
use Rattle.spec_deblocking.specs.Thresholds.{tc}
use Rattle.spec_deblocking.specs.Filters.{filtered, held, moved, nearest, normal, normal_change, second_sample}
use Rattle.spec_deblocking.specs.Filters.{strong}
use Rattle.spec_deblocking.specs.Planes.{deblocked, edge_sample, filtered_line, horizontal, vertical}
use Rattle.spec_sample_adaptive_offset.proofs.Samples.{in_range}
use Rattle.spec_loop_filters.specs.Filters.{AreInRange, LoopFilters, Samples, deblocked_samples, depth_of}
use Rattle.spec_loop_filters.specs.Filters.{final_samples, height_of, offset_plane, plane_of, width_of}

-- every sample of a line is at most so great
pub record AreSmall (g : ℕ) (line : Line) : Type 0 where
  pub p3 : line.p3 ≤ g
  pub p2 : line.p2 ≤ g
  pub p1 : line.p1 ≤ g
  pub p0 : line.p0 ≤ g
  pub q0 : line.q0 ≤ g
  pub q1 : line.q1 ≤ g
  pub q2 : line.q2 ≤ g
  pub q3 : line.q3 ≤ g

few_of : (b : Bool) (g v w : ℕ) → v ≤ g → w ≤ g → cond b v w ≤ g
few_of true g v w h k = h
few_of false g v w h k = k

small_of : (b : Bool) (g : ℕ) (l m : Line) → AreSmall g l → AreSmall g m → AreSmall g (cond b l m)
small_of true g l m h k = h
small_of false g l m h k = k

size_few : (g : ℕ) (z : ℤ) → pos 0 ≤ℤ z → z ≤ℤ pos g → unsigned_abs z ≤ g
size_few g (pos n) low high = omega (arith, ints)
size_few g (negsuc n) low high = absurd (omega (arith, ints))

clipped_few : (g : ℕ) (z : ℤ) → clip3_from_zero g z ≤ g
clipped_few g z =
    let v : ℤ = int_min z (pos g) in
    let most : v ≤ℤ pos g = omega (arith, ints, int_min_is z (pos g)) in
    let least : pos 0 ≤ℤ int_max (pos 0) v = omega (arith, ints, int_max_is (pos 0) v) in
    let below : int_max (pos 0) v ≤ℤ pos g = omega (arith, ints, int_max_is (pos 0) v) in
    size_few g (int_max (pos 0) v) least below

moved_few : (g s : ℕ) (z : ℤ) → moved g s z ≤ g
unfolding moved
moved_few g s z = clipped_few g _

held_few : (g v s r : ℕ) → v ≤ g → s ≤ g → held v s r ≤ g
unfolding held
held_few g v s r h k = grind (arith, nat_tests)

second_few : (b : Bool) (g tc outer middle inner : ℕ) (delta : ℤ) → middle ≤ g
    → second_sample b g tc outer middle inner delta ≤ g
unfolding second_sample
second_few b g tc outer middle inner delta h = few_of b g _ middle (moved_few g middle _) h

strong_small : (g tc : ℕ) (l : Line) → AreSmall g l → AreSmall g (strong tc l)
unfolding strong
strong_small g tc l s =
    let p3 = s.p3 in
    let p2 = s.p2 in
    let p1 = s.p1 in
    let p0 = s.p0 in
    let q0 = s.q0 in
    let q1 = s.q1 in
    let q2 = s.q2 in
    let q3 = s.q3 in
    record {
      p3 = p3;
      p2 = held_few g _ l.p2 (2 * tc) (omega arith) p2;
      p1 = held_few g _ l.p1 (2 * tc) (omega arith) p1;
      p0 = held_few g _ l.p0 (2 * tc) (omega arith) p0;
      q0 = held_few g _ l.q0 (2 * tc) (omega arith) q0;
      q1 = held_few g _ l.q1 (2 * tc) (omega arith) q1;
      q2 = held_few g _ l.q2 (2 * tc) (omega arith) q2;
      q3 = q3;
    }

normal_small : (p q : Bool) (g tc : ℕ) (l : Line) → AreSmall g l → AreSmall g (normal p q g tc l)
unfolding normal
normal_small p q g tc l s =
    small_of (nat_lt (unsigned_abs (normal_change l)) (10 * tc)) g _ l
    (record {
      p3 = s.p3;
      p2 = s.p2;
      p1 = second_few p g tc l.p2 l.p1 l.p0 _ s.p1;
      p0 = moved_few g l.p0 _;
      q0 = moved_few g l.q0 _;
      q1 = second_few q g tc l.q2 l.q1 l.q0 _ s.q1;
      q2 = s.q2;
      q3 = s.q3;
    }) s

nearest_small : (g tc : ℕ) (l : Line) → AreSmall g l → AreSmall g (nearest g tc l)
unfolding nearest
nearest_small g tc l s = record {
  p3 = s.p3;
  p2 = s.p2;
  p1 = s.p1;
  p0 = moved_few g l.p0 _;
  q0 = moved_few g l.q0 _;
  q1 = s.q1;
  q2 = s.q2;
  q3 = s.q3;
}

filtered_small : (f : Filter) (g tc : ℕ) (l : Line) → AreSmall g l → AreSmall g (filtered f g tc l)
unfolding filtered
filtered_small Off g tc l s = s
filtered_small (Normal p q) g tc l s = normal_small p q g tc l s
filtered_small Strong g tc l s = strong_small g tc l s
filtered_small Nearest g tc l s = nearest_small g tc l s

nth_few : (g : ℕ) (l : Line) (k : ℕ) → AreSmall g l → nth l k ≤ g
nth_few g l k s =
    few_of _ g _ _ s.p3
    (few_of _ g _ _ s.p2
    (few_of _ g _ _ s.p1 (few_of _ g _ _ s.p0 (few_of _ g _ _ s.q0 (few_of _ g _ _ s.q1 (few_of _ g _ _ s.q2 s.q3))))))

across_small : (g : ℕ) (f : ℕ → ℕ → ℕ) (x y : ℕ) → ((i j : ℕ) → f i j ≤ g) → AreSmall g (across f x y)
across_small g f x y all = record {
  p3 = all x y;
  p2 = all (x + 1) y;
  p1 = all (x + 2) y;
  p0 = all (x + 3) y;
  q0 = all (x + 4) y;
  q1 = all (x + 5) y;
  q2 = all (x + 6) y;
  q3 = all (x + 7) y;
}

edge_few : (plane : Plane) (depth : ℕ) (places : ℕ → ℕ → Place) (f : ℕ → ℕ → ℕ) (e y k : ℕ)
    → ((i j : ℕ) → f i j ≤ 2 ^ depth - 1) → edge_sample plane depth places f e y k ≤ 2 ^ depth - 1
unfolding edge_sample filtered_line
edge_few plane depth places f e y k all =
    few_of (if nat_lt k 4 then (place_before plane places e y).kept else (place_behind plane places e y).kept)
    (2 ^ depth - 1) _ _
    (nth_few (2 ^ depth - 1) _ k (across_small (2 ^ depth - 1) f (8 * e - 4) y all))
    (nth_few (2 ^ depth - 1) _ k
    (filtered_small _ (2 ^ depth - 1) _ _ (across_small (2 ^ depth - 1) f (8 * e - 4) y all)))

vertical_few : (plane : Plane) (depth width : ℕ) (places : ℕ → ℕ → Place) (f : ℕ → ℕ → ℕ) (x y : ℕ)
    → ((i j : ℕ) → f i j ≤ 2 ^ depth - 1) → vertical plane depth width places f x y ≤ 2 ^ depth - 1
unfolding vertical
vertical_few plane depth width places f x y all =
    few_of (nat_lt 0 ((x + 4) / 8) && nat_lt (8 * ((x + 4) / 8)) width) (2 ^ depth - 1) _ _
    (edge_few plane depth places f ((x + 4) / 8) y ((x + 4) % 8) all) (all x y)

horizontal_few : (plane : Plane) (depth height : ℕ) (places : ℕ → ℕ → Place) (f : ℕ → ℕ → ℕ) (x y : ℕ)
    → ((i j : ℕ) → f i j ≤ 2 ^ depth - 1) → horizontal plane depth height places f x y ≤ 2 ^ depth - 1
unfolding horizontal
horizontal_few plane depth height places f x y all =
    vertical_few plane depth height (turned places) (λ column line. f line column) y x (λ i j. all j i)

below_power : (n v : ℕ) → v ≤ 2 ^ n - 1 → v < 2 ^ n
below_power n v h = let some : 0 < 2 ^ n = search rules in omega (arith, some)

pub deblocked_small : (filters : LoopFilters) (samples : Samples) → AreInRange filters.format samples
    → AreInRange filters.format (deblocked_samples filters samples)
unfolding deblocked_samples deblocked
deblocked_small filters samples all c x y =
    let format = filters.format in
    below_power (depth_of format c) _
    (horizontal_few (plane_of format c) (depth_of format c) (height_of format c) filters.places _ x y
    (λ i j. vertical_few (plane_of format c) (depth_of format c) (width_of format c) filters.places (samples c) i j
    (λ k l. let lt = all c k l in omega (arith, lt))))

pub final_small : (filters : LoopFilters) (samples : Samples) → AreInRange filters.format samples
    → AreInRange filters.format (final_samples filters samples)
unfolding final_samples
final_small filters samples all c x y =
    in_range (offset_plane filters c) (deblocked_samples filters samples c) x y
    (deblocked_small filters samples all c x y)
