-- The segments of a picture share out its coding tree units.
use Rattle.std.proofs.Common.{◌≡◌, ℕ, zero, suc, ◌+◌, ◌-◌, ◌≤◌, ◌<◌, max, List, [], ◌∷◌, ◌++◌, map, drop, length}
use Rattle.std.proofs.Common.{Result, Ok, Err, refl, sym, ap, ◌∙◌, append_assoc, append-nil, arith}
use Rattle.std.specs.List.{range_with_len, flat_map}
use Rattle.std.proofs.lemmas.List.{map-append, map-id, map_push}
use Rattle.std.proofs.Math.Nat.{max-eq_right, min-eq_left}
use Rattle.spec_slice_headers.specs.HvBase.{Breach}
use Rattle.spec_slice_headers.specs.HeaderTypes.{size_in_ctbs}
use Rattle.spec_slice_headers.specs.PlanTypes.{SegmentPlan}
use Rattle.spec_slice_headers.specs.PlanTypes.{PicturePlan}
use Rattle.spec_slice_headers.specs.BlockGeometry.{ctb_scan}
use Rattle.spec_slice_data.specs.Segment.{Between, unit_step}
use Rattle.spec_picture_trees.specs.Shapes.{end_of, segment_shape}
use Rattle.spec_picture_trees.specs.Picture.{TreeUnit, Progress, Halt, SegmentAt, segment_at, segment_read}
use Rattle.spec_picture_trees.specs.Picture.{segments_read, picture_read, then_units, and_segments, unit_given}
use Rattle.spec_picture_trees.specs.Picture.{units_read, with_unit}
use Rattle.spec_slice_headers.specs.PlanTypes.{AreInOrder, Rise, address_of, begins_at}
use Rattle.spec_picture_trees.specs.Units.{units_between, segment_units, shared_units, picture_units, addresses}
use Rattle.spec_picture_trees.specs.Units.{with_segments}

range-append : (a m n b : ℕ) → a + m ≡ b → range_with_len a m ++ range_with_len b n ≡ range_with_len a (m + n)
range-append a zero n b e =
    let same : b ≡ a = omega arith in
    let long : n ≡ 0 + n = omega arith in
    ap (λ k. range_with_len k n) same ∙ ap (range_with_len a) long
range-append a (suc m) n b e =
    let long : suc (m + n) ≡ suc m + n = omega arith in
    ap (λ l. a ∷ l) (range-append (a + 1) m n b (omega arith)) ∙ ap (range_with_len a) long

-- units up to a place, and those from there on
units-append : (a b c : ℕ) → a ≤ b → b ≤ c → units_between a b ++ units_between b c ≡ units_between a c
units-append a b c low high =
    let long : b - a + (c - b) ≡ c - a = omega arith in
    sym (map-append ctb_scan (range_with_len a (b - a)) (range_with_len b (c - b)))
    ∙ ap (map ctb_scan) (range-append a (b - a) (c - b) b (omega arith) ∙ ap (range_with_len a) long)

no_units : (a : ℕ) → units_between a a ≡ []
no_units a = let none : a - a ≡ 0 = omega arith in ap (λ n. map ctb_scan (range_with_len a n)) none

begins_inside : (size : ℕ) (segments : List SegmentPlan) → Rise size segments → begins_at size segments ≤ size
begins_inside size [] h = omega arith
begins_inside size (s ∷ later) h = omega (arith, h.0, begins_inside size later h.1)

-- a segment ends where the next one begins
ends_there : (size first : ℕ) (later : List SegmentPlan) → first < begins_at size later → Rise size later
    → end_of size first later ≡ begins_at size later
ends_there size first [] above h = max-eq_right (omega arith)
ends_there size first (next ∷ later) above h =
    ap (max first) (min-eq_left (begins_inside size (next ∷ later) h)) ∙ max-eq_right (omega arith)

drop-tail : {A : Type 0} (n : ℕ) (items rest : List A) (x : A) → drop n items ≡ x ∷ rest → drop (suc n) items ≡ rest
drop-tail zero [] rest x e = absurd cc
drop-tail zero (y ∷ items) rest x e = cc
drop-tail (suc n) [] rest x e = absurd cc
drop-tail (suc n) (y ∷ items) rest x e = drop-tail n items rest x e

-- the units of the segment with this number
abbrev units_at : ℕ → List SegmentPlan → ℕ → List ℕ
units_at size segments i = units_between (begins_at size (drop i segments)) (begins_at size (drop (suc i) segments))

-- something made of each segment's number and its units
module _ {X : Type 0} (of_segment : ℕ → List ℕ → List X) where
  -- segments one after the other, the first of which has this number
  shared : ℕ → ℕ → List SegmentPlan → List X
  shared size number [] = []
  shared size number (s ∷ later) =
      of_segment number (units_between (address_of s) (begins_at size later)) ++ shared size (number + 1) later

  shared-by_number : (size number : ℕ) (segments rest : List SegmentPlan) → drop number segments ≡ rest
      → flat_map (λ i. of_segment i (units_at size segments i)) (range_with_len number (length rest))
      ≡ shared size number rest
  unfolding shared
  shared-by_number size number segments [] e = refl
  shared-by_number size number segments (s ∷ later) e =
      let next : drop (suc number) segments ≡ later = drop-tail number segments later s e in
      let same : number + 1 ≡ suc number = omega arith in
      let behind =
      flat_map (λ i. of_segment i (units_at size segments i)) (range_with_len (number + 1) (length later)) in
      let end = begins_at size (drop (suc number) segments) in
      ap (λ (xs : List SegmentPlan). of_segment number (units_between (begins_at size xs) end) ++ behind) e
      ∙ ap (λ (xs : List SegmentPlan). of_segment number (units_between (address_of s) (begins_at size xs)) ++ behind)
      next
      ∙ ap (λ l. of_segment number (units_between (address_of s) (begins_at size later)) ++ l)
      (shared-by_number size (number + 1) segments later (ap (λ n. drop n segments) same ∙ next))

-- the units of segments that rise are all up to the picture's end
shared-all : (of_segment : ℕ → List ℕ → List ℕ) (size number : ℕ) (segments : List SegmentPlan)
    → ((i : ℕ) (units : List ℕ) → of_segment i units ≡ units) → Rise size segments
    → shared of_segment size number segments ≡ units_between (begins_at size segments) size
unfolding shared
shared-all of_segment size number [] same h = sym (no_units size)
shared-all of_segment size number (s ∷ later) same h =
    let first = units_between (address_of s) (begins_at size later) in
    ap (λ l. l ++ shared of_segment size (number + 1) later) (same number first)
    ∙ ap (λ l. first ++ l) (shared-all of_segment size (number + 1) later same h.1)
    ∙ units-append (address_of s) (begins_at size later) size (omega (arith, h.0)) (begins_inside size later h.1)

all_units : (p : PicturePlan) → AreInOrder p
    → units_between (begins_at (size_in_ctbs p.sps) p.segments) (size_in_ctbs p.sps) ≡ picture_units p
unfolding picture_units
all_units p h = ap (λ first. units_between first (size_in_ctbs p.sps)) h.first

pub units_are_shared_out : (p : PicturePlan) → AreInOrder p
    → flat_map (segment_units p) (range_with_len 0 (length p.segments)) ≡ picture_units p
unfolding segment_units
units_are_shared_out p h =
    shared-by_number (λ i units. units) (size_in_ctbs p.sps) 0 p.segments p.segments refl
    ∙ shared-all (λ i units. units) (size_in_ctbs p.sps) 0 p.segments (λ i units. refl) h.rise
    ∙ all_units p h

then-ok : (r : Result Progress Halt) (next : Progress → Result Progress Halt) (q : Progress)
    → and_segments r next ≡ Ok q
    → (mid : Progress) × (r ≡ Ok mid) × (next mid ≡ Ok q)
then-ok (Ok mid) next q e = (mid, refl, e)
then-ok (Err halt) next q e = absurd cc

-- what is told of a unit that is handed over follows from the number of its segment and its address
abbrev Follows : {X : Type 0} → (TreeUnit → X) → (ℕ → ℕ → X) → Type 0
Follows told tag = (at : SegmentAt) (ctu : ℕ) (between : Between) → told (unit_given at ctu between) ≡ tag at.number ctu

module _ {X : Type 0} (told : TreeUnit → X) (tag : ℕ → ℕ → X) (is : Follows told tag) where
  unit_told : (at : SegmentAt) (ctu : ℕ) (given : List TreeUnit) (r : Result Between Breach)
      (next : Progress → Result Progress Halt) (q : Progress) (rest : List X)
      → ((between : Between) → next (with_unit at ctu given between) ≡ Ok q
      → map told q.given ≡ map told (given ++ unit_given at ctu between ∷ []) ++ rest)
      → then_units at ctu given r next ≡ Ok q → map told q.given ≡ map told given ++ tag at.number ctu ∷ rest
  unit_told at ctu given (Err e) next q rest f done = absurd cc
  unit_told at ctu given (Ok between) next q rest f done =
      f between done
      ∙ ap (λ l. l ++ rest) (map_push told given (unit_given at ctu between))
      ∙ append_assoc (map told given) (told (unit_given at ctu between) ∷ []) rest
      ∙ ap (λ x. map told given ++ x ∷ rest) (is at ctu between)

  units_told : (at : SegmentAt) (n place : ℕ) (progress q : Progress) → units_read at n place progress ≡ Ok q
      → map told q.given ≡ map told progress.given ++ map (tag at.number) (map ctb_scan (range_with_len place n))
  unfolding units_read
  units_told at zero place progress q done =
      let same : q ≡ progress = cc in
      ap (λ (x : Progress). map told x.given) same ∙ sym (append-nil (map told progress.given))
  units_told at (suc n) place progress q done =
      unit_told at (ctb_scan place) progress.given
      (unit_step at.syntax at.picture at.shape (ctb_scan place) progress.between)
      (units_read at n (place + 1)) q
      (map (tag at.number) (map ctb_scan (range_with_len (place + 1) n)))
      (λ between later. units_told at n (place + 1) (with_unit at (ctb_scan place) progress.given between) q later) done

  segment_told : (p : PicturePlan) (number first : ℕ) (s : SegmentPlan) (later : List SegmentPlan)
      (progress q : Progress)
      → end_of (size_in_ctbs p.sps) first later ≡ begins_at (size_in_ctbs p.sps) later
      → segment_read (segment_at p number first s later) progress ≡ Ok q
      → map told q.given
      ≡ map told progress.given ++ map (tag number) (units_between first (begins_at (size_in_ctbs p.sps) later))
  unfolding segment_shape
  segment_told p number first s later progress q ends done =
      units_told (segment_at p number first s later) (end_of (size_in_ctbs p.sps) first later - first)
      first progress q done
      ∙ ap (λ behind. map told progress.given ++ map (tag number) (units_between first behind)) ends

  segments_told : (p : PicturePlan) (number first : ℕ) (segments : List SegmentPlan) (progress q : Progress)
      → first ≡ begins_at (size_in_ctbs p.sps) segments → Rise (size_in_ctbs p.sps) segments
      → segments_read p number first segments progress ≡ Ok q
      → map told q.given
      ≡ map told progress.given ++ shared (λ i units. map (tag i) units) (size_in_ctbs p.sps) number segments
  unfolding segments_read shared
  segments_told p number first [] progress q begins h done =
      let same : q ≡ progress = cc in
      ap (λ (x : Progress). map told x.given) same ∙ sym (append-nil (map told progress.given))
  segments_told p number first (s ∷ later) progress q begins h done =
      let size = size_in_ctbs p.sps in
      let ends = ends_there size first later (omega (arith, begins, h.0)) h.1 in
      let behind = segments_read p (number + 1) (end_of size first later) later in
      let r = then-ok (segment_read (segment_at p number first s later) progress) behind q done in
      let rest = shared (λ i units. map (tag i) units) size (number + 1) later in
      segments_told p (number + 1) (end_of size first later) later r.0 q ends h.1 r.2
      ∙ ap (λ l. l ++ rest) (segment_told p number first s later progress r.0 ends r.1)
      ∙ append_assoc (map told progress.given) (map (tag number) (units_between first (begins_at size later))) rest
      ∙ ap (λ k. map told progress.given ++ (map (tag number) (units_between k (begins_at size later)) ++ rest)) begins

  picture_told : (p : PicturePlan) (given : List TreeUnit) (q : Progress) → AreInOrder p → picture_read p given ≡ Ok q
      → map told q.given ≡ map told given ++ shared (λ i units. map (tag i) units) (size_in_ctbs p.sps) 0 p.segments
  unfolding picture_read
  picture_told p given q h done =
      segments_told p 0 0 p.segments (record { between = _; given = given }) q (sym h.first) h.rise done

-- each unit has the number of its segment
pub units_of_segments : (p : PicturePlan) (given : List TreeUnit) (q : Progress) → AreInOrder p
    → picture_read p given ≡ Ok q
    → with_segments q.given ≡ with_segments given ++ shared_units p
unfolding segment_units shared_units
units_of_segments p given q h done =
    picture_told (λ (u : TreeUnit). (u.segment, u.ctu)) (λ i ctu. (i, ctu)) (λ at ctu between. refl) p given q h done
    ∙ ap (λ (l : List (ℕ × ℕ)). with_segments given ++ l)
    (sym (shared-by_number (λ i units. map (λ ctu. (i, ctu)) units) (size_in_ctbs p.sps) 0 p.segments p.segments refl))

-- and all units of the picture are there, in order
pub units_of_picture : (p : PicturePlan) (given : List TreeUnit) (q : Progress) → AreInOrder p
    → picture_read p given ≡ Ok q
    → addresses q.given ≡ addresses given ++ picture_units p
units_of_picture p given q h done =
    picture_told (λ (u : TreeUnit). u.ctu) (λ i ctu. ctu) (λ at ctu between. refl) p given q h done
    ∙ ap (λ (l : List ℕ). addresses given ++ l)
    (shared-all (λ i units. map (λ ctu. ctu) units) (size_in_ctbs p.sps) 0 p.segments (λ i units. map-id units) h.rise
    ∙ all_units p h)
