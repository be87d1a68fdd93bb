-- A unit over edges that have what the units beside it leave, as far as the picture has places, is the next step.
use Rattle.std.proofs.Common.{◌≡◌, ℕ, ◌-◌, ◌*◌, ◌^◌, ◌<◌, ◌≤◌, Bool, true, false, refl, ap, sym, ◌∙◌}
use Rattle.std.proofs.Common.{nat_lt, if◌then◌else◌, arith}
use Rattle.std.proofs.lemmas.Bool.Decides.{nat_tests}
use Rattle.ctu_records.specs.declared.side.Side.{Side}
use Rattle.spec_cabac.specs.Bins.{State, read}
use Rattle.spec_slice_data.specs.declared.syntax.CtuSyntax.{CtuSyntax}
use Rattle.spec_slice_data.specs.Segment.{PictureShape, SegmentShape, Between, begins_row, column_of, has_above}
use Rattle.spec_slice_data.specs.Segment.{has_left, is_last, next_unit, places_left, read_unit, row_of, side_of}
use Rattle.spec_slice_data.specs.Segment.{syntax_at, unit_at, unit_begins, unit_of}
use Rattle.known_picture_laws.specs.CodingQuadtree.{available}
use Rattle.known_picture_laws.specs.CodingQuadtree.{judged}
use Rattle.known_picture_laws.proofs.CodingQuadtreeLemmas.{unit_same}
use Rattle.known_picture_laws.specs.UnitTrees.{Edge}
use Rattle.known_picture_laws.specs.UnitTrees.{place_of}
use Rattle.known_picture_laws.specs.UnitTrees.{then_next, unit_beside, unit_over}
use Rattle.known_picture_laws.proofs.UnitTreesLemmas.{above_there, left_there}
use Rattle.known_picture_laws.proofs.UnitTreesLemmas.{side_near}
use Rattle.known_picture_laws.proofs.UnitTreesLemmas.{behind_is}
use Rattle.flight_value_laws.specs.Reading.{IsLeftEdge, IsTopEdge}

-- a place that is available belongs to a unit that is there, and the picture has it
record IsThere (there : Bool) (places n k : ℕ) : Type 0 where
  is : there ≡ true
  small : k < n
  inside : k < places

by_few : (few there : Bool) (places n k : ℕ) → nat_lt places n ≡ few
    → k < (if there then (if few then places else n) else 0) → IsThere there places n k
by_few true true places n k e h =
    let less : places < n = grind (arith, nat_tests) in record { is = refl; small = omega (arith, h, less); inside = h }
by_few false true places n k e h =
    let least : n ≤ places = grind (arith, nat_tests) in
    record { is = refl; small = h; inside = omega (arith, h, least) }
by_few true false places n k e h = absurd (omega (arith, h))
by_few false false places n k e h = absurd (omega (arith, h))

is_there : (there : Bool) (places n k : ℕ) → k < available there places n → IsThere there places n k
is_there there places n k h = by_few (nat_lt places n) there places n k refl h

module _ (common : CtuSyntax) (picture : PictureShape) (segment : SegmentShape) (address : ℕ) (between : Between)
    (left above : Edge)
    (lefts : has_left picture segment address ≡ true
    → IsLeftEdge picture address (unit_of picture between (address - 1)) left)
    (aboves : has_above picture segment address ≡ true
    → IsTopEdge picture address (unit_of picture between (address - picture.width)) above) where
  abbrev n : ℕ
  n = 2 ^ picture.size

  abbrev rows : ℕ
  rows = places_left picture.down (n * row_of picture address)

  abbrev columns : ℕ
  columns = places_left picture.across (n * column_of picture address)

  abbrev on_left : ℕ → Side
  on_left k = side_of (unit_of picture between (address - 1)) (n - 1) k

  abbrev on_top : ℕ → Side
  on_top k = side_of (unit_of picture between (address - picture.width)) k (n - 1)

  left_place : (k : ℕ) → k < available (has_left picture segment address) rows n → place_of left k ≡ on_left k
  left_place k lt =
      let t = is_there (has_left picture segment address) rows n k lt in
      (lefts t.is).places k t.small (omega (arith, t.inside))

  top_place : (k : ℕ) → k < available (has_above picture segment address) columns n → place_of above k ≡ on_top k
  top_place k lt =
      let t = is_there (has_above picture segment address) columns n k lt in
      (aboves t.is).places k t.small (omega (arith, t.inside))

  begins_same : unit_beside picture segment address left above between.last
      ≡ unit_begins picture segment address between
  unfolding unit_beside unit_begins
  begins_same =
      let e =
      side_near (available (has_left picture segment address) rows n) (place_of left) on_left
      (λ k near lt. left_place k lt) in
      let f =
      side_near (available (has_above picture segment address) columns n) (place_of above) on_top
      (λ k near lt. top_place k lt) in
      rw (e, f) refl

  read_same : (s : State) → unit_over common picture segment address left above between.last s
      ≡ judged (read (unit_at common picture segment address between) s)
  unfolding unit_over
  read_same s =
      let same =
      unit_same (syntax_at common picture segment address) left.sao above.sao
      (unit_of picture between (address - 1)).sao (unit_of picture between (address - picture.width)).sao
      (is_last segment address) (begins_row picture (next_unit address))
      (unit_beside picture segment address left above between.last) s
      (λ e. (lefts (left_there common picture segment address e)).sao)
      (λ e. (aboves (above_there common picture segment address e)).sao) in
      ap judged same ∙ rw begins_same refl

  pub next_over : read_unit common picture segment address between
      ≡ then_next picture address between
      (unit_over common picture segment address left above between.last (between.engine, between.contexts))
  unfolding read_unit
  next_over =
      let s : State = (between.engine, between.contexts) in
      behind_is picture address between (read (unit_at common picture segment address between) s)
      ∙ ap (then_next picture address between) (sym (read_same s))
