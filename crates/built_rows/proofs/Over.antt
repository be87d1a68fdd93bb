-- What a unit is read over: the contexts that it begins with, and what the unit above it leaves.
use Rattle.std.proofs.Common.{◌≡◌, ℕ, ◌+◌, ◌-◌, ◌*◌, ◌<◌, ◌≤◌, List, None, inl, inr}
use Rattle.std.proofs.Common.{sym, ap, subst, ◌∙◌, arith, zero-mul}
use Rattle.std.specs.Prelude.{if◌then◌else◌, OnOk, Result, Ok, Err}
use Rattle.std.proofs.lemmas.Bool.{and_parts, cases_lt, leb-true, lt-ltb}
use Rattle.hv_base.specs.declared.breach.Breach.{Breach}
use Rattle.header_types.specs.SequenceParameterSets.{width_in_ctbs}
use Rattle.plan_types.specs.declared.picture_plan.PicturePlan.{PicturePlan}
use Rattle.ctu_records.specs.Tree.{Ctu}
use Rattle.spec_slice_data.specs.Segment.{PictureShape}
use Rattle.spec_picture_trees.specs.Picture.{SegmentAt}
use Rattle.spec_picture_trees.specs.Places.{unit_places}
use Rattle.spec_picture_trees.specs.Shapes.{picture_shape}
use Rattle.spec_known_units.specs.Known.{ctu_of, units_known}
use Rattle.border_words.specs.UnitTrees.{Edge}
use Rattle.border_words.specs.UnitTrees.{UnitReader}
use Rattle.border_words.specs.UnitTrees.{bottom_of}
use Rattle.border_words.specs.FlightValueLaws.{IsTopEdge}
use Rattle.border_words.proofs.FlightValueLawsLemmas.{bottom_is}
use Rattle.border_words.proofs.FlightValueLawsLemmas.{shape_of}
use Rattle.row_waits.specs.RowTrees.{IsReadByKnown, IsUnder, OfSegment, Reads, StandsBefore, known_to}
use Rattle.built_rows.specs.Stages.{IsStored}

module _ (p : PicturePlan) (row x : ℕ) (inside : x < width_in_ctbs p.sps)
    (small : (picture_shape p.sps p.pps).size ≤ 4) where
  abbrev shape : PictureShape
  shape = picture_shape p.sps p.pps

  abbrev wide : ℕ
  wide = width_in_ctbs p.sps

  abbrev here : ℕ
  here = row * width_in_ctbs p.sps + x

  abbrev upper : ℕ
  upper = (row - 1) * width_in_ctbs p.sps + x

  -- the unit above
  up : 0 < row → row * width_in_ctbs p.sps + x - width_in_ctbs p.sps ≡ (row - 1) * width_in_ctbs p.sps + x
  up some =
      let e : (row - 1 + 1) * wide ≡ (row - 1) * wide + wide = grind arith in
      let f : row - 1 + 1 ≡ row = omega (arith, some) in
      let g : row * wide ≡ (row - 1) * wide + wide = ap (λ n. n * wide) (sym f) ∙ e in
      omega (arith, g)

  known_above : 0 < row → known_to p (row * width_in_ctbs p.sps + x) ((row - 1) * width_in_ctbs p.sps + x)
      ≡ units_known p ((row - 1) * width_in_ctbs p.sps + x)
  known_above some =
      let e : (row - 1 + 1) * wide ≡ (row - 1) * wide + wide = grind arith in
      let f : row - 1 + 1 ≡ row = omega (arith, some) in
      let g : row * wide ≡ (row - 1) * wide + wide = ap (λ n. n * wide) (sym f) ∙ e in
      ap (λ t. if t then units_known p upper else None) (lt-ltb upper here (omega (arith, g, inside)))

  width_of : (at : SegmentAt) → at.picture ≡ picture_shape p.sps p.pps → at.picture.width ≡ width_in_ctbs p.sps
  unfolding picture_shape
  width_of at picture = ap (λ (q : PictureShape). q.width) picture

  below_first : (at : SegmentAt) → at.picture.width ≡ width_in_ctbs p.sps
      → at.picture.width ≤ row * width_in_ctbs p.sps + x → 0 < row
  below_first at w over =
      elim (cases_lt 0 row) [
        | inl some ↦ some
        | inr none ↦
            let zero_row : row ≡ 0 = omega (arith, none) in
            let e : row * wide ≡ 0 * wide = ap (λ n. n * wide) zero_row in
            let none_wide : 0 * wide ≡ 0 = zero-mul wide in
            absurd (omega (arith, over, w, e, none_wide, inside))
      ]

  pub is_under : (above : Edge) (stored : List ℕ)
      → (0 < row → above ≡ bottom_of (unit_places (picture_shape p.sps p.pps))
      (ctu_of (picture_shape p.sps p.pps) (units_known p ((row - 1) * width_in_ctbs p.sps + x))))
      → OfSegment p (row * width_in_ctbs p.sps + x) (IsStored p (row * width_in_ctbs p.sps + x) stored)
      → OfSegment p (row * width_in_ctbs p.sps + x) (IsUnder p (row * width_in_ctbs p.sps + x) above stored)
  is_under above stored bottom has at having = record {
    contexts = has at having;
    on_top = λ there.
        let picture : at.picture ≡ shape = shape_of p here at having in
        let over : at.picture.width ≤ here = leb-true _ _ (and_parts _ _ there).0 in
        let w : at.picture.width ≡ wide = width_of at picture in
        let some : 0 < row = below_first at w over in
        let entry : known_to p here (here - at.picture.width) ≡ units_known p upper =
        ap (λ n. known_to p here (here - n)) w
        ∙ (ap (known_to p here) (up some) ∙ known_above some) in
        let edge : IsTopEdge shape here (ctu_of shape (units_known p upper)) above =
        subst (IsTopEdge shape here (ctu_of shape (units_known p upper))) (sym (bottom some))
        (bottom_is shape here (ctu_of shape (units_known p upper)) small) in
        subst (λ (q : PictureShape). IsTopEdge q here (ctu_of q (known_to p here (here - at.picture.width))) above)
        (sym picture)
        (subst (λ o. IsTopEdge shape here (ctu_of shape o) above) (sym entry) edge);
  }

-- by an answer a unit is read over an edge and contexts that are those above it
abbrev ReadsOver : PicturePlan → ℕ → Edge → List ℕ → Result (Unit {0}) Breach → Ctu → UnitReader → Edge → Type 0
ReadsOver p address above stored result ctu reader left =
    IsReadByKnown p address → OfSegment p address (IsUnder p address above stored)
    → Reads result p address ctu reader × OnOk result (StandsBefore p (address + 1) reader left)

where_ok : {X E : Type 0} (A B C : Type 0) (r : Result X E) → OnOk r (A → B → C) → A → B → OnOk r C
where_ok A B C (Ok x) h a b = h a b
where_ok A B C (Err e) h a b = tt

pub read_here : (q p : PicturePlan) (b a : ℕ) (above : Edge) (stored : List ℕ) (result : Result (Unit {0}) Breach)
    (ctu : Ctu) (reader : UnitReader) (left : Edge) → q ≡ p → b ≡ a
    → (IsReadByKnown q b → OfSegment q b (IsUnder q b above stored) → Reads result q b ctu reader)
    → OnOk result (IsReadByKnown q b → OfSegment q b (IsUnder q b above stored)
    → StandsBefore q (b + 1) reader left)
    → IsReadByKnown p a → OfSegment p a (IsUnder p a above stored)
    → Reads result p a ctu reader × OnOk result (StandsBefore p (a + 1) reader left)
read_here q p b a above stored result ctu reader left plan same reads stands =
    subst (λ n. ReadsOver p n above stored result ctu reader left) same
    (subst (λ r. ReadsOver r b above stored result ctu reader left) plan
    (λ known under. (reads known under, where_ok _ _ _ result stands known under)))
