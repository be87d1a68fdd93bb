-- The units of a picture, as a slice segment's data and as they are handed over.
use Rattle.std.proofs.Common.{◌≡◌, ℕ, zero, suc, ◌+◌, ◌<◌, List, [], ◌∷◌}
use Rattle.std.proofs.Common.{◌++◌, length, map, get_or, refl, sym, ap, subst, ◌∙◌, arith, append_assoc, append-nil}
use Rattle.std.proofs.Common.{inl, inr}
use Rattle.std.proofs.Common.{pos}
use Rattle.std.specs.Prelude.{Result, Ok, slice_index_or}
use Rattle.std.specs.List.{range_with_len}
use Rattle.std.proofs.lemmas.Bool.{cases_lt}
use Rattle.std.proofs.lemmas.List.{get_or_past}
use Rattle.std.proofs.lemmas.List.FromFn.{get_or-map-range_with_len}
use Rattle.hv_base.specs.declared.breach.Breach.{Breach}
use Rattle.header_types.specs.SequenceParameterSets.{size_in_ctbs}
use Rattle.plan_types.specs.declared.picture_plan.PicturePlan.{PicturePlan}
use Rattle.plan_types.specs.declared.segment_plan.SegmentPlan.{SegmentPlan}
use Rattle.ctu_records.specs.declared.item.Item.{Item}
use Rattle.ctu_records.specs.Tree.{Ctu}
use Rattle.spec_cabac.specs.Contexts.{first_contexts}
use Rattle.spec_slice_data.specs.declared.syntax.CtuSyntax.{CtuSyntax}
use Rattle.spec_slice_data.specs.Segment.{Between, and_then, nothing_read, no_group, units_from}
use Rattle.spec_picture_trees.specs.Picture.{SegmentAt, Progress, Halt, TreeUnit, segment_at, then_units, units_read}
use Rattle.spec_picture_trees.specs.Picture.{and_segments, before_picture, picture_read, segments_read}
use Rattle.spec_picture_trees.specs.Shapes.{end_of}
use Rattle.spec_made.specs.declared.units.InterUnit.{InterUnit}
use Rattle.spec_made.specs.declared.units.Motion.{Motion}
use Rattle.spec_made.specs.declared.units.PcmUnit.{PcmUnit}
use Rattle.spec_made.specs.Written.{Bins}
use Rattle.spec_made.specs.InterRows.{contexts_at, contexts_of_motion, init_type, inter_row}
use Rattle.spec_made.specs.PcmRows.{no_samples, pcm_contexts_at, pcm_row}
use Rattle.made_row_laws.specs.Rows.{AreReadBack, IsReadBy, IsReadAs, tree_drawn, trees_drawn}
use Rattle.made_row_laws.specs.Shapes.{made_shape, made_segment, idr_syntax, predicted_syntax}
use Rattle.made_row_laws.specs.Units.{ArePcmUnits, IsMotion, inter_items, pcm_items, unit_drawn, units_drawn}
use Rattle.made_row_laws.specs.Words.{flags_behind, inter_words, pcm_words}
use Rattle.made_row_laws.proofs.Drawn.{inter_at, pcm_at, spelled_alone}
use Rattle.made_row_laws.proofs.InterRow.{inter_has, inter_stored}
use Rattle.made_row_laws.proofs.PcmRow.{AreByteSamples, pcm_has, pcm_stored}
use Rattle.made_row_laws.proofs.Reading.{AreRows, Steps, Rows, rows_read}

-- ---- P and B pictures, and IDR pictures

first_row : (m : Motion) (units : List InterUnit)
    → contexts_at (contexts_of_motion m) m units 0 ≡ first_contexts (pos 26) (init_type m.second)
unfolding contexts_at
first_row m units = refl

pub inter_rows : (m : Motion) (units : List InterUnit) → IsMotion m
    → AreRows (predicted_syntax m.second) (init_type m.second) (inter_row m units) (inter_items m units)
    (inter_words m units) (contexts_at (contexts_of_motion m) m units)
inter_rows m units small = record {
  spelled = λ i between inside is last.
      spelled_alone _ _ (inter_words m units i) (flags_behind i)
      (inter_at (init_type m.second) (inter_row m units) m units i between [] inside small is last);
  has = λ r few. inter_has m units r few;
  first = first_row m units;
  stored = λ r few. inter_stored m units r (contexts_of_motion m) few;
}

pub bytes_each : (units : List PcmUnit) → ArePcmUnits units → (i : ℕ) → AreByteSamples (get_or units i no_samples)
bytes_each units are i =
    elim (cases_lt i (length units)) [
      | inl inside ↦ (are.each i no_samples inside).bytes
      | inr past ↦ subst (λ (u : PcmUnit). AreByteSamples u) (sym (get_or_past units i no_samples past))
          (λ k d inside. absurd (omega arith))
    ]

count_each : (units : List PcmUnit) → ArePcmUnits units → (i : ℕ) → i < 48
    → length (get_or units i no_samples).samples ≡ 384
count_each units are i inside = (are.each i no_samples (omega (arith, are.count))).count

first_pcm : (units : List PcmUnit) → pcm_contexts_at units 0 ≡ first_contexts (pos 26) 0
unfolding pcm_contexts_at
first_pcm units = refl

pub pcm_rows : (units : List PcmUnit) → ArePcmUnits units
    → AreRows idr_syntax 0 (pcm_row units) (pcm_items units) (pcm_words units) (pcm_contexts_at units)
pcm_rows units are = record {
  spelled = λ i between inside is last.
      spelled_alone _ _ (pcm_words units i) (flags_behind i)
      (pcm_at 0 (pcm_row units) units i between [] inside (count_each units are i inside) is last);
  has = λ r few. pcm_has units (bytes_each units are) r few;
  first = first_pcm units;
  stored = λ r few. pcm_stored units r few;
}

-- ---- what is read

module _ (common : CtuSyntax) (init_type : ℕ) (row : ℕ → List ℕ) (items : ℕ → List Item) (words : ℕ → Bins)
    (contexts : ℕ → List ℕ) where
  none_drawn : [] ≡ units_drawn items 0
  unfolding units_drawn
  none_drawn = refl

  all_rows : (between : Between) → AreRows common init_type row items words contexts → between.units ≡ []
      → Rows common init_type row items words contexts 6 0 between
  all_rows between are none =
      rows_read common init_type row items words contexts 6 0 between are refl (none ∙ none_drawn)
      (λ some. absurd (omega arith))

  steps_from : (n i : ℕ) (between after : Between) → Steps common init_type row items words contexts n i between after
      → units_from common made_shape (made_segment init_type row) n i between ≡ Ok after
  unfolding units_from
  steps_from zero i between after s = ap (λ (b : Between). Ok b) s
  steps_from (suc n) i between after s =
      ap (λ (r : Result Between Breach). and_then i r (units_from common made_shape (made_segment init_type row) n
      (i + 1)))
      s.1
      ∙ steps_from n (i + 1) s.0 after s.3

  pub read_back : (between : Between) → AreRows common init_type row items words contexts → between.units ≡ []
      → AreReadBack common (made_segment init_type row) items between
  read_back between are none =
      let all : Rows common init_type row items words contexts 6 0 between = all_rows between are none in
      record {
        after = all.after;
        read = steps_from 48 0 between all.after (all.steps 48 refl);
        units = all.units;
      }

  -- the units of the segment, as they are handed over
  abbrev at : ℕ → SegmentAt
  at nal = record {
    number = 0;
    nal = nal;
    syntax = common;
    picture = made_shape;
    shape = made_segment init_type row;
  }

  last_unit : (units : List Ctu) (i : ℕ) (d : Ctu) → units ≡ units_drawn items (i + 1)
      → slice_index_or units i d ≡ unit_drawn items i
  unfolding units_drawn
  last_unit units i d is =
      ap (λ l. get_or l i d) is
      ∙ get_or-map-range_with_len (unit_drawn items) 0 (i + 1) i i d (omega arith) (omega arith)

  steps_given : (n i nal : ℕ) (between after : Between) (given : List TreeUnit)
      → Steps common init_type row items words contexts n i between after
      → units_read (at nal) n i (record { between = between; given = given })
      ≡ Ok (record { between = after; given = given ++ map (tree_drawn items) (range_with_len i n) })
  unfolding units_read
  steps_given zero i nal between after given s =
      ap (λ (b : Between). Ok (record { between = b; given = given })) s
      ∙ ap (λ (l : List TreeUnit). Ok (record { between = after; given = l })) (sym (append-nil given))
  steps_given (suc n) i nal between after given s =
      let unit : TreeUnit = tree_drawn items i in
      let later : List TreeUnit = map (tree_drawn items) (range_with_len (i + 1) n) in
      ap (λ (r : Result Between Breach). then_units (at nal) i given r (units_read (at nal) n (i + 1))) s.1
      ∙ ap (λ (c : Ctu). units_read (at nal) n (i + 1) (record {
        between = s.0;
        given = given ++ record { segment = 0; ctu = i; read = c } ∷ [];
      })) (last_unit s.0.units i (nothing_read 2 no_group) s.2)
      ∙ steps_given n (i + 1) nal s.0 after (given ++ unit ∷ []) s.3
      ∙ ap (λ (l : List TreeUnit). Ok (record { between = after; given = l })) (append_assoc given (unit ∷ []) later)

  segment_at_is : (p : PicturePlan) (is : IsReadBy p common (made_segment init_type row))
      → segment_at p 0 0 is.slice [] ≡ at is.slice.header.nal
  segment_at_is p is = rw (is.size, is.shape, is.syntax, is.segment_is) refl

  one_segment : (p : PicturePlan) (s : SegmentPlan) (start after : Progress)
      → units_read (segment_at p 0 0 s []) (segment_at p 0 0 s []).shape.count (segment_at p 0 0 s []).shape.first start
      ≡ Ok after
      → segments_read p 0 0 (s ∷ []) start ≡ Ok after
  unfolding segments_read
  one_segment p s start after read =
      ap (λ (r : Result Progress Halt). and_segments r (segments_read p 1 (end_of (size_in_ctbs p.sps) 0 []) [])) read

  none : before_picture.units ≡ []
  unfolding before_picture
  none = refl

  pub picture_back : (p : PicturePlan) → AreRows common init_type row items words contexts
      → IsReadBy p common (made_segment init_type row) → IsReadAs p items
  unfolding picture_read trees_drawn
  picture_back p are is =
      let all : Rows common init_type row items words contexts 6 0 before_picture = all_rows before_picture are none in
      let start : Progress = record { between = before_picture; given = [] } in
      let end : Progress = record { between = all.after; given = map (tree_drawn items) (range_with_len 0 48) } in
      let read : units_read (at is.slice.header.nal) 48 0 start ≡ Ok end =
      steps_given 48 0 is.slice.header.nal before_picture all.after [] (all.steps 48 refl) in
      let there = subst (λ (a : SegmentAt). units_read a a.shape.count a.shape.first start ≡ Ok end)
      (sym (segment_at_is p is)) read in
      record {
        after = all.after;
        read =
            ap (λ (l : List SegmentPlan). segments_read p 0 0 l start) is.only
            ∙ one_segment p is.slice start end there;
      }
