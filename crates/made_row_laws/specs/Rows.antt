-- What a row's bytes have, and what is read of the rows of a picture (7.3.8.1).
use Rattle.std.specs.Prelude.{◌≡◌, ℕ, true, false, List, [], ◌∷◌, map, Some, Ok}
use Rattle.std.specs.List.{range_with_len}
use Rattle.header_types.specs.SequenceParameterSets.{size_in_ctbs}
use Rattle.plan_types.specs.declared.picture_plan.PicturePlan.{PicturePlan}
use Rattle.plan_types.specs.declared.segment_plan.SegmentPlan.{SegmentPlan}
use Rattle.ctu_records.specs.declared.item.Item.{Item}
use Rattle.spec_bits.specs.Bits.{bits}
use Rattle.spec_formats.specs.Format.{Has}
use Rattle.spec_cabac.specs.Bins.{bin_at}
use Rattle.spec_cabac.specs.Engine.{Engine, start_at}
use Rattle.spec_slice_data.specs.declared.syntax.CtuSyntax.{CtuSyntax}
use Rattle.spec_slice_data.specs.Segment.{SegmentShape, Between, ends_rightly, segment_data}
use Rattle.spec_picture_trees.specs.Picture.{TreeUnit, picture_read}
use Rattle.spec_picture_trees.specs.Shapes.{picture_shape, segment_shape, segment_syntax}
use Rattle.spec_made.specs.Written.{Bins}
use Rattle.made_row_laws.specs.Shapes.{made_shape}
use Rattle.made_row_laws.specs.Units.{unit_drawn, units_drawn}

-- the engine that starts at the first of these bytes has these words, from these contexts on, and behind them are the
-- bits that end a substream
pub record HasWords (bytes : List ℕ) (words : Bins) (contexts : List ℕ) : Type 0 where
  pub first : Engine
  pub last : Engine
  pub behind : List ℕ
  pub started : start_at (bits bytes) ≡ Some first
  pub has : Has bin_at (first, contexts) words (last, behind)
  pub ends : ends_rightly false last ≡ true

-- behind a state the units of a slice segment are read without a broken rule, and are those drawn of these items
pub record AreReadBack (common : CtuSyntax) (segment : SegmentShape) (items : ℕ → List Item)
    (before : Between) : Type 0 where
  pub after : Between
  pub read : segment_data common made_shape segment before ≡ Ok after
  pub units : after.units ≡ units_drawn items 48

-- a planned picture of one slice segment that is read by these
pub record IsReadBy (p : PicturePlan) (common : CtuSyntax) (segment : SegmentShape) : Type 0 where
  pub slice : SegmentPlan
  pub only : p.segments ≡ slice ∷ []
  pub size : size_in_ctbs p.sps ≡ 48
  pub shape : picture_shape p.sps p.pps ≡ made_shape
  pub syntax : segment_syntax p slice ≡ common
  pub segment_is : segment_shape p slice 0 48 ≡ segment

-- all units of a picture as they are handed over
abbrev pub tree_drawn : (ℕ → List Item) → ℕ → TreeUnit
tree_drawn items i = record { segment = 0; ctu = i; read = unit_drawn items i }

unfoldable pub trees_drawn : (ℕ → List Item) → List TreeUnit
trees_drawn items = map (tree_drawn items) (range_with_len 0 48)

-- the units of a planned picture are read without a broken rule, and are those drawn of these items
pub record IsReadAs (p : PicturePlan) (items : ℕ → List Item) : Type 0 where
  pub after : Between
  pub read : picture_read p [] ≡ Ok (record { between = after; given = trees_drawn items })
