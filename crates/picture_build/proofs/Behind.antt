-- The motion of a picture and what its loop filters need while its units are added one after the other.
use Rattle.std.proofs.Common.{◌≡◌, ℕ, ◌≤◌, List, [], ◌∷◌, ◌++◌, slice_get, Option, Some, None, sym, ap, subst, ◌∙◌}
use Rattle.std.proofs.Common.{arith}
use Rattle.std.specs.List.{All}
use Rattle.std.proofs.lemmas.List.Sums.{fold-append}
use Rattle.ctu_records.specs.declared.item.Item.{Item}
use Rattle.ctu_records.specs.Tree.{Ctu, qp_at}
use Rattle.plan_types.specs.declared.picture_plan.PicturePlan.{PicturePlan}
use Rattle.plan_types.specs.declared.segment_plan.SegmentPlan.{SegmentPlan}
use Rattle.picture_buffer.specs.Pictures.{HeldPicture}
use Rattle.unit_build.specs.PictureFilters.{UnitFilters}
use Rattle.unit_build.specs.PictureFilters.{IsGiven}
use Rattle.spec_motion.specs.Units.{IsPlacedItem}
use Rattle.picture_trees.specs.SpecPictureTrees.{TreeUnit}
use Rattle.spec_picture_motion.specs.Derived.{References, unit_added as motion_added}
use Rattle.spec_picture_motion.specs.Field.{Motions, no_motions}
use Rattle.unit_build.specs.SpecPictureFilters.{FilterData, no_data}
use Rattle.unit_build.specs.SpecPictureFilters.{Behind, added_in, before_units, both_added, units_behind, with_unit}
use Rattle.unit_build.specs.SpecPictureFilters.{read_added}
use Rattle.spec_picture_build.specs.References.{motions_of}
use Rattle.spec_reconstruction.specs.declared.format.UnitFormat.{UnitFormat}
use Rattle.spec_reconstruction.specs.Sound.{AreSound}
use Rattle.spec_transforms.specs.Scaling.{IsDepth}
use Rattle.picture_build.specs.Pictures.{buffer_of}
use Rattle.picture_build.proofs.Deriving.{all_placed}

-- both by their parts
abbrev of_parts : Motions → FilterData → Behind
of_parts motions gathered = record { motions = motions; gathered = gathered }

same_behind : (m n : Motions) (f g : FilterData) → m ≡ n → f ≡ g → of_parts m f ≡ of_parts n g
same_behind m n f g em eg = ap (λ v. of_parts v f) em ∙ ap (λ v. of_parts n v) eg

-- before the first unit
pub behind_none : (pictures : References) (p : PicturePlan) (motions : Motions) (gathered : FilterData)
    → motions ≡ no_motions → gathered ≡ no_data → of_parts motions gathered ≡ units_behind pictures p []
unfolding units_behind
behind_none pictures p motions gathered still empty = same_behind motions no_motions gathered no_data still empty

-- behind one unit more
pub behind_more : (pictures : References) (p : PicturePlan) (old : Behind) (given : List TreeUnit) (unit : TreeUnit)
    → old ≡ units_behind pictures p given
    → with_unit pictures p old unit ≡ units_behind pictures p (given ++ unit ∷ [])
unfolding units_behind
behind_more pictures p old given unit e =
    ap (λ b. with_unit pictures p b unit) e ∙ sym (fold-append (with_unit pictures p) before_units given (unit ∷ []))

-- a unit of a segment of the picture, and one of none
pub added_some : (pictures : References) (p : PicturePlan) (behind : Behind) (unit : TreeUnit) (s : SegmentPlan)
    → slice_get p.segments unit.segment ≡ Some s
    → added_in pictures p (Some s) unit behind ≡ with_unit pictures p behind unit
added_some pictures p behind unit s e = ap (λ (o : Option SegmentPlan). added_in pictures p o unit behind) (sym e)

pub added_none : (pictures : References) (p : PicturePlan) (behind : Behind) (unit : TreeUnit)
    → slice_get p.segments unit.segment ≡ None → behind ≡ with_unit pictures p behind unit
added_none pictures p behind unit e = ap (λ (o : Option SegmentPlan). added_in pictures p o unit behind) (sym e)

-- Qp'Y of items that are sound fits in 7 bits
few_parameters : (format : UnitFormat) (items : List Item) → IsDepth format.luma_depth → AreSound format items
    → (i j : ℕ) → qp_at items i j ≤ 127
few_parameters format items depth sound i j =
    let most = sound.parameters i j in
    let deep = depth.1 in
    omega (arith, most, deep)

-- behind a unit of a segment
behind_over : (pictures : References) (p q : PicturePlan) (s : SegmentPlan) (unit : TreeUnit) (format : UnitFormat)
    (old : Behind) (motions : Motions) (gathered : FilterData)
    → q ≡ p → IsDepth format.luma_depth → AreSound format unit.read.items
    → (All IsPlacedItem unit.read.items → motions ≡ motion_added pictures p s unit old.motions)
    → (All IsPlacedItem unit.read.items → ((i j : ℕ) → qp_at unit.read.items i j ≤ 127)
    → gathered ≡ read_added q s unit.ctu unit.read (motion_added pictures p s unit old.motions) old.gathered)
    → of_parts motions gathered ≡ added_in pictures p (Some s) unit old
unfolding both_added
behind_over pictures p q s unit format old motions gathered e depth sound moved told =
    let placed = all_placed format unit.read.items sound in
    same_behind motions (motion_added pictures p s unit old.motions) gathered
    (read_added p s unit.ctu unit.read (motion_added pictures p s unit old.motions) old.gathered)
    (moved placed)
    (told placed (few_parameters format unit.read.items depth sound)
    ∙ ap (λ r. read_added r s unit.ctu unit.read (motion_added pictures p s unit old.motions) old.gathered) e)

pub behind_unit : (bases pictures : List HeldPicture) (p q : PicturePlan) (s : SegmentPlan) (unit : TreeUnit)
    (format : UnitFormat) (old : Behind) (motions : Motions) (gathered : FilterData) (given : UnitFilters)
    → bases ≡ pictures → q ≡ p → IsDepth format.luma_depth → AreSound format unit.read.items
    → (All IsPlacedItem unit.read.items → motions ≡ motion_added (motions_of (buffer_of bases)) p s unit old.motions)
    → (All IsPlacedItem unit.read.items → ((i j : ℕ) → qp_at unit.read.items i j ≤ 127)
    → IsGiven p s unit.ctu unit.read (motion_added (motions_of (buffer_of bases)) p s unit old.motions)
    old.gathered.coded given)
    → ((ctu : Ctu) (motions : Motions) → IsGiven q s unit.ctu ctu motions old.gathered.coded given
    → gathered ≡ read_added q s unit.ctu ctu motions old.gathered)
    → of_parts motions gathered ≡ added_in (motions_of (buffer_of pictures)) p (Some s) unit old
behind_unit bases pictures p q s unit format old motions gathered given eb e depth sound moved gives laid =
    behind_over (motions_of (buffer_of bases)) p q s unit format old motions gathered e depth sound moved
    (λ placed few. laid unit.read (motion_added (motions_of (buffer_of bases)) p s unit old.motions)
    (subst (λ r. IsGiven r s unit.ctu unit.read (motion_added (motions_of (buffer_of bases)) p s unit old.motions)
    old.gathered.coded given) (sym e) (gives placed few)))
    ∙ ap (λ b. added_in (motions_of (buffer_of b)) p (Some s) unit old) eb
