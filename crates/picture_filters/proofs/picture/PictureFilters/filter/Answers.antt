use Rattle.std.proofs.Common.{subst}
use Rattle.picture_filters.specs.Places.{HasPlaces}
use Rattle.picture_filters.specs.Units.{HasUnits}
use Rattle.header_types.specs.SequenceParameterSets.{height_in_ctbs}
use Rattle.spec_picture_trees.specs.Shapes.{picture_shape}
use Rattle.spec_picture_trees.specs.SpecSliceData.{PictureShape}
use Rattle.picture_filters.proofs.picture.PictureFilters.filter.Goals as goal

pub filter_planned-requires-clause-places : goal.filter_planned-requires-clause-places
unfolding picture_shape
filter_planned-requires-clause-places c =
    subst (λ (q : PictureShape). HasPlaces c.self.inside.places q.across q.down) c.self.invariant.0 c.self.invariant.1

pub filter_planned-requires-clause-units : goal.filter_planned-requires-clause-units
unfolding picture_shape
filter_planned-requires-clause-units c =
    subst (λ (q : PictureShape). HasUnits c.self.inside.units q.width (height_in_ctbs c.self.inside.plan.now.sps))
    c.self.invariant.0 c.self.invariant.2
