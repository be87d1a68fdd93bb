use Rattle.std.proofs.Common.{rules, ◌≡◌, ◌∙◌, ap, subst, sym}
use Rattle.header_types.specs.SequenceParameterSets.{height_in_ctbs}
use Rattle.picture_filters.specs.Places.{HasPlaces, places_of}
use Rattle.picture_filters.specs.Units.{units_of}
use Rattle.slice_types.specs.declared.slice.SliceDeblocking.{SliceDeblocking}
use Rattle.spec_picture_filters.specs.Units.{read_added}
use Rattle.spec_picture_trees.specs.SpecSliceData.{PictureShape}
use Rattle.picture_filters.specs.Filtering.{Filtering, IsUnit, coded_part, data_of, filter_places_laid, gathered}
use Rattle.picture_filters.specs.Filtering.{read_place}
use Rattle.picture_filters.specs.Given.{IsGiven, offsets_laid}
use Rattle.picture_filters.proofs.Gathered.{data_added}
use Rattle.picture_filters.proofs.Units.{offsets_are_read}
use Rattle.picture_filters.proofs.picture.PictureFilters.lay.Goals as goal

pub invariant_of-self : goal.invariant_of-self
invariant_of-self c =
    let places : HasPlaces c.lay_places.new.field c.self.inside.layout.across c.self.inside.layout.down =
    search rules in
    (c.self.invariant.0, places, c.lay_offsets.ensures.sides _ _ c.self.invariant.2, c.self.invariant.3)

pub returns-clause-value : goal.returns-clause-value
returns-clause-value c = λ ctu motions is_given.
    let unit = c.unit_of-unit.result in
    let s = c.args.segment.now in
    let given = c.args.given.now in
    let before : Filtering =
    record { plan = c.self.inside.plan.now; places = c.self.inside.places; units = c.self.inside.units } in
    let same : before ≡ c.args.self.now = search rules in
    let is : IsUnit before.plan s unit =
    subst (λ (f : Filtering). IsUnit f.plan s unit) (sym same) c.unit_of-unit.ensures.unit in
    let told : IsGiven before.plan s unit.address ctu motions (coded_part (places_of before.places)) given =
    rw c.unit_of-unit.ensures.address (subst
    (λ (f : Filtering). IsGiven f.plan s c.args.address ctu motions (data_of f).coded given) (sym same) is_given) in
    rw (← c.unit_of-unit.ensures.address) (subst
    (λ (f : Filtering). gathered (places_of c.lay_places.new.field) (units_of c.lay_offsets.new.units)
    ≡ read_added f.plan s unit.address ctu motions (data_of f))
    same
    (data_added before.plan s unit ctu motions (read_place given.places)
    (places_of before.places) (places_of c.lay_places.new.field) (units_of before.units)
    (units_of c.lay_offsets.new.units)
    is told.places
    (λ i j. subst (λ (d : SliceDeblocking). places_of c.lay_places.new.field i j
    ≡ filter_places_laid unit.layout unit.address d (read_place given.places) (places_of before.places) i j)
    told.deblocking (c.lay_places.ensures.value i j))
    (λ k i j. c.lay_offsets.ensures.value (height_in_ctbs before.plan.sps) c.self.invariant.2.rows k i j
    ∙ (ap (λ (q : PictureShape). offsets_laid q unit.address (height_in_ctbs before.plan.sps) given.offsets
    (units_of before.units) k i j) is.layout
    ∙ offsets_are_read before.plan s unit.address ctu.sao given.offsets (units_of before.units) k i j told.offsets))))
