use Rattle.std.proofs.Common.{◌≡◌, ◌≤◌, ◌*◌, ℕ, refl, sym, ap, subst, ◌∙◌, rules}
use Rattle.header_types.specs.declared.sps.PictureFormat.{PictureFormat}
use Rattle.picture_buffer.specs.Motion.{motions_of}
use Rattle.picture_buffer.specs.Planes.{HasSides, samples_of}
use Rattle.unit_build.specs.PictureFilters.{data_of}
use Rattle.spec_picture_build.specs.Border.{Samples}
use Rattle.spec_slice_data.specs.Segment.{PictureShape}
use Rattle.sample_laws.specs.SpecDecodedPictures.{decoded_by}
use Rattle.spec_picture_build.specs.References.{greatest_sample}
use Rattle.picture_build.specs.Building.{Building, units_by}
use Rattle.picture_build.specs.Pictures.{decoded_of}
use Rattle.plan_types.specs.declared.picture_plan.PicturePlan.{PicturePlan}
use Rattle.picture_build.proofs.Filtered.{bounded, decoded_is, same_sides}
use Rattle.picture_build.proofs.builder.PictureBuilder.into_picture.Goals as goal

pub filter-requires-clause-bounded : goal.filter-requires-clause-bounded
filter-requires-clause-bounded g c = λ k x y lt.
    let Q : Building → Type 0 = λ b. (k x y : ℕ) → samples_of b.planes k x y ≤ greatest_sample b.plan.sps.format k in
    let small = subst Q (sym c.self.view_is) c.requires in
    bounded c.self.inside.plan.now c.self.inside.filters.plan c.into_planes-planes.result c.self.invariant.7
    (λ i j l. subst (λ (f : Samples). f i j l ≤ greatest_sample c.self.inside.plan.now.sps.format i)
    (sym c.into_planes-planes.ensures.samples) (small i j l)) k x y

pub filter-requires-clause-sides : goal.filter-requires-clause-sides
filter-requires-clause-sides g c =
    let sides : HasSides c.into_planes-planes.result (4 * c.self.inside.layout.across) (4 * c.self.inside.layout.down) =
    subst (λ (q : PictureShape). HasSides c.into_planes-planes.result (4 * q.across) (4 * q.down)) c.self.invariant.1
    c.into_planes-planes.ensures.sides in
    same_sides c.into_planes-planes.result _ _ _ _
    (c.self.invariant.2 ∙ ap (λ (q : PicturePlan). q.sps.format.pic_width_in_luma_samples) (sym c.self.invariant.7))
    (c.self.invariant.3 ∙ ap (λ (q : PicturePlan). q.sps.format.pic_height_in_luma_samples) (sym c.self.invariant.7))
    sides

pub returns : goal.returns
returns g c =
    let building : Building = record {
      plan = c.self.inside.plan.now;
      planes = c.into_planes-planes.result;
      motion = c.self.inside.field;
      filters = c.self.inside.filters;
    } in
    let format : PictureFormat = c.fields.result.now.format in
    let same : format ≡ c.self.inside.plan.now.sps.format = search rules in
    let sides : HasSides c.into_planes-planes.result (4 * c.self.inside.layout.across) (4 * c.self.inside.layout.down) =
    subst (λ (q : PictureShape). HasSides c.into_planes-planes.result (4 * q.across) (4 * q.down)) c.self.invariant.1
    c.into_planes-planes.ensures.sides in
    let Q : Building → Type 0 = λ b. decoded_of c.new-picture.result ≡ decoded_by b.plan (units_by b) in
    subst Q c.self.view_is (ap decoded_of c.new-picture.ensures
    ∙ decoded_is building c.self.inside.layout format c.filter.new.planes c.self.inside.field c.self.invariant.0
    c.self.invariant.2 c.self.invariant.3 c.self.invariant.7
    sides c.filter.ensures.sides same refl c.filter.ensures.value
    ∙ ap (λ (f : Samples). decoded_by c.self.inside.plan.now (record {
      samples = f;
      motions = motions_of c.self.inside.field;
      filters = data_of c.self.inside.filters;
    }))
    c.into_planes-planes.ensures.samples)
