use Rattle.std.proofs.Common.{◌≡◌, ◌≤◌, ◌+◌, max, sym, subst, ap, ◌∙◌}
use Rattle.unit_build.specs.CtuBuild.{held}
use Rattle.picture_buffer.specs.Planes.{samples_of}
use Rattle.spec_picture_build.specs.Built.{unit_laid}
use Rattle.spec_slice_data.specs.Segment.{PictureShape}
use Rattle.picture_build.specs.Fresh.{Fresh, laid_planes}
use Rattle.picture_build.proofs.LaidUnits.{more_laid}
use Rattle.picture_build.proofs.fresh.FreshPlanes.lay_unit.Goals as goal

pub returns-clause-value : goal.returns-clause-value
returns-clause-value c =
    let i = c.self.inside in
    let unit = c.args.unit.now in
    let same : unit.layout ≡ i.layout = c.requires.picture ∙ sym (ap (λ (f : Fresh). f.picture) c.self.view_is) in
    let order : unit.address ≤ i.laid =
    subst (λ (f : Fresh). unit.address ≤ f.laid) (sym c.self.view_is) c.requires.order in
    more_laid i.layout unit.address i.laid _ (held c.args.samples.now) i.planes c.lay_unit.new.planes c.self.invariant
    order (c.max-self-inside.ensures ∙ ap (λ n. max i.laid (n + 1)) c.from.ensures)
    (subst (λ (q : PictureShape). samples_of c.lay_unit.new.planes
    ≡ unit_laid q unit.address (held c.args.samples.now) (samples_of i.planes)) same c.lay_unit.ensures.value)
    ∙ ap (λ (q : PictureShape). unit_laid q unit.address (held c.args.samples.now)
    (samples_of (laid_planes i.layout i.laid i.planes))) (sym same)
    ∙ ap (λ (f : Fresh). unit_laid unit.layout unit.address (held c.args.samples.now) (samples_of f.planes))
    c.self.view_is
