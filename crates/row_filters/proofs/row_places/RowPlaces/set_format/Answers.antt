use Rattle.std.proofs.Common.{ap, sym, ◌∙◌}
use Rattle.row_filters.specs.Around.{Around}
use Rattle.row_filters.proofs.Around.{other_format}
use Rattle.row_filters.proofs.row_places.RowPlaces.set_format.Goals as goal

pub invariant_of-self : goal.invariant_of-self
invariant_of-self c =
    let width = c.requires.width ∙ sym (ap (λ (a : Around). a.format.width) c.self.view_is) in
    let size = c.requires.size ∙ sym (ap (λ (a : Around). a.format.ctb_size) c.self.view_is) in
    other_format c.self.inside.format c.args.format.now c.self.inside.above c.self.inside.places c.self.inside.kept
    c.self.inside.units c.self.invariant c.requires.is width size
