use Rattle.flight_views.proofs.Viewed.{filters_there, format_there}
use Rattle.flight_views.proofs.flight_views.FlightViews.filters.Goals as goal

pub returns-clause-value : goal.returns-clause-value
returns-clause-value c = λ plan has.
    let shared = c.requires.shared in
    (format_there c.args.self.now shared.facts shared.view c.args.place c.requires.inside plan c.index.result.now has
    c.index.ensures).filters

pub returns-clause-in_range : goal.returns-clause-in_range
returns-clause-in_range c =
    let shared = c.requires.shared in
    filters_there c.args.self.now shared.facts shared.view c.args.place c.requires.inside c.index.result.now
    c.index.ensures
