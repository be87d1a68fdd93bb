use Rattle.flight_views.proofs.Formats.{filters_in_range}
use Rattle.flight_views.proofs.picture_formats.formats_in.Goals as goal

pub returns : goal.returns
returns c =
    let filters = c.filter_format in
    record {
      common = c.in_ok-units.ensures.value;
      depths = c.in_ok-units.ensures.format;
      filters = filters.ensures.value;
      filter_range =
          filters_in_range c.args.plan.now filters.result filters.ensures.value filters.ensures.in_range;
    }
