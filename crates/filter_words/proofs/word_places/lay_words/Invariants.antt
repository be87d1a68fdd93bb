use Rattle.std.proofs.Common.{◌+◌, ◌-◌, get_or}
use Rattle.sample_words.specs.Values.{modes_in}
use Rattle.spec_picture_filters.specs.Units.{place_of}
use Rattle.filter_words.specs.Filters.{known_place}
use Rattle.filter_words.specs.Regions.{LaysPlaces, is_inside}
use Rattle.filter_words.proofs.word_places.lay_words.Given as goal

abbrev pub invariant-loop-k : goal.invariant-loop-k
invariant-loop-k l =
    LaysPlaces (is_inside l.x (l.x + l.k) l.y (l.y + 1))
    (λ i j. place_of l.segment.deblocking
    (known_place l.segment.qp_bd_offset (modes_in (get_or l.words (i - l.x) 0)))) l.fn.around l.around
