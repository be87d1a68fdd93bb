use Rattle.std.proofs.Common.{◌≡◌, ℕ, length, get_or, arith}
use Rattle.sample_words.specs.Values.{modes_in}
use Rattle.spec_deblocking.specs.declared.place.Place.{Place}
use Rattle.spec_picture_filters.specs.Units.{place_of}
use Rattle.filter_words.specs.Filters.{known_place}
use Rattle.filter_words.proofs.Regions.{none_laid, place_laid, room_across, room_left, room_right, same_end}
use Rattle.filter_words.proofs.word_places.lay_words.Goals as goal

pub lay_place-requires-clause-column : goal.lay_place-requires-clause-column
lay_place-requires-clause-column c =
    room_across c.args.around.now c.loop-k.around c.args.x c.loop-k.k (length c.args.words.now)
    c.loop-k.invariant.format c.requires.columns c.loop-k-test.true

pub lay_place-requires-clause-first : goal.lay_place-requires-clause-first
lay_place-requires-clause-first c =
    room_left c.args.around.now c.loop-k.around c.args.y c.loop-k.invariant.format c.loop-k.invariant.above
    c.requires.first

pub lay_place-requires-clause-last : goal.lay_place-requires-clause-last
lay_place-requires-clause-last c =
    room_right c.args.around.now c.loop-k.around c.args.y c.loop-k.invariant.format c.loop-k.invariant.above
    c.requires.last

pub loop-k-init : goal.loop-k-init
loop-k-init c = none_laid c.args.x c.args.y _ c.args.around.now

pub loop-k-preserved : goal.loop-k-preserved
loop-k-preserved c =
    let rule : ℕ → Place = λ n.
    place_of c.args.segment.now.deblocking
    (known_place c.args.segment.now.qp_bd_offset (modes_in (get_or c.args.words.now n 0))) in
    place_laid c.args.x c.args.y c.loop-k.k rule c.word_place.result c.args.around.now c.loop-k.around
    c.lay_place.new.self c.word_place.ensures c.loop-k.invariant c.lay_place.ensures.format
    c.lay_place.ensures.above c.lay_place.ensures.places c.lay_place.ensures.units

pub returns : goal.returns
returns c =
    let end : c.loop-k.k ≡ length c.args.words.now = omega (arith, c.loop-k-test.false, c.loop-k.auto.k-end) in
    same_end c.args.x c.args.y c.loop-k.k (length c.args.words.now) _ c.args.around.now c.loop-k.around end
    c.loop-k.invariant
