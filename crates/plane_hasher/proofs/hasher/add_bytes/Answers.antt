use Rattle.std.proofs.Common.{rules, length}
use Rattle.plane_hasher.proofs.Adding.{all_added, none_added, none_left, piece_added, refilled}
use Rattle.plane_hasher.proofs.hasher.add_bytes.Goals as goal

pub pieces-init : goal.pieces-init
pieces-init c = record {
  added = none_added c.args.depth c.args.hash.now c.args.samples.now;
  room = search rules;
}

pub pieces-preserved : goal.pieces-preserved
pieces-preserved c = record {
  added = piece_added c.args.depth c.args.hash.now c.pieces.hash c.add_piece.new.hash c.args.samples.now
      c.pieces.rest.now c.split_at.result.0.now c.split_at.result.1.now c.split_at.ensures.by_index.0
      c.pieces.invariant.added c.add_piece.ensures.held;
  room = refilled 1024 c.pieces.bytes c.add_piece.new.bytes (length c.split_at.result.0.now) c.pieces.invariant.room
      (search rules) (search rules);
}

pub returns : goal.returns
returns c =
    all_added c.args.depth c.args.hash.now c.pieces.hash c.args.samples.now c.pieces.rest.now
    (none_left c.pieces.rest.now (search rules))
    c.pieces.invariant.added
