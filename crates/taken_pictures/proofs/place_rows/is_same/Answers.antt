use Rattle.std.proofs.Common.{rules, slice_index}
use Rattle.taken_pictures.proofs.Kept.{same_kept}
use Rattle.taken_pictures.proofs.place_rows.is_same.Goals as goal

pub returns-then-row-column : goal.returns-then-row-column
returns-then-row-column c = λ same p address.
    let row = c.args.row.now in
    same_kept p address (slice_index row.vectors c.args.column) (slice_index row.vectors c.args.other)
    (slice_index row.modes c.args.column) (slice_index row.modes c.args.other) (search rules) (search rules)
