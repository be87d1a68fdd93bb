use Rattle.std.proofs.Common.{pos}
use Rattle.spec_output_order.specs.CurrentPictures.{current_picture}
use Rattle.output_order.proofs.Sizes.{any_count}
use Rattle.output_order.proofs.dpb.Dpb.start.Goals as goal

pub returns-clause-value : goal.returns-clause-value
returns-clause-value c = λ poc.
    let count =
    any_count (current_picture c.args.header.now c.args.sps.now (pos 0)) poc c.args.self.now.pictures
    c.args.rps.now.marks in
    let value =
    rw (c.current_picture-current.ensures.value, c.fields.ensures.value, c.as_slice.ensures) at
    c.start_current.ensures.value in
    rw count value
