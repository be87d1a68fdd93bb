use Rattle.std.proofs.Common.{true}
use Rattle.decoder.specs.Buffers.{buffer_of}
use Rattle.decoder.proofs.Writes.{end-written, end-over}
use Rattle.decoder.proofs.writing.write_end.Goals as goal

pub returns-in-Ok : goal.returns-in-Ok
returns-in-Ok g c =
    rw c.outcome_of.ensures (end-written g.O.Sink.contents g.O.Sink.faults c.args.form true c.args.out.now
    c.write.new.out c.args.buffer.now.number c.write.new.self.number
    (buffer_of c.args.buffer.now) c.args.last.now c.args.stop c.in-Ok.ensures.wrote)

pub returns-in-Err : goal.returns-in-Err
returns-in-Err g c =
    end-over g.O.Sink.contents g.O.Sink.faults c.args.form true c.args.out.now c.write.new.out
    c.args.buffer.now.number (buffer_of c.args.buffer.now)
    c.args.last.now c.args.stop c.in-Err.outcome c.in-Err.ensures.wrote
