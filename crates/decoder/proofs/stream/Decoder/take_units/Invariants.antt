-- The units so far are taken.
use Rattle.std.proofs.Common.{◌≡◌, ℕ, Bool, List}
use Rattle.spec_nal_units.specs.Judged.{Told}
use Rattle.decoder.specs.Headline.{change_of}
use Rattle.decoder.specs.Taking.{HasTaken, Reached, StillTells, left_of}
use Rattle.decoder.proofs.stream.Decoder.take_units.Given as goal

abbrev pub invariant-units : goal.invariant-units
invariant-units g l = record {
  reached : (ended : Bool) (bytes : List ℕ) (given later : List Told) (gained : List ℕ)
      → StillTells l.fn.framer ended bytes given later → HasTaken l.options l.fn.self given gained
      → (rest : List Told)
      × Reached l.options (change_of g.O.Sink.contents g.O.Sink.faults l.fn.out l.out) l.framer l.self ended bytes
      gained
      rest;
  finished : l.framer.finished ≡ l.fn.framer.finished;
}

abbrev pub decreases-units : goal.decreases-units
decreases-units g l = left_of l.framer
