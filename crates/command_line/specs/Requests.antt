-- Requests whose numbers are those that may be given.
use Rattle.decoder.specs.Options.{IsInRange}
use Rattle.command_line.specs.declared.request.Request.{Request}
use Rattle.command_line.specs.declared.request.Request.TheVariants.{Decode, Make}

abbrev pub AsksInRange : Request → Type 0
AsksInRange (Decode options) = IsInRange options
AsksInRange (Make options) = Unit {0}
