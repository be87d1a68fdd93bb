-- What is known of a unit between two items.
use Rattle.ctu_build.specs.declared.coding.Coding.{Coding}
use Rattle.spec_reconstruction.specs.Known.{Known}
use Rattle.spec_reconstruction.specs.Unit.{Building}

-- what is known of the coding unit, and the samples
abbrev pub building : Coding → Known → Building
building coding known = record { mode = coding.mode; chroma_mode = coding.chroma_mode; known = known }
