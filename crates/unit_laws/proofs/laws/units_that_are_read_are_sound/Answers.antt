use Rattle.unit_laws.proofs.Pictures.{format-fits, read-sound, halted-sound}
use Rattle.unit_laws.proofs.laws.units_that_are_read_are_sound.Goals as goal

pub returns : goal.returns
returns c = record {
  format = λ p s sps. format-fits p sps s;
  read = λ p progress sps is k d inside s. read-sound p sps s progress is k d inside;
  halted = λ p halt sps is k d inside s. halted-sound p sps s halt is k d inside;
}
