use Rattle.line_words.proofs.Waiting.{all_sound_on}
use Rattle.line_words.proofs.laws.waits_keep_units_sound.Goals as goal

pub returns : goal.returns
returns g c = λ m v w needs. all_sound_on m v w needs
