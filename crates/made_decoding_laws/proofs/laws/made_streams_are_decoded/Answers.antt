use Rattle.made_decoding_laws.proofs.Shown.{goes_out, out_count}
use Rattle.made_decoding_laws.proofs.laws.made_streams_are_decoded.Goals as goal

pub returns-clause-stop : goal.returns-clause-stop
returns-clause-stop c = λ hash seed pictures. (goes_out hash seed pictures).stop

pub returns-clause-count : goal.returns-clause-count
returns-clause-count c = out_count

pub returns-clause-shown : goal.returns-clause-shown
returns-clause-shown c = λ hash seed pictures. (goes_out hash seed pictures).shown
