-- What a run owes: the pictures of sequential decoding up to the first broken rule or stated limit, and that rule or
-- limit; less only for want of memory or a counted read or write fault.
use Rattle.std.specs.Prelude.{◌≡◌, ℕ, Bool, true, false, List, take, Option, Some, None, IfSome, ◌⊎◌}
use Rattle.std.specs.List.{concat}
use Rattle.hv_base.specs.declared.outcome.Outcome.{Outcome}
use Rattle.hv_base.specs.declared.outcome.Outcome.TheVariants as outcome
use Rattle.hv_base.specs.declared.refusal.Stop.{Stop}
use Rattle.hv_base.specs.declared.refusal.Stop.TheVariants as stop
use Rattle.hv_io.specs.Streams.{Rose, IsSpent, Takes, Gains, GainsPrefix}
use Rattle.spec_decoder.specs.declared.form.Form.{Form}
use Rattle.spec_decoder.specs.Decoder.{Decoded, decoded, bytes_of}
use Rattle.spec_decoder.specs.Output.{written}

-- the outcome of a stream: success where nothing stops it, and else the broken rule or the limit that does
abbrev pub outcome_of : Option Stop → Outcome
outcome_of None = outcome.Ok
outcome_of (Some (stop.Fault f)) = outcome.Fault f
outcome_of (Some (stop.Limit l)) = outcome.Limit l

-- what a source or a sink tells, its bytes and its count of faults, before and after a run
pub record Change : Type 0 where
  pub before : Option (List ℕ)
  pub after : Option (List ℕ)
  pub faults_before : ℕ
  pub faults_after : ℕ

-- by the meanings of a source or a sink: its bytes and its count of faults
abbrev pub change_of : {X : Type 0} → (X → Option (List ℕ)) → (X → ℕ) → X → X → Change
change_of bytes faults before after =
    record { before = bytes before; after = bytes after; faults_before = faults before; faults_after = faults after }

-- the count of faults rose in the run
abbrev pub Failed : Change → Type 0
Failed c = Rose c.faults_before c.faults_after

-- the count of faults is as before
abbrev pub IsQuiet : Change → Type 0
IsQuiet c = c.faults_after ≡ c.faults_before

-- the sink gained all the bytes of what is decoded, in this form
abbrev pub GainsAll : Form → Change → Decoded → Type 0
GainsAll form out d = Gains out.before out.after (bytes_of form d)

-- whole pictures or whole lines, the first of them
abbrev pub GainsWhole : Form → Change → Decoded → Type 0
GainsWhole form out d = (n : ℕ) × Gains out.before out.after (concat (take n (written form 0 d.pictures)))

-- a prefix of its bytes
abbrev pub GainsCut : Form → Change → Decoded → Type 0
GainsCut form out d = GainsPrefix out.before out.after (bytes_of form d)

-- the outcome is that of what is decoded, and the sink gained all its bytes
abbrev pub IsResult : Form → Change → Outcome → Decoded → Type 0
IsResult form out o d = (o ≡ outcome_of d.stop) × GainsAll form out d

-- where the source told its bytes, the outcome and the bytes that the sink gained are those of sequential decoding, in
-- which stated hashes are compared or not
abbrev pub IsDecoded : Form → Bool → Change → Change → Outcome → Type 0
IsDecoded form hash src out o = IfSome src.before (λ b. IsResult form out o (decoded hash true b))

-- where the source told its bytes, the sink gained what the bytes that were read show to be owed, however the input
-- goes on; they break no rule and meet no limit
abbrev pub IsOpen : Form → Bool → Change → Change → Type 0
IsOpen form hash src out =
    IfSome src.before (λ b. (read : List ℕ) × Takes src.before src.after read
    × GainsAll form out (decoded hash false read) × ((decoded hash false read).stop ≡ None))

-- where the source told its bytes, the sink gained a prefix of what is owed
abbrev pub IsCut : Form → Bool → Change → Change → Type 0
IsCut form hash src out = IfSome src.before (λ b. GainsCut form out (decoded hash true b))

-- where the source told its bytes, the sink gained whole pictures or whole lines, the first of those that are owed
abbrev pub IsWhole : Form → Bool → Change → Change → Type 0
IsWhole form hash src out = IfSome src.before (λ b. GainsWhole form out (decoded hash true b))

-- what holds after each outcome, of what is written in this form where stated hashes are compared or not
abbrev pub Headline : Form → Bool → Change → Change → Outcome → Type 0
Headline form hash src out outcome.Ok =
    IsDecoded form hash src out outcome.Ok × IsSpent src.after × IsQuiet src × IsQuiet out
Headline form hash src out (outcome.Fault f) = IsDecoded form hash src out (outcome.Fault f) × IsQuiet out
Headline form hash src out (outcome.Limit l) = IsDecoded form hash src out (outcome.Limit l) × IsQuiet out
Headline form hash src out outcome.Memory = IsWhole form hash src out × IsQuiet out
Headline form hash src out outcome.ReadFault = Failed src × IsOpen form hash src out × IsQuiet out
Headline form hash src out outcome.WriteFault = Failed out × IsCut form hash src out

-- where neither count rose, the outcome is that of sequential decoding, or there was no memory
abbrev pub IsComplete : Bool → Change → Change → Outcome → Type 0
IsComplete hash src out o =
    ¬ Failed src → ¬ Failed out
    → IfSome src.before (λ b. (o ≡ outcome_of (decoded hash true b).stop) ⊎ (o ≡ outcome.Memory))
