-- Bins: the questions of slice segment data, what the engine and the contexts answer to them, and binarizations
-- (9.3.3).
use Rattle.std.specs.Prelude.{◌≡◌, ℕ, zero, suc, ◌+◌, ◌-◌, ◌*◌, ◌^◌, Bool, List, slice_index, slice_set, Option, Some}
use Rattle.std.specs.Prelude.{None, Result, Ok, Err}
use Rattle.spec_bits.specs.Bits.{digit}
use Rattle.hv_base.specs.declared.breach.Breach.{Breach}
use Rattle.hv_base.specs.declared.breach.Breach.TheVariants as breach
use Rattle.hv_base.specs.declared.fault.FaultKind.TheVariants as rule
use Rattle.spec_formats.specs.Format.{Format, One, Answers, reading, ◌>>=◌, give, refuse, when◌then◌else◌}
use Rattle.spec_cabac.specs.Engine.{Engine, decision_at, bypass_at, terminate_at, pcm_start_at, sample_at, pcm_end_at}

-- a bin by context i, a bypass bin, one before termination; behind a terminate bin of 1, where samples of pulse code
-- modulation begin, a sample of so many bits, and the end of the samples
pub data Bin : Type 0 where
  Decision : (i : ℕ) → Bin
  Bypass : Bin
  Terminate : Bin
  PcmStart : Bin
  Sample : (size : ℕ) → Bin
  PcmEnd : Bin

-- what answers each question
abbrev pub BinValue : Bin → Type 0
BinValue (Decision i) = Bool
BinValue Bypass = Bool
BinValue Terminate = Bool
BinValue PcmStart = Unit {0}
BinValue (Sample size) = ℕ
BinValue PcmEnd = Unit {0}

-- the engine and the contexts
abbrev pub State : Type 0
State = Engine × List ℕ

-- bits are needed past the end of the data
abbrev pub data_end : Breach
data_end = breach.Fault rule.DataEnd

-- a decision changes context i
abbrev pub decided : List ℕ → ℕ → Option (Bool × (Engine × ℕ)) → Result (Bool × State) Breach
decided contexts i None = Err data_end
decided contexts i (Some d) = Ok (d.0, (d.1.0, slice_set contexts i d.1.1))

-- the others change none
abbrev pub stepped : {X : Type 0} → List ℕ → Option (X × Engine) → Result (X × State) Breach
stepped contexts None = Err data_end
stepped contexts (Some d) = Ok (d.0, (d.1, contexts))

-- the state behind a step of the engine that gives no value
abbrev pub moved : List ℕ → Option Engine → Result (Unit {0} × State) Breach
moved contexts None = Err data_end
moved contexts (Some e) = Ok (tt, (e, contexts))

-- the same behind one whose value isn't asked
abbrev pub placed : List ℕ → Option (ℕ × Engine) → Result (Unit {0} × State) Breach
placed contexts None = Err data_end
placed contexts (Some d) = Ok (tt, (d.1, contexts))

-- what a state answers: the bin and the state behind it, or that bits lack
unfoldable pub bin_at : Answers State Bin BinValue
bin_at (Decision i) s = decided s.1 i (decision_at (s.0, slice_index s.1 i))
bin_at Bypass s = stepped s.1 (bypass_at s.0)
bin_at Terminate s = stepped s.1 (terminate_at s.0)
bin_at PcmStart s = placed s.1 (pcm_start_at s.0)
bin_at (Sample size) s = stepped s.1 (sample_at size s.0)
bin_at PcmEnd s = moved s.1 (pcm_end_at s.0)

-- a format over bins
abbrev pub Tree : Type 0 → Type 1
Tree X = Format Bin BinValue X

-- reading a tree off the data
abbrev pub read : {X : Type 0} → Tree X → State → Result (X × State) Breach
read format = reading bin_at format

-- a bin of a context (9.3.4.3.2)
abbrev pub decision : ℕ → Tree Bool
decision i = One (Decision i)

-- a bin without a context (9.3.4.3.4)
abbrev pub bypass : Tree Bool
bypass = One Bypass

-- the bin before the end of a part of the data (9.3.4.3.5)
abbrev pub terminate : Tree Bool
terminate = One Terminate

-- behind pcm_flag: the bits up to the first sample (9.3.2.5)
abbrev pub pcm_start : Tree (Unit {0})
pcm_start = One PcmStart

-- a sample of so many bits
abbrev pub sample : ℕ → Tree ℕ
sample size = One (Sample size)

-- behind the last sample: the engine begins anew (9.3.2.5)
abbrev pub pcm_end : Tree (Unit {0})
pcm_end = One PcmEnd

-- a step for each number of so many from one on, each on what the one before it gave
unfoldable pub times : {X : Type 0} → ℕ → ℕ → (ℕ → X → Tree X) → X → Tree X
times i zero step x = give x
times i (suc n) step x = do
  y ← step i x
  times (i + 1) n step y

-- FL binarization by bypass bins (9.3.3.4): the number that n of them spell after a value, the greatest digit first
unfoldable pub fixed_after : ℕ → ℕ → Tree ℕ
fixed_after zero value = give value
fixed_after (suc n) value = do
  bin ← bypass
  fixed_after n (2 * value + digit bin)

-- a binarization of fixed length: so many bypass bins (9.3.3.5)
abbrev pub fixed : ℕ → Tree ℕ
fixed n = fixed_after n 0

-- the prefix of TR and EGk binarizations (9.3.3.2, 9.3.3.3): how many bins are 1 before the first 0, the first of them
-- being bin i; where so many are 1, what is over is read
unfoldable pub unary : Tree ℕ → (ℕ → Tree Bool) → ℕ → ℕ → Tree ℕ
unary over bin i zero = over
unary over bin i (suc n) = do
  more ← bin i
  when more then unary over bin (i + 1) n else give i

-- TR binarization of a number up to a greatest one, without a suffix
abbrev pub truncated : (ℕ → Tree Bool) → ℕ → Tree ℕ
truncated bin greatest = unary (give greatest) bin 0 greatest

-- a prefix of bypass bins, of which fewer than 32 are 1
abbrev pub ones : Breach → Tree ℕ
ones too_great = unary (refuse too_great) (λ i. bypass) 0 32

-- EGk binarization by bypass bins (9.3.3.3): each 1 adds 2^k and raises k by one
unfoldable pub exp_golomb : Breach → ℕ → Tree ℕ
exp_golomb too_great k = do
  n ← ones too_great
  rest ← fixed (k + n)
  give (2 ^ (k + n) - 2 ^ k + rest)

-- what a call answered, seen by view, and the state after it, is what reading gives
abbrev pub Reads : {X Y : Type 0} → (X → Y) → Result X Breach → State → Result (Y × State) Breach → Type 0
Reads view (Ok x) after read = read ≡ Ok (view x, after)
Reads view (Err e) after read = read ≡ Err e
