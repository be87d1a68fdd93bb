-- Fields of headers and parameter sets: formats whose questions are fields, each with its range (7.2).
use Rattle.std.specs.Prelude.{◌≡◌, ℕ, zero, suc, ℤ, pos, negsuc, Bool, true, false, List, [], ◌∷◌, Option, Some, None}
use Rattle.std.specs.Prelude.{Result, Ok, Err, nat_lt, nat_le, if◌then◌else◌}
use Rattle.spec_bits.specs.Bits.{u_at, flag_at}
use Rattle.spec_bits.specs.ExpGolomb.{ue_at, se_at}
use Rattle.hv_base.specs.declared.breach.Breach.{Breach}
use Rattle.hv_base.specs.declared.breach.Breach.TheVariants as breach
use Rattle.hv_base.specs.declared.field_rules.FieldRules.{FieldRules}
use Rattle.hv_base.specs.declared.refusal.Refusal.{Refusal}
use Rattle.hv_base.specs.declared.refusal.Refusal.TheVariants as refusal
use Rattle.spec_formats.specs.Format.{Format, Give, One, Then, Answers, reading}

-- u(n), u(1) as a flag, ue(v), se(v), ue(v) of at most a value, se(v) from -low to high, and what must hold between
-- fields, which costs no bit
pub data Field : Type 0 where
  U : (n : ℕ) → Field
  Flag : Field
  Ue : Field
  Se : Field
  UeTo : (greatest : ℕ) → Field
  SeWithin : (low high : ℕ) → Field
  Within : (fact : Bool) → Field

-- what a field gives
abbrev pub FieldValue : Field → Type 0
FieldValue (U n) = ℕ
FieldValue Flag = Bool
FieldValue Ue = ℕ
FieldValue Se = ℤ
FieldValue (UeTo greatest) = ℕ
FieldValue (SeWithin low high) = ℤ
FieldValue (Within fact) = Bool

-- a field that may lack bits, by the rule that a structure breaks which ends inside a field
abbrev pub whole : {X : Type 0} → FieldRules → Option (X × List Bool) → Result (X × List Bool) Breach
whole rules None = Err (breach.Fault rules.syntax)
whole rules (Some x) = Ok x

-- what must hold of a field, by the rule that one out of range breaks
abbrev pub judged : {X : Type 0} → FieldRules → (X → Bool) → Result (X × List Bool) Breach
    → Result (X × List Bool) Breach
judged rules fact (Err e) = Err e
judged rules fact (Ok x) = if fact x.0 then Ok x else Err (breach.Fault rules.range)

-- whether a signed number is from -low to high
abbrev pub is_within : ℕ → ℕ → ℤ → Bool
is_within low high (pos n) = nat_le n high
is_within low high (negsuc n) = nat_lt n low

-- what bits answer to a field of a structure with these rules: its value and the bits behind it, or the rule broken
unfoldable pub field_at : FieldRules → Answers (List Bool) Field FieldValue
field_at rules (U n) bs = whole rules (u_at n bs)
field_at rules Flag bs = whole rules (flag_at bs)
field_at rules Ue bs = whole rules (ue_at bs)
field_at rules Se bs = whole rules (se_at bs)
field_at rules (UeTo greatest) bs = judged rules (λ value. nat_le value greatest) (whole rules (ue_at bs))
field_at rules (SeWithin low high) bs = judged rules (is_within low high) (whole rules (se_at bs))
field_at rules (Within fact) bs = judged rules (λ held. held) (Ok (fact, bs))

-- a format over fields
abbrev pub Header : Type 0 → Type 1
Header X = Format Field FieldValue X

-- reading a structure with these rules off bits
abbrev pub read : {X : Type 0} → FieldRules → Header X → List Bool → Result (X × List Bool) Breach
read rules format = reading (field_at rules) format

infixl 10 ◌>>=◌
abbrev pub ◌>>=◌ : {X Y : Type 0} → Header X → (X → Header Y) → Header Y
m >>= f = Then m f

-- a value that costs no bit
abbrev pub give : {X : Type 0} → X → Header X
give x = Give x

-- u(n) (7.2)
abbrev pub u : ℕ → Header ℕ
u n = One (U n)

-- u(1), as a flag
abbrev pub flag : Header Bool
flag = One Flag

-- ue(v)
abbrev pub ue : Header ℕ
ue = One Ue

-- se(v)
abbrev pub se : Header ℤ
se = One Se

-- ue(v) that may not be above a number
abbrev pub ue_to : ℕ → Header ℕ
ue_to greatest = One (UeTo greatest)

-- se(v) from one number below 0 to one above
abbrev pub se_within : ℕ → ℕ → Header ℤ
se_within low high = One (SeWithin low high)

-- goes on only where fields are in range
abbrev pub ranged : Bool → Header Bool
ranged fact = One (Within fact)

-- a structure that is read only where a flag says so
abbrev pub optional : {X : Type 0} → Bool → Header X → Header (Option X)
optional false format = give None
optional true format = do
  value ← format
  give (Some value)

-- a structure that is read so many times
unfoldable pub repeated : {X : Type 0} → ℕ → Header X → Header (List X)
repeated zero format = give []
repeated (suc n) format = do
  first ← format
  others ← repeated n format
  give (first ∷ others)

-- a structure that is read for each item of a list, in turn
unfoldable pub each : {X Y : Type 0} → (X → Header Y) → List X → Header (List Y)
each format [] = give []
each format (x ∷ xs) = do
  first ← format x
  others ← each format xs
  give (first ∷ others)

-- what a call answered, seen by view, and where it left the bits is what reading gives; where memory ran out nothing
-- is said
abbrev pub Refuses : {X : Type 0} → Refusal → Result X Breach → Type 0
Refuses refusal.Memory read = Unit {0}
Refuses (refusal.Fault kind) read = read ≡ Err (breach.Fault kind)
Refuses (refusal.Limit kind) read = read ≡ Err (breach.Limit kind)

-- a call's answer with the bits that are left, by what reading gives
abbrev pub Reads : {X Y : Type 0} → (X → Y) → Result X Refusal → List Bool → Result (Y × List Bool) Breach → Type 0
Reads view (Ok x) left read = read ≡ Ok (view x, left)
Reads view (Err e) left read = Refuses e read

-- the value alone, where the bits behind it don't matter
abbrev pub value_of : {X : Type 0} → Result (X × List Bool) Breach → Result X Breach
value_of (Ok r) = Ok r.0
value_of (Err e) = Err e

-- what a call answered, seen by view, is that value
abbrev pub Parses : {X Y : Type 0} → (X → Y) → Result X Refusal → Result Y Breach → Type 0
Parses view (Ok x) read = read ≡ Ok (view x)
Parses view (Err e) read = Refuses e read
