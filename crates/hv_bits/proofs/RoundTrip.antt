-- Fields that are written read back.
use Rattle.std.proofs.Common.{◌≡◌, ℕ, suc, ◌+◌, ◌-◌, ◌%◌, Bool, false, List, [], ◌∷◌, ◌++◌, length, replicate, refl}
use Rattle.std.proofs.Common.{sym, ap, subst, ◌∙◌, arith}
use Rattle.std.specs.List.{All}
use Rattle.std.proofs.lemmas.List.{append_assoc, append-nil, length-append, length-replicate}
use Rattle.spec_bits.specs.Bits.{bits}
use Rattle.spec_bits.specs.Spelling.{aligned_bits}
use Rattle.spec_bits.proofs.Places.{length-bits}
use Rattle.spec_bits.proofs.Digits.{u_at-u_bits}
use Rattle.spec_bits.proofs.Codes.{ue_at-ue_bits}
use Rattle.spec_bits.proofs.Signed.{se_at-se_bits}
use Rattle.spec_bits.proofs.Aligned.{aligned_at-aligned_bits}
use Rattle.hv_bits.specs.Fields.{Field, Unsigned, UnsignedCode, SignedCode, Alignment, IsInRange, field_bits}
use Rattle.hv_bits.specs.Fields.{with_fields, Reads, ReadsAll}

-- the bits of fields after so many bits
abbrev spelled : ℕ → List Field → List Bool
spelled before [] = []
spelled before (field ∷ fields) = field_bits before field ++ spelled (before + length (field_bits before field)) fields

with_fields-spelled : (bs : List Bool) (fields : List Field) → with_fields bs fields ≡ bs ++ spelled (length bs) fields
with_fields-spelled bs [] = sym (append-nil bs)
with_fields-spelled bs (field ∷ fields) =
    with_fields-spelled (bs ++ field_bits (length bs) field) fields
    ∙ ap (λ k. (bs ++ field_bits (length bs) field) ++ spelled k fields)
    (length-append bs (field_bits (length bs) field))
    ∙ append_assoc bs (field_bits (length bs) field)
    (spelled (length bs + length (field_bits (length bs) field)) fields)

length-aligned_bits : (before : ℕ) → length (aligned_bits before) ≡ 8 - before % 8
unfolding aligned_bits
length-aligned_bits before = omega (arith, length-replicate (7 - before % 8) false)

field_read : (before : ℕ) (field : Field) (rest : List Bool) → IsInRange field
    → (before + length (field_bits before field) + length rest) % 8 ≡ 0
    → Reads field (field_bits before field ++ rest) rest
field_read before (Unsigned n value) rest range whole = u_at-u_bits n value rest range
field_read before (UnsignedCode value) rest range whole = ue_at-ue_bits value rest range
field_read before (SignedCode value) rest range whole = se_at-se_bits value rest range
field_read before Alignment rest range whole =
    aligned_at-aligned_bits before rest (omega (arith, length-aligned_bits before))

fields_read : (before : ℕ) (fields : List Field) (rest : List Bool) → All IsInRange fields
    → (before + length (spelled before fields) + length rest) % 8 ≡ 0
    → ReadsAll fields (spelled before fields ++ rest) rest
fields_read before [] rest range whole = refl
fields_read before (field ∷ fields) rest range whole =
    let first : List Bool = field_bits before field in
    let later : List Bool = spelled (before + length first) fields in
    let head : IsInRange field = range 0 field (omega arith) in
    let tail : All IsInRange fields = λ k d h. range (suc k) d (omega arith) in
    let more : (before + length first + length (later ++ rest)) % 8 ≡ 0 =
    omega (arith, length-append first later, length-append later rest) in
    let after : (before + length first + length later + length rest) % 8 ≡ 0 =
    omega (arith, length-append first later) in (
      later ++ rest,
      subst (λ bs. Reads field bs (later ++ rest)) (sym (append_assoc first later rest))
          (field_read before field (later ++ rest) head more),
      fields_read (before + length first) fields rest tail after,
    )

pub fields_back : (fields : List Field) (bytes : List ℕ) (free : ℕ) → All IsInRange fields
    → bits bytes ≡ with_fields [] fields ++ replicate free false → ReadsAll fields (bits bytes) (replicate free false)
fields_back fields bytes free range is =
    let spells : bits bytes ≡ spelled 0 fields ++ replicate free false =
    is ∙ ap (λ bs. bs ++ replicate free false) (with_fields-spelled [] fields) in
    let whole : (0 + length (spelled 0 fields) + length (replicate free false)) % 8 ≡ 0 =
    omega (arith, ap length spells, length-append (spelled 0 fields) (replicate free false), length-bits bytes) in
    subst (λ bs. ReadsAll fields bs (replicate free false)) (sym spells)
    (fields_read 0 fields (replicate free false) range whole)
