-- What values a header can have, whatever the bits.
use Rattle.std.proofs.Common.{◌≡◌, ◌<◌, ◌≤◌, ◌^◌, Bool, true, List, Ok, ap, ◌∙◌}
use Rattle.std.proofs.lemmas.Bool.{leb-true}
use Rattle.hv_base.specs.declared.field_rules.FieldRules.{FieldRules}
use Rattle.spec_bits.specs.Bits.{u_at}
use Rattle.spec_bits.specs.ExpGolomb.{ue_at, se_at}
use Rattle.spec_bits.proofs.Digits.{u_at-only}
use Rattle.spec_formats.specs.Format.{Give, Refuse, One, Then}
use Rattle.spec_formats.specs.Fields.{Field, U, Flag, Ue, Se, UeTo, SeWithin, Within, FieldValue, field_at, Header}
use Rattle.spec_formats.specs.Fields.{read, whole, is_within}
use Rattle.spec_formats.proofs.Agreement.{ok_is, bind_ok}
use Rattle.spec_formats.proofs.Locality.{held, whole-some}

-- whether a field can be a value
abbrev pub IsIn : (field : Field) → FieldValue field → Type 0
IsIn (U n) x = x < 2 ^ n
IsIn Flag x = Unit {0}
IsIn Ue x = Unit {0}
IsIn Se x = Unit {0}
IsIn (UeTo greatest) x = x ≤ greatest
IsIn (SeWithin low high) x = is_within low high x ≡ true
IsIn (Within fact) x = fact ≡ true

-- whether a header can have a value
abbrev pub CanBe : {X : Type 0} → Header X → X → Type 0
CanBe (Give x) y = x ≡ y
CanBe (Refuse e) y = ⊥
CanBe (One field) y = IsIn field y
CanBe (Then {X} m f) y = (x : X) × CanBe m x × CanBe (f x) y

field_can_be : (rules : FieldRules) (field : Field) (bits rest : List Bool) (x : FieldValue field)
    → field_at rules field bits ≡ Ok (x, rest) → IsIn field x
unfolding field_at
field_can_be rules (U n) bits rest x e = (u_at-only n bits x rest (whole-some rules (u_at n bits) (x, rest) e)).0
field_can_be rules Flag bits rest x e = tt
field_can_be rules Ue bits rest x e = tt
field_can_be rules Se bits rest x e = tt
field_can_be rules (UeTo greatest) bits rest x e =
    leb-true x greatest (held rules _ (whole rules (ue_at bits)) (x, rest) e).holds
field_can_be rules (SeWithin low high) bits rest x e = (held rules _ (whole rules (se_at bits)) (x, rest) e).holds
field_can_be rules (Within fact) bits rest x e =
    let h = held rules (λ value. value) (Ok (fact, bits)) (x, rest) e in
    ap (λ (p : Bool × List Bool). p.0) (ok_is (fact, bits) (x, rest) h.found) ∙ h.holds

-- a value that is read is one that the header can have
pub can_be : {X : Type 0} (rules : FieldRules) (format : Header X) (bits rest : List Bool) (x : X)
    → read rules format bits ≡ Ok (x, rest) → CanBe format x
can_be rules (Give y) bits rest x e = ap (λ (p : _ × List Bool). p.0) (ok_is (y, bits) (x, rest) e)
can_be rules (Refuse b) bits rest x e = absurd cc
can_be rules (One field) bits rest x e = field_can_be rules field bits rest x e
can_be rules (Then m f) bits rest x e =
    let step = bind_ok (read rules m bits) (λ v t. read rules (f v) t) (x, rest) e in (
      step.value,
      can_be rules m bits step.state step.value step.read,
      can_be rules (f step.value) step.state rest x step.then_read,
    )
