-- Reading that depends on the bits that it reads alone, by composition.
use Rattle.std.proofs.Common.{◌≡◌, ℕ, Bool, true, false, List, [], ◌∷◌, ◌++◌, refl, sym, ap, ◌∙◌, append_assoc}
use Rattle.std.specs.Prelude.{Option, Some, None, Result, Ok, Err, nat_le, if◌then◌else◌}
use Rattle.hv_base.specs.declared.breach.Breach.TheVariants as breach
use Rattle.hv_base.specs.declared.breach.Breach.{Breach}
use Rattle.hv_base.specs.declared.field_rules.FieldRules.{FieldRules}
use Rattle.spec_bits.specs.Bits.{u_at, flag_at}
use Rattle.spec_bits.specs.ExpGolomb.{ue_at, se_at}
use Rattle.spec_bits.specs.Spelling.{u_bits, ue_bits, se_bits}
use Rattle.spec_bits.proofs.Digits.{u_at-only, u_at-u_bits}
use Rattle.spec_bits.proofs.Codes.{ue_at-only, ue_at-ue_bits}
use Rattle.spec_bits.proofs.Signed.{se_at-only, se_at-se_bits}
use Rattle.spec_formats.specs.Format.{Give, Refuse, One, Then, bind}
use Rattle.spec_formats.specs.Fields.{Field, U, Flag, Ue, Se, UeTo, SeWithin, Within, field_at, Header, read, whole}
use Rattle.spec_formats.specs.Fields.{judged, is_within}
use Rattle.spec_formats.specs.Locality.{Reading, HasFront, IsLocal}

-- what a reading gave is one thing
abbrev given : {X : Type 0} → X → Result X Breach → X
given d (Ok x) = x
given d (Err e) = d

ok_parts : {X : Type 0} (x y : X) (r : Result X Breach) → r ≡ Ok x → r ≡ Ok y → x ≡ y
ok_parts x y r is e = ap (given x) (sym is ∙ e)

-- what was read first, where two are read one after the other
record Steps {X Y : Type 0} (read : Result (X × List Bool) Breach) (next : X → Reading Y) (y : Y)
    (rest : List Bool) : Type 0 where
  first : X
  between : List Bool
  found : read ≡ Ok (first, between)
  then_found : next first between ≡ Ok (y, rest)

steps : {X Y : Type 0} (read : Result (X × List Bool) Breach) (next : X → Reading Y) (y : Y) (rest : List Bool)
    → bind read next ≡ Ok (y, rest) → Steps read next y rest
steps (Ok x) next y rest e = record { first = x.0; between = x.1; found = refl; then_found = e }
steps (Err d) next y rest e = absurd cc

local-give : {X : Type 0} (x : X) → IsLocal (λ bs. Ok (x, bs))
local-give x = record {
  begins = λ bs y rest e.
      let same = ok_parts (x, bs) (y, rest) (Ok (x, bs)) refl e in
      record {
        front = [];
        spelled = ap (λ (p : _ × List Bool). p.1) same;
        alone = λ other. ap (λ (p : _ × List Bool). Ok (p.0, other)) same;
      };
}

abbrev refused : {X : Type 0} → Breach → Reading X
refused e = λ bs. Err e

local-refuse : {X : Type 0} (e : Breach) → IsLocal (refused {X = X} e)
local-refuse e = record { begins = λ bs y rest is. absurd cc }

local-then : {X Y : Type 0} {m : Reading X} {f : X → Reading Y} → IsLocal m → ((x : X) → IsLocal (f x))
    → IsLocal (λ bs. bind (m bs) f)
local-then {m = m} {f = f} first next = record {
  begins = λ bs y rest e.
      let s = steps (m bs) f y rest e in
      let p = first.begins bs s.first s.between s.found in
      let q = (next s.first).begins s.between y rest s.then_found in
      record {
        front = p.front ++ q.front;
        spelled = p.spelled ∙ ap (λ r. p.front ++ r) q.spelled ∙ sym (append_assoc p.front q.front rest);
        alone = λ other. rw (append_assoc p.front q.front other, p.alone (q.front ++ other)) (q.alone other);
      };
}

-- a field that was read was there whole
pub whole-some : {X : Type 0} (rules : FieldRules) (o : Option (X × List Bool)) (r : X × List Bool)
    → whole rules o ≡ Ok r → o ≡ Some r
whole-some rules None r e = absurd cc
whole-some rules (Some x) r e = ap Some (ok_parts x r (Ok x) refl e)

local-u : (rules : FieldRules) (n : ℕ) → IsLocal (λ bs. whole rules (u_at n bs))
local-u rules n = record {
  begins = λ bs value rest e.
      let only = u_at-only n bs value rest (whole-some rules (u_at n bs) (value, rest) e) in
      record {
        front = u_bits n value;
        spelled = only.1;
        alone = λ other. ap (whole rules) (u_at-u_bits n value other only.0);
      };
}

flag-begins : (rules : FieldRules) (bs : List Bool) (value : Bool) (rest : List Bool)
    → whole rules (flag_at bs) ≡ Ok (value, rest) → HasFront (λ bits. whole rules (flag_at bits)) bs value rest
unfolding flag_at
flag-begins rules [] value rest e = absurd cc
flag-begins rules (b ∷ bs) value rest e =
    let same = ok_parts (b, bs) (value, rest) (whole rules (Some (b, bs))) refl e in
    record {
      front = b ∷ [];
      spelled = ap (λ (p : Bool × List Bool). b ∷ p.1) same;
      alone = λ other. ap (λ (p : Bool × List Bool). Ok (p.0, other)) same;
    }

local-ue : (rules : FieldRules) → IsLocal (λ bs. whole rules (ue_at bs))
local-ue rules = record {
  begins = λ bs value rest e.
      let only = ue_at-only bs value rest (whole-some rules (ue_at bs) (value, rest) e) in
      record {
        front = ue_bits value;
        spelled = only.1;
        alone = λ other. ap (whole rules) (ue_at-ue_bits value other only.0);
      };
}

local-se : (rules : FieldRules) → IsLocal (λ bs. whole rules (se_at bs))
local-se rules = record {
  begins = λ bs value rest e.
      let only = se_at-only bs value rest (whole-some rules (se_at bs) (value, rest) e) in
      record {
        front = se_bits value;
        spelled = only.1;
        alone = λ other. ap (whole rules) (se_at-se_bits value other only.0);
      };
}

-- a value that was judged was read and in range
pub record Held {X : Type 0} (rules : FieldRules) (fact : X → Bool) (r : Result (X × List Bool) Breach)
    (x : X × List Bool) : Type 0 where
  pub found : r ≡ Ok x
  pub holds : fact x.0 ≡ true

held-if : {X : Type 0} (rules : FieldRules) (fact : X → Bool) (y x : X × List Bool) (b : Bool) → fact y.0 ≡ b
    → (if b then Ok y else Err (breach.Fault rules.range)) ≡ Ok x → Held rules fact (Ok y) x
held-if rules fact y x true is e =
    let same = ok_parts y x (Ok y) refl e in
    record { found = e; holds = sym (ap (λ (p : _ × List Bool). fact p.0) same) ∙ is }
held-if rules fact y x false is e = absurd cc

pub held : {X : Type 0} (rules : FieldRules) (fact : X → Bool) (r : Result (X × List Bool) Breach) (x : X × List Bool)
    → judged rules fact r ≡ Ok x → Held rules fact r x
held rules fact (Ok y) x e = held-if rules fact y x (fact y.0) refl e
held rules fact (Err d) x e = absurd cc

local-judged : {X : Type 0} (rules : FieldRules) (fact : X → Bool) {m : Reading X} → IsLocal m
    → IsLocal (λ bs. judged rules fact (m bs))
local-judged rules fact {m = m} local = record {
  begins = λ bs value rest e.
      let h = held rules fact (m bs) (value, rest) e in
      let p = local.begins bs value rest h.found in
      record {
        front = p.front;
        spelled = p.spelled;
        alone = λ other. rw (p.alone other, h.holds) refl;
      };
}

pub local-field : (rules : FieldRules) (field : Field) → IsLocal (field_at rules field)
unfolding field_at
local-field rules (U n) = local-u rules n
local-field rules Flag = record { begins = flag-begins rules }
local-field rules Ue = local-ue rules
local-field rules Se = local-se rules
local-field rules (UeTo greatest) = local-judged rules (λ value. nat_le value greatest) (local-ue rules)
local-field rules (SeWithin low high) = local-judged rules (is_within low high) (local-se rules)
local-field rules (Within fact) = local-judged rules (λ held. held) (local-give fact)

-- what a header is read as depends on the bits that are read, whatever its format
pub local-read : {X : Type 0} (rules : FieldRules) (format : Header X) → IsLocal (read rules format)
local-read rules (Give x) = local-give x
local-read rules (Refuse e) = local-refuse e
local-read rules (One field) = local-field rules field
local-read rules (Then m f) = local-then (local-read rules m) (λ x. local-read rules (f x))
