-- What codes give to a structure is read from their bits.
use Rattle.std.proofs.Common.{◌≡◌, ℕ, ◌^◌, ◌≤◌, ◌<◌, ℤ, Bool, true, false, cond, List, [], ◌∷◌, ◌++◌, Option, Some}
use Rattle.std.proofs.Common.{None, Ok}
use Rattle.std.proofs.Common.{refl, sym, ap, subst, ◌∙◌, append_assoc, arith}
use Rattle.std.specs.Prelude.{nat_abs, nat_le, nat_lt, ◌==◌, ◌&&◌, Result}
use Rattle.std.proofs.lemmas.Bool.{leb-true, ltb-true, eqb-true}
use Rattle.std.proofs.lemmas.Option.{none-some, some_pair_parts}
use Rattle.hv_base.specs.declared.breach.Breach.{Breach}
use Rattle.hv_base.specs.declared.field_rules.FieldRules.{FieldRules}
use Rattle.spec_bits.specs.Spelling.{u_bits, ue_bits, se_bits}
use Rattle.spec_bits.specs.Bits.{u_at, flag_at}
use Rattle.spec_bits.specs.ExpGolomb.{ue_at, se_at}
use Rattle.spec_bits.proofs.Digits.{u_at-u_bits}
use Rattle.spec_bits.proofs.Codes.{ue_at-ue_bits}
use Rattle.spec_bits.proofs.Signed.{se_at-se_bits}
use Rattle.spec_formats.specs.Format.{Format, Give, Refuse, One, Then, bind}
use Rattle.spec_formats.specs.Fields.{Field, U, Flag, Ue, Se, UeTo, SeWithin, Within, FieldValue, Header, read}
use Rattle.spec_formats.specs.Fields.{is_within}
use Rattle.spec_formats.specs.Fields.{field_at, whole, judged}
use Rattle.spec_written_headers.specs.Codes.{Code, Bits, Flagged, Golomb, Signed, bits_of, spelled, Found, taken}
use Rattle.spec_written_headers.specs.Codes.{code_at}
use Rattle.spec_written_headers.specs.Codes.{HaveRoom, IsReadBack}
use Rattle.spec_written_headers.specs.Codes.{then_found, replayed}

-- a value that was taken
record Taken {X : Type 0} (holds : Bool) (x y : X) (codes rest : List Code) : Type 0 where
  pub held : holds ≡ true
  pub value : x ≡ y
  pub left : codes ≡ rest

took : {X : Type 0} (holds : Bool) (x y : X) (codes rest : List Code) → taken holds x codes ≡ Some (y, rest)
    → Taken holds x y codes rest
took true x y codes rest e = let p = some_pair_parts x y codes rest e in record { held = refl; value = p.0; left = p.1 }
took false x y codes rest e = absurd (none-some (y, rest) e)

-- the value and what is left, where those of the code are
moved : {X : Type 0} (holds : Bool) (x y : X) (codes rest : List Code) (tail : List Bool) → Taken holds x y codes rest
    → ◌≡◌ {A = Result (X × List Bool) Breach} (Ok (x, spelled codes tail)) (Ok (y, spelled rest tail))
moved holds x y codes rest tail t = ap (λ v. Ok (v, spelled codes tail)) t.value
    ∙ ap (λ c. Ok (y, spelled c tail)) t.left

u_back : (rules : FieldRules) (n m value : ℕ) (more : List Bool) → (n == m) ≡ true → value < 2 ^ m
    → field_at rules (U n) (u_bits m value ++ more) ≡ Ok (value, more)
unfolding field_at
u_back rules n m value more same small =
    let e : n ≡ m = eqb-true n m same in
    ap (λ k. whole rules (u_at k (u_bits m value ++ more))) e ∙ ap (whole rules) (u_at-u_bits m value more small)

ue_back : (rules : FieldRules) (value : ℕ) (more : List Bool) → value ≤ 4294967294
    → whole rules (ue_at (ue_bits value ++ more)) ≡ Ok (value, more)
ue_back rules value more few = ap (whole rules) (ue_at-ue_bits value more few)

se_back : (rules : FieldRules) (value : ℤ) (more : List Bool) → nat_abs value ≤ 2147483647
    → whole rules (se_at (se_bits value ++ more)) ≡ Ok (value, more)
se_back rules value more few = ap (whole rules) (se_at-se_bits value more few)

judged_back : {X : Type 0} (rules : FieldRules) (fact : X → Bool) (x : X) (more : List Bool)
    (r : Result (X × List Bool) Breach) → r ≡ Ok (x, more) → fact x ≡ true → judged rules fact r ≡ Ok (x, more)
judged_back rules fact x more r e holds =
    ap (judged rules fact) e ∙ ap (λ b. cond b (Ok (x, more)) (judged rules (λ y. false) (Ok (x, more)))) holds

-- what is read, and the codes that are left
pub record Back {X : Type 0} (read : Result (X × List Bool) Breach) (x : X) (rest : List Code)
    (tail : List Bool) : Type 0 where
  pub found : read ≡ Ok (x, spelled rest tail)
  pub room : HaveRoom rest

some_taken : {X : Type 0} (x y : X) (codes rest : List Code) → ◌≡◌ {A = Found X} (Some (x, codes)) (Some (y, rest))
    → Taken true x y codes rest
some_taken x y codes rest e =
    let p = some_pair_parts x y codes rest e in record { held = refl; value = p.0; left = p.1 }

is_back : {X : Type 0} (read : Result (X × List Bool) Breach) (holds : Bool) (x y : X) (codes rest : List Code)
    (tail : List Bool) → HaveRoom codes → Taken holds x y codes rest → read ≡ Ok (x, spelled codes tail)
    → Back read y rest tail
is_back read holds x y codes rest tail room t e = record {
  found = e ∙ moved holds x y codes rest tail t;
  room = subst HaveRoom t.left room;
}

pub field_back : (rules : FieldRules) (field : Field) (codes : List Code) (x : FieldValue field) (rest : List Code)
    (tail : List Bool) → HaveRoom codes → code_at field codes ≡ Some (x, rest)
    → Back (field_at rules field (spelled codes tail)) x rest tail
unfolding field_at code_at spelled bits_of flag_at
field_back rules (U n) (Bits m value ∷ codes) x rest tail room e =
    let t = took (n == m) value x codes rest e in
    is_back _ (n == m) value x codes rest tail room.1 t (u_back rules n m value (spelled codes tail) t.held room.0)
field_back rules Flag (Flagged value ∷ codes) x rest tail room e =
    is_back _ true value x codes rest tail room.1 (some_taken value x codes rest e) refl
field_back rules Ue (Golomb value ∷ codes) x rest tail room e =
    is_back _ true value x codes rest tail room.1 (some_taken value x codes rest e)
    (ue_back rules value (spelled codes tail) room.0)
field_back rules Se (Signed value ∷ codes) x rest tail room e =
    is_back _ true value x codes rest tail room.1 (some_taken value x codes rest e)
    (se_back rules value (spelled codes tail) room.0)
field_back rules (UeTo greatest) (Golomb value ∷ codes) x rest tail room e =
    let t = took (nat_le value greatest) value x codes rest e in
    is_back _ (nat_le value greatest) value x codes rest tail room.1 t
    (judged_back rules (λ v. nat_le v greatest) value (spelled codes tail) _
    (ue_back rules value (spelled codes tail) room.0) t.held)
field_back rules (SeWithin low high) (Signed value ∷ codes) x rest tail room e =
    let t = took (is_within low high value) value x codes rest e in
    is_back _ (is_within low high value) value x codes rest tail room.1 t
    (judged_back rules (is_within low high) value (spelled codes tail) _
    (se_back rules value (spelled codes tail) room.0) t.held)
field_back rules (Within fact) codes x rest tail room e =
    let t = took fact fact x codes rest e in
    is_back _ fact fact x codes rest tail room t
    (judged_back rules (λ held. held) fact (spelled codes tail) (Ok (fact, spelled codes tail)) refl t.held)
field_back rules field codes x rest tail room e = absurd (none-some _ e)

-- a step that was found
record Step {X Y : Type 0} (r : Found X) (f : X → List Code → Found Y) (y : Y × List Code) : Type 0 where
  pub value : X
  pub left : List Code
  pub first : r ≡ Some (value, left)
  pub later : f value left ≡ Some y

step_of : {X Y : Type 0} (r : Found X) (f : X → List Code → Found Y) (y : Y × List Code) → then_found r f ≡ Some y
    → Step r f y
step_of None f y e = absurd (none-some y e)
step_of (Some x) f y e = record { value = x.0; left = x.1; first = refl; later = e }

-- what codes give to a structure is read from their bits
pub back : {X : Type 0} (rules : FieldRules) (format : Header X) (codes : List Code) (x : X) (rest : List Code)
    (tail : List Bool) → HaveRoom codes → replayed format codes ≡ Some (x, rest)
    → Back (read rules format (spelled codes tail)) x rest tail
back rules (Give y) codes x rest tail room e =
    is_back _ true y x codes rest tail room (some_taken y x codes rest e) refl
back rules (Refuse b) codes x rest tail room e = absurd (none-some _ e)
back rules (One field) codes x rest tail room e = field_back rules field codes x rest tail room e
back rules (Then m f) codes x rest tail room e =
    let s = step_of (replayed m codes) (λ v left. replayed (f v) left) (x, rest) e in
    let first = back rules m codes s.value s.left tail room s.first in
    let later = back rules (f s.value) s.left x rest tail first.room s.later in
    record {
      found = ap (λ r. bind r (λ v t. read rules (f v) t)) first.found ∙ later.found;
      room = later.room;
    }

pub read_back : {X : Type 0} (rules : FieldRules) (format : Header X) → IsReadBack rules format
read_back rules format codes x rest tail room e = (back rules format codes x rest tail room e).found
