-- What values parts of headers can have.
use Rattle.std.proofs.Common.{◌≡◌, ℕ, zero, suc, ◌<◌, ◌≤◌, ℤ, pos, negsuc, Bool, true, false, List, [], ◌∷◌, length}
use Rattle.std.proofs.Common.{Option, Some, IfSome, All, Result, Ok, Err, refl, ap, subst, arith}
use Rattle.std.specs.Prelude.{slice_get}
use Rattle.std.proofs.lemmas.Int.{ints}
use Rattle.std.proofs.lemmas.Bool.{ltb-true, leb-true}
use Rattle.std.proofs.lemmas.List.Elements.{All-cons, All-nil, All-get_or}
use Rattle.std.proofs.lemmas.Option.{slice_get_within, get_or_from_slice_get}
use Rattle.hv_base.specs.declared.breach.Breach.{Breach}
use Rattle.hv_base.specs.declared.field_rules.FieldRules.{FieldRules}
use Rattle.header_types.specs.PictureParameterSet.{IsWithin}
use Rattle.spec_formats.specs.Format.{wanted}
use Rattle.spec_formats.specs.Fields.{Header, read, value_of, is_within, optional, repeated, each}
use Rattle.spec_formats.proofs.Values.{CanBe, can_be}
use Rattle.spec_slice_headers.specs.Context.{judged, ue_or}

pub within : (low high : ℕ) (z : ℤ) → is_within low high z ≡ true → IsWithin low high z
within zero high (pos n) h =
    let le : n ≤ high = leb-true _ _ h in record { least = omega (arith, ints); greatest = omega (arith, ints) }
within (suc low) high (pos n) h =
    let le : n ≤ high = leb-true _ _ h in record { least = omega (arith, ints); greatest = omega (arith, ints) }
within zero high (negsuc n) h =
    let lt : n < 0 = ltb-true _ _ h in record { least = omega (arith, ints); greatest = omega (arith, ints) }
within (suc low) high (negsuc n) h =
    let lt : n < suc low = ltb-true _ _ h in record { least = omega (arith, ints); greatest = omega (arith, ints) }

pub repeated_is : {X : Type 0} (P : X → Type 0) (n : ℕ) (f : Header X) (xs : List X) → ((x : X) → CanBe f x → P x)
    → CanBe (repeated n f) xs
    → (length xs ≡ n) × All P xs
unfolding repeated
repeated_is P zero f xs h e = rw (← e) (refl, All-nil P)
repeated_is P (suc n) f xs h (first, one, (others, rest, e)) =
    let are = repeated_is P n f others h rest in
    rw (← e) (ap suc are.0, All-cons P first others (h first one) are.1)

pub each_is : {X Y : Type 0} (P : Y → Type 0) (f : X → Header Y) (xs : List X) (ys : List Y)
    → ((x : X) (y : Y) → CanBe (f x) y → P y) → CanBe (each f xs) ys
    → (length ys ≡ length xs) × All P ys
unfolding each
each_is P f [] ys h e = rw (← e) (refl, All-nil P)
each_is P f (x ∷ xs) ys h (first, one, (others, rest, e)) =
    let are = each_is P f xs others h rest in
    rw (← e) (ap suc are.0, All-cons P first others (h x first one) are.1)

pub optional_is : {X : Type 0} (P : X → Type 0) (b : Bool) (f : Header X) (o : Option X) → ((x : X) → CanBe f x → P x)
    → CanBe (optional b f) o → IfSome o P
optional_is P false f o h e = rw (← e) tt
optional_is P true f o h (x, is, e) = rw (← e) (h x is)

pub ue_or_is : (present : Bool) (greatest inferred x : ℕ) → inferred ≤ greatest
    → CanBe (ue_or present greatest inferred) x → x ≤ greatest
ue_or_is true greatest inferred x le is = is
ue_or_is false greatest inferred x le e = rw (← e) le

pub judged_is : {X : Type 0} (r : Result X Breach) (x : X) → CanBe (judged r) x → r ≡ Ok x
judged_is (Ok y) x e = ap Ok e
judged_is (Err e) x is = absurd is

pub wanted_is : (fact : Bool) (e : Breach) (x : Bool) → CanBe (wanted fact e) x → fact ≡ true
wanted_is true e x is = refl
wanted_is false e x is = absurd is

-- an element that is there has what all have
pub got_is : {X : Type 0} (P : X → Type 0) (xs : List X) (i : ℕ) (x : X) → All P xs → slice_get xs i ≡ Some x → P x
got_is P xs i x all e = rw (← get_or_from_slice_get xs i x x e) (All-get_or P xs i x (slice_get_within xs i x e) all)

pub no_offset : (n : ℕ) → IsWithin n n (pos 0)
no_offset zero = record { least = omega (arith, ints); greatest = omega (arith, ints) }
no_offset (suc n) = record { least = omega (arith, ints); greatest = omega (arith, ints) }

ok_value : {X : Type 0} (y x : X) → ◌≡◌ {A = Result X Breach} (Ok y) (Ok x) → y ≡ x
ok_value y x e = cc

value_can_be : {X : Type 0} (rules : FieldRules) (format : Header X) (bits : List Bool) (x : X)
    (r : Result (X × List Bool) Breach)
    → read rules format bits ≡ r → value_of r ≡ Ok x
    → CanBe format x
value_can_be rules format bits x (Ok y) is e =
    subst (CanBe format) (ok_value y.0 x e) (can_be rules format bits y.1 y.0 is)
value_can_be rules format bits x (Err b) is e = absurd cc

-- a value that is read is one that the header can have
pub parsed_is : {X : Type 0} (rules : FieldRules) (format : Header X) (bits : List Bool) (x : X)
    → value_of (read rules format bits) ≡ Ok x → CanBe format x
parsed_is rules format bits x e = value_can_be rules format bits x (read rules format bits) refl e
