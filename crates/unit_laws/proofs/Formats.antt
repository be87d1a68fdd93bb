-- What a format gives, whatever the data.
use Rattle.std.proofs.Common.{◌≡◌, ℕ, zero, suc, ◌+◌, ◌*◌, ◌^◌, ◌<◌, ◌≤◌, Bool, true, false, cond, List, Option, Some}
use Rattle.std.proofs.Common.{None, Ok, refl, ap, sym, subst, ◌∙◌, arith}
use Rattle.std.proofs.Math.Nat.{mul-le-mul_right, mul_comm, mul_assoc, pow-suc}
use Rattle.hv_base.specs.declared.breach.Breach.{Breach}
use Rattle.spec_bits.specs.Bits.{u_at, digit}
use Rattle.spec_bits.proofs.Digits.{u_at-only}
use Rattle.spec_bits.proofs.Codes.{bind_some}
use Rattle.spec_cabac.specs.SpecFormats.{Give, Refuse, One, Then}
use Rattle.spec_cabac.proofs.SpecFormatsLemmas.{ok_is, bind_ok}
use Rattle.spec_cabac.specs.Engine.{Engine, left, number_at, sample_at}
use Rattle.spec_cabac.specs.Bins.{State, Tree, Sample, bin_at, read, stepped, times, fixed_after, bypass, unary}
use Rattle.spec_cabac.specs.Bins.{truncated}

-- all that is read has a property
pub record Gives {X : Type 0} (P : X → Type 0) (format : Tree X) : Type 0 where
  pub gives : (s t : State) (x : X) → read format s ≡ Ok (x, t) → P x

pub give_gives : {X : Type 0} {P : X → Type 0} (x : X) → P x → Gives P (Give x)
give_gives {P = P} x p = record { gives = λ s t y e. subst P (ap (λ (r : _ × State). r.0) (ok_is (x, s) (y, t) e)) p }

pub refuse_gives : {X : Type 0} {P : X → Type 0} (e : Breach) → Gives P (Refuse e)
refuse_gives e = record { gives = λ s t y is. absurd cc }

pub then_gives : {X Y : Type 0} {Q : X → Type 0} {P : Y → Type 0} {m : Tree X} {f : X → Tree Y} → Gives Q m
    → ((x : X) → Q x → Gives P (f x)) → Gives P (Then m f)
then_gives {m = m} {f = f} first next = record {
  gives = λ s t y e.
      let step = bind_ok (read m s) (λ v u. read (f v) u) (y, t) e in
      (next step.value (first.gives s step.state step.value step.read)).gives step.state t y step.then_read;
}

-- what is known of nothing
abbrev pub Any : {X : Type 0} → X → Type 0
Any x = Unit {0}

pub any : {X : Type 0} (m : Tree X) → Gives Any m
any m = record { gives = λ s t x e. tt }

-- what holds of each value
pub always : {X : Type 0} {P : X → Type 0} (m : Tree X) → ((x : X) → P x) → Gives P m
always m holds = record { gives = λ s t x e. holds x }

-- a step of which nothing is used
pub after_any : {X Y : Type 0} {P : Y → Type 0} {m : Tree X} {f : X → Tree Y} → ((x : X) → Gives P (f x))
    → Gives P (Then m f)
after_any {m = m} next = then_gives (any m) (λ x known. next x)

pub when_gives : {X : Type 0} {P : X → Type 0} {m n : Tree X} (b : Bool) → (b ≡ true → Gives P m)
    → (b ≡ false → Gives P n) → Gives P (cond b m n)
when_gives true held not_held = held refl
when_gives false held not_held = not_held refl

pub cond_holds : {X : Type 0} (P : X → Type 0) (b : Bool) (x y : X) → P x → P y → P (cond b x y)
cond_holds P true x y first second = first
cond_holds P false x y first second = second

-- a prefix of ones up to a greatest number
unary_gives : (most : ℕ) (over : Tree ℕ) (bin : ℕ → Tree Bool) (i n : ℕ) → i + n ≤ most → Gives (λ v. v ≤ most) over
    → Gives (λ v. v ≤ most) (unary over bin i n)
unfolding unary
unary_gives most over bin i zero small gives = gives
unary_gives most over bin i (suc n) small gives =
    after_any (λ more. when_gives more
    (λ held. unary_gives most over bin (i + 1) n (omega (arith, small)) gives)
    (λ held. give_gives i (omega (arith, small))))

pub truncated_gives : (bin : ℕ → Tree Bool) (greatest : ℕ) → Gives (λ v. v ≤ greatest) (truncated bin greatest)
truncated_gives bin greatest =
    unary_gives greatest (Give greatest) bin 0 greatest (omega arith) (give_gives greatest (omega arith))

pub times_gives : {X : Type 0} {P : X → Type 0} (step : ℕ → X → Tree X) → ((i : ℕ) (x : X) → P x → Gives P (step i x))
    → (i n : ℕ) (x : X) → P x → Gives P (times i n step x)
unfolding times
times_gives step each i zero x p = give_gives x p
times_gives step each i (suc n) x p = then_gives (each i x p) (λ y q. times_gives step each (i + 1) n y q)

number-below : (n : ℕ) (e : Engine) (d : ℕ × Engine) → number_at n e ≡ Some d → d.0 < 2 ^ n
unfolding number_at
number-below n e d is =
    let found =
    bind_some (u_at n (left e))
    (λ found. Some (found.0, record { range = e.range; offset = e.offset; bits = e.bits; at = e.at + n })) d is in
    let first = ap (λ (o : Option (ℕ × Engine)). elim o as (λ o. ℕ) [ Some r ↦ r.0 | None ↦ 0 ]) found.2 in
    subst (λ v. v < 2 ^ n) first (u_at-only n (left e) found.0.0 found.0.1 found.1).0

stepped-below : (n : ℕ) (contexts : List ℕ) (o : Option (ℕ × Engine)) (x : ℕ) (t : State)
    → ((d : ℕ × Engine) → o ≡ Some d → d.0 < 2 ^ n) → stepped contexts o ≡ Ok (x, t) → x < 2 ^ n
stepped-below n contexts None x t below e = absurd cc
stepped-below n contexts (Some d) x t below e =
    subst (λ v. v < 2 ^ n) (ap (λ (r : ℕ × State). r.0) (ok_is (d.0, (d.1, contexts)) (x, t) e)) (below d refl)

-- a sample of pulse code modulation is below 2^bits
pub sample_gives : (bits : ℕ) → Gives (λ value. value < 2 ^ bits) (One (Sample bits))
unfolding bin_at
sample_gives bits =
    record { gives = λ s t x e. stepped-below bits s.1 (sample_at bits s.0) x t (number-below bits s.0) e }

digit_below : (value : ℕ) (b : Bool) → 2 * value + digit b + 1 ≤ 2 * (value + 1)
digit_below value true = omega arith
digit_below value false = omega arith

more_digits : (n value : ℕ) (b : Bool) (v : ℕ) → v < (2 * value + digit b + 1) * 2 ^ n → v < (value + 1) * 2 ^ (suc n)
more_digits n value b v below =
    let most = mul-le-mul_right (2 ^ n) (digit_below value b) in
    let same : 2 * (value + 1) * 2 ^ n ≡ (value + 1) * 2 ^ (suc n) =
    ap (λ k. k * 2 ^ n) (mul_comm 2 (value + 1)) ∙ mul_assoc (value + 1) 2 (2 ^ n)
    ∙ ap (λ q. (value + 1) * q) (mul_comm 2 (2 ^ n) ∙ sym (pow-suc 2 n)) in
    omega (arith, most, same, below)

-- a number of n bits behind a value
pub fixed_gives : (n value : ℕ) → Gives (λ v. v < (value + 1) * 2 ^ n) (fixed_after n value)
unfolding fixed_after
fixed_gives zero value = give_gives value (omega arith)
fixed_gives (suc n) value =
    then_gives (any bypass) (λ b known. record {
      gives =
          λ s t v e. more_digits n value b v ((fixed_gives n (2 * value + digit b)).gives s t v e);
    })
