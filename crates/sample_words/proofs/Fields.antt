-- Fields of a word are taken out as they were put in.
use Rattle.std.proofs.Common.{◌≡◌, ℕ, zero, suc, ◌+◌, ◌*◌, ◌/◌, ◌%◌, ◌^◌, ◌<◌, ◌==◌, refl, ap, sym, ◌∙◌, arith, Bool}
use Rattle.std.proofs.Common.{true, false}
use Rattle.std.proofs.Common.{List, [], ◌∷◌}
use Rattle.std.specs.Int.{from_bool}
use Rattle.std.proofs.lemmas.Nat.{shr-shr, shr_high, mod_low}
use Rattle.std.proofs.Math.Nat.{mul_comm}
use Rattle.sample_words.specs.Packing.{lanes, lane, Field, Fits, bits_at, field, joined}

-- a field in front of a number
behind : (bits value rest : ℕ) → value < 2 ^ bits → (value + 2 ^ bits * rest) / 2 ^ bits ≡ rest
behind bits value rest fits =
    let m = mul_comm (2 ^ bits) rest in
    let e : value + 2 ^ bits * rest ≡ rest * 2 ^ bits + value = omega arith in
    ap (λ (n : ℕ). n / 2 ^ bits) e ∙ shr_high rest bits value fits

in_front : (bits value rest : ℕ) → value < 2 ^ bits → (value + 2 ^ bits * rest) % 2 ^ bits ≡ value
in_front bits value rest fits =
    let m = mul_comm (2 ^ bits) rest in
    let e : value + 2 ^ bits * rest ≡ rest * 2 ^ bits + value = omega arith in
    ap (λ (n : ℕ). n % 2 ^ bits) e ∙ mod_low rest bits value fits

whole : (n : ℕ) → n / 2 ^ 0 ≡ n
whole n = omega arith

pub lane_found : (bits n : ℕ) (f : ℕ → ℕ) (j : ℕ) → ((k : ℕ) → f k < 2 ^ bits) → j < n
    → lane bits (lanes bits n f) j ≡ f j
unfolding lane lanes
lane_found bits zero f j fits below = absurd (omega arith)
lane_found bits (suc n) f zero fits below =
    let e : bits * 0 ≡ 0 = omega arith in
    let word : ℕ = f 0 + 2 ^ bits * lanes bits n (λ k. f (k + 1)) in
    ap (λ (k : ℕ). word / 2 ^ k % 2 ^ bits) e ∙ ap (λ (w : ℕ). w % 2 ^ bits) (whole word)
    ∙ in_front bits (f 0) (lanes bits n (λ k. f (k + 1))) (fits 0)
lane_found bits (suc n) f (suc j) fits below =
    let rest : ℕ = lanes bits n (λ k. f (k + 1)) in
    let word : ℕ = f 0 + 2 ^ bits * rest in
    let e : bits * suc j ≡ bits + bits * j = omega arith in
    let again = lane_found bits n (λ k. f (k + 1)) j (λ k. fits (k + 1)) (omega arith) in
    let same : j + 1 ≡ suc j = omega arith in
    ap (λ (k : ℕ). word / 2 ^ k % 2 ^ bits) e
    ∙ ap (λ (w : ℕ). w % 2 ^ bits) (sym (shr-shr word bits (bits * j)))
    ∙ ap (λ (w : ℕ). w / 2 ^ (bits * j) % 2 ^ bits) (behind bits (f 0) rest (fits 0))
    ∙ again ∙ ap f same

-- all of these fields have room
abbrev pub AllFit : List Field → Type 0
AllFit [] = Unit {0}
AllFit (f ∷ fs) = Fits f × AllFit fs

-- field k, and where it begins
abbrev pub nth : List Field → ℕ → Field
nth [] k = field 0 0
nth (f ∷ fs) zero = f
nth (f ∷ fs) (suc k) = nth fs k

abbrev pub first_bit : List Field → ℕ → ℕ
first_bit [] k = 0
first_bit (f ∷ fs) zero = 0
first_bit (f ∷ fs) (suc k) = f.bits + first_bit fs k

pub field_found : (fs : List Field) (k : ℕ) → AllFit fs
    → bits_at (first_bit fs k) (nth fs k).bits (joined fs) ≡ (nth fs k).value
field_found [] k fits = refl
field_found (f ∷ fs) zero fits =
    ap (λ (w : ℕ). w % 2 ^ f.bits) (whole (f.value + 2 ^ f.bits * joined fs))
    ∙ in_front f.bits f.value (joined fs) fits.0
field_found (f ∷ fs) (suc k) fits =
    let rest : ℕ = joined fs in
    ap (λ (w : ℕ). w % 2 ^ (nth fs k).bits) (sym (shr-shr (f.value + 2 ^ f.bits * rest) f.bits (first_bit fs k)))
    ∙ ap (λ (w : ℕ). w / 2 ^ first_bit fs k % 2 ^ (nth fs k).bits) (behind f.bits f.value rest fits.0)
    ∙ field_found fs k fits.1

pub bool_fits : (b : Bool) → from_bool b < 2
bool_fits true = omega arith
bool_fits false = omega arith

pub bool_again : (b : Bool) → (from_bool b == 1) ≡ b
bool_again true = refl
bool_again false = refl
