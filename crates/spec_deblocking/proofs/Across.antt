-- The samples of one line, by their places.
use Rattle.std.proofs.Common.{◌≡◌, ℕ, zero, suc, ◌+◌, ◌-◌, ◌*◌, ◌/◌, ◌%◌, ◌<◌, Bool, true, false, refl, ap, subst}
use Rattle.std.proofs.Common.{◌∙◌}
use Rattle.std.proofs.Common.{arith, if◌then◌else◌}
use Rattle.spec_deblocking.specs.declared.line.Line.{Line}
use Rattle.spec_deblocking.specs.declared.place.Place.{Place}
use Rattle.spec_deblocking.specs.Lines.{across, nth}

pub nth_is : (samples : ℕ → ℕ → ℕ) (x y k : ℕ) → k < 8 → nth (across samples x y) k ≡ samples (x + k) y
nth_is samples x y zero h = let e : x ≡ x + 0 = omega arith in ap (λ (i : ℕ). samples i y) e
nth_is samples x y (suc zero) h = refl
nth_is samples x y (suc (suc zero)) h = refl
nth_is samples x y (suc (suc (suc zero))) h = refl
nth_is samples x y (suc (suc (suc (suc zero)))) h = refl
nth_is samples x y (suc (suc (suc (suc (suc zero))))) h = refl
nth_is samples x y (suc (suc (suc (suc (suc (suc zero)))))) h = refl
nth_is samples x y (suc (suc (suc (suc (suc (suc (suc zero))))))) h = refl
nth_is samples x y (suc (suc (suc (suc (suc (suc (suc (suc k)))))))) h = absurd (omega arith)

-- a sample is in the line across its edge
pub nth_here : (samples : ℕ → ℕ → ℕ) (x y : ℕ) → 0 < (x + 4) / 8
    → nth (across samples (8 * ((x + 4) / 8) - 4) y) ((x + 4) % 8) ≡ samples x y
nth_here samples x y some =
    let here : 8 * ((x + 4) / 8) - 4 + (x + 4) % 8 ≡ x = omega arith in
    nth_is samples (8 * ((x + 4) / 8) - 4) y ((x + 4) % 8) (omega arith) ∙ ap (λ (i : ℕ). samples i y) here

pub across_same : (samples other : ℕ → ℕ → ℕ) (x y : ℕ) → ((k : ℕ) → k < 8 → samples (x + k) y ≡ other (x + k) y)
    → across samples x y ≡ across other x y
across_same samples other x y h =
    let e : x + 0 ≡ x = omega arith in
    let h0 : samples x y ≡ other x y = subst (λ (i : ℕ). samples i y ≡ other i y) e (h 0 (omega arith)) in
    rw (
      h0,
      h 1 (omega arith),
      h 2 (omega arith),
      h 3 (omega arith),
      h 4 (omega arith),
      h 5 (omega arith),
      h 6 (omega arith),
      h 7 (omega arith),
    )
    refl

pub if_same : (b : Bool) (u v s t : ℕ) → (b ≡ true → u ≡ s) → v ≡ t → (if b then u else v) ≡ (if b then s else t)
if_same true u v s t e f = e refl
if_same false u v s t e f = f

pub if_one : (b : Bool) (u v s : ℕ) → (b ≡ true → u ≡ s) → v ≡ s → (if b then u else v) ≡ s
if_one true u v s e f = e refl
if_one false u v s e f = f

pub five_same : (f : Place → Place → Line → Line → Line → ℕ) (p q r s : Place) (a b c d e g : Line) → p ≡ r → q ≡ s
    → a ≡ d → b ≡ e → c ≡ g → f p q a b c ≡ f r s d e g
five_same f p q r s a b c d e g x y u v w =
    ap (λ (l : Place). f l q a b c) x ∙ ap (λ (l : Place). f r l a b c) y ∙ ap (λ (l : Line). f r s l b c) u
    ∙ ap (λ (l : Line). f r s d l c) v ∙ ap (λ (l : Line). f r s d e l) w
