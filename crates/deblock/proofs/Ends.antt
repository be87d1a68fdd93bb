-- The samples of a line that a filter leaves.
use Rattle.std.proofs.Common.{◌≡◌, ℕ, zero, suc, ◌+◌, ◌<◌, Bool, true, false, refl, ap, ◌∙◌, arith, if◌then◌else◌}
use Rattle.spec_deblocking.specs.declared.line.Line.{Line}
use Rattle.spec_deblocking.specs.declared.line.Filter.TheVariants.{Off, Normal, Strong, Nearest}
use Rattle.spec_deblocking.specs.Lines.{across, nth}
use Rattle.spec_deblocking.specs.Filters.{filtered, normal, strong, nearest}
use Rattle.spec_deblocking.proofs.Across.{nth_is}

chosen : (b : Bool) (x y : Line) (k : ℕ) → nth x k ≡ nth y k → nth (if b then x else y) k ≡ nth y k
chosen true x y k e = e
chosen false x y k e = refl

pub normal_before : (p1 q1 : Bool) (greatest tc : ℕ) (line : Line) (k : ℕ) → k < 2
    → nth (filtered (Normal p1 q1) greatest tc line) k ≡ nth line k
unfolding filtered normal
normal_before p1 q1 greatest tc line zero lt = chosen _ _ line 0 refl
normal_before p1 q1 greatest tc line (suc zero) lt = chosen _ _ line 1 refl
normal_before p1 q1 greatest tc line (suc (suc k)) lt = absurd (omega arith)

pub normal_behind : (p1 q1 : Bool) (greatest tc : ℕ) (line : Line) (k : ℕ) → 6 + k < 8
    → nth (filtered (Normal p1 q1) greatest tc line) (6 + k) ≡ nth line (6 + k)
unfolding filtered normal
normal_behind p1 q1 greatest tc line zero lt = chosen _ _ line 6 refl
normal_behind p1 q1 greatest tc line (suc zero) lt = chosen _ _ line 7 refl
normal_behind p1 q1 greatest tc line (suc (suc k)) lt = absurd (omega arith)

pub strong_before : (greatest tc : ℕ) (line : Line) (k : ℕ) → k < 1
    → nth (filtered Strong greatest tc line) k ≡ nth line k
unfolding filtered strong
strong_before greatest tc line zero lt = refl
strong_before greatest tc line (suc k) lt = absurd (omega arith)

pub strong_behind : (greatest tc : ℕ) (line : Line) (k : ℕ) → 7 + k < 8
    → nth (filtered Strong greatest tc line) (7 + k) ≡ nth line (7 + k)
unfolding filtered strong
strong_behind greatest tc line zero lt = refl
strong_behind greatest tc line (suc k) lt = absurd (omega arith)

pub nearest_before : (greatest tc : ℕ) (line : Line) (k : ℕ) → k < 3
    → nth (filtered Nearest greatest tc line) k ≡ nth line k
unfolding filtered nearest
nearest_before greatest tc line zero lt = refl
nearest_before greatest tc line (suc zero) lt = refl
nearest_before greatest tc line (suc (suc zero)) lt = refl
nearest_before greatest tc line (suc (suc (suc k))) lt = absurd (omega arith)

pub nearest_behind : (greatest tc : ℕ) (line : Line) (k : ℕ) → 5 + k < 8
    → nth (filtered Nearest greatest tc line) (5 + k) ≡ nth line (5 + k)
unfolding filtered nearest
nearest_behind greatest tc line zero lt = refl
nearest_behind greatest tc line (suc zero) lt = refl
nearest_behind greatest tc line (suc (suc zero)) lt = refl
nearest_behind greatest tc line (suc (suc (suc k))) lt = absurd (omega arith)

pub off_stays : (greatest tc : ℕ) (line : Line) (k : ℕ) → nth (filtered Off greatest tc line) k ≡ nth line k
unfolding filtered
off_stays greatest tc line k = refl

pub line_stays : (f : ℕ → ℕ → ℕ) (a b k : ℕ) (old line new : Line) → new ≡ line → old ≡ across f a b
    → nth line k ≡ nth old k → k < 8 → nth new k ≡ f (a + k) b
line_stays f a b k old line new n o e few =
    ap (λ (l : Line). nth l k) n ∙ e ∙ ap (λ (l : Line). nth l k) o ∙ nth_is f a b k few
