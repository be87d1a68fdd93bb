-- What stands at a border.
use Rattle.std.proofs.Common.{◌≡◌, ℕ, ◌+◌, ◌-◌, ◌*◌, ◌/◌, ◌<◌, ◌≤◌, ◌==◌, ◌&&◌, nat_le, Bool, true, false}
use Rattle.std.proofs.Common.{refl, ap, ◌∙◌, if◌then◌else◌, arith}
use Rattle.std.proofs.lemmas.Bool.Decides.{nat_tests}
use Rattle.std.proofs.lemmas.Nat.{div-mul-add}
use Rattle.known_picture_laws.specs.LocalityLaws.{is_at_border}
use Rattle.row_borders.specs.Borders.{at_border}

-- in the line above, and in the column on the left
pub at_above : {A : Type 0} (X Y : ℕ) (above left : ℕ → A) (nothing : A) (x y : ℕ) → y + 1 ≡ Y
    → at_border X Y above left nothing x y ≡ above x
at_above X Y above left nothing x y e =
    let yes : (y + 1 == Y) ≡ true = grind (arith, nat_tests) in
    ap (λ (b : Bool). if b then above x else (if x + 1 == X && nat_le Y y then left (y - Y) else nothing)) yes

pub at_left : {A : Type 0} (X Y : ℕ) (above left : ℕ → A) (nothing : A) (x y k : ℕ) → x + 1 ≡ X → y ≡ Y + k
    → at_border X Y above left nothing x y ≡ left k
at_left X Y above left nothing x y k ex ey =
    let no : (y + 1 == Y) ≡ false = grind (arith, nat_tests) in
    let yes : (x + 1 == X && nat_le Y y) ≡ true = grind (arith, nat_tests) in
    let at : y - Y ≡ k = omega (arith, ey) in
    ap (λ (b : Bool). if b then above x else (if x + 1 == X && nat_le Y y then left (y - Y) else nothing)) no
    ∙ ap (λ (b : Bool). if b then left (y - Y) else nothing) yes ∙ ap left at

-- a border has what stands in a picture, where it does so in the line and in the column
pub stands : {A : Type 0} (n X Y : ℕ) (above left : ℕ → A) (nothing : A) (g : ℕ → ℕ → A) (x y : ℕ)
    → (y + 1 ≡ Y → X ≤ x + 1 → x < X + 2 * n → above x ≡ g x (Y - 1))
    → ((k : ℕ) → x + 1 ≡ X → y ≡ Y + k → k < n → left k ≡ g (X - 1) (Y + k))
    → is_at_border n X Y x y ≡ true → at_border X Y above left nothing x y ≡ g x y
stands n X Y above left nothing g x y line column t = by (y + 1 == Y) refl
  where
    by : (b : Bool) → (y + 1 == Y) ≡ b → at_border X Y above left nothing x y ≡ g x y
    by true e =
        let at : y + 1 ≡ Y = grind (arith, nat_tests) in
        let low : X ≤ x + 1 = grind (arith, nat_tests) in
        let high : x < X + 2 * n = grind (arith, nat_tests) in
        let same : Y - 1 ≡ y = omega (arith, at) in
        at_above X Y above left nothing x y at ∙ line at low high ∙ ap (λ k. g x k) same
    by false e =
        let at : x + 1 ≡ X = grind (arith, nat_tests) in
        let low : Y ≤ y = grind (arith, nat_tests) in
        let high : y < Y + n = grind (arith, nat_tests) in
        let is : y ≡ Y + (y - Y) = omega (arith, low) in
        let few : y - Y < n = omega (arith, low, high) in
        let back : X - 1 ≡ x = omega (arith, at) in
        let down : Y + (y - Y) ≡ y = omega (arith, low) in
        at_left X Y above left nothing x y (y - Y) at is ∙ column (y - Y) at is few
        ∙ ap (λ k. g k (Y + (y - Y))) back ∙ ap (λ k. g x k) down

-- the block of the first place of one
pub block_at : (X k : ℕ) → (X + 4 * k - X) / 4 ≡ k
block_at X k =
    let e : X + 4 * k - X ≡ k * 4 + 0 = grind arith in ap (λ m. m / 4) e ∙ div-mul-add k 4 0 (omega arith)
