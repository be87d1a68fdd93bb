-- Blocks that are laid over cells.
use Rattle.std.proofs.Common.{◌≡◌, ℕ, ◌+◌, ◌-◌, ◌*◌, ◌%◌, ◌^◌, ◌<◌, ◌≤◌, min, Bool, true, false, ◌&&◌, ◌||◌}
use Rattle.std.proofs.Common.{cond, nat_le, nat_lt, refl, ap, sym, ◌∙◌, arith}
use Rattle.std.specs.Prelude.{◌==◌}
use Rattle.std.proofs.Math.Nat.{pow-le-pow_right}
use Rattle.std.proofs.lemmas.Bool.Decides.{nat_tests}
use Rattle.ctu_records.specs.Prediction.{is_inside}
use Rattle.ctu_records.specs.declared.item.Square.{Square}
use Rattle.ctu_records.specs.declared.prediction.Rectangle.{Rectangle}
use Rattle.spec_boundary_strengths.specs.Edges.{is_marked, square_block, stands_left, stands_top}

pub same_tests : (a b : Bool) → (a ≡ true → b ≡ true) → (b ≡ true → a ≡ true) → a ≡ b
same_tests true b f g = sym (f refl)
same_tests false true f g = g refl
same_tests false false f g = refl

pub both_same : (a b c d : Bool) → a ≡ c → b ≡ d → (a && b) ≡ (c && d)
both_same a b c d e f = rw (e, f) refl

marked_or : (c old : Bool) → cond c true old ≡ (old || c)
marked_or true true = refl
marked_or true false = refl
marked_or false true = refl
marked_or false false = refl

-- what is cut off a row lies outside the greatest unit
cut_end : (first count i : ℕ) → first < 16 → i < 16
    → nat_lt i (first + min count (16 - first)) ≡ nat_lt i (first + count)
cut_end first count i hf hi = same_tests _ _ (λ t. grind (arith, nat_tests)) (λ t. grind (arith, nat_tests))

pub cut_block : (x y width height i j : ℕ) → x < 16 → y < 16 → i < 16 → j < 16
    → ((nat_le x i && nat_lt i (x + min width (16 - x))) && (nat_le y j && nat_lt j (y + min height (16 - y))))
    ≡ ((nat_le x i && nat_lt i (x + width)) && (nat_le y j && nat_lt j (y + height)))
cut_block x y width height i j hx hy hi hj =
    both_same _ _ _ _ (both_same _ _ _ _ refl (cut_end x width i hx hi))
    (both_same _ _ _ _ refl (cut_end y height j hy hj))

-- a block one place wide
one_place : (line i : ℕ) → (nat_le line i && nat_lt i (line + 1)) ≡ (i == line)
one_place line i = same_tests _ _ (λ t. grind (arith, nat_tests)) (λ t. grind (arith, nat_tests))

pub left_is : (x y height i j : ℕ) (old : Bool)
    → cond ((nat_le x i && nat_lt i (x + 1)) && (nat_le y j && nat_lt j (y + height))) true old
    ≡ (old || is_marked x y height i j)
left_is x y height i j old =
    marked_or _ old ∙ ap (λ (b : Bool). old || (b && (nat_le y j && nat_lt j (y + height)))) (one_place x i)

and_sym : (a b : Bool) → (a && b) ≡ (b && a)
and_sym true true = refl
and_sym true false = refl
and_sym false true = refl
and_sym false false = refl

pub top_is : (x y width i j : ℕ) (old : Bool)
    → cond ((nat_le x i && nat_lt i (x + width)) && (nat_le y j && nat_lt j (y + 1))) true old
    ≡ (old || is_marked y x width j i)
top_is x y width i j old =
    ap (λ (b : Bool). cond b true old) (and_sym (nat_le x i && nat_lt i (x + width)) (nat_le y j && nat_lt j (y + 1)))
    ∙ left_is y x width j i old

pub many_places : (n : ℕ) → 4 ≤ n → 16 ≤ 2 ^ n
many_places n le = pow-le-pow_right {n = 2} (omega arith) le

pub few_places : (n : ℕ) → n < 4 → 2 ^ n ≤ 8
few_places n lt = let le : n ≤ 3 = omega arith in pow-le-pow_right {n = 2} (omega arith) le

pub small_side : (n : ℕ) → n < 4 → 1 * 2 ^ n % 256 ≡ min (2 ^ n) 16
small_side n lt = let le : 2 ^ n ≤ 8 = few_places n lt in omega arith

-- no place is told apart by what lies past the greatest unit
capped_end : (first count i : ℕ) → i < 16 → nat_lt i (first + min count 16) ≡ nat_lt i (first + count)
capped_end first count i hi = same_tests _ _ (λ t. grind (arith, nat_tests)) (λ t. grind (arith, nat_tests))

pub capped_inside : (x y n i j : ℕ) → i < 16 → j < 16
    → ((nat_le x i && nat_lt i (x + min n 16)) && (nat_le y j && nat_lt j (y + min n 16)))
    ≡ ((nat_le x i && nat_lt i (x + n)) && (nat_le y j && nat_lt j (y + n)))
capped_inside x y n i j hi hj =
    both_same _ _ _ _ (both_same _ _ _ _ refl (capped_end x n i hi)) (both_same _ _ _ _ refl (capped_end y n j hj))

pub capped_marked : (line first n i j : ℕ) → j < 16 → is_marked line first (min n 16) i j ≡ is_marked line first n i j
capped_marked line first n i j hj = both_same _ _ _ _ refl (both_same _ _ _ _ refl (capped_end first n j hj))

-- a square of at most 16 places stands for one of any size
pub left_of : (block : Rectangle) (square : Square) (i j : ℕ) → block.x ≡ square.x → block.y ≡ square.y
    → block.height ≡ min (2 ^ square.log2_size) 16 → j < 16
    → stands_left block i j ≡ stands_left (square_block square) i j
left_of block square i j ex ey eh hj = rw (ex, ey, eh) (capped_marked square.x square.y (2 ^ square.log2_size) i j hj)

pub top_of : (block : Rectangle) (square : Square) (i j : ℕ) → block.x ≡ square.x → block.y ≡ square.y
    → block.width ≡ min (2 ^ square.log2_size) 16 → i < 16
    → stands_top block i j ≡ stands_top (square_block square) i j
top_of block square i j ex ey ew hi = rw (ex, ey, ew) (capped_marked square.y square.x (2 ^ square.log2_size) j i hi)

pub inside_of : (block : Rectangle) (square : Square) (i j : ℕ) → block.x ≡ square.x → block.y ≡ square.y
    → block.width ≡ min (2 ^ square.log2_size) 16 → block.height ≡ min (2 ^ square.log2_size) 16
    → i < 16 → j < 16 → is_inside block i j ≡ is_inside (square_block square) i j
inside_of block square i j ex ey ew eh hi hj =
    rw (ex, ey, ew, eh) (capped_inside square.x square.y (2 ^ square.log2_size) i j hi hj)
