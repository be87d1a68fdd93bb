-- Lines of a row, laid among all samples of a component.
use Rattle.std.proofs.Common.{◌≡◌, ℕ, ◌+◌, ◌-◌, ◌*◌, ◌<◌, ◌≤◌, ◌&&◌, true, false, cond, nat_le, nat_lt, List}
use Rattle.std.proofs.Common.{get_or, length, sym, ap, subst, ◌∙◌, arith, inl, inr}
use Rattle.std.proofs.Common.{take, drop, ◌++◌, length-append, length-drop}
use Rattle.std.proofs.lemmas.Bool.{cases_lt}
use Rattle.std.proofs.lemmas.List.{length-take-le}
use Rattle.std.proofs.lemmas.Bool.Decides.{nat_tests}
use Rattle.std.proofs.Math.Nat.{mul-le-mul_left}
use borrow.Rule.Slice.PartMut.{put_mid}
use Rattle.picture_buffer.proofs.Laying.{part_at}
use Rattle.sample_words.specs.Contents.{component_side}
use Rattle.sample_words.specs.declared.sizes.FlightSizes.{FlightSizes}
use Rattle.sample_words.specs.Sizes.{IsFlight, height_of, rows}
use Rattle.taken_pictures.specs.Rows.{first_line, is_line_of_row}
use Rattle.taken_pictures.proofs.Sides.{line_among, lines_inside}

-- a list of which a part was written has as many elements as before
pub part_written : (a k : ℕ) (xs ys : List ℕ) → a + k ≤ length xs → length ys ≡ k
    → length (put_mid a k xs ys) ≡ length xs
part_written a k xs ys room e =
    let t : length (take a xs) ≡ a = length-take-le a xs (omega (arith, room)) in
    let d = length-drop a xs in
    let r = length-drop k (drop a xs) in
    let s = length-append (take a xs) (ys ++ drop k (drop a xs)) in
    let u = length-append ys (drop k (drop a xs)) in
    omega (arith, room, e, t, d, r, s, u)

-- a line ends before the next one begins
row_below : (n a b : ℕ) → a < b → n * a + n ≤ n * b
row_below n a b less = let le : n * (a + 1) ≤ n * b = mul-le-mul_left n (omega (arith, less)) in grind arith

-- the lines end where those of the component do, or before
pub ends_inside : (w top count h : ℕ) → top + count ≤ h → w * top + w * count ≤ w * h
ends_inside w top count h most =
    let le : w * (top + count) ≤ w * h = mul-le-mul_left w most in
    grind arith

-- a sample of the component once lines from one on were laid
pub laid : (w h top count k y x : ℕ) (plane part : List ℕ) (f : ℕ → ℕ → ℕ) → k ≡ w * count
    → length plane ≡ w * h → top + count ≤ h → length part ≡ k
    → ((i j : ℕ) → i < w → j < count → get_or part (w * j + i) 0 ≡ f i (top + j))
    → x < w → y < h
    → get_or (put_mid (w * top) k plane part) (w * y + x) 0
    ≡ cond (nat_le top y && nat_lt y (top + count)) (f x y) (get_or plane (w * y + x) 0)
laid w h top count k y x plane part f size whole most many told column line =
    let ends = ends_inside w top count h most in
    let read = part_at (w * top) k plane part (w * y + x) (omega (arith, ends, whole, size)) many in
    elim (cases_lt y top) [
      | inl above ↦
          let less = row_below w y top above in
          let out : (nat_le (w * top) (w * y + x) && nat_lt (w * y + x) (w * top + k)) ≡ false =
          grind (arith, nat_tests) in
          let fails : (nat_le top y && nat_lt y (top + count)) ≡ false = grind (arith, nat_tests) in
          read
          ∙ (ap (λ b. cond b (get_or part (w * y + x - w * top) 0) (get_or plane (w * y + x) 0)) out
          ∙ sym (ap (λ b. cond b (f x y) (get_or plane (w * y + x) 0)) fails))
      | inr low ↦ elim (cases_lt y (top + count)) [
        | inl high ↦
            let j : ℕ = y - top in
            let line_is : top + j ≡ y = omega (arith, low) in
            let start : w * y ≡ w * top + w * j =
            let spread : w * (top + j) ≡ w * top + w * j = grind arith in
            ap (λ n. w * n) (sym line_is) ∙ spread in
            let next = row_below w j count (omega (arith, low, high)) in
            let in_part : (nat_le (w * top) (w * y + x) && nat_lt (w * y + x) (w * top + k)) ≡ true =
            grind (arith, nat_tests) in
            let holds : (nat_le top y && nat_lt y (top + count)) ≡ true = grind (arith, nat_tests) in
            let place : w * y + x - w * top ≡ w * j + x = omega (arith, start) in
            read
            ∙ (ap (λ b. cond b (get_or part (w * y + x - w * top) 0) (get_or plane (w * y + x) 0)) in_part
            ∙ (ap (λ n. get_or part n 0) place
            ∙ (told x j column (omega (arith, low, high))
            ∙ (ap (f x) line_is ∙ sym (ap (λ b. cond b (f x y) (get_or plane (w * y + x) 0)) holds)))))
        | inr past ↦
            let le : w * (top + count) ≤ w * y = mul-le-mul_left w past in
            let spread : w * (top + count) ≡ w * top + w * count = grind arith in
            let out : (nat_le (w * top) (w * y + x) && nat_lt (w * y + x) (w * top + k)) ≡ false =
            grind (arith, nat_tests) in
            let fails : (nat_le top y && nat_lt y (top + count)) ≡ false = grind (arith, nat_tests) in
            read
            ∙ (ap (λ b. cond b (get_or part (w * y + x - w * top) 0) (get_or plane (w * y + x) 0)) out
            ∙ sym (ap (λ b. cond b (f x y) (get_or plane (w * y + x) 0)) fails))
      ]
    ]

-- the lines of a row, of those of a picture of these sizes
module _ (s : FlightSizes) (c row : ℕ) (sizes : IsFlight s) (there : row < rows s) (w first count k : ℕ)
    (wide : w ≡ component_side c s.width) (top : first ≡ first_line s c row)
    (high : count ≡ component_side c (height_of s row)) (plane : List ℕ)
    (whole : length plane ≡ component_side c s.width * component_side c s.height) where
  most : first + count ≤ component_side c s.height
  most = let inside = lines_inside s c row sizes there in omega (arith, top, high, inside)

  all : length plane ≡ w * component_side c s.height
  all = whole ∙ ap (λ n. n * component_side c s.height) (sym wide)

  pub part_inside : w * first + w * count ≤ length plane
  part_inside = let ends = ends_inside w first count (component_side c s.height) most in omega (arith, ends, all)

  test_is : (y : ℕ) → y < component_side c s.height
      → (nat_le first y && nat_lt y (first + count)) ≡ is_line_of_row s c row y
  test_is y line =
      (λ t. nat_le (top t) y && nat_lt y (top t + count)) ∙ line_among s c row count y sizes high line

  pub row_laid : k ≡ w * count → (part : List ℕ) (f : ℕ → ℕ → ℕ) → length part ≡ k
      → ((i j : ℕ) → i < w → j < count → get_or part (w * j + i) 0 ≡ f i (first + j))
      → (x y : ℕ) → x < component_side c s.width → y < component_side c s.height
      → get_or (put_mid (w * first) k plane part) (component_side c s.width * y + x) 0
      ≡ cond (is_line_of_row s c row y) (f x y) (get_or plane (component_side c s.width * y + x) 0)
  row_laid size part f many told x y column line =
      ap (λ n. get_or (put_mid (w * first) k plane part) (n * y + x) 0) (sym wide)
      ∙ (laid w (component_side c s.height) first count k y x plane part f size all most many told
      (subst (λ n. x < n) (sym wide) column) line
      ∙ (λ t. cond (test_is y line t) (f x y) (get_or plane (wide t * y + x) 0)))
