-- Lines of a component in memory of which some were laid.
use Rattle.std.proofs.Common.{◌≡◌, ℕ, zero, suc, ◌+◌, ◌-◌, ◌*◌, ◌/◌, ◌%◌, ◌<◌, ◌≤◌, ◌&&◌, Bool, true, false, cond}
use Rattle.std.proofs.Common.{nat_le, nat_lt}
use Rattle.std.proofs.Common.{List, get_or, length, take, drop, inl, inr, refl, ap, sym, ◌∙◌, arith}
use Rattle.std.proofs.lemmas.Bool.{cases_lt}
use Rattle.std.proofs.lemmas.Bool.Decides.{nat_tests}
use Rattle.std.proofs.lemmas.List.{get_or_past, length-drop, length-take-le}
use Rattle.std.proofs.Math.Nat.{div-add-mod, mod-lt, mul-le-mul_left}
use borrow.Rule.Slice.PartMut.{put_mid}
use Rattle.deblock.specs.Samples.{IsBounded}
use Rattle.deblock.specs.Windows.{at}
use Rattle.deblock.proofs.Laying.{cond_no, cond_yes}
use Rattle.loop_filters.specs.declared.component.Component.{Component}
use Rattle.loop_filters.proofs.Gathered.{part_length, row_written}
use Rattle.row_filters.specs.Lines.{HoldLines, count_of, end_line, first_line}

-- the same test, counted from the first line
same_test : (first a b y : ℕ) → first ≤ a → a ≤ b → first ≤ y
    → (nat_le (a - first) (y - first) && nat_lt (y - first) (a - first + (b - a))) ≡ (nat_le a y && nat_lt y b)
same_test first a b y below few low = elim (cases_lt y a) [
  | inl less ↦ grind (arith, nat_tests)
  | inr more ↦ elim (cases_lt y b) [
    | inl inside ↦ grind (arith, nat_tests)
    | inr past ↦ grind (arith, nat_tests)
  ]
]

-- lines from a to before b of a plane, in memory that begins with another line
module _ (w first last a b k : ℕ) (samples : List ℕ) (below : first ≤ a) (some : a < b) (above : b ≤ last)
    (room : length samples ≡ w * (last - first)) (count : k ≡ w * (b - first) - w * (a - first)) where
  pub part_inside : w * (b - first) ≤ length samples
  part_inside =
      let le : w * (b - first) ≤ w * (last - first) = mul-le-mul_left w (omega (arith, above)) in
      omega (arith, le, room)

  pub part_before : w * (a - first) ≤ w * (b - first)
  part_before = mul-le-mul_left w (omega (arith, some))

  pub part_size : length (take k (drop (w * (a - first)) samples)) ≡ k
  part_size =
      let d = length-drop (w * (a - first)) samples in
      let high = part_inside in
      let low = part_before in
      length-take-le k (drop (w * (a - first)) samples) (omega (arith, d, high, low, count))

  pub part_count : length (take k (drop (w * (a - first)) samples)) ≡ w * (b - a)
  part_count =
      let n = part_length w (a - first) (b - first) k (omega (arith, some)) count in
      let lines : b - first - (a - first) ≡ b - a = omega (arith, below, some) in
      let m : w * (b - first - (a - first)) ≡ w * (b - a) = ap (λ (j : ℕ). w * j) lines in
      let t = part_size in
      omega (arith, t, n, m)

  pub part_laid : (out : List ℕ) (f : ℕ → ℕ → ℕ) → length out ≡ k
      → ((x y : ℕ) → x < w → y < b - a → at w out x y ≡ f x (a + y))
      → (x y : ℕ) → x < w → first ≤ y → y < last
      → at w (put_mid (w * (a - first)) k samples out) x (y - first)
      ≡ cond (nat_le a y && nat_lt y b) (f x y) (at w samples x (y - first))
  part_laid out f size told x y column low high =
      let back : y - first + first ≡ y = omega (arith, low) in
      row_written w (a - first) (b - first) (b - a) (last - first) k samples out (λ i j. f i (j + first)) x (y - first)
      (omega (arith, below, some, above)) (omega (arith, below, some, above)) count room size
      (λ i j left few.
      let line : a + j ≡ a - first + j + first = omega (arith, below) in
      told i j left (omega (arith, few, below)) ∙ ap (f i) line)
      column (omega (arith, low, high))
      ∙ (ap (λ (t : Bool). cond t (f x (y - first + first)) (at w samples x (y - first)))
      (same_test first a b y below (omega (arith, some)) low)
      ∙ ap (λ (j : ℕ). cond (nat_le a y && nat_lt y b) (f x j) (at w samples x (y - first))) back)

-- no lines are laid
pub none_laid : (a b y u v : ℕ) → b ≤ a → v ≡ cond (nat_le a y && nat_lt y b) u v
none_laid a b y u v none =
    let t : (nat_le a y && nat_lt y b) ≡ false = grind (arith, nat_tests) in
    rw t refl

-- three parts, one behind the other, are all lines
pub all_laid : (w first top end last : ℕ) (f : ℕ → ℕ → ℕ) (before one two three : List ℕ)
    → first ≤ top → top ≤ end → end ≤ last
    → ((x y : ℕ) → x < w → first ≤ y → y < last → at w one x (y - first)
    ≡ cond (nat_le first y && nat_lt y top) (f x y) (at w before x (y - first)))
    → ((x y : ℕ) → x < w → first ≤ y → y < last → at w two x (y - first)
    ≡ cond (nat_le top y && nat_lt y end) (f x y) (at w one x (y - first)))
    → ((x y : ℕ) → x < w → first ≤ y → y < last → at w three x (y - first)
    ≡ cond (nat_le end y && nat_lt y last) (f x y) (at w two x (y - first)))
    → (x y : ℕ) → x < w → first ≤ y → y < last → at w three x (y - first) ≡ f x y
all_laid w first top end last f before one two three low mid high a b c x y column from to =
    elim (cases_lt y end) [
      | inl inner ↦
          let t : (nat_le end y && nat_lt y last) ≡ false = grind (arith, nat_tests) in
          cond_no _ _ _ _ (c x y column from to) t
          ∙ elim (cases_lt y top) [
            | inl upper ↦
                let u : (nat_le top y && nat_lt y end) ≡ false = grind (arith, nat_tests) in
                let v : (nat_le first y && nat_lt y top) ≡ true = grind (arith, nat_tests) in
                cond_no _ _ _ _ (b x y column from to) u ∙ cond_yes _ _ _ _ (a x y column from to) v
            | inr own ↦
                let u : (nat_le top y && nat_lt y end) ≡ true = grind (arith, nat_tests) in
                cond_yes _ _ _ _ (b x y column from to) u
          ]
      | inr lower ↦
          let t : (nat_le end y && nat_lt y last) ≡ true = grind (arith, nat_tests) in
          cond_yes _ _ _ _ (c x y column from to) t
    ]

wide : (w h k : ℕ) → k < w * h → 0 < w
wide zero h k less = absurd (omega (arith, less))
wide (suc w) h k less = omega arith

line_inside : (w h k : ℕ) → k < w * h → k / w < h
line_inside w h k less = elim (cases_lt (k / w) h) [
  | inl lt ↦ lt
  | inr le ↦
      let e = div-add-mod k w in
      let more : w * h ≤ w * (k / w) = mul-le-mul_left w le in
      absurd (omega (arith, e, more, less))
]

-- lines of a plane that doesn't exceed a sample don't exceed it
pub held_bounded : (k : Component) (row beside greatest : ℕ) (f : ℕ → ℕ → ℕ) (samples : List ℕ)
    → length samples ≡ count_of k row beside → HoldLines k row beside f samples → ((x y : ℕ) → f x y ≤ greatest)
    → IsBounded greatest samples
held_bounded k row beside greatest f samples many held small q = elim (cases_lt q (length samples)) [
  | inl lt ↦
      let w : ℕ = k.width in
      let n : ℕ = end_line k row beside - first_line k row beside in
      let within : q < w * n = omega (arith, many, lt) in
      let some = wide w n q within in
      let line = line_inside w n q within in
      let column : q % w < w = mod-lt q some in
      let place : w * (q / w) + q % w ≡ q = let e = div-add-mod q w in omega (arith, e) in
      let y : ℕ = first_line k row beside + q / w in
      let from : y - first_line k row beside ≡ q / w = omega arith in
      let told = held (q % w) y column (omega arith) (omega (arith, line)) in
      let index : w * (y - first_line k row beside) + q % w ≡ q = ap (λ (j : ℕ). w * j + q % w) from ∙ place in
      let same : get_or samples q 0 ≡ f (q % w) y = sym (ap (λ (j : ℕ). get_or samples j 0) index) ∙ told in
      let few = small (q % w) y in
      omega (arith, same, few)
  | inr past ↦ let none = get_or_past samples q 0 past in omega (arith, none)
]
