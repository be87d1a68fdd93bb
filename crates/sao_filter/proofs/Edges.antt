-- Parts of a line of a block with edge offset.
use Rattle.std.proofs.Common.{◌≡◌, ℕ, Bool, true, false, ℤ, ◌+◌, ◌-◌, ◌*◌, ◌<◌, ◌≤◌, List, length, cond, nat_le}
use Rattle.std.proofs.Common.{nat_lt}
use Rattle.std.proofs.Common.{◌&&◌, refl, ap, sym, ◌∙◌, arith}
use Rattle.std.specs.Prelude.{◌==◌, min}
use Rattle.std.proofs.lemmas.Bool.{cond-true}
use Rattle.std.proofs.lemmas.Bool.Decides.{nat_tests}
use Rattle.spec_sample_adaptive_offset.specs.Offsets.{edge_moved}
use Rattle.spec_sample_adaptive_offset.specs.Plane.{OffsetPlane, edge_sample, may_read}
use Rattle.sao_filter.specs.declared.row.OffsetRow.{OffsetRow}
use Rattle.sao_filter.specs.declared.block.CodingTreeBlock.{CodingTreeBlock}
use Rattle.sao_filter.specs.Row.{HasLines, IsRow, at, plane_of, samples_of, top}
use Rattle.sao_filter.specs.Units.{IsBetween, IsBlock, ReadsLine, reads_unit, shift}
use Rattle.sao_filter.specs.Laying.{LaysLine, between}
use Rattle.sao_filter.proofs.Laid.{line_of_run}
use Rattle.sao_filter.proofs.Beside.{block_is, first_of, may_is, second_of, stands}
use Rattle.sao_filter.proofs.Rows.{room, sample_is}

-- a part of a line of a block whose samples have their neighbours in the same units
pub record IsPart (row : OffsetRow) (block : CodingTreeBlock) (line from to : ℕ) : Type 0 where
  pub of_row : IsRow row
  pub of_block : IsBlock row block
  pub inside : line < block.lines
  pub low : block.from ≤ from
  pub some : from < to
  pub high : to ≤ block.to
  pub alike : from + 1 < to → (block.from < from) × (to < block.to)

-- what is asked of the units of a neighbour
abbrev pub part_reads : OffsetRow → CodingTreeBlock → ℕ → ℕ → ℕ → ℕ → ℕ → Bool
part_reads row block line from to c l =
    reads_unit (plane_of row) block.k row.row (shift c (from == block.from) (to == block.to))
    (shift l (line == 0) (line + 1 == block.lines))

first_is : (from to start end i : ℕ) → start ≤ from → from ≤ i → i < to → to ≤ end
    → (from + 1 < to → (start < from) × (to < end)) → (from == start) ≡ (i == start)
first_is from to start end i low at below high alike = grind (arith, nat_tests)

last_is : (from to start end i : ℕ) → start ≤ from → from ≤ i → i < to → to ≤ end
    → (from + 1 < to → (start < from) × (to < end)) → (to == end) ≡ (i + 1 == end)
last_is from to start end i low at below high alike = grind (arith, nat_tests)

upper_is : (line t : ℕ) → (line == 0) ≡ (t + line == t)
upper_is line t = grind (arith, nat_tests)

lower_is : (line lines t s h : ℕ) → lines ≡ min s (h - t) → t < h
    → (line + 1 == lines) ≡ (t + line + 1 == min (t + s) h)
lower_is line lines t s h is under =
    let e : t + lines ≡ min (t + s) h = omega arith in
    grind (arith, nat_tests)

-- each of its samples reads the units that the part reads
pub part_may : (row : OffsetRow) (block : CodingTreeBlock) (line from to c l i : ℕ) → IsPart row block line from to
    → c ≤ 2 →
    l ≤ 2 → from ≤ i → i < to →
    may_read (plane_of row) i (top row + line) c l ≡ part_reads row block line from to c l
part_may row block line from to c l i is few low at below =
    let start = is.of_block.from in
    let end = is.of_block.to in
    let lines = is.of_block.lines in
    let under = is.of_row.begins in
    let first : (from == block.from) ≡ (i == row.size * block.k) =
    first_is from to block.from block.to i is.low at below is.high is.alike ∙ ap (λ (k : ℕ). i == k) start in
    let last : (to == block.to) ≡ (i + 1 == min (row.size * block.k + row.size) row.width) =
    last_is from to block.from block.to i is.low at below is.high is.alike ∙ ap (λ (k : ℕ). i + 1 == k) end in
    let x_low : row.size * block.k ≤ i = omega (arith, start, is.low, at) in
    let x_high : i < row.size * block.k + row.size = omega (arith, end, is.high, below) in
    let x_in : i < row.width = omega (arith, end, is.high, below) in
    let y_high : row.size * row.row + line < row.size * row.row + row.size = omega (arith, lines, is.inside) in
    let y_in : row.size * row.row + line < row.height = omega (arith, lines, is.inside, under) in
    may_is (plane_of row) block.k row.row i (top row + line) c l _ _
    (stands row.size block.k i c row.width _ _ is.of_row.size.0 few x_low x_high x_in first last)
    (stands row.size row.row (top row + line) l row.height _ _ is.of_row.size.0 low (omega arith) y_high y_in
    (upper_is line (row.size * row.row))
    (lower_is line block.lines (row.size * row.row) row.size row.height lines under))
    (block_is row.size block.k i x_low x_high)
    (block_is row.size row.row (top row + line) (omega arith) y_high)

-- where a neighbour may be read, it is inside the picture
pub record Inside (p : OffsetPlane) (x y c l : ℕ) : Type 0 where
  pub left : 0 < x + c
  pub right : x + c ≤ p.width
  pub above : 0 < y + l
  pub below : y + l ≤ p.height

inside : (p : OffsetPlane) (x y c l : ℕ) → may_read p x y c l ≡ true → Inside p x y c l
inside p x y c l t =
    let there =
    first_of ((nat_lt 0 (x + c) && nat_le (x + c) p.width) && (nat_lt 0 (y + l) && nat_le (y + l) p.height)) _ t in
    let across = first_of (nat_lt 0 (x + c) && nat_le (x + c) p.width) _ there in
    let down =
    second_of (nat_lt 0 (x + c) && nat_le (x + c) p.width) (nat_lt 0 (y + l) && nat_le (y + l) p.height) there in
    record {
      left = grind (arith, nat_tests, across);
      right = grind (arith, nat_tests, across);
      above = grind (arith, nat_tests, down);
      below = grind (arith, nat_tests, down);
    }

-- the neighbours of a whole part are inside the picture
pub record PartInside (row : OffsetRow) (line from to c l : ℕ) : Type 0 where
  pub left : 0 < from + c
  pub right : to + c ≤ row.width + 1
  pub above : 0 < row.size * row.row + line + l
  pub below : row.size * row.row + line + l ≤ row.height

pub part_inside : (row : OffsetRow) (block : CodingTreeBlock) (line from to c l : ℕ)
    → IsPart row block line from to → c ≤ 2
    → l ≤ 2 → part_reads row block line from to c l ≡ true → PartInside row line from to c l
part_inside row block line from to c l is few low t =
    let some = is.some in
    let a =
    inside (plane_of row) from (top row + line) c l
    (part_may row block line from to c l from is few low (omega arith) some ∙ t) in
    let b =
    inside (plane_of row) (to - 1) (top row + line) c l
    (part_may row block line from to c l (to - 1) is few low (omega arith) (omega arith) ∙ t) in
    record { left = a.left; right = omega (arith, b.right, some); above = a.above; below = a.below }

-- they are among the lines that the row has
pub line_room : (row : OffsetRow) (block : CodingTreeBlock) (samples : List ℕ) (line from to c l : ℕ) →
    IsRow row → IsBlock row block → line < block.lines → HasLines row samples → l ≤ 2 →
    PartInside row line from to c l →
    row.width * (line + block.skip + l - 1) + (to + c - 1) ≤ length samples
line_room row block samples line from to c l of_row of_block inside has low in_picture =
    room row.width (line + block.skip + l - 1)
    (min (row.size * row.row + row.size + 1) row.height - (row.size * row.row - 1)) (to + c - 1) (length samples)
    (omega (arith, of_row.begins, inside, of_block.lines, of_block.skip, in_picture.above, in_picture.below))
    has (omega (arith, in_picture.right))

pub part_room : (row : OffsetRow) (block : CodingTreeBlock) (samples : List ℕ) (line from to c l : ℕ) →
    IsPart row block line from to → HasLines row samples → l ≤ 2 → PartInside row line from to c l →
    row.width * (line + block.skip + l - 1) + (to + c - 1) ≤ length samples
part_room row block samples line from to c l is has low in_picture =
    line_room row block samples line from to c l is.of_row is.of_block is.inside has low in_picture

neighbour_index : (width t line skip from i c l first : ℕ) → first ≡ width * (line + skip + l - 1) + (from + c - 1) →
    skip ≡ min t 1 → from ≤ i → 0 < from + c →
    first + (i - from) ≡ width * (t + line + l - 1 - (t - 1)) + (i + c - 1)
neighbour_index width t line skip from i c l first is above low some =
    let e : t + line + l - 1 - (t - 1) ≡ line + skip + l - 1 = omega arith in
    rw (e, is) (omega arith)

-- what is read for a neighbour is the deblocked sample there
neighbour_is : (row : OffsetRow) (samples : List ℕ) (line skip from i c l first : ℕ) →
    first ≡ row.width * (line + skip + l - 1) + (from + c - 1) → skip ≡ min (top row) 1 → from ≤ i → 0 < from + c →
    at samples (first + (i - from)) ≡ samples_of row samples (i + c - 1) (top row + line + l - 1)
neighbour_is row samples line skip from i c l first is above low some =
    ap (λ (k : ℕ). at samples k) (neighbour_index row.width (top row) line skip from i c l first is above low some)

edge_read : (row : OffsetRow) (samples : List ℕ) (offsets : List ℤ) (c l i y s a b : ℕ) →
    (may_read (plane_of row) i y c l && may_read (plane_of row) i y (2 - c) (2 - l)) ≡ true →
    s ≡ samples_of row samples i y → a ≡ samples_of row samples (i + c - 1) (y + l - 1) →
    b ≡ samples_of row samples (i + (2 - c) - 1) (y + (2 - l) - 1) →
    edge_moved row.depth offsets s a b ≡ edge_sample (plane_of row) (samples_of row samples) offsets c l i y
unfolding edge_sample
edge_read row samples offsets c l i y s a b t is first second =
    ap (λ (v : ℕ). edge_moved row.depth offsets v a b) is
    ∙ ap (λ (v : ℕ). edge_moved row.depth offsets (samples_of row samples i y) v b) first
    ∙ ap (λ (v : ℕ). edge_moved row.depth offsets (samples_of row samples i y)
    (samples_of row samples (i + c - 1) (y + l - 1)) v)
    second
    ∙ sym (cond-true (may_read (plane_of row) i y c l && may_read (plane_of row) i y (2 - c) (2 - l)) _
    (samples_of row samples i y) t)

kept_of : (b : Bool) (v w : ℕ) → b ≡ false → w ≡ cond b v w
kept_of true v w t = cc
kept_of false v w t = refl

edge_stays : (row : OffsetRow) (samples : List ℕ) (offsets : List ℤ) (c l i y : ℕ) →
    (may_read (plane_of row) i y c l && may_read (plane_of row) i y (2 - c) (2 - l)) ≡ false →
    samples_of row samples i y ≡ edge_sample (plane_of row) (samples_of row samples) offsets c l i y
unfolding edge_sample
edge_stays row samples offsets c l i y t =
    kept_of (may_read (plane_of row) i y c l && may_read (plane_of row) i y (2 - c) (2 - l)) _
    (samples_of row samples i y) t

both_may : (row : OffsetRow) (block : CodingTreeBlock) (line from to c l i : ℕ) → IsPart row block line from to
    → c ≤ 2 → l ≤ 2 →
    from ≤ i → i < to →
    (may_read (plane_of row) i (top row + line) c l && may_read (plane_of row) i (top row + line) (2 - c) (2 - l))
    ≡ (part_reads row block line from to c l && part_reads row block line from to (2 - c) (2 - l))
both_may row block line from to c l i is few low at below =
    ap (λ (b : Bool). b && may_read (plane_of row) i (top row + line) (2 - c) (2 - l))
    (part_may row block line from to c l i is few low at below)
    ∙ ap (λ (b : Bool). part_reads row block line from to c l && b)
    (part_may row block line from to (2 - c) (2 - l) i is (omega arith) (omega arith) at below)

-- a part whose neighbours may be read
pub part_laid : (row : OffsetRow) (block : CodingTreeBlock) (samples : List ℕ) (offsets : List ℤ)
    (line from to c l start first count a b : ℕ) (new old : List ℕ) →
    IsPart row block line from to → c ≤ 2 → l ≤ 2 →
    (part_reads row block line from to c l && part_reads row block line from to (2 - c) (2 - l)) ≡ true →
    start ≡ row.width * (line + block.skip) + from → first ≡ row.width * line + from → count + from ≡ to →
    a ≡ row.width * (line + block.skip + l - 1) + (from + c - 1) →
    b ≡ row.width * (line + block.skip + (2 - l) - 1) + (from + (2 - c) - 1) →
    ((q : ℕ)
    → at new q
    ≡ cond (nat_le first q && nat_lt q (first + count))
    (edge_moved row.depth offsets (at samples (start + (q - first))) (at samples (a + (q - first)))
    (at samples (b + (q - first))))
    (at old q)) →
    LaysLine row.width line from to
    (λ i. edge_sample (plane_of row) (samples_of row samples) offsets c l i (top row + line)) old new
part_laid row block samples offsets line from to c l start first count a b new old is few low t starts begins
    many a_is b_is wrote =
    let one = part_inside row block line from to c l is few low (first_of _ _ t) in
    let two =
    part_inside row block line from to (2 - c) (2 - l) is (omega arith) (omega arith)
    (second_of (part_reads row block line from to c l) _ t) in
    line_of_run row.width line from to first count new old
    (λ k. edge_moved row.depth offsets (at samples (start + k)) (at samples (a + k)) (at samples (b + k)))
    (λ i. edge_sample (plane_of row) (samples_of row samples) offsets c l i (top row + line))
    begins many (omega (arith, is.of_block.to, is.high)) wrote
    (λ i at below. edge_read row samples offsets c l i (top row + line) _ _ _
    (both_may row block line from to c l i is few low at below ∙ t)
    (sample_is row samples line block.skip from i start starts is.of_block.skip at)
    (neighbour_is row samples line block.skip from i c l a a_is is.of_block.skip at one.left)
    (neighbour_is row samples line block.skip from i (2 - c) (2 - l) b b_is is.of_block.skip at two.left))

-- where a sample of a line stands
data Stands (from to i : ℕ) : Type 0 where
  First : i < from + 1 → Stands from to i
  Between : from + 1 ≤ i → i < to - 1 → Stands from to i
  Last : to - 1 ≤ i → Stands from to i

stands_by : (from to i : ℕ) (first last : Bool) → first ≡ nat_lt i (from + 1) → last ≡ nat_le (to - 1) i
    → Stands from to i
stands_by from to i true last f l = First (grind (arith, nat_tests))
stands_by from to i false true f l = Last (grind (arith, nat_tests))
stands_by from to i false false f l = Between (grind (arith, nat_tests)) (grind (arith, nat_tests))

-- what both neighbours of a part ask
abbrev pub part_reads_both : OffsetRow → CodingTreeBlock → ℕ → ℕ → ℕ → ℕ → ℕ → Bool
part_reads_both row block line from to c l =
    part_reads row block line from to c l && part_reads row block line from to (2 - c) (2 - l)

sample_may : (row : OffsetRow) (block : CodingTreeBlock) (line c l i : ℕ) → IsRow row → IsBlock row block
    → line < block.lines →
    c ≤ 2 → l ≤ 2 → part_reads_both row block line block.from (block.from + 1) c l ≡ true →
    part_reads_both row block line (block.from + 1) (block.to - 1) c l ≡ true →
    part_reads_both row block line (block.to - 1) block.to c l ≡ true → block.from ≤ i → i < block.to →
    Stands block.from block.to i →
    (may_read (plane_of row) i (top row + line) c l && may_read (plane_of row) i (top row + line) (2 - c) (2 - l))
    ≡ true
sample_may row block line c l i of_row of_block inside few low head middle tail at below (First lt) =
    let is : IsPart row block line block.from (block.from + 1) = record {
      of_row = of_row;
      of_block = of_block;
      inside = inside;
      low = omega arith;
      some = omega arith;
      high = omega arith;
      alike = λ more. absurd (omega (arith, more));
    } in
    both_may row block line block.from (block.from + 1) c l i is few low at lt ∙ head
sample_may row block line c l i of_row of_block inside few low head middle tail at below (Between low_end high_end) =
    let is : IsPart row block line (block.from + 1) (block.to - 1) = record {
      of_row = of_row;
      of_block = of_block;
      inside = inside;
      low = omega arith;
      some = omega arith;
      high = omega arith;
      alike = λ more. (omega arith, omega arith);
    } in
    both_may row block line (block.from + 1) (block.to - 1) c l i is few low low_end high_end ∙ middle
sample_may row block line c l i of_row of_block inside few low head middle tail at below (Last le) =
    let is : IsPart row block line (block.to - 1) block.to = record {
      of_row = of_row;
      of_block = of_block;
      inside = inside;
      low = omega arith;
      some = omega arith;
      high = omega arith;
      alike = λ more. absurd (omega (arith, more));
    } in
    both_may row block line (block.to - 1) block.to c l i is few low le below ∙ tail

-- a line reads where its first sample, those between and its last do
pub line_reads : (row : OffsetRow) (block : CodingTreeBlock) (line c l : ℕ) → IsRow row → IsBlock row block →
    line < block.lines → c ≤ 2 → l ≤ 2 → part_reads_both row block line block.from (block.from + 1) c l ≡ true →
    part_reads_both row block line (block.from + 1) (block.to - 1) c l ≡ true →
    part_reads_both row block line (block.to - 1) block.to c l ≡ true → ReadsLine row block c l line
line_reads row block line c l of_row of_block inside few low head middle tail i at below =
    sample_may row block line c l i of_row of_block inside few low head middle tail at below
    (stands_by block.from block.to i _ _ refl refl)

-- lines between the first and the last ask the same
between_alike : (row : OffsetRow) (block : CodingTreeBlock) (line n from to c l : ℕ) → IsBetween block line
    → IsBetween block n →
    part_reads_both row block n from to c l ≡ part_reads_both row block line from to c l
between_alike row block line n from to c l here there =
    let a : (line == 0) ≡ false = let low = here.first in grind (arith, nat_tests) in
    let b : (n == 0) ≡ false = let low = there.first in grind (arith, nat_tests) in
    let p : (line + 1 == block.lines) ≡ false = let high = here.last in grind (arith, nat_tests) in
    let q : (n + 1 == block.lines) ≡ false = let high = there.last in grind (arith, nat_tests) in
    rw (a, b, p, q) refl

-- and read where one of them does
pub between_reads : (row : OffsetRow) (block : CodingTreeBlock) (line c l : ℕ) → IsRow row → IsBlock row block →
    c ≤ 2 → l ≤ 2 → part_reads_both row block line block.from (block.from + 1) c l ≡ true →
    part_reads_both row block line (block.from + 1) (block.to - 1) c l ≡ true →
    part_reads_both row block line (block.to - 1) block.to c l ≡ true → IsBetween block line → (n : ℕ) →
    IsBetween block n → ReadsLine row block c l n
between_reads row block line c l of_row of_block few low head middle tail here n there =
    line_reads row block n c l of_row of_block (omega (arith, there.last)) few low
    (between_alike row block line n block.from (block.from + 1) c l here there ∙ head)
    (between_alike row block line n (block.from + 1) (block.to - 1) c l here there ∙ middle)
    (between_alike row block line n (block.to - 1) block.to c l here there ∙ tail)

-- the neighbours of a line that reads are inside the picture
line_inside : (row : OffsetRow) (block : CodingTreeBlock) (line c l : ℕ) → IsBlock row block →
    ((i : ℕ) → block.from ≤ i → i < block.to → may_read (plane_of row) i (top row + line) c l ≡ true) →
    PartInside row line block.from block.to c l
line_inside row block line c l is reads =
    let some = is.some in
    let a = inside (plane_of row) block.from (top row + line) c l (reads block.from (omega arith) some) in
    let b =
    inside (plane_of row) (block.to - 1) (top row + line) c l (reads (block.to - 1) (omega arith) (omega arith)) in
    record { left = a.left; right = omega (arith, b.right, some); above = a.above; below = a.below }

pub first_inside : (row : OffsetRow) (block : CodingTreeBlock) (line c l : ℕ) → IsBlock row block
    → ReadsLine row block c l line →
    PartInside row line block.from block.to c l
first_inside row block line c l is reads =
    line_inside row block line c l is
    (λ i at below. first_of (may_read (plane_of row) i (top row + line) c l) _ (reads i at below))

pub second_inside : (row : OffsetRow) (block : CodingTreeBlock) (line c l : ℕ) → IsBlock row block
    → ReadsLine row block c l line →
    PartInside row line block.from block.to (2 - c) (2 - l)
second_inside row block line c l is reads =
    line_inside row block line (2 - c) (2 - l) is
    (λ i at below. second_of (may_read (plane_of row) i (top row + line) c l) _ (reads i at below))

-- a line whose neighbours may be read
pub line_laid : (row : OffsetRow) (block : CodingTreeBlock) (samples : List ℕ) (offsets : List ℤ)
    (line c l start first count a b : ℕ) (new old : List ℕ) →
    IsBlock row block → ReadsLine row block c l line →
    start ≡ row.width * (line + block.skip) + block.from → first ≡ row.width * line + block.from →
    count + block.from ≡ block.to →
    a ≡ row.width * (line + block.skip + l - 1) + (block.from + c - 1) →
    b ≡ row.width * (line + block.skip + (2 - l) - 1) + (block.from + (2 - c) - 1) →
    ((q : ℕ)
    → at new q
    ≡ cond (nat_le first q && nat_lt q (first + count))
    (edge_moved row.depth offsets (at samples (start + (q - first))) (at samples (a + (q - first)))
    (at samples (b + (q - first))))
    (at old q)) →
    LaysLine row.width line block.from block.to
    (λ i. edge_sample (plane_of row) (samples_of row samples) offsets c l i (top row + line)) old new
line_laid row block samples offsets line c l start first count a b new old is reads starts begins many a_is b_is
    wrote =
    let one = first_inside row block line c l is reads in
    let two = second_inside row block line c l is reads in
    line_of_run row.width line block.from block.to first count new old
    (λ k. edge_moved row.depth offsets (at samples (start + k)) (at samples (a + k)) (at samples (b + k)))
    (λ i. edge_sample (plane_of row) (samples_of row samples) offsets c l i (top row + line))
    begins many (omega (arith, is.to)) wrote
    (λ i at below. edge_read row samples offsets c l i (top row + line) _ _ _ (reads i at below)
    (sample_is row samples line block.skip block.from i start starts is.skip at)
    (neighbour_is row samples line block.skip block.from i c l a a_is is.skip at one.left)
    (neighbour_is row samples line block.skip block.from i (2 - c) (2 - l) b b_is is.skip at two.left))

-- a part whose neighbours may not be read
pub part_stays : (row : OffsetRow) (block : CodingTreeBlock) (samples : List ℕ) (offsets : List ℤ)
    (line from to c l start first count : ℕ) (new old : List ℕ) →
    IsPart row block line from to → c ≤ 2 → l ≤ 2 →
    (part_reads row block line from to c l && part_reads row block line from to (2 - c) (2 - l)) ≡ false →
    start ≡ row.width * (line + block.skip) + from → first ≡ row.width * line + from → count + from ≡ to →
    ((q : ℕ)
    → at new q ≡ cond (nat_le first q && nat_lt q (first + count)) (at samples (start + (q - first))) (at old q)) →
    LaysLine row.width line from to
    (λ i. edge_sample (plane_of row) (samples_of row samples) offsets c l i (top row + line)) old new
part_stays row block samples offsets line from to c l start first count new old is few low t starts begins many wrote =
    line_of_run row.width line from to first count new old
    (λ k. at samples (start + k))
    (λ i. edge_sample (plane_of row) (samples_of row samples) offsets c l i (top row + line))
    begins many (omega (arith, is.of_block.to, is.high)) wrote
    (λ i at below. sample_is row samples line block.skip from i start starts is.of_block.skip at
    ∙ edge_stays row samples offsets c l i (top row + line)
    (both_may row block line from to c l i is few low at below ∙ t))

-- the first neighbour by another name
pub renamed : (row : OffsetRow) (samples : List ℕ) (offsets : List ℤ) (line from to c c2 l l2 : ℕ) (old new : List ℕ) →
    c ≡ c2 → l ≡ l2 →
    LaysLine row.width line from to
    (λ i. edge_sample (plane_of row) (samples_of row samples) offsets c l i (top row + line)) old new →
    LaysLine row.width line from to
    (λ i. edge_sample (plane_of row) (samples_of row samples) offsets c2 l2 i (top row + line)) old new
renamed row samples offsets line from to c c2 l l2 old new column down laid i j h =
    laid i j h
    ∙ ap (λ (v : ℕ). cond (j == line && between from to i) v (at old (row.width * j + i)))
    (ap (λ (k : ℕ). edge_sample (plane_of row) (samples_of row samples) offsets k l i (top row + line)) column
    ∙ ap (λ (k : ℕ). edge_sample (plane_of row) (samples_of row samples) offsets c2 k i (top row + line)) down)
