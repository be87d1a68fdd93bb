-- The lines of a row in memory among those beside it.
use Rattle.std.proofs.Common.{◌≡◌, ◌≢◌, refl, ℕ, ◌+◌, ◌-◌, ◌*◌, ◌<◌, ◌≤◌, min, arith, ap, sym, ◌∙◌}
use Rattle.std.proofs.Common.{List, get_or, length, take, drop}
use Rattle.std.proofs.lemmas.List.{length-drop, length-take-le}
use Rattle.std.proofs.Math.Nat.{mul-le-mul_left}
use Rattle.hv_base.specs.declared.line.Line.{Line}
use Rattle.hv_base.specs.declared.line.Phase.TheVariants.{B}
use Rattle.deblock.specs.Windows.{at}
use Rattle.loop_filters.specs.declared.component.Component.{Component}
use Rattle.loop_filters.proofs.Gathered.{part_length, part_sample}
use Rattle.row_filters.specs.Lines.{HoldRow, count_of, end_line, first_line}
use Rattle.sample_words.specs.declared.sizes.FlightSizes.{FlightSizes}
use Rattle.sample_words.specs.Sizes.{IsFlight}
use Rattle.flight_waits.specs.SpecFlights.{PlannedFlight}
use Rattle.sample_lines.specs.FactsOfFlights.{samples_at}
use Rattle.sample_lines.specs.Lines.{height_at, sample_of, width_at}
use Rattle.filtered_rows.specs.Components.{HasSidesOf}
use Rattle.filtered_rows.proofs.Sides.{row_unit, unit_height_is, unit_sample, unit_width_is}

-- so many own lines, behind so many above them
module _ (k : Component) (row beside above own : ℕ) (samples : List ℕ) (first : above ≡ min (k.size * row) beside)
    (count : own ≡ min k.size (k.height - k.size * row)) (begins : k.size * row < k.height)
    (many : length samples ≡ count_of k row beside) where
  pub own_inside : k.width * (above + own) ≤ length samples
  own_inside =
      let fit : above + own ≤ end_line k row beside - first_line k row beside =
      omega (arith, first, count, begins) in
      let le : k.width * (above + own) ≤ k.width * (end_line k row beside - first_line k row beside) =
      mul-le-mul_left k.width fit in
      omega (arith, le, many)

  abbrev pub part : List ℕ
  part = take (k.width * (above + own) - k.width * above) (drop (k.width * above) samples)

  pub own_size : length part ≡ k.width * own
  own_size =
      let d = length-drop (k.width * above) samples in
      let high = own_inside in
      let low : k.width * above ≤ k.width * (above + own) = mul-le-mul_left k.width (omega arith) in
      let t =
      length-take-le (k.width * (above + own) - k.width * above) (drop (k.width * above) samples)
      (omega (arith, d, high, low)) in
      let n = part_length k.width above (above + own) (k.width * (above + own) - k.width * above) (omega arith) refl in
      let lines : above + own - above ≡ own = omega arith in
      let m : k.width * (above + own - above) ≡ k.width * own = ap (λ (j : ℕ). k.width * j) lines in
      omega (arith, t, n, m)

  pub own_held : (f : ℕ → ℕ → ℕ) → HoldRow k row beside f samples → (i j : ℕ) → i < k.width → j < own
      → at k.width part i j ≡ f i (k.size * row + j)
  own_held f held i j left few =
      let line : above + j ≡ k.size * row + j - first_line k row beside = omega (arith, first) in
      part_sample k.width above (above + own) i j (k.width * (above + own) - k.width * above) samples (omega arith) left
      (omega (arith, few)) refl
      ∙ ap (λ (l : ℕ). at k.width samples i l) line
      ∙ held i (k.size * row + j) left (omega arith) (omega (arith, few, count, begins))

module _ (s : FlightSizes) (k : Component) (is : IsFlight s) (of : HasSidesOf s k) where
  -- they are the lines of the row's unit
  module _ (l : Line) (other : l.phase ≢ B) (own : ℕ) (count : own ≡ min k.size (k.height - k.size * l.row)) where
    pub own_whole : (n : ℕ) → n ≡ k.width * own → n ≡ width_at (row_unit s l) k.c * height_at (row_unit s l) k.c
    own_whole n e =
        let lines : own ≡ height_at (row_unit s l) k.c = count ∙ sym (unit_height_is s k is of l other) in
        let wide = sym (unit_width_is s k is of l other) in
        e ∙ (ap (λ (j : ℕ). k.width * j) lines ∙ ap (λ (w : ℕ). w * height_at (row_unit s l) k.c) wide)

    pub own_told : (f : PlannedFlight) (out : List ℕ)
        → ((i j : ℕ) → i < k.width → j < own
        → at k.width out i j ≡ samples_at f l.picture l.phase k.c i (k.size * l.row + j))
        → (x y : ℕ) → x < width_at (row_unit s l) k.c → y < height_at (row_unit s l) k.c
        → get_or out (width_at (row_unit s l) k.c * y + x) 0 ≡ sample_of f (row_unit s l) k.c x y
    own_told f out told x y column line =
        let w = unit_width_is s k is of l other in
        let h = unit_height_is s k is of l other in
        ap (λ (j : ℕ). get_or out (j * y + x) 0) w
        ∙ (told x y (omega (arith, w, column)) (omega (arith, h, count, line))
        ∙ sym (unit_sample s k is of l other f x y (k.size * l.row + y) refl))
