-- A plane between the filters of its rows.
use Rattle.std.proofs.Common.{◌≡◌, ℕ, ◌+◌, ◌-◌, ◌*◌, ◌/◌, ◌^◌, ◌<◌, ◌≤◌, ◌&&◌, Bool, true, false, cond, nat_le}
use Rattle.std.proofs.Common.{nat_lt, List, length, get_or, inl, inr, refl, ap, sym, subst, ◌∙◌, arith}
use Rattle.std.proofs.lemmas.Bool.{cases_lt}
use Rattle.std.proofs.lemmas.Bool.Decides.{nat_tests}
use Rattle.deblock.specs.Samples.{IsBounded}
use Rattle.deblock.specs.Windows.{at}
use Rattle.deblock.proofs.Depths.{power_few}
use Rattle.deblock.proofs.Laying.{cond_no, cond_yes}
use Rattle.spec_loop_filters.specs.SpecDeblocking.{Place}
use Rattle.spec_loop_filters.specs.SpecDeblocking.{deblocked, vertical}
use Rattle.spec_sample_adaptive_offset.specs.Plane.{OffsetPlane, offset_sample}
use Rattle.spec_sample_adaptive_offset.proofs.Samples.{in_range}
use Rattle.loop_filters.specs.declared.component.Component.{Component}
use Rattle.loop_filters.specs.Rows.{IsStage, StandsAround, deblocked_of}
use Rattle.loop_filters.proofs.Copied.{bounded_by}
use Rattle.loop_filters.proofs.Passes.{horizontal_past}

-- no row is filtered
pub stage_none : (component : Component) (places : ℕ → ℕ → Place) (behind : ℕ → ℕ → ℕ) (a n : ℕ) (samples : List ℕ)
    → a ≡ 0 → n ≡ 0
    → IsStage component places (at component.width samples) behind a n n samples
stage_none component places behind a n samples ea en = record {
  final = λ x y _ _ lt. absurd (omega (arith, lt, ea));
  deblocked = λ x y _ _ _ lt. absurd (omega (arith, lt, en));
  vertical = λ x y _ _ _ lt. absurd (omega (arith, lt, en));
  yet = λ x y _ _ _. refl;
}

-- a row of which all lines are deblocked
pub stands_next : (component : Component) (row n : ℕ) (places : ℕ → ℕ → Place) (before behind : ℕ → ℕ → ℕ)
    (samples last : List ℕ)
    → component.size * row + component.size + 8 ≤ n
    → IsStage component places before behind (component.size * row) n n samples
    → (0 < component.size * row → (x : ℕ) → x < component.width
    → get_or last x 0 ≡ deblocked_of component places before x (component.size * row - 1))
    → StandsAround component row (deblocked_of component places before) samples last
stands_next component row n places before behind samples last room stage above = record {
  own = λ x y a b low high. stage.deblocked x y a b low (omega (arith, room, high));
  above = above;
}

-- and the last one
pub stands_last : (component : Component) (row n : ℕ) (places : ℕ → ℕ → Place) (before behind : ℕ → ℕ → ℕ)
    (samples last : List ℕ)
    → component.height ≤ n
    → IsStage component places before behind (component.size * row) n n samples
    → (0 < component.size * row → (x : ℕ) → x < component.width
    → get_or last x 0 ≡ deblocked_of component places before x (component.size * row - 1))
    → StandsAround component row (deblocked_of component places before) samples last
unfolding deblocked
stands_last component row n places before behind samples last covers stage above = record {
  own = λ x y a b low high. elim (cases_lt (8 * ((y + 4) / 8)) n) [
    | inl lt ↦ stage.deblocked x y a b low lt
    | inr le ↦
        stage.vertical x y a b le (omega (arith, b, covers))
        ∙ horizontal_past component.plane component.depth component.height places
        (vertical component.plane component.depth component.width places before) x y (omega (arith, le, covers))
  ];
  above = above;
}

-- a row that has its offsets
pub offsets_stage : (component : Component) (a s n : ℕ) (places : ℕ → ℕ → Place) (before behind : ℕ → ℕ → ℕ)
    (old new : List ℕ) → a + s + 8 ≤ n
    → IsStage component places before behind a n n old
    → ((x y : ℕ) → x < component.width → y < component.height
    → at component.width new x y
    ≡ cond (nat_le a y && nat_lt y (a + s)) (behind x y) (at component.width old x y))
    → IsStage component places before behind (a + s) n n new
offsets_stage component a s n places before behind old new room stage value =
    let out : (x y : ℕ) → x < component.width → y < component.height → a + s ≤ y
    → at component.width new x y ≡ at component.width old x y = λ x y h l le.
    let no : (nat_le a y && nat_lt y (a + s)) ≡ false = grind (arith, nat_tests) in
    cond_no _ _ _ _ (value x y h l) no in
    record {
      final = λ x y h l lt. elim (cases_lt y a) [
        | inl less ↦
            let no : (nat_le a y && nat_lt y (a + s)) ≡ false = grind (arith, nat_tests) in
            cond_no _ _ _ _ (value x y h l) no ∙ stage.final x y h l less
        | inr le ↦
            let yes : (nat_le a y && nat_lt y (a + s)) ≡ true = grind (arith, nat_tests) in
            cond_yes _ _ _ _ (value x y h l) yes
      ];
      deblocked = λ x y h l low lt. out x y h l low ∙ stage.deblocked x y h l (omega (arith, low)) lt;
      vertical = λ x y h l le lt. out x y h l (omega (arith, le, room)) ∙ stage.vertical x y h l le lt;
      yet = λ x y h l le. out x y h l (omega (arith, le, room)) ∙ stage.yet x y h l le;
    }

pub offsets_last : (component : Component) (a s n : ℕ) (places : ℕ → ℕ → Place) (before behind : ℕ → ℕ → ℕ)
    (old new : List ℕ) → component.height ≤ a + s
    → IsStage component places before behind a n n old
    → ((x y : ℕ) → x < component.width → y < component.height
    → at component.width new x y
    ≡ cond (nat_le a y && nat_lt y (a + s)) (behind x y) (at component.width old x y))
    → (x y : ℕ) → x < component.width → y < component.height → at component.width new x y ≡ behind x y
offsets_last component a s n places before behind old new covers stage value x y h l = elim (cases_lt y a) [
  | inl less ↦
      let no : (nat_le a y && nat_lt y (a + s)) ≡ false = grind (arith, nat_tests) in
      cond_no _ _ _ _ (value x y h l) no ∙ stage.final x y h l less
  | inr le ↦
      let yes : (nat_le a y && nat_lt y (a + s)) ≡ true = grind (arith, nat_tests) in
      cond_yes _ _ _ _ (value x y h l) yes
]

cond_small : (t : Bool) (u v greatest : ℕ) → (t ≡ true → u ≤ greatest) → v ≤ greatest → cond t u v ≤ greatest
cond_small true u v greatest p q = p refl
cond_small false u v greatest p q = q

-- samples with offsets are in range
pub offsets_bounded : (component : Component) (row : ℕ) (plane : OffsetPlane) (f : ℕ → ℕ → ℕ) (old new last : List ℕ)
    → plane.depth ≡ component.depth → length new ≡ component.width * component.height
    → StandsAround component row f old last
    → ((x y : ℕ) → x < component.width → y < component.height
    → at component.width new x y
    ≡ cond (nat_le (component.size * row) y && nat_lt y (component.size * row + component.size))
    (offset_sample plane f x y) (at component.width old x y))
    → IsBounded (2 ^ component.depth - 1) old → IsBounded (2 ^ component.depth - 1) new
offsets_bounded component row plane f old new last depth count stands value small =
    bounded_by component.width component.height (2 ^ component.depth - 1) new (at component.width new) count
    (λ x y _ _. refl)
    (λ x y a b. subst (λ v. v ≤ 2 ^ component.depth - 1) (sym (value x y a b))
    (cond_small (nat_le (component.size * row) y && nat_lt y (component.size * row + component.size)) _ _ _
    (λ (t : (nat_le (component.size * row) y && nat_lt y (component.size * row + component.size)) ≡ true).
    let low : component.size * row ≤ y = grind (arith, nat_tests) in
    let high : y < component.size * row + component.size = grind (arith, nat_tests) in
    let own = stands.own x y a b low (omega (arith, high)) in
    let some = power_few 0 component.depth (omega arith) in
    let one : 2 ^ 0 ≡ 1 = refl in
    let s = small (component.width * y + x) in
    let less : f x y < 2 ^ plane.depth =
    subst (λ d. f x y < 2 ^ d) (sym depth) (omega (arith, own, some, one, s)) in
    let range = in_range plane f x y less in
    let moved : offset_sample plane f x y < 2 ^ component.depth =
    subst (λ d. offset_sample plane f x y < 2 ^ d) depth range in
    omega (arith, moved))
    (small (component.width * y + x))))

pub same_stage : (component : Component) (places : ℕ → ℕ → Place) (before behind : ℕ → ℕ → ℕ) (a b m n : ℕ)
    (samples : List ℕ) → a ≡ b → m ≡ n → IsStage component places before behind a m m samples
    → IsStage component places before behind b n n samples
same_stage component places before behind a b m n samples e f stage =
    subst (λ (k : ℕ). IsStage component places before behind b k k samples) f
    (subst (λ (k : ℕ). IsStage component places before behind k m m samples) e stage)

-- where rows begin
pub row_before : (s row : ℕ) → 0 < row → s * (row - 1) + s ≡ s * row
row_before s row some =
    let e : s * (row - 1 + 1) ≡ s * (row - 1) + s = grind arith in
    let f : row - 1 + 1 ≡ row = omega (arith, some) in
    sym e ∙ ap (λ (r : ℕ). s * r) f

pub row_after : (s row : ℕ) → s * (row + 1) ≡ s * row + s
row_after s row = grind arith

pub row_back : (s row : ℕ) → s * (row + 1 - 1) ≡ s * row
row_back s row = let e : row + 1 - 1 ≡ row = omega arith in ap (λ (r : ℕ). s * r) e

pub row_first : (s row : ℕ) → row ≤ 0 → s * row ≡ 0
row_first s row none =
    let e : row ≡ 0 = omega (arith, none) in
    let z : s * 0 ≡ 0 = grind arith in
    ap (λ (r : ℕ). s * r) e ∙ z

pub rows_apart : (s row : ℕ) → 8 ≤ s → s * (row - 1) ≤ s * row - 4
rows_apart s row few = elim (cases_lt 0 row) [
  | inl some ↦ let e = row_before s row some in omega (arith, e, few)
  | inr none ↦ let e = row_first s (row - 1) (omega (arith, none)) in omega (arith, e)
]

pub some_rows : (s rows h : ℕ) → 1 ≤ h → h ≤ s * rows → 0 < rows
some_rows s rows h some covers = elim (cases_lt 0 rows) [
  | inl lt ↦ lt
  | inr none ↦ let e = row_first s rows none in absurd (omega (arith, e, some, covers))
]
