-- Neighbours of which those that are known follow one another.
use Rattle.std.proofs.Common.{◌≡◌, ℕ, zero, suc, ◌+◌, ◌-◌, ◌*◌, ◌<◌, ◌≤◌, ◌&&◌, cond, nat_le, nat_lt, Bool, true, false}
use Rattle.std.proofs.Common.{List, ◌∷◌, Option, Some, None, if◌then◌else◌, inl, inr, sym, ap, ◌∙◌, refl, arith, length}
use Rattle.std.proofs.Common.{get_or, take, slice_index_or}
use Rattle.std.proofs.lemmas.Bool.{cases_lt}
use Rattle.std.proofs.lemmas.Bool.Decides.{nat_tests}
use Rattle.ctu_build.specs.Beside.{IsCopied, above_cell, is_known, left_cell, value_in}
use Rattle.ctu_build.specs.Held.{Cells, cell, held}
use Rattle.ctu_build.proofs.Edges.{beside_above, beside_count, beside_left, first_is, follows}
use Rattle.ctu_build.specs.declared.edge.Beside.{Beside}
use Rattle.spec_intra_prediction.specs.Neighbours.{at, beside}
use Rattle.spec_intra_prediction.specs.Substitution.{first_available, following, sample_or, substituted}

-- a group above of which no cell is known
above_place : (b : Beside) (group k : ℕ) → 4 * (b.groups + group) + 1 ≤ k
    → b.corner + 4 * group + 1 + (k - (4 * (b.groups + group) + 1)) ≡ above_cell b k
above_place b group k le = omega arith

pub none_above : (b : Beside) (group : ℕ) (four now before : List ℕ)
    → ((k : ℕ) → k < 4 → slice_index_or b.known.now (b.corner + 4 * group + 1 + k) false ≡ false)
    → ((q : ℕ)
    → at now q
    ≡ cond (nat_le (4 * (b.groups + group) + 1) q && nat_lt q (4 * (b.groups + group) + 1 + 4))
    (at four (0 + (q - (4 * (b.groups + group) + 1)))) (at before q))
    → ((j : ℕ) → j < 4 → at four j ≡ at before (4 * (b.groups + group) + 1 - 1))
    → (k : ℕ) → 4 * (b.groups + group) < k → k ≤ 4 * (b.groups + (group + 1))
    → at now k ≡ cond (is_known b (above_cell b k)) (value_in b (above_cell b k)) (at now (k - 1))
none_above b group four now before none wrote same k le less =
    let place = above_place b group k (omega arith) in
    let is : is_known b (above_cell b k) ≡ false =
    ap (is_known b) (sym place) ∙ none (k - (4 * (b.groups + group) + 1)) (omega arith) in
    let w = wrote k in
    let v = wrote (k - 1) in
    let s = same (0 + (k - (4 * (b.groups + group) + 1))) (omega arith) in
    let t = same (0 + (k - 1 - (4 * (b.groups + group) + 1))) in
    let here : at now k ≡ at before (4 * (b.groups + group) + 1 - 1) = grind (arith, nat_tests) in
    let last : k - 1 ≡ 4 * (b.groups + group) + 1 - 1
    → at now (k - 1) ≡ at before (4 * (b.groups + group) + 1 - 1) =
    λ e. let u : at now (k - 1) ≡ at before (k - 1) = grind (arith, nat_tests) in u ∙ ap (at before) e in
    let before_it : at now (k - 1) ≡ at before (4 * (b.groups + group) + 1 - 1) =
    elim (cases_lt (k - 1) (4 * (b.groups + group) + 1)) [
      | inl lt ↦ last (omega arith)
      | inr ge ↦ let u : at now (k - 1) ≡ at four (0 + (k - 1 - (4 * (b.groups + group) + 1))) =
          grind (arith, nat_tests) in
          u ∙ t (omega arith)
    ] in
    rw is (here ∙ sym before_it)

-- the one before each is the first that is known, or stands before it
former_at : (edge : List ℕ) (u j : ℕ) → ((i : ℕ) → i < u → at edge i ≡ at edge u) → j ≤ u
    → at (at edge u ∷ edge) j ≡ at edge u
former_at edge u zero same le = refl
former_at edge u (suc i) same le = same i (omega (arith, le))

past_at : (v : ℕ) (edge : List ℕ) (j : ℕ) → 0 < j → at (v ∷ edge) j ≡ at edge (j - 1)
past_at v edge zero some = absurd (omega (arith, some))
past_at v edge (suc i) some = ap (at edge) (omega arith)

told_at : (edge : List ℕ) (xs : List (Option ℕ)) (u : ℕ) → ((j : ℕ) → j < u → get_or xs j None ≡ None)
    → get_or xs u None ≡ Some (at edge u) → ((j : ℕ) → j < u → at edge j ≡ at edge u)
    → ((j : ℕ) → u < j → j < length xs → at edge j ≡ sample_or (get_or xs j None) (at edge (j - 1)))
    → (j : ℕ) → j < length xs → at edge j ≡ sample_or (get_or xs j None) (at (at edge u ∷ edge) j)
told_at edge xs u none is same later j lt = elim (cases_lt j u) [
  | inl less ↦ rw (none j less) (same j less ∙ sym (former_at edge u j same (omega (arith, less))))
  | inr le ↦ elim (cases_lt u j) [
    | inl more ↦
        later j more lt ∙ ap (sample_or (get_or xs j None)) (sym (past_at (at edge u) edge j (omega (arith, more))))
    | inr ge ↦
        let e : j ≡ u = omega (arith, le, ge) in
        let here : get_or xs j None ≡ Some (at edge j) =
        ap (λ (m : ℕ). get_or xs m None) e ∙ is ∙ ap (λ (m : ℕ). Some (at edge m)) (sym e) in
        rw here refl
  ]
]

run_is : (otherwise u : ℕ) (edge : List ℕ) (xs : List (Option ℕ)) → u < length xs → length xs ≤ length edge
    → ((j : ℕ) → j < u → get_or xs j None ≡ None) → get_or xs u None ≡ Some (at edge u)
    → ((j : ℕ) → j < u → at edge j ≡ at edge u)
    → ((j : ℕ) → u < j → j < length xs → at edge j ≡ sample_or (get_or xs j None) (at edge (j - 1)))
    → take (length xs) edge ≡ following (first_available otherwise xs) xs
run_is otherwise u edge xs lt le none is same later =
    rw (first_is otherwise u (at edge u) xs lt none is)
    (follows (at edge u) edge xs le (told_at edge xs u none is same later))

-- what is known of a neighbour is in its cell
in_beside : Beside → ℕ → Option ℕ
in_beside b place = if is_known b place then Some (value_in b place) else None

pub record IsBeside (cells : Cells) (b : Beside) (c x y n : ℕ) : Type 0 where
  pub known : b.known.now ≡ cells.known
  pub values : b.values.now ≡ cells.values
  pub corner : b.corner ≡ cell c x y
  pub groups : 4 * b.groups ≡ 2 * n
  pub component : c < 3
  pub columns : x + n ≤ 64
  pub lines : y + n ≤ 64

left_held : (cells : Cells) (b : Beside) (c x y n k : ℕ) → IsBeside cells b c x y n → k ≤ 2 * n
    → y + (2 * n - k) < 65 → held cells c x (y + (2 * n - k)) ≡ in_beside b (left_cell b k)
unfolding held in_beside
left_held cells b c x y n k is le inside =
    let place : left_cell b k ≡ cell c x (y + (2 * n - k)) = omega (arith, is.corner, is.groups, le) in
    let component = is.component in
    let columns : x < 129 = omega (arith, is.columns) in
    rw (place, is.known, is.values) (grind (arith, nat_tests))

left_outside : (cells : Cells) (c x line : ℕ) → 65 ≤ line → held cells c x line ≡ None
unfolding held
left_outside cells c x line outside = grind (arith, nat_tests)

above_held : (cells : Cells) (b : Beside) (c x y n k : ℕ) → IsBeside cells b c x y n → 2 * n < k → k < 4 * n + 1
    → held cells c (x + (k - 2 * n)) y ≡ in_beside b (above_cell b k)
unfolding held in_beside
above_held cells b c x y n k is more less =
    let place : above_cell b k ≡ cell c (x + (k - 2 * n)) y = omega (arith, is.corner, is.groups, more) in
    let component = is.component in
    let columns : x + (k - 2 * n) < 129 = omega (arith, is.columns, less) in
    let lines : y < 65 = omega (arith, is.lines) in
    rw (place, is.known, is.values) (grind (arith, nat_tests))

copied_is : (b : Beside) (place v : ℕ) → IsCopied b place v → in_beside b place ≡ Some v
unfolding in_beside
copied_is b place v is = rw (is.known, is.value) refl

unknown_is : (b : Beside) (place : ℕ) → is_known b place ≡ false → in_beside b place ≡ None
unfolding in_beside
unknown_is b place is = rw is refl

or_is : (known : Bool) (v former : ℕ) → cond known v former ≡ sample_or (if known then Some v else None) former
or_is true v former = refl
or_is false v former = refl

next_is : (b : Beside) (place v former : ℕ) → v ≡ cond (is_known b place) (value_in b place) former
    → v ≡ sample_or (in_beside b place) former
unfolding in_beside
next_is b place v former e = e ∙ or_is (is_known b place) (value_in b place) former

pub run_told : (cells : Cells) (b : Beside) (c x y n outside below depth : ℕ) (left now : List ℕ)
    → IsBeside cells b c x y n → 4 * outside ≡ y + 2 * n - 64 → outside ≤ below → below ≤ b.groups
    → 4 * n + 1 ≤ length now
    → ((k : ℕ) → 4 * outside ≤ k → k < 4 * below → is_known b (left_cell b k) ≡ false)
    → ((k : ℕ) → 4 * below ≤ k → k ≤ 4 * b.groups → IsCopied b (left_cell b k) (at left k))
    → ((k : ℕ) → k < 4 * below → at left k ≡ at left (4 * below))
    → ((k : ℕ) → 4 * b.groups < k → k ≤ 8 * b.groups
    → at now k ≡ cond (is_known b (above_cell b k)) (value_in b (above_cell b k)) (at now (k - 1)))
    → ((k : ℕ) → k ≤ 4 * b.groups → at now k ≡ at left k)
    → take (4 * n + 1) now ≡ substituted depth (beside (held cells c) n x y)
run_told cells b c x y n outside below depth left now is over least most room unknown copied same above rest =
    let f = held cells c in
    let xs : List (Option ℕ) = beside f n x y in
    let groups = is.groups in
    let count = beside_count f n x y in
    let none : (j : ℕ) → j < 4 * below → get_or xs j None ≡ None = λ j h.
    beside_left f n x y j (omega arith) ∙ elim (cases_lt j (4 * outside)) [
      | inl out ↦ left_outside cells c x (y + (2 * n - j)) (omega (arith, over, out))
      | inr le ↦
          left_held cells b c x y n j is (omega arith) (omega (arith, over, le))
          ∙ unknown_is b (left_cell b j) (unknown j le h)
    ] in
    let there : (j : ℕ) → 4 * below ≤ j → j ≤ 2 * n → get_or xs j None ≡ Some (at now j) = λ j le h.
    beside_left f n x y j (omega arith)
    ∙ left_held cells b c x y n j is h (omega (arith, over, le))
    ∙ copied_is b (left_cell b j) (at left j) (copied j le (omega arith))
    ∙ ap (λ (v : ℕ). Some v) (sym (rest j (omega arith))) in
    let alike : (j : ℕ) → j < 4 * below → at now j ≡ at now (4 * below) = λ j h.
    rest j (omega arith) ∙ same j h ∙ sym (rest (4 * below) (omega arith)) in
    let later : (j : ℕ) → 4 * below < j → j < length xs → at now j ≡ sample_or (get_or xs j None) (at now (j - 1)) =
    λ j more less. elim (cases_lt (2 * n) j) [
      | inr le ↦ let t = there j (omega (arith, more)) le in rw t refl
      | inl past ↦
          let lt : j < 4 * n + 1 = omega (arith, count, less) in
          next_is b (above_cell b j) (at now j) (at now (j - 1)) (above j (omega arith) (omega arith))
          ∙ ap (λ (s : Option ℕ). sample_or s (at now (j - 1)))
          (sym (beside_above f n x y j (omega arith) lt ∙ above_held cells b c x y n j is past lt))
    ] in
    rw (← count)
    (run_is _ (4 * below) now xs (omega (arith, count)) (omega (arith, count, room)) none
    (there (4 * below) (omega arith) (omega arith)) alike later)
