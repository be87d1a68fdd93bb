-- Rows that a pass has seen counted.
use Rattle.std.proofs.Common.{◌≡◌, refl, ℕ, ◌≤◌, ◌==◌, ◌&&◌, ◌||◌, Bool, true, false, sym, subst, ◌∙◌, arith}
use Rattle.std.proofs.lemmas.Bool.{and_parts, eqb-true, false≢true}
use Rattle.hv_base.specs.declared.line.Phase.TheVariants.{S}
use Rattle.board_core.specs.Places.{line_of}
use Rattle.sample_words.specs.declared.sizes.FlightSizes.{FlightSizes}
use Rattle.sample_words.specs.Words.{IsLine, line_number}
use Rattle.progress_words.specs.declared.view.View.{View}
use Rattle.progress_words.specs.Views.{seen_of}
use Rattle.flight_windows.specs.Seen.{AreFlagsSeen, SeenFlags, has_row, is_seen}

module _ {F : Type 0} (s : FlightSizes) (v : View F) where
  pub none_seen : (seen : SeenFlags) → ((j row : ℕ) → is_seen seen j row ≡ false) → AreFlagsSeen s v seen
  none_seen seen none j row told = absurd (false≢true (sym (none j row) ∙ told))

  pub later_seen : (w : View F) (seen : SeenFlags) → ((l : ℕ) → seen_of v l ≤ seen_of w l) → AreFlagsSeen s v seen
      → AreFlagsSeen s w seen
  later_seen w seen more rows j row told =
      let before = rows j row told in
      let few = before.1 in
      let less = more (line_number s (line_of S j row)) in
      (before.0, omega (arith, few, less))

  abbrev Counted : ℕ → ℕ → Type 0
  Counted j row = IsLine s (line_of S j row) × (1 ≤ seen_of v (line_number s (line_of S j row)))

  module _ (seen : SeenFlags) (j row : ℕ) (rows : AreFlagsSeen s v seen) (here : Counted j row) (i r : ℕ) where
    by : (t : Bool) → is_seen seen i r ≡ t → (t || (has_row seen j row && (i == j && r == row))) ≡ true
        → Counted i r
    by true is e = rows i r is
    by false is e =
        let same = and_parts (i == j) (r == row) (and_parts (has_row seen j row) (i == j && r == row) e).1 in
        subst (λ k. Counted k r) (sym (eqb-true i j same.0))
        (subst (λ k. Counted j k) (sym (eqb-true r row same.1)) here)

  pub more_seen : (seen now : SeenFlags) (j row : ℕ) → AreFlagsSeen s v seen → IsLine s (line_of S j row)
      → 1 ≤ seen_of v (line_number s (line_of S j row))
      → ((i r : ℕ) → is_seen now i r ≡ (is_seen seen i r || (has_row seen j row && (i == j && r == row))))
      → AreFlagsSeen s v now
  more_seen seen now j row rows line here told i r e =
      by seen j row rows (line, here) i r (is_seen seen i r) refl (sym (told i r) ∙ e)
