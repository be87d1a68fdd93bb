-- The output order of a made stream goes by group and order count.
use Rattle.std.proofs.Common.{◌≡◌, ℕ, zero, suc, ◌+◌, ◌-◌, ◌/◌, ◌%◌, ◌<◌, ◌≤◌, Bool, true, false, refl, sym, subst}
use Rattle.std.proofs.Common.{arith, cond}
use Rattle.std.specs.Prelude.{◌==◌, ◌||◌}
use Rattle.std.proofs.lemmas.Bool.{eqb-true}
use Rattle.made_laws.specs.Headers.{order_at}
use Rattle.made_laws.specs.Outputs.{IsBefore, shown_at}
use Rattle.made_laws.proofs.Places.{next_inside, shown_b, shown_idr, shown_last, shown_p, shown_seven}

-- two pictures of a group, by their numbers there
of_group : (a b s t : ℕ) → a / 8 ≤ b / 8 → a % 8 ≡ s → b % 8 ≡ t → order_at s < order_at t → IsBefore a b
of_group a b s t group e f less = record {
  group = group;
  order = λ same. subst (λ k. order_at k < order_at (b % 8)) (sym e)
      (subst (λ k. order_at s < order_at k) (sym f) less);
}

-- two pictures of two groups
of_groups : (a b : ℕ) → a / 8 < b / 8 → IsBefore a b
of_groups a b less = record { group = omega (arith, less); order = λ same. absurd (omega (arith, less, same)) }

-- the numbers of two pictures, by the places where they go out
shown_so : (pictures place a b : ℕ) → shown_at pictures place ≡ a → shown_at pictures (place + 1) ≡ b → IsBefore a b
    → IsBefore (shown_at pictures place) (shown_at pictures (place + 1))
shown_so pictures place a b e f is =
    subst (λ k. IsBefore k (shown_at pictures (place + 1))) (sym e) (subst (λ k. IsBefore a k) (sym f) is)

-- the picture behind the one that goes out at a place
abbrev Rises : ℕ → ℕ → Type 0
Rises pictures place = IsBefore (shown_at pictures place) (shown_at pictures (place + 1))

zeroth_by : (last : Bool) (n p : ℕ) → p % 8 ≡ 0 → p + 1 < n → (p + 1 + 1 == n) ≡ last → Rises n p
zeroth_by true n p is inside end =
    shown_so n p p (p + 1) (shown_idr n p is)
    (shown_last n (p + 1) (omega arith) (eqb-true (p + 1 + 1) n end))
    (of_group _ _ 0 1 (omega arith) (omega arith) (omega arith) (omega arith))
zeroth_by false n p is inside end =
    shown_so n p p (p + 1 + 1) (shown_idr n p is)
    (shown_b n (p + 1) (omega arith) (omega arith) (next_inside n (p + 1) inside end))
    (of_group _ _ 0 2 (omega arith) (omega arith) (omega arith) (omega arith))

zeroth : (n p : ℕ) → p % 8 ≡ 0 → p + 1 < n → Rises n p
zeroth n p is inside = zeroth_by (p + 1 + 1 == n) n p is inside refl

first : (n p : ℕ) → p % 8 ≡ 1 → p + 1 < n → Rises n p
first n p is inside =
    shown_so n p (p + 1) (p + 1 - 1) (shown_b n p (omega arith) (omega arith) inside)
    (shown_p n (p + 1) (omega arith) (omega arith))
    (of_group _ _ 2 1 (omega arith) (omega arith) (omega arith) (omega arith))

second_by : (last : Bool) (n p : ℕ) → p % 8 ≡ 2 → p + 1 < n → (p + 1 + 1 == n) ≡ last → Rises n p
second_by true n p is inside end =
    shown_so n p (p - 1) (p + 1) (shown_p n p (omega arith) (omega arith))
    (shown_last n (p + 1) (omega arith) (eqb-true (p + 1 + 1) n end))
    (of_group _ _ 1 3 (omega arith) (omega arith) (omega arith) (omega arith))
second_by false n p is inside end =
    shown_so n p (p - 1) (p + 1 + 1) (shown_p n p (omega arith) (omega arith))
    (shown_b n (p + 1) (omega arith) (omega arith) (next_inside n (p + 1) inside end))
    (of_group _ _ 1 4 (omega arith) (omega arith) (omega arith) (omega arith))

second : (n p : ℕ) → p % 8 ≡ 2 → p + 1 < n → Rises n p
second n p is inside = second_by (p + 1 + 1 == n) n p is inside refl

third : (n p : ℕ) → p % 8 ≡ 3 → p + 1 < n → Rises n p
third n p is inside =
    shown_so n p (p + 1) (p + 1 - 1) (shown_b n p (omega arith) (omega arith) inside)
    (shown_p n (p + 1) (omega arith) (omega arith))
    (of_group _ _ 4 3 (omega arith) (omega arith) (omega arith) (omega arith))

fourth_by : (last : Bool) (n p : ℕ) → p % 8 ≡ 4 → p + 1 < n → (p + 1 + 1 == n) ≡ last → Rises n p
fourth_by true n p is inside end =
    shown_so n p (p - 1) (p + 1) (shown_p n p (omega arith) (omega arith))
    (shown_last n (p + 1) (omega arith) (eqb-true (p + 1 + 1) n end))
    (of_group _ _ 3 5 (omega arith) (omega arith) (omega arith) (omega arith))
fourth_by false n p is inside end =
    shown_so n p (p - 1) (p + 1 + 1) (shown_p n p (omega arith) (omega arith))
    (shown_b n (p + 1) (omega arith) (omega arith) (next_inside n (p + 1) inside end))
    (of_group _ _ 3 6 (omega arith) (omega arith) (omega arith) (omega arith))

fourth : (n p : ℕ) → p % 8 ≡ 4 → p + 1 < n → Rises n p
fourth n p is inside = fourth_by (p + 1 + 1 == n) n p is inside refl

fifth : (n p : ℕ) → p % 8 ≡ 5 → p + 1 < n → Rises n p
fifth n p is inside =
    shown_so n p (p + 1) (p + 1 - 1) (shown_b n p (omega arith) (omega arith) inside)
    (shown_p n (p + 1) (omega arith) (omega arith))
    (of_group _ _ 6 5 (omega arith) (omega arith) (omega arith) (omega arith))

sixth : (n p : ℕ) → p % 8 ≡ 6 → p + 1 < n → Rises n p
sixth n p is inside =
    shown_so n p (p - 1) (p + 1) (shown_p n p (omega arith) (omega arith))
    (shown_seven n (p + 1) (omega arith))
    (of_group _ _ 5 7 (omega arith) (omega arith) (omega arith) (omega arith))

seventh : (n p : ℕ) → p % 8 ≡ 7 → p + 1 < n → Rises n p
seventh n p is inside =
    shown_so n p p (p + 1) (shown_seven n p is)
    (shown_idr n (p + 1) (omega arith))
    (of_groups _ _ (omega arith))

by_number : (g n p : ℕ) → g < 8 → p % 8 ≡ g → p + 1 < n → Rises n p
by_number zero n p h is inside = zeroth n p is inside
by_number (suc zero) n p h is inside = first n p is inside
by_number (suc (suc zero)) n p h is inside = second n p is inside
by_number (suc (suc (suc zero))) n p h is inside = third n p is inside
by_number (suc (suc (suc (suc zero)))) n p h is inside = fourth n p is inside
by_number (suc (suc (suc (suc (suc zero))))) n p h is inside = fifth n p is inside
by_number (suc (suc (suc (suc (suc (suc zero)))))) n p h is inside = sixth n p is inside
by_number (suc (suc (suc (suc (suc (suc (suc zero))))))) n p h is inside = seventh n p is inside
by_number (suc (suc (suc (suc (suc (suc (suc (suc g)))))))) n p h is inside = absurd (omega (arith, h))

pub rises : (n p : ℕ) → p + 1 < n → Rises n p
rises n p inside = by_number (p % 8) n p (omega arith) refl inside

-- ---- each place shows a picture of the stream

inside_by : (begins even seven last : Bool) (n p : ℕ) → p < n → (last ≡ false → p + 1 < n)
    → cond {A = ℕ} begins p (cond {A = ℕ} even (p - 1) (cond {A = ℕ} (seven || last) p (p + 1))) < n
inside_by true even seven last n p h next = h
inside_by false true seven last n p h next = omega (arith, h)
inside_by false false true last n p h next = h
inside_by false false false true n p h next = h
inside_by false false false false n p h next = next refl

pub inside : (n p : ℕ) → p < n → shown_at n p < n
inside n p h =
    inside_by (p % 8 == 0) (p % 2 == 0) (p % 8 == 7) (p + 1 == n) n p h (λ e. next_inside n p h e)
