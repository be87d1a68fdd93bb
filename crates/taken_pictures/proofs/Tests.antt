-- Whether numbers lie between others.
use Rattle.std.proofs.Common.{◌≡◌, ℕ, ◌+◌, ◌-◌, ◌<◌, ◌&&◌, ◌==◌, Bool, true, false, cond, nat_le, nat_lt, min}
use Rattle.std.proofs.Common.{refl, sym, ap, ◌∙◌, arith, inl, inr}
use Rattle.std.proofs.lemmas.Bool.{cases_eq, cases_lt, le-ltb, lt-ltb, ne_eqb}
use Rattle.std.proofs.lemmas.Bool.Decides.{nat_tests}

pub same_test : (a b : Bool) → (a ≡ true → b ≡ true) → (a ≡ false → b ≡ false) → a ≡ b
same_test true b on off = sym (on refl)
same_test false b on off = sym (off refl)

-- a number that is below a whole is below a part's end where it is below that of a part that is cut there
pub below_cut : (start side all i : ℕ) → i < all
    → nat_lt i (start + min side (all - start)) ≡ nat_lt i (start + side)
below_cut start side all i inside =
    elim (cases_lt i (start + side)) [
      | inl low ↦
          lt-ltb i (start + min side (all - start)) (omega (arith, low, inside)) ∙ sym (lt-ltb i (start + side) low)
      | inr high ↦
          le-ltb i (start + min side (all - start)) (omega (arith, high)) ∙ sym (le-ltb i (start + side) high)
    ]

-- one more part
pub part_more : {M : Type 0} (here : Bool) (start side end i : ℕ) (taken old mid new : M) → end ≡ start + side
    → mid ≡ cond (here && nat_lt i start) taken old
    → new ≡ cond (here && (nat_le start i && nat_lt i (start + side))) taken mid
    → new ≡ cond (here && nat_lt i end) taken old
part_more false start side end i taken old mid new e was is = is ∙ was
part_more true start side end i taken old mid new e was is =
    elim (cases_lt i start) [
      | inl low ↦
          let out : (nat_le start i && nat_lt i (start + side)) ≡ false = grind (arith, nat_tests) in
          is ∙ (ap (λ b. cond b taken mid) out
          ∙ (was ∙ (ap (λ b. cond b taken old) (lt-ltb i start low)
          ∙ sym (ap (λ b. cond b taken old) (lt-ltb i end (omega (arith, e, low)))))))
      | inr past ↦ elim (cases_lt i (start + side)) [
        | inl low ↦
            let in_part : (nat_le start i && nat_lt i (start + side)) ≡ true = grind (arith, nat_tests) in
            is ∙ (ap (λ b. cond b taken mid) in_part
            ∙ sym (ap (λ b. cond b taken old) (lt-ltb i end (omega (arith, e, low)))))
        | inr high ↦
            let out : (nat_le start i && nat_lt i (start + side)) ≡ false = grind (arith, nat_tests) in
            is ∙ (ap (λ b. cond b taken mid) out
            ∙ (was ∙ (ap (λ b. cond b taken old) (le-ltb i start past)
            ∙ sym (ap (λ b. cond b taken old) (le-ltb i end (omega (arith, e, high)))))))
      ]
    ]

-- all parts
pub part_all : {M : Type 0} (here : Bool) (i end : ℕ) (taken old new : M) → i < end
    → new ≡ cond (here && nat_lt i end) taken old → new ≡ cond here taken old
part_all false i end taken old new less is = is
part_all true i end taken old new less is = is ∙ ap (λ b. cond b taken old) (lt-ltb i end less)

-- one more component
pub component_more : {M : Type 0} (here : Bool) (c i : ℕ) (taken old mid new : M)
    → mid ≡ cond (nat_lt i c && here) taken old
    → (i ≡ c → new ≡ cond here taken mid) → ((i == c) ≡ false → new ≡ mid)
    → new ≡ cond (nat_lt i (c + 1) && here) taken old
component_more here c i taken old mid new was is stays =
    elim (cases_eq i c) [
      | inl same ↦
          let out : nat_lt i c ≡ false = le-ltb i c (omega (arith, same)) in
          let next : nat_lt i (c + 1) ≡ true = lt-ltb i (c + 1) (omega (arith, same)) in
          let mid_is : mid ≡ old = was ∙ ap (λ b. cond (b && here) taken old) out in
          is same ∙ (ap (λ m. cond here taken m) mid_is ∙ sym (ap (λ b. cond (b && here) taken old) next))
      | inr apart ↦
          let same : nat_lt i c ≡ nat_lt i (c + 1) =
          same_test _ _ (λ t. grind (arith, nat_tests)) (λ t. grind (arith, nat_tests)) in
          stays (ne_eqb i c apart) ∙ (was ∙ ap (λ b. cond (b && here) taken old) same)
    ]
