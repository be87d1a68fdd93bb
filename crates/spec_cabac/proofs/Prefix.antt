-- A unary prefix, in a loop that has read i of n bins.
use Rattle.std.proofs.Common.{◌≡◌, ℕ, suc, ◌+◌, ◌-◌, ◌<◌, ◌≤◌, Bool, true, false, Result, Ok, Err, sym, ap, ◌∙◌}
use Rattle.std.proofs.Common.{arith}
use Rattle.hv_base.specs.declared.breach.Breach.{Breach}
use Rattle.spec_formats.specs.Format.{bind, give, when◌then◌else◌}
use Rattle.spec_cabac.specs.Bins.{State, Tree, read, unary}

abbrev after : Tree ℕ → (ℕ → Tree Bool) → ℕ → ℕ → Bool → State → Result (ℕ × State) Breach
after over bin i n more t = read (when more then unary over bin (i + 1) n else give i) t

step : (over : Tree ℕ) (bin : ℕ → Tree Bool) (i n : ℕ) (s : State) (r : Result (Bool × State) Breach)
    (total : Result (ℕ × State) Breach)
    → i < n
    → read (bin i) s ≡ r → read (unary over bin i (n - i)) s ≡ total → bind r (after over bin i (n - (i + 1))) ≡ total
unfolding unary
step over bin i n s r total lt is so_far =
    let e : n - i ≡ suc (n - (i + 1)) = omega arith in
    sym (ap (λ m. read (unary over bin i m) s) e ∙ ap (λ q. bind q (after over bin i (n - (i + 1)))) is) ∙ so_far

pub unary_goes_on : (over : Tree ℕ) (bin : ℕ → Tree Bool) (i n : ℕ) (s t : State) (total : Result (ℕ × State) Breach)
    → i < n
    → read (bin i) s ≡ Ok (true, t) → read (unary over bin i (n - i)) s ≡ total
    → read (unary over bin (i + 1) (n - (i + 1))) t ≡ total
unary_goes_on over bin i n s t total lt is so_far = step over bin i n s (Ok (true, t)) total lt is so_far

pub unary_stops : (over : Tree ℕ) (bin : ℕ → Tree Bool) (i n : ℕ) (s t : State) (total : Result (ℕ × State) Breach)
    → i < n
    → read (bin i) s ≡ Ok (false, t) → read (unary over bin i (n - i)) s ≡ total → total ≡ Ok (i, t)
unary_stops over bin i n s t total lt is so_far = sym (step over bin i n s (Ok (false, t)) total lt is so_far)

pub unary_ends : (over : Tree ℕ) (bin : ℕ → Tree Bool) (i n : ℕ) (s : State) (e : Breach)
    (total : Result (ℕ × State) Breach)
    → i < n
    → read (bin i) s ≡ Err e → read (unary over bin i (n - i)) s ≡ total → total ≡ Err e
unary_ends over bin i n s e total lt is so_far = sym (step over bin i n s (Err e) total lt is so_far)

pub unary_over : (over : Tree ℕ) (bin : ℕ → Tree Bool) (i n : ℕ) (s : State) (total : Result (ℕ × State) Breach) → n ≤ i
    → read (unary over bin i (n - i)) s ≡ total → total ≡ read over s
unfolding unary
unary_over over bin i n s total le so_far =
    let e : n - i ≡ 0 = omega arith in
    sym so_far ∙ ap (λ m. read (unary over bin i m) s) e
