-- One value laid over another.
use Rattle.std.proofs.Common.{◌≡◌, ℕ, ◌+◌, ◌-◌, ◌≤◌, Bool, true, false, ◌&&◌, ◌||◌, cond, nat_le, nat_lt}
use Rattle.std.proofs.Common.{refl, ap, sym, ◌∙◌, ◌<◌, inl, inr, arith}
use Rattle.std.proofs.lemmas.Bool.{cases_lt}
use Rattle.std.specs.Prelude.{◌==◌}
use Rattle.std.proofs.lemmas.Bool.Decides.{nat_tests}
use Rattle.spec_deblocking.specs.declared.line.Line.{Line}
use Rattle.spec_deblocking.specs.Lines.{nth}

pub more : (b c d : Bool) (new old start w v : ℕ) → new ≡ cond b w old → old ≡ cond c v start → (b ≡ true → w ≡ v)
    → d ≡ (c || b) → new ≡ cond d v start
more true true d new old start w v n o e f = rw f (n ∙ e refl)
more true false d new old start w v n o e f = rw f (n ∙ e refl)
more false true d new old start w v n o e f = rw f (n ∙ o)
more false false d new old start w v n o e f = rw f (n ∙ o)

pub cond_intro : (b : Bool) (new v old : ℕ) → (b ≡ true → new ≡ v) → (b ≡ false → new ≡ old) → new ≡ cond b v old
cond_intro true new v old p q = p refl
cond_intro false new v old p q = q refl

pub cond_yes : (b : Bool) (new v old : ℕ) → new ≡ cond b v old → b ≡ true → new ≡ v
cond_yes true new v old e t = e
cond_yes false new v old e t = cc

pub cond_no : (b : Bool) (new v old : ℕ) → new ≡ cond b v old → b ≡ false → new ≡ old
cond_no true new v old e t = cc
cond_no false new v old e t = e

pub cond_by : (b c : Bool) (new v old : ℕ) → new ≡ cond b v old → b ≡ c → new ≡ cond c v old
cond_by b c new v old e same = rw same at e

-- one more sample of a line
pub line_more : (a b from k i j : ℕ) (line : Line) (new old start v : ℕ) → from ≤ k → v ≡ nth line k →
    new ≡ cond (i == a + k && j == b) v old →
    old ≡ cond (j == b && (nat_le (a + from) i && nat_lt i (a + k))) (nth line (i - a)) start →
    new ≡ cond (j == b && (nat_le (a + from) i && nat_lt i (a + (k + 1)))) (nth line (i - a)) start
line_more a b from k i j line new old start v some e n o =
    let test : (j == b && (nat_le (a + from) i && nat_lt i (a + (k + 1))))
    ≡ ((j == b && (nat_le (a + from) i && nat_lt i (a + k))) || (i == a + k && j == b)) = grind (arith, nat_tests) in
    let value : (i == a + k && j == b) ≡ true → v ≡ nth line (i - a) = λ (t : (i == a + k && j == b) ≡ true).
    let d : k ≡ i - a = grind (arith, nat_tests) in
    e ∙ rw d refl in
    more _ _ _ new old start _ _ n o value test

pub line_none : (a b from i j v start : ℕ)
    → start ≡ cond (j == b && (nat_le (a + from) i && nat_lt i (a + from))) v start
line_none a b from i j v start =
    let none : (j == b && (nat_le (a + from) i && nat_lt i (a + from))) ≡ false = grind (arith, nat_tests) in
    rw none refl

pub line_end : (a b from k to i j v new start : ℕ) → k ≡ to →
    new ≡ cond (j == b && (nat_le (a + from) i && nat_lt i (a + k))) v start →
    new ≡ cond (j == b && (nat_le (a + from) i && nat_lt i (a + to))) v start
line_end a b from k to i j v new start same n = rw (← same) n

-- one more line
pub lines_more : (first n j : ℕ) (r : Bool) (v : ℕ → ℕ) (new old start : ℕ) →
    new ≡ cond (j == first + n && r) (v (first + n)) old →
    old ≡ cond ((nat_le first j && nat_lt j (first + n)) && r) (v j) start
    → new ≡ cond ((nat_le first j && nat_lt j (first + (n + 1))) && r) (v j) start
lines_more first n j r v new old start w o =
    let test : ((nat_le first j && nat_lt j (first + (n + 1))) && r)
    ≡ (((nat_le first j && nat_lt j (first + n)) && r) || (j == first + n && r)) = grind (arith, nat_tests) in
    let value : (j == first + n && r) ≡ true → v (first + n) ≡ v j = λ (t : (j == first + n && r) ≡ true).
    let d : j ≡ first + n = grind (arith, nat_tests) in
    rw d refl in
    more _ _ _ new old start _ _ w o value test

pub lines_none : (first j : ℕ) (r : Bool) (v start : ℕ)
    → start ≡ cond ((nat_le first j && nat_lt j (first + 0)) && r) v start
lines_none first j r v start =
    let none : ((nat_le first j && nat_lt j (first + 0)) && r) ≡ false = grind (arith, nat_tests) in
    rw none refl

-- a line of which a part alone differs from what is there
test_past : (a first end i : ℕ) → (nat_le (a + first) i && nat_lt i (a + end)) ≡ false → a ≤ i → first ≤ i - a
    → end ≤ i - a
test_past a first end i t low le = grind (arith, nat_tests)

test_in : (a b first end i j : ℕ) → j ≡ b → (nat_le (a + first) i && nat_lt i (a + end)) ≡ true
    → (j == b && (nat_le (a + first) i && nat_lt i (a + end))) ≡ true
test_in a b first end i j e t = grind (arith, nat_tests)

test_out : (a b first end i j : ℕ) → (nat_le (a + first) i && nat_lt i (a + end)) ≡ false
    → (j == b && (nat_le (a + first) i && nat_lt i (a + end))) ≡ false
test_out a b first end i j t = grind (arith, nat_tests)

there : (a b i j : ℕ) (line : Line) (f : ℕ → ℕ → ℕ) → j ≡ b → a ≤ i → nth line (i - a) ≡ f (a + (i - a)) b
    → f i j ≡ nth line (i - a)
there a b i j line f e low n =
    let k : a + (i - a) ≡ i = omega (arith, low) in
    sym (n ∙ ap (λ (x : ℕ). f x b) k ∙ ap (λ (y : ℕ). f i y) (sym e))

wide_case : (t : Bool) (a b first end i j : ℕ) (line : Line) (f : ℕ → ℕ → ℕ) (new : ℕ) →
    (nat_le (a + first) i && nat_lt i (a + end)) ≡ t → j ≡ b → a ≤ i → i < a + 8 →
    ((k : ℕ) → k < first → nth line k ≡ f (a + k) b) →
    ((k : ℕ) → end + k < 8 → nth line (end + k) ≡ f (a + (end + k)) b) →
    new ≡ cond (j == b && (nat_le (a + first) i && nat_lt i (a + end))) (nth line (i - a)) (f i j) →
    new ≡ nth line (i - a)
wide_case true a b first end i j line f new t e low high before behind n =
    cond_yes _ _ _ _ n (test_in a b first end i j e t)
wide_case false a b first end i j line f new t e low high before behind n =
    cond_no _ _ _ _ n (test_out a b first end i j t)
    ∙ there a b i j line f e low (elim (cases_lt (i - a) first) [
      | inl lt ↦ before (i - a) lt
      | inr le ↦
          let past = test_past a first end i t low le in
          let m : end + (i - a - end) ≡ i - a = omega (arith, past) in
          rw m at (behind (i - a - end) (omega (arith, past, high, low)))
    ])

same_line : (a b i j : ℕ) → (j == b && (nat_le (a + 0) i && nat_lt i (a + 8))) ≡ true → j ≡ b
same_line a b i j t = grind (arith, nat_tests)

low_of : (a b i j : ℕ) → (j == b && (nat_le (a + 0) i && nat_lt i (a + 8))) ≡ true → a ≤ i
low_of a b i j t = grind (arith, nat_tests)

high_of : (a b i j : ℕ) → (j == b && (nat_le (a + 0) i && nat_lt i (a + 8))) ≡ true → i < a + 8
high_of a b i j t = grind (arith, nat_tests)

narrow : (a b first end i j : ℕ) → end ≤ 8 → (j == b && (nat_le (a + 0) i && nat_lt i (a + 8))) ≡ false
    → (j == b && (nat_le (a + first) i && nat_lt i (a + end))) ≡ false
narrow a b first end i j few t = grind (arith, nat_tests)

pub line_wider : (a b first end from to i j : ℕ) (line : Line) (f : ℕ → ℕ → ℕ) (new : ℕ) → end ≤ 8 →
    from ≡ 0 → to ≡ 8 →
    ((k : ℕ) → k < first → nth line k ≡ f (a + k) b) →
    ((k : ℕ) → end + k < 8 → nth line (end + k) ≡ f (a + (end + k)) b) →
    new ≡ cond (j == b && (nat_le (a + first) i && nat_lt i (a + end))) (nth line (i - a)) (f i j) →
    new ≡ cond (j == b && (nat_le (a + from) i && nat_lt i (a + to))) (nth line (i - a)) (f i j)
line_wider a b first end from to i j line f new few z eight before behind n =
    rw (z, eight) (cond_intro (j == b && (nat_le (a + 0) i && nat_lt i (a + 8))) new _ _
    (λ t. wide_case _ a b first end i j line f new refl (same_line a b i j t) (low_of a b i j t) (high_of a b i j t)
    before behind n)
    (λ t. cond_no _ _ _ _ n (narrow a b first end i j few t)))

-- two samples of a line, of which the others are as they were
and_none : (b : Bool) → (b && false) ≡ false
and_none true = refl
and_none false = refl

and_line : (b : Bool) (j : ℕ) → (b && true) ≡ (b && j == j)
and_line b j = grind (arith, nat_tests)

inner_case : (r : Bool) (a i j : ℕ) (line : Line) (f : ℕ → ℕ → ℕ) (new mid p q : ℕ)
    → new ≡ cond (i == a + 4 && r) q mid → mid ≡ cond (i == a + 3 && r) p (f i j)
    → (r ≡ true → p ≡ nth line 3) → (r ≡ true → q ≡ nth line 4)
    → (r ≡ true → (k : ℕ) → k < 3 → nth line k ≡ f (a + k) j)
    → (r ≡ true → (k : ℕ) → 5 + k < 8 → nth line (5 + k) ≡ f (a + (5 + k)) j)
    → new ≡ cond (r && (nat_le a i && nat_lt i (a + 8))) (nth line (i - a)) (f i j)
inner_case true a i j line f new mid p q n m ep eq before behind =
    let m2 = cond_by _ _ _ _ _ m (and_line (i == a + 3) j) in
    let n2 = cond_by _ _ _ _ _ n (and_line (i == a + 4) j) in
    let first = line_more a j 3 3 i j line mid (f i j) (f i j) p (omega arith) (ep refl) m2
    (line_none a j 3 i j _ (f i j)) in
    let both = line_more a j 3 4 i j line new mid (f i j) q (omega arith) (eq refl) n2 first in
    let whole = line_wider a j 3 5 0 8 i j line f new (omega arith) refl refl (before refl) (behind refl) both in
    let test : (j == j && (nat_le (a + 0) i && nat_lt i (a + 8))) ≡ (true && (nat_le a i && nat_lt i (a + 8))) = grind
    (arith, nat_tests) in
    cond_by _ _ _ _ _ whole test
inner_case false a i j line f new mid p q n m ep eq before behind =
    cond_no _ _ _ _ n (and_none (i == a + 4)) ∙ cond_no _ _ _ _ m (and_none (i == a + 3))

pub inner_laid : (b a i j : ℕ) (line : Line) (f : ℕ → ℕ → ℕ) (new mid p q : ℕ)
    → new ≡ cond (i == a + 4 && (nat_le b j && nat_lt j (b + 4))) q mid
    → mid ≡ cond (i == a + 3 && (nat_le b j && nat_lt j (b + 4))) p (f i j)
    → (b ≤ j → j < b + 4 → p ≡ nth line 3) → (b ≤ j → j < b + 4 → q ≡ nth line 4)
    → (b ≤ j → j < b + 4 → (k : ℕ) → k < 3 → nth line k ≡ f (a + k) j)
    → (b ≤ j → j < b + 4 → (k : ℕ) → 5 + k < 8 → nth line (5 + k) ≡ f (a + (5 + k)) j)
    → new ≡ cond ((nat_le b j && nat_lt j (b + 4)) && (nat_le a i && nat_lt i (a + 8))) (nth line (i - a)) (f i j)
inner_laid b a i j line f new mid p q n m ep eq before behind =
    let low : (nat_le b j && nat_lt j (b + 4)) ≡ true → b ≤ j = λ t. grind (arith, nat_tests) in
    let high : (nat_le b j && nat_lt j (b + 4)) ≡ true → j < b + 4 = λ t. grind (arith, nat_tests) in
    inner_case (nat_le b j && nat_lt j (b + 4)) a i j line f new mid p q n m (λ t. ep (low t) (high t))
    (λ t. eq (low t) (high t)) (λ t. before (low t) (high t)) (λ t. behind (low t) (high t))
