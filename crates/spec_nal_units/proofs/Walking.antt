-- Places in a unit, met one behind the other with the two bytes before them.
use Rattle.std.proofs.Common.{◌≡◌, ℕ, zero, suc, ◌+◌, ◌-◌, ◌≤◌, Bool, true, false, List, [], ◌∷◌, ◌++◌, length, refl}
use Rattle.std.proofs.Common.{sym, ap, ◌∙◌, arith}
use Rattle.std.specs.Prelude.{map, not, ◌&&◌, ◌==◌, nat_le, slice_index, if◌then◌else◌}
use borrow.Author.Tests.{le-leb}
use Rattle.spec_nal_units.specs.Judged.{places, stands_at, removed_of, payload_of}
use Rattle.spec_nal_units.proofs.Ends.{decide, if_true, if_false}

-- the places from k on, n of them, that pass a test
abbrev upward : (ℕ → Bool) → ℕ → ℕ → List ℕ
upward test k zero = []
upward test k (suc n) = if test k then k ∷ upward test (suc k) n else upward test (suc k) n

append-nil : (xs : List ℕ) → xs ≡ xs ++ []
append-nil [] = refl
append-nil (x ∷ xs) = ap (λ ys. x ∷ ys) (append-nil xs)

append-one : (xs ys : List ℕ) (x : ℕ) → (xs ++ x ∷ []) ++ ys ≡ xs ++ x ∷ ys
append-one [] ys x = refl
append-one (z ∷ xs) ys x = ap (λ zs. z ∷ zs) (append-one xs ys x)

places-upward : (test : ℕ → Bool) (n k : ℕ) → places test (k + n) ≡ places test k ++ upward test k n
places-upward test zero k = let e : k + 0 ≡ k = omega arith in ap (places test) e ∙ append-nil (places test k)
places-upward test (suc n) k =
    let e : k + suc n ≡ suc k + n = omega arith in
    ap (places test) e ∙ places-upward test n (suc k)
    ∙ decide (test k)
    (λ t. ap (λ xs. xs ++ upward test (suc k) n) (if_true _ _ _ t)
    ∙ append-one (places test k) (upward test (suc k) n) k
    ∙ ap (λ xs. places test k ++ xs) (sym (if_true _ _ _ t)))
    (λ f. ap (λ xs. xs ++ upward test (suc k) n) (if_false _ _ _ f)
    ∙ ap (λ xs. places test k ++ xs) (sym (if_false _ _ _ f)))

-- whether 00 00 03 stands here
abbrev pub is_prevention : ℕ → ℕ → ℕ → Bool
is_prevention a b c = (a == 0) && (b == 0) && (c == 3)

-- bytes without their emulation prevention bytes, behind two bytes
abbrev pub stripped : ℕ → ℕ → List ℕ → List ℕ
stripped a b [] = []
stripped a b (c ∷ cs) = if is_prevention a b c then stripped b c cs else c ∷ stripped b c cs

-- the places of emulation prevention bytes, behind two bytes
abbrev pub marked : ℕ → ℕ → ℕ → List ℕ → List ℕ
marked k a b [] = []
marked k a b (c ∷ cs) = if is_prevention a b c then k ∷ marked (suc k) b c cs else marked (suc k) b c cs

-- in a unit these bytes stand from a place on, and two bytes before it
record Stands (unit : List ℕ) (k a b : ℕ) (s : List ℕ) : Type 0 where
  far : 2 ≤ k
  second_last : slice_index unit (k - 2) ≡ a
  last : slice_index unit (k - 1) ≡ b
  rest : (j : ℕ) → slice_index unit (k + j) ≡ slice_index s j

here : (unit : List ℕ) (k a b c : ℕ) (cs : List ℕ) → Stands unit k a b (c ∷ cs) → slice_index unit k ≡ c
here unit k a b c cs w = let e : k ≡ k + 0 = omega arith in ap (slice_index unit) e ∙ w.rest 0

stands-next : (unit : List ℕ) (k a b c : ℕ) (cs : List ℕ) → Stands unit k a b (c ∷ cs) → Stands unit (suc k) b c cs
stands-next unit k a b c cs w = record {
  far = omega (arith, w.far);
  second_last = let e : suc k - 2 ≡ k - 1 = omega arith in ap (slice_index unit) e ∙ w.last;
  last = let e : suc k - 1 ≡ k = omega arith in ap (slice_index unit) e ∙ here unit k a b c cs w;
  rest = λ j. let e : suc k + j ≡ k + suc j = omega arith in ap (slice_index unit) e ∙ w.rest (suc j);
}

two_or_more : (k : ℕ) → 2 ≤ k → nat_le 2 k ≡ true
two_or_more k h = le-leb 2 k h

stands_at-here : (unit : List ℕ) (k a b c : ℕ) (cs : List ℕ) → Stands unit k a b (c ∷ cs)
    → stands_at 3 unit k ≡ is_prevention a b c
stands_at-here unit k a b c cs w =
    let far : nat_le 2 k ≡ true = two_or_more k w.far in
    let first : slice_index unit (k - 2) ≡ a = w.second_last in
    let second : slice_index unit (k - 1) ≡ b = w.last in
    let third : slice_index unit k ≡ c = here unit k a b c cs w in
    let e : stands_at 3 unit k ≡ (true && (a == 0) && (b == 0) && (c == 3)) = cc in
    e

abbrev kept : List ℕ → ℕ → Bool
kept unit i = nat_le 2 i && not (stands_at 3 unit i)

kept-here : (unit : List ℕ) (k a b c : ℕ) (cs : List ℕ) → Stands unit k a b (c ∷ cs)
    → kept unit k ≡ not (is_prevention a b c)
kept-here unit k a b c cs w =
    ap (λ x. x && not (stands_at 3 unit k)) (two_or_more k w.far) ∙ ap not (stands_at-here unit k a b c cs w)

kept-stripped : (unit : List ℕ) (s : List ℕ) (k a b : ℕ) → Stands unit k a b s
    → map (slice_index unit) (upward (kept unit) k (length s)) ≡ stripped a b s
kept-stripped unit [] k a b w = refl
kept-stripped unit (c ∷ cs) k a b w =
    let later = kept-stripped unit cs (suc k) b c (stands-next unit k a b c cs w) in
    let here_kept = kept-here unit k a b c cs w in
    decide (is_prevention a b c)
    (λ t. let no : kept unit k ≡ false = here_kept ∙ ap not t in
    ap (map (slice_index unit)) (if_false _ _ _ no) ∙ later ∙ sym (if_true _ _ _ t))
    (λ f. let yes' : kept unit k ≡ true = here_kept ∙ ap not f in
    ap (map (slice_index unit)) (if_true _ _ _ yes')
    ∙ ap (λ x. x ∷ map (slice_index unit) (upward (kept unit) (suc k) (length cs))) (here unit k a b c cs w)
    ∙ ap (λ xs. c ∷ xs) later
    ∙ sym (if_false _ _ _ f))

marks-marked : (unit : List ℕ) (s : List ℕ) (k a b : ℕ) → Stands unit k a b s
    → upward (stands_at 3 unit) k (length s) ≡ marked k a b s
marks-marked unit [] k a b w = refl
marks-marked unit (c ∷ cs) k a b w =
    let later = marks-marked unit cs (suc k) b c (stands-next unit k a b c cs w) in
    let same = stands_at-here unit k a b c cs w in
    decide (is_prevention a b c)
    (λ t. if_true _ _ _ (same ∙ t) ∙ ap (λ xs. k ∷ xs) later ∙ sym (if_true _ _ _ t))
    (λ f. if_false _ _ _ (same ∙ f) ∙ later ∙ sym (if_false _ _ _ f))

stands-header : (a b : ℕ) (s : List ℕ) → Stands (a ∷ b ∷ s) 2 a b s
stands-header a b s = record {
  far = omega arith;
  second_last = refl;
  last = refl;
  rest = λ j. let e : 2 + j ≡ suc (suc j) = omega arith in ap (slice_index (a ∷ b ∷ s)) e;
}

length-header : (a b : ℕ) (s : List ℕ) → length (a ∷ b ∷ s) ≡ 2 + length s
length-header a b s = omega arith

pub payload_of-stripped : (a b : ℕ) (s : List ℕ) → payload_of (a ∷ b ∷ s) ≡ stripped a b s
unfolding payload_of
payload_of-stripped a b s =
    ap (map (slice_index (a ∷ b ∷ s))) (ap (places (kept (a ∷ b ∷ s))) (length-header a b s)
    ∙ places-upward (kept (a ∷ b ∷ s)) (length s) 2)
    ∙ kept-stripped (a ∷ b ∷ s) s 2 a b (stands-header a b s)

pub removed_of-marked : (a b : ℕ) (s : List ℕ) → removed_of (a ∷ b ∷ s) ≡ marked 2 a b s
unfolding removed_of
removed_of-marked a b s =
    ap (places (stands_at 3 (a ∷ b ∷ s))) (length-header a b s)
    ∙ places-upward (stands_at 3 (a ∷ b ∷ s)) (length s) 2
    ∙ marks-marked (a ∷ b ∷ s) s 2 a b (stands-header a b s)
