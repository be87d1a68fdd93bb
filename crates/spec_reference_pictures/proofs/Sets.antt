-- What a short-term reference picture set is that was read.
use Rattle.std.proofs.Common.{◌≡◌, ℕ, zero, suc, ◌+◌, ◌-◌, ◌*◌, ◌<◌, ◌≤◌, ℤ, pos, ◌+ℤ◌, ◌<ℤ◌, ◌≤ℤ◌, nat_abs, Bool}
use Rattle.std.proofs.Common.{true}
use Rattle.std.proofs.Common.{false, List, [], ◌∷◌, ◌++◌, length, reverse, Ok, refl, sym, ap, ⊎_elim, arith}
use Rattle.std.specs.List.{All, AllPairs, filter}
use Rattle.std.proofs.lemmas.Int.{ints}
use Rattle.std.proofs.lemmas.Bool.{leb-true, cases_lt}
use Rattle.std.proofs.lemmas.List.{get_or_past}
use Rattle.std.proofs.lemmas.List.Elements.{All-nil, All-head, All-tail, All-cons, All-weaker, All-append, All-filter}
use Rattle.std.proofs.lemmas.List.Elements.{All-get_or, filter_passes}
use Rattle.std.proofs.lemmas.List.Kept.{AllPairs-cons, AllPairs-filter}
use Rattle.hv_base.specs.declared.field_rules.FieldRules.{FieldRules}
use Rattle.header_types.specs.declared.short_term_set.ShortTermRef.{ShortTermRef}
use Rattle.header_types.specs.declared.short_term_set.StRps.{StRps}
use Rattle.spec_formats.specs.Format.{when◌then◌else◌}
use Rattle.spec_formats.specs.Fields.{read}
use Rattle.spec_formats.proofs.Values.{CanBe, can_be}
use Rattle.header_types.specs.ReferencePictures.{IsStRps}
use Rattle.spec_reference_pictures.specs.ShortTermSets.{IsNearestFirst, IsRising, IsFalling, is_before, is_after}
use Rattle.spec_reference_pictures.specs.ShortTermSets.{signed, step, outward, explicit_set, moved_entry, moved}
use Rattle.spec_reference_pictures.specs.ShortTermSets.{itself}
use Rattle.spec_reference_pictures.specs.ShortTermSets.{sides, moved_set, source_at, predicted_set, st_ref_pic_set}
use Rattle.spec_reference_pictures.specs.ShortTermSets.{KeepsOrder, StaysNear}
use Rattle.spec_reference_pictures.proofs.Lists.{pairs_nil, pairs_head, pairs_tail, pairs_append, All-reverse}
use Rattle.spec_reference_pictures.proofs.Lists.{pairs_reverse}

step_within : (x : ℕ × Bool) → CanBe step x → (0 < x.0) × (x.0 ≤ 32768)
unfolding step
step_within x (delta_poc_minus1, small, (used, is_flag, e)) = rw (← e) (omega arith, omega arith)

-- whether the second is further out on one side than the first
abbrev pub nearer : Bool → ℤ → ℤ → Type 0
nearer true a b = b <ℤ a
nearer false a b = a <ℤ b

nearer_trans : (negative : Bool) (a b c : ℤ) → nearer negative a b → nearer negative b c → nearer negative a c
nearer_trans true a b c h k = omega (arith, ints)
nearer_trans false a b c h k = omega (arith, ints)

nearer_signed : (negative : Bool) (d k : ℕ) → d < k → nearer negative (signed negative d) (signed negative k)
unfolding signed
nearer_signed true d k lt = omega (arith, ints)
nearer_signed false d k lt = omega (arith, ints)

pub signed_within : (negative : Bool) (k : ℕ) → nat_abs (signed negative k) ≤ k
unfolding signed
signed_within true zero = omega arith
signed_within true (suc k) = omega arith
signed_within false k = omega arith

-- what the entries of one side are
record IsOutward (negative : Bool) (distance n : ℕ) (rs : List ShortTermRef) : Type 0 where
  len : length rs ≡ n
  within : All (λ (r : ShortTermRef). nat_abs r.delta_poc ≤ distance + 32768 * n) rs
  beyond : All (λ (r : ShortTermRef). nearer negative (signed negative distance) r.delta_poc) rs
  ordered : AllPairs (λ (a b : ShortTermRef). nearer negative a.delta_poc b.delta_poc) rs

nothing_outward : (negative : Bool) (distance n : ℕ) → n ≡ 0 → IsOutward negative distance n []
nothing_outward negative distance n e = record {
  len = sym e;
  within = All-nil (λ (r : ShortTermRef). nat_abs r.delta_poc ≤ distance + 32768 * n);
  beyond = All-nil (λ (r : ShortTermRef). nearer negative (signed negative distance) r.delta_poc);
  ordered = pairs_nil (λ (a b : ShortTermRef). nearer negative a.delta_poc b.delta_poc);
}

one_further : (negative : Bool) (distance further n : ℕ) (used : Bool) (rs : List ShortTermRef) → 0 < further
    → further ≤ 32768 → IsOutward negative (distance + further) n rs
    → IsOutward negative distance (suc n)
    (record { delta_poc = signed negative (distance + further); used = used } ∷ rs)
one_further negative distance further n used rs positive small others =
    let r : ShortTermRef = record { delta_poc = signed negative (distance + further); used = used } in
    let size : nat_abs r.delta_poc ≤ distance + further = signed_within negative (distance + further) in
    let out : nearer negative (signed negative distance) r.delta_poc =
    nearer_signed negative distance (distance + further) (omega arith) in
    record {
      len = ap suc others.len;
      within = All-cons (λ (r : ShortTermRef). nat_abs r.delta_poc ≤ distance + 32768 * suc n) r rs (omega arith)
          (All-weaker (λ (r : ShortTermRef). nat_abs r.delta_poc ≤ distance + further + 32768 * n)
          (λ (r : ShortTermRef). nat_abs r.delta_poc ≤ distance + 32768 * suc n) (λ r h. omega arith) rs others.within);
      beyond = All-cons (λ (r : ShortTermRef). nearer negative (signed negative distance) r.delta_poc) r rs out
          (All-weaker (λ (a : ShortTermRef). nearer negative r.delta_poc a.delta_poc)
          (λ (r : ShortTermRef). nearer negative (signed negative distance) r.delta_poc)
          (λ a h. nearer_trans negative (signed negative distance) r.delta_poc a.delta_poc out h) rs others.beyond);
      ordered =
          AllPairs-cons (λ (a b : ShortTermRef). nearer negative a.delta_poc b.delta_poc) r rs
          others.beyond others.ordered;
    }

outward_is : (negative : Bool) (distance n : ℕ) (rs : List ShortTermRef) → CanBe (outward negative distance n) rs
    → IsOutward negative distance n rs
unfolding outward
outward_is negative distance zero rs e = rw (← e) (nothing_outward negative distance zero refl)
outward_is negative distance (suc n) rs (further, one, (others, rest, e)) =
    let d = step_within further one in
    rw (← e) (one_further negative distance further.0 n further.1 others d.0 d.1
    (outward_is negative (distance + further.0) n others rest))

explicit_is : (greatest : ℕ) (s : StRps) → CanBe (explicit_set greatest) s
    → IsNearestFirst s × (greatest ≤ 15 → (n : ℕ) → 14 ≤ n → IsStRps (n + 1) s)
unfolding explicit_set signed
explicit_is greatest s (a, is_a, (b, is_b, (fact, in_range, (before, negatives, (after, positives, e))))) =
    let few : a + b ≤ greatest = leb-true (a + b) greatest in_range in
    let negative = outward_is true 0 a before negatives in
    let positive = outward_is false 0 b after positives in
    let out = λ (m n : ℕ) (rs : List ShortTermRef) (le : m ≤ n + 1)
    (h : All (λ (r : ShortTermRef). nat_abs r.delta_poc ≤ 0 + 32768 * m) rs). All-weaker
    (λ (r : ShortTermRef). nat_abs r.delta_poc ≤ 0 + 32768 * m)
    (λ (r : ShortTermRef). nat_abs r.delta_poc ≤ 32768 * (n + 1)) (λ r k. omega arith) rs h in
    rw (← e) (
      record {
        before = negative.beyond;
        after = positive.beyond;
        falling = negative.ordered;
        rising = positive.ordered;
      },
      λ small n far. record {
        few = omega (arith, negative.len, positive.len);
        negative = out a n before (omega arith) negative.within;
        positive = out b n after (omega arith) positive.within;
      },
    )

entry_all : (Q : ℤ → Type 0) (delta : ℤ) (entry : ShortTermRef) (flags : Bool × Bool) (rs : List ShortTermRef)
    → Q (entry.delta_poc +ℤ delta) → All (λ (r : ShortTermRef). Q r.delta_poc) rs
    → All (λ (r : ShortTermRef). Q r.delta_poc) (moved_entry delta entry flags ++ rs)
unfolding moved_entry
entry_all Q delta entry (used, true) rs q all =
    All-cons (λ (r : ShortTermRef). Q r.delta_poc)
    (record { delta_poc = entry.delta_poc +ℤ delta; used = used }) rs q all
entry_all Q delta entry (used, false) rs q all = all

entry_pairs : (R : ℤ → ℤ → Type 0) (delta : ℤ) (entry : ShortTermRef) (flags : Bool × Bool) (rs : List ShortTermRef)
    → All (λ (r : ShortTermRef). R (entry.delta_poc +ℤ delta) r.delta_poc) rs
    → AllPairs (λ (a b : ShortTermRef). R a.delta_poc b.delta_poc) rs
    → AllPairs (λ (a b : ShortTermRef). R a.delta_poc b.delta_poc) (moved_entry delta entry flags ++ rs)
unfolding moved_entry
entry_pairs R delta entry (used, true) rs all pairs =
    AllPairs-cons (λ (a b : ShortTermRef). R a.delta_poc b.delta_poc)
    (record { delta_poc = entry.delta_poc +ℤ delta; used = used }) rs all pairs
entry_pairs R delta entry (used, false) rs all pairs = pairs

-- what holds of each entry once it is moved holds of those that are in use
moved_all : (Q : ℤ → Type 0) (delta : ℤ) (source rs : List ShortTermRef)
    → All (λ (r : ShortTermRef). Q (r.delta_poc +ℤ delta)) source → CanBe (moved delta source) rs
    → All (λ (r : ShortTermRef). Q r.delta_poc) rs
unfolding moved
moved_all Q delta [] rs all e = rw (← e) (All-nil (λ (r : ShortTermRef). Q r.delta_poc))
moved_all Q delta (entry ∷ entries) rs all (flags, is_flags, (others, rest, e)) =
    let moves = λ (r : ShortTermRef). Q (r.delta_poc +ℤ delta) in
    rw (← e) (entry_all Q delta entry flags others (All-head moves entry entries all)
    (moved_all Q delta entries others (All-tail moves entry entries all) rest))

moved_pairs : (R : ℤ → ℤ → Type 0) (delta : ℤ) (source rs : List ShortTermRef)
    → AllPairs (λ (a b : ShortTermRef). R (a.delta_poc +ℤ delta) (b.delta_poc +ℤ delta)) source
    → CanBe (moved delta source) rs
    → AllPairs (λ (a b : ShortTermRef). R a.delta_poc b.delta_poc) rs
unfolding moved
moved_pairs R delta [] rs pairs e = rw (← e) (pairs_nil (λ (a b : ShortTermRef). R a.delta_poc b.delta_poc))
moved_pairs R delta (entry ∷ entries) rs pairs (flags, is_flags, (others, rest, e)) =
    let both = λ (a b : ShortTermRef). R (a.delta_poc +ℤ delta) (b.delta_poc +ℤ delta) in
    rw (← e) (entry_pairs R delta entry flags others
    (moved_all (R (entry.delta_poc +ℤ delta)) delta entries others (pairs_head both entry entries pairs) rest)
    (moved_pairs R delta entries others (pairs_tail both entry entries pairs) rest))

-- a set by its entries in falling order
sides_ordered : (rs : List ShortTermRef) → IsFalling rs → IsNearestFirst (sides rs)
unfolding sides
sides_ordered rs falling =
    let below = λ (a b : ShortTermRef). b.delta_poc <ℤ a.delta_poc in
    let after =
    All-weaker (λ (r : ShortTermRef). is_after r ≡ true) (λ (r : ShortTermRef). pos 0 <ℤ r.delta_poc)
    (λ r h. grind (arith, ints)) (filter is_after rs) (filter_passes is_after rs) in
    record {
      before =
          All-weaker (λ (r : ShortTermRef). is_before r ≡ true) (λ (r : ShortTermRef). r.delta_poc <ℤ pos 0)
          (λ r h. grind (arith, ints)) (filter is_before rs) (filter_passes is_before rs);
      after = All-reverse (λ (r : ShortTermRef). pos 0 <ℤ r.delta_poc) (filter is_after rs) after;
      falling = AllPairs-filter below is_before rs falling;
      rising = pairs_reverse below (filter is_after rs) (AllPairs-filter below is_after rs falling);
    }

sides_near : (n : ℕ) (rs : List ShortTermRef) → All (λ (r : ShortTermRef). nat_abs r.delta_poc ≤ 32768 * n) rs
    → length (sides rs).negative + length (sides rs).positive ≤ 16 → IsStRps n (sides rs)
unfolding sides
sides_near n rs near few =
    let at = λ (r : ShortTermRef). nat_abs r.delta_poc ≤ 32768 * n in
    record {
      few = few;
      negative = All-filter is_before at rs near;
      positive = All-reverse at (filter is_after rs) (All-filter is_after at rs near);
    }

-- the moved entries, the highest first
pub joined_falling : (delta : ℤ) (positive own negative : List ShortTermRef) → IsRising positive
    → All (λ (r : ShortTermRef). delta <ℤ r.delta_poc) positive → IsFalling own
    → All (λ (r : ShortTermRef). r.delta_poc ≡ delta) own → IsFalling negative
    → All (λ (r : ShortTermRef). r.delta_poc <ℤ delta) negative → IsFalling (reverse positive ++ (own ++ negative))
joined_falling delta positive own negative rising above own_falling at falling below =
    let R = λ (a b : ShortTermRef). b.delta_poc <ℤ a.delta_poc in
    let up_to = λ (r : ShortTermRef). r.delta_poc ≤ℤ delta in
    let lower : All up_to (own ++ negative) =
    All-append up_to own negative
    (All-weaker (λ (r : ShortTermRef). r.delta_poc ≡ delta) up_to (λ r h. rw h (omega (arith, ints))) own at)
    (All-weaker (λ (r : ShortTermRef). r.delta_poc <ℤ delta) up_to (λ r h. omega (arith, ints)) negative below) in
    let second = pairs_append R own negative own_falling falling
    (All-weaker (λ (r : ShortTermRef). r.delta_poc ≡ delta) (λ (a : ShortTermRef). All (R a) negative)
    (λ a h. All-weaker (λ (r : ShortTermRef). r.delta_poc <ℤ delta) (R a) (λ b k. rw h k) negative below) own at) in
    pairs_append R (reverse positive) (own ++ negative)
    (pairs_reverse (λ (a b : ShortTermRef). a.delta_poc <ℤ b.delta_poc) positive rising) second
    (All-weaker (λ (r : ShortTermRef). delta <ℤ r.delta_poc) (λ (a : ShortTermRef). All (R a) (own ++ negative))
    (λ a h. All-weaker up_to (R a) (λ b k. omega (arith, ints)) (own ++ negative) lower)
    (reverse positive) (All-reverse (λ (r : ShortTermRef). delta <ℤ r.delta_poc) positive above))

sum_within : (a b : ℤ) (m : ℕ) → nat_abs a ≤ 32768 * m → nat_abs b ≤ 32768 → nat_abs (a +ℤ b) ≤ 32768 * (m + 1)
sum_within a b m h k = grind (arith, ints)

rising_moves : (delta : ℤ) (rs : List ShortTermRef) → IsRising rs
    → AllPairs (λ (a b : ShortTermRef). (a.delta_poc +ℤ delta) <ℤ (b.delta_poc +ℤ delta)) rs
rising_moves delta rs h i j d lt in_list =
    let k = h i j d lt in_list in
    omega (arith, ints)

falling_moves : (delta : ℤ) (rs : List ShortTermRef) → IsFalling rs
    → AllPairs (λ (a b : ShortTermRef). (b.delta_poc +ℤ delta) <ℤ (a.delta_poc +ℤ delta)) rs
falling_moves delta rs h i j d lt in_list =
    let k = h i j d lt in_list in
    omega (arith, ints)

own_falling : (delta : ℤ) (rs : List ShortTermRef) → CanBe (moved delta (itself ∷ [])) rs → IsFalling rs
own_falling delta rs is =
    let R = λ (a b : ℤ). b <ℤ a in
    let both = λ (a b : ShortTermRef). R (a.delta_poc +ℤ delta) (b.delta_poc +ℤ delta) in
    moved_pairs R delta (itself ∷ []) rs (AllPairs-cons both itself [] (All-nil (both itself)) (pairs_nil both)) is

-- the entries of a moved set fall, where its source's are the nearest first
joined_ordered : (source : StRps) (delta : ℤ) (negative positive own : List ShortTermRef)
    → CanBe (moved delta source.negative) negative → CanBe (moved delta source.positive) positive
    → CanBe (moved delta (itself ∷ [])) own
    → IsNearestFirst source → IsFalling (reverse positive ++ (own ++ negative))
joined_ordered source delta negative positive own is_negative is_positive is_own s =
    joined_falling delta positive own negative
    (moved_pairs (λ a b. a <ℤ b) delta source.positive positive
    (rising_moves delta source.positive s.rising) is_positive)
    (moved_all (λ z. delta <ℤ z) delta source.positive positive
    (All-weaker (λ (r : ShortTermRef). pos 0 <ℤ r.delta_poc) (λ (r : ShortTermRef). delta <ℤ (r.delta_poc +ℤ delta))
    (λ r k. omega (arith, ints)) source.positive s.after)
    is_positive)
    (own_falling delta own is_own)
    (moved_all (λ z. z ≡ delta) delta (itself ∷ []) own
    (All-cons (λ (r : ShortTermRef). (r.delta_poc +ℤ delta) ≡ delta) itself [] (omega (arith, ints))
    (All-nil (λ (r : ShortTermRef). (r.delta_poc +ℤ delta) ≡ delta)))
    is_own)
    (moved_pairs (λ a b. b <ℤ a) delta source.negative negative
    (falling_moves delta source.negative s.falling) is_negative)
    (moved_all (λ z. z <ℤ delta) delta source.negative negative
    (All-weaker (λ (r : ShortTermRef). r.delta_poc <ℤ pos 0) (λ (r : ShortTermRef). (r.delta_poc +ℤ delta) <ℤ delta)
    (λ r k. omega (arith, ints)) source.negative s.before)
    is_negative)

-- and they are at most 32768 further away than its source's
joined_near : (source : StRps) (delta : ℤ) (negative positive own : List ShortTermRef)
    → CanBe (moved delta source.negative) negative → CanBe (moved delta source.positive) positive
    → CanBe (moved delta (itself ∷ [])) own
    → (n : ℕ) → nat_abs delta ≤ 32768 → IsStRps n source
    → All (λ (r : ShortTermRef). nat_abs r.delta_poc ≤ 32768 * (n + 1)) (reverse positive ++ (own ++ negative))
joined_near source delta negative positive own is_negative is_positive is_own n small s =
    let far = λ (z : ℤ). nat_abs z ≤ 32768 * (n + 1) in
    let at = λ (r : ShortTermRef). far r.delta_poc in
    let moves = λ (r : ShortTermRef). far (r.delta_poc +ℤ delta) in
    let was = λ (r : ShortTermRef). nat_abs r.delta_poc ≤ 32768 * n in
    let near =
    λ (entries rs : List ShortTermRef) (all : All was entries) (is : CanBe (moved delta entries) rs). moved_all
    far delta entries rs (All-weaker was moves (λ r k. sum_within r.delta_poc delta n k small) entries all) is in
    All-append at (reverse positive) (own ++ negative)
    (All-reverse at positive (near source.positive positive s.positive is_positive))
    (All-append at own negative (near (itself ∷ []) own (All-cons was itself [] (omega arith) (All-nil was)) is_own)
    (near source.negative negative s.negative is_negative))

moved_set_is : (source : StRps) (delta : ℤ) (s : StRps) → CanBe (moved_set source delta) s
    → (IsNearestFirst source → IsNearestFirst s)
    × ((n : ℕ) → nat_abs delta ≤ 32768 → IsStRps n source → IsStRps (n + 1) s)
unfolding moved_set
moved_set_is source delta s (negative, is_negative, (positive, is_positive, (own, is_own, (fact, in_range, e)))) =
    let rs : List ShortTermRef = reverse positive ++ (own ++ negative) in
    rw (← e) (
      λ ordered. sides_ordered rs
          (joined_ordered source delta negative positive own is_negative is_positive is_own ordered),
      λ n small near. sides_near (n + 1) rs
          (joined_near source delta negative positive own is_negative is_positive is_own n small near)
          (leb-true _ _ in_range),
    )

-- what holds of each set, and of the set without entries, holds of a source
source_has : (P : StRps → Type 0) (former : List StRps) (place : ℕ) → P (record { negative = []; positive = [] })
    → All P former → P (source_at former place)
unfolding source_at
source_has P former place none all =
    ⊎_elim (λ (lt : place < length former). All-get_or P former place (record { negative = []; positive = [] }) lt all)
    (λ (le : length former ≤ place). rw (get_or_past former place (record { negative = []; positive = [] }) le) none)
    (cases_lt place (length former))

none_ordered : IsNearestFirst (record { negative = []; positive = [] })
none_ordered = record {
  before = All-nil (λ (r : ShortTermRef). r.delta_poc <ℤ pos 0);
  after = All-nil (λ (r : ShortTermRef). pos 0 <ℤ r.delta_poc);
  falling = pairs_nil (λ (a b : ShortTermRef). b.delta_poc <ℤ a.delta_poc);
  rising = pairs_nil (λ (a b : ShortTermRef). a.delta_poc <ℤ b.delta_poc);
}

none_near : (n : ℕ) → IsStRps n (record { negative = []; positive = [] })
none_near n = record {
  few = omega arith;
  negative = All-nil (λ (r : ShortTermRef). nat_abs r.delta_poc ≤ 32768 * n);
  positive = All-nil (λ (r : ShortTermRef). nat_abs r.delta_poc ≤ 32768 * n);
}

predicted_is : (index count : ℕ) (former : List StRps) (s : StRps) → CanBe (predicted_set index count former) s
    → (All IsNearestFirst former → IsNearestFirst s) × ((n : ℕ) → All (IsStRps n) former → IsStRps (n + 1) s)
unfolding predicted_set
predicted_is index count former s (back, is_back, (sign, is_sign, (size, is_size, is))) =
    let place = index - (back + 1) in
    let delta = signed sign (size + 1) in
    let within = signed_within sign (size + 1) in
    let small : nat_abs delta ≤ 32768 = omega (arith, is_size, within) in
    let m = moved_set_is (source_at former place) delta s is in (
      λ all. m.0 (source_has IsNearestFirst former place none_ordered all),
      λ n all. m.1 n small (source_has (IsStRps n) former place (none_near n) all),
    )

by_kind : (index count : ℕ) (former : List StRps) (greatest : ℕ) (predicted : Bool) (s : StRps)
    → CanBe (when predicted then predicted_set index count former else explicit_set greatest) s
    → (All IsNearestFirst former → IsNearestFirst s)
    × (greatest ≤ 15 → (n : ℕ) → 14 ≤ n → All (IsStRps n) former → IsStRps (n + 1) s)
by_kind index count former greatest true s is =
    let p = predicted_is index count former s is in
    (p.0, λ small n far all. p.1 n all)
by_kind index count former greatest false s is =
    let e = explicit_is greatest s is in
    (λ all. e.0, λ small n far all. e.1 small n far)

set_is : (rules : FieldRules) (index count : ℕ) (former : List StRps) (greatest : ℕ) (bits : List Bool) (s : StRps)
    (left : List Bool)
    → read rules (st_ref_pic_set index count former greatest) bits ≡ Ok (s, left)
    → (All IsNearestFirst former → IsNearestFirst s)
    × (greatest ≤ 15 → (n : ℕ) → 14 ≤ n → All (IsStRps n) former → IsStRps (n + 1) s)
unfolding st_ref_pic_set
set_is rules index count former greatest bits s left h =
    let p = can_be rules (st_ref_pic_set index count former greatest) bits left s h in
    by_kind index count former greatest p.0 s p.2

-- a set that can be read is near, where those before it are
pub can_be_near : (index count : ℕ) (former : List StRps) (greatest : ℕ) (s : StRps) (n : ℕ) → greatest ≤ 15 → 14 ≤ n
    → All (IsStRps n) former
    → CanBe (st_ref_pic_set index count former greatest) s → IsStRps (n + 1) s
unfolding st_ref_pic_set
can_be_near index count former greatest s n small far all is =
    (by_kind index count former greatest is.0 s is.2).1 small n far all

pub nearest_first : KeepsOrder
nearest_first rules index count former greatest bits s left all h =
    (set_is rules index count former greatest bits s left h).0 all

pub stays_near : StaysNear
stays_near rules index count former greatest bits s left n small far all h =
    (set_is rules index count former greatest bits s left h).1 small n far all
