-- Where the bytes of a unit stand in its payload.
use Rattle.std.proofs.Common.{◌≡◌, ℕ, zero, suc, ◌+◌, ◌-◌, ◌<◌, ◌≤◌, Bool, true, false, List, [], ◌∷◌, ◌++◌, length}
use Rattle.std.proofs.Common.{take, drop, map, get_or, refl, sym, ap, ◌∙◌, cond, arith, ltb-true, ltb-false, leb-true}
use Rattle.std.proofs.Common.{leb-false}
use Rattle.std.specs.Prelude.{not, ◌&&◌, min, fold, nat_lt, nat_le, slice_index}
use Rattle.std.specs.List.{concat, count_by}
use Rattle.std.proofs.lemmas.Bool.{le-leb, lt-leb, lt-ltb, and_left}
use Rattle.std.proofs.lemmas.List.{append-nil, append_assoc, length-append, length_push, length-map, map-append}
use Rattle.std.proofs.lemmas.List.{get_or_append_left, get_or_push, drop_at, take_at, drop_all, take_all}
use Rattle.std.proofs.lemmas.List.Sums.{sum_by_push, fold_push}
use Rattle.spec_nal_units.specs.Judged.{places, stands_at, removed_of, payload_of}
use Rattle.spec_nal_units.proofs.Ends.{decide, if_true, if_false}
use Rattle.spec_slice_headers.specs.Substreams.{payload_before, put_back, unit_place, data_size, bytes_between}
use Rattle.spec_slice_headers.specs.Substreams.{substreams_from, substreams}
use Rattle.spec_slice_headers.specs.UnitCuts.{stays, cut, cuts_from}

places_yes : (test : ℕ → Bool) (n : ℕ) → test n ≡ true → places test (suc n) ≡ places test n ++ n ∷ []
places_yes test n t = if_true (test n) (places test n ++ n ∷ []) (places test n) t

places_no : (test : ℕ → Bool) (n : ℕ) → test n ≡ false → places test (suc n) ≡ places test n
places_no test n t = if_false (test n) (places test n ++ n ∷ []) (places test n) t

-- no place below n is among those from n on
none_below : (test : ℕ → Bool) (from n : ℕ) → n ≤ from → places (λ i. nat_le from i && test i) n ≡ []
none_below test from zero h = refl
none_below test from (suc n) h =
    places_no (λ i. nat_le from i && test i) n (and_left (nat_le from n) (test n) (lt-leb from n (omega arith)))
    ∙ none_below test from n (omega arith)

-- from a place that is passed on, the test is as before
later : (test : ℕ → Bool) (from n : ℕ) → from ≤ n → (nat_le from n && test n) ≡ test n
later test from n h = ap (λ b. b && test n) (le-leb from n h)

-- the places below n are those below p, and then those from p on
places_split : (test : ℕ → Bool) (p n : ℕ) → p ≤ n
    → places test n ≡ places test p ++ places (λ i. nat_le p i && test i) n
places_split test p zero h = let e : p ≡ 0 = omega arith in rw e refl
places_split test p (suc n) h =
    decide (nat_lt n p)
    (λ l. let e : p ≡ suc n = omega (arith, ltb-true n p l) in
    ap (places test) (sym e) ∙ sym (append-nil (places test p))
    ∙ ap (λ r. places test p ++ r) (sym (none_below test p (suc n) (omega arith))))
    (λ g. let le : p ≤ n = omega (arith, ltb-false n p g) in
    let on : ℕ → Bool = λ i. nat_le p i && test i in
    decide (test n)
    (λ t. places_yes test n t ∙ ap (λ r. r ++ n ∷ []) (places_split test p n le)
    ∙ append_assoc (places test p) (places on n) (n ∷ [])
    ∙ ap (λ r. places test p ++ r) (sym (places_yes on n (later test p n le ∙ t))))
    (λ t. places_no test n t ∙ places_split test p n le
    ∙ ap (λ r. places test p ++ r) (sym (places_no on n (later test p n le ∙ t)))))

-- 1 where a place is below p
abbrev below : ℕ → ℕ → ℕ
below p r = cond (nat_lt r p) 1 0

-- how many of the places below n stand below p: all, or those below p
count_all : (test : ℕ → Bool) (p n : ℕ) → n ≤ p → count_by (λ r. nat_lt r p) (places test n) ≡ length (places test n)
count_all test p zero h = refl
count_all test p (suc n) h =
    decide (test n)
    (λ t. let one : below p n ≡ 1 = if_true (nat_lt n p) 1 0 (lt-ltb n p (omega arith)) in
    let more = sum_by_push (below p) (places test n) n in
    ap (count_by (λ r. nat_lt r p)) (places_yes test n t)
    ∙ omega (
      arith,
      one,
      more,
      count_all test p n (omega arith),
      ap length (places_yes test n t),
      length_push (places test n) n,
    ))
    (λ t. ap (count_by (λ r. nat_lt r p)) (places_no test n t) ∙ count_all test p n (omega arith)
    ∙ sym (ap length (places_no test n t)))

count_below : (test : ℕ → Bool) (p n : ℕ) → p ≤ n → count_by (λ r. nat_lt r p) (places test n) ≡ length (places test p)
count_below test p zero h = let e : p ≡ 0 = omega arith in rw e refl
count_below test p (suc n) h =
    decide (nat_lt n p)
    (λ l. let e : suc n ≡ p = omega (arith, ltb-true n p l) in
    count_all test p (suc n) (omega arith) ∙ ap (λ m. length (places test m)) e)
    (λ g. let le : p ≤ n = omega (arith, ltb-false n p g) in
    decide (test n)
    (λ t. let none : below p n ≡ 0 = if_false (nat_lt n p) 1 0 g in
    let more = sum_by_push (below p) (places test n) n in
    ap (count_by (λ r. nat_lt r p)) (places_yes test n t) ∙ omega (arith, none, more, count_below test p n le))
    (λ t. ap (count_by (λ r. nat_lt r p)) (places_no test n t) ∙ count_below test p n le))

-- a byte behind the header stays, or is an emulation prevention byte
stays_not : (unit : List ℕ) (n : ℕ) → 2 ≤ n → stays unit n ≡ not (stands_at 3 unit n)
stays_not unit n h = later (λ i. not (stands_at 3 unit i)) 2 n h

-- of the bytes below a place each but the header's two stays, or is an emulation prevention byte
parted : (unit : List ℕ) (m : ℕ) → length (places (stays unit) (2 + m)) + length (places (stands_at 3 unit) (2 + m)) ≡ m
parted unit zero = refl
parted unit (suc m) =
    let e : 2 + suc m ≡ suc (2 + m) = omega arith in
    let before = parted unit m in
    decide (stands_at 3 unit (2 + m))
    (λ t. let no : stays unit (2 + m) ≡ false = stays_not unit (2 + m) (omega arith) ∙ ap not t in
    rw e (omega (
      arith,
      before,
      ap length (places_yes (stands_at 3 unit) (2 + m) t),
      length_push (places (stands_at 3 unit) (2 + m)) (2 + m),
      ap length (places_no (stays unit) (2 + m) no),
    )))
    (λ t. let yes : stays unit (2 + m) ≡ true = stays_not unit (2 + m) (omega arith) ∙ ap not t in
    rw e (omega (
      arith,
      before,
      ap length (places_no (stands_at 3 unit) (2 + m) t),
      length_push (places (stays unit) (2 + m)) (2 + m),
      ap length (places_yes (stays unit) (2 + m) yes),
    )))

-- the bytes of a unit that stay, below a place
abbrev kept : List ℕ → ℕ → List ℕ
kept unit n = places (stays unit) n

payload_is : (unit : List ℕ) → payload_of unit ≡ map (slice_index unit) (kept unit (length unit))
unfolding payload_of
payload_is unit = refl

removed_is : (unit : List ℕ) → removed_of unit ≡ places (stands_at 3 unit) (length unit)
unfolding removed_of
removed_is unit = refl

parted_at : (unit : List ℕ) (n : ℕ) → 2 ≤ n → length (kept unit n) + length (places (stands_at 3 unit) n) + 2 ≡ n
parted_at unit n h =
    let e : 2 + (n - 2) ≡ n = omega arith in
    let there = rw e at (parted unit (n - 2)) in
    omega (arith, there)

-- as many bytes of the payload stand before a place of the unit as stay below it
before_in : (unit : List ℕ) (p : ℕ) → 2 ≤ p → p ≤ length unit
    → payload_before (removed_of unit) p ≡ length (kept unit p)
before_in unit p h l =
    ap (λ r. payload_before r p) (removed_is unit)
    ∙ omega (arith, parted_at unit p h, count_below (stands_at 3 unit) p (length unit) l)

before_past : (unit : List ℕ) (p : ℕ) → 2 ≤ length unit → length unit ≤ p
    → length (kept unit (length unit)) ≤ payload_before (removed_of unit) p
before_past unit p h l =
    rw (removed_is unit) (omega (arith, parted_at unit (length unit) h, count_all (stands_at 3 unit) p (length unit) l))

kept-mono : (unit : List ℕ) (m n : ℕ) → m ≤ n → length (kept unit m) ≤ length (kept unit n)
kept-mono unit m n h =
    omega (
      arith,
      ap length (places_split (stays unit) m n h),
      length-append (kept unit m) (places (λ i. nat_le m i && stays unit i) n),
    )

before_least : (unit : List ℕ) (p m : ℕ) → 2 ≤ p → 2 ≤ length unit → m ≤ length unit → m ≤ p
    → length (kept unit m) ≤ payload_before (removed_of unit) p
before_least unit p m h two inside l =
    decide (nat_le p (length unit))
    (λ t. let le : p ≤ length unit = leb-true p (length unit) t in
    omega (arith, before_in unit p h le, kept-mono unit m p l))
    (λ t. let lt : length unit < p = leb-false p (length unit) t in
    omega (arith, before_past unit p two (omega arith), kept-mono unit m (length unit) inside))

-- the payload's bytes before a place of the unit
taken : (unit : List ℕ) (p : ℕ) → 2 ≤ p → 2 ≤ length unit
    → take (payload_before (removed_of unit) p) (payload_of unit)
    ≡ map (slice_index unit) (kept unit (min p (length unit)))
taken unit p h two =
    let f = slice_index unit in
    let n = length unit in
    ap (take (payload_before (removed_of unit) p)) (payload_is unit) ∙ decide (nat_le p n)
    (λ t. let le : p ≤ n = leb-true p n t in
    let m : min p n ≡ p = omega arith in
    let long : length (map f (kept unit p)) ≡ payload_before (removed_of unit) p =
    length-map (kept unit p) f ∙ sym (before_in unit p h le) in
    ap (λ ps. take (payload_before (removed_of unit) p) (map f ps)) (places_split (stays unit) p n le)
    ∙ ap (take (payload_before (removed_of unit) p))
    (map-append f (kept unit p) (places (λ i. nat_le p i && stays unit i) n))
    ∙ take_at (map f (kept unit p)) (map f (places (λ i. nat_le p i && stays unit i) n)) _ long
    ∙ ap (λ q. map f (kept unit q)) (sym m))
    (λ t. let lt : n < p = leb-false p n t in
    let m : min p n ≡ n = omega arith in
    take_all _ (map f (kept unit n)) (omega (arith, length-map (kept unit n) f, before_past unit p two (omega arith)))
    ∙ ap (λ q. map f (kept unit q)) (sym m))

-- the bytes that stay below m, from a place of the unit on
dropped : (unit : List ℕ) (p m : ℕ) → 2 ≤ p → 2 ≤ length unit → m ≤ length unit
    → drop (payload_before (removed_of unit) p) (map (slice_index unit) (kept unit m))
    ≡ map (slice_index unit) (places (λ i. nat_le p i && stays unit i) m)
dropped unit p m h two inside =
    let f = slice_index unit in
    decide (nat_le p m)
    (λ t. let le : p ≤ m = leb-true p m t in
    let long : length (map f (kept unit p)) ≡ payload_before (removed_of unit) p =
    length-map (kept unit p) f ∙ sym (before_in unit p h (omega arith)) in
    ap (λ ps. drop (payload_before (removed_of unit) p) (map f ps)) (places_split (stays unit) p m le)
    ∙ ap (drop (payload_before (removed_of unit) p))
    (map-append f (kept unit p) (places (λ i. nat_le p i && stays unit i) m))
    ∙ drop_at (map f (kept unit p)) (map f (places (λ i. nat_le p i && stays unit i) m)) _ long)
    (λ t. let lt : m < p = leb-false p m t in
    drop_all _ (map f (kept unit m))
    (omega (arith, length-map (kept unit m) f, before_least unit p m h two inside (omega arith)))
    ∙ ap (map f) (sym (none_below (stays unit) p m (omega arith))))

between : (unit : List ℕ) (from to : ℕ) → 2 ≤ from → 2 ≤ to → 2 ≤ length unit
    → bytes_between (payload_of unit) (removed_of unit) from to ≡ cut unit from to
between unit from to h l two =
    ap (drop (payload_before (removed_of unit) from)) (taken unit to l two)
    ∙ dropped unit from (min to (length unit)) h two (omega arith)

rest : (unit : List ℕ) (from : ℕ) → 2 ≤ from → 2 ≤ length unit
    → drop (payload_before (removed_of unit) from) (payload_of unit) ≡ cut unit from (length unit)
rest unit from h two =
    let m : min (length unit) (length unit) ≡ length unit = omega arith in
    ap (drop (payload_before (removed_of unit) from)) (payload_is unit)
    ∙ dropped unit from (length unit) h two (omega arith)
    ∙ ap (λ q. map (slice_index unit) (places (λ i. nat_le from i && stays unit i) q)) (sym m)

cuts : (unit : List ℕ) (place : ℕ) (offsets : List ℕ) → 2 ≤ place → 2 ≤ length unit
    → substreams_from (payload_of unit) (removed_of unit) place offsets ≡ cuts_from unit place offsets
unfolding substreams_from cuts_from
cuts unit place [] h two = ap (λ b. b ∷ []) (rest unit place h two)
cuts unit place (offset ∷ offsets) h two =
    ap (λ b. b ∷ substreams_from (payload_of unit) (removed_of unit) (place + offset) offsets)
    (between unit place (place + offset) h (omega arith) two)
    ∙ ap (λ bs. cut unit place (place + offset) ∷ bs) (cuts unit (place + offset) offsets (omega arith) two)

-- tests that agree are passed at the same places
same_places : (s t : ℕ → Bool) (n : ℕ) → ((i : ℕ) → s i ≡ t i) → places s n ≡ places t n
same_places s t zero h = refl
same_places s t (suc n) h =
    decide (t n)
    (λ y. places_yes s n (h n ∙ y) ∙ ap (λ r. r ++ n ∷ []) (same_places s t n h) ∙ sym (places_yes t n y))
    (λ y. places_no s n (h n ∙ y) ∙ same_places s t n h ∙ sym (places_no t n y))

-- from b on a place is from a on too
from_both : (t : ℕ → Bool) (a b i : ℕ) → a ≤ b → (nat_le b i && (nat_le a i && t i)) ≡ (nat_le b i && t i)
from_both t a b i h =
    decide (nat_le b i)
    (λ y. ap (λ x. nat_le b i && x) (later t a i (omega (arith, leb-true b i y))))
    (λ y. and_left (nat_le b i) (nat_le a i && t i) y ∙ sym (and_left (nat_le b i) (t i) y))

cut_append : (unit : List ℕ) (a b : ℕ) → a ≤ b → cut unit a b ++ cut unit b (length unit) ≡ cut unit a (length unit)
cut_append unit a b h =
    let f = slice_index unit in
    let n = length unit in
    let from : ℕ → ℕ → Bool = λ p i. nat_le p i && stays unit i in
    let whole : min n n ≡ n = omega arith in
    decide (nat_le b n)
    (λ t. let le : b ≤ n = leb-true b n t in
    let m : min b n ≡ b = omega arith in
    ap (λ q. map f (places (from a) q) ++ cut unit b n) m
    ∙ ap (λ q. map f (places (from a) b) ++ map f (places (from b) q)) whole
    ∙ sym (map-append f (places (from a) b) (places (from b) n))
    ∙ ap (λ ps. map f (places (from a) b ++ ps))
    (sym (same_places (λ i. nat_le b i && from a i) (from b) n (λ i. from_both (stays unit) a b i h)))
    ∙ ap (map f) (sym (places_split (from a) b n le)) ∙ ap (λ q. map f (places (from a) q)) (sym whole))
    (λ t. let lt : n < b = leb-false b n t in
    let m : min b n ≡ n = omega arith in
    ap (λ q. cut unit a b ++ map f (places (from b) q)) whole
    ∙ ap (λ ps. cut unit a b ++ map f ps) (none_below (stays unit) b n (omega arith))
    ∙ append-nil (cut unit a b) ∙ ap (λ q. map f (places (from a) q)) (m ∙ sym whole))

joined : (unit : List ℕ) (place : ℕ) (offsets : List ℕ)
    → concat (cuts_from unit place offsets) ≡ cut unit place (length unit)
unfolding cuts_from
joined unit place [] = append-nil (cut unit place (length unit))
joined unit place (offset ∷ offsets) =
    ap (λ bs. cut unit place (place + offset) ++ bs) (joined unit (place + offset) offsets)
    ∙ cut_append unit place (place + offset) (omega arith)

-- each of the places below n is below n
place_below : (test : ℕ → Bool) (n i : ℕ) → i < length (places test n) → get_or (places test n) i 0 < n
place_below test zero i h = absurd (omega arith)
place_below test (suc n) i h =
    decide (test n)
    (λ t. rw (places_yes test n t) (decide (nat_lt i (length (places test n)))
    (λ l. let lt : i < length (places test n) = ltb-true i (length (places test n)) l in
    omega (arith, get_or_append_left (places test n) (n ∷ []) 0 i lt, place_below test n i lt))
    (λ l. let e : length (places test n) ≡ i =
    omega (
      arith,
      ltb-false i (length (places test n)) l,
      ap length (places_yes test n t),
      length_push (places test n) n,
    ) in
    omega (arith, get_or_push (places test n) n 0 i e))))
    (λ t. let lt : i < length (places test n) = omega (arith, ap length (places_no test n t)) in
    omega (arith, ap (λ ps. get_or ps i 0) (places_no test n t), place_below test n i lt))

-- as many places stand below the place of number i
position : (test : ℕ → Bool) (n i : ℕ) → i < length (places test n)
    → length (places test (get_or (places test n) i 0)) ≡ i
position test zero i h = absurd (omega arith)
position test (suc n) i h =
    decide (test n)
    (λ t. decide (nat_lt i (length (places test n)))
    (λ l. let lt : i < length (places test n) = ltb-true i (length (places test n)) l in
    ap (λ ps. length (places test (get_or ps i 0))) (places_yes test n t)
    ∙ ap (λ p. length (places test p)) (get_or_append_left (places test n) (n ∷ []) 0 i lt) ∙ position test n i lt)
    (λ l. let e : length (places test n) ≡ i =
    omega (
      arith,
      ltb-false i (length (places test n)) l,
      ap length (places_yes test n t),
      length_push (places test n) n,
    ) in
    ap (λ ps. length (places test (get_or ps i 0))) (places_yes test n t)
    ∙ ap (λ p. length (places test p)) (get_or_push (places test n) n 0 i e) ∙ e))
    (λ t. let lt : i < length (places test n) = omega (arith, ap length (places_no test n t)) in
    ap (λ ps. length (places test (get_or ps i 0))) (places_no test n t) ∙ position test n i lt)

-- a byte stands no earlier once bytes are put back
put_back-least : (removed : List ℕ) (place : ℕ) → place ≤ fold put_back place removed
put_back-least [] place = omega arith
put_back-least (r ∷ rs) place =
    decide (nat_le r place)
    (λ t. let e : put_back place r ≡ place + 1 = if_true (nat_le r place) (place + 1) place t in
    omega (arith, e, put_back-least rs (put_back place r)))
    (λ t. let e : put_back place r ≡ place = if_false (nat_le r place) (place + 1) place t in
    omega (arith, e, put_back-least rs (put_back place r)))

unit_place-least : (unit : List ℕ) (i : ℕ) → 2 ≤ unit_place (removed_of unit) i
unit_place-least unit i = omega (arith, put_back-least (removed_of unit) (i + 2))

-- where byte i of the payload stands, as far as the bytes below n are put back: among those, or behind them
record IsPut (unit : List ℕ) (n i : ℕ) (place : ℕ) : Type 0 where
  pub found : i < length (kept unit n) → place ≡ get_or (kept unit n) i 0
  pub past : length (kept unit n) ≤ i → place + length (kept unit n) ≡ n + i

-- one more byte put back
put-removed : (unit : List ℕ) (n i place : ℕ) → 2 ≤ n → stands_at 3 unit n ≡ true → IsPut unit n i place
    → IsPut unit (suc n) i (put_back place n)
put-removed unit n i place two t before =
    let same : kept unit (suc n) ≡ kept unit n = places_no (stays unit) n (stays_not unit n two ∙ ap not t) in
    record {
      found = λ h.
          let lt : i < length (kept unit n) = omega (arith, ap length same) in
          let e : place ≡ get_or (kept unit n) i 0 = before.found lt in
          let stay : put_back place n ≡ place =
          if_false (nat_le n place) (place + 1) place
          (lt-leb n place (omega (arith, e, place_below (stays unit) n i lt))) in
          stay ∙ e ∙ ap (λ ps. get_or ps i 0) (sym same);
      past = λ h.
          let le : length (kept unit n) ≤ i = omega (arith, ap length same) in
          let e : place + length (kept unit n) ≡ n + i = before.past le in
          let few : length (kept unit n) + 2 ≤ n = omega (arith, parted_at unit n two) in
          let go : put_back place n ≡ place + 1 =
          if_true (nat_le n place) (place + 1) place (le-leb n place (omega arith)) in
          omega (arith, go, e, ap length same);
    }

-- a byte behind those put back so far stays
put-stays : (unit : List ℕ) (n i place : ℕ) → 2 ≤ n → stands_at 3 unit n ≡ false → IsPut unit n i place
    → IsPut unit (suc n) i place
put-stays unit n i place two t before =
    let more : kept unit (suc n) ≡ kept unit n ++ n ∷ [] =
    places_yes (stays unit) n (stays_not unit n two ∙ ap not t) in
    let long : length (kept unit (suc n)) ≡ length (kept unit n) + 1 = ap length more ∙ length_push (kept unit n) n in
    record {
      found = λ h. decide (nat_lt i (length (kept unit n)))
          (λ l. let lt : i < length (kept unit n) = ltb-true i (length (kept unit n)) l in
          before.found lt ∙ sym (get_or_append_left (kept unit n) (n ∷ []) 0 i lt)
          ∙ ap (λ ps. get_or ps i 0) (sym more))
          (λ l. let e : length (kept unit n) ≡ i = omega (arith, ltb-false i (length (kept unit n)) l, long) in
          let there : place + length (kept unit n) ≡ n + i = before.past (omega arith) in
          let is : place ≡ n = omega arith in
          is ∙ sym (get_or_push (kept unit n) n 0 i e) ∙ ap (λ ps. get_or ps i 0) (sym more));
      past = λ h.
          let e : place + length (kept unit n) ≡ n + i = before.past (omega arith) in
          omega arith;
    }

put : (unit : List ℕ) (m i : ℕ) → IsPut unit (2 + m) i (fold put_back (i + 2) (places (stands_at 3 unit) (2 + m)))
put unit zero i = record { found = λ h. absurd (omega arith); past = λ h. omega arith }
put unit (suc m) i =
    let e : 2 + suc m ≡ suc (2 + m) = omega arith in
    rw e (decide (stands_at 3 unit (2 + m))
    (λ t. rw (
      places_yes (stands_at 3 unit) (2 + m) t,
      fold_push put_back (i + 2) (places (stands_at 3 unit) (2 + m)) (2 + m),
    )
    (put-removed unit (2 + m) i _ (omega arith) t (put unit m i)))
    (λ t. rw (places_no (stands_at 3 unit) (2 + m) t) (put-stays unit (2 + m) i _ (omega arith) t (put unit m i))))

unit_place-put : (unit : List ℕ) (i : ℕ) → 2 ≤ length unit → IsPut unit (length unit) i (unit_place (removed_of unit) i)
unit_place-put unit i two =
    let e : 2 + (length unit - 2) ≡ length unit = omega arith in
    rw (removed_is unit) (rw e at (put unit (length unit - 2) i))

payload-long : (unit : List ℕ) → length (payload_of unit) ≡ length (kept unit (length unit))
payload-long unit = ap length (payload_is unit) ∙ length-map (kept unit (length unit)) (slice_index unit)

-- before the place of a byte of the payload the bytes before it stand
before_place : (unit : List ℕ) (i : ℕ) → 2 ≤ length unit → i ≤ length (payload_of unit)
    → payload_before (removed_of unit) (unit_place (removed_of unit) i) ≡ i
before_place unit i two h =
    let n = length unit in
    let there = unit_place-put unit i two in
    let least = unit_place-least unit i in
    let long = payload-long unit in
    decide (nat_lt i (length (kept unit n)))
    (λ l. let lt : i < length (kept unit n) = ltb-true i (length (kept unit n)) l in
    let e : unit_place (removed_of unit) i ≡ get_or (kept unit n) i 0 = there.found lt in
    before_in unit (unit_place (removed_of unit) i) least (omega (arith, e, place_below (stays unit) n i lt))
    ∙ ap (λ p. length (kept unit p)) e ∙ position (stays unit) n i lt)
    (λ l. let is : i ≡ length (kept unit n) = omega (arith, ltb-false i (length (kept unit n)) l, long) in
    let there' : unit_place (removed_of unit) i + length (kept unit n) ≡ n + i = there.past (omega arith) in
    let e : unit_place (removed_of unit) i ≡ n = omega arith in
    before_in unit (unit_place (removed_of unit) i) least (omega arith) ∙ ap (λ p. length (kept unit p)) e ∙ sym is)

pub are_cuts : (unit : List ℕ) (i : ℕ) (offsets : List ℕ) → 2 ≤ length unit
    → substreams (payload_of unit) (removed_of unit) i offsets ≡ cuts_from unit (unit_place (removed_of unit) i) offsets
unfolding substreams
are_cuts unit i offsets two = cuts unit (unit_place (removed_of unit) i) offsets (unit_place-least unit i) two

pub join : (unit : List ℕ) (i : ℕ) (offsets : List ℕ) → 2 ≤ length unit → i ≤ length (payload_of unit)
    → concat (substreams (payload_of unit) (removed_of unit) i offsets) ≡ drop i (payload_of unit)
join unit i offsets two h =
    ap concat (are_cuts unit i offsets two) ∙ joined unit (unit_place (removed_of unit) i) offsets
    ∙ sym (rest unit (unit_place (removed_of unit) i) (unit_place-least unit i) two)
    ∙ ap (λ q. drop q (payload_of unit)) (before_place unit i two h)

pub reach : (unit : List ℕ) (i : ℕ) → 2 ≤ length unit
    → data_size (payload_of unit) (removed_of unit) i ≡ length unit - unit_place (removed_of unit) i
unfolding data_size
reach unit i two =
    let all : 2 + length (payload_of unit) + length (removed_of unit) ≡ length unit =
    omega (arith, payload-long unit, ap length (removed_is unit), parted_at unit (length unit) two) in
    ap (λ n. n - unit_place (removed_of unit) i) all

pub find : (unit : List ℕ) (i : ℕ) → 2 ≤ length unit → i < length (payload_of unit)
    → unit_place (removed_of unit) i ≡ slice_index (places (stays unit) (length unit)) i
find unit i two h =
    let lt : i < length (kept unit (length unit)) = omega (arith, payload-long unit) in
    (unit_place-put unit i two).found lt
