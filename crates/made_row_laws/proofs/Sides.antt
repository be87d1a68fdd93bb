-- What stands beside a unit, and what follows it.
use Rattle.std.proofs.Common.{◌≡◌, ℕ, zero, suc, ◌+◌, ◌-◌, ◌*◌, ◌/◌, ◌%◌, ◌<◌, Bool, true, false, List, [], ◌∷◌}
use Rattle.std.proofs.Common.{◌++◌, get_or, refl, sym, ap, ◌∙◌, arith, inl, inr}
use Rattle.std.specs.Prelude.{nat_lt, nat_le, ◌==◌, ◌&&◌, slice_index_or, if◌then◌else◌}
use Rattle.std.specs.List.{fold}
use Rattle.std.proofs.lemmas.List.Sums.{fold-append}
use Rattle.std.proofs.lemmas.Bool.{cases_eq, cases_lt, lt-ltb, le-ltb, le-leb}
use Rattle.std.proofs.lemmas.Bool.Decides.{nat_tests}
use Rattle.std.proofs.lemmas.List.FromFn.{get_or-map-range_with_len}
use Rattle.ctu_records.specs.declared.item.Item.{Item}
use Rattle.ctu_records.specs.declared.side.Side.{Side}
use Rattle.ctu_records.specs.declared.item.CodingPlace.{CodingPlace}
use Rattle.ctu_records.specs.declared.item.Item.TheVariants as item
use Rattle.ctu_records.specs.declared.item.Square.{Square}
use Rattle.ctu_records.specs.Tree.{Ctu, no_side, side, coding_at, coding_laid, no_codings}
use Rattle.spec_cabac.specs.Bins.{Terminate}
use Rattle.spec_slice_data.specs.declared.syntax.End.TheVariants as end
use Rattle.spec_slice_data.specs.Segment.{Between, nothing_read, no_group, side_of, unit_begins}
use Rattle.spec_slice_data.specs.Tree.{unit_end}
use Rattle.spec_made.specs.declared.units.InterUnit.{InterUnit}
use Rattle.spec_made.specs.declared.units.Motion.{Motion}
use Rattle.spec_made.specs.declared.units.PcmUnit.{PcmUnit}
use Rattle.spec_made.specs.Draws.{no_unit}
use Rattle.spec_made.specs.Written.{Bins}
use Rattle.spec_made.specs.InterRows.{is_skipped, left_of, above_of, later_motion}
use Rattle.spec_made.specs.PcmRows.{no_samples, quarter_of, split_left, split_above}
use Rattle.made_row_laws.specs.Shapes.{made_shape, made_segment}
use Rattle.made_row_laws.specs.Units.{coding_unit_of, whole, quarter, sample_items, pulse_items}
use Rattle.made_row_laws.specs.Units.{unit_items, inter_items, pcm_unit_items, pcm_items, place_of, left_side}
use Rattle.made_row_laws.specs.Units.{above_side, unit_drawn, units_drawn}
use Rattle.made_row_laws.specs.Words.{end_behind, flags_behind}
use Rattle.made_row_laws.proofs.Taking.{Takes, gives, asks, then_takes}
use Rattle.made_row_laws.proofs.Quadtree.{IsInside, IsBeside, begun}
use Rattle.made_row_laws.proofs.Pcm.{IsDeepBeside}

-- ---- what follows a unit

end_taken : (last subset : Bool) (rest : Bins)
    → Takes (unit_end last subset) (if last then end.Segment else (if subset then end.Subset else end.More))
    ((if last then (Terminate, true) ∷ []
    else (if subset then (Terminate, false) ∷ (Terminate, true) ∷ [] else (Terminate, false) ∷ [])) ++ rest) rest
unfolding unit_end
end_taken true subset rest =
    then_takes (asks Terminate true rest) (then_takes (gives true rest) (gives end.Segment rest))
end_taken false true rest =
    then_takes (asks Terminate false ((Terminate, true) ∷ rest)) (then_takes (gives true ((Terminate, true) ∷ rest))
    (then_takes (asks Terminate true rest) (then_takes (gives true rest) (gives end.Subset rest))))
end_taken false false rest =
    then_takes (asks Terminate false rest) (then_takes (gives true rest) (gives end.More rest))

last_is : (i : ℕ) → (i + 1 == 0 + 48) ≡ (i == 47)
last_is i =
    elim (cases_eq i 47) [
      | inl e ↦ rw e refl
      | inr n ↦ (let a : (i + 1 == 0 + 48) ≡ false = grind (arith, nat_tests) in a)
          ∙ sym (let b : (i == 47) ≡ false = grind (arith, nat_tests) in b)
    ]

row_ends : (i : ℕ) → ((i + 1) % 8 == 0) ≡ (i % 8 == 7)
row_ends i =
    elim (cases_eq (i % 8) 7) [
      | inl e ↦ (let a : ((i + 1) % 8 == 0) ≡ true = (let z : (i + 1) % 8 ≡ 0 = omega arith in rw z refl) in a)
          ∙ sym (rw e refl)
      | inr n ↦ (let a : ((i + 1) % 8 == 0) ≡ false =
          (let z : nat_lt 0 ((i + 1) % 8) ≡ true = lt-ltb 0 ((i + 1) % 8) (omega arith) in
          grind (arith, nat_tests)) in a)
          ∙ sym (let b : (i % 8 == 7) ≡ false = grind (arith, nat_tests) in b)
    ]

pub follows_taken : (i : ℕ) (rest : Bins)
    → Takes (unit_end (i + 1 == 0 + 48) ((i + 1) % 8 == 0)) (end_behind i) (flags_behind i ++ rest) rest
unfolding end_behind flags_behind
follows_taken i rest = rw (last_is i, row_ends i) (end_taken (i == 47) (i % 8 == 7) rest)

-- ---- what the picture has of a unit

pub unit_inside : (i : ℕ) → i < 48 → IsInside (32 - 4 * (i % 8)) (24 - 4 * (i / 8))
unit_inside i small = record {
  first_column = lt-ltb 0 (32 - 4 * (i % 8)) (omega arith);
  third_column = lt-ltb 2 (32 - 4 * (i % 8)) (omega arith);
  columns = le-leb 4 (32 - 4 * (i % 8)) (omega arith);
  first_row = lt-ltb 0 (24 - 4 * (i / 8)) (omega arith);
  third_row = lt-ltb 2 (24 - 4 * (i / 8)) (omega arith);
  rows = le-leb 4 (24 - 4 * (i / 8)) (omega arith);
}

-- ---- units that were read before

drawn_at : (items : ℕ → List Item) (units : List Ctu) (i j : ℕ) (d : Ctu) → units ≡ units_drawn items i → j < i
    → slice_index_or units j d ≡ unit_drawn items j
unfolding units_drawn
drawn_at items units i j d is inside =
    ap (λ l. get_or l j d) is ∙ get_or-map-range_with_len (unit_drawn items) 0 i j j d inside (omega arith)

count_left : (i : ℕ) → i < 48
    → (if nat_lt 0 (i % 8) && nat_le 0 (i - 1) then (if nat_lt (24 - 4 * (i / 8)) 4 then 24 - 4 * (i / 8) else 4)
    else 0)
    ≡ (if i % 8 == 0 then 0 else 4)
count_left i small =
    let all : nat_lt (24 - 4 * (i / 8)) 4 ≡ false = le-ltb (24 - 4 * (i / 8)) 4 (omega arith) in
    let there : nat_le 0 (i - 1) ≡ true = le-leb 0 (i - 1) (omega arith) in
    elim (cases_eq (i % 8) 0) [
      | inl e ↦ rw e refl
      | inr n ↦
          let a : nat_lt 0 (i % 8) ≡ true = lt-ltb 0 (i % 8) (omega arith) in
          let b : (i % 8 == 0) ≡ false = grind (arith, nat_tests) in
          rw (a, there, all, b) refl
    ]

count_above : (i : ℕ) → i < 48
    → (if nat_le 8 i && nat_le 0 (i - 8) then (if nat_lt (32 - 4 * (i % 8)) 4 then 32 - 4 * (i % 8) else 4) else 0)
    ≡ (if nat_lt i 8 then 0 else 4)
count_above i small =
    let all : nat_lt (32 - 4 * (i % 8)) 4 ≡ false = le-ltb (32 - 4 * (i % 8)) 4 (omega arith) in
    let there : nat_le 0 (i - 8) ≡ true = le-leb 0 (i - 8) (omega arith) in
    elim (cases_lt i 8) [
      | inl e ↦
          let a : nat_le 8 i ≡ false = grind (arith, nat_tests) in
          let b : nat_lt i 8 ≡ true = lt-ltb i 8 e in
          rw (a, b) refl
      | inr n ↦
          let a : nat_le 8 i ≡ true = le-leb 8 i (omega arith) in
          let b : nat_lt i 8 ≡ false = le-ltb i 8 (omega arith) in
          rw (a, there, all, b) refl
    ]

-- a side of which nothing is there
no_side_is : (f g : ℕ → Side) → side 0 f ≡ side 0 g
unfolding side
no_side_is f g = refl

left_is : (items : ℕ → List Item) (units : List Ctu) (i : ℕ) (d : Ctu) → units ≡ units_drawn items i → i < 48
    → side (if i % 8 == 0 then 0 else 4) (λ k. side_of (slice_index_or units (i - 1) d) 3 k) ≡ left_side items i
unfolding unit_drawn
left_is items units i d is small =
    elim (cases_eq (i % 8) 0) [
      | inl e ↦
          rw e
          (no_side_is (λ k. side_of (slice_index_or units (i - 1) d) 3 k) (λ k. place_of (items (i - 1)) 3 k))
      | inr n ↦ ap (λ (c : Ctu). side (if i % 8 == 0 then 0 else 4) (λ k. side_of c 3 k))
          (drawn_at items units i (i - 1) d is (omega arith))
    ]

above_is : (items : ℕ → List Item) (units : List Ctu) (i : ℕ) (d : Ctu) → units ≡ units_drawn items i → i < 48
    → side (if nat_lt i 8 then 0 else 4) (λ k. side_of (slice_index_or units (i - 8) d) k 3) ≡ above_side items i
unfolding unit_drawn
above_is items units i d is small =
    elim (cases_lt i 8) [
      | inl e ↦
          let b : nat_lt i 8 ≡ true = lt-ltb i 8 e in
          rw b (no_side_is (λ k. side_of (slice_index_or units (i - 8) d) k 3) (λ k. place_of (items (i - 8)) k 3))
      | inr n ↦ ap (λ (c : Ctu). side (if nat_lt i 8 then 0 else 4) (λ k. side_of c k 3))
          (drawn_at items units i (i - 8) d is (omega arith))
    ]

pub begins_as : (init_type : ℕ) (row : ℕ → List ℕ) (items : ℕ → List Item) (between : Between) (i : ℕ) → i < 48
    → between.units ≡ units_drawn items i → between.last ≡ 26
    → unit_begins made_shape (made_segment init_type row) i between ≡ begun (left_side items i) (above_side items i)
unfolding unit_begins
begins_as init_type row items between i small is last =
    let left = count_left i small in
    let above = count_above i small in
    let l = left_is items between.units i (nothing_read 2 no_group) is small in
    let a = above_is items between.units i (nothing_read 2 no_group) is small in
    rw (left, above, l, a, last) refl

-- ---- what the places beside a unit tell

place_left : (b : Bool) (f : ℕ → Side) → slice_index_or (side (if b then 0 else 4) f) 0 no_side ≡ (if b then no_side
    else f 0)
unfolding side
place_left true f = refl
place_left false f = refl

place_third : (b : Bool) (f : ℕ → Side) → slice_index_or (side (if b then 0 else 4) f) 2 no_side ≡ (if b then no_side
    else f 2)
unfolding side
place_third true f = refl
place_third false f = refl

-- what coding units of P and B pictures tell of the last column and the last row of their unit
record IsTold (items : List Item) (u : InterUnit) : Type 0 where
  second : (place_of items 3 0).skipped ≡ is_skipped u 1
  fourth : (place_of items 3 2).skipped ≡ is_skipped u 3
  deep : nat_lt 0 (place_of items 3 0).depth ≡ u.split
  third : (place_of items 0 3).skipped ≡ is_skipped u 2
  last : (place_of items 2 3).skipped ≡ is_skipped u 3
  deep_row : nat_lt 0 (place_of items 0 3).depth ≡ u.split

told_of : (first later : Motion) (split : Bool) (skips : List Bool)
    → IsTold (unit_items first later (record { split = split; skips = skips }))
    (record { split = split; skips = skips })
unfolding coding_at
told_of first later true skips =
    record { second = refl; fourth = refl; deep = refl; third = refl; last = refl; deep_row = refl }
told_of first later false skips =
    record { second = refl; fourth = refl; deep = refl; third = refl; last = refl; deep_row = refl }

inter_told : (m : Motion) (units : List InterUnit) (i : ℕ)
    → IsTold (inter_items m units i) (slice_index_or units i no_unit)
unfolding inter_items
inter_told m units i =
    told_of (if i == 0 then m else later_motion m) (later_motion m) (slice_index_or units i no_unit).split
    (slice_index_or units i no_unit).skips

skipped_or : (b : Bool) (p : Side) (u : InterUnit) (q : ℕ) → q < 4 → p.skipped ≡ is_skipped u q
    → (if b then no_side else p).skipped ≡ is_skipped (if b then no_unit else u) q
skipped_or false p u q few e = e
skipped_or true p u zero few e = refl
skipped_or true p u (suc q) few e = refl

split_or : (b : Bool) (p : Side) (u : InterUnit) → nat_lt 0 p.depth ≡ u.split
    → nat_lt 0 (if b then no_side else p).depth ≡ (if b then no_unit else u).split
split_or true p u e = refl
split_or false p u e = e

pub inter_beside : (m : Motion) (units : List InterUnit) (i : ℕ)
    → IsBeside (left_side (inter_items m units) i) (above_side (inter_items m units) i) (left_of units i)
    (above_of units i)
inter_beside m units i =
    let items : ℕ → List Item = inter_items m units in
    let l = inter_told m units (i - 1) in
    let a = inter_told m units (i - 8) in
    let left : ℕ → Side = λ k. place_of (items (i - 1)) 3 k in
    let above : ℕ → Side = λ k. place_of (items (i - 8)) k 3 in
    let lu : InterUnit = slice_index_or units (i - 1) no_unit in
    let au : InterUnit = slice_index_or units (i - 8) no_unit in
    record {
      left_first =
          ap (λ (p : Side). p.skipped) (place_left (i % 8 == 0) left)
          ∙ skipped_or (i % 8 == 0) (left 0) lu 1 (omega arith) l.second;
      left_third =
          ap (λ (p : Side). p.skipped) (place_third (i % 8 == 0) left)
          ∙ skipped_or (i % 8 == 0) (left 2) lu 3 (omega arith) l.fourth;
      left_depth =
          ap (λ (p : Side). nat_lt 0 p.depth) (place_left (i % 8 == 0) left)
          ∙ split_or (i % 8 == 0) (left 0) lu l.deep;
      above_first =
          ap (λ (p : Side). p.skipped) (place_left (nat_lt i 8) above)
          ∙ skipped_or (nat_lt i 8) (above 0) au 2 (omega arith) a.third;
      above_third =
          ap (λ (p : Side). p.skipped) (place_third (nat_lt i 8) above)
          ∙ skipped_or (nat_lt i 8) (above 2) au 3 (omega arith) a.last;
      above_depth =
          ap (λ (p : Side). nat_lt 0 p.depth) (place_left (nat_lt i 8) above)
          ∙ split_or (nat_lt i 8) (above 0) au a.deep_row;
    }

-- ---- the same of IDR pictures

abbrev lay : (ℕ → ℕ → CodingPlace) → ℕ → Square → ℕ → ℕ → CodingPlace
lay places depth square = coding_laid places (item.Unit (coding_unit_of depth square false true))

samples_tell : (values : List ℕ) (places : ℕ → ℕ → CodingPlace)
    → fold coding_laid places (sample_items values) ≡ places
samples_tell [] places = refl
samples_tell (v ∷ values) places = samples_tell values places

pulses_tell : (depth : ℕ) (square : Square) (values : List ℕ) (places : ℕ → ℕ → CodingPlace) (later : List Item)
    → fold coding_laid places (pulse_items depth square values ++ later)
    ≡ fold coding_laid (lay places depth square) later
pulses_tell depth square values places later =
    fold-append coding_laid (lay places depth square) (sample_items values) later
    ∙ ap (λ (p : ℕ → ℕ → CodingPlace). fold coding_laid p later) (samples_tell values (lay places depth square))

four_tell : (a b c d : List ℕ)
    → coding_at (pulse_items 1 (quarter 0 0) a ++ (pulse_items 1 (quarter 1 0) b
    ++ (pulse_items 1 (quarter 0 1) c ++ pulse_items 1 (quarter 1 1) d)))
    ≡ lay (lay (lay (lay no_codings 1 (quarter 0 0)) 1 (quarter 1 0)) 1 (quarter 0 1)) 1 (quarter 1 1)
unfolding coding_at
four_tell a b c d =
    pulses_tell 1 (quarter 0 0) a no_codings _ ∙ pulses_tell 1 (quarter 1 0) b _ _ ∙ pulses_tell 1 (quarter 0 1) c _ _
    ∙ samples_tell d _

one_tells : (a : List ℕ) → coding_at (pulse_items 0 whole a) ≡ lay no_codings 0 whole
unfolding coding_at
one_tells a = samples_tell a (lay no_codings 0 whole)

record IsDeep (items : List Item) (split : Bool) : Type 0 where
  column : nat_lt 0 (place_of items 3 0).depth ≡ split
  row : nat_lt 0 (place_of items 0 3).depth ≡ split

deep_of : (split : Bool) (samples : List ℕ)
    → IsDeep (pcm_unit_items (record { split = split; samples = samples })) split
deep_of true samples =
    let e = four_tell (quarter_of samples 0) (quarter_of samples 1) (quarter_of samples 2) (quarter_of samples 3) in
    record {
      column = ap (λ (p : ℕ → ℕ → CodingPlace). nat_lt 0 (p 3 0).depth) e;
      row = ap (λ (p : ℕ → ℕ → CodingPlace). nat_lt 0 (p 0 3).depth) e;
    }
deep_of false samples =
    record {
      column = ap (λ (p : ℕ → ℕ → CodingPlace). nat_lt 0 (p 3 0).depth) (one_tells samples);
      row = ap (λ (p : ℕ → ℕ → CodingPlace). nat_lt 0 (p 0 3).depth) (one_tells samples);
    }

pcm_deep : (units : List PcmUnit) (i : ℕ) → IsDeep (pcm_items units i) (get_or units i no_samples).split
unfolding pcm_items
pcm_deep units i = deep_of (get_or units i no_samples).split (get_or units i no_samples).samples

deep_or : (b : Bool) (p : Side) (split : Bool) → nat_lt 0 p.depth ≡ split
    → nat_lt 0 (if b then no_side else p).depth ≡ (if b then false else split)
deep_or true p split e = refl
deep_or false p split e = e

pub pcm_beside : (units : List PcmUnit) (i : ℕ)
    → IsDeepBeside (left_side (pcm_items units) i) (above_side (pcm_items units) i) (split_left units i)
    (split_above units i)
pcm_beside units i =
    let items : ℕ → List Item = pcm_items units in
    let left : ℕ → Side = λ k. place_of (items (i - 1)) 3 k in
    let above : ℕ → Side = λ k. place_of (items (i - 8)) k 3 in
    record {
      left_depth =
          ap (λ (p : Side). nat_lt 0 p.depth) (place_left (i % 8 == 0) left)
          ∙ deep_or (i % 8 == 0) (left 0) (get_or units (i - 1) no_samples).split (pcm_deep units (i - 1)).column;
      above_depth =
          ap (λ (p : Side). nat_lt 0 p.depth) (place_left (nat_lt i 8) above)
          ∙ deep_or (nat_lt i 8) (above 0) (get_or units (i - 8) no_samples).split (pcm_deep units (i - 8)).row;
    }
