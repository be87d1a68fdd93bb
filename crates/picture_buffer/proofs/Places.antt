-- The motion of a place.
use Rattle.std.proofs.Common.{◌≡◌, ℕ, Bool, true, false, ◌+◌, ◌*◌, ◌<◌, ◌≤◌, ◌==◌, ◌&&◌, ◌||◌, cond, List}
use Rattle.std.proofs.Common.{length, Option, Some, None, get_or, map, inl, inr, refl, sym, ap, subst, ◌∙◌, arith}
use Rattle.std.specs.List.{range_with_len}
use Rattle.std.proofs.lemmas.Bool.{cases_lt}
use Rattle.std.proofs.lemmas.Bool.Decides.{nat_tests}
use Rattle.std.proofs.lemmas.List.{get_or_past}
use Rattle.std.proofs.lemmas.List.FromFn.{get_or-map-range_with_len, length-map-range_with_len}
use Rattle.place_grid.specs.Cells.{Cells, HasCells, cell}
use Rattle.picture_buffer.specs.declared.packed.PackedMotion.{PackedMotion}
use Rattle.picture_buffer.specs.declared.place_motion.PlaceMotion.{PlaceMotion}
use Rattle.picture_buffer.specs.declared.targets.OwnTargets.{OwnTargets}
use Rattle.picture_buffer.specs.declared.targets.Target.{Target}
use Rattle.picture_buffer.specs.Motion.{motions_of, unpacked_place, unpacked_places}
use Rattle.picture_buffer.specs.Packed.{AreKept, AreStill, IsWithin, no_motion, no_own, no_target, target_of, to_target}
use Rattle.picture_buffer.specs.Packed.{unpacked, unpacked_vector}

-- a place's motion by its number
numbered : (targets : List Target) (own : List OwnTargets) (places : List PackedMotion) (k : ℕ)
    → get_or (map (unpacked_place targets own places) (range_with_len 0 (length places))) k None
    ≡ unpacked_place targets own places k
numbered targets own places k = elim (cases_lt k (length places)) [
  | inl lt ↦
      get_or-map-range_with_len (unpacked_place targets own places) 0 (length places) k k None lt (omega arith)
  | inr le ↦
      let all = length-map-range_with_len (unpacked_place targets own places) 0 (length places) in
      get_or_past (map (unpacked_place targets own places) (range_with_len 0 (length places))) k None
      (omega (arith, all, le))
      ∙ sym (ap (unpacked targets (get_or own k no_own)) (get_or_past places k no_motion le))
]

-- it is what stands there packed
at_sides : (targets : List Target) (own : List OwnTargets) (places : List PackedMotion) (across down x y : ℕ)
    → motions_of (unpacked_places targets (record { across = across; down = down; cells = own })
    (record { across = across; down = down; cells = places })) x y
    ≡ unpacked targets (cell no_own (record { across = across; down = down; cells = own }) x y)
    (cell no_motion (record { across = across; down = down; cells = places }) x y)
unfolding motions_of cell
at_sides targets own places across down x y =
    let t = numbered targets own places (across * y + x) in grind (arith, nat_tests)

pub motion_at : (targets : List Target) (own : Cells OwnTargets) (grid : Cells PackedMotion)
    → own.across ≡ grid.across → own.down ≡ grid.down → (x y : ℕ)
    → motions_of (unpacked_places targets own grid) x y
    ≡ unpacked targets (cell no_own own x y) (cell no_motion grid x y)
motion_at targets own grid columns rows x y =
    subst (λ (n : ℕ). motions_of (unpacked_places targets own grid) x y
    ≡ unpacked targets (cell no_own (record { across = n; down = own.down; cells = own.cells }) x y)
    (cell no_motion grid x y)) (sym columns)
    (subst (λ (n : ℕ). motions_of (unpacked_places targets own grid) x y
    ≡ unpacked targets (cell no_own (record { across = grid.across; down = n; cells = own.cells }) x y)
    (cell no_motion grid x y)) (sym rows)
    (at_sides targets own.cells grid.cells grid.across grid.down x y))

-- there is none where nothing is packed
pub none_at : (targets : List Target) (own : Cells OwnTargets) (grid : Cells PackedMotion)
    → own.across ≡ grid.across → own.down ≡ grid.down
    → ((x y : ℕ) → cell no_motion grid x y ≡ no_motion)
    → (x y : ℕ) → motions_of (unpacked_places targets own grid) x y ≡ None
none_at targets own grid columns rows all x y =
    motion_at targets own grid columns rows x y ∙ ap (unpacked targets (cell no_own own x y)) (all x y)

pub still_at : (targets : List Target) (count : ℕ) (moving : Bool) (own : Cells OwnTargets) (grid : Cells PackedMotion)
    → AreKept grid own count → AreStill moving grid → moving ≡ false
    → (x y : ℕ) → motions_of (unpacked_places targets own grid) x y ≡ None
still_at targets count moving own grid kept still e x y =
    none_at targets own grid kept.columns kept.rows (still e) x y

pub unmoved : (here : Bool) (motion : Option PlaceMotion) → motion ≡ None → motion ≡ cond here None motion
unmoved true motion e = e
unmoved false motion e = refl

-- a place whose indices are used has the same motion where there are more targets
stays : (old new : List Target) (count : ℕ) (own : OwnTargets) (p : PackedMotion) → IsWithin count p
    → ((k : ℕ) → k < count → get_or new k no_target ≡ get_or old k no_target) → unpacked new own p ≡ unpacked old own p
stays old new count own p within same = rw (same p.index_0 within.first, same p.index_1 within.second) refl

taken_0 : (a b : Bool) (value own : OwnTargets) (t : Target)
    → cond a (cond ((a || b) && true) value own).first t ≡ cond a value.first t
taken_0 true b value own t = refl
taken_0 false b value own t = refl

taken_1 : (a b : Bool) (value own : OwnTargets) (t : Target)
    → cond b (cond ((a || b) && true) value own).second t ≡ cond b value.second t
taken_1 true true value own t = refl
taken_1 true false value own t = refl
taken_1 false true value own t = refl
taken_1 false false value own t = refl

passed_over : (a b : Bool) (value own : OwnTargets) → cond ((a || b) && false) value own ≡ own
passed_over true b value own = refl
passed_over false true value own = refl
passed_over false false value own = refl

not_zero : (n : ℕ) → 1 ≤ n → (n == 0) ≡ false
not_zero n le = grind (arith, nat_tests)

abbrev own_of : PlaceMotion → OwnTargets
own_of motion = record { first = target_of motion.list_0; second = target_of motion.list_1 }

-- a motion is what was packed of it, and what the place keeps of its own
written : (targets : List Target) (p : PackedMotion) (motion : PlaceMotion) (own : OwnTargets) → 1 ≤ p.index_0
    → unpacked_vector targets (target_of motion.list_0) p.index_0 p.mv_0 ≡ motion.list_0
    → unpacked_vector targets (target_of motion.list_1) p.index_1 p.mv_1 ≡ motion.list_1
    → unpacked targets (cond ((p.index_0 == 2 || p.index_1 == 2) && true) (own_of motion) own) p ≡ Some motion
written targets p motion own some first second =
    let a =
    ap (λ (t : Target). cond (p.index_0 == 1) None (Some (to_target p.mv_0 t)))
    (taken_0 (p.index_0 == 2) (p.index_1 == 2) (own_of motion) own (get_or targets p.index_0 no_target)) ∙ first in
    let b =
    ap (λ (t : Target). cond (p.index_1 == 1) None (Some (to_target p.mv_1 t)))
    (taken_1 (p.index_0 == 2) (p.index_1 == 2) (own_of motion) own (get_or targets p.index_1 no_target)) ∙ second in
    rw (not_zero p.index_0 some, a, b) refl

laid : (here : Bool) (old new : List Target) (count : ℕ) (p q : PackedMotion) (motion : PlaceMotion)
    (own : OwnTargets)
    → IsWithin count q → ((k : ℕ) → k < count → get_or new k no_target ≡ get_or old k no_target) → 1 ≤ p.index_0
    → unpacked_vector new (target_of motion.list_0) p.index_0 p.mv_0 ≡ motion.list_0
    → unpacked_vector new (target_of motion.list_1) p.index_1 p.mv_1 ≡ motion.list_1
    → unpacked new (cond ((p.index_0 == 2 || p.index_1 == 2) && here) (own_of motion) own) (cond here p q)
    ≡ cond here (Some motion) (unpacked old own q)
laid true old new count p q motion own within same some first second = written new p motion own some first second
laid false old new count p q motion own within same some first second =
    ap (λ (o : OwnTargets). unpacked new o q) (passed_over (p.index_0 == 2) (p.index_1 == 2) (own_of motion) own)
    ∙ stays old new count own q within same

earlier : (mid new : List Target) (behind index : ℕ) (own : Target) (p : PackedMotion)
    → ((k : ℕ) → k < behind → get_or new k no_target ≡ get_or mid k no_target) → p.index_0 < behind
    → unpacked_vector new own p.index_0 p.mv_0 ≡ unpacked_vector mid own p.index_0 p.mv_0
earlier mid new behind index own p same lt = rw (same p.index_0 lt) refl

-- and is put there packed
pub put_at : (old mid new : List Target) (count behind : ℕ) (own after : Cells OwnTargets)
    (grid laid_grid : Cells PackedMotion) (p : PackedMotion) (motion : PlaceMotion) (here : Bool) (i j : ℕ)
    → AreKept grid own count → HasCells after own.across own.down → HasCells laid_grid grid.across grid.down
    → count ≤ behind
    → ((k : ℕ) → k < count → get_or mid k no_target ≡ get_or old k no_target)
    → ((k : ℕ) → k < behind → get_or new k no_target ≡ get_or mid k no_target)
    → 1 ≤ p.index_0 → p.index_0 < behind
    → unpacked_vector mid (target_of motion.list_0) p.index_0 p.mv_0 ≡ motion.list_0
    → unpacked_vector new (target_of motion.list_1) p.index_1 p.mv_1 ≡ motion.list_1
    → cell no_own after i j
    ≡ cond ((p.index_0 == 2 || p.index_1 == 2) && here) (own_of motion) (cell no_own own i j)
    → cell no_motion laid_grid i j ≡ cond here p (cell no_motion grid i j)
    → motions_of (unpacked_places new after laid_grid) i j
    ≡ cond here (Some motion) (motions_of (unpacked_places old own grid) i j)
put_at old mid new count behind own after grid laid_grid p motion here i j kept sides laid_sides more low high some
    inside first second put put_grid =
    motion_at new after laid_grid (sides.columns ∙ (kept.columns ∙ sym laid_sides.columns))
    (sides.rows ∙ (kept.rows ∙ sym laid_sides.rows)) i j
    ∙ (rw (put, put_grid) (laid here old new count p (cell no_motion grid i j) motion (cell no_own own i j)
    (kept.indices i j) (λ k lt. high k (omega (arith, lt, more)) ∙ low k lt) some
    (earlier mid new behind 0 (target_of motion.list_0) p high inside ∙ first) second)
    ∙ ap (cond here (Some motion)) (sym (motion_at old own grid kept.columns kept.rows i j)))

chosen_none : (here : Bool) (targets : List Target) (own : OwnTargets) (q : PackedMotion)
    → unpacked targets own (cond here no_motion q) ≡ cond here None (unpacked targets own q)
chosen_none true targets own q = refl
chosen_none false targets own q = refl

-- where there is no motion, nothing is
pub none_put : (targets : List Target) (count : ℕ) (own : Cells OwnTargets) (grid laid_grid : Cells PackedMotion)
    (here : Bool) (i j : ℕ) → AreKept grid own count → HasCells laid_grid grid.across grid.down
    → cell no_motion laid_grid i j ≡ cond here no_motion (cell no_motion grid i j)
    → motions_of (unpacked_places targets own laid_grid) i j
    ≡ cond here None (motions_of (unpacked_places targets own grid) i j)
none_put targets count own grid laid_grid here i j kept sides put =
    motion_at targets own laid_grid (kept.columns ∙ sym sides.columns) (kept.rows ∙ sym sides.rows) i j
    ∙ (ap (unpacked targets (cell no_own own i j)) put
    ∙ (chosen_none here targets (cell no_own own i j) (cell no_motion grid i j)
    ∙ ap (cond here None) (sym (motion_at targets own grid kept.columns kept.rows i j))))

one_within : (here : Bool) (count last : ℕ) (p q : PackedMotion) → IsWithin last p → IsWithin count q → count ≤ last
    → IsWithin last (cond here p q)
one_within true count last p q a b more = a
one_within false count last p q a b more = record {
  first = omega (arith, b.first, more);
  second = omega (arith, b.second, more);
}

-- all indices are used behind it
pub kept_put : (count last : ℕ) (own after : Cells OwnTargets) (grid laid_grid : Cells PackedMotion) (p : PackedMotion)
    (here : ℕ → ℕ → Bool)
    → AreKept grid own count → HasCells after own.across own.down → HasCells laid_grid grid.across grid.down
    → count ≤ last → last ≤ 64 → IsWithin last p
    → ((i j : ℕ) → cell no_motion laid_grid i j ≡ cond (here i j) p (cell no_motion grid i j))
    → AreKept laid_grid after last
kept_put count last own after grid laid_grid p here kept sides laid_sides more few within put = record {
  columns = sides.columns ∙ (kept.columns ∙ sym laid_sides.columns);
  rows = sides.rows ∙ (kept.rows ∙ sym laid_sides.rows);
  from = omega (arith, kept.from, more);
  to = few;
  indices = λ x y. subst (IsWithin last) (sym (put x y))
      (one_within (here x y) count last p (cell no_motion grid x y) within (kept.indices x y) more);
}

-- and where no place has motion
pub kept_none : (count : ℕ) (own : Cells OwnTargets) (grid : Cells PackedMotion)
    → own.across ≡ grid.across → own.down ≡ grid.down → 3 ≤ count → count ≤ 64
    → ((x y : ℕ) → cell no_motion grid x y ≡ no_motion) → AreKept grid own count
kept_none count own grid columns rows from to all = record {
  columns = columns;
  rows = rows;
  from = from;
  to = to;
  indices = λ x y. subst (IsWithin count) (sym (all x y))
      (record { first = omega (arith, from); second = omega (arith, from) });
}
