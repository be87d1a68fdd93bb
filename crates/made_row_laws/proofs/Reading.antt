-- The units of a picture are read off its rows, one after the other.
use Rattle.std.proofs.Common.{◌≡◌, ℕ, zero, suc, ◌+◌, ◌-◌, ◌*◌, ◌/◌, ◌%◌, ◌<◌, ◌≤◌, Bool, true, false, List, [], ◌∷◌}
use Rattle.std.proofs.Common.{◌++◌, map, refl, sym, ap, subst, ◌∙◌, arith, append_assoc, inl, inr, pos}
use Rattle.std.proofs.Common.{Some}
use Rattle.std.specs.Prelude.{Ok, ◌==◌, ◌&&◌, ◌||◌, nat_le, slice_index_or}
use Rattle.std.specs.List.{range_with_len}
use Rattle.std.proofs.lemmas.Bool.{cases_eq, le-leb}
use Rattle.std.proofs.lemmas.Bool.Decides.{nat_tests}
use Rattle.std.proofs.lemmas.List.FromFn.{get_or-map-range_with_len, map-range_with_len_more}
use Rattle.ctu_records.specs.declared.item.Item.{Item}
use Rattle.ctu_records.specs.Tree.{Ctu}
use Rattle.spec_bits.specs.Bits.{bits}
use Rattle.spec_formats.specs.Format.{Has, Spells}
use Rattle.spec_formats.proofs.Agreement.{Has-split, only}
use Rattle.spec_cabac.specs.Bins.{State, bin_at, read}
use Rattle.spec_cabac.specs.Contexts.{first_contexts}
use Rattle.spec_cabac.specs.Engine.{Engine, start_at, is_trailing}
use Rattle.cabac_writer.specs.Pulses.{contexts_behind}
use Rattle.spec_slice_data.specs.declared.syntax.CtuSyntax.{CtuSyntax}
use Rattle.spec_slice_data.specs.declared.syntax.End.{End}
use Rattle.spec_slice_data.specs.Segment.{Between, unit_at, before_unit, contexts_before, qp_before, behind_unit}
use Rattle.spec_slice_data.specs.Segment.{read_unit}
use Rattle.spec_slice_data.specs.Segment.{then_unit, unit_step, judged_end, ends_rightly, stored_behind}
use Rattle.spec_made.specs.Written.{Bins}
use Rattle.made_row_laws.specs.Rows.{HasWords}
use Rattle.made_row_laws.specs.Shapes.{made_shape, made_segment}
use Rattle.made_row_laws.specs.Units.{unit_drawn, units_drawn}
use Rattle.made_row_laws.specs.Words.{end_behind, flags_behind, row_words}
use Rattle.made_row_laws.proofs.Contexts.{read_contexts}

-- pictures whose units are spelled by words that their rows have
pub record AreRows (common : CtuSyntax) (init_type : ℕ) (row : ℕ → List ℕ) (items : ℕ → List Item)
    (words : ℕ → Bins) (contexts : ℕ → List ℕ) : Type 0 where
  pub spelled : (i : ℕ) (between : Between) → i < 48 → between.units ≡ units_drawn items i → between.last ≡ 26
      → Spells (unit_at common made_shape (made_segment init_type row) i between) (unit_drawn items i, end_behind i)
      (words i ++ flags_behind i)
  pub has : (r : ℕ) → r < 6 → HasWords (row r) (row_words words (8 * r) 8) (contexts r)
  pub first : contexts 0 ≡ first_contexts (pos 26) init_type
  pub stored : (r : ℕ) → r < 6
      → contexts (suc r)
      ≡ contexts_behind (words (8 * r + 1) ++ flags_behind (8 * r + 1))
      (contexts_behind (words (8 * r) ++ flags_behind (8 * r)) (contexts r))

module _ (common : CtuSyntax) (init_type : ℕ) (row : ℕ → List ℕ) (items : ℕ → List Item) (words : ℕ → Bins)
    (contexts : ℕ → List ℕ) where
  -- so many units from one on are read, each as it was drawn
  abbrev pub Steps : ℕ → ℕ → Between → Between → Type 0
  Steps zero i between after = between ≡ after
  Steps (suc n) i between after =
      (next : Between) × (unit_step common made_shape (made_segment init_type row) i between ≡ Ok next)
      × (next.units ≡ units_drawn items (i + 1)) × Steps n (i + 1) next after

  -- what stands behind a unit that was read
  record Next (i : ℕ) (start : Between) (rest : Bins) (t : State) : Type 0 where
    next : Between
    is : read_unit common made_shape (made_segment init_type row) i start ≡ Ok next
    units : next.units ≡ units_drawn items (i + 1)
    last : next.last ≡ 26
    contexts_are : next.contexts ≡ contexts_behind (words i ++ flags_behind i) start.contexts
    stored : next.stored ≡ stored_behind made_shape i next.contexts start.stored
    has : Has bin_at (next.engine, next.contexts) rest t

  more_units : (units : List Ctu) (i : ℕ) → units ≡ units_drawn items i
      → units ++ unit_drawn items i ∷ [] ≡ units_drawn items (i + 1)
  unfolding units_drawn
  more_units units i is =
      ap (λ (l : List Ctu). l ++ unit_drawn items i ∷ []) is
      ∙ sym (map-range_with_len_more (unit_drawn items) 0 i i (omega arith))

  unit_read : (i : ℕ) (start : Between) (rest : Bins) (t : State)
      → AreRows common init_type row items words contexts → i < 48 → start.units ≡ units_drawn items i
      → start.last ≡ 26
      → Has bin_at (start.engine, start.contexts) (words i ++ (flags_behind i ++ rest)) t
      → ((s : State) → Has bin_at s rest t → judged_end (end_behind i) s.0 ≡ true)
      → Next i start rest t
  unfolding read_unit unit_drawn
  unit_read i start rest t are small is last has judged =
      let unit : Bins = words i ++ flags_behind i in
      let format = unit_at common made_shape (made_segment init_type row) i start in
      let value : Ctu × End = (unit_drawn items i, end_behind i) in
      let state : State = (start.engine, start.contexts) in
      let all : Has bin_at state (unit ++ rest) t =
      subst (λ (l : Bins). Has bin_at state l t) (sym (append_assoc (words i) (flags_behind i) rest)) has in
      let cut = Has-split bin_at unit rest state t all in
      let s : State = cut.0 in
      let found : read format state ≡ Ok (value, s) =
      only bin_at format value unit state s (are.spelled i start small is last) cut.1 in
      let next : Between = record {
        engine = s.0;
        contexts = s.1;
        stored = stored_behind made_shape i s.1 start.stored;
        last = 26;
        units = start.units ++ unit_drawn items i ∷ [];
      } in
      let right : judged_end (end_behind i) s.0 ≡ true = judged s cut.2 in
      let kept : behind_unit made_shape i start (Ok (value, s)) ≡ Ok next = rw right refl in
      record {
        next = next;
        is = ap (behind_unit made_shape i start) found ∙ kept;
        units = more_units start.units i is;
        last = refl;
        contexts_are = read_contexts unit state s cut.1;
        stored = refl;
        has = cut.2;
      }

  -- inside a row nothing stands before a unit
  inner_step : (i : ℕ) (start next : Between) → 0 < i % 8
      → read_unit common made_shape (made_segment init_type row) i start ≡ Ok next
      → unit_step common made_shape (made_segment init_type row) i start ≡ Ok next
  unfolding before_unit
  inner_step i start next inside is =
      let a : (i == 0) ≡ false = grind (arith, nat_tests) in
      let b : (i % 8 == 0) ≡ false = grind (arith, nat_tests) in
      rw (a, b) is

  -- the rest of a row, from its third unit on at the earliest: whatever is read behind it is read behind its first unit
  record Rest (i k : ℕ) (start : Between) : Type 0 where
    after : Between
    units : after.units ≡ units_drawn items (i + suc k)
    stored : after.stored ≡ start.stored
    steps : (total more : ℕ) (final : Between) → total ≡ suc k + more → Steps more (i + suc k) after final
        → Steps total i start final

  stored_not : (i : ℕ) (contexts stored : List ℕ) → (i % 8 == 1) ≡ false
      → stored_behind made_shape i contexts stored ≡ stored
  stored_not i contexts stored other = rw other refl

  -- equations of contexts, and of units by how many they are
  then_same : (a b c : List ℕ) → a ≡ b → b ≡ c → a ≡ c
  then_same a b c e f = e ∙ f

  as_many : (units : List Ctu) (n k : ℕ) → units ≡ units_drawn items n → n ≡ k → units ≡ units_drawn items k
  as_many units n k e f = e ∙ ap (units_drawn items) f

  stored_is : (i : ℕ) (behind stored : List ℕ) → (i % 8 == 1) ≡ true → stored_behind made_shape i behind stored ≡ behind
  stored_is i behind stored second = rw second refl

  first_of : (total more i : ℕ) (start next final : Between) → total ≡ suc more
      → unit_step common made_shape (made_segment init_type row) i start ≡ Ok next
      → next.units ≡ units_drawn items (i + 1) → Steps more (i + 1) next final → Steps total i start final
  first_of total more i start next final is step units steps =
      subst (λ (n : ℕ). Steps n i start final) (sym is) (next, step, units, steps)

  ends_either : (a b : Bool) → (a && b) ≡ true → (a && true) ≡ true
  ends_either true b e = refl
  ends_either false b e = e

  ends_segment : (e : Engine) → ends_rightly false e ≡ true → ends_rightly true e ≡ true
  ends_segment e right =
      ends_either (is_trailing e) _ right

  ends_row : (i : ℕ) (e : Engine) → i % 8 ≡ 7 → ends_rightly false e ≡ true → judged_end (end_behind i) e ≡ true
  unfolding end_behind
  ends_row i e last right =
      elim (cases_eq i 47) [
        | inl at ↦ rw at (ends_segment e right)
        | inr n ↦
            let a : (i == 47) ≡ false = grind (arith, nat_tests) in
            let b : (i % 8 == 7) ≡ true = rw last refl in
            rw (a, b) right
      ]

  goes_on : (i : ℕ) (e : Engine) → i < 47 → i % 8 < 7 → judged_end (end_behind i) e ≡ true
  unfolding end_behind
  goes_on i e small inside =
      let a : (i == 47) ≡ false = grind (arith, nat_tests) in
      let b : (i % 8 == 7) ≡ false = grind (arith, nat_tests) in
      rw (a, b) refl

  rest_read : (k i : ℕ) (start : Between) (last : Engine) (behind : List ℕ)
      → AreRows common init_type row items words contexts → 2 ≤ i % 8 → i % 8 + suc k ≡ 8 → i + suc k ≤ 48
      → start.units ≡ units_drawn items i → start.last ≡ 26
      → Has bin_at (start.engine, start.contexts) (row_words words i (suc k)) (last, behind)
      → ends_rightly false last ≡ true
      → Rest i k start
  unfolding row_words
  rest_read zero i start last behind are low whole inside is qp has right =
      let n : Next i start [] (last, behind) =
      unit_read i start [] (last, behind) are (omega arith) is qp has
      (λ s there. subst (λ (e : Engine). judged_end (end_behind i) e ≡ true) (sym (ap (λ (u : State). u.0) there))
      (ends_row i last (omega arith) right)) in
      let other : (i % 8 == 1) ≡ false = grind (arith, nat_tests) in
      record {
        after = n.next;
        units = n.units;
        stored =
            then_same n.next.stored (stored_behind made_shape i n.next.contexts start.stored) start.stored n.stored
            (stored_not i n.next.contexts start.stored other);
        steps = λ total more final is_total steps.
            first_of total more i start n.next final (omega arith)
            (inner_step i start n.next (omega arith) n.is) n.units steps;
      }
  rest_read (suc k) i start last behind are low whole inside is qp has right =
      let n : Next i start (row_words words (i + 1) (suc k)) (last, behind) =
      unit_read i start (row_words words (i + 1) (suc k)) (last, behind) are (omega arith) is qp has
      (λ s there. goes_on i s.0 (omega arith) (omega arith)) in
      let other : (i % 8 == 1) ≡ false = grind (arith, nat_tests) in
      let r : Rest (i + 1) k n.next =
      rest_read k (i + 1) n.next last behind are (omega arith) (omega arith) (omega arith) n.units n.last n.has right in
      let place : i + 1 + suc k ≡ i + suc (suc k) = omega arith in
      record {
        after = r.after;
        units = as_many r.after.units (i + 1 + suc k) (i + suc (suc k)) r.units place;
        stored =
            then_same r.after.stored n.next.stored start.stored r.stored
            (then_same n.next.stored (stored_behind made_shape i n.next.contexts start.stored) start.stored n.stored
            (stored_not i n.next.contexts start.stored other));
        steps = λ total more final is_total steps.
            first_of total (suc k + more) i start n.next final (omega arith)
            (inner_step i start n.next (omega arith) n.is) n.units
            (r.steps (suc k + more) more final refl
            (subst (λ (p : ℕ). Steps more p r.after final) (sym place) steps));
      }

  -- ---- a row

  or_true : (b : Bool) → (b || true) ≡ true
  or_true true = refl
  or_true false = refl

  -- the contexts before a row
  above_or_first : (r : ℕ) (between : Between) → AreRows common init_type row items words contexts → r < 6
      → (0 < r → between.stored ≡ contexts r)
      → contexts_before made_shape (made_segment init_type row) (8 * r) between ≡ contexts r
  unfolding contexts_before
  above_or_first zero between are few stored = sym are.first
  above_or_first (suc r) between are few stored =
      let z : (8 * suc r % 8 == 0) ≡ true = (let e : 8 * suc r % 8 ≡ 0 = omega arith in rw e refl) in
      let a : nat_le 8 (8 * suc r) ≡ true = le-leb 8 (8 * suc r) (omega arith) in
      let b : nat_le 0 (8 * suc r - 8 + 1) ≡ true = le-leb 0 (8 * suc r - 8 + 1) (omega arith) in
      rw (z, a, b) (stored (omega arith))

  qp_first : (r : ℕ) (between : Between) → qp_before made_shape (made_segment init_type row) (8 * r) between ≡ 26
  unfolding qp_before
  qp_first r between =
      let z : (8 * r % 8 == 0) ≡ true = (let e : 8 * r % 8 ≡ 0 = omega arith in rw e refl) in rw z refl

  row_there : (r : ℕ) → r < 6 → slice_index_or (map row (range_with_len 0 6)) r [] ≡ row r
  row_there r few = get_or-map-range_with_len row 0 6 r r [] few (omega arith)

  abbrev begun_row : ℕ → Between → Engine → Between
  begun_row r between engine = record {
    engine = engine;
    contexts = contexts r;
    stored = between.stored;
    last = 26;
    units = between.units;
  }

  row_begins : (r : ℕ) (between : Between) (first : Engine) → AreRows common init_type row items words contexts → r < 6
      → (0 < r → between.stored ≡ contexts r) → start_at (bits (row r)) ≡ Some first
      → before_unit made_shape (made_segment init_type row) (8 * r) between ≡ Ok (begun_row r between first)
  unfolding before_unit
  row_begins r between first are few stored starts =
      let z : (8 * r % 8 == 0) ≡ true = (let e : 8 * r % 8 ≡ 0 = omega arith in rw e refl) in
      let number : 8 * r / 8 - 0 / 8 ≡ r = omega arith in
      let there : slice_index_or (map row (range_with_len 0 6)) (8 * r / 8 - 0 / 8) [] ≡ row r =
      ap (λ k. slice_index_or (map row (range_with_len 0 6)) k []) number ∙ row_there r few in
      rw (z, or_true (8 * r == 0), there, starts, above_or_first r between are few stored, qp_first r between) refl

  begun_step : (i : ℕ) (between start next : Between)
      → before_unit made_shape (made_segment init_type row) i between ≡ Ok start
      → read_unit common made_shape (made_segment init_type row) i start ≡ Ok next
      → unit_step common made_shape (made_segment init_type row) i between ≡ Ok next
  begun_step i between start next begins is =
      ap (then_unit common made_shape (made_segment init_type row) i) begins ∙ is

  record Row (r : ℕ) (between : Between) : Type 0 where
    after : Between
    units : after.units ≡ units_drawn items (8 * r + 8)
    stored : after.stored ≡ contexts (suc r)
    steps : (total more : ℕ) (final : Between) → total ≡ 8 + more → Steps more (8 * r + 8) after final
        → Steps total (8 * r) between final

  row_read : (r : ℕ) (between : Between) → AreRows common init_type row items words contexts → r < 6
      → between.units ≡ units_drawn items (8 * r) → (0 < r → between.stored ≡ contexts r) → Row r between
  unfolding row_words
  row_read r between are few is stored =
      let i : ℕ = 8 * r in
      let h : HasWords (row r) (row_words words i 8) (contexts r) = are.has r few in
      let start : Between = begun_row r between h.first in
      let begins : before_unit made_shape (made_segment init_type row) i between ≡ Ok start =
      row_begins r between h.first are few stored h.started in
      let a : Next i start (row_words words (i + 1) 7) (h.last, h.behind) =
      unit_read i start (row_words words (i + 1) 7) (h.last, h.behind) are (omega arith) is refl h.has
      (λ s there. goes_on i s.0 (omega arith) (omega arith)) in
      let b : Next (i + 1) a.next (row_words words (i + 1 + 1) 6) (h.last, h.behind) =
      unit_read (i + 1) a.next (row_words words (i + 1 + 1) 6) (h.last, h.behind) are (omega arith) a.units a.last a.has
      (λ s there. goes_on (i + 1) s.0 (omega arith) (omega arith)) in
      let c : Rest (i + 1 + 1) 5 b.next =
      rest_read 5 (i + 1 + 1) b.next h.last h.behind are (omega arith) (omega arith) (omega arith) b.units b.last b.has
      h.ends in
      let step : unit_step common made_shape (made_segment init_type row) i between ≡ Ok a.next =
      begun_step i between start a.next begins a.is in
      let second : ((i + 1) % 8 == 1) ≡ true = (let e : (i + 1) % 8 ≡ 1 = omega arith in rw e refl) in
      let kept : b.next.stored ≡ b.next.contexts =
      then_same b.next.stored (stored_behind made_shape (i + 1) b.next.contexts a.next.stored) b.next.contexts b.stored
      (stored_is (i + 1) b.next.contexts a.next.stored second) in
      let two : Bins = words (i + 1) ++ flags_behind (i + 1) in
      let behind : List ℕ = contexts_behind two (contexts_behind (words i ++ flags_behind i) (contexts r)) in
      let changed : b.next.contexts ≡ behind =
      then_same b.next.contexts (contexts_behind two a.next.contexts) behind b.contexts_are
      (ap (contexts_behind two) a.contexts_are) in
      let place : i + 1 + 1 + 6 ≡ i + 8 = omega arith in
      record {
        after = c.after;
        units = as_many c.after.units (i + 1 + 1 + 6) (i + 8) c.units place;
        stored =
            then_same c.after.stored b.next.stored (contexts (suc r)) c.stored
            (then_same b.next.stored b.next.contexts (contexts (suc r)) kept
            (then_same b.next.contexts behind (contexts (suc r)) changed (sym (are.stored r few))));
        steps = λ total more final total_is steps.
            first_of total (7 + more) i between a.next final (omega arith) step a.units
            (first_of (7 + more) (6 + more) (i + 1) a.next b.next final (omega arith)
            (inner_step (i + 1) a.next b.next (omega arith) b.is) b.units
            (c.steps (6 + more) more final (omega arith)
            (subst (λ (p : ℕ). Steps more p c.after final) (sym place) steps)));
      }

  pub record Rows (n r : ℕ) (between : Between) : Type 0 where
    pub after : Between
    pub units : after.units ≡ units_drawn items 48
    pub steps : (total : ℕ) → total ≡ 8 * n → Steps total (8 * r) between after

  pub rows_read : (n r : ℕ) (between : Between) → AreRows common init_type row items words contexts → r + n ≡ 6
      → between.units ≡ units_drawn items (8 * r) → (0 < r → between.stored ≡ contexts r) → Rows n r between
  rows_read zero r between are whole is stored =
      let place : 8 * r ≡ 48 = omega arith in
      record {
        after = between;
        units = as_many between.units (8 * r) 48 is place;
        steps = λ total total_is. let none : 0 ≡ total = omega arith in
            subst (λ (k : ℕ). Steps k (8 * r) between between) none refl;
      }
  rows_read (suc n) r between are whole is stored =
      let a : Row r between = row_read r between are (omega arith) is stored in
      let place : 8 * r + 8 ≡ 8 * (r + 1) = omega arith in
      let next : suc r ≡ r + 1 = omega arith in
      let b : Rows n (r + 1) a.after =
      rows_read n (r + 1) a.after are (omega arith) (as_many a.after.units (8 * r + 8) (8 * (r + 1)) a.units place)
      (λ some. then_same a.after.stored (contexts (suc r)) (contexts (r + 1)) a.stored (ap contexts next)) in
      record {
        after = b.after;
        units = b.units;
        steps = λ total total_is.
            a.steps total (8 * n) b.after (omega arith)
            (subst (λ (p : ℕ). Steps (8 * n) p a.after b.after) (sym place) (b.steps (8 * n) refl));
      }
