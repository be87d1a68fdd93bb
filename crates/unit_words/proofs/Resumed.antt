-- What goes on from row to row is taken out of its words as it was put in.
use Rattle.std.proofs.Common.{◌≡◌, ℕ, ◌-◌, ◌*◌, ◌<◌, Bool, true, false, cond}
use Rattle.std.proofs.Common.{nat_lt, ◌+◌, List, length, slice_index, ap, sym, ◌∙◌, arith}
use Rattle.std.proofs.Common.{length-drop, refl, subst}
use Rattle.std.specs.Int.{w64, from_le_bytes}
use Rattle.std.specs.List.{All}
use Rattle.std.proofs.lemmas.Bool.{false≢true, le-ltb, lt-ltb, true≢false}
use Rattle.std.proofs.lemmas.List.{get_or_default, same_lists}
use Rattle.std.proofs.lemmas.List.FromFn.{length-map-range_with_len}
use Rattle.spec_bits.proofs.Places.{length-bits}
use Rattle.unit_trees.specs.SpecCabac.{Engine}
use Rattle.unit_trees.specs.CabacContexts.{eight_from, packed, unpacked}
use Rattle.unit_trees.proofs.CabacContextsLemmas.{round_trip}
use Rattle.unit_trees.specs.declared.units.UnitReader.{UnitReader}
use Rattle.sample_words.specs.Carried.{carried_word}
use Rattle.sample_words.specs.declared.carry.Carry.{Carry}
use Rattle.unit_words.specs.Above.{AreContexts, AreOfCarry, MayResume, ReadsOn}
use Rattle.unit_words.specs.Work.{carry_behind}

pub contexts_found : (words contexts : List ℕ) → AreContexts contexts → words ≡ packed contexts
    → unpacked words ≡ contexts
contexts_found words contexts are is = ap unpacked is ∙ round_trip contexts are.count are.small

pub may_be_resumed : (bytes : List ℕ) (reader : UnitReader) → ReadsOn bytes reader
    → MayResume bytes (carry_behind reader)
may_be_resumed bytes reader reads =
    let e = reader.bins.interval in
    let size : length e.bits ≡ 8 * length bytes = ap length reads.bits ∙ length-bits bytes in
    record {
      low = reads.live.low;
      high = reads.live.high;
      below = reads.live.below;
      left = omega (arith, size, length-drop e.at e.bits);
      contexts = subst (All (λ value. value < 126))
          (sym (contexts_found (packed reader.bins.contexts) reader.bins.contexts reads.contexts refl))
          reads.contexts.small;
    }

abbrev made : Engine → List ℕ → ℕ → UnitReader
made interval contexts last = record { bins = record { interval = interval; contexts = contexts }; last = last }

pub resumed : (carry : Carry) (interval : Engine) (contexts : List ℕ) (reader : UnitReader)
    → AreContexts reader.bins.contexts → carry ≡ carry_behind reader → interval ≡ reader.bins.interval
    → contexts ≡ unpacked carry.contexts → made interval contexts carry.last ≡ reader
resumed carry interval contexts reader are e i k =
    let found : contexts ≡ reader.bins.contexts =
    k ∙ contexts_found carry.contexts reader.bins.contexts are (ap (λ (c : Carry). c.contexts) e) in
    ap (λ (n : Engine). made n contexts carry.last) i
    ∙ ap (λ (xs : List ℕ). made reader.bins.interval xs carry.last) found
    ∙ ap (made reader.bins.interval reader.bins.contexts) (ap (λ (c : Carry). c.last) e)

-- what has the same words is the same
by_test : {X : Type 0} (test : Bool) (x y z w : X) → test ≡ true → cond test x y ≡ cond test z w → x ≡ z
by_test true x y z w is e = e
by_test false x y z w is e = absurd (false≢true is)

by_other : {X : Type 0} (test : Bool) (x y z w : X) → test ≡ false → cond test x y ≡ cond test z w → y ≡ w
by_other true x y z w is e = absurd (true≢false is)
by_other false x y z w is e = e

state_word : (a b : Carry) (k : ℕ) → k < 3 → carried_word a k ≡ carried_word b k
    → slice_index a.state k ≡ slice_index b.state k
state_word a b k below e = by_test (nat_lt k 3) _ _ _ _ (lt-ltb k 3 below) e

context_word : (a b : Carry) (k : ℕ) → k < 20 → carried_word a (3 + k) ≡ carried_word b (3 + k)
    → slice_index a.contexts (3 + k - 3) ≡ slice_index b.contexts (3 + k - 3)
context_word a b k below e =
    by_test (nat_lt (3 + k) 23) _ _ _ _ (lt-ltb (3 + k) 23 (omega arith))
    (by_other (nat_lt (3 + k) 3) _ _ _ _ (le-ltb (3 + k) 3 (omega arith)) e)

same_words : (xs ys : List ℕ) (n : ℕ) → length xs ≡ n → length ys ≡ n
    → ((k : ℕ) → k < n → slice_index xs k ≡ slice_index ys k) → xs ≡ ys
same_words xs ys n a b same =
    same_lists xs ys (a ∙ sym b) (λ k d h.
    let lx : k < n = omega arith in
    let ly : k < length ys = omega arith in
    get_or_default xs k d 0 h ∙ same k lx ∙ sym (get_or_default ys k d 0 ly))

abbrev carry_of : List ℕ → List ℕ → ℕ → Carry
carry_of state contexts last = record { state = state; contexts = contexts; last = last }

pub carry_found : (a b : Carry) → length a.state ≡ 3 → length a.contexts ≡ 20 → length b.state ≡ 3
    → length b.contexts ≡ 20 → ((k : ℕ) → k < 24 → carried_word a k ≡ carried_word b k) → a ≡ b
carry_found a b sa ca sb cb same =
    let state : a.state ≡ b.state =
    same_words a.state b.state 3 sa sb (λ k h. state_word a b k h (same k (omega arith))) in
    let contexts : a.contexts ≡ b.contexts =
    same_words a.contexts b.contexts 20 ca cb (λ k h.
    let e : 3 + k - 3 ≡ k = omega arith in
    ap (slice_index a.contexts) (sym e) ∙ context_word a b k h (same (3 + k) (omega arith))
    ∙ ap (slice_index b.contexts) e) in
    ap (λ (xs : List ℕ). carry_of xs a.contexts a.last) state
    ∙ ap (λ (xs : List ℕ). carry_of b.state xs a.last) contexts
    ∙ ap (carry_of b.state b.contexts) (same 23 (omega arith))

twenty_words : (contexts : List ℕ) → length (packed contexts) ≡ 20
unfolding packed
twenty_words contexts = length-map-range_with_len (λ k. from_le_bytes w64 (eight_from contexts (8 * k))) 0 20

pub of_carry : (words : List ℕ) (reader : UnitReader)
    → ((k : ℕ) → k < 24 → slice_index words k ≡ carried_word (carry_behind reader) k)
    → AreOfCarry words (carry_behind reader)
of_carry words reader each = record {
  state = refl;
  contexts = twenty_words reader.bins.contexts;
  each = each;
}
