-- The rule at the end: the first view, once it has joined all that it split and a draw gave none.
use Rattle.std.proofs.Common.{◌≡◌, ℕ, ◌<◌, List, get_or, Option, Some, None, true, refl}
use Rattle.std.proofs.Common.{sym, ap, ◌∙◌, subst, ⊎_elim, inl, inr, arith}
use mathlib.Core.Logic.{dite}
use mathlib.Core.Option.{some, some-injective}
use native.Mathlib.Decide.{ℕ_discrete, dec_le}
use lib.ListN.{get_elem?}
use Rattle.atomic_table.specs.Table.{State}
use Rattle.progress_words.specs.declared.view.View.{View}
use Rattle.progress_words.specs.Meanings.{Meaning, IsData, IsLawful}
use Rattle.progress_words.specs.Faults.{unit_in, IsLeast, IsFirstFault}
use Rattle.progress_words.specs.Core.{count_in, fault_in, IsReached}
use Rattle.progress_words.specs.Views.{live_by, is_live, joins_of, HasEnded}
use Rattle.progress_words.specs.Rule.{IsHeld, IsOver, Stands}
use Rattle.progress_words.proofs.Counts.{total_at, total_two}
use Rattle.progress_words.proofs.Ends.{over_of}
use Rattle.progress_words.proofs.Joins.{job_is_none, none_left, splits_alone}

-- what is left at the end
pub record EndsWell (m : Meaning) (words : List ℕ) : Type 0 where
  pub reached : IsReached m words
  pub fault : IsFirstFault m (fault_in m words)
  pub counted : (l k : ℕ) → l < m.lines → k < m.width l → m.number l k < unit_in (fault_in m words)
      → k < count_in words l
  pub words_are : (w : ℕ) → IsData m w → m.number (m.owner w).line (m.owner w).unit < unit_in (fault_in m words)
      → get_or words w 0 ≡ m.expected w

no_rule : (o : Option ℕ) → ((r : ℕ) → o ≡ Some r → ⊥) → o ≡ None
no_rule None none_ = refl
no_rule (Some r) none_ = absurd (none_ r refl)

module _ {F S : Type 0} (meaning : F → Meaning) (key : F) (lawful : IsLawful (meaning key)) (s : State S (View F))
    (r : Stands meaning key s) (id : ℕ) (v : View F) (at : get_elem? s.views id ≡ some v) (alive : v.facts ≡ Some key)
    (opens : v.opens ≡ true) (whole : v.joins ≡ v.splits) (none_ : v.none ≡ true)
    (ended : HasEnded (meaning key) v) where
  abbrev m : Meaning
  m = meaning key

  -- every other view is spent
  over_held : (l : ℕ) → IsHeld s.views l → IsOver m s.words l
  over_held l held =
      let i : ℕ = held.0 in let u : View F = held.1.0 in
      let alone = splits_alone meaning key s r id v at opens in let left = r.left in
      let mine = total_at joins_of s.views id v at in let live_v : is_live v ≡ 1 = ap live_by alive in
      dite (ℕ_discrete i id)
      (λ e. let is : v ≡ u = some-injective v u (sym at ∙ (ap (get_elem? s.views) (sym e) ∙ held.1.1.0)) in
      over_of m key s.words r.shown v (r.fits id v at) ended l (ap (λ (y : View F). y.job) is ∙ held.1.1.1))
      (λ ne. let two = total_two is_live s.views id i v u (λ e. ne (sym e)) at held.1.1.0 in
      let dead = none_left u.facts (omega arith) in
      absurd (job_is_none l (sym ((r.fits i u held.1.1.0).spent dead) ∙ held.1.1.1)))

  -- each line is over
  over : (l : ℕ) → l < m.lines → IsOver m s.words l
  over l inside = let all_drawn = (r.fits id v at).none none_ in let there = (r.laid.ticketed l inside).0 in
      ⊎_elim (λ held. over_held l held) (λ done. done) (r.drawn l inside (omega arith))

  -- each unit before the fault word is counted
  counted : (l k : ℕ) → l < m.lines → k < m.width l → m.number l k < unit_in (fault_in m s.words)
      → k < count_in s.words l
  counted l k inside below before =
      ⊎_elim
      (λ full. omega arith)
      (λ stopped. dite (dec_le (count_in s.words l) k)
      (λ le. absurd (let more = r.laid.ordered l (count_in s.words l) k inside le below in omega arith))
      (λ less. omega arith))
      (over l inside)

  words_are : (w : ℕ) → IsData m w → m.number (m.owner w).line (m.owner w).unit < unit_in (fault_in m s.words)
      → get_or s.words w 0 ≡ m.expected w
  words_are w here before = let o = r.laid.inside w here in
      r.shown.words_are w here (counted (m.owner w).line (m.owner w).unit o.0 o.1 before)

  -- no unit before the fault word is bad
  none_before : (l k rule : ℕ) → m.bad l k ≡ Some rule → m.number l k < unit_in (fault_in m s.words) → ⊥
  none_before l k rule bad before =
      let in_ = lawful.inside l k rule bad in
      job_is_none rule (sym (lawful.apart l k (r.shown.sound l k in_.0 (counted l k in_.0 in_.1 before))) ∙ bad)

  least : IsLeast m (fault_in m s.words)
  least l k rule bad =
      dite (dec_le (unit_in (fault_in m s.words)) (m.number l k)) (λ le. le)
      (λ less. absurd (none_before l k rule bad (omega arith)))

  first_fault : IsFirstFault m (fault_in m s.words)
  first_fault =
      ⊎_elim
      (λ none. inl (
        none,
        λ l k. no_rule (m.bad l k) (λ rule bad. let in_ = lawful.inside l k rule bad in
            let small = r.laid.few l k in_.0 in_.1 in
            let least_unit : unit_in (fault_in m s.words) ≡ 576460752303423487 = ap unit_in none in
            none_before l k rule bad (omega arith)),
      ))
      (λ names. inr (names, least))
      r.shown.fault

  pub ends_well : (words : List ℕ) → s.words ≡ words → EndsWell m words
  ends_well words is =
      subst (λ (ws : List ℕ). EndsWell m ws) is (record {
        reached = r.shown.reached;
        fault = first_fault;
        counted = counted;
        words_are = words_are;
      })
