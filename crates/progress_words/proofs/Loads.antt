-- The kinds of load keep the rule.
use Rattle.std.proofs.Common.{◌≡◌, ℕ, ◌<◌, ◌≤◌, List, get_or, set, Some}
use Rattle.std.proofs.Common.{refl, sym, ap, ◌∙◌, subst, ⊎_elim, inl, inr, arith, true}
use mathlib.Core.Logic.{dite}
use mathlib.Core.Option.{some, none}
use native.Mathlib.Decide.{ℕ_discrete}
use lib.ListN.{get_elem?}
use lib.Seq.{set-get_or}
use Rattle.atomic_table.specs.Table.{State, Me, step, keeps, Allows}
use Rattle.progress_words.specs.declared.view.View.{View}
use Rattle.progress_words.specs.Meanings.{Meaning, IsData, count_word, fault_word}
use Rattle.progress_words.specs.Counts.{put}
use Rattle.progress_words.specs.Faults.{IsFault}
use Rattle.progress_words.specs.Core.{count_in, fault_in}
use Rattle.progress_words.specs.Views.{seen_of, looking, checking, is_ended, ended_by, AllSound}
use Rattle.progress_words.specs.Rule.{Fits, Stands}
use Rattle.progress_words.specs.Steps.{looked, read, checked}
use Rattle.progress_words.proofs.Counts.{put_same, put_other}
use Rattle.progress_words.proofs.Held.{held_set, apart_same}
use Rattle.progress_words.proofs.Changes.{IsAs, changed}

-- what was seen of each line is at most the line's count, and the line that was loaded is seen whole
saw : (count : ℕ → ℕ) (xs : List ℕ) (l j : ℕ) → get_or xs j 0 ≤ count j → get_or (put xs l (count l)) j 0 ≤ count j
saw count xs l j le =
    dite (ℕ_discrete j l)
    (λ e. let same = put_same xs l (count l) in subst
    (λ (x : ℕ). get_or (put xs l (count l)) x 0 ≤ count x) (sym e) (omega arith))
    (λ ne. let same = put_other xs l (count l) j ne in omega arith)

saw_all : (count : ℕ → ℕ) (xs : List ℕ) (l j : ℕ) → count j ≡ get_or xs j 0 → count j ≡ get_or (put xs l (count l)) j 0
saw_all count xs l j is =
    dite (ℕ_discrete j l)
    (λ e. let same = put_same xs l (count l) in subst
    (λ (x : ℕ). count x ≡ get_or (put xs l (count l)) x 0) (sym e) (sym same))
    (λ ne. is ∙ sym (put_other xs l (count l) j ne))

pub line_is : (l j word : ℕ) → word ≡ count_word l → word ≡ count_word j → l ≡ j
line_is l j word is also_ = omega arith

module _ {F : Type 0} (m : Meaning) (key : F) where
  sees : (words : List ℕ) (v : View F) (l : ℕ) → Fits m key words v → Fits m key words (looking v l (count_in words l))
  sees words v l fits = record {
    facts = fits.facts;
    seen = λ j inside. saw (count_in words) v.seen l j (fits.seen j inside);
    least = fits.least;
    job = λ j has. let h = fits.job j has in record {
      line = h.line;
      drawn = h.drawn;
      count = saw_all (count_in words) v.seen l j h.count;
      written = h.written;
    };
    none = fits.none;
    spent = fits.spent;
    splits = fits.splits;
  }

  checks : (words : List ℕ) (v : View F) → Fits m key words v → Fits m key words (checking v (fault_in m words))
  checks words v fits = record {
    facts = fits.facts;
    seen = fits.seen;
    least = omega arith;
    job = λ j has. let h = fits.job j has in record {
      line = h.line;
      drawn = h.drawn;
      count = h.count;
      written = h.written;
    };
    none = fits.none;
    spent = fits.spent;
    splits = fits.splits;
  }

module _ {F S : Type 0} (meaning : F → Meaning) (key : F) where
  -- a view that a load changes, and no word
  loaded : (s : State S (View F)) → Stands meaning key s → (id : ℕ) (v w : View F) → get_elem? s.views id ≡ some v
      → IsAs v w → w.job ≡ v.job → w.none ≡ v.none → Fits (meaning key) key s.words w → (word : ℕ)
      → Stands meaning key (record {
        words = set s.words word (get_or s.words word 0);
        homes = s.homes;
        views = set s.views id w;
      })
  loaded s r id v w at as_ job none_ mine word =
      let now = r.ticket in
      subst (λ (ws : List ℕ). Stands meaning key (record {
        words = ws;
        homes = s.homes;
        views = set s.views id w;
      })) (sym (set-get_or s.words word 0))
      (changed meaning key s r s.words id v w at as_ r.shown
      (λ j a b. ⊎_elim (λ held. inl (held_set s.views id v w j at (λ has. job ∙ has) held))
      (λ over. inr over) (r.drawn j a b))
      mine (λ j u _ at_j. r.fits j u at_j)
      (apart_same s.views id v w at job r.apart)
      (let same : is_ended w ≡ is_ended v = λ i. ended_by (as_.facts i) (none_ i) in omega arith))

  pub loads_line : (slots id : ℕ) (me : Me S (View F)) (l word : ℕ) → l < (meaning key).lines → word ≡ count_word l
      → Allows (Stands meaning key) slots id me word (λ n. n) (looked meaning (step slots word 0 0 none) me)
  loads_line slots id me l word inside is_word s r long at small =
      let v : View F = me.0 in let n : ℕ = get_or s.words word 0 in
      let found : n ≡ count_in s.words l = ap (λ (x : ℕ). get_or s.words x 0) is_word in
      let w : View F = looking v l n in let fits = r.fits id v at in let left : Me S (View F) = (w, me.1) in
      let told : ℕ → Me S (View F) = λ x. (looking v x n, me.1) in (
        w,
        keeps,
        tt,
        loaded s r id v w at (record {
          facts = refl;
          opens = refl;
          splits = refl;
          joins = refl;
        }) refl refl (subst (λ (x : ℕ). Fits (meaning key) key s.words (looking v l x)) (sym found)
            (sees (meaning key) key s.words v l fits)) word,
        λ j also_. subst
            (λ (x : ℕ). (left ≡ told x) × (seen_of v x ≤ n) × (v.job ≡ Some x → n ≡ seen_of v x)
            × ((f : F) → v.facts ≡ Some f → AllSound (meaning f) x n))
            (line_is l j word is_word also_) (
              refl,
              (let seen = fits.seen l inside in omega arith),
              (λ has. found ∙ (fits.job l has).count),
              λ f is k below. subst (λ (x : F). (meaning x).sound l k ≡ true) (sym
                  (fits.facts f is)) (r.shown.sound l k inside (omega arith)),
            ),
      )

  pub loads_word : (slots id : ℕ) (me : Me S (View F)) (w : ℕ) → me.0.facts ≡ Some key → IsData (meaning key) w
      → (((meaning key).owner w).unit < seen_of me.0 ((meaning key).owner w).line)
      → Allows (Stands meaning key) slots id me w (λ n. n) (read meaning (step slots w 0 0 none) me)
  loads_word slots id me w is here seen s r long at small =
      let v : View F = me.0 in let fits = r.fits id v at in let o = r.laid.inside w here in
      let line : ℕ = ((meaning key).owner w).line in let at_least = fits.seen line o.0 in (
        v,
        keeps,
        tt,
        loaded s r id v v at (record {
          facts = refl;
          opens = refl;
          splits = refl;
          joins = refl;
        }) refl refl fits w,
        (
          refl,
          λ f has. subst (λ (x : F). get_or s.words w 0 ≡ (meaning x).expected w) (sym (fits.facts f has))
              (r.shown.words_are w here (omega arith)),
        ),
      )

  pub loads_fault : (slots id : ℕ) (me : Me S (View F)) (word : ℕ) → word ≡ fault_word (meaning key)
      → Allows (Stands meaning key) slots id me word (λ n. n) (checked meaning (step slots word 0 0 none) me)
  loads_fault slots id me word is s r long at small =
      let v : View F = me.0 in let n : ℕ = get_or s.words word 0 in let w : View F = checking v n in
      let fits = r.fits id v at in
      let found : n ≡ fault_in (meaning key) s.words = ap (λ (x : ℕ). get_or s.words x 0) is in (
        w,
        keeps,
        tt,
        loaded s r id v w at (record {
          facts = refl;
          opens = refl;
          splits = refl;
          joins = refl;
        }) refl refl (subst (λ (x : ℕ). Fits (meaning key) key s.words (checking v x)) (sym found)
            (checks (meaning key) key s.words v fits)) word,
        (
          refl,
          (let least = fits.least in omega arith),
          λ f has. subst (λ (x : F). IsFault (meaning x) n) (sym (fits.facts f has))
              (subst (λ (x : ℕ). IsFault (meaning key) x) (sym found) r.shown.fault),
        ),
      )
