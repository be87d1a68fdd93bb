-- A split and a join keep the rule, and it stands at the beginning.
use Rattle.std.proofs.Common.{◌≡◌, ◌≢◌, ◌⊎◌, ℕ, zero, suc, ◌+◌, ◌<◌, ◌≤◌, ◌||◌, List, [], ◌∷◌, ◌++◌, length, get_or}
use Rattle.std.proofs.Common.{set, max, map, Option, Some, None, Bool, true, false, refl, sym, ap, ◌∙◌, subst}
use Rattle.std.proofs.Common.{⊎_elim, inl, inr, arith, length-set, length-append}
use mathlib.Core.Option.{some, some-injective, some-ne-none}
use lib.ListN.{get_elem?}
use Rattle.atomic_table.specs.Table.{State, Splits, Joins, opening}
use Rattle.atomic_table.proofs.Lists.{at_set, at_snoc, set_here}
use Rattle.progress_words.specs.declared.view.View.{View}
use Rattle.progress_words.specs.Meanings.{Meaning, IsLaid, count_word, ticket_word, fault_word}
use Rattle.progress_words.specs.Faults.{no_fault}
use Rattle.progress_words.specs.Core.{count_in, fault_in}
use Rattle.progress_words.specs.Counts.{total}
use Rattle.progress_words.specs.Views.{opener, spent, kept_part, new_part, joined, live_by, ended_by, one_if}
use Rattle.progress_words.specs.Views.{is_live, is_ended, is_opener, splits_of, joins_of, HasEnded}
use Rattle.progress_words.specs.Rule.{Fits, IsHeld, IsOver, AreApart, Stands}
use Rattle.progress_words.proofs.Counts.{greater_at, total_set, total_snoc, total_two}
use Rattle.progress_words.proofs.Held.{each_set, held_set, held_or, apart_set, apart_same}
use Rattle.progress_words.proofs.Ends.{over_of}

pub job_is_none : (l : ℕ) → None ≡ Some l → ⊥
job_is_none l e = subst is_none e tt
  where
    is_none : Option ℕ → Type 0
    is_none None = Unit {0}
    is_none (Some x) = ⊥

no_more : (b : Bool) → one_if b ≡ 0 → b ≡ false
no_more true e = absurd (omega arith)
no_more false e = refl

is_one : (b : Bool) → b ≡ true → one_if b ≡ 1
is_one b e = ap one_if e

either_one : (b c : Bool) → one_if b + one_if c ≤ 1 → one_if (b || c) ≡ one_if b + one_if c
either_one true true h = absurd (omega arith)
either_one true false h = refl
either_one false c h = omega arith

module _ {F : Type 0} where
  pub some_is_none : (x : F) → Some x ≡ None → ⊥
  some_is_none x e = subst is_some e tt
    where
      is_some : Option F → Type 0
      is_some None = ⊥
      is_some (Some x) = Unit {0}

  -- where every other view counts 0, the total is that of one
  total_alone : (f : View F → ℕ) (vs : List (View F)) (id : ℕ) (v : View F) → get_elem? vs id ≡ some v
      → ((j : ℕ) (u : View F) → j ≢ id → get_elem? vs j ≡ some u → f u ≡ 0) → total f vs ≡ f v
  unfolding total
  total_alone f [] id v at others = absurd (some-ne-none v (sym at))
  total_alone f (x ∷ xs) zero v at others = let same : f x ≡ f v = ap f (some-injective x v at) in
      let rest = nothing xs (λ j u at_j. others (suc j) u (λ e. omega arith) at_j) in omega arith
    where
      nothing : (us : List (View F)) → ((j : ℕ) (u : View F) → get_elem? us j ≡ some u → f u ≡ 0) → total f us ≡ 0
      nothing [] each = refl
      nothing (y ∷ ys) each = let a = each 0 y refl in let b = nothing ys (λ j u at_j. each (suc j) u at_j) in
          omega arith
  total_alone f (x ∷ xs) (suc id) v at others = let a = others 0 x (λ e. omega arith) refl in
      let b = total_alone f xs id v at (λ j u other at_j. others (suc j) u (λ e. other (omega arith)) at_j) in
      omega arith

  pub none_left : (o : Option F) → live_by o ≡ 0 → o ≡ None
  none_left None e = refl
  none_left (Some f) e = absurd (omega arith)

  ended_both : (f g : F) (a b : Bool) → ended_by (Some f) a + ended_by (Some g) b ≤ ended_by (Some f) (a || b) + 1
  ended_both f g true true = omega arith
  ended_both f g true false = omega arith
  ended_both f g false true = omega arith
  ended_both f g false false = omega arith

  held_snoc : (vs : List (View F)) (u : View F) (l : ℕ) → IsHeld vs l → IsHeld (vs ++ u ∷ []) l
  held_snoc vs u l held = (
    held.0,
    (
      held.1.0,
      (
        Rattle.atomic_table.proofs.Lists.at_longer vs
            (u ∷ []) held.0 held.1.0 held.1.1.0,
        held.1.1.1,
      ),
    ),
  )

  -- a view without a job comes last
  apart_snoc : (vs : List (View F)) (u : View F) → u.job ≡ None → AreApart vs → AreApart (vs ++ u ∷ [])
  apart_snoc vs u free apart i j l x y at_i at_j has_i has_j =
      ⊎_elim
      (λ old_i. ⊎_elim
      (λ old_j. apart i j l x y old_i old_j has_i has_j)
      (λ (e : u ≡ y). absurd (job_is_none l (sym free ∙ (ap (λ (z : View F). z.job) e ∙ has_j))))
      (at_snoc vs u y j at_j))
      (λ (e : u ≡ x). absurd (job_is_none l (sym free ∙ (ap (λ (z : View F). z.job) e ∙ has_i))))
      (at_snoc vs u x i at_i)

module _ {F S : Type 0} (meaning : F → Meaning) (key : F) where
  -- only the first view counts splits
  pub splits_alone : (s : State S (View F)) → Stands meaning key s → (id : ℕ) (v : View F)
      → get_elem? s.views id ≡ some v → v.opens ≡ true → total splits_of s.views ≡ v.splits
  splits_alone s r id v at opens = total_alone splits_of s.views id v at (λ j u other at_j.
      let two = total_two is_opener s.views id j v u (λ e. other (sym e)) at at_j in let one = r.one in
      let mine = is_one v.opens opens in
      (r.fits j u at_j).splits (no_more u.opens (omega arith)))

  pub splits : (id : ℕ) (v : View F) → v.facts ≡ Some key → v.opens ≡ true → v.splits < 256
      → Splits {S = S} (Stands meaning key) id v (kept_part v) (new_part v)
  splits id v alive opens few s r at =
      let m : Meaning = meaning key in let w : View F = kept_part v in let u : View F = new_part v in
      let vs : List (View F) = set s.views id w in
      let fits = r.fits id v at in let alone = splits_alone s r id v at opens in
      let live = total_set is_live s.views id v w at in let live' = total_snoc is_live vs u in
      let one_live : is_live u ≡ 1 = ap live_by alive in
      let ended = total_set is_ended s.views id v w at in let ended' = total_snoc is_ended vs u in
      let openers = total_set is_opener s.views id v w at in let openers' = total_snoc is_opener vs u in
      let cut = total_set splits_of s.views id v w at in let cut' = total_snoc splits_of vs u in
      let glued = total_set joins_of s.views id v w at in let glued' = total_snoc joins_of vs u in
      let made = r.made in let left = r.left in let ticket = r.ticket in let one = r.one in
      let long = length-set s.views id w in let longer = length-append vs (u ∷ []) in
      let w_fits : Fits m key s.words w = record {
        facts = fits.facts;
        seen = fits.seen;
        least = fits.least;
        job = λ l has. let h = fits.job l has in record {
          line = h.line;
          drawn = h.drawn;
          count = h.count;
          written = h.written;
        };
        none = fits.none;
        spent = fits.spent;
        splits = λ e. absurd (Rattle.std.proofs.Common.true≢false (sym opens ∙ e));
      } in
      let u_fits : Fits m key s.words u = record {
        facts = fits.facts;
        seen = fits.seen;
        least = fits.least;
        job = λ l has. absurd (job_is_none l has);
        none = λ e. absurd (Rattle.std.proofs.Common.true≢false
            (sym e));
        spent = λ _. refl;
        splits = λ _. refl;
      } in
      let kept = each_set (λ _ x. Fits m key s.words x) s.views id w w_fits (λ j x _ at_j. r.fits j x at_j) in
      record {
        laid = r.laid;
        shown = r.shown;
        drawn = λ l a b. ⊎_elim (λ held. inl (held_snoc vs u l (held_set s.views id v w l at (λ has. has) held)))
            (λ full. inr full) (r.drawn l a b);
        fits = λ j x at_j. ⊎_elim (λ old. kept j x old) (λ e. subst
            (λ (y : View F). Fits m key s.words y) e u_fits) (at_snoc vs u x j at_j);
        apart = apart_snoc vs u refl (apart_same s.views id v w at refl r.apart);
        ticket = omega arith;
        made = omega arith;
        left = omega arith;
        one = omega arith;
        few = omega arith;
      }

  pub joins : (id : ℕ) (v : View F) (other : ℕ) (u : View F) → v.facts ≡ Some key → u.facts ≡ Some key
      → HasEnded (meaning key) v → HasEnded (meaning key) u
      → Joins {S = S} (Stands meaning key) id v other u (joined v u) spent
  joins id v other u alive alive' ended_v ended_u s r at two at' =
      let m : Meaning = meaning key in let w : View F = joined v u in let d : View F = spent in
      let vs : List (View F) = set s.views id w in
      let was : get_elem? s.views other ≡ some u = ⊎_elim (λ x. absurd (two x.0))
      (λ x. x.1) (at_set s.views id other w u at') in
      let fits = r.fits id v at in let fits' = r.fits other u was in
      let live = total_set is_live s.views id v w at in let live' = total_set is_live vs other u d at' in
      let live_u : is_live u ≡ 1 = ap live_by alive' in
      let ended = total_set is_ended s.views id v w at in let ended' = total_set is_ended vs other u d at' in
      let ended_is : is_ended w ≡ ended_by (Some key) (v.none || u.none) = ap
      (λ (o : Option F). ended_by o (v.none || u.none)) alive in
      let ended_v_is : is_ended v ≡ ended_by (Some key) v.none = ap (λ (o : Option F). ended_by o v.none) alive in
      let ended_u_is : is_ended u ≡ ended_by (Some key) u.none = ap (λ (o : Option F). ended_by o u.none) alive' in
      let ended_two = ended_both key key v.none u.none in
      let openers = total_set is_opener s.views id v w at in let openers' = total_set is_opener vs other u d at' in
      let pair = total_two is_opener s.views id other v u (λ e. two (sym e)) at was in let one = r.one in
      let opener_is = either_one v.opens u.opens (omega arith) in
      let cut = total_set splits_of s.views id v w at in let cut' = total_set splits_of vs other u d at' in
      let glued = total_set joins_of s.views id v w at in let glued' = total_set joins_of vs other u d at' in
      let made = r.made in let left = r.left in let ticket = r.ticket in let few = r.few in
      let over_v : (l : ℕ) → v.job ≡ Some l → IsOver m s.words l = over_of m key s.words r.shown v fits ended_v in
      let over_u : (l : ℕ) → u.job ≡ Some l → IsOver m s.words l = over_of m key s.words r.shown u fits' ended_u in
      let w_fits : Fits m key s.words w = record {
        facts = fits.facts;
        seen = λ l a. let x = greater_at v.seen u.seen l in let y = fits.seen l a in let z = fits'.seen l a in
            omega arith;
        least = let x = fits.least in let y = fits'.least in omega arith;
        job = λ l has. absurd (job_is_none l has);
        none = λ has. either_none v.none u.none has fits.none fits'.none;
        spent = λ _. refl;
        splits = λ has. let e : one_if (v.opens || u.opens) ≡ 0 = ap one_if has in
            let a = fits.splits (no_more v.opens (omega arith)) in
            let b = fits'.splits (no_more u.opens (omega arith)) in omega arith;
      } in
      let d_fits : Fits m key s.words d = record {
        facts = λ f e. absurd (some_is_none f (sym e));
        seen = λ l a. omega arith;
        least = r.shown.small;
        job = λ l has. absurd (job_is_none l has);
        none = λ e. absurd (Rattle.std.proofs.Common.true≢false (sym e));
        spent = λ _. refl;
        splits = λ _. refl;
      } in
      record {
        laid = r.laid;
        shown = r.shown;
        drawn = λ l a b. ⊎_elim
            (λ held. ⊎_elim
            (λ held'. ⊎_elim (λ held''. inl held'') (λ has. inr (over_u l has)) (held_or vs other u d l at' held'))
            (λ has. inr (over_v l has))
            (held_or s.views id v w l at held))
            (λ full. inr full)
            (r.drawn l a b);
        fits = each_set (λ _ x. Fits m key s.words x) vs other d d_fits (λ j x _ at_j. each_set
            (λ _ y. Fits m key s.words y) s.views id w w_fits (λ i y _ at_i. r.fits i y at_i) j x at_j);
        apart = apart_set vs other d (apart_set s.views id w r.apart (λ j l x _ _ has _. job_is_none l has))
            (λ j l x _ _ has _. job_is_none l has);
        ticket = omega arith;
        made = length-set vs other d ∙ (length-set s.views id w ∙ omega arith);
        left = omega arith;
        one = omega arith;
        few = omega arith;
      }
    where
      either_none : {P : Type 0} (b c : Bool) → (b || c) ≡ true → (b ≡ true → P) → (c ≡ true → P) → P
      either_none true c e f g = f refl
      either_none false c e f g = g e

  -- a table of zeros in which the fault word is none
  pub opens : (words : List ℕ) (xs : List S) → IsLaid (meaning key) → length words ≡ (meaning key).total
      → ((i : ℕ) → i ≢ fault_word (meaning key) → get_or words i 0 ≡ 0) → fault_in (meaning key) words ≡ no_fault
      → Stands meaning key (opening words xs (opener key))
  unfolding total
  opens words xs laid room zeros none_ =
      let m : Meaning = meaning key in
      let empty : (l : ℕ) → l < m.lines → count_in words l ≡ 0 = λ l a. zeros (count_word l) (λ e. omega arith) in
      let nothing : (l k : ℕ) → l < m.lines → k < count_in words l → ⊥ = λ l k a below. let z = empty l a in
      absurd (omega arith) in
      let ticket : get_or words (ticket_word m) 0 ≡ 0 = zeros (ticket_word m) (λ e. omega arith) in
      record {
        laid = laid;
        shown = record {
          reached = record {
            events = [];
            ready = tt;
            counts = λ l a. sym (empty l a);
            drawn = omega arith;
            least = sym none_;
          };
          room = room;
          counts = λ l a. let z = empty l a in omega arith;
          sound = λ l k a below. absurd (nothing l k a below);
          met = λ l k a below. absurd (nothing l k a below);
          words_are = λ w here below. absurd (nothing (m.owner w).line (m.owner w).unit (laid.inside w here).0 below);
          idle = λ l a late. empty l a;
          fault = inl none_;
          small = omega arith;
        };
        drawn = λ l a below. absurd (omega arith);
        fits = λ i v at. one_view i v at;
        apart = λ i j l v u at_i at_j has_i has_j. absurd (no_job i v l at_i has_i);
        ticket = omega arith;
        made = refl;
        left = refl;
        one = refl;
        few = omega arith;
      }
    where
      one_view : (i : ℕ) (v : View F) → get_elem? (opener key ∷ []) i ≡ some v → Fits (meaning key) key words v
      one_view zero v at = subst (λ (x : View F). Fits (meaning key) key words x) (some-injective _ v at) (record {
        facts = λ f e. sym (the_same f e);
        seen = λ l a. omega arith;
        least = omega arith;
        job = λ l has. absurd (job_is_none l has);
        none = λ e. absurd (Rattle.std.proofs.Common.true≢false (sym e));
        spent = λ _. refl;
        splits = λ _. refl;
      })
        where
          or_key : Option F → F
          or_key None = key
          or_key (Some f) = f

          the_same : (f : F) → Some key ≡ Some f → key ≡ f
          the_same f e = ap or_key e
      one_view (suc i) v at = absurd (some-ne-none v (sym at))

      no_job : (i : ℕ) (v : View F) (l : ℕ) → get_elem? (opener key ∷ []) i ≡ some v → v.job ≡ Some l → ⊥
      no_job zero v l at has = job_is_none l (ap (λ (x : View F). x.job) (some-injective _ v at) ∙ has)
      no_job (suc i) v l at has = absurd (some-ne-none v (sym at))
