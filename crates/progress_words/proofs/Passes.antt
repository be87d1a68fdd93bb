-- The count that a pass keeps of the line that it holds.
use Rattle.std.proofs.Common.{◌≡◌, ◌⊎◌, inl, inr, ℕ, ◌+◌, ◌≤◌, get_or, Option, Some, None, refl, sym, ap, ◌∙◌}
use Rattle.std.proofs.Common.{subst, arith}
use mathlib.Core.Logic.{dite}
use native.Mathlib.Decide.{ℕ_discrete}
use Rattle.progress_words.specs.declared.view.View.{View}
use Rattle.progress_words.specs.declared.waiting.Waited.{Waited}
use Rattle.progress_words.specs.declared.waiting.Waited.TheVariants.{Ready, Stopped}
use Rattle.progress_words.specs.Counts.{put}
use Rattle.progress_words.specs.Views.{seen_of, loads_of, looking, counting, checking, stopping, count_by, count_held}
use Rattle.progress_words.specs.Passes.{HasLooked, HasStopped}
use Rattle.progress_words.proofs.Counts.{put_same, put_other}

pub not_stopped : Ready ≡ Stopped → ⊥
not_stopped e = subst is_ready e tt
  where
    is_ready : Waited → Type 0
    is_ready Ready = Unit {0}
    is_ready Stopped = ⊥

pub not_ready : Stopped ≡ Ready → ⊥
not_ready e = not_stopped (sym e)

module _ {F : Type 0} (v : View F) (l n : ℕ) where
  kept_by : (o : Option ℕ) → (o ≡ Some l → n ≡ seen_of v l) → count_by o v ≡ count_by o (looking v l n)
  kept_by None same = refl
  kept_by (Some j) same =
      dite (ℕ_discrete j l)
      (λ e. subst (λ (x : ℕ). get_or v.seen x 0 ≡ get_or (put v.seen l n) x 0) (sym e) (sym (put_same v.seen l n
      ∙ same (ap (λ (x : ℕ). Some x) e))))
      (λ ne. sym (put_other v.seen l n j ne))

  -- a load of any line leaves the count as it was
  pub count_kept : (v.job ≡ Some l → n ≡ seen_of v l) → count_held v ≡ count_held (looking v l n)
  count_kept same = kept_by v.job same

  -- it is the line's count, and after `advance` the new one
  pub count_is : v.job ≡ Some l → count_held v ≡ seen_of v l
  count_is has = ap (λ (o : Option ℕ). count_by o v) has

  pub count_after : v.job ≡ Some l → count_held (counting v l n) ≡ n
  count_after has = ap (λ (o : Option ℕ). count_by o (counting v l n)) has ∙ put_same v.seen l n

  -- the view after `advance`, at a number that is the line's count
  pub counting_is : (k : ℕ) → k ≡ seen_of v l → counting v l (k + 1) ≡ counting v l (seen_of v l + 1)
  counting_is k e = ap (λ (x : ℕ). counting v l (x + 1)) e

  pub seen_now : seen_of (looking v l n) l ≡ n
  seen_now = put_same v.seen l n

  pub looks_once : seen_of v l ≤ n → HasLooked v l (looking v l n)
  looks_once more =
      let s = put_same v.seen l n in let t = put_same v.loads l (loads_of v l + 1) in
      record {
        same = refl;
        more = omega arith;
        less = omega arith;
        loaded = omega arith;
        checked = omega arith;
        others = λ j ne. (put_other v.seen l n j ne, put_other v.loads l (loads_of v l + 1) j ne);
      }

  -- one more load
  pub looks_again : (u : View F) → (u ≡ v) ⊎ HasLooked v l u → seen_of u l ≤ n → HasLooked v l (looking u l n)
  looks_again u (inl same) more = subst (λ (x : View F). HasLooked v l (looking x l n)) (sym same) (looks_once (subst
      (λ (x : View F). seen_of x l ≤ n) same more))
  looks_again u (inr w) more =
      let s = put_same u.seen l n in let t = put_same u.loads l (loads_of u l + 1) in let a = w.more in
      let b = w.loaded in
      record {
        same = λ i. looking (w.same i) l n;
        more = omega arith;
        less = w.less;
        loaded = omega arith;
        checked = w.checked;
        others = λ j ne. let o = w.others j ne in (
          put_other u.seen l n j ne
              ∙ o.0,
          put_other u.loads l (loads_of u l + 1) j ne ∙ o.1,
        );
      }

  -- and one of the fault word
  pub checks_again : (u : View F) (x : ℕ) → HasLooked v l u → x ≤ u.least → HasLooked v l (checking u x)
  checks_again u x w lower =
      let a = w.less in let b = w.checked in
      record {
        same = λ i. checking (w.same i) x;
        more = w.more;
        less = omega arith;
        loaded = w.loaded;
        checked = omega arith;
        others = w.others;
      }

  pub stops : (x word : ℕ) → x ≤ v.least → x ≤ word → HasStopped v word (stopping v x)
  stops x word less least = record { same = refl; less = less; least = least }
