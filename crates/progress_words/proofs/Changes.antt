-- One step: the words become others, and one view another, with the same parts.
use Rattle.std.proofs.Common.{◌≡◌, ◌≢◌, ◌⊎◌, ℕ, ◌+◌, ◌<◌, ◌≤◌, List, set, ap, ◌∙◌, arith, length-set}
use mathlib.Core.Option.{some}
use lib.ListN.{get_elem?}
use Rattle.atomic_table.specs.Table.{State}
use Rattle.progress_words.specs.declared.view.View.{View}
use Rattle.progress_words.specs.Meanings.{Meaning}
use Rattle.progress_words.specs.Counts.{total}
use Rattle.progress_words.specs.Core.{ticket_in}
use Rattle.progress_words.specs.Views.{live_by, one_if, is_live, is_ended, is_opener, splits_of, joins_of}
use Rattle.progress_words.specs.Rule.{Fits, IsShown, IsHeld, IsOver, AreApart, Stands}
use Rattle.progress_words.proofs.Counts.{total_set}
use Rattle.progress_words.proofs.Held.{each_set}

-- the new view is of the same flight, and counts the same splits and joins
pub record IsAs {F : Type 0} (v w : View F) : Type 0 where
  pub facts : w.facts ≡ v.facts
  pub opens : w.opens ≡ v.opens
  pub splits : w.splits ≡ v.splits
  pub joins : w.joins ≡ v.joins

module _ {F S : Type 0} (meaning : F → Meaning) (key : F) where
  pub changed : (s : State S (View F)) → Stands meaning key s → (words : List ℕ) (id : ℕ) (v w : View F)
      → get_elem? s.views id ≡ some v → IsAs v w → IsShown (meaning key) words
      → ((l : ℕ) → l < (meaning key).lines → (meaning key).ticket_of l < ticket_in (meaning key) words
      → IsHeld (set s.views id w) l ⊎ IsOver (meaning key) words l)
      → Fits (meaning key) key words w → ((j : ℕ) (u : View F) → j ≢ id → get_elem? s.views j ≡ some u
      → Fits (meaning key) key words u) → AreApart (set s.views id w)
      → ticket_in (meaning key) words + is_ended v ≤ (meaning key).lines + total is_ended s.views + is_ended w
      → Stands meaning key (record { words = words; homes = s.homes; views = set s.views id w })
  changed s r words id v w at as_ shown drawn mine others apart ticket =
      let live = total_set is_live s.views id v w at in let live_is : is_live w ≡ is_live v = ap live_by as_.facts in
      let ended = total_set is_ended s.views id v w at in
      let openers = total_set is_opener s.views id v w at in let opener_is : is_opener w ≡ is_opener v =
      ap one_if as_.opens in
      let cut = total_set splits_of s.views id v w at in let cut_is = as_.splits in
      let glued = total_set joins_of s.views id v w at in let glued_is = as_.joins in
      let made_ = r.made in let left_ = r.left in let one_ = r.one in let few_ = r.few in
      record {
        laid = r.laid;
        shown = shown;
        drawn = drawn;
        fits = each_set (λ _ u. Fits (meaning key) key words u) s.views id w mine others;
        apart = apart;
        ticket = omega arith;
        made = length-set s.views id w ∙ omega arith;
        left = omega arith;
        one = omega arith;
        few = omega arith;
      }
