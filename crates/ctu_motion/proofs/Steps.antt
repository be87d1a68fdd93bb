-- Items one after the other.
use Rattle.std.proofs.Common.{◌≡◌, ℕ, ◌+◌, ◌<◌, ◌≤◌, List, ◌∷◌, length, get_or, drop, sym, ap, ◌∙◌}
use Rattle.std.proofs.lemmas.List.{drop_more, drop_all}
use Rattle.std.specs.List.{fold}
use Rattle.spec_motion.specs.CtuRecords.{Item}
use Rattle.spec_motion.specs.declared.slice_motion.SliceMotion.{SliceMotion}
use Rattle.spec_motion.specs.Vectors.{Beneath, Known}
use Rattle.spec_motion.specs.Units.{item_derived, unit_derived}

-- one more item
pub derived_more : (slice : SliceMotion) (beneath below : Beneath) (items : List Item) (k : ℕ) (d item : Item)
    (known next end : Known)
    → k < length items
    → get_or items k d ≡ item → below ≡ beneath
    → next ≡ item_derived slice below known item
    → fold (item_derived slice beneath) known (drop k items) ≡ end
    → fold (item_derived slice beneath) next (drop (k + 1) items) ≡ end
derived_more slice beneath below items k d item known next end lt is same e told =
    ap (λ (n : Known). fold (item_derived slice beneath) n (drop (k + 1) items))
    (e ∙ ap (λ (b : Beneath). item_derived slice b known item) same)
    ∙ sym (ap (λ (rest : List Item). fold (item_derived slice beneath) known rest)
    (drop_more items k d lt ∙ ap (λ (first : Item). first ∷ drop (k + 1) items) is))
    ∙ told

-- behind the last item
pub derived_all : (slice : SliceMotion) (beneath : Beneath) (items : List Item) (k : ℕ) (known start : Known)
    → length items ≤ k
    → fold (item_derived slice beneath) known (drop k items) ≡ fold (item_derived slice beneath) start items
    → known ≡ unit_derived slice beneath items start
unfolding unit_derived
derived_all slice beneath items k known start le told =
    sym (ap (λ (rest : List Item). fold (item_derived slice beneath) known rest) (drop_all k items le)) ∙ told
