-- Values by place, one item after the other.
use Rattle.std.proofs.Common.{◌≡◌, ℕ, ◌+◌, ◌*◌, ◌<◌, List, [], ◌∷◌, ◌++◌, length, replicate, refl, ap, ◌∙◌, cond}
use Rattle.std.proofs.Common.{arith}
use Rattle.std.proofs.Common.{true}
use Rattle.std.specs.List.{fold}
use Rattle.std.proofs.lemmas.List.{get_or-replicate}
use Rattle.std.proofs.lemmas.List.Sums.{fold-append}
use Rattle.ctu_records.specs.declared.item.CodingPlace.{CodingPlace}
use Rattle.ctu_records.specs.declared.item.Item.{Item}
use Rattle.ctu_records.specs.declared.item.Item.TheVariants.{Unit, Luma}
use Rattle.ctu_records.specs.declared.item.Item.TheVariants.{Delta}
use Rattle.ctu_records.specs.Places.{Holds, inside, overlay, by_place}
use Rattle.ctu_records.specs.Tree.{coding_laid, luma_mode_laid, qp_laid, lays_nothing}

pub held_none : {A X : Type 0} (d v : A) (step : (ℕ → ℕ → A) → X → ℕ → ℕ → A) (cells : List A) (items : List X)
    → cells ≡ replicate 256 v → items ≡ [] → Holds d cells (fold step (λ i j. v) items)
held_none d v step cells items e none = rw (e, none) (record {
  count = refl;
  each = λ i j hi hj. get_or-replicate 256 (16 * j + i) v d (omega arith);
})

-- cells that hold what the next item makes of the values
pub held_by : {A X : Type 0} (d : A) (step : (ℕ → ℕ → A) → X → ℕ → ℕ → A) (start : ℕ → ℕ → A) (cells : List A)
    (items more : List X) (item : X)
    → more ≡ items ++ item ∷ []
    → Holds d cells (step (fold step start items) item) → Holds d cells (fold step start more)
held_by d step start cells items more item e held = rw (e, fold-append step start items (item ∷ [])) held

-- a square laid over cells that hold what was there
pub held_laid : {A : Type 0} (d v : A) (x y side : ℕ) (cells new : List A) (places : ℕ → ℕ → A) → Holds d cells places
    → length new ≡ 256
    → ((i j : ℕ) (e : A) → i < 16 → j < 16 → by_place e new i j ≡ overlay x y side v (by_place e cells) i j)
    → Holds d new (overlay x y side v places)
held_laid d v x y side cells new places held count laid = record {
  count = count;
  each = λ i j hi hj. laid i j d hi hj ∙ ap (λ below. cond (inside x y side i j) v below) (held.each i j hi hj);
}

-- an item that lays nothing leaves what was held
pub coding_stays : (places : ℕ → ℕ → CodingPlace) (item : Item) → lays_nothing item ≡ true
    → coding_laid places item ≡ places
coding_stays places (Unit unit) e = absurd cc
coding_stays places other e = refl

pub mode_stays : (modes : ℕ → ℕ → ℕ) (item : Item) → lays_nothing item ≡ true → luma_mode_laid modes item ≡ modes
mode_stays modes (Luma luma) e = absurd cc
mode_stays modes other e = refl

pub qp_stays : (qps : ℕ → ℕ → ℕ) (item : Item) → lays_nothing item ≡ true → qp_laid qps item ≡ qps
qp_stays qps (Unit unit) e = absurd cc
qp_stays qps (Delta delta) e = absurd cc
qp_stays qps other e = refl
