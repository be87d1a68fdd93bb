-- The names before the pictures of a flight.
use Rattle.std.proofs.Common.{
  ◌≡◌,
  ℕ,
  zero,
  suc,
  ◌+◌,
  ◌<◌,
  ◌≤◌,
  List,
  [],
  ◌∷◌,
  ◌++◌,
  length,
  get_or,
  map,
  Some,
  slice_get,
}
use Rattle.std.proofs.Common.{refl, sym, ap, subst, ◌∙◌, arith, add-one, inl, inr}
use Rattle.std.proofs.lemmas.List.{get_or_default}
use Rattle.std.proofs.lemmas.Option.{slice_get_cases}
use Rattle.std.specs.List.{range_with_len}
use Rattle.std.proofs.lemmas.List.FromFn.{get_or-map-range_with_len, map-range_with_len_more}
use Rattle.plan_types.specs.declared.picture_plan.PicturePlan.{PicturePlan}
use Rattle.flight_plan.specs.declared.row_range.Reference.{Reference}
use Rattle.flight_plan.specs.declared.row_range.Reference.TheVariants.{Base, Flight}
use Rattle.spec_flights.specs.Pictures.{PlannedFlight}
use Rattle.spec_flights.specs.References.{names_before, names_behind, staying}
use Rattle.flight_names.specs.Names.{all_names, names_at, names_to}

-- they are those of the flight
names_same : (f : PlannedFlight) (k : ℕ) → names_at f.pictures (length f.buffer) k ≡ names_before f k
unfolding names_at names_before
names_same f zero = refl
names_same f (suc k) = ap (λ names. names_behind names k (slice_get f.pictures k)) (names_same f k)

pub named : (f : PlannedFlight) (k : ℕ) → k < length f.pictures
    → get_or (all_names f.pictures (length f.buffer)) k [] ≡ names_before f k
named f k inside =
    get_or-map-range_with_len (names_at f.pictures (length f.buffer)) 0 (length f.pictures) k k [] inside (omega arith)
    ∙ names_same f k

-- one more base
pub bases_more : (n : ℕ) (old new : List Reference) → old ≡ map Base (range_with_len 0 n)
    → new ≡ old ++ Base n ∷ [] → new ≡ map Base (range_with_len 0 (n + 1))
bases_more n old new was now =
    now ∙ (ap (λ (names : List Reference). names ++ Base n ∷ []) was ∙ sym (map-range_with_len_more Base 0 n n (omega
    arith)))

-- a picture that stands at a place is the one there
there : (pictures : List PicturePlan) (k : ℕ) (p : PicturePlan) → k < length pictures → p ≡ get_or pictures k p
    → slice_get pictures k ≡ Some p
there pictures k p inside is =
    elim ((slice_get_cases pictures k).1) [
      | inl found ↦
          found.2 ∙ ap Some (sym (is ∙ (get_or_default pictures k p found.0 inside ∙ found.3)))
      | inr past ↦ absurd (omega (arith, inside, past.0))
    ]

-- the buffer before the first picture, and behind one
pub first_names : (pictures : List PicturePlan) (bases : ℕ)
    → map Base (range_with_len 0 bases) ≡ names_at pictures bases 0
unfolding names_at
first_names pictures bases = refl

pub next_names : (pictures : List PicturePlan) (bases k : ℕ) (p : PicturePlan) (old new : List Reference)
    → k < length pictures → p ≡ get_or pictures k p → old ≡ names_at pictures bases k
    → new ≡ staying p.outputs.kept 0 (old ++ Flight k ∷ []) → new ≡ names_at pictures bases (k + 1)
unfolding names_at names_behind
next_names pictures bases k p old new inside is was now =
    let has = there pictures k p inside is in
    subst (λ (n : ℕ). new ≡ names_at pictures bases n) (sym (add-one k))
    (now
    ∙ (ap (λ (names : List Reference). staying p.outputs.kept 0 (names ++ Flight k ∷ [])) was
    ∙ ap (names_behind (names_at pictures bases k) k) (sym has)))

-- the names before one more picture
pub names_more : (pictures : List PicturePlan) (bases k : ℕ) (old new : List (List Reference)) (buffer : List Reference)
    → old ≡ names_to pictures bases k → buffer ≡ names_at pictures bases k → new ≡ old ++ buffer ∷ []
    → new ≡ names_to pictures bases (k + 1)
names_more pictures bases k old new buffer was is now =
    now
    ∙ (ap (λ (names : List (List Reference)). names ++ buffer ∷ []) was
    ∙ (ap (λ (names : List Reference). names_to pictures bases k ++ names ∷ []) is
    ∙ sym (map-range_with_len_more (names_at pictures bases) 0 k k (omega arith))))
