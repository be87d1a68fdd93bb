-- The strength of an edge, from what is known on both sides.
use Rattle.std.proofs.Common.{◌≡◌, ℕ, Bool, true, false, ◌&&◌, ◌||◌, refl, sym, ◌∙◌, Option, ℤ, if◌then◌else◌, None}
use Rattle.std.proofs.Common.{Some}
use Rattle.spec_boundary_strengths.specs.PictureBuffer.{PlaceMotion}
use Rattle.spec_boundary_strengths.specs.declared.place.UnitPlace.{UnitPlace}
use Rattle.spec_boundary_strengths.specs.Strengths.{strength}

edge_same : (f t t' p p' : Bool) → t ≡ t' → p ≡ p' → (f && (t || p)) ≡ (f && (t' || p'))
edge_same f t t' p p' et ep = rw (et, ep) refl

chosen : (b : Bool) (r s : ℕ) → b ≡ true → r ≡ s → r ≡ (if b then s else 0)
chosen b r s e told = rw e told

passed : (b : Bool) (s : ℕ) → b ≡ false → 0 ≡ (if b then s else 0)
passed b s e = rw e refl

pub strength_same : (r : ℕ) (coded t t' b b' c c' : Bool) (p p' q q' : Option PlaceMotion) → r ≡ strength coded p q
    → coded ≡ (t && (b || c)) → t ≡ t' → b ≡ b' → c ≡ c' → p ≡ p' → q ≡ q'
    → r ≡ strength (t' && (b' || c')) p' q'
strength_same r coded t t' b b' c c' p p' q q' er ec et eb ef ep eq = rw (← ep, ← eq, ← et, ← eb, ← ef, ← ec) er

pub without_motion : (coded : Bool) (p : Option PlaceMotion) → 2 ≡ strength coded p None
unfolding strength
without_motion coded None = refl
without_motion coded (Some p) = refl

-- where the place behind has no motion
pub still : (coded : Bool) (p q : Option PlaceMotion) → q ≡ None → 2 ≡ strength coded p q
still coded p q e = rw e (without_motion coded p)

-- where there is an edge
pub with_edge : (e f t t' p p' : Bool) (r s : ℕ) → e ≡ true → e ≡ (f && (t || p)) → t ≡ t' → p ≡ p' → r ≡ s
    → r ≡ (if f && (t' || p') then s else 0)
with_edge e f t t' p p' r s here is et ep told =
    chosen _ r s (sym (edge_same f t t' p p' et ep) ∙ (sym is ∙ here)) told

-- where there is none
pub without_edge : (e f t t' p p' : Bool) (s : ℕ) → e ≡ false → e ≡ (f && (t || p)) → t ≡ t' → p ≡ p'
    → 0 ≡ (if f && (t' || p') then s else 0)
without_edge e f t t' p p' s none is et ep =
    passed _ s (sym (edge_same f t t' p p' et ep) ∙ (sym is ∙ none))

and_false : (f : Bool) → (f && false) ≡ false
and_false true = refl
and_false false = refl

-- where neither is marked
pub not_marked : (f t t' p p' : Bool) (s : ℕ) → t ≡ t' → p ≡ p' → t ≡ false → p ≡ false
    → 0 ≡ (if f && (t' || p') then s else 0)
not_marked f t t' p p' s et ep none bare =
    passed _ s (sym (edge_same f t t' p p' et ep) ∙ (rw (none, bare) (and_false f)))

-- of four marks none is there
pub none_marked : (a b c d : Bool) → (((a || b) || c) || d) ≡ false
    → (a ≡ false) × ((b ≡ false) × ((c ≡ false) × (d ≡ false)))
none_marked false false false false e = (refl, (refl, (refl, refl)))
none_marked false false false true e = absurd cc
none_marked false false true d e = absurd cc
none_marked false true c d e = absurd cc
none_marked true b c d e = absurd cc

abbrev place_of : ℕ → ℕ → Bool → ℤ → Bool → UnitPlace
place_of left top coded qp kept =
    record { left_strength = left; top_strength = top; coded = coded; qp_y = qp; kept = kept }

pub place_same : (l l' t t' : ℕ) (c c' k k' : Bool) (q q' : ℤ) → l ≡ l' → t ≡ t' → c ≡ c' → q ≡ q' → k ≡ k'
    → place_of l t c q k ≡ place_of l' t' c' q' k'
place_same l l' t t' c c' k k' q q' el et ec eq ek = rw (el, et, ec, eq, ek) refl
