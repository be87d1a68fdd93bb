-- Streams whose pictures move and whose rows aren't spoiled are those of a seed.
use Rattle.std.proofs.Common.{◌≡◌, ℕ, zero, suc, ◌+◌, ◌-◌, ◌%◌, Bool, true, false, List, [], ◌++◌, refl, ap, ◌∙◌}
use Rattle.std.specs.Prelude.{◌==◌, if◌then◌else◌}
use Rattle.spec_made.specs.Stream.{Making, idr_made, inter_made, picture_made, pictures_made, set_units, start_of}
use Rattle.spec_made.specs.Stream.{made}
use Rattle.spec_made.specs.Flat.{Turned, idr_by, inter_by, picture_by, pictures_by, made_by}

abbrev pub plain : Turned
plain = record { flat = false; bends = [] }

idr_same : (j : ℕ) (m : Making) → idr_by plain j m ≡ idr_made m
unfolding idr_by idr_made
idr_same j m = refl

inter_same : (j : ℕ) (both : Bool) (poc : ℕ) (m : Making) → inter_by plain j both poc m ≡ inter_made both poc m
unfolding inter_by inter_made
inter_same j both poc m = refl

by_kind : (b c : Bool) (j g : ℕ) (m : Making)
    → (if b then idr_by plain j m
    else (if c then inter_by plain j false (g + 1) m else inter_by plain j true (g - 1) m))
    ≡ (if b then idr_made m else (if c then inter_made false (g + 1) m else inter_made true (g - 1) m))
by_kind true c j g m = idr_same j m
by_kind false true j g m = inter_same j false (g + 1) m
by_kind false false j g m = inter_same j true (g - 1) m

picture_same : (j : ℕ) (m : Making) → picture_by plain j m ≡ picture_made (j % 8) m
unfolding picture_by picture_made
picture_same j m = by_kind (j % 8 == 0) (j % 8 % 2 == 1) j (j % 8) m

pictures_same : (j n : ℕ) (m : Making) → pictures_by plain j n m ≡ pictures_made j n m
unfolding pictures_by pictures_made
pictures_same j zero m = refl
pictures_same j (suc n) m =
    ap (λ (p : List ℕ × Making). p.0 ++ pictures_by plain (j + 1) n p.1) (picture_same j m)
    ∙ ap (λ l. (picture_made (j % 8) m).0 ++ l) (pictures_same (j + 1) n (picture_made (j % 8) m).1)

made_same : (seed n : ℕ) → made_by plain seed n ≡ made seed n
unfolding made_by made
made_same seed n = ap (λ l. set_units ++ l) (pictures_same 0 n (start_of seed))

-- as functions of the number of pictures
pub plain_is : (seed : ℕ) → made_by plain seed ≡ made seed
plain_is seed = λ i n. made_same seed n i
