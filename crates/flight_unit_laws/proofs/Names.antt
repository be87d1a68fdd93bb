-- The pictures of the buffer before each picture of a flight, by name.
use Rattle.std.proofs.Common.{◌≡◌, ℕ, zero, suc, ◌+◌, Bool, true, false, List, [], ◌∷◌, ◌++◌, All, map}
use Rattle.std.proofs.Common.{length}
use Rattle.std.proofs.Common.{get_or, Option, Some, None, slice_get, if◌then◌else◌, refl, sym, ap, ◌∙◌, arith}
use Rattle.std.specs.List.{range_with_len}
use Rattle.std.specs.Option.{option_map}
use Rattle.std.proofs.lemmas.List.{append_assoc, length-append, map-append}
use Rattle.std.proofs.lemmas.List.Elements.{All-append, All-cons, All-map, All-nil}
use Rattle.std.proofs.lemmas.Simd.{map-map}
use Rattle.plan_types.specs.declared.picture_plan.PicturePlan.{PicturePlan}
use Rattle.known_picture_laws.specs.SpecFlights.{BufferPicture, is_among, kept_as, kept_from, pictures_in}
use Rattle.flight_plan.specs.Flight.{IsEarlier}
use Rattle.flight_plan.specs.declared.row_range.Reference.{Reference}
use Rattle.flight_plan.specs.declared.row_range.Reference.TheVariants.{Base, Flight}
use Rattle.known_picture_laws.specs.SpecFlights.{PlannedFlight, buffer_before, buffer_behind, known_decoded}
use Rattle.known_picture_laws.specs.SpecFlights.{names_before, names_behind, picture_named, staying}

-- the item behind so many
item_behind : {X : Type 0} (front : List X) (x : X) (xs : List X) → slice_get (front ++ x ∷ xs) (length front) ≡ Some x
item_behind [] x xs = refl
item_behind (y ∷ front) x xs = item_behind front x xs

-- the items of a list by their places
items_at : {X : Type 0} (front xs : List X)
    → map (λ j. slice_get (front ++ xs) j) (range_with_len (length front) (length xs)) ≡ map Some xs
items_at front [] = refl
items_at {X} front (x ∷ xs) =
    let same : (front ++ x ∷ []) ++ xs ≡ front ++ x ∷ xs = append_assoc front (x ∷ []) xs in
    let long : length (front ++ x ∷ []) ≡ length front + 1 = length-append front (x ∷ []) in
    let rest : map (λ j. slice_get (front ++ x ∷ xs) j) (range_with_len (length front + 1) (length xs)) ≡ map Some xs =
    ap (λ n. map (λ j. slice_get (front ++ x ∷ xs) j) (range_with_len n (length xs))) (sym long)
    ∙ ap (λ (l : List X). map (λ j. slice_get l j) (range_with_len (length (front ++ x ∷ [])) (length xs))) (sym same)
    ∙ items_at (front ++ x ∷ []) xs in
    ap (λ (o : Option X). o ∷ map (λ j. slice_get (front ++ x ∷ xs) j) (range_with_len (length front + 1) (length xs)))
    (item_behind front x xs)
    ∙ ap (λ (l : List (Option X)). Some x ∷ l) rest

-- what stays, mapped
staying_map : {X Y : Type 0} (h : X → Y) (places : List ℕ) (n : ℕ) (xs : List X)
    → map h (staying places n xs) ≡ staying places n (map h xs)
unfolding staying
staying_map h places n [] = refl
staying_map h places n (x ∷ xs) = by_place (is_among places n) (staying_map h places (suc n) xs)
  where
    by_place : (t : Bool) → map h (staying places (suc n) xs) ≡ staying places (suc n) (map h xs)
        → map h (if t then x ∷ staying places (suc n) xs else staying places (suc n) xs)
        ≡ (if t then h x ∷ staying places (suc n) (map h xs) else staying places (suc n) (map h xs))
    by_place true e = ap (λ l. h x ∷ l) e
    by_place false e = e

kept_map : (places : List ℕ) (n : ℕ) (buffer : List BufferPicture)
    → map Some (kept_from places n buffer) ≡ staying places n (map Some buffer)
unfolding staying kept_from
kept_map places n [] = refl
kept_map places n (b ∷ later) = by_place (is_among places n) (kept_map places (suc n) later)
  where
    by_place : (t : Bool) → map Some (kept_from places (suc n) later) ≡ staying places (suc n) (map Some later)
        → map Some (if t then b ∷ kept_from places (suc n) later else kept_from places (suc n) later)
        ≡ (if t then Some b ∷ staying places (suc n) (map Some later) else staying places (suc n) (map Some later))
    by_place true e = ap (λ l. Some b ∷ l) e
    by_place false e = e

staying_all : {X : Type 0} (P : X → Type 0) (places : List ℕ) (n : ℕ) (xs : List X) → All P xs
    → All P (staying places n xs)
unfolding staying
staying_all P places n [] all = All-nil P
staying_all P places n (x ∷ xs) all =
    by_place (is_among places n)
    (staying_all P places (suc n) xs (λ k d inside. all (suc k) d (omega (arith, inside))))
  where
    by_place : (t : Bool) → All P (staying places (suc n) xs)
        → All P (if t then x ∷ staying places (suc n) xs else staying places (suc n) xs)
    by_place true rest = All-cons P x (staying places (suc n) xs) (all 0 x (omega arith)) rest
    by_place false rest = rest

module _ (f : PlannedFlight) where
  -- names name pictures, also behind one more
  behind_named : (names : List Reference) (buffer : List BufferPicture) (k : ℕ) (o : Option PicturePlan)
      → slice_get f.pictures k ≡ o → buffer ≡ buffer_before f k
      → map (picture_named f) names ≡ map Some buffer
      → map (picture_named f) (names_behind names k o) ≡ map Some (buffer_behind buffer o)
  unfolding names_behind buffer_behind
  behind_named names buffer k None has is e = e
  behind_named names buffer k (Some p) has is e =
      let last : List BufferPicture → BufferPicture = λ b. kept_as p (known_decoded (pictures_in b) p) in
      let here : picture_named f (Flight k) ≡ Some (last buffer) =
      ap (option_map (λ (q : PicturePlan). kept_as q (known_decoded (pictures_in (buffer_before f k)) q))) has
      ∙ ap (λ (b : List BufferPicture). Some (last b)) (sym is) in
      let all : map (picture_named f) (names ++ Flight k ∷ []) ≡ map Some (buffer ++ last buffer ∷ []) =
      map-append (picture_named f) names (Flight k ∷ [])
      ∙ ap (λ l. l ++ picture_named f (Flight k) ∷ []) e
      ∙ ap (λ o. map Some buffer ++ o ∷ []) here
      ∙ sym (map-append Some buffer (last buffer ∷ [])) in
      staying_map (picture_named f) p.outputs.kept 0 (names ++ Flight k ∷ [])
      ∙ ap (staying p.outputs.kept 0) all
      ∙ sym (kept_map p.outputs.kept 0 (buffer ++ last buffer ∷ []))

  pub all_named : (k : ℕ) → map (picture_named f) (names_before f k) ≡ map Some (buffer_before f k)
  unfolding names_before buffer_before
  all_named zero = map-map (picture_named f) Base (range_with_len 0 (length f.buffer)) ∙ items_at [] f.buffer
  all_named (suc k) =
      behind_named (names_before f k) (buffer_before f k) k (slice_get f.pictures k) refl refl (all_named k)

  -- they are of bases and earlier pictures
  base_earlier : (k j : ℕ) → IsEarlier k (Base j)
  base_earlier k j = tt

  more_earlier : (k : ℕ) (r : Reference) → IsEarlier k r → IsEarlier (suc k) r
  more_earlier k (Base j) h = h
  more_earlier k (Flight j) h = omega (arith, h)

  behind_earlier : (names : List Reference) (k : ℕ) (o : Option PicturePlan) → All (IsEarlier k) names
      → All (IsEarlier (suc k)) (names_behind names k o)
  unfolding names_behind
  behind_earlier names k None all = λ i d inside. more_earlier k (get_or names i d) (all i d inside)
  behind_earlier names k (Some p) all =
      staying_all (IsEarlier (suc k)) p.outputs.kept 0 (names ++ Flight k ∷ [])
      (All-append (IsEarlier (suc k)) names (Flight k ∷ [])
      (λ i d inside. more_earlier k (get_or names i d) (all i d inside))
      (All-cons (IsEarlier (suc k)) (Flight k) [] (omega arith) (All-nil (IsEarlier (suc k)))))

  pub all_earlier : (k : ℕ) → All (IsEarlier k) (names_before f k)
  unfolding names_before
  all_earlier zero =
      All-map (IsEarlier 0) Base (range_with_len 0 (length f.buffer)) (λ i d inside.
      base_earlier 0 (get_or (range_with_len 0 (length f.buffer)) i d))
  all_earlier (suc k) = behind_earlier (names_before f k) k (slice_get f.pictures k) (all_earlier k)
