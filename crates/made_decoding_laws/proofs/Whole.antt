-- The planes of pictures that have the samples drawn.
use Rattle.std.proofs.Common.{◌≡◌, ℕ, zero, suc, ◌+◌, ◌-◌, ◌*◌, ◌%◌, ◌<◌, ◌≤◌, cond, Bool, true, false, List, []}
use Rattle.std.proofs.Common.{◌∷◌, ◌++◌, drop, get_or, length, map, refl, sym, ap, ◌∙◌, arith}
use Rattle.std.proofs.Common.{length-drop, mul-suc}
use Rattle.std.specs.Prelude.{◌==◌}
use Rattle.std.specs.List.{concat, range_with_len}
use Rattle.std.proofs.lemmas.List.{get_or-drop}
use Rattle.spec_picture_build.specs.References.{DecodedPicture, format_height, format_width}
use Rattle.spec_decoder.specs.Hashes.{plane_samples, rows_samples}
use Rattle.spec_made.specs.Draws.{motion_of}
use Rattle.spec_made.specs.Planes.{Planes, mean_of}
use Rattle.spec_made.specs.Stream.{Making}
use Rattle.made_laws.specs.Sets.{made_format}
use Rattle.made_laws.specs.Streams.{idr_picture, inter_picture, making_at, picture_at}
use Rattle.made_picture_laws.specs.Pictures.{IsDrawn, component_plane}
use Rattle.made_picture_laws.proofs.Planes.{length_16, length_8}
use Rattle.made_decoding_laws.specs.References.{planes_of}

-- ---- planes have their sizes

pub record HasSizes (p : Planes) : Type 0 where
  pub luma : length p.luma ≡ 12288
  pub cb : length p.cb ≡ 3072
  pub cr : length p.cr ≡ 3072

mean_length : (a b : List ℕ) (n : ℕ) → length a ≡ n → length b ≡ n → length (mean_of a b) ≡ n
mean_length [] b n e f = e
mean_length (v ∷ a) [] n e f = absurd (omega (arith, e, f))
mean_length (v ∷ a) (w ∷ b) zero e f = absurd (omega arith)
mean_length (v ∷ a) (w ∷ b) (suc n) e f = ap suc (mean_length a b n (omega arith) (omega arith))

sizes_by : (idr p : Bool) (one two : ℕ) (m : Making)
    → HasSizes (cond idr (idr_picture m) (cond p (inter_picture false one m) (inter_picture true two m))).planes
unfolding idr_picture inter_picture motion_of
sizes_by true p one two m = record { luma = length_16 _; cb = length_8 _; cr = length_8 _ }
sizes_by false true one two m = record { luma = length_16 _; cb = length_8 _; cr = length_8 _ }
sizes_by false false one two m = record {
  luma = mean_length _ _ 12288 (length_16 _) (length_16 _);
  cb = mean_length _ _ 3072 (length_8 _) (length_8 _);
  cr = mean_length _ _ 3072 (length_8 _) (length_8 _);
}

pub sizes_are : (seed j : ℕ) → HasSizes (planes_of seed j)
unfolding picture_at
sizes_are seed j = sizes_by (j % 8 == 0) (j % 8 % 2 == 1) (j % 8 + 1) (j % 8 - 1) (making_at seed j)

-- ---- row after row

pub both_of : (v w : ℕ) (a b : List ℕ) → v ≡ w → a ≡ b → v ∷ a ≡ w ∷ b
both_of v w a b e f = ap (λ x. x ∷ a) e ∙ ap (λ l. w ∷ l) f

row_front : (n from : ℕ) (l : List ℕ) (sample : ℕ → ℕ) → n ≤ length l
    → ((x : ℕ) → x < n → sample (from + x) ≡ get_or l x 0)
    → map sample (range_with_len from n) ++ drop n l ≡ l
row_front zero from l sample le is = refl
row_front (suc n) from [] sample le is = absurd (omega arith)
row_front (suc n) from (v ∷ l) sample le is =
    let zero_on : from ≡ from + 0 = omega arith in
    both_of (sample from) v (map sample (range_with_len (from + 1) n) ++ drop n l) l
    (ap sample zero_on ∙ is 0 (omega arith))
    (row_front n (from + 1) l sample (omega arith) (λ x inside.
    let e : from + 1 + x ≡ from + suc x = omega arith in ap sample e ∙ is (suc x) (omega arith)))

pub rows_are : (w n from : ℕ) (l : List ℕ) (sample : ℕ → ℕ → ℕ) → length l ≡ w * n
    → ((x y : ℕ) → x < w → y < n → sample x (from + y) ≡ get_or l (w * y + x) 0)
    → concat (map (λ y. map (λ x. sample x y) (range_with_len 0 w)) (range_with_len from n)) ≡ l
rows_are w zero from [] sample count is = refl
rows_are w zero from (v ∷ l) sample count is = absurd (omega arith)
rows_are w (suc n) from l sample count is =
    let size : w * suc n ≡ w * n + w = mul-suc w n in
    let zero_on : from + 0 ≡ from = omega arith in
    let later : concat (map (λ y. map (λ x. sample x y) (range_with_len 0 w)) (range_with_len (from + 1) n))
    ≡ drop w l =
    rows_are w n (from + 1) (drop w l) sample (omega (arith, count, size, length-drop w l))
    (λ x y few low.
    let e : from + 1 + y ≡ from + suc y = omega arith in
    let at : w * suc y + x ≡ w + (w * y + x) = omega (arith, mul-suc w y) in
    ap (sample x) e ∙ is x (suc y) few (omega arith) ∙ ap (λ k. get_or l k 0) at
    ∙ sym (get_or-drop w l (w * y + x) 0)) in
    ap (λ rest. map (λ x. sample x from) (range_with_len 0 w) ++ rest) later
    ∙ row_front w 0 l (λ x. sample x from) (omega (arith, count, size))
    (λ x few.
    let at : w * 0 + x ≡ x = omega arith in
    let on : 0 + x ≡ x = omega arith in
    ap (λ k. sample k from) on ∙ ap (sample x) (sym zero_on) ∙ is x 0 few (omega arith) ∙ ap (λ k. get_or l k 0) at)

-- ---- a component

of_format : (picture : DecodedPicture) (w h c : ℕ) → picture.format ≡ made_format
    → format_width made_format c ≡ w → format_height made_format c ≡ h
    → plane_samples picture c ≡ rows_samples picture.samples c w h
of_format picture w h c e f g =
    ap (λ format. rows_samples picture.samples c (format_width format c) (format_height format c)) e
    ∙ ap (λ k. rows_samples picture.samples c k (format_height made_format c)) f
    ∙ ap (λ k. rows_samples picture.samples c w k) g

pub plane_drawn : (planes : Planes) (picture : DecodedPicture) → HasSizes planes → IsDrawn planes picture → (c : ℕ)
    → c < 3 → plane_samples picture c ≡ component_plane planes c
unfolding rows_samples
plane_drawn planes picture sizes is zero least =
    of_format picture 128 96 0 is.format refl refl
    ∙ rows_are 128 96 0 planes.luma (picture.samples 0) sizes.luma (λ x y few low.
    let on : 0 + y ≡ y = omega arith in ap (picture.samples 0 x) on ∙ is.samples 0 x y least few low)
plane_drawn planes picture sizes is (suc zero) least =
    of_format picture 64 48 1 is.format refl refl
    ∙ rows_are 64 48 0 planes.cb (picture.samples 1) sizes.cb (λ x y few low.
    let on : 0 + y ≡ y = omega arith in ap (picture.samples 1 x) on ∙ is.samples 1 x y least few low)
plane_drawn planes picture sizes is (suc (suc zero)) least =
    of_format picture 64 48 2 is.format refl refl
    ∙ rows_are 64 48 0 planes.cr (picture.samples 2) sizes.cr (λ x y few low.
    let on : 0 + y ≡ y = omega arith in ap (picture.samples 2 x) on ∙ is.samples 2 x y least few low)
plane_drawn planes picture sizes is (suc (suc (suc c))) least = absurd (omega arith)
