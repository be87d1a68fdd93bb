-- The bytes of a window, row after row.
use Rattle.std.proofs.Common.{rules, ◌≡◌, ℕ, zero, suc, ◌+◌, ◌*◌, ◌%◌, ◌<◌, ◌≤◌, Bool, true, false, List, [], ◌∷◌}
use Rattle.std.proofs.Common.{◌++◌}
use Rattle.std.proofs.Common.{length, get_or, take, drop, map, refl, sym, ap, ◌∙◌, append_assoc, append-nil, arith}
use Rattle.std.specs.Prelude.{◌/◌}
use Rattle.std.specs.List.{concat, flat_map, range_with_len}
use Rattle.std.proofs.lemmas.List.Concat.{flat_map_single}
use Rattle.std.proofs.lemmas.List.FromFn.{fill_by_all, length-range_with_len, map-range_with_len_more}
use Rattle.std.proofs.lemmas.List.{ext_get_or, get_or-drop, get_or-map, get_or-take, length-drop, length-map}
use Rattle.std.proofs.lemmas.List.{length-take-le}
use Rattle.std.proofs.lemmas.Slice.{overwrites, take-put_mid}
use Rattle.std.proofs.Math.Nat.{mul-le-mul_left}
use borrow.Rule.Slice.PartMut.{put_mid}
use Rattle.spec_picture_build.specs.Border.{Samples}
use Rattle.spec_picture_build.specs.Output.{Window, sample_bytes, row_bytes, plane_bytes}
use Rattle.yuv_writer.specs.Parts.{upper, below, size_of, row_size}

concat_append : (xss yss : List (List ℕ)) → concat (xss ++ yss) ≡ concat xss ++ concat yss
concat_append [] yss = refl
concat_append (xs ∷ xss) yss =
    ap (λ (zs : List ℕ). xs ++ zs) (concat_append xss yss) ∙ sym (append_assoc xs (concat xss) (concat yss))

-- no rows
pub no_rows : (s : Samples) (c : ℕ) (w : Window) → plane_bytes s c (upper w 0) ≡ []
unfolding plane_bytes
no_rows s c w = refl

-- one row more
pub row_more : (s : Samples) (c : ℕ) (w : Window) (n : ℕ)
    → plane_bytes s c (upper w (n + 1)) ≡ plane_bytes s c (upper w n) ++ row_bytes s c w n
unfolding plane_bytes
row_more s c w n =
    ap concat (map-range_with_len_more (row_bytes s c w) 0 n n (omega arith))
    ∙ concat_append (map (row_bytes s c w) (range_with_len 0 n)) (row_bytes s c w n ∷ [])
    ∙ ap (λ (zs : List ℕ). plane_bytes s c (upper w n) ++ zs) (append-nil (row_bytes s c w n))

-- a row of rows below
row_below : (s : Samples) (c : ℕ) (w : Window) (a n b : ℕ) → row_bytes s c (below w a n) b ≡ row_bytes s c w (a + b)
row_below s c w a n b =
    let e : w.top + a + b ≡ w.top + (a + b) = omega arith in
    ap (λ (y : ℕ). flat_map (λ column. sample_bytes w.two_bytes (s c (w.left + column) y)) (range_with_len 0 w.width)) e

-- rows, and those below them
pub rows_more : (s : Samples) (c : ℕ) (w : Window) (a b : ℕ)
    → plane_bytes s c (upper w (a + b)) ≡ plane_bytes s c (upper w a) ++ plane_bytes s c (below w a b)
rows_more s c w a zero =
    let e : a + 0 ≡ a = omega arith in
    ap (λ (n : ℕ). plane_bytes s c (upper w n)) e
    ∙ sym (ap (λ (zs : List ℕ). plane_bytes s c (upper w a) ++ zs) (no_rows s c (below w a 0))
    ∙ append-nil (plane_bytes s c (upper w a)))
rows_more s c w a (suc b) =
    let e : a + suc b ≡ a + b + 1 = omega arith in
    let f : b + 1 ≡ suc b = omega arith in
    ap (λ (n : ℕ). plane_bytes s c (upper w n)) e
    ∙ row_more s c w (a + b)
    ∙ ap (λ (zs : List ℕ). zs ++ row_bytes s c w (a + b)) (rows_more s c w a b)
    ∙ append_assoc (plane_bytes s c (upper w a)) (plane_bytes s c (below w a b)) (row_bytes s c w (a + b))
    ∙ ap (λ (zs : List ℕ). plane_bytes s c (upper w a) ++ zs) (
    ap (λ (zs : List ℕ). plane_bytes s c (below w a b) ++ zs) (sym (row_below s c w a b b))
    ∙ sym (row_more s c (below w a b) b)
    ∙ ap (λ (n : ℕ). plane_bytes s c (below w a n)) f
    )

-- ---- the bytes of samples

-- a byte each, by place
pub narrowed : (samples bytes : List ℕ) → length bytes ≡ length samples
    → ((k : ℕ) → k < length samples → get_or bytes k 0 ≡ get_or samples k 0 % 256)
    → bytes ≡ flat_map (sample_bytes false) samples
narrowed samples bytes count told =
    ext_get_or 0 bytes (map (λ s. s % 256) samples) (count ∙ sym (length-map samples (λ s. s % 256)))
    (λ k lt. told k (omega (arith, count, lt))
    ∙ sym (get_or-map (λ s. s % 256) samples k 0 0 (omega (arith, count, lt))))
    ∙ sym (flat_map_single (λ s. s % 256) samples)

two_more : (a b c d : ℕ) (l m : List ℕ) → a ≡ c → b ≡ d → l ≡ m → a ∷ b ∷ l ≡ c ∷ d ∷ m
two_more a b c d l m e f g = ap (λ v. v ∷ b ∷ l) e ∙ ap (λ v. c ∷ v ∷ l) f ∙ ap (λ v. c ∷ d ∷ v) g

-- two each, by place
pub widened : (samples bytes : List ℕ) → length bytes ≡ 2 * length samples
    → ((k : ℕ) → k < length samples → get_or bytes (2 * k) 0 ≡ get_or samples k 0 % 256)
    → ((k : ℕ) → k < length samples → get_or bytes (2 * k + 1) 0 ≡ get_or samples k 0 / 256 % 256)
    → bytes ≡ flat_map (sample_bytes true) samples
widened [] [] count low high = refl
widened [] (b ∷ bytes) count low high = absurd (omega (arith, count))
widened (s ∷ samples) [] count low high = absurd (omega (arith, count))
widened (s ∷ samples) (b ∷ []) count low high = absurd (omega (arith, count))
widened (s ∷ samples) (a ∷ b ∷ bytes) count low high =
    two_more a b (s % 256) (s / 256 % 256) bytes (flat_map (sample_bytes true) samples)
    (low 0 (omega arith)) (high 0 (omega arith))
    (widened samples bytes (omega (arith, count))
    (λ k lt.
    let next : 2 * suc k ≡ suc (suc (2 * k)) = omega arith in
    sym (ap (λ i. get_or (a ∷ b ∷ bytes) i 0) next) ∙ low (suc k) (omega (arith, lt)))
    (λ k lt.
    let next : 2 * suc k + 1 ≡ suc (suc (2 * k + 1)) = omega arith in
    sym (ap (λ i. get_or (a ∷ b ∷ bytes) i 0) next) ∙ high (suc k) (omega (arith, lt))))

-- the bytes of samples that are given by their places
bytes_of_map : (two_bytes : Bool) (f : ℕ → ℕ) (l : List ℕ)
    → flat_map (sample_bytes two_bytes) (map f l) ≡ flat_map (λ k. sample_bytes two_bytes (f k)) l
bytes_of_map two_bytes f [] = refl
bytes_of_map two_bytes f (k ∷ l) =
    ap (λ (zs : List ℕ). sample_bytes two_bytes (f k) ++ zs) (bytes_of_map two_bytes f l)

-- how many bytes the samples of so many places have
bytes_length : (two_bytes : Bool) (f : ℕ → ℕ) (l : List ℕ)
    → length (flat_map (λ k. sample_bytes two_bytes (f k)) l) ≡ size_of two_bytes (length l)
unfolding size_of
bytes_length true f [] = refl
bytes_length true f (k ∷ l) =
    let later = bytes_length true f l in omega (arith, later)
bytes_length false f [] = refl
bytes_length false f (k ∷ l) =
    let later = bytes_length false f l in omega (arith, later)

-- a row by its samples, which are a part of a plane's row
pub row_filled : (s : Samples) (c : ℕ) (w : Window) (row n width : ℕ) (xs bytes : List ℕ) → length xs ≡ width
    → n ≡ w.width → w.left + w.width ≤ width → bytes ≡ flat_map (sample_bytes w.two_bytes) (take n (drop w.left xs))
    → ((x : ℕ) → x < width → get_or xs x 0 ≡ s c x (w.top + row)) → bytes ≡ row_bytes s c w row
row_filled s c w row n width xs bytes whole e inside laid told =
    let part = take n (drop w.left xs) in
    let some : length part ≡ w.width =
    length-take-le n (drop w.left xs) (omega (arith, whole, e, inside, length-drop w.left xs)) ∙ e in
    let samples = fill_by_all (λ k. s c (w.left + k) (w.top + row)) part w.width 0 some
    (λ k lt. get_or-take n (drop w.left xs) k 0 (omega (arith, e, lt))
    ∙ get_or-drop w.left xs k 0
    ∙ told (w.left + k) (omega (arith, inside, lt))) in
    laid
    ∙ ap (flat_map (sample_bytes w.two_bytes)) samples
    ∙ bytes_of_map w.two_bytes (λ k. s c (w.left + k) (w.top + row)) (range_with_len 0 w.width)

-- no row is in front of a list
pub gathered_none : (s : Samples) (c : ℕ) (w : Window) (xs : List ℕ)
    → take (row_size w * 0) xs ≡ plane_bytes s c (upper w 0)
gathered_none s c w xs =
    let e : row_size w * 0 ≡ 0 = omega arith in
    ap (λ (m : ℕ). take m xs) e ∙ sym (no_rows s c w)

-- a row ends where the rows end, or before
row_fits : (width n height : ℕ) → n < height → width * n + width ≤ width * height
row_fits width n height lt =
    let le : width * (n + 1) ≤ width * height = mul-le-mul_left width (omega arith) in grind arith

row_length : (s : Samples) (c : ℕ) (w : Window) (n : ℕ) → length (row_bytes s c w n) ≡ row_size w
row_length s c w n =
    bytes_length w.two_bytes (λ column. s c (w.left + column) (w.top + n)) (range_with_len 0 w.width)
    ∙ ap (size_of w.two_bytes) (length-range_with_len 0 w.width)

pub gathered_count : (s : Samples) (c : ℕ) (w : Window) (n a k : ℕ) (xs ys : List ℕ) → a ≡ row_size w * n
    → k ≡ row_size w → n < w.height → row_size w * w.height ≤ length xs
    → ys ≡ row_bytes s c w n → length (put_mid a k xs ys) ≡ length xs
gathered_count s c w n a k xs ys place e lt room row =
    let fits = row_fits (row_size w) n w.height lt in
    let count : length ys ≡ k = ap length row ∙ row_length s c w n ∙ sym e in
    let inside : a + k ≤ length xs = omega (arith, place, e, fits, room) in
    search (rules, overwrites)

-- one row more in front of a list
pub gathered_more : (s : Samples) (c : ℕ) (w : Window) (n a k : ℕ) (xs ys : List ℕ) → a ≡ row_size w * n → n < w.height
    → row_size w * w.height ≤ length xs
    → take (row_size w * n) xs ≡ plane_bytes s c (upper w n) → ys ≡ row_bytes s c w n
    → take (row_size w * (n + 1)) (put_mid a k xs ys) ≡ plane_bytes s c (upper w (n + 1))
gathered_more s c w n a k xs ys place lt room told row =
    let fits = row_fits (row_size w) n w.height lt in
    let count : length ys ≡ row_size w = ap length row ∙ row_length s c w n in
    let e : row_size w * (n + 1) ≡ a + length ys = grind (arith, place, count) in
    take-put_mid a k xs ys (row_size w * (n + 1)) e (omega (arith, place, fits, room))
    ∙ ap (λ (m : ℕ). take m xs ++ ys) place
    ∙ ap (λ (zs : List ℕ). zs ++ ys) told
    ∙ ap (λ (zs : List ℕ). plane_bytes s c (upper w n) ++ zs) row
    ∙ sym (row_more s c w n)
