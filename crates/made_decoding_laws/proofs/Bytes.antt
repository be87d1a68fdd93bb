-- The bytes that are written of the pictures of a stream that is made.
use Rattle.std.proofs.Common.{◌≡◌, ℕ, zero, suc, ◌+◌, ◌*◌, ◌%◌, ◌<◌, Bool, true, false, List, [], ◌∷◌, ◌++◌, get_or}
use Rattle.std.proofs.Common.{length, map, refl, sym, ap, ◌∙◌, arith}
use Rattle.std.specs.List.{concat, flat_map, range_with_len}
use Rattle.std.proofs.lemmas.List.Concat.{flat_map_single}
use Rattle.spec_picture_build.specs.Border.{Samples}
use Rattle.spec_picture_build.specs.Output.{Window, picture_bytes, plane_bytes, row_bytes, sample_bytes, window_of}
use Rattle.spec_decoder.specs.declared.form.Form.TheVariants as form
use Rattle.spec_decoder.specs.Decoder.{bytes_of, decoded}
use Rattle.spec_decoder.specs.Output.{OutPicture, bytes_out, written}
use Rattle.spec_made.specs.Planes.{Planes}
use Rattle.spec_made.specs.Stream.{made}
use Rattle.made_laws.specs.Outputs.{shown_at}
use Rattle.made_laws.specs.Sets.{made_format}
use Rattle.made_picture_laws.specs.Pictures.{AreBytes}
use Rattle.made_decoding_laws.specs.References.{planes_of}
use Rattle.made_decoding_laws.specs.Shown.{AreShown, IsShown, bytes_drawn}
use Rattle.made_decoding_laws.proofs.Hashes.{bytes_are}
use Rattle.made_decoding_laws.proofs.Shown.{goes_out}
use Rattle.made_decoding_laws.proofs.Whole.{HasSizes, rows_are, sizes_are}

low_byte : (v w : ℕ) → v ≡ w → w < 256 → v % 256 ≡ w
low_byte v w e low = omega (arith, e, low)

-- a row of which a sample goes out as a byte
byte_row : (samples : Samples) (c : ℕ) (w : Window) (y : ℕ) → w.two_bytes ≡ false
    → row_bytes samples c w y
    ≡ map (λ x. samples c (w.left + x) (w.top + y) % 256) (range_with_len 0 w.width)
byte_row samples c w y one =
    ap (λ two. flat_map (λ x. sample_bytes two (samples c (w.left + x) (w.top + y))) (range_with_len 0 w.width)) one
    ∙ flat_map_single (λ x. samples c (w.left + x) (w.top + y) % 256) (range_with_len 0 w.width)

byte_rows : (samples : Samples) (c : ℕ) (w : Window) (ys : List ℕ) → w.two_bytes ≡ false
    → concat (map (row_bytes samples c w) ys)
    ≡ concat (map (λ y. map (λ x. samples c (w.left + x) (w.top + y) % 256) (range_with_len 0 w.width)) ys)
byte_rows samples c w [] one = refl
byte_rows samples c w (y ∷ ys) one =
    ap (λ l. l ++ concat (map (row_bytes samples c w) ys)) (byte_row samples c w y one)
    ∙ ap (λ l. map (λ x. samples c (w.left + x) (w.top + y) % 256) (range_with_len 0 w.width) ++ l)
    (byte_rows samples c w ys one)

window_bytes : (samples : Samples) (c : ℕ) (w : Window) (l : List ℕ) → w.two_bytes ≡ false
    → length l ≡ w.width * w.height
    → ((x y : ℕ) → x < w.width → y < w.height
    → samples c (w.left + x) (w.top + y) ≡ get_or l (w.width * y + x) 0)
    → ((x y : ℕ) → x < w.width → y < w.height → get_or l (w.width * y + x) 0 < 256) → plane_bytes samples c w ≡ l
unfolding plane_bytes
window_bytes samples c w l one count is low =
    byte_rows samples c w (range_with_len 0 w.height) one
    ∙ rows_are w.width w.height 0 l (λ x y. samples c (w.left + x) (w.top + y) % 256) count
    (λ x y few down.
    let on : 0 + y ≡ y = omega arith in
    ap (λ k. samples c (w.left + x) (w.top + k) % 256) on
    ∙ low_byte (samples c (w.left + x) (w.top + y)) (get_or l (w.width * y + x) 0) (is x y few down)
    (low x y few down))

at_window : (samples : Samples) (c x y v : ℕ) → samples c x y ≡ v → samples c (0 + x) (0 + y) ≡ v
at_window samples c x y v e =
    let right : 0 + x ≡ x = omega arith in
    let down : 0 + y ≡ y = omega arith in
    ap (λ k. samples c k (0 + y)) right ∙ ap (samples c x) down ∙ e

three_parts : (a b c d e f : List ℕ) → a ≡ d → b ≡ e → c ≡ f → a ++ (b ++ c) ≡ d ++ (e ++ f)
three_parts a b c d e f p q r =
    ap (λ l. l ++ (b ++ c)) p ∙ ap (λ l. d ++ (l ++ c)) q ∙ ap (λ l. d ++ (e ++ l)) r

pub shown_bytes : (seed j : ℕ) (out : OutPicture) → IsShown seed j out → bytes_out out ≡ bytes_drawn seed j
unfolding picture_bytes window_of
shown_bytes seed j out is =
    let p : Planes = planes_of seed j in
    let sizes : HasSizes p = sizes_are seed j in
    let bytes : AreBytes p = bytes_are seed j in
    ap (λ format. picture_bytes format out.samples) is.format
    ∙ three_parts _ _ _ p.luma p.cb p.cr
    (window_bytes out.samples 0 (window_of made_format 0) p.luma refl sizes.luma
    (λ x y few low. at_window out.samples 0 x y _ (is.samples 0 x y (omega arith) few low))
    (λ x y few low. bytes 0 x y (omega arith) few low))
    (window_bytes out.samples 1 (window_of made_format 1) p.cb refl sizes.cb
    (λ x y few low. at_window out.samples 1 x y _ (is.samples 1 x y (omega arith) few low))
    (λ x y few low. bytes 1 x y (omega arith) few low))
    (window_bytes out.samples 2 (window_of made_format 2) p.cr refl sizes.cr
    (λ x y few low. at_window out.samples 2 x y _ (is.samples 2 x y (omega arith) few low))
    (λ x y few low. bytes 2 x y (omega arith) few low))

written_bytes : (seed k : ℕ) (numbers : List ℕ) (out : List OutPicture) → AreShown seed numbers out
    → concat (written form.I420 k out) ≡ concat (map (bytes_drawn seed) numbers)
written_bytes seed k [] [] are = refl
written_bytes seed k [] (o ∷ out) are = absurd are
written_bytes seed k (n ∷ numbers) [] are = absurd are
written_bytes seed k (n ∷ numbers) (o ∷ out) are =
    ap (λ l. l ++ concat (written form.I420 (suc k) out)) (shown_bytes seed n o are.0)
    ∙ ap (λ l. bytes_drawn seed n ++ l) (written_bytes seed (suc k) numbers out are.1)

pub stream_bytes : (hash : Bool) (seed n : ℕ) → bytes_of form.I420 (decoded hash true (made seed n))
    ≡ concat (map (bytes_drawn seed) (map (shown_at n) (range_with_len 0 n)))
stream_bytes hash seed n =
    written_bytes seed 0 (map (shown_at n) (range_with_len 0 n)) (decoded hash true (made seed n)).pictures
    (goes_out hash seed n).shown
