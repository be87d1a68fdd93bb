-- Pictures that have the samples drawn have the hashes that are stated for them.
use Rattle.std.proofs.Common.{◌≡◌, ℕ, zero, suc, ◌+◌, ◌-◌, ◌*◌, ◌/◌, ◌%◌, ◌<◌, cond, Bool, true, false, List, []}
use Rattle.std.proofs.Common.{◌∷◌, get_or, length, Option, None, refl, sym, ap, subst, ◌∙◌, arith}
use Rattle.std.specs.Prelude.{◌==◌}
use Rattle.md5.specs.Md5.{md5}
use Rattle.hv_base.specs.declared.digest.Digest.{Digest}
use Rattle.hv_base.specs.declared.fault.Fault.{Fault}
use Rattle.hash_sei.specs.PlaneHash.{picture_data, plane_hash}
use Rattle.spec_stated_hashes.specs.Digests.{digest_of}
use Rattle.spec_picture_plan.specs.Closing.{or_later}
use Rattle.spec_picture_build.specs.References.{DecodedPicture}
use Rattle.spec_decoder.specs.Decoder.{compared}
use Rattle.spec_decoder.specs.Hashes.{bit_depth, computed_hash, first_mismatch, mismatch_at, mismatch_by, mismatch_of}
use Rattle.spec_decoder.specs.Hashes.{plane_samples, same_digest}
use Rattle.spec_made.specs.Draws.{motion_of, pcm_units_of, shift_of}
use Rattle.spec_made.specs.Planes.{Planes, mean_of, mean_planes, moved_planes}
use Rattle.spec_made.specs.Stream.{Making}
use Rattle.made_laws.specs.Plans.{made_plan}
use Rattle.made_laws.specs.Streams.{idr_picture, inter_picture, made_hash, making_at, picture_at, plan_of}
use Rattle.made_row_laws.proofs.Ranges.{are_drawn}
use Rattle.made_picture_laws.specs.Pictures.{AreBytes, IsDrawn, component_plane}
use Rattle.made_picture_laws.proofs.Planes.{length_16, length_8}
use Rattle.made_picture_laws.proofs.Predicted.{mean_at}
use Rattle.made_picture_laws.proofs.Tests.{both, same_test}
use Rattle.made_picture_laws.proofs.Vectors.{moved_bytes}
use Rattle.made_decoding_laws.specs.References.{AreMade, planes_of}
use Rattle.made_decoding_laws.proofs.Ranges.{are_made, pcm_bytes}
use Rattle.made_decoding_laws.proofs.Whole.{HasSizes, both_of, plane_drawn, sizes_are}

-- ---- their samples are bytes

mean_low : (a b : List ℕ) (k n : ℕ) → length a ≡ n → length b ≡ n → k < n → get_or a k 0 < 256 → get_or b k 0 < 256
    → get_or (mean_of a b) k 0 < 256
mean_low a b k n e f inside first second =
    subst (λ v. v < 256) (sym (mean_at a b k (omega (arith, e)) (omega (arith, f)))) (omega (arith, first, second))

mean_bytes : (p q : Planes) → HasSizes p → HasSizes q → AreBytes p → AreBytes q → AreBytes (mean_planes p q)
mean_bytes p q one two first second zero x y least few low =
    mean_low p.luma q.luma (128 * y + x) 12288 one.luma two.luma (omega arith) (first 0 x y least few low)
    (second 0 x y least few low)
mean_bytes p q one two first second (suc zero) x y least few low =
    mean_low p.cb q.cb (64 * y + x) 3072 one.cb two.cb (omega arith) (first 1 x y least few low)
    (second 1 x y least few low)
mean_bytes p q one two first second (suc (suc zero)) x y least few low =
    mean_low p.cr q.cr (64 * y + x) 3072 one.cr two.cr (omega arith) (first 2 x y least few low)
    (second 2 x y least few low)
mean_bytes p q one two first second (suc (suc (suc c))) x y least few low = absurd (omega arith)

bytes_by : (idr p : Bool) (one two : ℕ) (m : Making) → AreMade m
    → AreBytes (cond idr (idr_picture m) (cond p (inter_picture false one m) (inter_picture true two m))).planes
unfolding idr_picture inter_picture motion_of
bytes_by true p one two m made = pcm_bytes (pcm_units_of m.generator).0 (are_drawn m.generator)
bytes_by false true one two m made = moved_bytes m.last (shift_of m.generator).0 made.last
bytes_by false false one two m made =
    mean_bytes (moved_planes m.older (shift_of m.generator).0)
    (moved_planes m.last (shift_of (shift_of m.generator).1).0)
    (record { luma = length_16 _; cb = length_8 _; cr = length_8 _ })
    (record { luma = length_16 _; cb = length_8 _; cr = length_8 _ })
    (moved_bytes m.older (shift_of m.generator).0 made.older)
    (moved_bytes m.last (shift_of (shift_of m.generator).1).0 made.last)

pub bytes_are : (seed j : ℕ) → AreBytes (planes_of seed j)
unfolding picture_at
bytes_are seed j =
    bytes_by (j % 8 == 0) (j % 8 % 2 == 1) (j % 8 + 1) (j % 8 - 1) (making_at seed j) (are_made seed j)

-- ---- a byte a sample

data_is : (l : List ℕ) → ((k : ℕ) → k < length l → get_or l k 0 < 256) → picture_data 8 l ≡ l
data_is [] low = refl
data_is (v ∷ l) low =
    let first : v < 256 = low 0 (omega arith) in
    both_of (v % 256) v (picture_data 8 l) l (omega (arith, first))
    (data_is l (λ k inside. low (suc k) (omega arith)))

luma_low : (p : Planes) → HasSizes p → AreBytes p → (k : ℕ) → k < length p.luma → get_or p.luma k 0 < 256
luma_low p sizes bytes k inside =
    let at : 128 * (k / 128) + k % 128 ≡ k = omega arith in
    subst (λ i. get_or p.luma i 0 < 256) at
    (bytes 0 (k % 128) (k / 128) (omega arith) (omega arith) (omega (arith, inside, sizes.luma)))

cb_low : (p : Planes) → HasSizes p → AreBytes p → (k : ℕ) → k < length p.cb → get_or p.cb k 0 < 256
cb_low p sizes bytes k inside =
    let at : 64 * (k / 64) + k % 64 ≡ k = omega arith in
    subst (λ i. get_or p.cb i 0 < 256) at
    (bytes 1 (k % 64) (k / 64) (omega arith) (omega arith) (omega (arith, inside, sizes.cb)))

cr_low : (p : Planes) → HasSizes p → AreBytes p → (k : ℕ) → k < length p.cr → get_or p.cr k 0 < 256
cr_low p sizes bytes k inside =
    let at : 64 * (k / 64) + k % 64 ≡ k = omega arith in
    subst (λ i. get_or p.cr i 0 < 256) at
    (bytes 2 (k % 64) (k / 64) (omega arith) (omega arith) (omega (arith, inside, sizes.cr)))

-- ---- the hash of a component

component_low : (p : Planes) → HasSizes p → AreBytes p → (c : ℕ) → c < 3
    → picture_data 8 (component_plane p c) ≡ component_plane p c
component_low p sizes bytes zero least = data_is p.luma (luma_low p sizes bytes)
component_low p sizes bytes (suc zero) least = data_is p.cb (cb_low p sizes bytes)
component_low p sizes bytes (suc (suc zero)) least = data_is p.cr (cr_low p sizes bytes)
component_low p sizes bytes (suc (suc (suc c))) least = absurd (omega arith)

by_format : (p : Planes) (picture : DecodedPicture) → IsDrawn p picture → (c : ℕ) → c < 3
    → computed_hash picture c ≡ digest_of (plane_hash 8 (plane_samples picture c))
unfolding computed_hash
by_format p picture is zero least =
    ap (λ format. digest_of (plane_hash (bit_depth format 0) (plane_samples picture 0))) is.format
by_format p picture is (suc zero) least =
    ap (λ format. digest_of (plane_hash (bit_depth format 1) (plane_samples picture 1))) is.format
by_format p picture is (suc (suc zero)) least =
    ap (λ format. digest_of (plane_hash (bit_depth format 2) (plane_samples picture 2))) is.format
by_format p picture is (suc (suc (suc c))) least = absurd (omega arith)

pub hash_is : (p : Planes) (picture : DecodedPicture) → HasSizes p → AreBytes p → IsDrawn p picture → (c : ℕ) → c < 3
    → computed_hash picture c ≡ digest_of (md5 (component_plane p c))
unfolding plane_hash
hash_is p picture sizes bytes is c least =
    by_format p picture is c least ∙ ap (λ l. digest_of (plane_hash 8 l)) (plane_drawn p picture sizes is c least)
    ∙ ap (λ l. digest_of (md5 l)) (component_low p sizes bytes c least)

-- ---- nothing differs

none_when : (b : Bool) (f : Option Fault) → b ≡ true → cond b None f ≡ None
none_when true f e = refl
none_when false f e = absurd cc

none_differs : (nal c : ℕ) (stated computed : Digest) → computed ≡ stated → mismatch_of nal c stated computed ≡ None
none_differs nal c stated computed e =
    ap (mismatch_of nal c stated) e
    ∙ none_when (same_digest stated stated) _
    (both (stated.first == stated.first) (stated.last == stated.last) (same_test stated.first stated.first refl)
    (same_test stated.last stated.last refl))

three_none : (a b c : Option Fault) → a ≡ None → b ≡ None → c ≡ None → or_later a (or_later b c) ≡ None
three_none a b c e f g =
    ap (λ o. or_later o (or_later b c)) e ∙ ap (λ o. or_later o c) f ∙ g

agree_by : (p : Planes) (picture : DecodedPicture) (nal : ℕ) → HasSizes p → AreBytes p → IsDrawn p picture
    → first_mismatch picture (made_hash nal p ∷ []) ≡ None
unfolding first_mismatch mismatch_by
agree_by p picture nal sizes bytes is =
    ap (λ o. or_later o None)
    (three_none (mismatch_at picture nal 0 (digest_of (md5 p.luma))) (mismatch_at picture nal 1 (digest_of (md5 p.cb)))
    (mismatch_at picture nal 2 (digest_of (md5 p.cr)))
    (none_differs nal 0 _ _ (hash_is p picture sizes bytes is 0 (omega arith)))
    (none_differs nal 1 _ _ (hash_is p picture sizes bytes is 1 (omega arith)))
    (none_differs nal 2 _ _ (hash_is p picture sizes bytes is 2 (omega arith))))

pub hashes_agree : (hash : Bool) (seed j : ℕ) (picture : DecodedPicture) → IsDrawn (planes_of seed j) picture
    → compared hash (plan_of seed j) picture ≡ None
unfolding made_plan
hashes_agree true seed j picture is = agree_by (planes_of seed j) picture _ (sizes_are seed j) (bytes_are seed j) is
hashes_agree false seed j picture is = refl

pub drawn_plane : (seed j : ℕ) (picture : DecodedPicture) (c : ℕ) → IsDrawn (planes_of seed j) picture → c < 3
    → plane_samples picture c ≡ component_plane (planes_of seed j) c
drawn_plane seed j picture c is least = plane_drawn (planes_of seed j) picture (sizes_are seed j) is c least

pub drawn_hash : (seed j : ℕ) (picture : DecodedPicture) (c : ℕ) → IsDrawn (planes_of seed j) picture → c < 3
    → computed_hash picture c ≡ digest_of (md5 (component_plane (planes_of seed j) c))
drawn_hash seed j picture c is least =
    hash_is (planes_of seed j) picture (sizes_are seed j) (bytes_are seed j) is c least
