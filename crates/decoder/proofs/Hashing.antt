-- Planes against the hashes that are stated for them.
use Rattle.std.proofs.Common.{◌≡◌, ℕ, zero, suc, ◌+◌, ◌<◌, ◌≤◌, List, [], ◌∷◌, ◌++◌, length, get_or, map, drop}
use Rattle.std.proofs.Common.{Option}
use Rattle.std.proofs.Common.{Some, None}
use Rattle.std.proofs.Common.{refl, sym, ap, subst, ◌∙◌, append-nil, arith}
use Rattle.std.specs.List.{concat, range_with_len}
use Rattle.std.proofs.lemmas.List.{drop_all}
use Rattle.std.proofs.lemmas.List.FromFn.{fill_by_all, map-range_with_len_more}
use Rattle.std.proofs.lemmas.List.Folds.{concat-append}
use Rattle.hv_base.specs.declared.digest.Digest.{Digest}
use Rattle.hv_base.specs.declared.fault.Fault.{Fault}
use Rattle.header_types.specs.declared.sps.PictureFormat.{PictureFormat}
use Rattle.plan_types.specs.declared.stated_hash.StatedHash.{StatedHash}
use Rattle.spec_stated_hashes.specs.Digests.{digest_of}
use Rattle.hash_sei.specs.PlaneHash.{plane_hash}
use Rattle.spec_picture_build.specs.Border.{Samples}
use Rattle.picture_buffer.specs.Pictures.{HeldPicture}
use Rattle.picture_buffer.specs.Planes.{HasSides, PictureSamples, plane_height, plane_width, samples_of}
use Rattle.row_jobs.specs.PictureBuild.{decoded_of}
use Rattle.spec_picture_build.specs.References.{DecodedPicture, format_height, format_width}
use Rattle.spec_picture_plan.specs.Closing.{or_later}
use Rattle.spec_decoder.specs.Hashes.{bit_depth, computed_hash, first_mismatch, mismatch_at, mismatch_by, mismatch_of}
use Rattle.spec_decoder.specs.Hashes.{plane_samples}
use Rattle.spec_decoder.specs.Hashes.{row_samples, rows_samples}
use Rattle.decoder.specs.declared.hashes.PlaneDigests.{PlaneDigests}
use Rattle.decoder.specs.Digests.{AreComputed}
use Rattle.decoder.proofs.Writes.{drop-next}

-- no row
pub no-rows : (s : Samples) (c width : ℕ) → rows_samples s c width 0 ≡ []
unfolding rows_samples
no-rows s c width = refl

-- a row by its samples
row-is : (s : Samples) (c width y : ℕ) (xs : List ℕ) → length xs ≡ width
    → ((x : ℕ) → x < width → get_or xs x 0 ≡ s c x y) → xs ≡ row_samples s c width y
row-is s c width y xs count told = fill_by_all (λ x. s c x y) xs width 0 count told

-- one row more
pub row-more : (s : Samples) (c width n : ℕ) (xs : List ℕ) → length xs ≡ width
    → ((x : ℕ) → x < width → get_or xs x 0 ≡ s c x n)
    → rows_samples s c width n ++ xs ≡ rows_samples s c width (n + 1)
unfolding rows_samples
row-more s c width n xs count told =
    let same : 0 + n ≡ n = omega arith in
    ap (λ (ys : List ℕ). rows_samples s c width n ++ ys) (row-is s c width n xs count told)
    ∙ sym (ap concat (map-range_with_len_more (row_samples s c width) 0 n n same)
    ∙ concat-append (map (row_samples s c width) (range_with_len 0 n)) (row_samples s c width n ∷ [])
    ∙ ap (λ (ys : List ℕ). rows_samples s c width n ++ ys) (append-nil (row_samples s c width n)))

-- the planes have the sides of the format
width-is : (p : PictureSamples) (f : PictureFormat) (c : ℕ) → c < 3
    → HasSides p f.pic_width_in_luma_samples f.pic_height_in_luma_samples → plane_width p c ≡ format_width f c
width-is p f zero lt s = s.luma_width
width-is p f (suc zero) lt s = s.cb_width
width-is p f (suc (suc zero)) lt s = s.cr_width
width-is p f (suc (suc (suc c))) lt s = absurd (omega (arith, lt))

height-is : (p : PictureSamples) (f : PictureFormat) (c : ℕ) → c < 3
    → HasSides p f.pic_width_in_luma_samples f.pic_height_in_luma_samples → plane_height p c ≡ format_height f c
height-is p f zero lt s = s.luma_height
height-is p f (suc zero) lt s = s.cb_height
height-is p f (suc (suc zero)) lt s = s.cr_height
height-is p f (suc (suc (suc c))) lt s = absurd (omega (arith, lt))

-- all rows of a plane
pub all-rows : (p : HeldPicture) (c : ℕ) → c < 3
    → HasSides p.planes p.format.pic_width_in_luma_samples p.format.pic_height_in_luma_samples
    → rows_samples (samples_of p.planes) c (plane_width p.planes c) (plane_height p.planes c)
    ≡ plane_samples (decoded_of p) c
all-rows p c lt s =
    ap (λ (w : ℕ). rows_samples (samples_of p.planes) c w (plane_height p.planes c)) (width-is p.planes p.format c lt s)
    ∙ ap (rows_samples (samples_of p.planes) c (format_width p.format c)) (height-is p.planes p.format c lt s)

-- one row more of the planes
pub row-told : (p q : PictureSamples) (c y : ℕ) (xs : List ℕ) → p ≡ q → length xs ≡ plane_width p c
    → ((x : ℕ) → x < plane_width p c → get_or xs x 0 ≡ samples_of p c x y)
    → rows_samples (samples_of q) c (plane_width q c) y ++ xs
    ≡ rows_samples (samples_of q) c (plane_width q c) (y + 1)
row-told p q c y xs is count told =
    subst (λ (r : PictureSamples). rows_samples (samples_of r) c (plane_width r c) y ++ xs
    ≡ rows_samples (samples_of r) c (plane_width r c) (y + 1)) is
    (row-more (samples_of p) c (plane_width p c) y xs count told)

-- the hash of all rows
pub hashed : (p : HeldPicture) (q : PictureSamples) (c y end : ℕ) (bytes : List ℕ) (d : Digest) → c < 3
    → HasSides p.planes p.format.pic_width_in_luma_samples p.format.pic_height_in_luma_samples → q ≡ p.planes
    → end ≡ plane_height q c → end ≤ y → y ≤ end → d ≡ digest_of bytes
    → bytes ≡ plane_hash (bit_depth p.format c)
    (rows_samples (samples_of p.planes) c (plane_width p.planes c) y)
    → d ≡ computed_hash (decoded_of p) c
unfolding computed_hash
hashed p q c y end bytes d lt sides is height le ge digest hash =
    let last : y ≡ end = omega (arith, le, ge) in
    let all : y ≡ plane_height p.planes c = last ∙ height ∙ ap (λ (r : PictureSamples). plane_height r c) is in
    digest
    ∙ ap digest_of (hash
    ∙ ap (λ (n : ℕ). plane_hash (bit_depth p.format c)
    (rows_samples (samples_of p.planes) c (plane_width p.planes c) n)) all
    ∙ ap (plane_hash (bit_depth p.format c)) (all-rows p c lt sides))

-- ---- the planes of a unit

-- a unit by what was computed
by-computed : (picture : DecodedPicture) (s : StatedHash) (d : PlaneDigests) → AreComputed picture d
    → or_later (mismatch_of s.nal 0 s.luma d.luma)
    (or_later (mismatch_of s.nal 1 s.cb d.cb) (mismatch_of s.nal 2 s.cr d.cr))
    ≡ mismatch_by picture s
unfolding mismatch_by
by-computed picture s d a =
    ap (λ (x : Digest). or_later (mismatch_of s.nal 0 s.luma x)
    (or_later (mismatch_of s.nal 1 s.cb d.cb) (mismatch_of s.nal 2 s.cr d.cr))) a.luma
    ∙ ap (λ (x : Digest). or_later (mismatch_at picture s.nal 0 s.luma)
    (or_later (mismatch_of s.nal 1 s.cb x) (mismatch_of s.nal 2 s.cr d.cr))) a.cb
    ∙ ap (λ (x : Digest). or_later (mismatch_at picture s.nal 0 s.luma)
    (or_later (mismatch_at picture s.nal 1 s.cb) (mismatch_of s.nal 2 s.cr x))) a.cr

later-is : (a b : Option Fault) (later : Option Fault) → a ≡ b → or_later a later ≡ or_later b later
later-is a b later e = ap (λ (f : Option Fault). or_later f later) e

-- Y hasn't its hash
pub luma-differs : (picture : DecodedPicture) (s : StatedHash) (d : PlaneDigests) (fault : Fault)
    → AreComputed picture d → Some fault ≡ mismatch_of s.nal 0 s.luma d.luma → Some fault ≡ mismatch_by picture s
luma-differs picture s d fault a luma =
    later-is (Some fault) (mismatch_of s.nal 0 s.luma d.luma)
    (or_later (mismatch_of s.nal 1 s.cb d.cb) (mismatch_of s.nal 2 s.cr d.cr)) luma
    ∙ by-computed picture s d a

-- Y has, and the first of Cb and Cr that hasn't decides
pub chroma-decides : (picture : DecodedPicture) (s : StatedHash) (d : PlaneDigests) (r : Option Fault)
    → AreComputed picture d → None ≡ mismatch_of s.nal 0 s.luma d.luma
    → r ≡ or_later (mismatch_of s.nal 1 s.cb d.cb) (mismatch_of s.nal 2 s.cr d.cr) → r ≡ mismatch_by picture s
chroma-decides picture s d r a luma chroma =
    chroma
    ∙ later-is None (mismatch_of s.nal 0 s.luma d.luma)
    (or_later (mismatch_of s.nal 1 s.cb d.cb) (mismatch_of s.nal 2 s.cr d.cr)) luma
    ∙ by-computed picture s d a

-- Cb hasn't
pub cb-differs : (picture : DecodedPicture) (s : StatedHash) (d : PlaneDigests) (fault : Fault)
    → AreComputed picture d → None ≡ mismatch_of s.nal 0 s.luma d.luma → Some fault ≡ mismatch_of s.nal 1 s.cb d.cb
    → Some fault ≡ mismatch_by picture s
cb-differs picture s d fault a luma cb =
    chroma-decides picture s d (Some fault) a luma
    (later-is (Some fault) (mismatch_of s.nal 1 s.cb d.cb) (mismatch_of s.nal 2 s.cr d.cr) cb)

-- Cb has, and Cr decides
pub cr-decides : (picture : DecodedPicture) (s : StatedHash) (d : PlaneDigests) (r : Option Fault)
    → AreComputed picture d → None ≡ mismatch_of s.nal 0 s.luma d.luma → None ≡ mismatch_of s.nal 1 s.cb d.cb
    → r ≡ mismatch_of s.nal 2 s.cr d.cr → r ≡ mismatch_by picture s
cr-decides picture s d r a luma cb cr =
    chroma-decides picture s d r a luma
    (cr ∙ later-is None (mismatch_of s.nal 1 s.cb d.cb) (mismatch_of s.nal 2 s.cr d.cr) cb)

-- ---- unit after unit

-- no unit states any
pub no-unit : (picture : DecodedPicture) (stated : List StatedHash) → length stated ≡ 0
    → None ≡ first_mismatch picture stated
unfolding first_mismatch
no-unit picture [] none = refl
no-unit picture (s ∷ stated) none = absurd (omega (arith, none))

-- the first mismatch is that of those that are left
pub next-none : (picture : DecodedPicture) (s : StatedHash) (later : List StatedHash) → None ≡ mismatch_by picture s
    → first_mismatch picture (s ∷ later) ≡ first_mismatch picture later
unfolding first_mismatch
next-none picture s later none =
    ap (λ (f : Option Fault). or_later f (first_mismatch picture later)) (sym none)

pub next-some : (picture : DecodedPicture) (s : StatedHash) (later : List StatedHash) (fault : Fault)
    → Some fault ≡ mismatch_by picture s → first_mismatch picture (s ∷ later) ≡ Some fault
unfolding first_mismatch
next-some picture s later fault some =
    ap (λ (f : Option Fault). or_later f (first_mismatch picture later)) (sym some)

-- ---- among the units that are left

-- the next one has no mismatch
pub left-none : (picture : DecodedPicture) (all : List StatedHash) (i : ℕ) (s d : StatedHash) → i < length all
    → s ≡ get_or all i d → None ≡ mismatch_by picture s
    → first_mismatch picture (drop i all) ≡ first_mismatch picture all
    → first_mismatch picture (drop (i + 1) all) ≡ first_mismatch picture all
left-none picture all i s d lt is none left =
    sym (ap (first_mismatch picture) (drop-next all i s d lt is)
    ∙ next-none picture s (drop (i + 1) all) none)
    ∙ left

-- it has one
pub left-some : (picture : DecodedPicture) (all : List StatedHash) (i : ℕ) (s d : StatedHash) (fault : Fault)
    → i < length all → s ≡ get_or all i d → Some fault ≡ mismatch_by picture s
    → first_mismatch picture (drop i all) ≡ first_mismatch picture all
    → Some fault ≡ first_mismatch picture all
left-some picture all i s d fault lt is some left =
    sym (ap (first_mismatch picture) (drop-next all i s d lt is)
    ∙ next-some picture s (drop (i + 1) all) fault some)
    ∙ left

-- none of them has
pub passed-all : (picture : DecodedPicture) (all : List StatedHash) (i : ℕ) → length all ≤ i
    → first_mismatch picture (drop i all) ≡ first_mismatch picture all
    → None ≡ first_mismatch picture all
unfolding first_mismatch
passed-all picture all i le left = ap (first_mismatch picture) (sym (drop_all i all le)) ∙ left
