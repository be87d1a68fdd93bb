-- Which pictures of a buffer stay.
use Rattle.std.proofs.Common.{◌≡◌, ℕ, zero, suc, ◌+◌, ◌-◌, ◌^◌, ◌<◌, ◌≤◌, true, false, Bool, List, [], ◌∷◌, ◌++◌}
use Rattle.std.proofs.Common.{length, take, get_or}
use Rattle.std.proofs.Common.{drop, refl, sym, ap, subst, ◌∙◌, append_assoc, append-nil, arith}
use Rattle.std.specs.Prelude.{if◌then◌else◌, Option, Some, None, min, slice_get}
use Rattle.std.specs.List.{remove}
use Rattle.std.proofs.Math.Seq.{take-length, drop-length}
use Rattle.std.proofs.lemmas.List.{length-take-le}
use Rattle.std.proofs.lemmas.List.Edits.{length-remove, remove-append_right}
use Rattle.spec_picture_build.specs.References.{DecodedPicture}
use Rattle.spec_decoder.specs.Decoder.{BufferPicture, is_among, kept_from, pictures_in}
use Rattle.spec_decoder.specs.Output.{told_number}
use Rattle.picture_buffer.specs.Pictures.{HeldPicture}
use Rattle.row_jobs.specs.PictureBuild.{decoded_of}
use Rattle.row_jobs.specs.PictureBuild.{buffer_of as bases_of}
use Rattle.decoder.specs.declared.tag.Tag.{Tag}
use Rattle.decoder.specs.Buffers.{HeldBuffer, all_tagged, buffer_of, tagged}

-- a list up to a place, the item there, and what stands behind it
at-place : {A : Type 0} → (n : ℕ) (xs : List A) → n < length xs
    → (x : A) × ((drop n xs ≡ x ∷ drop (suc n) xs) × (take (suc n) xs ≡ take n xs ++ x ∷ []))
at-place n [] lt = absurd (omega (arith, lt))
at-place zero (x ∷ xs) lt = (x, (refl, refl))
at-place (suc n) (x ∷ xs) lt =
    let less : n < length xs = omega (arith, lt) in
    let r = at-place n xs less in
    (r.0, (r.1.0, ap (λ ys. x ∷ ys) r.1.1))

either : (b : Bool) (c : Bool) (x : BufferPicture) (later : List BufferPicture) → b ≡ c
    → (if b then x ∷ later else later) ≡ (if c then x ∷ later else later)
either b c x later e = ap (λ (d : Bool). if d then x ∷ later else later) e

-- what stays of a picture and of those behind it
kept-next : (places : List ℕ) (n : ℕ) (pictures : List BufferPicture) (x : BufferPicture) (b : Bool)
    → drop n pictures ≡ x ∷ drop (suc n) pictures → is_among places n ≡ b
    → kept_from places n (drop n pictures)
    ≡ (if b then x ∷ kept_from places (suc n) (drop (suc n) pictures)
    else kept_from places (suc n) (drop (suc n) pictures))
unfolding kept_from
kept-next places n pictures x b next is =
    ap (kept_from places n) next ∙ either (is_among places n) b x (kept_from places (suc n) (drop (suc n) pictures)) is

-- nothing was taken out yet
pub keeps-first : (places : List ℕ) (pictures : List BufferPicture)
    → pictures ≡ take (length pictures) pictures ++ kept_from places (length pictures) (drop (length pictures) pictures)
unfolding kept_from
keeps-first places pictures =
    sym (append-nil pictures)
    ∙ ap (λ (ps : List BufferPicture). ps ++ []) (sym (take-length pictures))
    ∙ ap (λ (ps : List BufferPicture). take (length pictures) pictures ++ kept_from places (length pictures) ps)
    (sym (drop-length pictures))

before : (places : List ℕ) (old now : List BufferPicture) (n : ℕ) (x : BufferPicture)
    → take (suc n) old ≡ take n old ++ x ∷ []
    → now ≡ take (suc n) old ++ kept_from places (suc n) (drop (suc n) old)
    → now ≡ take n old ++ x ∷ kept_from places (suc n) (drop (suc n) old)
before places old now n x front is =
    is ∙ ap (λ (ps : List BufferPicture). ps ++ kept_from places (suc n) (drop (suc n) old)) front
    ∙ append_assoc (take n old) (x ∷ []) (kept_from places (suc n) (drop (suc n) old))

-- the picture before those that were judged stays
pub keeps-one : (places : List ℕ) (old now : List BufferPicture) (n : ℕ) → n < length old → is_among places n ≡ true
    → now ≡ take (suc n) old ++ kept_from places (suc n) (drop (suc n) old)
    → now ≡ take n old ++ kept_from places n (drop n old)
keeps-one places old now n lt among is =
    let r = at-place n old lt in
    before places old now n r.0 r.1.1 is
    ∙ ap (λ (ps : List BufferPicture). take n old ++ ps) (sym (kept-next places n old r.0 true r.1.0 among))

-- or is taken out
pub frees-one : (places : List ℕ) (old now : List BufferPicture) (n : ℕ) → n < length old → is_among places n ≡ false
    → now ≡ take (suc n) old ++ kept_from places (suc n) (drop (suc n) old)
    → remove now n ≡ take n old ++ kept_from places n (drop n old)
frees-one places old now n lt among is =
    let r = at-place n old lt in
    let later : List BufferPicture = kept_from places (suc n) (drop (suc n) old) in
    let none : n - n ≡ 0 = omega arith in
    let le : n ≤ length old = omega (arith, lt) in
    let same : n ≤ n = omega arith in
    ap (λ (ps : List BufferPicture). remove ps n) (before places old now n r.0 r.1.1 is)
    ∙ remove-append_right (take n old) (r.0 ∷ later) n n (length-take-le n old le) same
    ∙ ap (λ (i : ℕ). take n old ++ remove (r.0 ∷ later) i) none
    ∙ ap (λ (ps : List BufferPicture). take n old ++ ps) (sym (kept-next places n old r.0 false r.1.0 among))

-- ---- over the pictures that a buffer holds

-- as many tags as pictures
abbrev pub AreEven : HeldBuffer → Type 0
AreEven b = length b.tags ≡ length b.pictures

pub length-tagged : (tags : List Tag) (held : List HeldPicture) → length tags ≡ length held
    → length (all_tagged tags held) ≡ length held
length-tagged [] [] e = refl
length-tagged [] (p ∷ held) e = absurd (omega (arith, e))
length-tagged (t ∷ tags) [] e = absurd (omega (arith, e))
length-tagged (t ∷ tags) (p ∷ held) e =
    let less : length tags ≡ length held = omega (arith, e) in
    ap suc (length-tagged tags held less)

-- the decoded pictures are those that are held
pub pictures-tagged : (tags : List Tag) (held : List HeldPicture) → length tags ≡ length held
    → pictures_in (all_tagged tags held) ≡ bases_of held
pictures-tagged [] [] e = refl
pictures-tagged [] (p ∷ held) e = absurd (omega (arith, e))
pictures-tagged (t ∷ tags) [] e = absurd (omega (arith, e))
pictures-tagged (t ∷ tags) (p ∷ held) e =
    let less : length tags ≡ length held = omega (arith, e) in
    ap (λ (ps : List DecodedPicture). decoded_of p ∷ ps) (pictures-tagged tags held less)

-- a picture behind the last
pub tagged-more : (tags : List Tag) (held : List HeldPicture) (t : Tag) (p : HeldPicture) → length tags ≡ length held
    → all_tagged (tags ++ t ∷ []) (held ++ p ∷ []) ≡ all_tagged tags held ++ tagged t p ∷ []
tagged-more [] [] t p e = refl
tagged-more [] (q ∷ held) t p e = absurd (omega (arith, e))
tagged-more (u ∷ tags) [] t p e = absurd (omega (arith, e))
tagged-more (u ∷ tags) (q ∷ held) t p e =
    let less : length tags ≡ length held = omega (arith, e) in
    ap (λ (ps : List BufferPicture). tagged u q ∷ ps) (tagged-more tags held t p less)

-- one picture less
tagged-remove : (tags : List Tag) (held : List HeldPicture) (n : ℕ) → length tags ≡ length held
    → all_tagged (remove tags n) (remove held n) ≡ remove (all_tagged tags held) n
tagged-remove [] [] zero e = refl
tagged-remove [] [] (suc n) e = refl
tagged-remove [] (p ∷ held) n e = absurd (omega (arith, e))
tagged-remove (t ∷ tags) [] n e = absurd (omega (arith, e))
tagged-remove (t ∷ tags) (p ∷ held) zero e = refl
tagged-remove (t ∷ tags) (p ∷ held) (suc n) e =
    let less : length tags ≡ length held = omega (arith, e) in
    ap (λ (ps : List BufferPicture). tagged t p ∷ ps) (tagged-remove tags held n less)

-- what is told of the picture at a place, and the picture, where both are there
abbrev pub both_at : Option Tag → Option HeldPicture → Option BufferPicture
both_at None p = None
both_at (Some t) None = None
both_at (Some t) (Some p) = Some (tagged t p)

no_picture : (t : Option Tag) → both_at t None ≡ None
no_picture None = refl
no_picture (Some t) = refl

pub tagged_at : (tags : List Tag) (held : List HeldPicture) (n : ℕ)
    → slice_get (all_tagged tags held) n ≡ both_at (slice_get tags n) (slice_get held n)
tagged_at [] held n = refl
tagged_at (t ∷ tags) [] n = sym (no_picture (slice_get (t ∷ tags) n))
tagged_at (t ∷ tags) (p ∷ held) zero = refl
tagged_at (t ∷ tags) (p ∷ held) (suc n) = tagged_at tags held n

-- no picture behind the last
pub at-none : (tags : List Tag) (held : List HeldPicture) (n : ℕ) → length tags ≤ n
    → None ≡ slice_get (all_tagged tags held) n
at-none [] held n le = refl
at-none (t ∷ tags) [] n le = refl
at-none (t ∷ tags) (p ∷ held) zero le = absurd (omega (arith, le))
at-none (t ∷ tags) (p ∷ held) (suc n) le =
    let less : length tags ≤ n = omega (arith, le) in
    at-none tags held n less

got : (tags : List Tag) (n : ℕ) (t : Tag) → n < length tags → t ≡ get_or tags n t → Some t ≡ slice_get tags n
got [] n t lt is = absurd (omega (arith, lt))
got (u ∷ tags) zero t lt is = ap (λ (v : Tag). let r : Option Tag = Some v in r) is
got (u ∷ tags) (suc n) t lt is =
    let less : n < length tags = omega (arith, lt) in
    got tags n t less is

-- the picture at a place, with what is told of it
pub at-some : (tags : List Tag) (held : List HeldPicture) (n : ℕ) (t : Tag) (p : HeldPicture) → n < length tags
    → t ≡ get_or tags n t → Some p ≡ slice_get held n → Some (tagged t p) ≡ slice_get (all_tagged tags held) n
at-some tags held n t p lt tag picture =
    ap (both_at (Some t)) picture
    ∙ ap (λ (o : Option Tag). both_at o (slice_get held n)) (got tags n t lt tag)
    ∙ sym (tagged_at tags held n)

-- which of them stay, behind those that are still to be judged
abbrev pub Keeps : List ℕ → HeldBuffer → ℕ → HeldBuffer → Type 0
Keeps places old n now = buffer_of now ≡ take n (buffer_of old) ++ kept_from places n (drop n (buffer_of old))

pub held-first : (places : List ℕ) (b : HeldBuffer) → AreEven b → Keeps places b (length b.pictures) b
held-first places b even =
    subst (λ (n : ℕ). buffer_of b ≡ take n (buffer_of b) ++ kept_from places n (drop n (buffer_of b)))
    (length-tagged b.tags b.pictures even)
    (keeps-first places (buffer_of b))

less-one : (places : List ℕ) (old now : HeldBuffer) (n : ℕ) → 0 < n → Keeps places old n now
    → Keeps places old (suc (n - 1)) now
less-one places old now n some k =
    let e : n ≡ suc (n - 1) = omega (arith, some) in
    subst (λ (m : ℕ). Keeps places old m now) e k

-- one buffer after its picture at a place was judged
pub record Judged (places : List ℕ) (n : ℕ) (old new : HeldBuffer) : Type 0 where
  pub tags : new.tags ≡ (if is_among places n then old.tags else remove old.tags n)
  pub pictures : new.pictures ≡ (if is_among places n then old.pictures else remove old.pictures n)

judged-as : (b : Bool) (n : ℕ) (old : HeldBuffer) → AreEven old
    → all_tagged (if b then old.tags else remove old.tags n) (if b then old.pictures else remove old.pictures n)
    ≡ (if b then buffer_of old else remove (buffer_of old) n)
judged-as true n old even = refl
judged-as false n old even = tagged-remove old.tags old.pictures n even

judged-is : (places : List ℕ) (n : ℕ) (old new : HeldBuffer) → AreEven old → Judged places n old new
    → buffer_of new ≡ (if is_among places n then buffer_of old else remove (buffer_of old) n)
judged-is places n old new even j =
    ap (λ (ts : List Tag). all_tagged ts new.pictures) j.tags
    ∙ ap (all_tagged (if is_among places n then old.tags else remove old.tags n)) j.pictures
    ∙ judged-as (is_among places n) n old even

kept-one : (places : List ℕ) (old now : List BufferPicture) (n : ℕ) (b : Bool) → n < length old
    → is_among places n ≡ b → now ≡ take (suc n) old ++ kept_from places (suc n) (drop (suc n) old)
    → (if b then now else remove now n) ≡ take n old ++ kept_from places n (drop n old)
kept-one places old now n true lt is k = keeps-one places old now n lt is k
kept-one places old now n false lt is k = frees-one places old now n lt is k

-- a picture is judged: what is left
pub held-next : (places : List ℕ) (old now new : HeldBuffer) (n : ℕ) → 0 < n → n ≤ length old.pictures
    → AreEven old → AreEven now → Judged places (n - 1) now new → Keeps places old n now
    → Keeps places old (n - 1) new
held-next places old now new n some le even level j k =
    let lt : n - 1 < length (buffer_of old) = omega (arith, some, le, length-tagged old.tags old.pictures even) in
    judged-is places (n - 1) now new level j
    ∙ kept-one places (buffer_of old) (buffer_of now) (n - 1) (is_among places (n - 1)) lt refl
    (less-one places old now n some k)

-- and how much
pub room-next : (now : List HeldPicture) (n : ℕ) (b : Bool) → 0 < n → n ≤ length now
    → n - 1 ≤ length (if b then now else remove now (n - 1))
room-next now n true some le = omega (arith, some, le)
room-next now n false some le =
    let lt : n - 1 < length now = omega (arith, some, le) in
    omega (arith, some, le, length-remove now (n - 1) lt)

pub held-all : (places : List ℕ) (old now : HeldBuffer) (n : ℕ) → n ≤ 0 → Keeps places old n now
    → buffer_of now ≡ kept_from places 0 (buffer_of old)
held-all places old now n none k =
    let e : n ≡ 0 = omega (arith, none) in
    subst (λ (m : ℕ). Keeps places old m now) e k

-- the number behind a picture
pub next_number : (k : ℕ) → told_number (k + 1) ≡ told_number (min (k + 1) (2 ^ 64 - 1))
next_number k = omega arith
