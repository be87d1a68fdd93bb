-- Rows that are hashed one after the other.
use Rattle.std.proofs.Common.{◌≡◌, ℕ, ◌+◌, ◌≤◌, List, [], ◌++◌, sym, ap, subst, ◌∙◌, append_assoc, append-nil, arith}
use Rattle.header_types.specs.declared.sps.PictureFormat.{PictureFormat}
use Rattle.md5.specs.Md5.{Holds}
use Rattle.md5.specs.declared.Md5.{Md5}
use Rattle.spec_picture_build.specs.Border.{Samples}
use Rattle.spec_picture_build.specs.Output.{Window, picture_bytes, plane_bytes, window_of}
use Rattle.yuv_writer.specs.Parts.{upper, below}
use Rattle.yuv_writer.proofs.Rows.{no_rows, rows_more}

-- one hash has these bytes more than another
abbrev pub Adds : Md5 → Md5 → List ℕ → Type 0
Adds before after bytes = (m : List ℕ) → Holds before m → Holds after (m ++ bytes)

-- no row is hashed
pub none_held : (h : Md5) (s : Samples) (c : ℕ) (w : Window) → Adds h h (plane_bytes s c (upper w 0))
none_held h s c w = λ m held.
    subst (Holds h) (sym (ap (λ (zs : List ℕ). m ++ zs) (no_rows s c w) ∙ append-nil m)) held

-- some rows more
pub rows_held : (before now after : Md5) (s : Samples) (c : ℕ) (w part : Window) (a b : ℕ) → part ≡ below w a b
    → Adds before now (plane_bytes s c (upper w a)) → Adds now after (plane_bytes s c part)
    → Adds before after (plane_bytes s c (upper w (a + b)))
rows_held before now after s c w part a b is p q = λ m held.
    subst (Holds after)
    (append_assoc m (plane_bytes s c (upper w a)) (plane_bytes s c (below w a b))
    ∙ ap (λ (zs : List ℕ). m ++ zs) (sym (rows_more s c w a b)))
    (subst (λ (v : Window). Holds after ((m ++ plane_bytes s c (upper w a)) ++ plane_bytes s c v)) is
    (q (m ++ plane_bytes s c (upper w a)) (p m held)))

-- all rows
pub all_held : (before after : Md5) (s : Samples) (c : ℕ) (w : Window) (n : ℕ) → n ≤ w.height → w.height ≤ n
    → Adds before after (plane_bytes s c (upper w n)) → Adds before after (plane_bytes s c w)
all_held before after s c w n some all p =
    let e : n ≡ w.height = omega (arith, some, all) in
    subst (λ (k : ℕ). Adds before after (plane_bytes s c (upper w k))) e p

-- the planes of a picture
pub picture_held : (first luma cb cr : Md5) (s : Samples) (format : PictureFormat) (w v u : Window)
    → w ≡ window_of format 0 → v ≡ window_of format 1 → u ≡ window_of format 2
    → Holds first []
    → Adds first luma (plane_bytes s 0 w) → Adds luma cb (plane_bytes s 1 v) → Adds cb cr (plane_bytes s 2 u)
    → Holds cr (picture_bytes format s)
unfolding picture_bytes
picture_held first luma cb cr s format w v u e f g none p q r =
    let held = r (plane_bytes s 0 w ++ plane_bytes s 1 v) (q (plane_bytes s 0 w) (p [] none)) in
    subst (Holds cr)
    (append_assoc (plane_bytes s 0 w) (plane_bytes s 1 v) (plane_bytes s 2 u)
    ∙ ap (λ (x : Window). plane_bytes s 0 x ++ (plane_bytes s 1 v ++ plane_bytes s 2 u)) e
    ∙ ap (λ (x : Window). plane_bytes s 0 (window_of format 0) ++ (plane_bytes s 1 x ++ plane_bytes s 2 u)) f
    ∙ ap (λ (x : Window). plane_bytes s 0 (window_of format 0)
    ++ (plane_bytes s 1 (window_of format 1) ++ plane_bytes s 2 x)) g)
    held
