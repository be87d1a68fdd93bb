-- Rows that are written one after the other.
use Rattle.std.proofs.Common.{◌≡◌, ℕ, ◌+◌, ◌-◌, ◌≤◌, List, ◌++◌, Option, Result, Ok, Err, OnErr, sym, subst, arith}
use Rattle.header_types.specs.declared.sps.PictureFormat.{PictureFormat}
use Rattle.hv_io.specs.Streams.{Gains, GainsPrefix}
use Rattle.hv_io.proofs.StreamLemmas.{Gains-nil, Gains-append, GainsPrefix-append, GainsPrefix-front}
use Rattle.spec_picture_build.specs.Border.{Samples}
use Rattle.spec_picture_build.specs.Output.{Window, plane_bytes, picture_bytes, window_of}
use Rattle.yuv_writer.specs.Parts.{upper, below}
use Rattle.yuv_writer.proofs.Rows.{no_rows, rows_more}

pub on_err : {X E P : Type 0} (r : Result X E) → P → OnErr r P
on_err (Ok x) p = tt
on_err (Err e) p = p

-- no row is written
pub none_written : (a : Option (List ℕ)) (s : Samples) (c : ℕ) (w : Window) → Gains a a (plane_bytes s c (upper w 0))
none_written a s c w = subst (Gains a a) (sym (no_rows s c w)) (Gains-nil a)

-- some rows more
pub rows_written : (before now after : Option (List ℕ)) (s : Samples) (c : ℕ) (w part : Window) (a b : ℕ)
    → part ≡ below w a b
    → Gains before now (plane_bytes s c (upper w a)) → Gains now after (plane_bytes s c part)
    → Gains before after (plane_bytes s c (upper w (a + b)))
rows_written before now after s c w part a b e p q =
    subst (Gains before after) (sym (rows_more s c w a b))
    (Gains-append before now after _ _ p (subst (λ (v : Window). Gains now after (plane_bytes s c v)) e q))

-- a write that failed in some rows
pub rows_cut : (before now after : Option (List ℕ)) (s : Samples) (c : ℕ) (w part : Window) (a b : ℕ)
    → part ≡ below w a b → a + b ≤ w.height
    → Gains before now (plane_bytes s c (upper w a)) → GainsPrefix now after (plane_bytes s c part)
    → GainsPrefix before after (plane_bytes s c w)
rows_cut before now after s c w part a b is le p q =
    let e : a + b + (w.height - (a + b)) ≡ w.height = omega arith in
    let cut = subst (λ (v : Window). GainsPrefix now after (plane_bytes s c v)) is q in
    let some =
    subst (GainsPrefix before after) (sym (rows_more s c w a b)) (GainsPrefix-append before now after _ _ p cut) in
    let all =
    subst (GainsPrefix before after) (sym (rows_more s c w (a + b) (w.height - (a + b))))
    (GainsPrefix-front before after _ (plane_bytes s c (below w (a + b) (w.height - (a + b)))) some) in
    subst (λ (n : ℕ). GainsPrefix before after (plane_bytes s c (upper w n))) e all

-- a write that failed in Cb, and in Cr
pub cut_in_cb : (before luma after : Option (List ℕ)) (s : Samples) (format : PictureFormat) (w v : Window)
    → w ≡ window_of format 0 → v ≡ window_of format 1
    → Gains before luma (plane_bytes s 0 w) → GainsPrefix luma after (plane_bytes s 1 v)
    → GainsPrefix before after (picture_bytes format s)
unfolding picture_bytes
cut_in_cb before luma after s format w v e f p q =
    GainsPrefix-append before luma after (plane_bytes s 0 (window_of format 0))
    (plane_bytes s 1 (window_of format 1) ++ plane_bytes s 2 (window_of format 2))
    (subst (λ (x : Window). Gains before luma (plane_bytes s 0 x)) e p)
    (GainsPrefix-front luma after (plane_bytes s 1 (window_of format 1)) (plane_bytes s 2 (window_of format 2))
    (subst (λ (x : Window). GainsPrefix luma after (plane_bytes s 1 x)) f q))

pub cut_in_cr : (before luma cb after : Option (List ℕ)) (s : Samples) (format : PictureFormat) (w v u : Window)
    → w ≡ window_of format 0 → v ≡ window_of format 1 → u ≡ window_of format 2
    → Gains before luma (plane_bytes s 0 w) → Gains luma cb (plane_bytes s 1 v)
    → GainsPrefix cb after (plane_bytes s 2 u) → GainsPrefix before after (picture_bytes format s)
unfolding picture_bytes
cut_in_cr before luma cb after s format w v u e f g p q r =
    GainsPrefix-append before luma after (plane_bytes s 0 (window_of format 0))
    (plane_bytes s 1 (window_of format 1) ++ plane_bytes s 2 (window_of format 2))
    (subst (λ (x : Window). Gains before luma (plane_bytes s 0 x)) e p)
    (GainsPrefix-append luma cb after (plane_bytes s 1 (window_of format 1)) (plane_bytes s 2 (window_of format 2))
    (subst (λ (x : Window). Gains luma cb (plane_bytes s 1 x)) f q)
    (subst (λ (x : Window). GainsPrefix cb after (plane_bytes s 2 x)) g r))
