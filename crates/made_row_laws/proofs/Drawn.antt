-- The units of made pictures are spelled by what is written of them.
use Rattle.std.proofs.Common.{◌≡◌, ℕ, ◌+◌, ◌-◌, ◌*◌, ◌/◌, ◌%◌, ◌<◌, Bool, true, false, List, [], ◌∷◌}
use Rattle.std.proofs.Common.{◌++◌, length, get_or, refl, sym, ap, ◌∙◌, arith, subst, Option, Some, None}
use Rattle.std.proofs.Common.{append_assoc}
use Rattle.std.proofs.Common.{append-nil}
use Rattle.std.specs.Prelude.{◌==◌, is_some, if◌then◌else◌}
use Rattle.ctu_records.specs.declared.item.Item.{Item}
use Rattle.ctu_records.specs.Tree.{Ctu}
use Rattle.spec_formats.specs.Format.{Spells}
use Rattle.spec_cabac.specs.Bins.{Tree, PcmStart, PcmEnd}
use Rattle.cabac_writer.specs.Pulses.{sample_words, ending}
use Rattle.spec_slice_data.specs.declared.syntax.CtuSyntax.{CtuSyntax}
use Rattle.spec_slice_data.specs.declared.syntax.End.{End}
use Rattle.spec_slice_data.specs.declared.syntax.InterSyntax.{InterSyntax}
use Rattle.spec_slice_data.specs.Segment.{Between, has_left, has_above, syntax_at, unit_of, unit_at}
use Rattle.spec_slice_data.specs.Tree.{coding_tree_unit, unit_and_end}
use Rattle.spec_made.specs.declared.units.InterUnit.{InterUnit}
use Rattle.spec_made.specs.declared.units.Motion.{Motion}
use Rattle.spec_made.specs.declared.units.PcmUnit.{PcmUnit}
use Rattle.spec_made.specs.declared.units.Shift.{Shift}
use Rattle.spec_made.specs.Draws.{no_unit}
use Rattle.spec_made.specs.Written.{Bins}
use Rattle.spec_made.specs.InterRows.{left_of, above_of, later_motion, still_where}
use Rattle.spec_made.specs.PcmRows.{Part, no_samples, parts_of}
use Rattle.made_row_laws.specs.Shapes.{made_shape, made_inter, made_syntax, made_segment, idr_syntax}
use Rattle.made_row_laws.specs.Shapes.{predicted_syntax}
use Rattle.made_row_laws.specs.Units.{IsSecond, IsMotion, inter_items, pcm_items, left_side}
use Rattle.made_row_laws.specs.Units.{above_side, unit_drawn, units_drawn}
use Rattle.made_row_laws.specs.Words.{words_of_parts, inter_words, pcm_words, end_behind, flags_behind, pulses_of}
use Rattle.made_row_laws.specs.Answers.{IsDriven}
use Rattle.made_row_laws.proofs.Driving.{is_driven}
use Rattle.made_row_laws.proofs.Taking.{Takes, gives, then_takes, all_taken}
use Rattle.made_row_laws.proofs.Predicted.{placed}
use Rattle.made_row_laws.proofs.Quadtree.{begun, inter_taken}
use Rattle.made_row_laws.proofs.Pcm.{pcm_taken}
use Rattle.made_row_laws.proofs.Sides.{follows_taken, unit_inside, begins_as, inter_beside, pcm_beside}

-- a unit whose coding tree unit is known, with what follows it
at_taken : (inter : InterSyntax) (init_type : ℕ) (row : ℕ → List ℕ) (items : ℕ → List Item) (i : ℕ)
    (between : Between) (words rest : Bins)
    → i < 48 → between.units ≡ units_drawn items i → between.last ≡ 26
    → Takes (coding_tree_unit
    (placed inter (has_left made_shape (made_segment init_type row) i)
    (has_above made_shape (made_segment init_type row) i) (32 - 4 * (i % 8)) (24 - 4 * (i / 8)))
    (unit_of made_shape between (i - 1)).sao (unit_of made_shape between (i - 8)).sao
    (begun (left_side items i) (above_side items i))) (unit_drawn items i) words (flags_behind i ++ rest)
    → Takes (unit_at (made_syntax inter) made_shape (made_segment init_type row) i between)
    (unit_drawn items i, end_behind i) words rest
unfolding unit_and_end syntax_at
at_taken inter init_type row items i between words rest small is last t =
    let syntax : CtuSyntax = syntax_at (made_syntax inter) made_shape (made_segment init_type row) i in
    subst (λ (c : Ctu). Takes (unit_and_end syntax (unit_of made_shape between (i - 1)).sao
    (unit_of made_shape between (i - 8)).sao (i + 1 == 0 + 48) ((i + 1) % 8 == 0) c) (unit_drawn items i, end_behind i)
    words rest) (sym (begins_as init_type row items between i small is last))
    (then_takes t (then_takes (follows_taken i rest) (gives (unit_drawn items i, end_behind i) rest)))

-- ---- P and B pictures

second_small : (second : Option Shift) → IsSecond (still_where second)
second_small None = tt
second_small (Some s) = (omega arith, omega arith)

later_small : (m : Motion) → IsMotion (later_motion m)
later_small m = ((omega arith, omega arith), second_small m.second)

first_small : (b : Bool) (m : Motion) → IsMotion m → IsMotion (if b then m else later_motion m)
first_small true m small = small
first_small false m small = later_small m

both_later : (second : Option Shift) → is_some (still_where second) ≡ is_some second
both_later None = refl
both_later (Some s) = refl

both_first : (b : Bool) (m : Motion) → is_some (if b then m else later_motion m).second ≡ is_some m.second
both_first true m = refl
both_first false m = both_later m.second

pub inter_at : (init_type : ℕ) (row : ℕ → List ℕ) (m : Motion) (units : List InterUnit) (i : ℕ) (between : Between)
    (rest : Bins)
    → i < 48 → IsMotion m → between.units ≡ units_drawn (inter_items m units) i → between.last ≡ 26
    → Takes (unit_at (predicted_syntax m.second) made_shape (made_segment init_type row) i between)
    (unit_drawn (inter_items m units) i, end_behind i) (inter_words m units i ++ (flags_behind i ++ rest)) rest
unfolding unit_drawn inter_items inter_words
inter_at init_type row m units i between rest small fits is last =
    let first : Motion = if i == 0 then m else later_motion m in
    let items : ℕ → List Item = inter_items m units in
    at_taken (made_inter true (is_some m.second)) init_type row items i between
    (inter_words m units i ++ (flags_behind i ++ rest)) rest small is last
    (inter_taken (is_some m.second) (has_left made_shape (made_segment init_type row) i)
    (has_above made_shape (made_segment init_type row) i) (32 - 4 * (i % 8)) (24 - 4 * (i / 8))
    (unit_of made_shape between (i - 1)).sao (unit_of made_shape between (i - 8)).sao (left_side items i)
    (above_side items i) first (later_motion m) (left_of units i) (above_of units i) (get_or units i no_unit)
    (flags_behind i ++ rest) (unit_inside i small) (inter_beside m units i) (both_first (i == 0) m)
    (both_later m.second) (first_small (i == 0) m fits) (later_small m))

-- ---- IDR pictures

-- parts, and what follows them
pub parts_then : (parts : List Part) (rest : Bins) → words_of_parts parts rest ≡ words_of_parts parts [] ++ rest
parts_then [] rest = refl
parts_then (p ∷ parts) rest =
    let samples : Bins = sample_words (pulses_of p.samples) in
    let later : Bins = words_of_parts parts [] in
    ap (λ (l : Bins). (p.bins ++ ending) ++ (PcmStart, tt) ∷ (samples ++ (PcmEnd, tt) ∷ l)) (parts_then parts rest)
    ∙ ap (λ (l : Bins). (p.bins ++ ending) ++ (PcmStart, tt) ∷ l)
    (sym (append_assoc samples ((PcmEnd, tt) ∷ later) rest))
    ∙ sym (append_assoc (p.bins ++ ending) ((PcmStart, tt) ∷ (samples ++ (PcmEnd, tt) ∷ later)) rest)

pub pcm_at : (init_type : ℕ) (row : ℕ → List ℕ) (units : List PcmUnit) (i : ℕ) (between : Between) (rest : Bins)
    → i < 48 → length (get_or units i no_samples).samples ≡ 384 → between.units ≡ units_drawn (pcm_items units) i
    → between.last ≡ 26
    → Takes (unit_at idr_syntax made_shape (made_segment init_type row) i between)
    (unit_drawn (pcm_items units) i, end_behind i) (pcm_words units i ++ (flags_behind i ++ rest)) rest
unfolding unit_drawn pcm_items pcm_words
pcm_at init_type row units i between rest small long is last =
    let items : ℕ → List Item = pcm_items units in
    let u : PcmUnit = get_or units i no_samples in
    let format : Tree (Ctu × End) = unit_at idr_syntax made_shape (made_segment init_type row) i between in
    subst (λ (l : Bins). Takes format (unit_drawn items i, end_behind i) l rest)
    (parts_then (parts_of units i u []) (flags_behind i ++ rest))
    (at_taken (made_inter false false) init_type row items i between
    (words_of_parts (parts_of units i u []) (flags_behind i ++ rest)) rest small is last
    (pcm_taken (has_left made_shape (made_segment init_type row) i)
    (has_above made_shape (made_segment init_type row) i) (32 - 4 * (i % 8)) (24 - 4 * (i / 8))
    (unit_of made_shape between (i - 1)).sao (unit_of made_shape between (i - 8)).sao (left_side items i)
    (above_side items i) units i u (flags_behind i ++ rest) (unit_inside i small) (pcm_beside units i) long))

-- ---- with nothing behind

without : (words flags : Bins) → words ++ (flags ++ []) ≡ words ++ flags
without words flags = ap (λ (l : Bins). words ++ l) (append-nil flags)

pub spelled_alone : {X : Type 0} (format : Tree X) (x : X) (words flags : Bins)
    → Takes format x (words ++ (flags ++ [])) [] → Spells format x (words ++ flags)
spelled_alone format x words flags t =
    subst (λ (l : Bins). Spells format x l) (without words flags)
    (all_taken format x (words ++ (flags ++ [])) t)

pub driven_alone : {X : Type 0} (format : Tree X) (x : X) (words flags : Bins)
    → Takes format x (words ++ (flags ++ [])) [] → IsDriven format x (words ++ flags)
driven_alone format x words flags t =
    is_driven format x (words ++ flags) (spelled_alone format x words flags t)
