use Rattle.std.proofs.Common.{◌≡◌, ◌+◌, ◌*◌, true, [], ◌++◌, ap, ◌∙◌, rules, List, ℕ}
use Rattle.spec_made.specs.PcmRows.{parts_from, part_bytes}
use Rattle.cabac_writer.specs.Coding.{no_bins}
use Rattle.spec_made.specs.Bends.{bent_end}
use Rattle.made_rows.specs.Small.{before_words}
use Rattle.made_rows.proofs.Parts.{row_joined_by}
use Rattle.made_rows.proofs.bent_rows.bent_pcm_row.Goals as goal

pub returns-clause-bytes : goal.returns-clause-bytes
returns-clause-bytes c =
    let joined = row_joined_by (λ l. bent_end c.args.kind (8 * c.args.r + 7) (no_bins, l)) c.args.units.now c.args.r
    c.args.contexts c.in_ok-behind.behind c.in_ok-last.last c.requires.row c.in_ok-behind.ensures.behind
    c.in_ok-last.ensures.behind in
    let two : List ℕ = part_bytes (parts_from c.args.units.now (8 * c.args.r) 2 []) c.args.contexts in
    let six : List ℕ =
    part_bytes (parts_from c.args.units.now (8 * c.args.r + 2) 6 (before_words true)) c.in_ok-behind.behind in
    let first : c.append_from.new.row.items ≡ two = search rules in
    let second : c.append_from-2.new.row.items ≡ two ++ six =
    c.in_ok-last.ensures.bytes ∙ ap (λ l. l ++ six) first in
    let third : c.extend_from_slice.new.self.items ≡ c.append_from-2.new.row.items ++ c.in_ok-end.end.items =
    search rules in
    third ∙ ap (λ l. l ++ c.in_ok-end.end.items) second ∙ ap (λ l. (two ++ six) ++ l) c.in_ok-end.ensures ∙ joined
