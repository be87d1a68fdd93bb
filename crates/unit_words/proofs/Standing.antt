-- A word that has a content of a unit is the one at the index of that content.
use Rattle.std.proofs.Common.{ℕ, ap, sym, ◌∙◌}
use Rattle.hv_base.specs.declared.line.Line.{Line}
use Rattle.hv_base.specs.declared.line.Phase.TheVariants.{B}
use Rattle.sample_words.specs.declared.unit_content.UnitContent.{UnitContent}
use Rattle.sample_words.specs.Contents.{IsContent, content_value, expected_word, index_of}
use Rattle.sample_words.proofs.Contents.{content_found}
use Rattle.unit_words.specs.declared.done_unit.DoneUnit.{DoneUnit}
use Rattle.unit_words.specs.Work.{HasContent, HasWord, height, width}

pub words_stand : (d : DoneUnit) (content : UnitContent) (word : ℕ)
    → IsContent d.layout.now (width d) (height d) d.column content → HasContent d content word
    → HasWord d (index_of d.layout.now (width d) (height d) d.column content) word
unfolding expected_word
words_stand d content word is has = λ p picture holds.
    let line : Line = record { phase = B; picture = picture; row = d.row } in
    has p picture holds
    ∙ ap (content_value d.layout.now p line d.column)
    (sym (content_found d.layout.now (width d) (height d) d.column content is))
