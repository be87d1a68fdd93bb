-- A list of 16 references.
use Rattle.std.proofs.Common.{◌≡◌, ℕ, ◌<◌, List, length, get_or}
use Rattle.std.proofs.lemmas.List.FromFn.{fill_by_all}
use Rattle.header_types.specs.declared.reference_pictures.RefEntry.{RefEntry}
use Rattle.spec_motion.specs.declared.vectors.Reference.{Reference}
use Rattle.spec_motion.specs.Vectors.{no_reference}
use Rattle.spec_picture_motion.specs.Slices.{reference_at, references}

pub listed : (entries : List RefEntry) (all : List Reference) → length all ≡ 16
    → ((k : ℕ) → k < 16 → get_or all k no_reference ≡ reference_at entries k) → all ≡ references entries
unfolding references
listed entries all full each = fill_by_all (reference_at entries) all 16 no_reference full each
