-- The line that sums up what is decoded to the pictures that are drawn of a seed.
use Rattle.std.proofs.Common.{◌≡◌, ℕ, length, sym, ap, ◌∙◌}
use Rattle.std.proofs.lemmas.List.{length-map}
use Rattle.std.proofs.lemmas.List.FromFn.{length-map-range_with_len}
use Rattle.spec_decoder.specs.declared.form.Form.TheVariants as form
use Rattle.spec_decoder.specs.Decoder.{Decoded, bytes_of}
use Rattle.spec_decoder.specs.Output.{bytes_out}
use Rattle.spec_drawn_pictures.specs.Shown.{bytes_drawn, bytes_shown, shown, shown_at}
use Rattle.made_drawing_laws.specs.Decoded.{IsAsDrawn}
use Rattle.command_line.specs.Summary.{summary_line, summary_of}

module _ (seed pictures : ℕ) (d : Decoded) (is : IsAsDrawn seed pictures d) where
  -- so many pictures go out
  count_is : length d.pictures ≡ pictures
  count_is =
      sym (length-map d.pictures bytes_out) ∙ ap length is.each ∙ length-map (shown pictures) (bytes_drawn seed)
      ∙ length-map-range_with_len (shown_at pictures) 0 pictures

  pub summary_is : summary_of d ≡ summary_line pictures (bytes_shown seed pictures)
  summary_is =
      ap (λ n. summary_line n (bytes_of form.I420 d)) count_is ∙ ap (summary_line pictures) is.bytes
