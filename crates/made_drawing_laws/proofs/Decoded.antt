-- What goes out of a made stream is the pictures that are drawn of its seed.
use Rattle.std.proofs.Common.{◌≡◌, ℕ, suc, List, [], ◌∷◌, None, map, pos, refl, ap, ◌∙◌}
use Rattle.std.specs.List.{concat}
use Rattle.spec_decoder.specs.declared.form.Form.TheVariants as form
use Rattle.spec_decoder.specs.Decoder.{Decoded}
use Rattle.spec_decoder.specs.Output.{OutPicture, bytes_out, written}
use Rattle.spec_drawn_pictures.specs.Shown.{IsBefore, bytes_drawn, order_count, shown}
use Rattle.made_laws.specs.Outputs.{IsBefore as IsPlannedBefore}
use Rattle.made_decoding_laws.specs.Shown.{AreShown, IsShown, bytes_drawn as bytes_made}
use Rattle.made_drawing_laws.specs.Decoded.{IsAsDrawn}
use Rattle.made_drawing_laws.proofs.Drawn.{bytes_are}

module _ (seed : ℕ) where
  orders_are : (numbers : List ℕ) (out : List OutPicture) → AreShown seed numbers out
      → map (λ (o : OutPicture). o.poc) out ≡ map (λ j. pos (order_count j)) numbers
  orders_are [] [] are = refl
  orders_are [] (o ∷ out) are = absurd are
  orders_are (n ∷ numbers) [] are = absurd are
  orders_are (n ∷ numbers) (o ∷ out) are =
      ap (λ poc. poc ∷ map (λ (p : OutPicture). p.poc) out) are.0.poc
      ∙ ap (λ l. pos (order_count n) ∷ l) (orders_are numbers out are.1)

  -- by the bytes of each picture that goes out
  pictures_are : ((j : ℕ) (o : OutPicture) → IsShown seed j o → bytes_out o ≡ bytes_made seed j)
      → (numbers : List ℕ) (out : List OutPicture) → AreShown seed numbers out
      → map bytes_out out ≡ map (bytes_drawn seed) numbers
  pictures_are each [] [] are = refl
  pictures_are each [] (o ∷ out) are = absurd are
  pictures_are each (n ∷ numbers) [] are = absurd are
  pictures_are each (n ∷ numbers) (o ∷ out) are =
      ap (λ bytes. bytes ∷ map bytes_out out) (each n o are.0 ∙ bytes_are seed n)
      ∙ ap (λ l. bytes_drawn seed n ∷ l) (pictures_are each numbers out are.1)

  pieces_are : (k : ℕ) (out : List OutPicture) → written form.I420 k out ≡ map bytes_out out
  pieces_are k [] = refl
  pieces_are k (o ∷ out) = ap (λ l. bytes_out o ∷ l) (pieces_are (suc k) out)

  pub as_drawn : (n : ℕ) (d : Decoded)
      → ((j : ℕ) (o : OutPicture) → IsShown seed j o → bytes_out o ≡ bytes_made seed j) → d.stop ≡ None
      → AreShown seed (shown n) d.pictures → IsAsDrawn seed n d
  as_drawn n d each ok are =
      let each_is : map bytes_out d.pictures ≡ map (bytes_drawn seed) (shown n) =
      pictures_are each (shown n) d.pictures are in
      record {
        ok = ok;
        orders = orders_are (shown n) d.pictures are;
        each = each_is;
        bytes = ap concat (pieces_are 0 d.pictures ∙ each_is);
      }

-- the order of planned pictures is that of drawn ones
pub before_is : (i j : ℕ) → IsPlannedBefore i j → IsBefore i j
before_is i j is = record { group = is.group; order = is.order }
