-- What is told of pictures that are decoded one after the other.
use Rattle.std.specs.Prelude.{◌≡◌, List, [], ◌∷◌, Option, Some, None}
use Rattle.hv_base.specs.declared.refusal.Stop.{Stop}
use Rattle.hv_base.specs.Stops.{stopped_at}
use Rattle.picture_buffer.specs.Pictures.{HeldPicture}
use Rattle.picture_trees.specs.declared.trees.ReadError.{ReadError}
use Rattle.picture_trees.specs.declared.trees.ReadError.TheVariants as error

-- what is told of a picture that isn't decoded: what its data break, where there was memory for it
abbrev pub TellsError : ReadError → Option Stop → Type 0
TellsError error.Memory fault = ⊥
TellsError (error.Broken breach nal ctu) fault = fault ≡ Some (stopped_at nal (Some ctu) breach)

-- the list of a picture, if there is one
abbrev pub some_picture : Option HeldPicture → List HeldPicture
some_picture None = []
some_picture (Some picture) = picture ∷ []
