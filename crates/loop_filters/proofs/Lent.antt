-- The samples of a component that are lent by the planes of a picture.
use Rattle.std.proofs.Common.{◌≡◌, ℕ, ◌*◌, ◌<◌, List, length, ap, sym, subst, ◌∙◌}
use Rattle.picture_buffer.specs.Planes.{HasSides, PictureSamples, plane_height, plane_samples, plane_width}
use Rattle.picture_buffer.specs.Planes.{samples_of}
use Rattle.picture_buffer.specs.Planes.{with_component}
use Rattle.picture_buffer.proofs.Lent.{read_at, written_at}
use Rattle.deblock.specs.Windows.{at}
use Rattle.spec_loop_filters.specs.declared.format.FilterFormat.{FilterFormat}
use Rattle.loop_filters.specs.declared.component.Component.{Component}
use Rattle.loop_filters.specs.Formats.{IsComponent}
use Rattle.loop_filters.proofs.Components.{height_is, width_is}

-- as many as the component has
pub lent_count : (p : PictureSamples) (format : FilterFormat) (component : Component) (n : ℕ)
    → IsComponent format component → HasSides p format.width format.height
    → n ≡ plane_width p component.c * plane_height p component.c → n ≡ component.width * component.height
lent_count p format component n is sides e =
    e ∙ ap (λ (w : ℕ). w * plane_height p component.c) (width_is p format component is sides)
    ∙ ap (λ (h : ℕ). component.width * h) (height_is p format component is sides)

-- those of the picture
pub lent_is : (p : PictureSamples) (format : FilterFormat) (component : Component) (samples : List ℕ)
    → IsComponent format component → HasSides p format.width format.height
    → samples ≡ plane_samples p component.c → (x y : ℕ) → x < component.width → y < component.height
    → at component.width samples x y ≡ samples_of p component.c x y
lent_is p format component samples is sides e x y a b =
    let w = width_is p format component is sides in
    let h = height_is p format component is sides in
    ap (λ (xs : List ℕ). at component.width xs x y) e
    ∙ ap (λ (n : ℕ). at n (plane_samples p component.c) x y) (sym w)
    ∙ sym (read_at p component.c x y is.c (subst (λ n. x < n) (sym w) a) (subst (λ n. y < n) (sym h) b))

-- and so are those that were written
pub given_is : (p : PictureSamples) (format : FilterFormat) (component : Component) (written : List ℕ)
    → IsComponent format component → HasSides p format.width format.height
    → length written ≡ length (plane_samples p component.c) → (x y : ℕ) → x < component.width → y < component.height
    → samples_of (with_component p component.c written) component.c x y ≡ at component.width written x y
given_is p format component written is sides e x y a b =
    let w = width_is p format component is sides in
    let h = height_is p format component is sides in
    written_at p component.c written x y is.c e (subst (λ n. x < n) (sym w) a) (subst (λ n. y < n) (sym h) b)
    ∙ ap (λ (n : ℕ). at n written x y) w
