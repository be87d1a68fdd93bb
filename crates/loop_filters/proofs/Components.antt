-- Components of a format.
use Rattle.std.proofs.Common.{◌≡◌, ℕ, zero, suc, ◌/◌, ◌%◌, ◌<◌, refl, sym, ◌∙◌, arith}
use Rattle.spec_loop_filters.specs.SpecDeblocking.{Luma}
use Rattle.spec_loop_filters.specs.declared.format.FilterFormat.{FilterFormat}
use Rattle.spec_loop_filters.specs.Filters.{height_of, width_of}
use Rattle.picture_buffer.specs.Planes.{HasSides, PictureSamples, plane_height, plane_width}
use Rattle.loop_filters.specs.declared.component.Component.{Component}
use Rattle.loop_filters.specs.Formats.{IsComponent, IsFormat, halved, rows_of}
use Rattle.loop_filters.proofs.Chroma.{half_covered}

abbrev pub luma_of : FilterFormat → ℕ → Component
luma_of format c = record {
  c = c;
  plane = Luma;
  depth = format.luma_depth;
  width = format.width;
  height = format.height;
  size = format.ctb_size;
  place_log2 = 2;
  places = format.width / 4;
  rows = rows_of format;
}

cb_one : (format : FilterFormat) → IsFormat format
    → IsComponent format (halved format (luma_of format 1) format.pps_cb_qp_offset)
cb_one format f =
    let even_w : format.width % 2 ≡ 0 = omega (arith, f.columns) in
    let even_h : format.height % 2 ≡ 0 = omega (arith, f.lines) in
    let even_s : format.ctb_size % 2 ≡ 0 = omega (arith, f.grid) in
    let some : 0 < format.ctb_size = omega (arith, f.size.0) in
    record {
      c = omega arith;
      is_plane = record {
        depth = f.chroma_depth;
        width = (omega (arith, f.width.0), omega (arith, f.width.1));
        height = (omega (arith, f.height.0), omega (arith, f.height.1));
        columns = omega (arith, f.columns);
        lines = omega (arith, f.lines);
      };
      plane = refl;
      depth = refl;
      width = refl;
      height = refl;
      size = refl;
      place_side = refl;
      place_few = omega arith;
      places = refl;
      rows = refl;
      size_few = (omega (arith, f.size.0), omega (arith, f.size.1));
      grid = omega (arith, f.grid);
      wide = half_covered format.width format.ctb_size even_w even_s some;
      high = half_covered format.height format.ctb_size even_h even_s some;
      across = omega (arith, f.columns);
      down = omega (arith, f.lines);
      block = omega (arith, f.grid);
    }

pub cb_is : (format : FilterFormat) (c : ℕ) → c ≡ 1 → IsFormat format
    → IsComponent format (halved format (luma_of format c) format.pps_cb_qp_offset)
cb_is format c e f = rw e (cb_one format f)

cr_one : (format : FilterFormat) → IsFormat format
    → IsComponent format (halved format (luma_of format 2) format.pps_cr_qp_offset)
cr_one format f =
    let even_w : format.width % 2 ≡ 0 = omega (arith, f.columns) in
    let even_h : format.height % 2 ≡ 0 = omega (arith, f.lines) in
    let even_s : format.ctb_size % 2 ≡ 0 = omega (arith, f.grid) in
    let some : 0 < format.ctb_size = omega (arith, f.size.0) in
    record {
      c = omega arith;
      is_plane = record {
        depth = f.chroma_depth;
        width = (omega (arith, f.width.0), omega (arith, f.width.1));
        height = (omega (arith, f.height.0), omega (arith, f.height.1));
        columns = omega (arith, f.columns);
        lines = omega (arith, f.lines);
      };
      plane = refl;
      depth = refl;
      width = refl;
      height = refl;
      size = refl;
      place_side = refl;
      place_few = omega arith;
      places = refl;
      rows = refl;
      size_few = (omega (arith, f.size.0), omega (arith, f.size.1));
      grid = omega (arith, f.grid);
      wide = half_covered format.width format.ctb_size even_w even_s some;
      high = half_covered format.height format.ctb_size even_h even_s some;
      across = omega (arith, f.columns);
      down = omega (arith, f.lines);
      block = omega (arith, f.grid);
    }

pub cr_is : (format : FilterFormat) (c : ℕ) → c ≡ 2 → IsFormat format
    → IsComponent format (halved format (luma_of format c) format.pps_cr_qp_offset)
cr_is format c e f = rw e (cr_one format f)

once : (n : ℕ) → n ≡ n / 1
once n = omega arith

widths : (p : PictureSamples) (format : FilterFormat) (c : ℕ) → c < 3 → HasSides p format.width format.height
    → plane_width p c ≡ width_of format c
widths p format zero lt sides = sides.luma_width ∙ once format.width
widths p format (suc zero) lt sides = sides.cb_width
widths p format (suc (suc zero)) lt sides = sides.cr_width
widths p format (suc (suc (suc c))) lt sides = absurd (omega (arith, lt))

heights : (p : PictureSamples) (format : FilterFormat) (c : ℕ) → c < 3 → HasSides p format.width format.height
    → plane_height p c ≡ height_of format c
heights p format zero lt sides = sides.luma_height ∙ once format.height
heights p format (suc zero) lt sides = sides.cb_height
heights p format (suc (suc zero)) lt sides = sides.cr_height
heights p format (suc (suc (suc c))) lt sides = absurd (omega (arith, lt))

-- the sides of a component's plane
pub width_is : (p : PictureSamples) (format : FilterFormat) (component : Component) → IsComponent format component
    → HasSides p format.width format.height → plane_width p component.c ≡ component.width
width_is p format component e sides = widths p format component.c e.c sides ∙ sym e.width

pub height_is : (p : PictureSamples) (format : FilterFormat) (component : Component) → IsComponent format component
    → HasSides p format.width format.height → plane_height p component.c ≡ component.height
height_is p format component e sides = heights p format component.c e.c sides ∙ sym e.height
