-- A coding tree unit before anything of it is read, by what a view tells of the units before it (6.4.1).
use Rattle.std.specs.Prelude.{◌≡◌, ℕ, ◌+◌, ◌-◌, ◌*◌, ◌^◌, ◌<◌, Bool, true, false, [], nat_lt, if◌then◌else◌}
use Rattle.ctu_records.specs.declared.side.Side.{Side}
use Rattle.ctu_records.specs.declared.offset.Sao.{Sao}
use Rattle.ctu_records.specs.Tree.{Ctu, side}
use Rattle.spec_slice_data.specs.declared.syntax.CtuSyntax.{CtuSyntax}
use Rattle.spec_slice_data.specs.Offset.{no_sao}
use Rattle.coding_quadtree.specs.declared.unit_place.UnitPlace.{UnitPlace}

-- how many places beside a unit of n places are available: those that the picture has, where there is a unit in the
-- slice
abbrev pub available : Bool → ℕ → ℕ → ℕ
available there places n = if there then (if nat_lt places n then places else n) else 0

-- how many places are available on the left of a unit
abbrev pub on_left : CtuSyntax → UnitPlace → ℕ
on_left syntax place = available syntax.has_left syntax.lower (2 ^ place.size)

-- how many are available above it
abbrev pub on_top : CtuSyntax → UnitPlace → ℕ
on_top syntax place = available syntax.has_above syntax.right (2 ^ place.size)

-- the unit at a place, by what was read of the place of each luma sample before it
unfoldable pub ctu_begins : CtuSyntax → UnitPlace → (ℕ → ℕ → Side) → Ctu
ctu_begins syntax place side_at = record {
  size = place.size;
  left = side (on_left syntax place) (λ k. side_at (place.x - 1) (place.y + 4 * k));
  above = side (on_top syntax place) (λ k. side_at (place.x + 4 * k) (place.y - 1));
  sao = no_sao;
  quantization = record { last = place.last_qp; predicted = place.last_qp; qp = place.last_qp; coded = false };
  items = [];
}

-- sample adaptive offset of a unit, if there is one in the slice
abbrev pub sao_where : Bool → Sao → Sao
sao_where there sao = if there then sao else no_sao

-- the sample adaptive offset of the unit on the left
abbrev pub left_sao : CtuSyntax → UnitPlace → (ℕ → Sao) → Sao
left_sao syntax place sao_at = sao_where syntax.has_left (sao_at (place.address - 1))

-- that of the unit above
abbrev pub above_sao : CtuSyntax → UnitPlace → (ℕ → Sao) → Sao
above_sao syntax place sao_at = sao_where syntax.has_above (sao_at (place.address - place.width))

-- the places on the left and above that are available were read, and the units there
pub record IsCovered (syntax : CtuSyntax) (place : UnitPlace) (covers : ℕ → ℕ → Bool)
    (covers_unit : ℕ → Bool) : Type 0 where
  pub x : place.x < 65536
  pub y : place.y < 65536
  pub left : (k : ℕ) → k < on_left syntax place → covers (place.x - 1) (place.y + 4 * k) ≡ true
  pub above : (k : ℕ) → k < on_top syntax place → covers (place.x + 4 * k) (place.y - 1) ≡ true
  pub left_unit : syntax.has_left ≡ true → covers_unit (place.address - 1) ≡ true
  pub above_unit : syntax.has_above ≡ true → covers_unit (place.address - place.width) ≡ true
