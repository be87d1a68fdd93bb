-- Names of ctu_records that crates above take from here.
pub use Rattle.ctu_records.specs.declared.item.Item.{Item}
pub use Rattle.ctu_records.specs.declared.offset.ComponentOffset.{ComponentOffset}
pub use Rattle.ctu_records.specs.declared.offset.ComponentOffset.TheVariants.{Band, Edge, Off}
pub use Rattle.ctu_records.specs.declared.offset.Sao.{Sao}
pub use Rattle.ctu_records.specs.declared.prediction.Mv.{Mv}
pub use Rattle.ctu_records.specs.declared.prediction.Rectangle.{Rectangle}
