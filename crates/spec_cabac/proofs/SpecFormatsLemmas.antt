-- Names of spec_formats that crates above take from here.
pub use Rattle.spec_formats.proofs.Agreement.{again, agree, bind_ok, found, ok_is, only}
