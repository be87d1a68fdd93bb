-- Names of spec_stated_hashes that crates above take from here.
unfoldable pub use Rattle.spec_stated_hashes.specs.Digests.{digest_of}
