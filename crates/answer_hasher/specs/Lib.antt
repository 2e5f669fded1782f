pub use Rattle.denial_nsec3_sha1.specs.Iterated
