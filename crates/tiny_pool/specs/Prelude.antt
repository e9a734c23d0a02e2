-- The words of this crate, for those that use it.
pub use Rattle.tiny_pool.specs.Places.{IsTableOf, numbers_in, places_in}
pub use Rattle.tiny_pool.specs.Seen.{Adds, HasSeen, or_else, place_from}
