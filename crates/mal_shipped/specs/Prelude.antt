-- The words of this crate, for those that use it.
pub use Rattle.mal_shipped.specs.Listing.{ListingRow, addresses1, addresses2, addresses_of, listed_program, table1, table2, text_of, unlined, without_line}
unfoldable pub use Rattle.mal_shipped.specs.Listing.{program1, program2, rows1, rows2}
pub use Rattle.mal_shipped.specs.Loaded.{IsLoaded, IsLoadedFor}
pub use Rattle.mal_shipped.specs.Shipped.{HasShipped, statement_among}
unfoldable pub use Rattle.mal_shipped.specs.Shipped.{shipped}
