-- That of the plain listens kept none is at or above another: what rt_query says of plain queries.
pub use Rattle.rt_query.specs.Apart.{plain_spots, do_plains_overlap}
