-- The laws of nodes and stores that the proofs here use.
pub use Rattle.art_nodes.proofs.StoreChanges.{leaf_laws, inner_laws}
