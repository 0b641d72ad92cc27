-- The words of what `Tree::object` asks of its children, and that an object without children may be.
pub use Rattle.rt_tree.specs.Trees.{object, AllFull, IsAllowed}
pub use Rattle.rt_tree.specs.Allowed.{allowed-null}
