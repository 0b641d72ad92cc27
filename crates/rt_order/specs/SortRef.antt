-- The sort value that a borrowed one is of.
use Rattle.rt_order.specs.declared.index.SortRef.{SortRef}
use Rattle.rt_order.specs.declared.index.SortRef.TheVariants as ref
use Rattle.rt_order.specs.Values.{SortValue, Null, Plain, Object}

abbrev pub value_of : SortRef → SortValue
value_of ref.Null = Null
value_of (ref.Leaf l) = Plain l.now
value_of ref.Object = Object
