-- What a value is sorted by, and the order of values.
use Rattle.std.specs.Prelude.{ℕ, true, false}
use Rattle.std.specs.declared.cmp.Ordering.{Ordering}
use Rattle.std.specs.declared.cmp.Ordering.TheVariants.{Equal}
use Rattle.std.specs.Ordering.{ordering_then, nat_cmp, int_cmp}
use Rattle.rt_tree.specs.Leaf.{LeafValue, truth, number, text}
use Rattle.rt_order.specs.KeyOrder.{bytes_cmp}

-- what a value is sorted by: an object by nothing but that it is one
pub data SortValue : Type 0 where
  Null : SortValue
  Plain : LeafValue → SortValue
  Object : SortValue

-- null, false, true, numbers, texts, objects
abbrev pub rank : SortValue → ℕ
rank Null = 0
rank (Plain (truth false)) = 1
rank (Plain (truth true)) = 2
rank (Plain (number n)) = 3
rank (Plain (text s)) = 4
rank Object = 5

-- numbers by size and texts by bytes; any two others of one rank are equal
abbrev pub within_rank_cmp : SortValue → SortValue → Ordering
within_rank_cmp (Plain (number m)) (Plain (number n)) = int_cmp m n
within_rank_cmp (Plain (text s)) (Plain (text t)) = bytes_cmp s t
within_rank_cmp _ _ = Equal

-- the order of values
abbrev pub value_cmp : SortValue → SortValue → Ordering
value_cmp v w = ordering_then (nat_cmp (rank v) (rank w)) (within_rank_cmp v w)
