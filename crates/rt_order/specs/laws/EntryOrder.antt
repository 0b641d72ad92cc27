-- The orders of values and of entries are total, and tie only equal ones.
use Rattle.std.proofs.Common.{◌≡◌, ℕ, true, false, List, [], refl, sym, ap, ℤ, pos}
use Rattle.std.specs.declared.cmp.Ordering.{Ordering}
use Rattle.std.specs.declared.cmp.Ordering.TheVariants.{Less, Equal, Greater}
use Rattle.std.specs.Ordering.{ordering_then, nat_cmp, int_cmp, on, then_cmp}
use Rattle.std.specs.Cmp.{IsTotalOrder, nat_cmp_total, int_cmp_total, on_total, then_total}
use Rattle.std.specs.FinMap.{IsAntisymmetric, int_cmp-IsAntisymmetric}
use Rattle.rt_tree.specs.Leaf.{truth, number, text}
use Rattle.rt_tree.specs.PathTree.{Key}
use Rattle.rt_order.specs.KeyOrder.{bytes_cmp, key_cmp}
use Rattle.rt_order.specs.laws.KeyOrder.{total_as, first_tied, second_tied, bytes_cmp_total}
use Rattle.rt_order.specs.laws.KeyOrder.{bytes_cmp-IsAntisymmetric}
use Rattle.rt_order.specs.laws.KeyOrder.{key_cmp_total, key_cmp-IsAntisymmetric}
use Rattle.rt_order.specs.Values.{SortValue, Null, Plain, Object, rank, value_cmp}
use Rattle.rt_order.specs.Entries.{Entry, entry_cmp}

-- ---- values and entries

number_in : SortValue → ℤ
number_in Null = pos 0
number_in (Plain (truth b)) = pos 0
number_in (Plain (number n)) = n
number_in (Plain (text s)) = pos 0
number_in Object = pos 0

text_in : SortValue → List ℕ
text_in Null = []
text_in (Plain (truth b)) = []
text_in (Plain (number n)) = []
text_in (Plain (text s)) = s
text_in Object = []

value_parts : SortValue → SortValue → Ordering
value_parts = then_cmp (on rank nat_cmp) (then_cmp (on number_in int_cmp) (on text_in bytes_cmp))

then_equal : (o : Ordering) → ordering_then o Equal ≡ o
then_equal Less = refl
then_equal Equal = refl
then_equal Greater = refl

value_cmp-parts : (v w : SortValue) → value_cmp v w ≡ value_parts v w
unfolding value_parts number_in text_in
value_cmp-parts Null Null = refl
value_cmp-parts Null (Plain (truth false)) = refl
value_cmp-parts Null (Plain (truth true)) = refl
value_cmp-parts Null (Plain (number n)) = refl
value_cmp-parts Null (Plain (text t)) = refl
value_cmp-parts Null Object = refl
value_cmp-parts (Plain (truth false)) Null = refl
value_cmp-parts (Plain (truth false)) (Plain (truth false)) = refl
value_cmp-parts (Plain (truth false)) (Plain (truth true)) = refl
value_cmp-parts (Plain (truth false)) (Plain (number n)) = refl
value_cmp-parts (Plain (truth false)) (Plain (text t)) = refl
value_cmp-parts (Plain (truth false)) Object = refl
value_cmp-parts (Plain (truth true)) Null = refl
value_cmp-parts (Plain (truth true)) (Plain (truth false)) = refl
value_cmp-parts (Plain (truth true)) (Plain (truth true)) = refl
value_cmp-parts (Plain (truth true)) (Plain (number n)) = refl
value_cmp-parts (Plain (truth true)) (Plain (text t)) = refl
value_cmp-parts (Plain (truth true)) Object = refl
value_cmp-parts (Plain (number m)) Null = refl
value_cmp-parts (Plain (number m)) (Plain (truth false)) = refl
value_cmp-parts (Plain (number m)) (Plain (truth true)) = refl
value_cmp-parts (Plain (number m)) (Plain (number n)) = sym (then_equal (int_cmp m n))
value_cmp-parts (Plain (number m)) (Plain (text t)) = refl
value_cmp-parts (Plain (number m)) Object = refl
value_cmp-parts (Plain (text s)) Null = refl
value_cmp-parts (Plain (text s)) (Plain (truth false)) = refl
value_cmp-parts (Plain (text s)) (Plain (truth true)) = refl
value_cmp-parts (Plain (text s)) (Plain (number n)) = refl
value_cmp-parts (Plain (text s)) (Plain (text t)) = refl
value_cmp-parts (Plain (text s)) Object = refl
value_cmp-parts Object Null = refl
value_cmp-parts Object (Plain (truth false)) = refl
value_cmp-parts Object (Plain (truth true)) = refl
value_cmp-parts Object (Plain (number n)) = refl
value_cmp-parts Object (Plain (text t)) = refl
value_cmp-parts Object Object = refl

pub value_cmp_total : IsTotalOrder value_cmp
unfolding value_parts
value_cmp_total = total_as value_cmp-parts (then_total (on_total rank nat_cmp_total)
    (then_total (on_total number_in int_cmp_total) (on_total text_in bytes_cmp_total)))

pub entry_cmp_total : IsTotalOrder entry_cmp
entry_cmp_total = then_total (on_total (λ (e : Entry). e.0) value_cmp_total)
    (on_total (λ (e : Entry). e.1) key_cmp_total)

-- only equal values tie
pub value_cmp-IsAntisymmetric : IsAntisymmetric value_cmp
value_cmp-IsAntisymmetric Null Null e = refl
value_cmp-IsAntisymmetric Null (Plain (truth false)) e = cc
value_cmp-IsAntisymmetric Null (Plain (truth true)) e = cc
value_cmp-IsAntisymmetric Null (Plain (number n)) e = cc
value_cmp-IsAntisymmetric Null (Plain (text t)) e = cc
value_cmp-IsAntisymmetric Null Object e = cc
value_cmp-IsAntisymmetric (Plain (truth false)) Null e = cc
value_cmp-IsAntisymmetric (Plain (truth false)) (Plain (truth false)) e = refl
value_cmp-IsAntisymmetric (Plain (truth false)) (Plain (truth true)) e = cc
value_cmp-IsAntisymmetric (Plain (truth false)) (Plain (number n)) e = cc
value_cmp-IsAntisymmetric (Plain (truth false)) (Plain (text t)) e = cc
value_cmp-IsAntisymmetric (Plain (truth false)) Object e = cc
value_cmp-IsAntisymmetric (Plain (truth true)) Null e = cc
value_cmp-IsAntisymmetric (Plain (truth true)) (Plain (truth false)) e = cc
value_cmp-IsAntisymmetric (Plain (truth true)) (Plain (truth true)) e = refl
value_cmp-IsAntisymmetric (Plain (truth true)) (Plain (number n)) e = cc
value_cmp-IsAntisymmetric (Plain (truth true)) (Plain (text t)) e = cc
value_cmp-IsAntisymmetric (Plain (truth true)) Object e = cc
value_cmp-IsAntisymmetric (Plain (number m)) Null e = cc
value_cmp-IsAntisymmetric (Plain (number m)) (Plain (truth false)) e = cc
value_cmp-IsAntisymmetric (Plain (number m)) (Plain (truth true)) e = cc
value_cmp-IsAntisymmetric (Plain (number m)) (Plain (number n)) e =
    ap (λ x. Plain (number x)) (int_cmp-IsAntisymmetric m n e)
value_cmp-IsAntisymmetric (Plain (number m)) (Plain (text t)) e = cc
value_cmp-IsAntisymmetric (Plain (number m)) Object e = cc
value_cmp-IsAntisymmetric (Plain (text s)) Null e = cc
value_cmp-IsAntisymmetric (Plain (text s)) (Plain (truth false)) e = cc
value_cmp-IsAntisymmetric (Plain (text s)) (Plain (truth true)) e = cc
value_cmp-IsAntisymmetric (Plain (text s)) (Plain (number n)) e = cc
value_cmp-IsAntisymmetric (Plain (text s)) (Plain (text t)) e =
    ap (λ x. Plain (text x)) (bytes_cmp-IsAntisymmetric s t e)
value_cmp-IsAntisymmetric (Plain (text s)) Object e = cc
value_cmp-IsAntisymmetric Object Null e = cc
value_cmp-IsAntisymmetric Object (Plain (truth false)) e = cc
value_cmp-IsAntisymmetric Object (Plain (truth true)) e = cc
value_cmp-IsAntisymmetric Object (Plain (number n)) e = cc
value_cmp-IsAntisymmetric Object (Plain (text t)) e = cc
value_cmp-IsAntisymmetric Object Object e = refl

-- only equal entries tie
pub entry_cmp-IsAntisymmetric : IsAntisymmetric entry_cmp
entry_cmp-IsAntisymmetric d e h = λ i. (
  value_cmp-IsAntisymmetric d.0 e.0 (first_tied (value_cmp d.0 e.0) (key_cmp d.1 e.1) h) i,
  key_cmp-IsAntisymmetric d.1 e.1 (second_tied (value_cmp d.0 e.0) (key_cmp d.1 e.1) h) i,
)

-- of two objects neither is below the other, so they go by key
abbrev pub ObjectsGoByKey : Type 0
ObjectsGoByKey = (j k : Key) → entry_cmp (Object, j) (Object, k) ≡ key_cmp j k
