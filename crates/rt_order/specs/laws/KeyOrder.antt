-- The order of keys is total, and ties only equal keys.
use Rattle.std.proofs.Common.{◌≡◌, ℕ, length, refl, sym, subst, ◌∙◌, ℤ, pos, Option, Some, None}
use Rattle.std.specs.declared.cmp.Ordering.{Ordering}
use Rattle.std.specs.declared.cmp.Ordering.TheVariants.{Less, Equal, Greater}
use Rattle.std.specs.Ordering.{ordering_then, nat_cmp, int_cmp, on, then_cmp}
use Rattle.std.specs.Cmp.{IsTotalOrder, nat_cmp_total, int_cmp_total, on_total, then_total}
use Rattle.std.specs.Cmp.Lexicographic.{nat_list_cmp_total, lists_total}
use Rattle.std.specs.FinMap.{IsAntisymmetric, nat_cmp-IsAntisymmetric, slice_cmp-IsAntisymmetric}
use Rattle.rt_tree.specs.PathTree.{Key, path_cmp}
use Rattle.rt_order.specs.KeyOrder.{bytes_cmp, key_cmp, key_cmp_by, integer_of}

-- orders that answer alike are total alike
pub total_as : {K : Type 0} {R S : K → K → Ordering} → ((x y : K) → R x y ≡ S x y) → IsTotalOrder S
    → IsTotalOrder R
total_as {K} {R} {S} e total = let P : (K → K → Ordering) → Type 0 = λ Q. IsTotalOrder Q in
    subst P (λ i x y. sym (e x y) i) total

-- of a tie in two steps, both are ties
pub first_tied : (r s : Ordering) → ordering_then r s ≡ Equal → r ≡ Equal
first_tied Less s e = e
first_tied Equal s e = refl
first_tied Greater s e = e

pub second_tied : (r s : Ordering) → ordering_then r s ≡ Equal → s ≡ Equal
second_tied Less s e = cc
second_tied Equal s e = e
second_tied Greater s e = cc

-- ---- bytes and paths

pub bytes_cmp_total : IsTotalOrder bytes_cmp
bytes_cmp_total = nat_list_cmp_total

pub bytes_cmp-IsAntisymmetric : IsAntisymmetric bytes_cmp
bytes_cmp-IsAntisymmetric = slice_cmp-IsAntisymmetric nat_cmp-IsAntisymmetric

pub path_cmp_total : IsTotalOrder path_cmp
path_cmp_total = lists_total bytes_cmp_total

pub path_cmp-IsAntisymmetric : IsAntisymmetric path_cmp
path_cmp-IsAntisymmetric = slice_cmp-IsAntisymmetric bytes_cmp-IsAntisymmetric

-- ---- keys

-- integer keys first
kind_of : Option ℤ → ℕ
kind_of (Some n) = 0
kind_of None = 1

number_of : Option ℤ → ℤ
number_of (Some n) = n
number_of None = pos 0

size_of : Option ℤ → Key → ℕ
size_of (Some n) k = length k
size_of None k = 0

key_parts : Key → Key → Ordering
key_parts = then_cmp (on (λ k. kind_of (integer_of k)) nat_cmp)
    (then_cmp (on (λ k. number_of (integer_of k)) int_cmp)
    (then_cmp (on (λ k. size_of (integer_of k) k) nat_cmp) bytes_cmp))

key_cmp_by-parts : (m n : Option ℤ) (a b : Key) → key_cmp_by m n a b
    ≡ ordering_then (nat_cmp (kind_of m) (kind_of n))
    (ordering_then (int_cmp (number_of m) (number_of n))
    (ordering_then (nat_cmp (size_of m a) (size_of n b)) (bytes_cmp a b)))
unfolding kind_of number_of size_of
key_cmp_by-parts (Some m) (Some n) a b = refl
key_cmp_by-parts (Some m) None a b = refl
key_cmp_by-parts None (Some n) a b = refl
key_cmp_by-parts None None a b = refl

key_parts_total : IsTotalOrder key_parts
unfolding key_parts
key_parts_total = then_total (on_total (λ k. kind_of (integer_of k)) nat_cmp_total)
    (then_total (on_total (λ k. number_of (integer_of k)) int_cmp_total)
    (then_total (on_total (λ k. size_of (integer_of k) k) nat_cmp_total) bytes_cmp_total))

key_cmp-parts : (a b : Key) → key_cmp a b ≡ key_parts a b
unfolding key_parts
key_cmp-parts a b = key_cmp_by-parts (integer_of a) (integer_of b) a b

pub key_cmp_total : IsTotalOrder key_cmp
key_cmp_total = total_as key_cmp-parts key_parts_total

pub key_cmp-IsAntisymmetric : IsAntisymmetric key_cmp
unfolding key_parts
key_cmp-IsAntisymmetric a b e =
    let m = integer_of a in
    let n = integer_of b in
    let sizes = nat_cmp (size_of m a) (size_of n b) in
    let numbers = int_cmp (number_of m) (number_of n) in
    bytes_cmp-IsAntisymmetric a b
    (second_tied sizes (bytes_cmp a b)
    (second_tied numbers (ordering_then sizes (bytes_cmp a b))
    (second_tied (nat_cmp (kind_of m) (kind_of n))
    (ordering_then numbers (ordering_then sizes (bytes_cmp a b))) (sym (key_cmp-parts a b)
    ∙ e))))
