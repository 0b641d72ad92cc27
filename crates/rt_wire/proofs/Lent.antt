-- Trees that are lent, each with its name, as the members that they are written as.
use Rattle.std.proofs.Common.{◌≡◌, List, [], ◌∷◌, ◌++◌, String, Global, Ordering, Less, Equal, Greater, string_bytes, string_cmp, nat_cmp, Bor, refl, ap, ◌∙◌}
use Rattle.std.proofs.lemmas.Cmp.{nat_list_cmp_total}
use Rattle.std.specs.Cmp.Lexicographic.{slice_cmp}
use Rattle.std.specs.List.{AllByRecursion}
use Rattle.std.specs.List.Sorted.{IsStrictlySortedBy}
use Rattle.std.specs.Map.{keys_of}
use Rattle.std.specs.Ordering.{match_ordering, ordering_reverse}
use Rattle.std.specs.BTreeMap.{insert_entry}
use Rattle.serde_json.specs.Data.{member, put}
use Rattle.rt_tree.specs.PathTree.{PathTree}
use Rattle.rt_tree.specs.Writing.{data_of}
use Rattle.rt_wire.specs.inside.Writing.{lent_members}

abbrev pub Lent : Type 0
Lent = String Global × Bor PathTree

lent-match_ordering : (o : Ordering) (a b c : List Lent) → lent_members (match_ordering o a b c) ≡ match_ordering o (lent_members a) (lent_members b) (lent_members c)
lent-match_ordering Less a b c = refl
lent-match_ordering Equal a b c = refl
lent-match_ordering Greater a b c = refl

-- one that is inserted is put among the members
pub lent-insert_entry : (ts : List Lent) (k : String Global) (t : Bor PathTree) → lent_members (insert_entry string_cmp ts k t) ≡ put (string_bytes k) (data_of t.now) (lent_members ts)
lent-insert_entry [] k t = refl
lent-insert_entry (x ∷ ts) k t = lent-match_ordering (string_cmp k x.0) _ _ _ ∙ rw (lent-insert_entry ts k t)

below_middle : (first : Lent) (ts : List Lent) (t : Lent) (more : List Lent) → AllByRecursion (λ y. string_cmp first.0 y ≡ Less) (keys_of (ts ++ t ∷ more)) → string_cmp first.0 t.0 ≡ Less
below_middle first [] t more h = h.0
below_middle first (x ∷ ts) t more h = below_middle first ts t more h.1

-- a name that is above those before it goes last
pub lent_last : (done : List Lent) (t : Lent) (more : List Lent) → IsStrictlySortedBy string_cmp (keys_of (done ++ t ∷ more))
    → put (string_bytes t.0) (data_of t.1.now) (lent_members done) ≡ lent_members (done ++ t ∷ [])
unfolding IsStrictlySortedBy
lent_last [] t more h = refl
lent_last (first ∷ done) t more h =
    let above : slice_cmp nat_cmp (string_bytes t.0) (string_bytes first.0) ≡ Greater =
    nat_list_cmp_total.antisymm (string_bytes t.0) (string_bytes first.0) ∙ ap ordering_reverse (below_middle first done t more h.0) in
    rw above (ap (member (string_bytes first.0) (data_of first.1.now)) (lent_last done t more h.1))
