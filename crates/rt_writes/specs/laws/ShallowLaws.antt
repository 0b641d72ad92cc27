-- What is overlaid has no leaf under more than 32 keys, where its parts have none.
use Rattle.std.proofs.Common.{◌≡◌, ◌-◌, ◌<◌, ◌≤◌, not, ◌&&◌, List, [], ◌∷◌, ◌++◌, length}
use Rattle.std.proofs.Common.{Option, Some, None, is_some, refl, sym, ◌∙◌, arith, length-append}
use Rattle.std.specs.List.{fold, All}
use Rattle.std.proofs.lemmas.List.Elements.{All-nil, All-head, All-tail, All-append}
use Rattle.rt_tree.specs.declared.limits.TheConstants.{MAX_LEVELS}
use Rattle.rt_tree.specs.Leaf.{LeafValue}
use Rattle.rt_tree.specs.Assignments.{Assignment}
use Rattle.rt_tree.specs.PathTree.{Path, PathTree, strip, length-strip, shown, leaf_at, leaf_at-sub}
use Rattle.rt_tree.specs.PathTree.{leaf_at-put, after_put, is_null, sub, put, levels, levels_le}
use Rattle.rt_tree.specs.PathTree.{length_lt_levels}
use Rattle.rt_writes.specs.Writes.{Write, IsShallow, assignments, overlaid, overlaid_by, overlay}

-- the part that an entry above gives
pub shallow-part : (e p r : Path) (u : PathTree) → strip e p ≡ Some r → length p ≤ MAX_LEVELS
    → IsShallow (e, u) → IsShallow (p, sub u r)
shallow-part e p r u s fits h =
    let less : levels (sub u r) ≤ 33 - length p = levels_le (sub u r) (33 - length p) (λ q l f.
    let deep : length (r ++ q) < levels u =
    length_lt_levels u (r ++ q) l (sym (leaf_at-sub u r q) ∙ f) in
    omega (arith, length-append r q, length-strip e p r s)) in
    omega arith

-- an entry below is put
pub shallow-below : (p e r : Path) (t u : PathTree) → strip p e ≡ Some r
    → IsShallow (p, t) → IsShallow (e, u) → IsShallow (p, put t r u)
shallow-below p e r t u s fits h =
    let less : levels (put t r u) ≤ 33 - length p = levels_le (put t r u) (33 - length p) (λ q l f.
    at q l (strip r q) refl (sym (leaf_at-put t r u q) ∙ f)) in
    omega arith
  where
    at : (q : Path) (l : LeafValue) (o : Option Path) → strip r q ≡ o
        → after_put o (leaf_at u) (not (is_null u) && is_some (strip q r)) (leaf_at t q) ≡ Some l
        → length q < 33 - length p
    at q l None is f =
        let deep : length q < levels t = length_lt_levels t q l
        (shown (not (is_null u) && is_some (strip q r)) (leaf_at t q) l f) in
        omega arith
    at q l (Some x) is f =
        let deep : length x < levels u = length_lt_levels u x l f in
        omega (arith, length-strip r q x is, length-strip p e r s)

-- one entry
shallow-overlaid : (p : Path) (t : PathTree) (a : Assignment) → length p ≤ MAX_LEVELS
    → IsShallow (p, t) → IsShallow a → IsShallow (p, overlaid p t a)
shallow-overlaid p t a fits h g =
    elim (strip a.0 p) as (λ o. strip a.0 p ≡ o
    → IsShallow (p, overlaid_by o (strip p a.0) t a.1)) [
      | Some r ↦ λ e. shallow-part a.0 p r a.1 e fits g
      | None ↦ λ e. elim (strip p a.0) as (λ o. strip p a.0 ≡ o
          → IsShallow (p, overlaid_by None o t a.1)) [
            | Some r ↦ λ f. shallow-below p a.0 r t a.1 f h g
            | None ↦ λ f. h
          ] refl
    ] refl

-- all entries, one after another
pub shallow-fold : (p : Path) (entries : List Assignment) (t : PathTree) → length p ≤ MAX_LEVELS
    → IsShallow (p, t) → All IsShallow entries → IsShallow (p, fold (overlaid p) t entries)
shallow-fold p [] t fits h g = h
shallow-fold p (a ∷ entries) t fits h g =
    shallow-fold p entries (overlaid p t a) fits
    (shallow-overlaid p t a fits h (All-head IsShallow a entries g)) (All-tail IsShallow a entries g)

-- the entries of a write
abbrev AreShallow : Write → Type 0
AreShallow w = All IsShallow w.entries

all_entries : (writes : List Write) → All AreShallow writes → All IsShallow (assignments writes)
all_entries [] h = All-nil IsShallow
all_entries (w ∷ writes) h =
    All-append IsShallow w.entries (assignments writes) (All-head AreShallow w writes h)
    (all_entries writes (All-tail AreShallow w writes h))

pub shallow-overlay : (p : Path) (t : PathTree) (writes : List Write) → length p ≤ MAX_LEVELS
    → IsShallow (p, t) → All AreShallow writes → IsShallow (p, overlay p t writes)
shallow-overlay p t writes fits h g =
    shallow-fold p (assignments writes) t fits h (all_entries writes g)
