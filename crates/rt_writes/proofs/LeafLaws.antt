-- The leaf and the children of what entries lay over a tree.
use Rattle.std.proofs.Common.{◌≡◌, ℕ, zero, suc, Bool, true, false, cond, not, ◌&&◌, ◌||◌, List, [], ◌∷◌, append-nil, refl, sym, ap, ◌∙◌, Option, Some, None, is_some}
use mathlib.Core.Bool.{true≢false}
use Rattle.std.specs.List.{fold, list_any, slice_get}
use Rattle.rt_tree.specs.Leaf.{LeafValue}
use Rattle.rt_tree.specs.PathTree.{Key, Path, PathTree, strip, strip-some, strip-append, leaf_at, leaf_of, is_null, child, put, same_tree, leaf_at-sub, leaf_at-put, sub}
use Rattle.rt_tree.specs.Assignments.{Assignment, is_at_or_above, do_overlap, have_overlap}
use Rattle.rt_writes.specs.Writes.{overlaid, overlaid_by}
use Rattle.rt_writes.specs.laws.TouchLaws.{fold-untouched}
use Rattle.rt_writes.specs.inside.Spots.{fills, is_full}

-- trees with the same leaf at the root and the same children
pub same_by_children : (t u : PathTree) → leaf_of t ≡ leaf_of u → ((k : Key) → child t k ≡ child u k) → t ≡ u
same_by_children t u e h = same_tree t u at
  where
    at : (q : Path) → leaf_at t q ≡ leaf_at u q
    at [] = e
    at (k ∷ q) = sym (leaf_at-sub t (k ∷ []) q) ∙ ap (λ x. leaf_at x q) (h k) ∙ leaf_at-sub u (k ∷ []) q

and_true : (b : Bool) → (b && true) ≡ b
and_true true = refl
and_true false = refl

leaf-put : (t : PathTree) (k : Key) (r : Path) (u : PathTree) → leaf_of (put t (k ∷ r) u) ≡ cond (not (is_null u)) None (leaf_of t)
leaf-put t k r u = leaf_at-put t (k ∷ r) u [] ∙ ap (λ b. cond b None (leaf_of t)) (and_true (not (is_null u)))

same_both : {X : Type 0} (b : Bool) (x : X) → cond b x x ≡ x
same_both true x = refl
same_both false x = refl

pub or_false : (a b : Bool) → (a || b) ≡ false → (a ≡ false) × (b ≡ false)
or_false true b e = cc
or_false false b e = (refl, e)

none_of : (o : Option Path) → is_some o ≡ false → o ≡ None
none_of None e = refl
none_of (Some r) e = absurd (true≢false e)

pub strip_same : (p : Path) → strip p p ≡ Some []
strip_same p = ap (strip p) (sym (append-nil p)) ∙ strip-append p []

-- what isn't at or above the path isn't at it
not_at : (e p : Path) → strip e p ≡ None → strip p e ≡ Some [] → ⊥
not_at e p above below =
    let same : e ≡ p = strip-some p e [] below ∙ append-nil p in
    let there : strip e p ≡ Some [] = ap (λ x. strip x p) same ∙ strip_same p in
    true≢false (ap is_some (sym there ∙ above))

leaf-entry : (p : Path) (t : PathTree) (a : Assignment) → strip a.0 p ≡ None
    → leaf_of (overlaid p t a) ≡ cond (is_at_or_above p a.0 && is_full a) None (leaf_of t)
leaf-entry p t a none = ap (λ o. leaf_of (overlaid_by o (strip p a.0) t a.1)) none ∙ at (strip p a.0) refl
  where
    at : (o : Option Path) → strip p a.0 ≡ o → leaf_of (overlaid_by None o t a.1) ≡ cond (is_some o && not (is_null a.1)) None (leaf_of t)
    at None e = refl
    at (Some []) e = absurd (not_at a.0 p none e)
    at (Some (k ∷ r)) e = leaf-put t k r a.1

two : (a b : Bool) (x : Option LeafValue) → cond b None (cond a None x) ≡ cond (a || b) None x
two true b x = same_both b None
two false b x = refl

-- the leaf under entries below
pub leaf-fold : (p : Path) (t : PathTree) (es : List Assignment) → list_any (λ a. is_at_or_above a.0 p) es ≡ false
    → leaf_of (fold (overlaid p) t es) ≡ cond (fills es p) None (leaf_of t)
leaf-fold p t [] h = refl
leaf-fold p t (a ∷ es) h =
    let parts = or_false (is_at_or_above a.0 p) (list_any (λ a. is_at_or_above a.0 p) es) h in
    leaf-fold p (overlaid p t a) es parts.1
    ∙ ap (λ x. cond (fills es p) None x) (leaf-entry p t a (none_of (strip a.0 p) parts.0))
    ∙ two (is_at_or_above p a.0 && is_full a) (fills es p) (leaf_of t)

-- an entry at the path itself
pub overlaid-own : (p : Path) (t : PathTree) (a : Assignment) → a.0 ≡ p → overlaid p t a ≡ a.1
overlaid-own p t a same =
    ap (λ o. overlaid_by o (strip p a.0) t a.1) (ap (λ z. strip z p) same ∙ strip_same p) ∙ sub_whole a.1
  where
    sub_whole : (u : PathTree) → sub u [] ≡ u
    sub_whole u = same_tree (sub u []) u (λ q. leaf_at-sub u [] q)

or_swap : (a b : Bool) → (a || b) ≡ (b || a)
or_swap true true = refl
or_swap true false = refl
or_swap false true = refl
or_swap false false = refl

-- of entries that don't overlap one alone meets its path
pub only_entry : (es : List Assignment) (i : ℕ) (a : Assignment) (p : Path) (t : PathTree) → have_overlap es ≡ false → slice_get es i ≡ Some a → a.0 ≡ p
    → fold (overlaid p) t es ≡ a.1
only_entry [] i a p t h e same = cc
only_entry (b ∷ es) zero a p t h e same =
    let is : b ≡ a = cc in
    let parts = or_false (list_any (λ c. do_overlap b.0 c.0) es) (have_overlap es) h in
    fold-untouched p (overlaid p t b) es
    (ap (λ f. list_any f es) (λ i c. or_swap (is_at_or_above c.0 p) (is_at_or_above p c.0) i)
    ∙ ap (λ z. list_any (λ c. do_overlap z c.0) es) (sym (ap (λ x. x.0) is ∙ same)) ∙ parts.0)
    ∙ overlaid-own p t b (ap (λ x. x.0) is ∙ same) ∙ ap (λ x. x.1) is
only_entry (b ∷ es) (suc i) a p t h e same =
    let parts = or_false (list_any (λ c. do_overlap b.0 c.0) es) (have_overlap es) h in
    let apart : do_overlap b.0 p ≡ false = ap (do_overlap b.0) (sym same) ∙ none_there es i a (λ c. do_overlap b.0 c.0) parts.0 e in
    ap (λ x. fold (overlaid p) x es) (fold-untouched p t (b ∷ []) (ap (λ x. x || false) apart))
    ∙ only_entry es i a p t parts.1 e same
  where
    none_there : (es : List Assignment) (i : ℕ) (a : Assignment) (test : Assignment → Bool) → list_any test es ≡ false → slice_get es i ≡ Some a → test a ≡ false
    none_there [] i a test h e = cc
    none_there (b ∷ es) zero a test h e = let is : b ≡ a = cc in sym (ap test is) ∙ (or_false (test b) (list_any test es) h).0
    none_there (b ∷ es) (suc i) a test h e = none_there es i a test (or_false (test b) (list_any test es) h).1 e
