-- What a write makes of the part at a path is the part with the named children put into it.
use Rattle.std.proofs.Common.{◌≡◌, Bool, true, false, cond, not, ◌&&◌, ◌||◌, List, [], ◌∷◌, ◌++◌, refl, sym, ap, ◌∙◌, append-nil, Option, Some, None, is_some}
use mathlib.Core.Bool.{true≢false}
use Rattle.std.specs.List.{list_any}
use Rattle.std.specs.Option.{option_and_then}
use Rattle.std.proofs.lemmas.List.Folds.{list_any-append}
use Rattle.rt_tree.specs.Leaf.{LeafValue}
use Rattle.rt_tree.specs.Leaves.{after_put}
use Rattle.rt_tree.specs.PathTree.{Key, Path, PathTree, key_eq, key_eq-is, key_eq-symm, leaf_at, leaf_at-put, leaf_at-sub, leaf_of, is_null, put, same_tree, child, sub, strip, strip-apart, strip-both, strip-some, strip-under}
use Rattle.rt_tree.specs.Parts.{child-put, child-put_other, sub-sub, sub-put_other}
use Rattle.rt_tree.specs.Assignments.{Assignment, is_at_or_above}
use Rattle.rt_view.specs.Views.{stays_object, with_named}
use Rattle.rt_peer.specs.Pushes.{written}
use Rattle.rt_peer.specs.inside.Watched.{children_at, first_key, named_keys}

-- ---- with_named, child by child (as rt_parts' NamedLaws has it)

same_by_children : (t u : PathTree) → leaf_of t ≡ leaf_of u → ((k : Key) → child t k ≡ child u k) → t ≡ u
same_by_children t u e h = same_tree t u found
  where
    found : (q : Path) → leaf_at t q ≡ leaf_at u q
    found [] = e
    found (k ∷ q) = sym (leaf_at-sub t (k ∷ []) q) ∙ ap (λ x. leaf_at x q) (h k) ∙ leaf_at-sub u (k ∷ []) q

child_touched : (from t : PathTree) (keys : List Key) (k : Key)
    → child (with_named t (children_at from keys)) k ≡ cond (list_any (key_eq k) keys) (child from k) (child t k)
child_touched from t [] k = refl
child_touched from t (j ∷ keys) k =
    child_touched from (put t (j ∷ []) (child from j)) keys k
    ∙ elim (key_eq k j) as (λ b. key_eq k j ≡ b → cond (list_any (key_eq k) keys) (child from k) (child (put t (j ∷ []) (child from j)) k) ≡ cond (b || list_any (key_eq k) keys) (child from k) (child t k)) [
      | true ↦ λ e.
          let same : k ≡ j = key_eq-is k j e in
          ap (cond (list_any (key_eq k) keys) (child from k)) (ap (λ z. child (put t (j ∷ []) (child from j)) z) same ∙ child-put t j (child from j) ∙ ap (child from) (sym same))
          ∙ either (list_any (key_eq k) keys) (child from k)
      | false ↦ λ e. ap (cond (list_any (key_eq k) keys) (child from k)) (child-put_other t j k (child from j) (key_eq-symm j k ∙ e))
    ] refl
  where
    either : (b : Bool) (x : PathTree) → cond b x x ≡ x
    either true x = refl
    either false x = refl

abbrev no_leaf : Option LeafValue
no_leaf = None

gone : (b : Bool) → cond b no_leaf None ≡ None
gone true = refl
gone false = refl

leaf_put : (t : PathTree) (k : Key) (u : PathTree) → leaf_of t ≡ None → leaf_of (put t (k ∷ []) u) ≡ None
leaf_put t k u none = leaf_at-put t (k ∷ []) u [] ∙ ap (λ o. cond (not (is_null u) && true) None o) none ∙ gone (not (is_null u) && true)

none_touched : (t : PathTree) (named : List _) → leaf_of t ≡ None → leaf_of (with_named t named) ≡ None
none_touched t [] none = none
none_touched t (c ∷ cs) none = none_touched (put t (c.0 ∷ []) c.1) cs (leaf_put t c.0 c.1 none)

-- ---- what no entry meets

or_first : (b c : Bool) → (b || c) ≡ false → b ≡ false
or_first true c e = e
or_first false c e = refl

or_second : (b c : Bool) → (b || c) ≡ false → c ≡ false
or_second true c e = absurd (true≢false e)
or_second false c e = e

is_none : {X : Type 0} (o : Option X) → is_some o ≡ false → o ≡ None
is_none None e = refl
is_none (Some x) e = absurd (true≢false e)

-- an entry that is not at or above p, and does not name k, leads past p/k
past_below : (p a : Path) (k : Key) → list_any (key_eq k) (first_key (strip p a)) ≡ false
    → strip (p ++ k ∷ []) a ≡ None
past_below p a k other =
    strip-under p (k ∷ []) a
    ∙ elim (strip p a) as (λ o. list_any (key_eq k) (first_key o) ≡ false → option_and_then (strip (k ∷ [])) o ≡ None) [
      | None ↦ λ e. refl
      | Some r ↦ λ e. below r e
    ] other
  where
    below : (r : Path) → list_any (key_eq k) (first_key (Some r)) ≡ false → strip (k ∷ []) r ≡ None
    below [] e = refl
    below (j ∷ r) e = ap (λ b. cond b (Some r) None) (or_first (key_eq k j) false e)

past_above : (p a : Path) (k : Key) → strip a p ≡ None → list_any (key_eq k) (first_key (strip p a)) ≡ false
    → strip a (p ++ k ∷ []) ≡ None
past_above p a k apart other =
    elim (strip p a) as (λ o. strip p a ≡ o → list_any (key_eq k) (first_key o) ≡ false → strip a (p ++ k ∷ []) ≡ None) [
      | None ↦ λ f e. strip-apart a p (k ∷ []) apart f
      | Some s ↦ λ f e. below s (strip-some p a s f) e
    ] refl other
  where
    below : (s : Path) → a ≡ p ++ s → list_any (key_eq k) (first_key (Some s)) ≡ false → strip a (p ++ k ∷ []) ≡ None
    below [] is e =
        absurd (true≢false (ap is_some (sym (ap (λ z. strip z p) is ∙ ap (strip (p ++ [])) (sym (append-nil p)) ∙ strip-both p [] []) ∙ apart)))
    below (j ∷ s) is e =
        ap (λ z. strip z (p ++ k ∷ [])) is ∙ strip-both p (j ∷ s) (k ∷ [])
        ∙ ap (λ b. cond b (strip s []) None) (key_eq-symm j k ∙ or_first (key_eq k j) false e)

-- so that child stays
child_stays : (t : PathTree) (p : Path) (es : List Assignment) (k : Key)
    → list_any (λ a. is_at_or_above a.0 p) es ≡ false → list_any (key_eq k) (named_keys p es) ≡ false
    → sub (written t es) (p ++ k ∷ []) ≡ sub t (p ++ k ∷ [])
child_stays t p [] k up other = refl
child_stays t p (a ∷ es) k up other =
    let here = is_none (strip a.0 p) (or_first (is_at_or_above a.0 p) (list_any (λ b. is_at_or_above b.0 p) es) up) in
    let later = or_second (is_at_or_above a.0 p) (list_any (λ b. is_at_or_above b.0 p) es) up in
    let both : (list_any (key_eq k) (first_key (strip p a.0)) || list_any (key_eq k) (named_keys p es)) ≡ false =
    sym (list_any-append (key_eq k) (first_key (strip p a.0)) (named_keys p es)) ∙ other in
    let first = or_first (list_any (key_eq k) (first_key (strip p a.0))) (list_any (key_eq k) (named_keys p es)) both in
    let rest = or_second (list_any (key_eq k) (first_key (strip p a.0))) (list_any (key_eq k) (named_keys p es)) both in
    child_stays (put t a.0 a.1) p es k later rest
    ∙ sub-put_other t a.0 (p ++ k ∷ []) a.1 (past_above p a.0 k here first) (past_below p a.0 k first)

-- and where no leaf stands at p, none comes
no_leaf_comes : (t : PathTree) (p : Path) (es : List Assignment) → list_any (λ a. is_at_or_above a.0 p) es ≡ false
    → leaf_at t p ≡ None → leaf_at (written t es) p ≡ None
no_leaf_comes t p [] up none = none
no_leaf_comes t p (a ∷ es) up none =
    let here = is_none (strip a.0 p) (or_first (is_at_or_above a.0 p) (list_any (λ b. is_at_or_above b.0 p) es) up) in
    let later = or_second (is_at_or_above a.0 p) (list_any (λ b. is_at_or_above b.0 p) es) up in
    no_leaf_comes (put t a.0 a.1) p es later
    (leaf_at-put t a.0 a.1 p
    ∙ ap (λ o. after_put o (leaf_at a.1) (not (is_null a.1) && is_some (strip p a.0)) (leaf_at t p)) here
    ∙ ap (λ o. cond (not (is_null a.1) && is_some (strip p a.0)) None o) none
    ∙ gone (not (is_null a.1) && is_some (strip p a.0)))

leaf_in : (t : PathTree) (p : Path) → leaf_of (sub t p) ≡ leaf_at t p
leaf_in t p = leaf_at-sub t p [] ∙ ap (leaf_at t) (append-nil p)

object_of : (o : Option LeafValue) (b : Bool) → (not (is_some o) && b) ≡ true → o ≡ None
object_of None b e = refl
object_of (Some l) b e = absurd (true≢false (sym e))

-- ---- a touch is enough

pub touch_is_enough : (t : PathTree) (p : Path) (es : List Assignment)
    → list_any (λ a. is_at_or_above a.0 p) es ≡ false
    → stays_object (sub t p) (children_at (sub (written t es) p) (named_keys p es)) ≡ true
    → with_named (sub t p) (children_at (sub (written t es) p) (named_keys p es)) ≡ sub (written t es) p
touch_is_enough t p es up stays =
    let old = sub t p in
    let new = sub (written t es) p in
    let keys = named_keys p es in
    let none : leaf_of old ≡ None = object_of (leaf_of old) _ stays in
    same_by_children (with_named old (children_at new keys)) new
    (none_touched old (children_at new keys) none
    ∙ sym (leaf_in (written t es) p ∙ no_leaf_comes t p es up (sym (leaf_in t p) ∙ none)))
    (λ k. child_touched new old keys k
    ∙ elim (list_any (key_eq k) keys) as (λ b. list_any (key_eq k) keys ≡ b → cond b (child new k) (child old k) ≡ child new k) [
      | true ↦ λ e. refl
      | false ↦ λ e. sub-sub t p (k ∷ []) ∙ sym (child_stays t p es k up e) ∙ sym (sub-sub (written t es) p (k ∷ []))
    ] refl)
