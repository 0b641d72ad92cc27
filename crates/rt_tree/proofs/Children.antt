-- Children that are put at their keys, one after another.
use Rattle.std.proofs.Common.{◌≡◌, ◌<◌, ◌++◌, true, false, cond, List, [], ◌∷◌, length, reverse, Some, None, sym, ap, ◌∙◌, arith, append_assoc, subst}
use Rattle.std.specs.List.{All}
use Rattle.std.specs.List.Sorted.{IsStrictlySortedBy}
use Rattle.std.specs.Map.{keys_of}
use Rattle.std.proofs.lemmas.List.{reverse-append, append-nil}
use Rattle.std.proofs.lemmas.List.Elements.{All-rest}
use Rattle.rt_tree.specs.Key.{IsKey}
use Rattle.rt_tree.specs.Leaves.{Key, key_cmp, key_eq}
use Rattle.rt_tree.specs.Trees.{PathTree, is_null, put, object, child_of, non_null, AllFull, levels, MayStandAt, IsAllowed}
use Rattle.rt_tree.specs.inside.Puts.{child_or_null, PutsBelow}
use Rattle.rt_tree.specs.laws.Allowed.{may_stand, allowed-put, allowed-null}
use Rattle.rt_tree.proofs.Trees.{put-root, put-object, IsStrictlySortedBy-nil}

-- ---- one child
puts_here : (es fs : List (Key × PathTree)) (k : Key) (t : PathTree) → ((j : Key) → child_of fs j ≡ cond (key_eq k j) (non_null t) (child_of es j)) → PutsBelow es fs k [] t
puts_here es fs k t sets j = sets j ∙ ap (λ u. cond (key_eq k j) (non_null u) (child_of es j)) (sym (put-root (child_or_null es k) t))

pub puts_null : (es fs : List (Key × PathTree)) (k : Key) (t : PathTree) → is_null t ≡ true → ((j : Key) → child_of fs j ≡ cond (key_eq k j) None (child_of es j)) → PutsBelow es fs k [] t
puts_null es fs k t n sets = puts_here es fs k t (λ j. sets j ∙ ap (λ b. cond (key_eq k j) (cond b None (Some t)) (child_of es j)) (sym n))

pub puts_full : (es fs : List (Key × PathTree)) (k : Key) (t : PathTree) → is_null t ≡ false → ((j : Key) → child_of fs j ≡ cond (key_eq k j) (Some t) (child_of es j)) → PutsBelow es fs k [] t
puts_full es fs k t n sets = puts_here es fs k t (λ j. sets j ∙ ap (λ b. cond (key_eq k j) (cond b None (Some t)) (child_of es j)) (sym n))

pub allowed_with : (es fs : List (Key × PathTree)) (k : Key) (t : PathTree) → IsAllowed (object es) → IsKey k → IsAllowed t → levels t < 33 → PutsBelow es fs k [] t → IsAllowed (object fs)
allowed_with es fs k t allowed key fits shallow puts =
    let stands : MayStandAt (k ∷ []) t = may_stand (k ∷ []) t (record { short = omega arith; keys = (key, tt) }) fits (omega arith) in
    subst IsAllowed (put-object es fs k [] t puts) (allowed-put (object es) (k ∷ []) t allowed stands)

-- ---- one after another
-- an object by what its last children make
after_children : (es fs gs : List (Key × PathTree)) → object fs ≡ object gs → object (es ++ fs) ≡ object (es ++ gs)
after_children [] fs gs e = e
after_children (x ∷ es) fs gs e = ap (λ t. put t (x.0 ∷ []) x.1) (after_children es fs gs e)

-- the first of those that are left is put
one_more : (all placed new rest : List (Key × PathTree)) (k : Key) (t : PathTree)
    → object (reverse ((k, t) ∷ rest) ++ placed) ≡ object (reverse all) → object new ≡ put (object placed) (k ∷ []) t
    → object (reverse rest ++ new) ≡ object (reverse all)
one_more all placed new rest k t so_far puts =
    after_children (reverse rest) new ((k, t) ∷ placed) puts
    ∙ ap object (sym (append_assoc (reverse rest) ((k, t) ∷ []) placed))
    ∙ ap (λ es. object (es ++ placed)) (sym (reverse-append ((k, t) ∷ []) rest))
    ∙ so_far

-- the children that are left are put into those placed, which an object may have
pub record Placing (all placed rest : List (Key × PathTree)) : Type 0 where
  pub same : object (reverse rest ++ placed) ≡ object (reverse all)
  pub full : AllFull placed
  pub ordered : IsStrictlySortedBy key_cmp (keys_of placed)
  pub allowed : IsAllowed (object placed)
  pub shallow : All (λ e. levels e.1 < 33) rest

placing_all : (all : List (Key × PathTree)) → All (λ e. levels e.1 < 33) all → Placing all [] all
placing_all all shallow = record { same = ap object (append-nil (reverse all)); full = λ k t e. cc; ordered = IsStrictlySortedBy-nil; allowed = allowed-null; shallow = shallow }

pub placing_begins : (all placed rest : List (Key × PathTree)) → placed ≡ [] → rest ≡ all → All (λ e. levels e.1 < 33) all → Placing all placed rest
placing_begins all placed rest none whole shallow =
    subst (λ es. Placing all es rest) (sym none) (subst (Placing all []) (sym whole) (placing_all all shallow))

pub placing_goes_on : (all placed new left rest : List (Key × PathTree)) (k : Key) (t : PathTree) → left ≡ (k, t) ∷ rest → Placing all placed left
    → object new ≡ put (object placed) (k ∷ []) t → AllFull new → IsAllowed (object new) → IsStrictlySortedBy key_cmp (keys_of new) → Placing all new rest
placing_goes_on all placed new left rest k t is h puts full allowed ordered = record {
  same = one_more all placed new rest k t (subst (λ es. object (reverse es ++ placed) ≡ object (reverse all)) is h.same) puts;
  full = full;
  ordered = ordered;
  allowed = allowed;
  shallow = All-rest (λ e. levels e.1 < 33) (k, t) rest left is h.shallow;
}

pub placing_ends : (all placed left : List (Key × PathTree)) → length left ≡ 0 → Placing all placed left → object placed ≡ object (reverse all)
placing_ends all placed [] none h = h.same
placing_ends all placed (e ∷ left) none h = absurd (omega arith)

-- the first that is left has room
pub first_shallow : (left rest : List (Key × PathTree)) (k : Key) (t : PathTree) → left ≡ (k, t) ∷ rest → All (λ e. levels e.1 < 33) left → levels t < 33
first_shallow left rest k t is h = (subst (All (λ e. levels e.1 < 33)) is h) 0 (k, t) (omega arith)
