-- Rows as the children of an object.
use Rattle.std.proofs.Common.{◌≡◌, Bool, true, false, cond, List, [], ◌∷◌, refl, sym, ap, ◌∙◌, Option, Some, None}
use Rattle.std.specs.Option.{option_or, option_and_then}
use Rattle.rt_tree.specs.PathTree.{Key, PathTree, key_eq, key_eq-is, leaf_at, leaf_at-object, leaf_at-object-root, same_tree, child_of, object, AllFull}
use Rattle.rt_query.specs.declared.row.Row.{Row}
use Rattle.rt_query.specs.Rows.{HasDistinctKeys, HasNoNull, row_at}
use Rattle.rt_query.specs.Select.{as_children}
use Rattle.rt_query.specs.laws.Select.{row_at-cons}
use Rattle.rt_query.proofs.ShownLaws.{child_of-as_children, row_at-full}

-- what rows are left and which children are made of the others
pub record IsMaking (rows left : List Row) (children : List (Key × PathTree)) : Type 0 where
  pub distinct : HasDistinctKeys left
  pub same : (k : Key) → row_at rows k ≡ option_or (row_at left k) (child_of children k)

nothing_else : {X : Type 0} (o : Option X) → o ≡ option_or o None
nothing_else None = refl
nothing_else (Some x) = refl

pub making_first : (rows : List Row) (children : List (Key × PathTree)) → HasDistinctKeys rows → children ≡ [] → IsMaking rows rows children
making_first rows children h e = record { distinct = h; same = λ k. nothing_else (row_at rows k) ∙ ap (λ cs. option_or (row_at rows k) (child_of cs k)) (sym e) }

pub making_more : (rows left : List Row) (row : Row) (old new : List (Key × PathTree)) → IsMaking rows (row ∷ left) old
    → ((k : Key) → child_of new k ≡ cond (key_eq row.key k) (Some row.value) (child_of old k)) → IsMaking rows left new
making_more rows left row old new h set = record { distinct = h.distinct.1; same = λ k. h.same k ∙ ap (λ o. option_or o (child_of old k)) (row_at-cons row left k) ∙ at k (key_eq row.key k) refl ∙ ap (option_or (row_at left k)) (sym (set k)) }
  where
    at : (k : Key) (b : Bool) → key_eq row.key k ≡ b → option_or (cond (key_eq row.key k) (Some row.value) (row_at left k)) (child_of old k) ≡ option_or (row_at left k) (cond (key_eq row.key k) (Some row.value) (child_of old k))
    at k true e = rw e (ap (λ o. option_or o (Some row.value)) (sym (ap (row_at left) (sym (key_eq-is row.key k e)) ∙ h.distinct.0)))
    at k false e = rw e refl

-- the object of children that have the rows' values
pub object_of_rows : (rows : List Row) (children : List (Key × PathTree)) → ((k : Key) → child_of children k ≡ row_at rows k) → object children ≡ object (as_children rows)
object_of_rows rows children h = same_tree (object children) (object (as_children rows)) at
  where
    at : (q : _) → leaf_at (object children) q ≡ leaf_at (object (as_children rows)) q
    at [] = leaf_at-object-root children ∙ sym (leaf_at-object-root (as_children rows))
    at (k ∷ q) = leaf_at-object children k q ∙ ap (option_and_then (λ (u : PathTree). leaf_at u q)) (h k ∙ sym (child_of-as_children rows k)) ∙ sym (leaf_at-object (as_children rows) k q)

pub full_rows : (rows : List Row) (children : List (Key × PathTree)) → ((k : Key) → child_of children k ≡ row_at rows k) → HasNoNull rows → AllFull children
full_rows rows children same full k t e = row_at-full rows full k t (sym (same k) ∙ e)
