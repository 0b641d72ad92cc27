-- A view that is touched is what is seen, and one that is not has few children.
use Rattle.std.proofs.Common.{◌≡◌, ◌+◌, ◌≤◌, Bool, true, false, cond, not, ◌&&◌, ◌||◌, List, [], ◌∷◌, length, refl, sym, ap, ◌∙◌, arith, Option, Some, None, is_some}
use mathlib.Core.Bool.{true≢false}
use Rattle.std.specs.List.{list_any}
use Rattle.std.specs.BTreeMap.{is_at}
use Rattle.std.specs.Map.{keys_of}
use Rattle.std.proofs.lemmas.Map.Made.{is_some-lookup}
use Rattle.rt_tree.specs.PathTree.{Key, PathTree, key_cmp, key_eq, key_eq-is, key_eq-same, key_eq-symm, is_null, is_null-null, null, non_null, null_of_is_null, leaf_of, child}
use Rattle.rt_tree.specs.Leaf.{LeafValue}
use Rattle.rt_tree.specs.Children.{children_of, child_of-children_of}
use Rattle.rt_view.specs.Views.{leaves_child, stays_object, with_named}
use Rattle.rt_world.specs.After.{listeners_after}
use Rattle.rt_world.specs.Messages.{next}
use Rattle.rt_world.specs.Touched.{entries_by, children_named, children_at, seen}
use Rattle.rt_world.specs.laws.Touch.{SeenAreChildren, UnmetAreSeen, UnnamedAreSeen, TouchIsEnough, ElseFewAreSeen}
use Rattle.rt_world.proofs.CountLaws.{no_more_children}
use Rattle.rt_world.proofs.NamedLaws.{child_next, misses_below, misses_unnamed, under_leaf, touched_same}
use Rattle.rt_world.proofs.Listeners.{or_false_left, or_false_right}
use Rattle.rt_world.proofs.Reaching.{form_stays}
use Rattle.rt_world.proofs.StayLaws.{same_children}

-- ---- children by their keys

-- whether a key is none of these
abbrev is_other : List Key → Key → Bool
is_other names k = not (list_any (λ j. key_eq j k) names)

symm_any : (names : List Key) (k : Key) → list_any (λ j. key_eq j k) names ≡ list_any (key_eq k) names
symm_any [] k = refl
symm_any (j ∷ names) k = λ i. key_eq-symm j k i || symm_any names k i

-- of children that are taken by key
any_at : (from : PathTree) (names : List Key) (k : Key) → list_any (λ (d : Key × PathTree). key_eq d.0 k) (children_at from names) ≡ list_any (λ j. key_eq j k) names
any_at from [] k = refl
any_at from (j ∷ names) k = ap (λ b. key_eq j k || b) (any_at from names k)

-- a child that is not named, by its key
others_by_key : (from : PathTree) (names : List Key) (cs : List (Key × PathTree))
    → list_any (λ (c : Key × PathTree). not (list_any (λ (d : Key × PathTree). key_eq d.0 c.0) (children_at from names))) cs ≡ list_any (is_other names) (keys_of cs)
others_by_key from names [] = refl
others_by_key from names (c ∷ cs) = λ i. not (any_at from names c.0 i) || others_by_key from names cs i

-- the key of one of these that is none of the names
unnamed_one : (names ks : List Key) → list_any (is_other names) ks ≡ true → (k : Key) × (list_any (key_eq k) names ≡ false) × (list_any (key_eq k) ks ≡ true)
unnamed_one names [] e = absurd (true≢false (sym e))
unnamed_one names (k ∷ ks) e = at (λ h. unnamed_one names ks h) (list_any (λ j. key_eq j k) names) refl e
  where
    or_yes : (a b : Bool) → b ≡ true → (a || b) ≡ true
    or_yes true b h = refl
    or_yes false b h = h

    at : (list_any (is_other names) ks ≡ true → (z : Key) × (list_any (key_eq z) names ≡ false) × (list_any (key_eq z) ks ≡ true)) → (b : Bool) → list_any (λ j. key_eq j k) names ≡ b → (not b || list_any (is_other names) ks) ≡ true → (z : Key) × (list_any (key_eq z) names ≡ false) × (list_any (key_eq z) (k ∷ ks) ≡ true)
    at more false f h = (k, sym (symm_any names k) ∙ f, ap (λ b. b || list_any (key_eq k) ks) (key_eq-same k))
    at more true f h = let r = more h in (r.0, r.1, or_yes (key_eq r.0 k) _ r.2)

-- where there is none, each of these is among the names
all_named : (names ks : List Key) → list_any (is_other names) ks ≡ false → (k : Key) → list_any (key_eq k) names ≡ false → list_any (key_eq k) ks ≡ false
all_named names [] e k u = refl
all_named names (j ∷ ks) e k u =
    elim (key_eq k j) as (λ b. key_eq k j ≡ b → (b || list_any (key_eq k) ks) ≡ false) [
      | true ↦ λ f.
          let here : list_any (λ x. key_eq x j) names ≡ false = ap (λ x. list_any (λ y. key_eq y x) names) (sym (key_eq-is k j f)) ∙ symm_any names k ∙ u in
          absurd (true≢false (sym (ap not here) ∙ or_false_left (is_other names j) _ e))
      | false ↦ λ f. all_named names ks (or_false_right (is_other names j) _ e) k u
    ] refl

-- a key of the children has a child, and another has none
child_there : (t : PathTree) (k : Key) → list_any (key_eq k) (keys_of (children_of t)) ≡ true → child t k ≡ null → ⊥
child_there t k m e =
    let gone : non_null (child t k) ≡ None = ap non_null e ∙ ap (λ b. cond b None (Some null)) is_null-null in
    true≢false (sym m ∙ sym (is_some-lookup (is_at (key_cmp k)) (children_of t)) ∙ ap is_some (child_of-children_of t k ∙ gone))

child_gone : (t : PathTree) (k : Key) → list_any (key_eq k) (keys_of (children_of t)) ≡ false → child t k ≡ null
child_gone t k m = at (is_null (child t k)) refl
  where
    none : is_some (non_null (child t k)) ≡ false
    none = ap is_some (sym (child_of-children_of t k)) ∙ is_some-lookup (is_at (key_cmp k)) (children_of t) ∙ m

    at : (b : Bool) → is_null (child t k) ≡ b → child t k ≡ null
    at true e = null_of_is_null (child t k) e
    at false e = absurd (true≢false (sym (ap (λ b. is_some (cond b None (Some (child t k)))) e) ∙ none))

-- named children of which none is there
none_there : (from : PathTree) (names : List Key) → list_any (λ (c : Key × PathTree). not (is_null c.1)) (children_at from names) ≡ false
    → (k : Key) → list_any (key_eq k) names ≡ true → child from k ≡ null
none_there from [] e k m = absurd (true≢false (sym m))
none_there from (j ∷ names) e k m =
    elim (key_eq k j) as (λ b. key_eq k j ≡ b → (b || list_any (key_eq k) names) ≡ true → child from k ≡ null) [
      | true ↦ λ f n. ap (child from) (key_eq-is k j f) ∙ null_at (is_null (child from j)) refl (or_false_left (not (is_null (child from j))) _ e)
      | false ↦ λ f n. none_there from names (or_false_right (not (is_null (child from j))) _ e) k n
    ] refl m
  where
    null_at : (b : Bool) → is_null (child from j) ≡ b → not b ≡ false → child from j ≡ null
    null_at true f n = null_of_is_null (child from j) f
    null_at false f n = absurd (true≢false n)

-- where none of a tree's children is there, none of the named is
none_at : (from : PathTree) (names : List Key) → ((k : Key) → child from k ≡ null) → list_any (λ (c : Key × PathTree). not (is_null c.1)) (children_at from names) ≡ false
none_at from [] h = refl
none_at from (j ∷ names) h = λ i. not ((ap is_null (h j) ∙ is_null-null) i) || none_at from names h i

-- ---- two trees of which the unnamed children are alike

module _ (old new : PathTree) (names : List Key) (same : (k : Key) → list_any (key_eq k) names ≡ false → child new k ≡ child old k) where
  -- a leaf in the new one leaves no child
  leaf_leaves_none : is_some (leaf_of new) ≡ true → leaves_child old (children_at new names) ≡ false
  leaf_leaves_none leaf =
      λ i. none_at new names (λ k. under_leaf new k leaf) i || (others_by_key new names (children_of old) ∙ others (list_any (is_other names) (keys_of (children_of old))) refl) i
    where
      others : (b : Bool) → list_any (is_other names) (keys_of (children_of old)) ≡ b → list_any (is_other names) (keys_of (children_of old)) ≡ false
      others false e = e
      others true e =
          let r = unnamed_one names (keys_of (children_of old)) e in
          absurd (child_there old r.0 r.2 (sym (same r.0 r.1) ∙ under_leaf new r.0 leaf))

  no_leaf : (t : PathTree) → is_some (leaf_of t) ≡ false → leaf_of t ≡ None
  no_leaf t e = at (leaf_of t) e
    where
      at : (o : Option LeafValue) → is_some o ≡ false → o ≡ None
      at None f = refl
      at (Some l) f = absurd (true≢false f)

  -- where an object stays, the named children are all that differs
  pub touched_object : stays_object old (children_at new names) ≡ true → with_named old (children_at new names) ≡ new
  touched_object stays = at (is_some (leaf_of old)) refl stays
    where
      fresh : (b : Bool) → is_some (leaf_of new) ≡ b → leaves_child old (children_at new names) ≡ true → leaf_of new ≡ None
      fresh false e h = no_leaf new e
      fresh true e h = absurd (true≢false (sym h ∙ leaf_leaves_none e))

      at : (b : Bool) → is_some (leaf_of old) ≡ b → (not b && leaves_child old (children_at new names)) ≡ true → with_named old (children_at new names) ≡ new
      at true e h = absurd (true≢false (sym h))
      at false e h = touched_same old new names (no_leaf old e ∙ sym (fresh (is_some (leaf_of new)) refl h)) same

  -- where none stays, all of both are no more than the names
  pub few_else : stays_object old (children_at new names) ≡ false → length (children_of old) + length (children_of new) ≤ length names
  few_else goes = at (is_some (leaf_of old)) refl goes
    where
      at : (b : Bool) → is_some (leaf_of old) ≡ b → (not b && leaves_child old (children_at new names)) ≡ false → length (children_of old) + length (children_of new) ≤ length names
      at true e h =
          let none : length (children_of old) ≤ 0 = no_more_children old [] (λ k u. under_leaf old k e) in
          let few = no_more_children new names (λ k u. same k u ∙ under_leaf old k e) in
          omega (arith, none, few)
      at false e h =
          let named = all_named names (keys_of (children_of old)) (sym (others_by_key new names (children_of old)) ∙ or_false_right (list_any (λ (c : Key × PathTree). not (is_null c.1)) (children_at new names)) _ h) in
          let old_gone : (k : Key) → list_any (key_eq k) names ≡ false → child old k ≡ null = λ k u. child_gone old k (named k u) in
          let new_gone : (k : Key) → child new k ≡ null = λ k.
          elim (list_any (key_eq k) names) as (λ b. list_any (key_eq k) names ≡ b → child new k ≡ null) [
            | true ↦ λ m. none_there new names (or_false_left (list_any (λ (c : Key × PathTree). not (is_null c.1)) (children_at new names)) _ h) k m
            | false ↦ λ u. same k u ∙ old_gone k u
          ] refl in
          let none : length (children_of new) ≤ 0 = no_more_children new [] (λ k u. new_gone k) in
          let few = no_more_children old names old_gone in
          omega (arith, none, few)

-- ---- a step

pub seen_are_children : SeenAreChildren
seen_are_children w q t has = same_children t (seen w q) has

pub unnamed_are_seen : UnnamedAreSeen
unnamed_are_seen w s l h low k u =
    child_next w s l.query h.sound h.called h.reached h.not_refused (form_stays (listeners_after w s) l h.there) h.unmoved k (misses_unnamed l.query.path k (entries_by w s) low u)

pub unmet_are_seen : UnmetAreSeen
unmet_are_seen w s l h apart t has k =
    has k
    ∙ sym (child_next w s l.query h.sound h.called h.reached h.not_refused (form_stays (listeners_after w s) l h.there) h.unmoved k (misses_below l.query.path (k ∷ []) (entries_by w s) apart))

pub touch_is_enough : TouchIsEnough
touch_is_enough w s l h low t has =
    touched_object t (seen (next w s) l.query) (children_named l.query.path (entries_by w s)) (λ k u. unnamed_are_seen w s l h low k u ∙ sym (has k))

pub else_few_are_seen : ElseFewAreSeen
else_few_are_seen w s l h low t has =
    few_else t (seen (next w s) l.query) (children_named l.query.path (entries_by w s)) (λ k u. unnamed_are_seen w s l h low k u ∙ sym (has k))
