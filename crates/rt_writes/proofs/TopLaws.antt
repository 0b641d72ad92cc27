-- A look: the last write at or above the path, and then what came after it below.
use Rattle.std.proofs.Common.{◌≡◌, ◌==◌, ◌≤◌, ◌<◌, ℕ, true, false, ◌&&◌, ◌||◌, List, [], ◌∷◌, ◌++◌, Option, Some, None, refl, sym, ap, ◌∙◌, arith, Result, Ok, Err}
use Rattle.std.specs.Prelude.{IfOk}
use Rattle.std.specs.Option.{option_map_or}
use Rattle.std.specs.Ordering.{nat_cmp}
use Rattle.std.specs.BTreeSet.{contains}
use Rattle.std.proofs.lemmas.Bool.{ltb-true}
use Rattle.rt_tree.specs.PathTree.{Path, PathTree, path_eq}
use Rattle.rt_tree.specs.Assignments.{is_at_or_above}
use Rattle.rt_writes.specs.Writes.{Write, overlay, sets_whole}
use Rattle.rt_writes.specs.declared.spots.Spot.{Spot}
use Rattle.rt_writes.specs.inside.Spots.{under_of, spot_at, IsAbove, IsLast, some_entry, IsMerged, is_later, after, overlaid_last}
use Rattle.rt_writes.specs.laws.Places.{filter_all}
use Rattle.rt_writes.proofs.NumberLaws.{Rising, sets, any_above, or_left, or_right, under_at, whole_after, not_so}
use Rattle.rt_writes.proofs.SpotLaws.{both_true}
use Rattle.rt_writes.proofs.LayLaws.{none_after, nothing_after}

above_at : (ws : List Write) (p : Path) (j : ℕ) → some_entry (λ a. is_at_or_above a.0 p) ws j ≡ true
    → (x : Path) × (y : Path) × (p ≡ x ++ y) × (some_entry (λ a. path_eq a.0 x) ws j ≡ true)
above_at [] p j e = cc
above_at (w ∷ ws) p j e =
    elim ((w.id == j) && sets (λ a. is_at_or_above a.0 p) w) as (λ b. ((w.id == j) && sets (λ a. is_at_or_above a.0 p) w) ≡ b → (b || some_entry (λ a. is_at_or_above a.0 p) ws j) ≡ true
    → (x : Path) × (y : Path) × (p ≡ x ++ y) × (some_entry (λ a. path_eq a.0 x) (w ∷ ws) j ≡ true)) [
      | true ↦ λ f g.
          let both = both_true (w.id == j) (sets (λ a. is_at_or_above a.0 p) w) f in
          let at = any_above p w.entries both.1 in
          (at.0, at.1, at.2, or_left ((w.id == j) && sets (λ a. path_eq a.0 at.0) w) (some_entry (λ a. path_eq a.0 at.0) ws j) (λ i. both.0 i && at.3 i))
      | false ↦ λ f g.
          let more = above_at ws p j g in
          (more.0, more.1, more.2, or_right ((w.id == j) && sets (λ a. path_eq a.0 more.0) w) (some_entry (λ a. path_eq a.0 more.0) ws j) more.3)
    ] refl e

-- no write after the last one at or above the path is at or above it
pub none_later : (ws : List Write) (s : Spot) (p : Path) (last : Option ℕ) → IsMerged ws s → IsLast (IsAbove s p) last → sets_whole (after last ws) p ≡ false
none_later ws s p last m h =
    none_after (λ a. is_at_or_above a.0 p) ws last (λ j l. not_so (some_entry (λ a. is_at_or_above a.0 p) ws j) (λ e.
    let at = above_at ws p j e in
    not_last last h j l (at.0, at.1, at.2, m.here at.0 j ∙ at.3)))
  where
    not_last : (last : Option ℕ) → IsLast (IsAbove s p) last → (j : ℕ) → is_later last j ≡ true → IsAbove s p j → ⊥
    not_last None h j l a = h j a
    not_last (Some n) h j l a = let less : n < j = ltb-true n j l in let most : j ≤ n = h.1 j a in omega arith

pub all_after : (ws : List Write) → ws ≡ after None ws
all_after ws = sym (filter_all (λ w. true) ws (λ k d l. refl))

pub laid_last : (ws : List Write) (s : Spot) (p : Path) (t u : PathTree) (last : Option ℕ) → Rising ws → IsMerged ws s → IsLast (IsAbove s p) last
    → u ≡ overlaid_last p t ws last → overlay p u (after last ws) ≡ overlay p t ws
laid_last ws s p t u None r m h is = ap (λ x. overlay p x (after None ws)) is ∙ ap (overlay p t) (sym (all_after ws))
laid_last ws s p t u (Some n) r m h is =
    ap (λ x. overlay p x (after (Some n) ws)) is
    ∙ sym (ap (overlay p t) (all_after ws) ∙ whole_after ws h.0.0 h.0.1 p t None n r h.0.2 refl (sym (m.here h.0.0 n) ∙ h.0.3))

-- by the spot of the path
pub laid_below : (ws : List Write) (root : Spot) (p : Path) (t u : PathTree) (last : Option ℕ) {E : Type 0} (result : Result PathTree E)
    → Rising ws → IsMerged ws root → IsLast (IsAbove root p) last → u ≡ overlaid_last p t ws last
    → IfOk result (λ done. done ≡ overlay p u (after last ws))
    → IfOk result (λ done. done ≡ overlay p t ws)
laid_below ws root p t u last (Err e) r m h is laid = tt
laid_below ws root p t u last (Ok done) r m h is laid = laid ∙ laid_last ws root p t u last r m h is

-- or without one
pub laid_alone : (ws : List Write) (root : Spot) (p : Path) (t u : PathTree) (last : Option ℕ) → Rising ws → IsMerged ws root → IsLast (IsAbove root p) last
    → u ≡ overlaid_last p t ws last → None ≡ spot_at root p → u ≡ overlay p t ws
laid_alone ws root p t u last r m h is at =
    sym (nothing_after ws p last u (none_later ws root p last m h) (λ j l.
    sym (m.under p j) ∙ under_at p root j ∙ ap (λ o. option_map_or (λ c. contains nat_cmp (under_of c).all j) o false) (sym at)))
    ∙ laid_last ws root p t u last r m h is
