-- What a root holds, and what stays of it where each value is mapped: what lets a type hold itself
-- through a map.
use mathlib.Core.Path.{◌≡◌, refl, sym, ◌∙◌, subst}
use mathlib.Core.HLevel.{×_prop}
use mathlib.Core.List.{List, map}
use mathlib.Core.Former.{Former, this, or, list, via}
use mathlib.Core.Logic.{◌⊎◌, inl, inr}
use Prim.Native.Nat.{ℕ}
use native.Mathlib.Nat.{ℕ_set}
use lib.ListN.{length, length-map}
use denote.RattleType.{RattleType}
use denote.HoleLaws.{Alike}
use denote.HolePlaces.{enum_places, eachs, laid}
use denote.Model.Placed.{held}
use Rattle.std.specs.declared.alloc.Global.{Global}
use Rattle.std.specs.declared.cmp.Ordering.{Ordering}
use Rattle.std.specs.declared.sync.Arc.{Arc}
use Rattle.std.specs.List.Sorted.{IsStrictlySortedBy}
use Rattle.std.proofs.lemmas.Map.Keys.{IsStrictlySortedBy-prop}
use Rattle.std_collections.specs.Layout.Former.{entry, on_value, keys_on_values}
use Rattle.std_collections.specs.Map.{keys_of}
use Rattle.rt_map.specs.declared.root.Root.{Root}
use Rattle.rt_map.specs.declared.root.Root.TheVariants.{Small, Large}
use Rattle.rt_map.specs.contracts.chunk.Chunk as chunk
use Rattle.rt_map.specs.formers.chunk.Chunk as chunks
use Rattle.rt_map.specs.contracts.table.Table as table
use Rattle.rt_map.specs.formers.table.Table as tables
use Rattle.rt_map.specs.contracts.root.Root as root
use Rattle.rt_map.specs.inside.ArcPlaces.{arc_former, arc_map, arc_places}
use Rattle.rt_map.specs.inside.Roots.{root_entries}

-- ---- a root as a former of its values
abbrev Part : Type 0 → Type 0 → Type 0
Part K X = Arc (List (K × X)) Global

module _ {K X : Type 0} where
  abbrev split_root : Root K X → Part K X ⊎ Part K X
  split_root (Small a) = inl a
  split_root (Large a) = inr a

  abbrev join_root : Part K X ⊎ Part K X → Root K X
  join_root (inl a) = Small a
  join_root (inr a) = Large a

  pub join-split : (r : Root K X) → join_root (split_root r) ≡ r
  join-split (Small a) = refl
  join-split (Large a) = refl

  pub split-join : (s : Part K X ⊎ Part K X) → split_root (join_root s) ≡ s
  split-join (inl a) = refl
  split-join (inr a) = refl

abbrev parts : Type 0 → Former {0}
parts K = arc_former (list (entry this K))

abbrev pub roots : Type 0 → Former {0}
roots K = via (or (parts K) (parts K)) (λ X. Root K X) (λ X. split_root) (λ X. join_root) (λ X. join-split) (λ X. split-join)

-- ---- each value mapped
abbrev pub root_over : {K X Y : Type 0} → (X → Y) → Root K X → Root K Y
root_over h (Small a) = Small (arc_map (map (on_value h)) a)
root_over h (Large a) = Large (arc_map (map (on_value h)) a)

module _ (K X : Type 0) where
  pub held_entries : (r : Root K X) → held (list (entry this K)) X (root_entries r) ≡ held (roots K) X r
  held_entries (Small a) = refl
  held_entries (Large a) = refl

  module _ (Y : Type 0) (h : X → Y) where
    pub over_root : (r : Root K X) → (roots K).map X Y h r ≡ root_over h r
    over_root (Small a) = refl
    over_root (Large a) = refl

    pub natural_entries : (r : Root K X) → root_entries ((roots K).map X Y h r) ≡ map (on_value h) (root_entries r)
    natural_entries (Small a) = refl
    natural_entries (Large a) = refl

-- ---- the map's invariant
module _ {K : Type 0} (cmp : K → K → Ordering) where
  abbrev pub Sound : {X : Type 0} → ℕ → List (K × X) → Type 0
  Sound n es = (n ≡ length es) × IsStrictlySortedBy cmp (keys_of es)

  pub Sound-prop : {X : Type 0} (n : ℕ) (es : List (K × X)) → IsProp (Sound n es)
  Sound-prop n es = ×_prop (ℕ_set n (length es)) (IsStrictlySortedBy-prop cmp (keys_of es))

  module _ {X Y : Type 0} (h : X → Y) where
    pub Sound-to : (n : ℕ) (es : List (K × X)) → Sound n es → Sound n (map (on_value h) es)
    Sound-to n es e = (e.0 ∙ sym (length-map es (on_value h)), subst (IsStrictlySortedBy cmp) (sym (keys_on_values h es)) e.1)

    pub Sound-from : (n : ℕ) (es : List (K × X)) → Sound n (map (on_value h) es) → Sound n es
    Sound-from n es e = (e.0 ∙ length-map es (on_value h), subst (IsStrictlySortedBy cmp) (keys_on_values h es) e.1)

-- ---- where a root has its values
module _ (K R S : RattleType) (h : R.Denot → S.Denot) where
  abbrev over_entries : List (K.Denot × R.Denot) → List (K.Denot × S.Denot)
  over_entries = map (on_value h)

  variant : (r : Root K.Denot R.Denot) → (root.enum K S).as_values (root_over h r) ≡ eachs (root.enum K R).parts (root.enum K S).parts ((arc_map over_entries, tt), ((arc_map over_entries, tt), tt)) ((root.enum K R).as_values r)
  variant (Small a) = refl
  variant (Large a) = refl

  pub root_places : Alike R S h → Alike (root.the_row K R) (root.the_row K S) (root_over h)
  root_places a = enum_places (root.enum K R) (root.enum K S) ((arc_map over_entries, tt), ((arc_map over_entries, tt), tt)) (root_over h) variant refl (
    (laid _ _ _ (arc_places (chunk.the_row K R) (chunk.the_row K S) over_entries (chunks.the_places K R S h a)), tt),
    ((laid _ _ _ (arc_places (table.the_row K R) (table.the_row K S) over_entries (tables.the_places K R S h a)), tt), tt),
  )
