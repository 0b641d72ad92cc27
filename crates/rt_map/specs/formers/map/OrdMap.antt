-- `OrdMap` as a type that may hold the type that holds it, by its values.
use mathlib.Core.Path.{◌≡◌, refl, sym, ap, subst}
use mathlib.Core.List.{List, []}
use mathlib.Core.Former.{Former, this, const, pair, list, via, children}
use Prim.Native.Nat.{ℕ}
use denote.RattleType.{RattleType}
use denote.HoleLaws.{Alike}
use denote.HolePlaces.{Recodes, struct_places, laid}
use denote.Hole.Carrier.{listed}
use denote.Hole.Fix.{over}
use denote.Param.Weighed.{Weighed, most}
use denote.Model.Placed.{view_places}
use Rattle.std.specs.declared.cmp.Ord as ord
use Rattle.std.specs.declared.cmp.PartialEq as eq
use Rattle.std.specs.declared.cmp.PartialOrd as partial
use Rattle.std_collections.specs.Layout.Former.{entry, entries_puts, values_listed, entries_recoded}
use Rattle.rt_map.specs.declared.map.OrdMap.TheInside.{Inside}
use Rattle.rt_map.specs.declared.map.OrdMap.TheView.{view, invariant}
use Rattle.rt_map.specs.contracts.map.OrdMap as C
use Rattle.rt_map.specs.contracts.map.OrdMap.TheInside as I
use Rattle.rt_map.specs.inside.Roots.{root_entries}
use Rattle.rt_map.specs.inside.RootPlaces.{roots, root_over, held_entries, over_root, natural_entries, Sound, Sound-prop, Sound-to, Sound-from, root_places}
use Rattle.rt_map.specs.Maps.{OrdMap, map_of, values}

abbrev pub the_former : Former {0} → Type 0 → Former {0}
the_former g K = via (list (entry g K)) (λ X. OrdMap K (g.Of X)) (λ X m. m.entries) (λ X es. map_of es) (λ X m. refl) (λ X es. refl)

abbrev pub the_weighed : {g : Former {0}} → Weighed g → (K : Type 0) → Weighed (the_former g K)
the_weighed w K = record { weight = λ X μ m. most (w.weight X μ) (values m); puts = λ X μ m. entries_puts w K X μ m.entries }

pub the_empty : (K : Type 0) → K → OrdMap K ⊥
the_empty K k = map_of []

abbrev pub the_items : (K X : Type 0) → OrdMap K X → List X
the_items K X m = values m

pub the_items_listed : (K X : Type 0) (m : OrdMap K X) → listed _ (children (the_former this K) X m) ≡ the_items K X m
the_items_listed K X m = values_listed K X m.entries

abbrev fields : Type 0 → Former {0}
fields K = via (pair (const ℕ) (roots K)) (λ X. Inside K X) (λ X a. (a.len, a.root)) (λ X v. record { len = v.0; root = v.1 }) (λ X a. refl) (λ X v. refl)

module _ (K : RattleType) (G : ord.Ghosts K.Denot) (G' : eq.Ghosts K.Denot) (G'' : partial.Ghosts K.Denot) (R S : RattleType) (h : R.Denot → S.Denot) where
  pub the_places : Alike R S h → Alike (C.the_row K R G G' G'') (C.the_row K S G G' G'') ((the_former this K.Denot).map R.Denot S.Denot h)
  the_places a = view_places (fields K.Denot) (the_former this K.Denot) (λ X. view K.Denot X G G' G'') (λ X Y k u. ap map_of (natural_entries K.Denot X Y k u.root)) (λ X u. held_entries K.Denot X u.root)
      R.Denot S.Denot h (C.the_row K R G G' G'').coded (C.the_row K S G G' G'').coded
      (invariant K.Denot R.Denot G G' G'') (invariant K.Denot S.Denot G G' G'') (λ u. Sound-prop G.cmp u.len (root_entries u.root)) (λ u. Sound-prop G.cmp u.len (root_entries u.root))
      (λ u e. subst (Sound G.cmp u.len) (sym (natural_entries K.Denot R.Denot S.Denot h u.root)) (Sound-to G.cmp h u.len (root_entries u.root) e))
      (λ u e. Sound-from G.cmp h u.len (root_entries u.root) (subst (Sound G.cmp u.len) (natural_entries K.Denot R.Denot S.Denot h u.root) e))
      (over (I.the_row K R G G' G'')) (over (I.the_row K S G G' G''))
      (struct_places (I.the_type K R G G' G'') (I.the_type K S G G' G'') ((λ n. n), (root_over h, tt)) _ (λ d i. (d.len, (over_root K.Denot R.Denot S.Denot h d.root i, tt))) refl
      ((refl, (λ n. refl, λ n. refl)), (laid _ _ _ (root_places K R S h a), tt)))

  pub the_codes_placed : Recodes R S h → Recodes (C.the_row K R G G' G'') (C.the_row K S G G' G'') ((the_former this K.Denot).map R.Denot S.Denot h)
  the_codes_placed e m = entries_recoded K R S h e m.entries
