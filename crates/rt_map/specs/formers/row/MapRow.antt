-- `MapRow` as a type that may hold the type that holds it, by its values.
use mathlib.Core.Path.{◌≡◌, refl, sym}
use mathlib.Core.List.{List, [], map}
use mathlib.Core.Former.{Former, this, list, via, children}
use denote.RattleType.{RattleType}
use denote.HoleLaws.{Alike}
use denote.HolePlaces.{Recodes, struct_places, laid}
use denote.Hole.Carrier.{listed}
use denote.Hole.Fix.{over}
use denote.Param.Weighed.{Weighed, most}
use denote.Model.Placed.{view_places}
use Rattle.std.specs.formers.vec.Vec as vec
use Rattle.std.specs.declared.alloc.Global.{Global}
use Rattle.std.specs.contracts.alloc.Global as heap
use Rattle.std.specs.contracts.impls.GlobalAllocator.TheImpl.{ghosts}
use Rattle.std_collections.specs.Layout.Former.{entry, on_value, entries_puts, values_listed, entries_recoded}
use Rattle.std_collections.specs.Map.{values_of}
use Rattle.rt_map.specs.inside.ArcPlaces.{arc_former, arc_map, arc_of, arc_places}
use Rattle.rt_map.specs.inside.Joined.{joined-map, added-joined, AllFilled-prop, AllFilled-to, AllFilled-from}
use Rattle.rt_map.specs.declared.row.MapRow.TheInside.{Inside}
use Rattle.rt_map.specs.declared.row.MapRow.TheView.{view, invariant}
use Rattle.rt_map.specs.contracts.row.MapRow as C
use Rattle.rt_map.specs.contracts.row.MapRow.TheInside as I
use Rattle.rt_map.specs.contracts.chunk.Chunk as chunk
use Rattle.rt_map.specs.formers.chunk.Chunk as chunks

abbrev pub the_former : Former {0} → Type 0 → Former {0}
the_former g K = list (entry g K)

abbrev pub the_weighed : {g : Former {0}} → Weighed g → (K : Type 0) → Weighed (the_former g K)
the_weighed w K = record { weight = λ X μ es. most (w.weight X μ) (values_of es); puts = λ X μ es. entries_puts w K X μ es }

pub the_empty : (K : Type 0) → K → List (K × ⊥)
the_empty K k = []

abbrev pub the_items : (K X : Type 0) → List (K × X) → List X
the_items K X es = values_of es

pub the_items_listed : (K X : Type 0) (es : List (K × X)) → listed _ (children (the_former this K) X es) ≡ the_items K X es
the_items_listed K X es = values_listed K X es

abbrev fields : Type 0 → Former {0}
fields K = via (vec.the_former (arc_former (list (entry this K))) Global) (λ X. Inside K X) (λ X a. a.chunks) (λ X v. record { chunks = v }) (λ X a. refl) (λ X v. refl)

module _ (K R S : RattleType) (h : R.Denot → S.Denot) where
  abbrev chunk_map : List (K.Denot × R.Denot) → List (K.Denot × S.Denot)
  chunk_map = map (on_value h)

  pub the_places : Alike R S h → Alike (C.the_row K R) (C.the_row K S) ((the_former this K.Denot).map R.Denot S.Denot h)
  the_places a = view_places (fields K.Denot) (the_former this K.Denot) (λ X. view K.Denot X) (λ X Y k u. joined-map (on_value k) u.chunks.items) (λ X u. sym (added-joined (entry this K.Denot) X u.chunks.items))
      R.Denot S.Denot h (C.the_row K R).coded (C.the_row K S).coded
      (invariant K.Denot R.Denot) (invariant K.Denot S.Denot) (λ u. AllFilled-prop u.chunks.items) (λ u. AllFilled-prop u.chunks.items)
      (λ u e. AllFilled-to (on_value h) u.chunks.items e) (λ u e. AllFilled-from (on_value h) u.chunks.items e)
      (over (I.the_row K R)) (over (I.the_row K S))
      (struct_places (I.the_type K R) (I.the_type K S) (vec.mapped (arc_map chunk_map), tt) _ (λ d. refl) refl
      (laid _ _ _ (vec.the_places heap.the_row ghosts (arc_of (chunk.the_row K R)) (arc_of (chunk.the_row K S)) (arc_map chunk_map) (arc_places (chunk.the_row K R) (chunk.the_row K S) chunk_map (chunks.the_places K R S h a))), tt))

  pub the_codes_placed : Recodes R S h → Recodes (C.the_row K R) (C.the_row K S) ((the_former this K.Denot).map R.Denot S.Denot h)
  the_codes_placed e es = entries_recoded K R S h e es
