-- A map that shares its parts may cross threads as its keys and its values may: part by part.
use denote.RattleType.{RattleType}
use denote.Param.Send.{IsSend, IsSync, sendable}
use Rattle.std.proofs.Crossing.{crosses}
use Rattle.std.proofs.MapsCrossing.{crosses as maps_cross}
use Rattle.std.specs.declared.cmp.Ord as ord
use Rattle.std.specs.declared.cmp.PartialEq as eq
use Rattle.std.specs.declared.cmp.PartialOrd as partial
use Rattle.rt_map.specs.contracts.chunk.Chunk as chunk
use Rattle.rt_map.specs.contracts.row.MapRow as row
use Rattle.rt_map.specs.contracts.table.Table as table
use Rattle.rt_map.specs.contracts.root.Root as root
use Rattle.rt_map.specs.contracts.map.OrdMap as map

ruleset all_cross = (sendable, crosses, maps_cross)

module _ (K V : RattleType) where
  chunk_send : IsSend K → IsSend V → IsSend (chunk.the_field K V).row
  chunk_send sk sv = search all_cross depth 40 fits 20000

  chunk_sync : IsSync K → IsSync V → IsSync (chunk.the_field K V).row
  chunk_sync yk yv = search all_cross depth 40 fits 20000

  row_send : IsSend K → IsSync K → IsSend V → IsSync V → IsSend (row.the_field K V).row
  row_send sk yk sv yv = let a = chunk_send sk sv in let b = chunk_sync yk yv in search all_cross depth 40 fits 20000

  row_sync : IsSend K → IsSync K → IsSend V → IsSync V → IsSync (row.the_field K V).row
  row_sync sk yk sv yv = let a = chunk_send sk sv in let b = chunk_sync yk yv in search all_cross depth 40 fits 20000

  table_send : IsSend K → IsSync K → IsSend V → IsSync V → IsSend (table.the_field K V).row
  table_send sk yk sv yv = let a = row_send sk yk sv yv in let b = row_sync sk yk sv yv in search all_cross depth 40 fits 20000

  table_sync : IsSend K → IsSync K → IsSend V → IsSync V → IsSync (table.the_field K V).row
  table_sync sk yk sv yv = let a = row_send sk yk sv yv in let b = row_sync sk yk sv yv in search all_cross depth 40 fits 20000

  root_send : IsSend K → IsSync K → IsSend V → IsSync V → IsSend (root.the_field K V).row
  root_send sk yk sv yv =
      let a = chunk_send sk sv in let b = chunk_sync yk yv in let c = table_send sk yk sv yv in let d = table_sync sk yk sv yv in search all_cross depth 40 fits 20000

  root_sync : IsSend K → IsSync K → IsSend V → IsSync V → IsSync (root.the_field K V).row
  root_sync sk yk sv yv =
      let a = chunk_send sk sv in let b = chunk_sync yk yv in let c = table_send sk yk sv yv in let d = table_sync sk yk sv yv in search all_cross depth 40 fits 20000

  module _ (o : ord.Ghosts K.Denot) (e : eq.Ghosts K.Denot) (p : partial.Ghosts K.Denot) where
    pub map_send : IsSend K → IsSync K → IsSend V → IsSync V → IsSend (map.the_field K V o e p).row
    map_send sk yk sv yv = let a = root_send sk yk sv yv in search all_cross depth 40 fits 20000

    pub map_sync : IsSend K → IsSync K → IsSend V → IsSync V → IsSync (map.the_field K V o e p).row
    map_sync sk yk sv yv = let a = root_sync sk yk sv yv in search all_cross depth 40 fits 20000
