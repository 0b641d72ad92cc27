-- What the messages of the server are written as: one object, its members in the order of the bytes
-- of their names.
use Rattle.std.specs.Prelude.{List, [], ◌∷◌, codes}
use Rattle.serde_json.specs.Data.{Data, Items, no_items, item, array}
use Rattle.rt_wire.specs.declared.server.ServerMessage.{ServerMessage}
use Rattle.rt_wire.specs.declared.server.ServerMessage.TheVariants.{Data as DataMessage, DataMerge, Push}
use Rattle.rt_wire.specs.declared.server.ServerMessage.TheVariants.{Accepted, Refused, Revoked}
use Rattle.rt_wire.specs.Parts.{Part}
use Rattle.rt_wire.specs.FieldData.{kind, number_field, path_field, tree_field, reason_field}
use Rattle.rt_wire.specs.FieldData.{entries_field, object_of}

-- a part of a push
abbrev pub part_data : Part → Data
part_data p = object_of (entries_field p.1 ∷ number_field (codes "tag") p.0 ∷ [])

-- the parts, in order
abbrev pub part_items : List Part → Items
part_items [] = no_items
part_items (p ∷ parts) = item (part_data p) (part_items parts)

abbrev pub server_data : ServerMessage → Data
server_data (DataMessage tag path tree) =
    object_of (kind (codes "data") ∷ path_field path ∷ number_field
    (codes "tag") tag ∷ tree_field tree ∷ [])
server_data (DataMerge tag entries) =
    object_of (entries_field entries ∷ kind (codes "data-merge") ∷ number_field (codes "tag") tag ∷
    [])
server_data (Push parts) =
    object_of (kind (codes "push") ∷ (codes "parts", array (part_items parts)) ∷ [])
server_data (Accepted id) = object_of (number_field (codes "id") id ∷ kind (codes "ok") ∷ [])
server_data (Refused id why) =
    object_of (number_field (codes "id") id ∷ kind (codes "no") ∷ reason_field why ∷ [])
server_data (Revoked tag why) =
    object_of (kind (codes "revoke") ∷ number_field (codes "tag") tag ∷ reason_field why ∷ [])
