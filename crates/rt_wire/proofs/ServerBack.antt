-- Messages of the server that are written are read back.
use Rattle.std.proofs.Common.{◌≡◌, ℕ, ◌≤◌, false, List, map, Some, Ok, Err, refl, ap, ◌∙◌, arith}
use Rattle.std.specs.Prelude.{◌||◌}
use Rattle.std.specs.List.{fold}
use Rattle.std.specs.Option.{option_map_or}
use Rattle.serde_json.specs.Data.{object, no_members, depth}
use Rattle.serde_json.specs.Read.{read, max_depth}
use Rattle.serde_json.specs.Written.{has_float}
use Rattle.rt_tree.specs.Allowed.{shallow_of}
use Rattle.rt_tree.specs.Path.{path_text}
use Rattle.rt_tree.specs.Writing.{data_of}
use Rattle.rt_tree.proofs.Writings.{has_float-data_of, depth-data_of}
use Rattle.rt_wire.specs.declared.error.WireError.TheVariants.{NotJson}
use Rattle.rt_wire.specs.declared.server.ServerMessage.{ServerMessage}
use Rattle.rt_wire.specs.declared.server.ServerMessage.TheVariants.{Data as DataMessage, DataMerge, Push, Accepted, Refused, Revoked}
use Rattle.rt_wire.specs.Fields.{with, made, path_of_text, reason_of_text, tree_of}
use Rattle.rt_wire.specs.EntryFields.{entries_of, trees_of}
use Rattle.rt_wire.specs.PartFields.{part_trees}
use Rattle.rt_wire.specs.Server.{server_message_in}
use Rattle.rt_wire.specs.FieldData.{with_entry}
use Rattle.rt_wire.specs.ServerData.{server_data}
use Rattle.rt_wire.specs.ReadBack.{IsServerMessage, IsServerSame, IsServerText}
use Rattle.rt_wire.specs.inside.StandingServer.{IsStandingMessage}
use Rattle.rt_wire.proofs.FieldsBack.{number_back, reason_back, path_back, tree_back}
use Rattle.rt_wire.proofs.EntriesBack.{in_text_order, order_back, order_moved, trees_back, entries_places, entries_float, entries_depth}
use Rattle.rt_wire.proofs.PartsBack.{in_order, parts_found, part_trees_back, parts_moved, parts_float, parts_depth}

pub server_float : (m : ServerMessage) → has_float (server_data m) ≡ false
server_float (DataMessage tag path tree) = ap (λ b. b || false) (has_float-data_of tree)
server_float (DataMerge tag entries) = ap (λ b. b || false) (entries_float entries)
server_float (Push parts) = ap (λ b. b || false) (parts_float parts)
server_float (Accepted id) = refl
server_float (Refused id why) = refl
server_float (Revoked tag why) = refl

pub server_depth : (m : ServerMessage) → IsStandingMessage m → depth (server_data m) ≤ max_depth
server_depth (DataMessage tag path tree) s = omega (arith, depth-data_of tree, shallow_of tree s.1.allowed)
server_depth (DataMerge tag entries) s = omega (arith, entries_depth entries s)
server_depth (Push parts) s = omega (arith, parts_depth parts s)
server_depth (Accepted id) s = omega arith
server_depth (Refused id why) s = omega arith
server_depth (Revoked tag why) s = omega arith

server_back : (m : ServerMessage) → IsStandingMessage m → IsServerMessage m → (n : ServerMessage) × (server_message_in (server_data m) ≡ Ok n) × IsServerSame m n
server_back (DataMessage tag path tree) s h = (
  DataMessage tag path tree,
  ap (λ o. with o (λ tag. with (path_of_text (path_text path)) (λ path. made (tree_of (data_of tree)) (λ tree. DataMessage tag path tree)))) (number_back tag h.0)
      ∙ ap (λ o. with o (λ path. made (tree_of (data_of tree)) (λ tree. DataMessage tag path tree))) (path_back path s.0)
      ∙ ap (λ r. made r (λ tree. DataMessage tag path tree)) (tree_back tree s.1 h.1),
  refl,
)
server_back (DataMerge tag entries) s h = (
  DataMerge tag (in_text_order entries),
  ap (λ o. with o (λ tag. with (entries_of (object (fold with_entry no_members entries))) (λ places. made (trees_of places) (λ entries. DataMerge tag entries)))) (number_back tag h.0)
      ∙ ap (λ o. with o (λ places. made (trees_of places) (λ entries. DataMerge tag entries))) (entries_places entries s h.1)
      ∙ ap (λ r. made r (λ entries. DataMerge tag entries)) (trees_back (in_text_order entries) (order_back entries s h.1.2)),
  (in_text_order entries, order_moved entries s h.1.1, refl),
)
server_back (Push parts) s h = (
  Push (map in_order parts),
  ap (λ o. with o (λ found. made (part_trees found) (λ ps. Push ps))) (parts_found parts s h)
      ∙ ap (λ r. made r (λ ps. Push ps)) (part_trees_back parts s h.1),
  (map in_order parts, parts_moved parts s h.1, refl),
)
server_back (Accepted id) s h = (Accepted id, ap (λ o. with o (λ id. Ok (Accepted id))) (number_back id h), refl)
server_back (Refused id why) s h = (
  Refused id why,
  ap (λ o. with o (λ id. with (reason_of_text why) (λ why. Ok (Refused id why)))) (number_back id h.0)
      ∙ ap (λ o. with o (λ why. Ok (Refused id why))) (reason_back why h.1),
  refl,
)
server_back (Revoked tag why) s h = (
  Revoked tag why,
  ap (λ o. with o (λ tag. with (reason_of_text why) (λ why. Ok (Revoked tag why)))) (number_back tag h.0)
      ∙ ap (λ o. with o (λ why. Ok (Revoked tag why))) (reason_back why h.1),
  refl,
)

pub server_text : (m : ServerMessage) (text : List ℕ) → IsStandingMessage m → read text ≡ Some (server_data m) → IsServerMessage m → IsServerText m text
server_text m text s reads h =
    let back = server_back m s h in
    (back.0, ap (λ o. option_map_or server_message_in o (Err NotJson)) reads ∙ back.1, back.2)
