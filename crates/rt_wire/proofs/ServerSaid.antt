-- A message of the server is read of just the texts that say it.
use Rattle.std.proofs.Common.{◌≡◌, List, ℕ, Some, None, Ok, Err, refl, ap, subst, ◌∙◌}
use Rattle.std.specs.Prelude.{codes, bytes_eq, if◌then◌else◌, Result}
use Rattle.std.specs.Option.{option_map_or}
use Rattle.serde_json.specs.Data.{Data}
use Rattle.serde_json.specs.Find.{as_str}
use Rattle.serde_json.specs.Read.{read}
use Rattle.rt_wire.specs.declared.error.WireError.{WireError}
use Rattle.rt_wire.specs.declared.error.WireError.TheVariants.{NotJson, UnknownKind}
use Rattle.rt_wire.specs.declared.server.ServerMessage.{ServerMessage}
use Rattle.rt_wire.specs.declared.server.ServerMessage.TheVariants.{Data as DataMessage, DataMerge, Push, Accepted, Refused, Revoked}
use Rattle.rt_wire.specs.Fields.{field, any_of, number_of, path_of, reason_of, tree_of, with, made}
use Rattle.rt_wire.specs.EntryFields.{entries_of, trees_of}
use Rattle.rt_wire.specs.PartFields.{parts_of, part_trees}
use Rattle.rt_wire.specs.Server.{data_in, data_merge_in, push_in, ok_in, no_in, revoke_in, of_kind, server_message_in, server_message}
use Rattle.rt_wire.specs.Grammar.{IsOfKind, SaysServer, IsServerWord}
use Rattle.rt_wire.proofs.Said.{with_ok, same_Ok, made_ok, by_kind, tree_said, tree_read, entries_said, entries_read}
use Rattle.rt_wire.proofs.PartsSaid.{parts_said, parts_read}

-- ---- what is read is said
data_said : (d : Data) (m : ServerMessage) → IsOfKind (codes "data") d → data_in d ≡ Ok m → SaysServer m d
data_said d m kind h =
    with_ok (field number_of (codes "tag") d) (λ tag. with (field path_of (codes "path") d)
    (λ path. with (field any_of (codes "value") d) (λ value.
    made (tree_of value) (λ tree. DataMessage tag path tree)))) m h (λ tag is_tag h1.
    with_ok (field path_of (codes "path") d) (λ path. with (field any_of (codes "value") d) (λ value.
    made (tree_of value) (λ tree. DataMessage tag path tree))) m h1 (λ path is_path h2.
    with_ok (field any_of (codes "value") d) (λ value. made (tree_of value)
    (λ tree. DataMessage tag path tree)) m h2 (λ value is_value h3.
    made_ok (tree_of value) (λ tree. DataMessage tag path tree) m h3 (λ tree is_tree same.
    subst (λ n. SaysServer n d) same (kind, is_tag, is_path, tree_said d value tree is_value is_tree)))))

data_merge_said : (d : Data) (m : ServerMessage) → IsOfKind (codes "data-merge") d
    → data_merge_in d ≡ Ok m → SaysServer m d
data_merge_said d m kind h =
    with_ok (field number_of (codes "tag") d) (λ tag. with (field entries_of (codes "entries") d) (λ places.
    made (trees_of places) (λ entries. DataMerge tag entries))) m h (λ tag is_tag h1.
    with_ok (field entries_of (codes "entries") d) (λ places. made (trees_of places)
    (λ entries. DataMerge tag entries)) m h1 (λ places are_places h2.
    made_ok (trees_of places) (λ entries. DataMerge tag entries) m h2 (λ entries are_trees same.
    subst (λ n. SaysServer n d) same (kind, is_tag, entries_said d places entries are_places are_trees))))

push_said : (d : Data) (m : ServerMessage) → IsOfKind (codes "push") d → push_in d ≡ Ok m → SaysServer m d
push_said d m kind h =
    with_ok (field parts_of (codes "parts") d) (λ found. made (part_trees found) (λ parts. Push parts)) m h
    (λ found is_found h1.
    made_ok (part_trees found) (λ parts. Push parts) m h1 (λ parts are_trees same.
    subst (λ n. SaysServer n d) same (kind, parts_said d found parts is_found are_trees)))

ok_said : (d : Data) (m : ServerMessage) → IsOfKind (codes "ok") d → ok_in d ≡ Ok m → SaysServer m d
ok_said d m kind h =
    with_ok (field number_of (codes "id") d) (λ id. Ok (Accepted id)) m h (λ id is_id same.
    subst (λ n. SaysServer n d) (same_Ok (Accepted id) m same) (kind, is_id))

no_said : (d : Data) (m : ServerMessage) → IsOfKind (codes "no") d → no_in d ≡ Ok m → SaysServer m d
no_said d m kind h =
    with_ok (field number_of (codes "id") d) (λ id. with (field reason_of (codes "why") d)
    (λ why. Ok (Refused id why))) m h (λ id is_id h1.
    with_ok (field reason_of (codes "why") d) (λ why. Ok (Refused id why)) m h1 (λ why is_why same.
    subst (λ n. SaysServer n d) (same_Ok (Refused id why) m same) (kind, is_id, is_why)))

revoke_said : (d : Data) (m : ServerMessage) → IsOfKind (codes "revoke") d → revoke_in d ≡ Ok m → SaysServer m d
revoke_said d m kind h =
    with_ok (field number_of (codes "tag") d) (λ tag. with (field reason_of (codes "why") d)
    (λ why. Ok (Revoked tag why))) m h (λ tag is_tag h1.
    with_ok (field reason_of (codes "why") d) (λ why. Ok (Revoked tag why)) m h1 (λ why is_why same.
    subst (λ n. SaysServer n d) (same_Ok (Revoked tag why) m same) (kind, is_tag, is_why)))

-- the kinds from the last on
abbrev from_revoke : List ℕ → Data → Result ServerMessage WireError
from_revoke s d = if bytes_eq s (codes "revoke") then revoke_in d else Err UnknownKind

abbrev from_no : List ℕ → Data → Result ServerMessage WireError
from_no s d = if bytes_eq s (codes "no") then no_in d else from_revoke s d

abbrev from_ok : List ℕ → Data → Result ServerMessage WireError
from_ok s d = if bytes_eq s (codes "ok") then ok_in d else from_no s d

abbrev from_push : List ℕ → Data → Result ServerMessage WireError
from_push s d = if bytes_eq s (codes "push") then push_in d else from_ok s d

abbrev from_merge : List ℕ → Data → Result ServerMessage WireError
from_merge s d = if bytes_eq s (codes "data-merge") then data_merge_in d else from_push s d

kind_said : (s : List ℕ) (d : Data) (m : ServerMessage) → field as_str (codes "k") d ≡ Some s
    → of_kind s d ≡ Ok m → SaysServer m d
kind_said s d m k h =
    by_kind s (codes "data") (data_in d) (from_merge s d) m h (λ is. data_said d m (k ∙ ap Some is)) (λ h1.
    by_kind s (codes "data-merge") (data_merge_in d) (from_push s d) m h1 (λ is. data_merge_said d m
    (k ∙ ap Some is)) (λ h2.
    by_kind s (codes "push") (push_in d) (from_ok s d) m h2 (λ is. push_said d m (k ∙ ap Some is)) (λ h2'.
    by_kind s (codes "ok") (ok_in d) (from_no s d) m h2' (λ is. ok_said d m (k ∙ ap Some is)) (λ h3.
    by_kind s (codes "no") (no_in d) (from_revoke s d) m h3 (λ is. no_said d m (k ∙ ap Some is)) (λ h4.
    by_kind s (codes "revoke") (revoke_in d) (Err UnknownKind) m h4 (λ is. revoke_said d m
    (k ∙ ap Some is)) (λ none. absurd cc))))))

value_said : (d : Data) (m : ServerMessage) → server_message_in d ≡ Ok m → SaysServer m d
value_said d m =
    elim (field as_str (codes "k") d) as (λ o. field as_str (codes "k") d ≡ o
    → option_map_or (λ kind. of_kind kind d) o (Err UnknownKind) ≡ Ok m → SaysServer m d) [
      | None ↦ λ k h. absurd cc
      | Some s ↦ λ k h. kind_said s d m k h
    ] refl

pub server_said : (text : List ℕ) (m : ServerMessage) → server_message text ≡ Ok m → IsServerWord text m
server_said text m =
    elim (read text) as (λ o. read text ≡ o → option_map_or server_message_in o (Err NotJson) ≡ Ok m
    → IsServerWord text m) [
      | None ↦ λ r h. absurd cc
      | Some d ↦ λ r h. (d, r, value_said d m h)
    ] refl

-- ---- what is said is read
of_its_kind : (s : List ℕ) (d : Data) → IsOfKind s d → server_message_in d ≡ of_kind s d
of_its_kind s d k = ap (λ o. option_map_or (λ kind. of_kind kind d) o (Err UnknownKind)) k

value_read : (m : ServerMessage) (d : Data) → SaysServer m d → server_message_in d ≡ Ok m
value_read (DataMessage tag path tree) d h =
    of_its_kind (codes "data") d h.0
    ∙ ap (λ o. with o (λ t. with (field path_of (codes "path") d)
    (λ p. with (field any_of (codes "value") d) (λ v. made (tree_of v) (λ tree. DataMessage t p tree))))) h.1
    ∙ ap (λ o. with o (λ p. with (field any_of (codes "value") d)
    (λ v. made (tree_of v) (λ tree. DataMessage tag p tree)))) h.2
    ∙ tree_read d tree (λ tree. DataMessage tag path tree) h.3
value_read (DataMerge tag entries) d h =
    of_its_kind (codes "data-merge") d h.0
    ∙ ap (λ o. with o (λ t. with (field entries_of (codes "entries") d) (λ places. made (trees_of places)
    (λ es. DataMerge t es)))) h.1
    ∙ entries_read d entries (λ es. DataMerge tag es) h.2
value_read (Push parts) d h =
    of_its_kind (codes "push") d h.0 ∙ parts_read d parts (λ ps. Push ps) h.1
value_read (Accepted id) d h = of_its_kind (codes "ok") d h.0 ∙ ap (λ o. with o (λ id. Ok (Accepted id))) h.1
value_read (Refused id why) d h =
    of_its_kind (codes "no") d h.0
    ∙ ap (λ o. with o (λ id. with (field reason_of (codes "why") d) (λ why. Ok (Refused id why)))) h.1
    ∙ ap (λ o. with o (λ why. Ok (Refused id why))) h.2
value_read (Revoked tag why) d h =
    of_its_kind (codes "revoke") d h.0
    ∙ ap (λ o. with o (λ tag. with (field reason_of (codes "why") d) (λ why. Ok (Revoked tag why)))) h.1
    ∙ ap (λ o. with o (λ why. Ok (Revoked tag why))) h.2

pub server_read : (text : List ℕ) (m : ServerMessage) → IsServerWord text m → server_message text ≡ Ok m
server_read text m h = ap (λ o. option_map_or server_message_in o (Err NotJson)) h.1 ∙ value_read m h.0 h.2
