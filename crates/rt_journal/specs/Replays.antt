-- What the replay of a journal does: calls of a peer at which nothing is denied.
use Rattle.std.specs.Prelude.{ℕ, Bool, ◌&&◌, if◌then◌else◌, List, [], ◌∷◌, ◌++◌, map, length, Option, Some, None}
use Rattle.std.specs.Prelude.{Result, Ok, Err}
use Rattle.std.specs.BTreeMap.{insert_entry, is_at}
use Rattle.std.specs.Map.{lookup, remove_entry, keys_of}
use Rattle.std.specs.Option.{option_map, option_map_or, option_and_then}
use Rattle.std.specs.Ordering.{nat_cmp}
use Rattle.rt_tree.specs.Trees.{PathTree}
use Rattle.rt_wire.specs.Client.{client_message}
use Rattle.rt_wire.specs.declared.client.ClientMessage.{ClientMessage}
use Rattle.rt_wire.specs.declared.error.WireError.{WireError}
use Rattle.rt_peer.specs.Peers.{Peer, is_known, least_free, new_peer}
use Rattle.rt_peer.specs.Runs.{Call, Connect, Message, Disconnect, EndSome, after_all}
use Rattle.rt_peer.specs.Turns.{is_last_turn}
use Rattle.rt_journal.specs.Entries.{Entry, entry_in, number_in, pieces_of}

-- a peer, and by the journal's number of each connection that is there the peer's
pub record Replay : Type 0 where
  pub peer : Peer
  pub names : List (ℕ × ℕ)

-- over a tree, with no connection
abbrev pub new_replay : PathTree → Replay
new_replay tree = record { peer = new_peer tree []; names = [] }

-- the peer's number of a connection, if it is there
abbrev pub name_of : Replay → ℕ → Option ℕ
name_of r n = lookup (is_at (nat_cmp n)) r.names

-- after calls of the peer
abbrev pub called : Replay → List Call → Replay
called r calls = record r { peer = after_all r.peer calls }

-- a connection begins
abbrev pub begun : Replay → ℕ → Replay
begun r n = record {
  peer = after_all r.peer (Connect ∷ []);
  names = insert_entry nat_cmp r.names n (least_free r.peer.connections);
}

-- a connection asks for something: it begins where it isn't there
abbrev pub asked : Replay → ℕ → ClientMessage → Replay
asked r n message =
    option_map_or (λ m. called r (Message m message ∷ [])) (name_of r n)
    (called (begun r n) (Message (least_free r.peer.connections) message ∷ []))

-- a connection ends, where it is there
abbrev pub left : Replay → ℕ → Replay
left r n =
    option_map_or (λ m. record {
      peer = after_all r.peer (Disconnect m ∷ []);
      names = remove_entry (is_at (nat_cmp n)) r.names;
    }) (name_of r n) r

-- whether nothing is left of a connection's end after so many of its actions
abbrev pub has_ended : Peer → ℕ → ℕ → Bool
has_ended p m count = is_known p.connections m && is_last_turn p m count

-- so many of what a connection asked for at its end are done, where it is there
abbrev pub turned : Replay → ℕ → ℕ → Replay
turned r n count =
    option_map_or (λ m. record {
      peer = after_all r.peer (EndSome m count ∷ []);
      names = if has_ended r.peer m count then remove_entry (is_at (nat_cmp n)) r.names else r.names;
    }) (name_of r n) r

-- the message of a text, if it is one
abbrev pub message_in : Result ClientMessage WireError → Option ClientMessage
message_in (Ok message) = Some message
message_in (Err why) = None

-- after a message of a connection: none where the text is no message of a client
abbrev pub told : Replay → ℕ → List ℕ → Option Replay
told r n text = option_map (asked r n) (message_in (client_message text))

-- after what a line says of a connection: it ended; or a number says how many were done of what it asked for at
-- its end; or it said something
abbrev pub said : Replay → ℕ → Option (List ℕ) → Option Replay
said r n None = Some (left r n)
said r n (Some text) = option_map_or (λ count. Some (turned r n count)) (number_in text) (told r n text)

-- after an entry
abbrev pub after_entry : Replay → Entry → Option Replay
after_entry r e = said r e.0 e.1

-- after entries, one after another
abbrev pub after_entries : Replay → List Entry → Option Replay
after_entries r [] = Some r
after_entries r (e ∷ es) = option_and_then (λ s. after_entries s es) (after_entry r e)

-- after a line: none where it is no line of a journal
abbrev pub after_line : Replay → List ℕ → Option Replay
after_line r line = option_and_then (after_entry r) (entry_in line)

-- after the lines of a journal: what stands behind the last line feed is passed over
abbrev pub after_pieces : Replay → List (List ℕ) → Option Replay
after_pieces r [] = Some r
after_pieces r (torn ∷ []) = Some r
after_pieces r (line ∷ piece ∷ pieces) =
    option_and_then (λ s. after_pieces s (piece ∷ pieces)) (after_line r line)

-- how many bytes stand behind the last line feed
abbrev pub torn_length : List (List ℕ) → ℕ
torn_length [] = 0
torn_length (torn ∷ []) = length torn
torn_length (line ∷ piece ∷ pieces) = torn_length (piece ∷ pieces)

-- all that are there end
abbrev pub ends_of : List (ℕ × ℕ) → List Call
ends_of names = map (λ e. Disconnect e.1) names

-- the peer once all that are there have ended
abbrev pub closed : Replay → Peer
closed r = after_all r.peer (ends_of r.names)

-- after a journal over a tree, before those that are left end
abbrev pub replay_of : PathTree → List ℕ → Option Replay
replay_of tree journal = after_pieces (new_replay tree) (pieces_of journal)
