-- What any calls leave in the tree.
use Rattle.std.proofs.Common.{◌≡◌, ℕ, ◌==◌, ◌&&◌, Bool, true, false, ◌||◌, List, [], ◌∷◌, ◌++◌}
use Rattle.std.proofs.Common.{Option, Some, None, codes, refl, sym, ap, ◌∙◌, map, if◌then◌else◌}
use Rattle.std.proofs.Common.{arith}
use Rattle.std.specs.List.{filter, flat_map, list_any}
use Rattle.std.proofs.lemmas.Bool.Decides.{nat_tests}
use Rattle.std.proofs.lemmas.List.Folds.{list_any-append}
use Rattle.rt_tree.specs.PathTree.{PathTree, put}
use Rattle.rt_tree.specs.Assignments.{Assignment, is_at_or_above}
use Rattle.rt_query.specs.Queries.{is_filtered}
use Rattle.rt_wire.specs.declared.request.Asked.TheVariants.{Now, AtDisconnect}
use Rattle.rt_wire.specs.declared.request.Ending.TheVariants.{Run, Cancel}
use Rattle.rt_wire.specs.declared.client.ClientMessage.{ClientMessage}
use Rattle.rt_wire.specs.declared.client.ClientMessage.TheVariants.{Hello, Listen, Unlisten, Ask}
use Rattle.rt_wire.specs.declared.server.ServerMessage.TheVariants.{Data, Accepted, Refused, Revoked}
use Rattle.rt_peer.specs.declared.pushes.Sent.{Sent}
use Rattle.rt_peer.specs.Peers as peers
use Rattle.rt_peer.specs.Peers.{Peer, Deferred, is_known, is_denied}
use Rattle.rt_peer.specs.Pushes.{written, tree_after, seen, is_changed, push_of, pushes, bundled, parts_below}
use Rattle.rt_peer.specs.Pushes.{parts_message}
use Rattle.rt_peer.specs.Calls.{Outcome, one, answered, kept, actions_of, entries_of}
use Rattle.rt_peer.specs.Calls.{disconnected, refusal, unless_refused, wrote, deferred, dropped}
use Rattle.rt_peer.specs.Turns.{first_actions, turned}
use Rattle.rt_peer.specs.Runs.{Call, Connect, Message, Disconnect, EndSome, outcome, after_all, is_refused}
use Rattle.rt_peer.specs.Runs.{says_no, writes, writes_all, message_writes}
use Rattle.rt_peer.proofs.BundleLaws.{bundled_no}

-- ---- writes one after another

pub written-append : (t : PathTree) (xs ys : List Assignment)
    → written t (xs ++ ys) ≡ written (written t xs) ys
written-append t [] ys = refl
written-append t (a ∷ xs) ys = written-append (put t a.0 a.1) xs ys

-- actions one after another are all their entries one after another
pub tree_after-entries : (t : PathTree) (actions : List Deferred)
    → tree_after t actions ≡ written t (flat_map (λ a. a.entries) actions)
tree_after-entries t [] = refl
tree_after-entries t (a ∷ actions) =
    tree_after-entries (written t a.entries) actions
    ∙ sym (written-append t a.entries (flat_map (λ b. b.entries) actions))

-- ---- which messages refuse

and_false : (a b : Bool) → b ≡ false → (a && b) ≡ false
and_false true b e = e
and_false false b e = refl

parts_say_no : (id tag : ℕ) (parts : List Assignment) → says_no id (parts_message tag parts) ≡ false
parts_say_no id tag [] = refl
parts_say_no id tag (a ∷ []) = refl
parts_say_no id tag (a ∷ b ∷ rest) = refl

pushes_say_no : (id : ℕ) (t : PathTree) (entries : List Assignment) (l : peers.Listen)
    → says_no id (push_of t entries l) ≡ false
pushes_say_no id t entries l =
    elim (is_filtered l.query || list_any (λ a. is_at_or_above a.0 l.query.path) entries) as (λ b.
    says_no id (if b then Data l.tag l.query.path (seen l.query t)
    else parts_message l.tag (parts_below t l.query.path entries)) ≡ false) [
      | true ↦ refl
      | false ↦ parts_say_no id l.tag (parts_below t l.query.path entries)
    ]

told_no : (n id : ℕ) (t : PathTree) (entries : List Assignment) (ls : List peers.Listen)
    → is_refused n id (map (λ l. record { to = l.connection; message = push_of t entries l }) ls) ≡ false
told_no n id t entries [] = refl
told_no n id t entries (l ∷ ls) =
    ap (λ b. b || is_refused n id (map (λ m. record { to = m.connection; message = push_of t entries m }) ls))
    (and_false (l.connection == n) (says_no id (push_of t entries l)) (pushes_say_no id t entries l))
    ∙ told_no n id t entries ls

-- a write that is made is not refused
wrote_no : (p : Peer) (n id : ℕ) (entries : List Assignment)
    → is_refused n id (wrote p n id entries).1 ≡ false
wrote_no p n id entries =
    let u = written p.tree entries in
    let ls = filter (is_changed p.tree u) p.listens in
    list_any-append (λ (s : Sent). s.to == n && says_no id s.message)
    (bundled p.newer (pushes p.tree u entries p.listens)) (one n (Accepted id))
    ∙ ap (λ b. b || (n == n && false || false))
    (bundled_no p.newer n id (pushes p.tree u entries p.listens) (told_no n id u entries ls))
    ∙ ap (λ b. b || false) (and_false (n == n) false refl)

equal : (n : ℕ) → (n == n) ≡ true
equal n = grind (arith, nat_tests)

refused_no : (n id : ℕ) (why : List ℕ) → is_refused n id (one n (Refused id why)) ≡ true
refused_no n id why =
    ap (λ b. b && id == id || false) (equal n) ∙ ap (λ b. b || false) (equal id)

-- ---- one call

now_writes : (p : Peer) (n id : ℕ) (entries : List Assignment) (o : Option (List ℕ))
    → (unless_refused o p n id (wrote p n id entries)).0.tree
    ≡ written p.tree (if is_refused n id (unless_refused o p n id (wrote p n id entries)).1 then []
    else entries)
now_writes p n id entries None =
    ap (λ b. written p.tree (if b then [] else entries)) (sym (wrote_no p n id entries))
now_writes p n id entries (Some why) =
    ap (λ b. written p.tree (if b then [] else entries)) (sym (refused_no n id why))

later_writes : (p : Peer) (n id : ℕ) (entries : List Assignment) (o : Option (List ℕ))
    → (unless_refused o p n id (deferred p n id entries)).0.tree ≡ p.tree
later_writes p n id entries None = refl
later_writes p n id entries (Some why) = refl

message_is : (p : Peer) (n : ℕ) (message : ClientMessage) → (answered p n message).0.tree
    ≡ written p.tree (message_writes n message (answered p n message).1)
message_is p n (Hello version) = refl
message_is p n (Listen tag q) =
    elim (is_denied p.denied q.path) as (λ b. (let o : Outcome = if b then (
      p,
      one n (Revoked tag
          (codes "denied")),
    ) else (kept p n tag q, one n (Data tag q.path (seen q p.tree))) in o.0.tree)
    ≡ p.tree) [ true ↦ refl | false ↦ refl ]
message_is p n (Unlisten tag) = refl
message_is p n (Ask id (Now action)) =
    now_writes p n id (entries_of action) (refusal p.denied (entries_of action))
message_is p n (Ask id (AtDisconnect (Run action))) =
    later_writes p n id (entries_of action) (refusal p.denied (entries_of action))
message_is p n (Ask id (AtDisconnect (Cancel path))) =
    elim (is_denied p.denied path) as (λ b. (let o : Outcome = if b then (
      p,
      one n (Refused id
          (codes "denied")),
    ) else (dropped p n path, one n (Accepted id)) in o.0.tree) ≡ p.tree)
    [ true ↦ refl | false ↦ refl ]

call_is : (p : Peer) (call : Call) → (outcome p call).0.tree ≡ written p.tree (writes p call)
call_is p Connect = refl
call_is p (Message n message) =
    elim (is_known p.connections n) as (λ b. (let o : Outcome = if b then answered p n message
    else (p, []) in o.0.tree) ≡ written p.tree (if b then message_writes n message
    (let o : Outcome = if b then answered p n message else (p, []) in o.1) else [])) [
      | true ↦ message_is p n message
      | false ↦ refl
    ]
call_is p (Disconnect n) =
    elim (is_known p.connections n) as (λ b. (let o : Outcome = if b then disconnected p n
    else (p, []) in o.0.tree) ≡ written p.tree (if b then flat_map (λ a. a.entries) (actions_of p n)
    else [])) [
      | true ↦ tree_after-entries p.tree (actions_of p n)
      | false ↦ refl
    ]
call_is p (EndSome n most) =
    elim (is_known p.connections n) as (λ b. (let o : Outcome = if b then turned p n most
    else (p, []) in o.0.tree) ≡ written p.tree (if b then flat_map (λ a. a.entries) (first_actions p n most)
    else [])) [
      | true ↦ tree_after-entries p.tree (first_actions p n most)
      | false ↦ refl
    ]

-- ---- all calls

pub tree_of_run : (p : Peer) (calls : List Call)
    → (after_all p calls).tree ≡ written p.tree (writes_all p calls)
tree_of_run p [] = refl
tree_of_run p (call ∷ calls) =
    tree_of_run (outcome p call).0 calls
    ∙ ap (λ t. written t (writes_all (outcome p call).0 calls)) (call_is p call)
    ∙ sym (written-append p.tree (writes p call) (writes_all (outcome p call).0 calls))
