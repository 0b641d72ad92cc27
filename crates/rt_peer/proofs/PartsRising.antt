-- The tags of the parts of a push that is sent.
use Rattle.std.proofs.Common.{◌≡◌, ℕ, ◌<◌, ◌≤◌, ◌==◌, ◌&&◌, ◌||◌, true, false, not, nat_lt, arith}
use Rattle.std.proofs.Common.{List, [], ◌∷◌, ◌++◌, map, length, refl, sym, subst, ◌∙◌, codes}
use Rattle.std.proofs.Common.{Option, Some, None, if◌then◌else◌}
use Rattle.std.specs.List.{All, AllPairs, filter, list_any}
use Rattle.std.proofs.lemmas.Bool.Decides.{nat_tests}
use Rattle.std.proofs.lemmas.List.Elements.{All-append, All-cons, All-head, All-nil, All-tail}
use Rattle.std.proofs.lemmas.List.Kept.{AllPairs-cons, AllPairs-filter}
use Rattle.rt_tree.specs.PathTree.{PathTree}
use Rattle.rt_tree.specs.Assignments.{Assignment, is_at_or_above}
use Rattle.rt_query.specs.Queries.{is_filtered}
use Rattle.rt_wire.specs.Parts.{Part}
use Rattle.rt_wire.specs.declared.request.Asked.{Asked}
use Rattle.rt_wire.specs.declared.request.Asked.TheVariants.{Now, AtDisconnect}
use Rattle.rt_wire.specs.declared.request.Ending.TheVariants.{Run, Cancel}
use Rattle.rt_wire.specs.declared.client.ClientMessage.{ClientMessage}
use Rattle.rt_wire.specs.declared.client.ClientMessage.TheVariants.{Hello, Listen as ListenTo, Unlisten, Ask}
use Rattle.rt_wire.specs.declared.server.ServerMessage.{ServerMessage}
use Rattle.rt_wire.specs.declared.server.ServerMessage.TheVariants.{Data, DataMerge, Push, Accepted, Refused, Revoked}
use Rattle.rt_peer.specs.declared.pushes.Sent.{Sent}
use Rattle.rt_peer.specs.Peers.{Deferred, Listen, Peer, is_before, is_denied, is_known}
use Rattle.rt_peer.specs.Pushes.{bundled, go_together, is_changed, joined, parts_below, parts_in, parts_message}
use Rattle.rt_peer.specs.Pushes.{push_of, pushes, pushes_after, seen, together, written}
use Rattle.rt_peer.specs.Calls.{Outcome, actions_of, answered, asked, deferred, dropped, ended}
use Rattle.rt_peer.specs.Calls.{entries_of, kept, one, refusal, unless_refused, wrote}
use Rattle.rt_peer.specs.Turns.{first_actions}
use Rattle.rt_peer.specs.laws.Orders.{ListensRise}
use Rattle.rt_peer.specs.laws.Pushed.{HasRisingParts, PartsRise}
use Rattle.rt_peer.proofs.BundleLaws.{same_number}
use Rattle.rt_peer.proofs.Places.{pairs_head, pairs_tail}

abbrev IsGood : Sent → Type 0
IsGood s = HasRisingParts s.message

-- ---- what one listen is sent

abbrev entries_in : ServerMessage → List Assignment
entries_in (Data tag path tree) = (path, tree) ∷ []
entries_in (DataMerge tag entries) = entries
entries_in (Push parts) = []
entries_in (Accepted id) = []
entries_in (Refused id why) = []
entries_in (Revoked tag why) = []

record IsOnePart (tag : ℕ) (m : ServerMessage) : Type 0 where
  parts : parts_in m ≡ (tag, entries_in m) ∷ []
  good : HasRisingParts m

message_of : (tag : ℕ) (entries : List Assignment) → IsOnePart tag (parts_message tag entries)
message_of tag [] = record { parts = refl; good = tt }
message_of tag (a ∷ []) = record { parts = refl; good = tt }
message_of tag (a ∷ b ∷ rest) = record { parts = refl; good = tt }

one_part : (t : PathTree) (entries : List Assignment) (l : Listen) → IsOnePart l.tag (push_of t entries l)
one_part t entries l =
    elim (is_filtered l.query || list_any (λ a. is_at_or_above a.0 l.query.path) entries) as (λ b.
    IsOnePart l.tag (if b then Data l.tag l.query.path (seen l.query t)
    else parts_message l.tag (parts_below t l.query.path entries))) [
      | true ↦ record { parts = refl; good = tt }
      | false ↦ message_of l.tag (parts_below t l.query.path entries)
    ]

-- ---- pushes in the order of listens

lower_tag : (a b c d : ℕ) → (nat_lt a c || a == c && nat_lt b d) ≡ true → a ≡ c → b < d
lower_tag a b c d h e = grind (arith, nat_tests)

-- what begins with the listen's part
record Begins (l : Listen) (s : Sent) : Type 0 where
  to : s.to ≡ l.connection
  some : 1 ≤ length (parts_in s.message)
  from : All (λ q. l.tag ≤ q.0) (parts_in s.message)
  rise : AllPairs (λ a b. a.0 < b.0) (parts_in s.message)

abbrev BeginWith : List Listen → List Sent → Type 0
BeginWith [] xs = xs ≡ []
BeginWith (l ∷ ls) [] = ⊥
BeginWith (l ∷ ls) (s ∷ rest) = Begins l s

module _ (t : PathTree) (entries : List Assignment) where
  abbrev sent_to : Listen → Sent
  sent_to l = record { to = l.connection; message = push_of t entries l }

  single_pairs : (q : Part) → AllPairs (λ (a : Part) (b : Part). a.0 < b.0) (q ∷ [])
  single_pairs q = AllPairs-cons (λ (a : Part) (b : Part). a.0 < b.0) q [] (All-nil _) (λ i j d lt within. absurd (omega arith))

  begins : (l : Listen) → Begins l (sent_to l)
  begins l =
      let q : Part = (l.tag, entries_in (push_of t entries l)) in
      let is : parts_in (push_of t entries l) ≡ q ∷ [] = (one_part t entries l).parts in
      let le : l.tag ≤ l.tag = omega arith in
      record {
        to = refl;
        some = subst (λ ps. 1 ≤ length ps) (sym is) (omega arith);
        from = subst (All (λ r. l.tag ≤ r.0)) (sym is) (All-cons (λ (r : Part). l.tag ≤ r.0) q [] le (All-nil _));
        rise = subst (AllPairs (λ a b. a.0 < b.0)) (sym is) (single_pairs q);
      }

  alone : (l : Listen) → IsGood (sent_to l)
  alone l = (one_part t entries l).good

  -- the listen's push in front of one that begins with a later listen's
  both : (l k : Listen) (r : Sent) → is_before l k ≡ true → l.connection ≡ k.connection → Begins k r
      → Begins l (together (sent_to l) r) × IsGood (together (sent_to l) r)
  both l k r before same h =
      let q : Part = (l.tag, entries_in (push_of t entries l)) in
      let is : parts_in (push_of t entries l) ≡ q ∷ [] = (one_part t entries l).parts in
      let lt : l.tag < k.tag = lower_tag l.connection l.tag k.connection k.tag before same in
      let le : l.tag ≤ l.tag = omega arith in
      let above : All (λ (p : Part). l.tag < p.0) (parts_in r.message) =
      λ i d within. let a = h.from i d within in omega (arith, a, lt) in
      let from : All (λ (p : Part). l.tag ≤ p.0) (parts_in r.message) =
      λ i d within. let a = above i d within in omega (arith, a) in
      let rise : AllPairs (λ (a : Part) (b : Part). a.0 < b.0) (q ∷ parts_in r.message) =
      AllPairs-cons (λ (a : Part) (b : Part). a.0 < b.0) q (parts_in r.message) above h.rise in
      let two : 2 ≤ length (q ∷ parts_in r.message) = omega (arith, h.some) in
      let one : 1 ≤ length (q ∷ parts_in r.message) = omega arith in
      let P : List Part → Type 0 = λ ps. (1 ≤ length (ps ++ parts_in r.message))
      × All (λ (p : Part). l.tag ≤ p.0) (ps ++ parts_in r.message)
      × AllPairs (λ (a : Part) (b : Part). a.0 < b.0) (ps ++ parts_in r.message)
      × (2 ≤ length (ps ++ parts_in r.message)) in
      let all = subst P (sym is) (one, All-cons (λ (p : Part). l.tag ≤ p.0) q (parts_in r.message) le from, rise, two) in
      (record { to = refl; some = all.0; from = all.1; rise = all.2 }, (all.3, all.2))

  in_front : (newer : List ℕ) (l : Listen) (ls : List Listen) (xs : List Sent)
      → All (λ m. is_before l m ≡ true) ls → All IsGood xs → BeginWith ls xs
      → All IsGood (joined newer (sent_to l) xs) × BeginWith (l ∷ ls) (joined newer (sent_to l) xs)
  in_front newer l ls [] before good h =
      (All-cons IsGood (sent_to l) [] (alone l) (All-nil IsGood), begins l)
  in_front newer l [] (r ∷ rest) before good h = absurd (cc)
  in_front newer l (k ∷ ks) (r ∷ rest) before good h =
      elim (go_together newer (sent_to l) r) as (λ b. go_together newer (sent_to l) r ≡ b
      → All IsGood (if b then together (sent_to l) r ∷ rest else sent_to l ∷ r ∷ rest)
      × BeginWith (l ∷ k ∷ ks) (if b then together (sent_to l) r ∷ rest else sent_to l ∷ r ∷ rest)) [
        | true ↦ λ e.
            let made = both l k r (All-head (λ m. is_before l m ≡ true) k ks before)
            (same_number (sent_to l).to r.to (is_known newer (sent_to l).to) e ∙ h.to) h in
            (All-cons IsGood (together (sent_to l) r) rest made.1 (All-tail IsGood r rest good), made.0)
        | false ↦ λ e. (All-cons IsGood (sent_to l) (r ∷ rest) (alone l) good, begins l)
      ] refl

  good_pushes : (newer : List ℕ) (ls : List Listen) → AllPairs (λ l m. is_before l m ≡ true) ls
      → All IsGood (bundled newer (map sent_to ls)) × BeginWith ls (bundled newer (map sent_to ls))
  good_pushes newer [] h = (All-nil IsGood, refl)
  good_pushes newer (l ∷ ls) h =
      let rest = good_pushes newer ls (pairs_tail (λ l m. is_before l m ≡ true) l ls h) in
      in_front newer l ls (bundled newer (map sent_to ls))
      (pairs_head (λ l m. is_before l m ≡ true) l ls h) rest.0 rest.1

-- ---- each call

write_good : (newer : List ℕ) (t u : PathTree) (entries : List Assignment) (ls : List Listen)
    → AllPairs (λ l m. is_before l m ≡ true) ls → All IsGood (bundled newer (pushes t u entries ls))
write_good newer t u entries ls h =
    (good_pushes u entries newer (filter (is_changed t u) ls)
    (AllPairs-filter (λ l m. is_before l m ≡ true) (is_changed t u) ls h)).0

one_good : (n : ℕ) (m : ServerMessage) → HasRisingParts m → All IsGood (one n m)
one_good n m h = All-cons IsGood (record { to = n; message = m }) [] h (All-nil IsGood)

unless_good : (o : Option (List ℕ)) (p : Peer) (n id : ℕ) (out : Outcome) → All IsGood out.1
    → All IsGood (unless_refused o p n id out).1
unless_good None p n id out h = h
unless_good (Some why) p n id out h = one_good n (Refused id why) tt

asks_good : (p : Peer) (n id : ℕ) (a : Asked) → ListensRise p → All IsGood (asked p n id a).1
asks_good p n id (Now action) h =
    let entries = entries_of action in
    unless_good (refusal p.denied entries) p n id (wrote p n id entries)
    (All-append IsGood (bundled p.newer (pushes p.tree (written p.tree entries) entries p.listens))
    (one n (Accepted id))
    (write_good p.newer p.tree (written p.tree entries) entries p.listens h)
    (one_good n (Accepted id) tt))
asks_good p n id (AtDisconnect (Run action)) h =
    unless_good (refusal p.denied (entries_of action)) p n id (deferred p n id (entries_of action))
    (one_good n (Accepted id) tt)
asks_good p n id (AtDisconnect (Cancel path)) h =
    elim (is_denied p.denied path) as (λ b. All IsGood (let o : Outcome = if b
    then (p, one n (Refused id (codes "denied")))
    else (dropped p n path, one n (Accepted id)) in o.1)) [
      | true ↦ one_good n (Refused id (codes "denied")) tt
      | false ↦ one_good n (Accepted id) tt
    ]

answers_good : (p : Peer) (n : ℕ) (message : ClientMessage) → ListensRise p
    → All IsGood (answered p n message).1
answers_good p n (Hello version) h = All-nil IsGood
answers_good p n (ListenTo tag q) h =
    elim (is_denied p.denied q.path) as (λ b. All IsGood (let o : Outcome = if b
    then (p, one n (Revoked tag (codes "denied")))
    else (kept p n tag q, one n (Data tag q.path (seen q p.tree))) in o.1)) [
      | true ↦ one_good n (Revoked tag (codes "denied")) tt
      | false ↦ one_good n (Data tag q.path (seen q p.tree)) tt
    ]
answers_good p n (Unlisten tag) h = All-nil IsGood
answers_good p n (Ask id a) h = asks_good p n id a h

actions_good : (newer : List ℕ) (ls : List Listen) (t : PathTree) (actions : List Deferred)
    → AllPairs (λ l m. is_before l m ≡ true) ls → All IsGood (pushes_after newer ls t actions)
actions_good newer ls t [] h = All-nil IsGood
actions_good newer ls t (a ∷ actions) h =
    let u = written t a.entries in
    All-append IsGood (bundled newer (pushes t u a.entries ls)) (pushes_after newer ls u actions)
    (write_good newer t u a.entries ls h) (actions_good newer ls u actions h)

left_good : (p : Peer) → ListensRise p → (n : ℕ) (actions : List Deferred)
    → All IsGood (pushes_after (ended p n).newer (ended p n).listens p.tree actions)
left_good p h n actions =
    actions_good (ended p n).newer (ended p n).listens p.tree actions
    (AllPairs-filter (λ l m. is_before l m ≡ true) (λ l. not (l.connection == n)) p.listens h)

pub parts_rise : (p : Peer) → ListensRise p → PartsRise p
parts_rise p h n = (
  λ message. answers_good p n message h,
  left_good p h n (actions_of p n),
  λ most. left_good p h n (first_actions p n most),
)
