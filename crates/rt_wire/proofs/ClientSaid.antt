-- A message of the client is read of just the texts that say it.
use Rattle.std.proofs.Common.{◌≡◌, List, ℕ, Option, Some, None, true, false, Ok, Err, refl, sym, ap, subst, ◌∙◌}
use Rattle.std.specs.Prelude.{codes, bytes_eq, if◌then◌else◌, Result}
use Rattle.std.specs.Option.{option_map, option_and_then, option_map_or}
use Rattle.std.proofs.lemmas.Option.{option_and_then_some, same_Some}
use Rattle.serde_json.specs.Data.{Data}
use Rattle.serde_json.specs.Find.{get, as_str}
use Rattle.serde_json.specs.Read.{read}
use Rattle.rt_tree.specs.PathTree.{Path, PathTree}
use Rattle.rt_tree.specs.Assignments.{Assignment}
use Rattle.rt_order.specs.declared.cut.Cut.{Cut}
use Rattle.rt_order.specs.declared.cut.Range.{Range}
use Rattle.rt_order.specs.declared.index.Index.{Index}
use Rattle.rt_query.specs.Queries.{Query, plain, is_filtered}
use Rattle.rt_wire.specs.declared.error.WireError.{WireError}
use Rattle.rt_wire.specs.declared.error.WireError.TheVariants.{NotJson, UnknownKind}
use Rattle.rt_wire.specs.declared.request.Action.{Action}
use Rattle.rt_wire.specs.declared.request.Action.TheVariants.{Put, Merge}
use Rattle.rt_wire.specs.declared.request.Ending.TheVariants.{Run, Cancel}
use Rattle.rt_wire.specs.declared.request.Asked.{Asked}
use Rattle.rt_wire.specs.declared.request.Asked.TheVariants.{Now, AtDisconnect}
use Rattle.rt_wire.specs.declared.client.ClientMessage.{ClientMessage}
use Rattle.rt_wire.specs.declared.client.ClientMessage.TheVariants.{Hello, Listen, Unlisten, Ask}
use Rattle.rt_wire.specs.Fields.{field, any_of, number_of, path_of, tree_of, with, made}
use Rattle.rt_wire.specs.EntryFields.{entries_of, trees_of}
use Rattle.rt_wire.specs.QueryFields.{index_of, cut_of, limit_of, if_there, range_of, if_filtered, query_of}
use Rattle.rt_wire.specs.Client.{query_at, put_in, merge_in, ask, hello_in, listen_in, unlisten_in, put_message, merge_message, od_put_message, od_merge_message, od_cancel_message}
use Rattle.rt_wire.specs.Client.{client_of_kind, client_message_in, client_message}
use Rattle.rt_wire.specs.Grammar.{IsOfKind, HasNumber, IsSaidByQ, IsSaidBy, SaysAction, SaysClient, IsClientWord}
use Rattle.rt_wire.proofs.Said.{with_ok, same_Ok, made_ok, map_some, by_kind, tree_said, tree_read, entries_said, entries_read}
use Rattle.rt_wire.proofs.QueryBack.{query_read}

-- ---- queries
abbrev range_with : Option Cut → Option Cut → Range
range_with l u = record { lower = l; upper = u }

range_said : (index : Index) (q : Data) (range : Range) → range_of index q ≡ Some range
    → (if_there (cut_of index) (get (codes "lower") q) ≡ Some range.lower)
    × (if_there (cut_of index) (get (codes "upper") q) ≡ Some range.upper)
range_said index q range h =
    option_and_then_some (λ l. option_map (range_with l) (if_there (cut_of index) (get (codes "upper") q)))
    (if_there (cut_of index) (get (codes "lower") q)) range h (λ l is_l mapped.
    map_some (range_with l) (if_there (cut_of index) (get (codes "upper") q)) range mapped (λ u is_u same.
    (is_l ∙ ap (λ (r : Range). Some r.lower) same, is_u ∙ ap (λ (r : Range). Some r.upper) same)))

filtered_some : (r q : Query) → if_filtered r ≡ Some q → (is_filtered r ≡ true) × (r ≡ q)
filtered_some r q =
    elim (is_filtered r) as (λ b. is_filtered r ≡ b → (if b then Some r else None) ≡ Some q
    → (is_filtered r ≡ true) × (r ≡ q)) [
      | true ↦ λ e h. (e, same_Some r q h)
      | false ↦ λ e h. absurd cc
    ] refl

query_said : (path : Path) (d : Data) (q : Query) → query_of path d ≡ Some q → (path ≡ q.path) × IsSaidByQ q d
query_said path d q h =
    option_and_then_some (λ limit. option_and_then (λ index. option_and_then (λ range.
    if_filtered (record { path = path; index = index; range = range; limit = limit })) (range_of index d))
    (field index_of (codes "order") d))
    (if_there limit_of (get (codes "limit") d)) q h (λ limit is_limit h1.
    option_and_then_some (λ index. option_and_then (λ range.
    if_filtered (record { path = path; index = index; range = range; limit = limit })) (range_of index d))
    (field index_of (codes "order") d) q h1 (λ index is_index h2.
    option_and_then_some (λ range. if_filtered
    (record { path = path; index = index; range = range; limit = limit }))
    (range_of index d) q h2 (λ range is_range h3.
    let r : Query = record { path = path; index = index; range = range; limit = limit } in
    let filtered = filtered_some r q h3 in
    let cuts = range_said index d range is_range in
    subst (λ (x : Query). (path ≡ x.path) × IsSaidByQ x d) filtered.1
    (refl, (is_index, cuts.0, cuts.1, is_limit, filtered.0)))))

query_at_said : (path : Path) (o : Option Data) (q : Query) → query_at path o ≡ Some q → (path ≡ q.path)
    × IsSaidBy q o
query_at_said path None q h =
    let same = same_Some (plain path) q h in
    (ap (λ (x : Query). x.path) same, sym same ∙ ap (λ (x : Query). plain x.path) same)
query_at_said path (Some d) q h = query_said path d q h

query_at_read : (o : Option Data) (q : Query) → IsSaidBy q o → query_at q.path o ≡ Some q
query_at_read None q h = ap Some (sym h)
query_at_read (Some d) q h = query_read q d h

-- ---- what is read is said
listen_said : (d : Data) (m : ClientMessage) → IsOfKind (codes "listen") d → listen_in d ≡ Ok m → SaysClient m d
listen_said d m kind h =
    with_ok (field number_of (codes "tag") d) (λ tag. with (field path_of (codes "path") d)
    (λ path. with (query_at path (get (codes "q") d)) (λ query.
    Ok (Listen tag query)))) m h (λ tag is_tag h1.
    with_ok (field path_of (codes "path") d) (λ path. with (query_at path (get (codes "q") d))
    (λ query. Ok (Listen tag query))) m h1 (λ path is_path h2.
    with_ok (query_at path (get (codes "q") d)) (λ query. Ok (Listen tag query)) m h2 (λ query is_query same.
    let said = query_at_said path (get (codes "q") d) query is_query in
    subst (λ n. SaysClient n d) (same_Ok (Listen tag query) m same) (
      kind,
      is_tag,
      (
        is_path
            ∙ ap Some said.0,
        said.1,
      ),
    ))))

hello_said : (d : Data) (m : ClientMessage) → IsOfKind (codes "hello") d → hello_in d ≡ Ok m
    → SaysClient m d
hello_said d m kind h =
    with_ok (field number_of (codes "version") d) (λ version. Ok (Hello version)) m h (λ version is_version same.
    subst (λ n. SaysClient n d) (same_Ok (Hello version) m same) (kind, is_version))

unlisten_said : (d : Data) (m : ClientMessage) → IsOfKind (codes "unlisten") d → unlisten_in d ≡ Ok m
    → SaysClient m d
unlisten_said d m kind h =
    with_ok (field number_of (codes "tag") d) (λ tag. Ok (Unlisten tag)) m h (λ tag is_tag same.
    subst (λ n. SaysClient n d) (same_Ok (Unlisten tag) m same) (kind, is_tag))

put_said : (put merge : List ℕ) (d : Data) (a : Action) → IsOfKind put d → put_in d ≡ Ok a
    → SaysAction put merge a d
put_said put merge d a kind h =
    with_ok (field path_of (codes "path") d) (λ path. with (field any_of (codes "value") d)
    (λ value. made (tree_of value) (λ tree. Put path tree))) a h (λ path is_path h1.
    with_ok (field any_of (codes "value") d) (λ value. made (tree_of value) (λ tree. Put path tree)) a h1
    (λ value is_value h2.
    made_ok (tree_of value) (λ tree. Put path tree) a h2 (λ tree is_tree same.
    subst (λ x. SaysAction put merge x d) same (kind, is_path, tree_said d value tree is_value is_tree))))

merge_said : (put merge : List ℕ) (d : Data) (a : Action) → IsOfKind merge d → merge_in d ≡ Ok a
    → SaysAction put merge a d
merge_said put merge d a kind h =
    with_ok (field entries_of (codes "entries") d) (λ places. made (trees_of places)
    (λ entries. Merge entries)) a h (λ places are_places h1.
    made_ok (trees_of places) (λ entries. Merge entries) a h1 (λ entries are_trees same.
    subst (λ x. SaysAction put merge x d) same (kind, entries_said d places entries are_places are_trees)))

-- a request, of what is asked
ask_said : (d : Data) (r : Result Asked WireError) (m : ClientMessage) → ask d r ≡ Ok m
    → ((id : ℕ) (a : Asked) → HasNumber (codes "id") id d → r ≡ Ok a → SaysClient (Ask id a) d) → SaysClient m d
ask_said d r m h f =
    with_ok (field number_of (codes "id") d) (λ id. made r (λ a. Ask id a)) m h (λ id is_id h1.
    made_ok r (λ a. Ask id a) m h1 (λ a is same. subst (λ n. SaysClient n d) same (f id a is_id is)))

now_said : (d : Data) (r : Result Action WireError) (m : ClientMessage)
    → ask d (made r (λ action. Now action)) ≡ Ok m
    → ((a : Action) → r ≡ Ok a → SaysAction (codes "put") (codes "merge") a d) → SaysClient m d
now_said d r m h f = ask_said d (made r (λ action. Now action)) m h (λ id a is_id is.
    made_ok r (λ action. Now action) a is (λ action known same. subst (λ x. SaysClient (Ask id x) d) same
    (is_id, f action known)))

run_said : (d : Data) (r : Result Action WireError) (m : ClientMessage)
    → ask d (made r (λ action. AtDisconnect (Run action))) ≡ Ok m
    → ((a : Action) → r ≡ Ok a → SaysAction (codes "od-put") (codes "od-merge") a d) → SaysClient m d
run_said d r m h f = ask_said d (made r (λ action. AtDisconnect (Run action))) m h (λ id a is_id is.
    made_ok r (λ action. AtDisconnect (Run action)) a is (λ action known same.
    subst (λ x. SaysClient (Ask id x) d) same (is_id, f action known)))

cancel_said : (d : Data) (m : ClientMessage) → IsOfKind (codes "od-cancel") d → od_cancel_message d ≡ Ok m
    → SaysClient m d
cancel_said d m kind h = ask_said d (with (field path_of (codes "path") d)
    (λ path. Ok (AtDisconnect (Cancel path)))) m h (λ id a is_id is.
    with_ok (field path_of (codes "path") d) (λ path. Ok (AtDisconnect (Cancel path))) a is
    (λ path is_path same.
    subst (λ x. SaysClient (Ask id x) d) (same_Ok (AtDisconnect (Cancel path)) a same) (is_id, kind, is_path)))

-- the kinds from the last on
abbrev from_cancel : List ℕ → Data → Result ClientMessage WireError
from_cancel s d = if bytes_eq s (codes "od-cancel") then od_cancel_message d else Err UnknownKind

abbrev from_od_merge : List ℕ → Data → Result ClientMessage WireError
from_od_merge s d = if bytes_eq s (codes "od-merge") then od_merge_message d else from_cancel s d

abbrev from_od_put : List ℕ → Data → Result ClientMessage WireError
from_od_put s d = if bytes_eq s (codes "od-put") then od_put_message d else from_od_merge s d

abbrev from_merge : List ℕ → Data → Result ClientMessage WireError
from_merge s d = if bytes_eq s (codes "merge") then merge_message d else from_od_put s d

abbrev from_put : List ℕ → Data → Result ClientMessage WireError
from_put s d = if bytes_eq s (codes "put") then put_message d else from_merge s d

abbrev from_unlisten : List ℕ → Data → Result ClientMessage WireError
from_unlisten s d = if bytes_eq s (codes "unlisten") then unlisten_in d else from_put s d

abbrev from_listen : List ℕ → Data → Result ClientMessage WireError
from_listen s d = if bytes_eq s (codes "listen") then listen_in d else from_unlisten s d

kind_said : (s : List ℕ) (d : Data) (m : ClientMessage) → field as_str (codes "k") d ≡ Some s
    → client_of_kind s d ≡ Ok m → SaysClient m d
kind_said s d m k h =
    by_kind s (codes "hello") (hello_in d) (from_listen s d) m h (λ is. hello_said d m
    (k ∙ ap Some is)) (λ h0.
    by_kind s (codes "listen") (listen_in d) (from_unlisten s d) m h0 (λ is. listen_said d m
    (k ∙ ap Some is)) (λ h1.
    by_kind s (codes "unlisten") (unlisten_in d) (from_put s d) m h1 (λ is. unlisten_said d m
    (k ∙ ap Some is)) (λ h2.
    by_kind s (codes "put") (put_message d) (from_merge s d) m h2 (λ is it. now_said d (put_in d) m it
    (λ a. put_said (codes "put") (codes "merge") d a (k ∙ ap Some is))) (λ h3.
    by_kind s (codes "merge") (merge_message d) (from_od_put s d) m h3
    (λ is it. now_said d (merge_in d) m it (λ a. merge_said (codes "put") (codes "merge") d a
    (k ∙ ap Some is))) (λ h4.
    by_kind s (codes "od-put") (od_put_message d) (from_od_merge s d) m h4
    (λ is it. run_said d (put_in d) m it (λ a. put_said (codes "od-put") (codes "od-merge") d a
    (k ∙ ap Some is))) (λ h5.
    by_kind s (codes "od-merge") (od_merge_message d) (from_cancel s d) m h5
    (λ is it. run_said d (merge_in d) m it (λ a. merge_said (codes "od-put") (codes "od-merge") d a
    (k ∙ ap Some is))) (λ h6.
    by_kind s (codes "od-cancel") (od_cancel_message d) (Err UnknownKind) m h6 (λ is. cancel_said d m
    (k ∙ ap Some is)) (λ none. absurd cc))))))))

value_said : (d : Data) (m : ClientMessage) → client_message_in d ≡ Ok m → SaysClient m d
value_said d m =
    elim (field as_str (codes "k") d) as (λ o. field as_str (codes "k") d ≡ o
    → option_map_or (λ kind. client_of_kind kind d) o (Err UnknownKind) ≡ Ok m → SaysClient m d) [
      | None ↦ λ k h. absurd cc
      | Some s ↦ λ k h. kind_said s d m k h
    ] refl

pub client_said : (text : List ℕ) (m : ClientMessage) → client_message text ≡ Ok m → IsClientWord text m
client_said text m =
    elim (read text) as (λ o. read text ≡ o → option_map_or client_message_in o (Err NotJson) ≡ Ok m
    → IsClientWord text m) [
      | None ↦ λ r h. absurd cc
      | Some d ↦ λ r h. (d, r, value_said d m h)
    ] refl

-- ---- what is said is read
of_its_kind : (s : List ℕ) (d : Data) → IsOfKind s d → client_message_in d ≡ client_of_kind s d
of_its_kind s d k = ap (λ o. option_map_or (λ kind. client_of_kind kind d) o (Err UnknownKind)) k

put_read : (put merge : List ℕ) (path : Path) (tree : PathTree) (d : Data)
    → SaysAction put merge (Put path tree) d → put_in d ≡ Ok (Put path tree)
put_read put merge path tree d h =
    ap (λ o. with o (λ p. with (field any_of (codes "value") d) (λ v. made (tree_of v) (λ t. Put p t))))
    h.1 ∙ tree_read d tree (λ t. Put path t) h.2

merge_read : (put merge : List ℕ) (entries : List Assignment) (d : Data)
    → SaysAction put merge (Merge entries) d → merge_in d ≡ Ok (Merge entries)
merge_read put merge entries d h = entries_read d entries (λ es. Merge es) h.1

ask_read : (d : Data) (id : ℕ) (r : Result Asked WireError) (a : Asked) → HasNumber (codes "id") id d
    → r ≡ Ok a → ask d r ≡ Ok (Ask id a)
ask_read d id r a is_id is = ap (λ o. with o (λ id. made r (λ a. Ask id a))) is_id
    ∙ ap (λ x. made x (λ a. Ask id a)) is

value_read : (m : ClientMessage) (d : Data) → SaysClient m d → client_message_in d ≡ Ok m
value_read (Hello version) d h = of_its_kind (codes "hello") d h.0
    ∙ ap (λ o. with o (λ v. Ok (Hello v))) h.1
value_read (Listen tag query) d h =
    of_its_kind (codes "listen") d h.0
    ∙ ap (λ o. with o (λ t. with (field path_of (codes "path") d)
    (λ p. with (query_at p (get (codes "q") d)) (λ q. Ok (Listen t q))))) h.1
    ∙ ap (λ o. with o (λ p. with (query_at p (get (codes "q") d)) (λ q. Ok (Listen tag q)))) h.2.0
    ∙ ap (λ o. with o (λ q. Ok (Listen tag q))) (query_at_read (get (codes "q") d) query h.2.1)
value_read (Unlisten tag) d h = of_its_kind (codes "unlisten") d h.0
    ∙ ap (λ o. with o (λ t. Ok (Unlisten t))) h.1
value_read (Ask id (Now (Put path tree))) d h =
    of_its_kind (codes "put") d h.1.0 ∙ ask_read d id (made (put_in d) (λ a. Now a)) (Now (Put path tree)) h.0
    (ap (λ r. made r (λ a. Now a)) (put_read (codes "put") (codes "merge") path tree d h.1))
value_read (Ask id (Now (Merge entries))) d h =
    of_its_kind (codes "merge") d h.1.0 ∙ ask_read d id (made (merge_in d) (λ a. Now a))
    (Now (Merge entries)) h.0
    (ap (λ r. made r (λ a. Now a)) (merge_read (codes "put") (codes "merge") entries d h.1))
value_read (Ask id (AtDisconnect (Run (Put path tree)))) d h =
    of_its_kind (codes "od-put") d h.1.0 ∙ ask_read d id (made (put_in d) (λ a. AtDisconnect (Run a)))
    (AtDisconnect (Run (Put path tree))) h.0
    (ap (λ r. made r (λ a. AtDisconnect (Run a))) (put_read (codes "od-put") (codes "od-merge") path tree
    d h.1))
value_read (Ask id (AtDisconnect (Run (Merge entries)))) d h =
    of_its_kind (codes "od-merge") d h.1.0 ∙ ask_read d id (made (merge_in d) (λ a. AtDisconnect (Run a)))
    (AtDisconnect (Run (Merge entries))) h.0
    (ap (λ r. made r (λ a. AtDisconnect (Run a))) (merge_read (codes "od-put") (codes "od-merge") entries
    d h.1))
value_read (Ask id (AtDisconnect (Cancel path))) d h =
    of_its_kind (codes "od-cancel") d h.1
    ∙ ask_read d id (with (field path_of (codes "path") d) (λ p. Ok (AtDisconnect (Cancel p))))
    (AtDisconnect (Cancel path)) h.0
    (ap (λ o. with o (λ p. Ok (AtDisconnect (Cancel p)))) h.2)

pub client_read : (text : List ℕ) (m : ClientMessage) → IsClientWord text m → client_message text ≡ Ok m
client_read text m h = ap (λ o. option_map_or client_message_in o (Err NotJson)) h.1 ∙ value_read m h.0 h.2
