-- Messages of the client that are written are read back.
use Rattle.std.proofs.Common.{◌≡◌, ℕ, ◌≤◌, true, false, Bool, List, [], ◌∷◌, ◌++◌, Option, Some, None, Ok, Err, refl, sym, ap, ◌∙◌, arith}
use Rattle.std.specs.Prelude.{codes, if◌then◌else◌}
use Rattle.std.specs.Prelude.{Result}
use Rattle.std.specs.List.{AllByRecursion}
use Rattle.std.specs.Option.{option_map_or}
use Rattle.serde_json.specs.Data.{Data, depth, items_depth, members_depth}
use Rattle.serde_json.specs.Read.{read, max_depth}
use Rattle.rt_tree.specs.Allowed.{shallow_of}
use Rattle.rt_tree.specs.Leaf.{truth, number, text}
use Rattle.rt_tree.specs.Path.{path_text}
use Rattle.rt_tree.specs.PathTree.{Path, PathTree}
use Rattle.rt_tree.specs.Assignments.{Assignment}
use Rattle.rt_tree.specs.Writing.{data_of}
use Rattle.rt_tree.proofs.Writings.{depth-data_of}
use Rattle.rt_order.specs.declared.index.Index.{Index}
use Rattle.rt_order.specs.declared.index.Index.TheVariants.{Key, Child, Value}
use Rattle.rt_order.specs.declared.cut.Mark.{Mark}
use Rattle.rt_order.specs.declared.cut.Mark.TheVariants.{Null, Leaf}
use Rattle.rt_order.specs.declared.cut.Place.{Place}
use Rattle.rt_order.specs.declared.cut.Place.TheVariants.{Min, Before, After, Max}
use Rattle.rt_order.specs.declared.cut.Cut.{Cut}
use Rattle.rt_query.specs.declared.query.Limit.{Limit}
use Rattle.rt_query.specs.declared.query.Limit.TheVariants.{First, Last}
use Rattle.rt_query.specs.Queries.{Query, plain, is_filtered}
use Rattle.rt_wire.specs.declared.error.WireError.{WireError}
use Rattle.rt_wire.specs.declared.error.WireError.TheVariants.{NotJson}
use Rattle.rt_wire.specs.declared.request.Action.{Action}
use Rattle.rt_wire.specs.declared.request.Action.TheVariants.{Put, Merge}
use Rattle.rt_wire.specs.declared.request.Ending.TheVariants.{Run, Cancel}
use Rattle.rt_wire.specs.declared.request.Asked.{Asked}
use Rattle.rt_wire.specs.declared.request.Asked.TheVariants.{Now, AtDisconnect}
use Rattle.rt_wire.specs.declared.client.ClientMessage.{ClientMessage}
use Rattle.rt_wire.specs.declared.client.ClientMessage.TheVariants.{Hello, Listen, Unlisten, Ask}
use Rattle.rt_wire.specs.Fields.{with, made, in_range, path_of_text, tree_of}
use Rattle.rt_wire.specs.EntryFields.{trees_of}
use Rattle.rt_wire.specs.QueryFields.{query_of}
use Rattle.rt_wire.specs.Client.{client_message_in, put_in, merge_in}
use Rattle.rt_wire.specs.FieldData.{Field, kind, number_field, path_field, members_of, object_of}
use Rattle.rt_wire.specs.QueryData.{index_data, mark_data, place_items, cut_data, limit_data, field_if, query_data}
use Rattle.rt_wire.specs.ClientData.{action_data, client_data}
use Rattle.rt_wire.specs.ReadBack.{IsNumber, IsReadable, AreEntries, IsListened, IsReadableAction, IsClientMessage, IsClientSame, IsClientText}
use Rattle.rt_wire.specs.inside.Standing.{IsStanding}
use Rattle.rt_wire.specs.inside.StandingClient.{IsStandingListen, IsStandingAction, IsStandingRequest}
use Rattle.rt_wire.proofs.FieldsBack.{number_back, path_back, tree_back}
use Rattle.rt_wire.proofs.EntriesBack.{in_text_order, order_back, order_moved, trees_back, entries_places, entries_depth}
use Rattle.rt_wire.proofs.QueryBack.{query_back}

-- ---- how deep what is written nests
mark_depth : (m : Mark) → depth (mark_data m) ≡ 0
mark_depth Null = refl
mark_depth (Leaf (truth b)) = refl
mark_depth (Leaf (number z)) = refl
mark_depth (Leaf (text s)) = refl

place_depth : (p : Place) → items_depth (place_items p) ≡ 0
place_depth Min = refl
place_depth (Before k) = refl
place_depth (After k) = refl
place_depth Max = refl

cut_depth : (cut : Cut) → depth (cut_data cut) ≤ 1
cut_depth cut = omega (arith, mark_depth cut.value, place_depth cut.place)

limit_depth : (limit : Limit) → depth (limit_data limit) ≤ 1
limit_depth (First n) = omega arith
limit_depth (Last n) = omega arith

index_depth : (index : Index) → depth (index_data index) ≡ 0
index_depth Key = refl
index_depth (Child path) = refl
index_depth Value = refl

append_depth : (n : ℕ) (fs gs : List Field) → members_depth (members_of fs) ≤ n → members_depth (members_of gs) ≤ n
    → members_depth (members_of (fs ++ gs)) ≤ n
append_depth n [] gs h g = g
append_depth n (f ∷ fs) gs h g = omega (arith, h, append_depth n fs gs (omega (arith, h)) g)

field_if_depth : {A : Type 0} (f : A → Data) (name : List ℕ) (o : Option A) → ((x : A) → depth (f x) ≤ 1)
    → members_depth (members_of (field_if f name o)) ≤ 1
field_if_depth f name None h = omega arith
field_if_depth f name (Some x) h = omega (arith, h x)

query_depth : (q : Query) → depth (query_data q) ≤ 2
query_depth q =
    let limit = field_if_depth limit_data (codes "limit") q.limit limit_depth in
    let lower = field_if_depth cut_data (codes "lower") q.range.lower cut_depth in
    let upper = field_if_depth cut_data (codes "upper") q.range.upper cut_depth in
    let last = (codes "order", index_data q.index) ∷ field_if cut_data (codes "upper") q.range.upper in
    omega (
      arith,
      append_depth 1 (field_if limit_data (codes "limit") q.limit) (field_if cut_data (codes "lower") q.range.lower ++ last) limit
          (append_depth 1 (field_if cut_data (codes "lower") q.range.lower) last lower (omega (arith, index_depth q.index, upper))),
    )

-- a listen with `q` or without it
listen_with : Bool → ℕ → Query → Data
listen_with b tag q =
    object_of (kind (codes "listen") ∷ path_field q.path ∷ ((if b then (codes "q", query_data q) ∷ [] else []) ++ number_field (codes "tag") tag ∷ []))

listen_depth : (b : Bool) (tag : ℕ) (q : Query) → depth (listen_with b tag q) ≤ max_depth
unfolding listen_with
listen_depth true tag q = omega (arith, query_depth q)
listen_depth false tag q = omega arith

action_depth : (id : ℕ) (put merge : List ℕ) (action : Action) → IsStandingAction action → depth (action_data id put merge action) ≤ max_depth
action_depth id put merge (Put path tree) s = omega (arith, depth-data_of tree, shallow_of tree s.1.allowed)
action_depth id put merge (Merge entries) s = omega (arith, entries_depth entries s)

pub client_depth : (m : ClientMessage) → IsStandingRequest m → depth (client_data m) ≤ max_depth
unfolding listen_with
client_depth (Hello version) s = omega arith
client_depth (Listen tag query) s = listen_depth (is_filtered query) tag query
client_depth (Unlisten tag) s = omega arith
client_depth (Ask id (Now action)) s = action_depth id (codes "put") (codes "merge") action s
client_depth (Ask id (AtDisconnect (Run action))) s = action_depth id (codes "od-put") (codes "od-merge") action s
client_depth (Ask id (AtDisconnect (Cancel path))) s = omega arith

-- ---- a listen
form_of : (q : Query) → IsListened q → is_filtered q ≡ false → plain q.path ≡ q
form_of q h none = sym (ap (λ b. if b then q else plain q.path) none) ∙ h.0

listen_back : (b : Bool) (tag : ℕ) (q : Query) → is_filtered q ≡ b → IsStandingListen q → IsNumber tag → IsListened q
    → client_message_in (listen_with b tag q) ≡ Ok (Listen tag q)
unfolding listen_with
listen_back true tag q is s n h =
    ap (λ o. with o (λ t. with (path_of_text (path_text q.path)) (λ p. with (query_of p (query_data q)) (λ r. Ok (Listen t r))))) (number_back tag n)
    ∙ ap (λ o. with o (λ p. with (query_of p (query_data q)) (λ r. Ok (Listen tag r)))) (path_back q.path s.0)
    ∙ ap (λ o. with o (λ r. Ok (Listen tag r))) (query_back q (s.1 is) h is)
listen_back false tag q is s n h =
    ap (λ o. with o (λ t. with (path_of_text (path_text q.path)) (λ p. Ok (Listen t (plain p))))) (number_back tag n)
    ∙ ap (λ o. with o (λ p. Ok (Listen tag (plain p)))) (path_back q.path s.0)
    ∙ ap (λ r. Ok (Listen tag r)) (form_of q h is)

-- ---- a request
asked : (id : ℕ) (f : Action → Asked) (r : Result Action WireError) (a : Action) → IsNumber id → r ≡ Ok a
    → with (in_range id) (λ i. made (made r f) (λ x. Ask i x)) ≡ Ok (Ask id (f a))
asked id f r a n is =
    ap (λ o. with o (λ i. made (made r f) (λ x. Ask i x))) (number_back id n) ∙ ap (λ o. made (made o f) (λ x. Ask id x)) is

put_back : (id : ℕ) (put merge : List ℕ) (path : Path) (tree : PathTree) → IsStandingAction (Put path tree) → IsReadable tree
    → put_in (action_data id put merge (Put path tree)) ≡ Ok (Put path tree)
put_back id put merge path tree s h =
    ap (λ o. with o (λ p. made (tree_of (data_of tree)) (λ t. Put p t))) (path_back path s.0)
    ∙ ap (λ r. made r (λ t. Put path t)) (tree_back tree s.1 h)

merge_back : (id : ℕ) (put merge : List ℕ) (entries : List Assignment) → AllByRecursion IsStanding entries → AreEntries entries
    → merge_in (action_data id put merge (Merge entries)) ≡ Ok (Merge (in_text_order entries))
merge_back id put merge entries s h =
    ap (λ o. with o (λ places. made (trees_of places) (λ es. Merge es))) (entries_places entries s h)
    ∙ ap (λ r. made r (λ es. Merge es)) (trees_back (in_text_order entries) (order_back entries s h.2))

-- what is read of a write that is written
IsBack : ClientMessage → Type 0
IsBack m = (n : ClientMessage) × (client_message_in (client_data m) ≡ Ok n) × IsClientSame m n

now_back : (id : ℕ) (action : Action) → IsStandingAction action → IsNumber id → IsReadableAction action → IsBack (Ask id (Now action))
unfolding IsBack
now_back id (Put path tree) s n h = (
  Ask id (Now (Put path tree)),
  asked id (λ a. Now a) (put_in (action_data id (codes "put") (codes "merge") (Put path tree))) (Put path tree) n
      (put_back id (codes "put") (codes "merge") path tree s h),
  (Put path tree, refl, refl),
)
now_back id (Merge entries) s n h = (
  Ask id (Now (Merge (in_text_order entries))),
  asked id (λ a. Now a) (merge_in (action_data id (codes "put") (codes "merge") (Merge entries))) (Merge (in_text_order entries)) n
      (merge_back id (codes "put") (codes "merge") entries s h),
  (Merge (in_text_order entries), (in_text_order entries, order_moved entries s h.1, refl), refl),
)

run_back : (id : ℕ) (action : Action) → IsStandingAction action → IsNumber id → IsReadableAction action → IsBack (Ask id (AtDisconnect (Run action)))
unfolding IsBack
run_back id (Put path tree) s n h = (
  Ask id (AtDisconnect (Run (Put path tree))),
  asked id (λ a. AtDisconnect (Run a)) (put_in (action_data id (codes "od-put") (codes "od-merge") (Put path tree))) (Put path tree) n
      (put_back id (codes "od-put") (codes "od-merge") path tree s h),
  (Put path tree, refl, refl),
)
run_back id (Merge entries) s n h = (
  Ask id (AtDisconnect (Run (Merge (in_text_order entries)))),
  asked id (λ a. AtDisconnect (Run a)) (merge_in (action_data id (codes "od-put") (codes "od-merge") (Merge entries))) (Merge (in_text_order entries)) n
      (merge_back id (codes "od-put") (codes "od-merge") entries s h),
  (Merge (in_text_order entries), (in_text_order entries, order_moved entries s h.1, refl), refl),
)

client_back : (m : ClientMessage) → IsStandingRequest m → IsClientMessage m → IsBack m
unfolding IsBack listen_with
client_back (Hello version) s h = (Hello version, ap (λ o. with o (λ v. Ok (Hello v))) (number_back version h), refl)
client_back (Listen tag query) s h = (Listen tag query, listen_back (is_filtered query) tag query refl s h.0 h.1, refl)
client_back (Unlisten tag) s h = (Unlisten tag, ap (λ o. with o (λ t. Ok (Unlisten t))) (number_back tag h), refl)
client_back (Ask id (Now action)) s h = now_back id action s h.0 h.1
client_back (Ask id (AtDisconnect (Run action))) s h = run_back id action s h.0 h.1
client_back (Ask id (AtDisconnect (Cancel path))) s h = (
  Ask id (AtDisconnect (Cancel path)),
  ap (λ o. with o (λ i. made (with (path_of_text (path_text path)) (λ p. Ok (AtDisconnect (Cancel p)))) (λ x. Ask i x))) (number_back id h)
      ∙ ap (λ o. made (with o (λ p. Ok (AtDisconnect (Cancel p)))) (λ x. Ask id x)) (path_back path s),
  refl,
)

pub client_text : (m : ClientMessage) (text : List ℕ) → IsStandingRequest m → read text ≡ Some (client_data m) → IsClientMessage m → IsClientText m text
unfolding IsBack
client_text m bytes s reads h =
    let back = client_back m s h in
    (back.0, ap (λ o. option_map_or client_message_in o (Err NotJson)) reads ∙ back.1, back.2)
