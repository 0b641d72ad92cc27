-- What messages of the client are written as has no float.
use Rattle.std.proofs.Common.{◌≡◌, ℕ, true, false, ℤ, pos, negsuc, List, [], ◌∷◌, ◌++◌, Option, Some, None, refl, ap}
use Rattle.std.specs.Prelude.{◌||◌, codes, if◌then◌else◌}
use Rattle.serde_json.specs.Data.{Data}
use Rattle.serde_json.specs.Find.{is_float, of_integer}
use Rattle.serde_json.specs.Written.{has_float, items_have_float, members_have_float}
use Rattle.rt_tree.specs.Leaf.{truth, number, text}
use Rattle.rt_tree.proofs.Writings.{has_float-data_of}
use Rattle.rt_order.specs.declared.index.Index.{Index}
use Rattle.rt_order.specs.declared.index.Index.TheVariants.{Key, Child, Value}
use Rattle.rt_order.specs.declared.cut.Mark.{Mark}
use Rattle.rt_order.specs.declared.cut.Mark.TheVariants.{Null, Leaf}
use Rattle.rt_order.specs.declared.cut.Place.{Place}
use Rattle.rt_order.specs.declared.cut.Place.TheVariants.{Min, Before, After, Max}
use Rattle.rt_order.specs.declared.cut.Cut.{Cut}
use Rattle.rt_query.specs.declared.query.Limit.{Limit}
use Rattle.rt_query.specs.declared.query.Limit.TheVariants.{First, Last}
use Rattle.rt_query.specs.Queries.{Query, is_filtered}
use Rattle.rt_wire.specs.declared.request.Action.{Action}
use Rattle.rt_wire.specs.declared.request.Action.TheVariants.{Put, Merge}
use Rattle.rt_wire.specs.declared.request.Ending.TheVariants.{Run, Cancel}
use Rattle.rt_wire.specs.declared.request.Asked.TheVariants.{Now, AtDisconnect}
use Rattle.rt_wire.specs.declared.client.ClientMessage.{ClientMessage}
use Rattle.rt_wire.specs.declared.client.ClientMessage.TheVariants.{Hello, Listen, Unlisten, Ask}
use Rattle.rt_wire.specs.FieldData.{Field, members_of, number_field}
use Rattle.rt_wire.specs.QueryData.{index_data, mark_data, place_items, cut_data, limit_data, field_if, query_data, query_field}
use Rattle.rt_wire.specs.ClientData.{action_data, client_data}
use Rattle.rt_wire.proofs.EntriesBack.{or_first, or_second, entries_float}

number_float : (z : ℤ) → is_float (of_integer z) ≡ false
number_float (pos n) = refl
number_float (negsuc n) = refl

mark_float : (m : Mark) → has_float (mark_data m) ≡ false
mark_float Null = refl
mark_float (Leaf (truth b)) = refl
mark_float (Leaf (number z)) = number_float z
mark_float (Leaf (text s)) = refl

place_float : (p : Place) → items_have_float (place_items p) ≡ false
place_float Min = refl
place_float (Before k) = refl
place_float (After k) = refl
place_float Max = refl

cut_float : (cut : Cut) → has_float (cut_data cut) ≡ false
cut_float cut = λ i. mark_float cut.value i || place_float cut.place i

limit_float : (limit : Limit) → has_float (limit_data limit) ≡ false
limit_float (First n) = refl
limit_float (Last n) = refl

index_float : (index : Index) → has_float (index_data index) ≡ false
index_float Key = refl
index_float (Child path) = refl
index_float Value = refl

append_float : (fs gs : List Field) → members_have_float (members_of fs) ≡ false → members_have_float (members_of gs) ≡ false → members_have_float (members_of (fs ++ gs)) ≡ false
append_float [] gs h g = g
append_float (f ∷ fs) gs h g = λ i. or_first (has_float f.1) (members_have_float (members_of fs)) h i || append_float fs gs (or_second (has_float f.1) (members_have_float (members_of fs)) h) g i

field_if_float : {A : Type 0} (f : A → Data) (name : List ℕ) (o : Option A) → ((x : A) → has_float (f x) ≡ false) → members_have_float (members_of (field_if f name o)) ≡ false
field_if_float f name None h = refl
field_if_float f name (Some x) h = ap (λ b. b || false) (h x)

pub query_float : (q : Query) → has_float (query_data q) ≡ false
query_float q =
    append_float (field_if limit_data (codes "limit") q.limit)
    (field_if cut_data (codes "lower") q.range.lower ++ ((codes "order", index_data q.index) ∷ field_if cut_data (codes "upper") q.range.upper))
    (field_if_float limit_data (codes "limit") q.limit limit_float)
    (append_float (field_if cut_data (codes "lower") q.range.lower) ((codes "order", index_data q.index) ∷ field_if cut_data (codes "upper") q.range.upper)
    (field_if_float cut_data (codes "lower") q.range.lower cut_float)
    (λ i. index_float q.index i || field_if_float cut_data (codes "upper") q.range.upper cut_float i))

query_field_float : (q : Query) → members_have_float (members_of (query_field q)) ≡ false
query_field_float q =
    elim (is_filtered q) as (λ b. members_have_float (members_of (if b then (codes "q", query_data q) ∷ [] else [])) ≡ false) [
      | true ↦ ap (λ b. b || false) (query_float q)
      | false ↦ refl
    ]

action_float : (id : ℕ) (put merge : List ℕ) (action : Action) → has_float (action_data id put merge action) ≡ false
action_float id put merge (Put path tree) = ap (λ b. b || false) (has_float-data_of tree)
action_float id put merge (Merge entries) = ap (λ b. b || false) (entries_float entries)

pub client_float : (m : ClientMessage) → has_float (client_data m) ≡ false
client_float (Hello version) = refl
client_float (Listen tag query) = append_float (query_field query) (number_field (codes "tag") tag ∷ []) (query_field_float query) refl
client_float (Unlisten tag) = refl
client_float (Ask id (Now action)) = action_float id (codes "put") (codes "merge") action
client_float (Ask id (AtDisconnect (Run action))) = action_float id (codes "od-put") (codes "od-merge") action
client_float (Ask id (AtDisconnect (Cancel path))) = refl
