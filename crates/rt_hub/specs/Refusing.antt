-- What a request is answered that can't be taken: a `no` with its number, which says what is wrong and where.
use Rattle.std.specs.Prelude.{ℕ, Bool, true, false, List, [], ◌∷◌, ◌++◌, codes, bytes_eq, if◌then◌else◌, Option, Some, None, Result}
use Rattle.std.specs.Prelude.{Ok, Err, option_and_then}
use Rattle.std.specs.Option.{option_map, option_map_or, option_or}
use Rattle.serde_json.specs.Data.{Data, Members, no_members, member}
use Rattle.serde_json.specs.Find.{get, as_object, as_str}
use Rattle.serde_json.specs.Read.{read}
use Rattle.rt_tree.specs.Path.{path_fault}
use Rattle.rt_tree.specs.Reading.{data_fault}
use Rattle.rt_tree.specs.declared.error.TreeError.{TreeError}
use Rattle.rt_tree.specs.declared.error.TreeError.TheVariants.{BadKey, KeyTooLong, TooDeep, NotWhole}
use Rattle.rt_tree.specs.declared.error.TreeError.TheVariants.{TextTooLong, TooManyNodes, NotJson, NoMemory}
use Rattle.rt_wire.specs.Client.{client_message}
use Rattle.rt_wire.specs.Fields.{field, number_of}
use Rattle.rt_wire.specs.declared.client.ClientMessage.{ClientMessage}
use Rattle.rt_wire.specs.declared.error.WireError.{WireError}
use Rattle.rt_wire.specs.declared.server.ServerMessage.TheVariants.{Refused}
use Rattle.rt_hub.specs.Lines.{text_of}
use Rattle.rt_hub.specs.declared.refusal.Asks.{Asks}
use Rattle.rt_hub.specs.declared.refusal.Asks.TheVariants.{Put, Merge, Cancel}
use Rattle.rt_hub.specs.declared.refusal.Fault.{Fault}
use Rattle.rt_hub.specs.declared.refusal.MemberName.{MemberName}
use Rattle.rt_hub.specs.declared.refusal.MemberName.TheVariants as At
use Rattle.rt_hub.specs.declared.refusal.Wrong.{Wrong}
use Rattle.rt_hub.specs.declared.refusal.Wrong.TheVariants.{Missing, NoText, NoEntries, Unfit}

-- ---- what is wrong

-- what a request asks for, by its kind; none where it is no request
abbrev pub asks_of : List ℕ → Option Asks
asks_of kind =
    if bytes_eq kind (codes "put") then Some Put
    else if bytes_eq kind (codes "merge") then Some Merge
    else if bytes_eq kind (codes "od-put") then Some Put
    else if bytes_eq kind (codes "od-merge") then Some Merge
    else if bytes_eq kind (codes "od-cancel") then Some Cancel
    else None

-- with a text as a path
abbrev pub text_wrong : List ℕ → Option Wrong
text_wrong text = option_map Unfit (path_fault text)

-- with the member `path`
abbrev pub path_wrong : Data → Option Wrong
path_wrong d = option_map_or text_wrong (field as_str (codes "path") d) (Some NoText)

-- with a value as a tree
abbrev pub tree_wrong : Data → Option Wrong
tree_wrong d = option_map Unfit (data_fault d)

-- with the member `value`
abbrev pub value_wrong : Data → Option Wrong
value_wrong d = option_map_or tree_wrong (get (codes "value") d) (Some Missing)

-- with the first name of members that is no path
abbrev pub names_wrong : Members → Option Wrong
names_wrong no_members = None
names_wrong (member name d ms) = option_or (text_wrong name) (names_wrong ms)

-- with the first value of members that is no tree
abbrev pub trees_wrong : Members → Option Wrong
trees_wrong no_members = None
trees_wrong (member name d ms) = option_or (tree_wrong d) (trees_wrong ms)

-- whether there is no member
abbrev pub has_none : Members → Bool
has_none no_members = true
has_none (member name d ms) = false

-- there is one at least, and all names are looked at before the values
abbrev pub members_wrong : Members → Option Wrong
members_wrong ms = if has_none ms then Some NoEntries else option_or (names_wrong ms) (trees_wrong ms)

-- with the member `entries`
abbrev pub entries_wrong : Data → Option Wrong
entries_wrong d = option_map_or members_wrong (field as_object (codes "entries") d) (Some NoEntries)

-- what is wrong, and where
abbrev pub at : MemberName → Option Wrong → Option Fault
at place wrong = option_map (λ w. record { place = place; wrong = w }) wrong

abbrev pub fault_in : Asks → Data → Option Fault
fault_in Put d = option_or (at At.Path (path_wrong d)) (at At.Value (value_wrong d))
fault_in Merge d = at At.Entries (entries_wrong d)
fault_in Cancel d = at At.Path (path_wrong d)

-- ---- in words

abbrev pub place_words : MemberName → List ℕ
place_words At.Path = codes "bad path: "
place_words At.Value = codes "bad value: "
place_words At.Entries = codes "bad entries: "

abbrev pub unfit_words : TreeError → List ℕ
unfit_words BadKey = codes "a key must have at least one byte, and no control character and none of . $ # [ ] /"
unfit_words KeyTooLong = codes "a key must have at most 768 bytes"
unfit_words TooDeep = codes "a path must have at most 32 keys, and no value may stand deeper"
unfit_words NotWhole = codes "a number must be whole, from -9007199254740991 to 9007199254740991"
unfit_words TextTooLong = codes "a text must have at most 65536 bytes"
unfit_words TooManyNodes = codes "a value must have at most 65536 values in it"
unfit_words NotJson = codes "it must be JSON"
unfit_words NoMemory = codes "out of memory"

abbrev pub wrong_words : Wrong → List ℕ
wrong_words Missing = codes "there must be one"
wrong_words NoText = codes "it must be a text"
wrong_words NoEntries = codes "it must be an object with a member"
wrong_words (Unfit e) = unfit_words e

abbrev pub reason_words : Option Fault → List ℕ
reason_words None = codes "bad"
reason_words (Some fault) = place_words fault.place ++ wrong_words fault.wrong

-- ---- the answer

-- to a request of that kind, where its number can be read
abbrev pub asked_answer : Data → Asks → Option (List ℕ)
asked_answer d asks =
    option_map (λ id. text_of (Refused id (reason_words (fault_in asks d)))) (field number_of (codes "id") d)

-- to a message whose kind and number can be read
abbrev pub refusal_in : Data → Option (List ℕ)
refusal_in d = option_and_then (asked_answer d) (option_and_then asks_of (field as_str (codes "k") d))

abbrev pub refusal_of : List ℕ → Option (List ℕ)
refusal_of text = option_and_then refusal_in (read text)

-- the texts that a connection is answered by itself for what it gave: for a text that is no message of a
-- client its refusal, if it has one
abbrev pub listed : Option (List ℕ) → List (List ℕ)
listed None = []
listed (Some text) = text ∷ []

abbrev pub text_answers : List ℕ → Result ClientMessage WireError → List (List ℕ)
text_answers text (Ok message) = []
text_answers text (Err why) = listed (refusal_of text)

abbrev pub given_answers : Option (List ℕ) → List (List ℕ)
given_answers None = []
given_answers (Some text) = text_answers text (client_message text)
