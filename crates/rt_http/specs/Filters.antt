-- The words of a query that make a filter.
use Rattle.std.specs.Prelude.{ℕ, ℤ, pos, negsuc, List, Bool, true, false, ◌&&◌, ◌||◌, map, nat_le, is_none, is_some, if◌then◌else◌, codes}
use Rattle.std.specs.Prelude.{Option, Some, None, option_and_then, Result, Ok, Err}
use Rattle.std.specs.List.{list_any}
use Rattle.std.specs.Option.{option_map_or}
use Rattle.std.specs.Str.{bytes_eq}
use Rattle.form_urlencoded.specs.Form.{plus_to_space}
use Rattle.serde_json.specs.Read.{read}
use Rattle.rt_tree.specs.Leaf.{number_of, text_of}
use Rattle.rt_tree.specs.PathTree.{Path, PathTree, leaf_of}
use Rattle.rt_tree.specs.Reading.{data_fault, tree_of_data}
use Rattle.rt_tree.specs.Trees.{is_null}
use Rattle.rt_order.specs.declared.cut.Mark.{Mark}
use Rattle.rt_order.specs.declared.cut.Mark.TheVariants as mark
use Rattle.rt_order.specs.declared.index.Index.{Index}
use Rattle.rt_order.specs.declared.index.Index.TheVariants as index
use Rattle.rt_query.specs.Bounds.{Bound, end_at, equal_to, start_at}
use Rattle.rt_query.specs.Calls.{bound_refusal, bounded_by, limit_refusal, limited_to, order_refusal, ordered_by}
use Rattle.rt_query.specs.Drafts.{Draft, finished, new_draft}
use Rattle.rt_query.specs.Queries.{Query}
use Rattle.rt_query.specs.declared.error.QueryError.{QueryError}
use Rattle.rt_query.specs.declared.error.QueryError.TheVariants as refused
use Rattle.rt_query.specs.declared.query.Limit.{Limit}
use Rattle.rt_query.specs.declared.query.Limit.TheVariants.{First, Last}
use Rattle.rt_http.specs.Steps.{and_then}
use Rattle.rt_http.specs.Targets.{is_filter, path_of, unescaped, value_of}
use Rattle.rt_http.specs.declared.fault.Fault.{Fault}
use Rattle.rt_http.specs.declared.fault.Fault.TheVariants as fault
use Rattle.rt_http.specs.declared.resource.Bound.{Bound as Which}
use Rattle.rt_http.specs.declared.resource.Bound.TheVariants as which

-- ---- what words say

-- the tree that a text of JSON is; any other text is none that a word has
abbrev pub tree_of_text : List ℕ → Result PathTree Fault
tree_of_text text =
    option_map_or (λ d. if is_none (data_fault d) then Ok (tree_of_data d) else Err fault.BadWord) (read text)
    (Err fault.BadWord)

-- the JSON value of a word, as a tree: escapes, and a space for each `+`
abbrev pub tree_of_word : List ℕ → Result PathTree Fault
tree_of_word word = option_map_or tree_of_text (unescaped (map plus_to_space word)) (Err fault.BadWord)

-- the order by what stands at a path below each child
abbrev pub child_named : List ℕ → Result Index Fault
child_named name = and_then (path_of name) (λ path. Ok (index.Child path))

-- the order of that name
abbrev pub index_named : List ℕ → Result Index Fault
index_named name =
    if bytes_eq name (codes "$key") then Ok index.Key
    else (if bytes_eq name (codes "$value") then Ok index.Value
    else child_named name)

-- the order that a value of `orderBy` names
abbrev pub index_in : PathTree → Result Index Fault
index_in tree = option_map_or index_named (option_and_then text_of (leaf_of tree)) (Err fault.BadWord)

-- the value of a bound: null or a leaf
abbrev pub mark_in : PathTree → Result Mark Fault
mark_in tree =
    if is_null tree then Ok mark.Null
    else option_map_or (λ leaf. Ok (mark.Leaf leaf)) (leaf_of tree) (Err fault.BadWord)

-- a number of rows
abbrev pub count_of : ℤ → Result ℕ Fault
count_of (pos n) = if nat_le 1 n && nat_le n 4294967295 then Ok n else Err fault.BadWord
count_of (negsuc n) = Err fault.BadWord

-- the number of rows of a limit
abbrev pub count_in : PathTree → Result ℕ Fault
count_in tree = option_map_or count_of (option_and_then number_of (leaf_of tree)) (Err fault.BadWord)

-- ---- drafts

-- a refused call is a fault of a word, but for an order that is missing and a want of memory
abbrev pub refused_draft : QueryError → Fault
refused_draft refused.NoOrder = fault.NoOrder
refused_draft refused.NoMemory = fault.NoMemory
refused_draft refused.OrderTwice = fault.BadWord
refused_draft refused.StartTwice = fault.BadWord
refused_draft refused.EndTwice = fault.BadWord
refused_draft refused.LimitTwice = fault.BadWord
refused_draft refused.LimitZero = fault.BadWord
refused_draft refused.NeedsText = fault.BadWord
refused_draft refused.KeyNotAllowed = fault.BadWord
refused_draft refused.BadBoundKey = fault.BadWord

-- the draft of a call that is not refused
abbrev pub unless : Option QueryError → Draft → Result Draft Fault
unless None d = Ok d
unless (Some e) d = Err (refused_draft e)

-- a word does this to a draft, if it is there
abbrev pub if_said : Option (List ℕ) → (PathTree → Draft → Result Draft Fault) → Draft → Result Draft Fault
if_said None step d = Ok d
if_said (Some word) step d = and_then (tree_of_word word) (λ tree. step tree d)

-- in the order that a tree names
abbrev pub ordered : PathTree → Draft → Result Draft Fault
ordered tree d = and_then (index_in tree) (λ index. unless (order_refusal d) (ordered_by index d))

abbrev pub bound_of : Which → Bound
bound_of which.Start = start_at
bound_of which.End = end_at
bound_of which.Equal = equal_to

-- with a bound at a tree
abbrev pub bounded : Which → PathTree → Draft → Result Draft Fault
bounded b tree d =
    and_then (mark_in tree) (λ mark.
    unless (bound_refusal (bound_of b) mark None d) (bounded_by (bound_of b) mark None d))

abbrev pub limit_of : Bool → ℕ → Limit
limit_of true n = First n
limit_of false n = Last n

-- with a limit at a tree
abbrev pub limited : Bool → PathTree → Draft → Result Draft Fault
limited first tree d = and_then (count_in tree) (λ n. unless (limit_refusal n d) (limited_to (limit_of first n) d))

-- ---- queries

abbrev pub bounds : List (List ℕ × List ℕ) → Draft → Result Draft Fault
bounds pairs d =
    and_then (if_said (value_of (codes "startAt") pairs) (bounded which.Start) d) (λ a.
    and_then (if_said (value_of (codes "endAt") pairs) (bounded which.End) a) (λ b.
    if_said (value_of (codes "equalTo") pairs) (bounded which.Equal) b))

abbrev pub limits : List (List ℕ × List ℕ) → Draft → Result Draft Fault
limits pairs d =
    and_then (if_said (value_of (codes "limitToFirst") pairs) (limited true) d) (λ a.
    if_said (value_of (codes "limitToLast") pairs) (limited false) a)

-- the draft with the order, the bounds and the limits that words name
abbrev pub filtered : List (List ℕ × List ℕ) → Draft → Result Draft Fault
filtered pairs d =
    and_then (if_said (value_of (codes "orderBy") pairs) ordered d) (λ a.
    and_then (bounds pairs a) (λ b. limits pairs b))

-- whether there is an order, a bound or a limit
abbrev pub does_query : List (List ℕ × List ℕ) → Bool
does_query pairs = is_some (value_of (codes "orderBy") pairs) || list_any (λ pair. is_filter pair.0) pairs

-- the query of a path that the words of a query make
abbrev pub query_in : Path → List (List ℕ × List ℕ) → Result Query Fault
query_in path pairs =
    if is_none (value_of (codes "orderBy") pairs) && list_any (λ pair. is_filter pair.0) pairs then Err fault.NoOrder
    else and_then (filtered pairs (new_draft path)) (λ d. Ok (finished d))
