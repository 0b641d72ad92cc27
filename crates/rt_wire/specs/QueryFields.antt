-- The member `q` of a listen: what a filtered query has beside its path.
use Rattle.std.specs.Prelude.{ℕ, ◌==◌, ◌&&◌, ◌||◌, Bool, true, false, List, [], ◌∷◌, length}
use Rattle.std.specs.Prelude.{bytes_eq, codes, nat_le, not, if◌then◌else◌, ℤ, Option, Some, None}
use Rattle.std.specs.Prelude.{is_none, option_map, option_and_then}
use Rattle.serde_json.specs.Data.{Data, Items, no_items, item}
use Rattle.serde_json.specs.Data as json
use Rattle.serde_json.specs.Find.{get, as_str, as_number, as_array, as_u64, as_i64}
use Rattle.rt_tree.specs.Key.{key_fault}
use Rattle.rt_tree.specs.Leaf.{truth, number, text}
use Rattle.rt_tree.specs.PathTree.{Key, Path}
use Rattle.rt_tree.specs.Reading.{number_fault}
use Rattle.rt_tree.specs.declared.limits.TheConstants.{MAX_TEXT_BYTES}
use Rattle.rt_order.specs.declared.index.Index.{Index}
use Rattle.rt_order.specs.declared.index.Index.TheVariants as index
use Rattle.rt_order.specs.declared.cut.Mark.{Mark}
use Rattle.rt_order.specs.declared.cut.Mark.TheVariants.{Null, Leaf}
use Rattle.rt_order.specs.declared.cut.Place.{Place}
use Rattle.rt_order.specs.declared.cut.Place.TheVariants.{Min, Before, After, Max}
use Rattle.rt_order.specs.declared.cut.Cut.{Cut}
use Rattle.rt_order.specs.declared.cut.Range.{Range}
use Rattle.rt_query.specs.declared.query.Limit.{Limit}
use Rattle.rt_query.specs.declared.query.Limit.TheVariants.{First, Last}
use Rattle.rt_query.specs.Bounds.{is_by_key}
use Rattle.rt_query.specs.Queries.{Query, is_filtered}
use Rattle.rt_wire.specs.Fields.{field, path_of_text}

-- ---- `order`: "key", "value", or the text of a child path, which begins with a slash
abbrev pub begins_with_slash : List ℕ → Bool
begins_with_slash [] = false
begins_with_slash (b ∷ bytes) = b == 47

abbrev pub index_of_text : List ℕ → Option Index
index_of_text s =
    if bytes_eq s (codes "key") then Some index.Key
    else if bytes_eq s (codes "value") then Some index.Value
    else if begins_with_slash s then option_map index.Child (path_of_text s)
    else None

abbrev pub index_of : Data → Option Index
index_of d = option_and_then index_of_text (as_str d)

-- ---- `lower` and `upper`: a cut, which is [v,"min"], [v,"before",k], [v,"after",k] or [v,"max"]

-- v is null, a truth value, or a number or a text that a leaf may hold
abbrev pub whole_of : ℤ → Option Mark
whole_of z = if is_none (number_fault (Some z)) then Some (Leaf (number z)) else None

abbrev pub text_mark_of : List ℕ → Option Mark
text_mark_of s = if nat_le (length s) MAX_TEXT_BYTES then Some (Leaf (text s)) else None

abbrev pub mark_of : Data → Option Mark
mark_of json.null = Some Null
mark_of (json.boolean b) = Some (Leaf (truth b))
mark_of (json.number n) = option_and_then whole_of (as_i64 n)
mark_of (json.string s) = text_mark_of s
mark_of (json.array ds) = None
mark_of (json.object ms) = None

-- k is a key
abbrev pub key_of_text : List ℕ → Option Key
key_of_text s = if is_none (key_fault s) then Some s else None

abbrev pub key_of : Data → Option Key
key_of d = option_and_then key_of_text (as_str d)

-- a place that names no key, and one that does
abbrev pub edge_of : List ℕ → Option Place
edge_of word = if bytes_eq word (codes "min") then Some Min else if bytes_eq word
    (codes "max") then Some Max else None

abbrev pub side_of : List ℕ → Key → Option Place
side_of word k = if bytes_eq word (codes "before") then Some (Before k) else if bytes_eq word
    (codes "after") then Some (After k) else None

-- the cut at a value and a place
abbrev pub cut_at : Option Mark → Option Place → Option Cut
cut_at value place = option_and_then (λ v. option_map (λ p. record { value = v; place = p }) place)
    value

abbrev pub cut_of_items : Items → Option Cut
cut_of_items (item v (item word no_items)) = cut_at (mark_of v) (option_and_then edge_of (as_str word))
cut_of_items (item v (item word (item k no_items))) =
    cut_at (mark_of v) (option_and_then (λ key. option_and_then (λ w. side_of w key) (as_str word))
    (key_of k))
cut_of_items _ = None

-- in key order, where each child's value is null, a cut is next to a key
abbrev pub is_at_key : Place → Bool
is_at_key Min = false
is_at_key (Before k) = true
is_at_key (After k) = true
is_at_key Max = false

abbrev pub is_null : Mark → Bool
is_null Null = true
is_null (Leaf l) = false

abbrev pub may_cut : Index → Cut → Bool
may_cut index cut = not (is_by_key index) || is_null cut.value && is_at_key cut.place

abbrev pub cut_that_may : Index → Cut → Option Cut
cut_that_may index cut = if may_cut index cut then Some cut else None

abbrev pub cut_of : Index → Data → Option Cut
cut_of index d = option_and_then (cut_that_may index) (option_and_then cut_of_items (as_array d))

-- ---- `limit`: ["first",n] or ["last",n], n from 1 to 4294967295
abbrev pub count_of_number : ℕ → Option ℕ
count_of_number n = if nat_le 1 n && nat_le n 4294967295 then Some n else None

abbrev pub count_of : Data → Option ℕ
count_of d = option_and_then count_of_number (option_and_then as_u64 (as_number d))

abbrev pub limit_with : List ℕ → ℕ → Option Limit
limit_with word n = if bytes_eq word (codes "first") then Some (First n) else if bytes_eq word
    (codes "last") then Some (Last n) else None

abbrev pub limit_of_items : Items → Option Limit
limit_of_items (item word (item n no_items)) =
    option_and_then (λ m. option_and_then (λ w. limit_with w m) (as_str word)) (count_of n)
limit_of_items _ = None

abbrev pub limit_of : Data → Option Limit
limit_of d = option_and_then limit_of_items (as_array d)

-- ---- all of it: `order` is always there, and at least one of the others
abbrev pub if_there : {A : Type 0} → (Data → Option A) → Option Data → Option (Option A)
if_there f None = Some None
if_there f (Some d) = option_map Some (f d)

abbrev pub range_of : Index → Data → Option Range
range_of index d =
    option_and_then (λ lower. option_map (λ upper. record { lower = lower; upper = upper })
    (if_there (cut_of index) (get (codes "upper") d)))
    (if_there (cut_of index) (get (codes "lower") d))

abbrev pub if_filtered : Query → Option Query
if_filtered q = if is_filtered q then Some q else None

abbrev pub query_of : Path → Data → Option Query
query_of p d =
    option_and_then (λ limit. option_and_then (λ index. option_and_then (λ range.
    if_filtered (record { path = p; index = index; range = range; limit = limit }))
    (range_of index d)) (field index_of (codes "order") d)) (if_there limit_of (get (codes "limit") d))
