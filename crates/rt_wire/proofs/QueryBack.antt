-- The member `q` that is written is read back.
use Rattle.std.proofs.Common.{◌≡◌, ℕ, ◌≤◌, true, ℤ, pos, negsuc, List, [], ◌∷◌, length, Option, Some, None, IfSome, refl, ap, ◌∙◌, arith}
use Rattle.std.specs.Prelude.{codes, if◌then◌else◌, is_none}
use Rattle.std.specs.Option.{option_map, option_and_then}
use Rattle.std.proofs.lemmas.Grind.{common_steps}
use Rattle.serde_json.specs.Data.{Data}
use Rattle.serde_json.specs.Data as json
use Rattle.serde_json.specs.Find.{get, as_i64, of_integer}
use Rattle.rt_tree.specs.Key.{IsKey}
use Rattle.rt_tree.specs.Leaf.{truth, number, text, IsWhole}
use Rattle.rt_tree.specs.Path.{path_text}
use Rattle.rt_tree.specs.PathTree.{Path}
use Rattle.rt_tree.specs.declared.limits.TheConstants.{MAX_TEXT_BYTES}
use Rattle.rt_order.specs.declared.index.Index.{Index}
use Rattle.rt_order.specs.declared.index.Index.TheVariants.{Key, Child, Value}
use Rattle.rt_order.specs.declared.cut.Mark.{Mark}
use Rattle.rt_order.specs.declared.cut.Mark.TheVariants.{Null, Leaf}
use Rattle.rt_order.specs.declared.cut.Place.{Place}
use Rattle.rt_order.specs.declared.cut.Place.TheVariants.{Min, Before, After, Max}
use Rattle.rt_order.specs.declared.cut.Cut.{Cut}
use Rattle.rt_order.specs.declared.cut.Range.{Range}
use Rattle.rt_query.specs.declared.query.Limit.{Limit}
use Rattle.rt_query.specs.declared.query.Limit.TheVariants.{First, Last}
use Rattle.rt_query.specs.Queries.{Query, is_filtered, most_rows}
use Rattle.rt_wire.specs.Fields.{path_of_text}
use Rattle.rt_wire.specs.QueryFields.{index_of_text, index_of, whole_of, text_mark_of, mark_of, key_of, side_of, cut_at, cut_of_items}
use Rattle.rt_wire.specs.QueryFields.{may_cut, cut_that_may, cut_of, count_of_number, limit_with, limit_of, if_there, range_of, if_filtered, query_of}
use Rattle.rt_wire.specs.QueryData.{index_data, mark_data, place_items, cut_data, limit_data, query_data}
use Rattle.rt_wire.specs.Grammar.{IsSaidByQ}
use Rattle.rt_wire.specs.ReadBack.{IsListened}
use Rattle.rt_wire.specs.inside.StandingClient.{IsStandingIndex, IsStandingMark, IsStandingPlace, IsStandingCut, IsStandingQuery}
use Rattle.rt_wire.proofs.FieldsBack.{path_back}

-- ---- the order
child_text : (path : Path) → index_of_text (path_text path) ≡ option_map Child (path_of_text (path_text path))
child_text [] = refl
child_text (k ∷ path) = refl

index_back : (index : Index) → IsStandingIndex index → index_of (index_data index) ≡ Some index
index_back Key h = refl
index_back (Child path) h = child_text path ∙ ap (option_map Child) (path_back path h)
index_back Value h = refl

-- ---- cuts
integer_back : (z : ℤ) → IsWhole z → as_i64 (of_integer z) ≡ Some z
integer_back (pos n) h = grind (arith, common_steps)
integer_back (negsuc n) h = refl

whole_back : (z : ℤ) → IsWhole z → whole_of z ≡ Some (Leaf (number z))
whole_back (pos n) h = grind (arith, common_steps)
whole_back (negsuc n) h = grind (arith, common_steps)

text_back : (s : List ℕ) → length s ≤ MAX_TEXT_BYTES → text_mark_of s ≡ Some (Leaf (text s))
text_back s h = grind (arith, common_steps)

mark_back : (m : Mark) → IsStandingMark m → mark_of (mark_data m) ≡ Some m
mark_back Null h = refl
mark_back (Leaf (truth b)) h = refl
mark_back (Leaf (number z)) h = ap (option_and_then whole_of) (integer_back z h) ∙ whole_back z h
mark_back (Leaf (text s)) h = text_back s h

key_back : (k : List ℕ) → IsKey k → key_of (json.string k) ≡ Some k
key_back k h = ap (λ o. if is_none o then Some k else None) h

items_back : (v : Mark) (p : Place) → IsStandingMark v → IsStandingPlace p
    → cut_of_items (json.item (mark_data v) (place_items p)) ≡ Some (record { value = v; place = p })
items_back v Min hv hp = ap (λ m. cut_at m (Some Min)) (mark_back v hv)
items_back v (Before k) hv hp =
    λ i. cut_at (mark_back v hv i) (option_and_then (λ key. side_of (codes "before") key) (key_back k hp i))
items_back v (After k) hv hp =
    λ i. cut_at (mark_back v hv i) (option_and_then (λ key. side_of (codes "after") key) (key_back k hp i))
items_back v Max hv hp = ap (λ m. cut_at m (Some Max)) (mark_back v hv)

cut_back : (index : Index) (cut : Cut) → IsStandingCut cut → may_cut index cut ≡ true → cut_of index (cut_data cut) ≡ Some cut
cut_back index cut h may =
    ap (option_and_then (cut_that_may index)) (items_back cut.value cut.place h.0 h.1) ∙ ap (λ b. if b then Some cut else None) may

-- ---- the limit
count_back : (n : ℕ) → 1 ≤ n → n ≤ 4294967295 → count_of_number n ≡ Some n
count_back n some few = grind (arith, common_steps)

limit_back : (l : Limit) → 1 ≤ most_rows l → most_rows l ≤ 4294967295 → limit_of (limit_data l) ≡ Some l
limit_back (First n) some few =
    ap (option_and_then (λ m. option_and_then (λ w. limit_with w m) (Some (codes "first")))) (count_back n some few)
limit_back (Last n) some few =
    ap (option_and_then (λ m. option_and_then (λ w. limit_with w m) (Some (codes "last")))) (count_back n some few)

-- ---- members that may be left out
limit_there : (o : Option Limit) → IfSome o (λ l. 1 ≤ most_rows l) → IfSome o (λ l. most_rows l ≤ 4294967295)
    → if_there limit_of (option_map limit_data o) ≡ Some o
limit_there None some few = refl
limit_there (Some l) some few = ap (option_map Some) (limit_back l some few)

cut_there : (index : Index) (o : Option Cut) → IfSome o IsStandingCut → IfSome o (λ cut. may_cut index cut ≡ true)
    → if_there (cut_of index) (option_map cut_data o) ≡ Some o
cut_there index None h may = refl
cut_there index (Some cut) h may = ap (option_map Some) (cut_back index cut h may)

-- ---- all of it
-- what is found under each name
record AreParts (q : Query) (d : Data) : Type 0 where
  limit : get (codes "limit") d ≡ option_map limit_data q.limit
  lower : get (codes "lower") d ≡ option_map cut_data q.range.lower
  order : get (codes "order") d ≡ Some (index_data q.index)
  upper : get (codes "upper") d ≡ option_map cut_data q.range.upper

parts_of : (p : Path) (index : Index) (limit : Option Limit) (lower upper : Option Cut)
    → AreParts (record { path = p; index = index; range = record { lower = lower; upper = upper }; limit = limit })
    (query_data (record { path = p; index = index; range = record { lower = lower; upper = upper }; limit = limit }))
parts_of p index None None None = record { limit = refl; lower = refl; order = refl; upper = refl }
parts_of p index None None (Some u) = record { limit = refl; lower = refl; order = refl; upper = refl }
parts_of p index None (Some l) None = record { limit = refl; lower = refl; order = refl; upper = refl }
parts_of p index None (Some l) (Some u) = record { limit = refl; lower = refl; order = refl; upper = refl }
parts_of p index (Some n) None None = record { limit = refl; lower = refl; order = refl; upper = refl }
parts_of p index (Some n) None (Some u) = record { limit = refl; lower = refl; order = refl; upper = refl }
parts_of p index (Some n) (Some l) None = record { limit = refl; lower = refl; order = refl; upper = refl }
parts_of p index (Some n) (Some l) (Some u) = record { limit = refl; lower = refl; order = refl; upper = refl }

parts : (q : Query) → AreParts q (query_data q)
parts q = parts_of q.path q.index q.limit q.range.lower q.range.upper

-- a query is read of its parts
range_read : (index : Index) (d : Data) (range : Range) → if_there (cut_of index) (get (codes "lower") d) ≡ Some range.lower
    → if_there (cut_of index) (get (codes "upper") d) ≡ Some range.upper → range_of index d ≡ Some range
range_read index d range lower upper =
    λ i. option_and_then (λ (l : Option Cut). option_map (λ (u : Option Cut). record { lower = l; upper = u }) (upper i)) (lower i)

pub query_read : (q : Query) (d : Data) → IsSaidByQ q d → query_of q.path d ≡ Some q
query_read q d h =
    ap (option_and_then (λ limit. option_and_then (λ index. option_and_then (λ range.
    if_filtered (record { path = q.path; index = index; range = range; limit = limit })) (range_of index d))
    (option_and_then index_of (get (codes "order") d)))) h.3
    ∙ ap (option_and_then (λ index. option_and_then (λ range.
    if_filtered (record { path = q.path; index = index; range = range; limit = q.limit })) (range_of index d))) h.0
    ∙ ap (option_and_then (λ range. if_filtered (record { path = q.path; index = q.index; range = range; limit = q.limit })))
    (range_read q.index d q.range h.1 h.2)
    ∙ ap (λ b. if b then Some q else None) h.4

pub query_back : (q : Query) → IsStandingQuery q → IsListened q → is_filtered q ≡ true → query_of q.path (query_data q) ≡ Some q
query_back q s h filtered = query_read q (query_data q) (
  ap (option_and_then index_of) (parts q).order ∙ index_back q.index s.index,
  ap (if_there (cut_of q.index)) (parts q).lower ∙ cut_there q.index q.range.lower s.lower h.1,
  ap (if_there (cut_of q.index)) (parts q).upper ∙ cut_there q.index q.range.upper s.upper h.2,
  ap (if_there limit_of) (parts q).limit ∙ limit_there q.limit s.valid.0 s.few,
  filtered,
)
