use Rattle.std.proofs.Common.{rules, ◌≡◌, ◌∙◌, ◌+◌, ◌<◌, ◌≤◌, ◌&&◌, ℕ, Bool, List, Some, None, nat_lt, sym, ap, subst, arith, ltb-true, ltb-false, length, get_or, true, false, refl}
use Rattle.std.specs.List.{list_any, All}
use Rattle.std.specs.Ordering.{is_gt}
use Rattle.rt_query.specs.Queries.{Query, is_filtered}
use Rattle.rt_query.specs.QueryOrder.{query_cmp, unlimited}
use Rattle.rt_cache.specs.declared.windows.Window.{Window}
use Rattle.rt_cache.specs.inside.ByPath.{AreByQuery, AreApart, query_of, is_other_supplier}
use Rattle.rt_cache.specs.inside.Handing.{is_staying}
use Rattle.rt_cache.specs.inside.Spans.{have_place, IsLastBefore}
use Rattle.rt_cache.proofs.Apart.{none_passes}
use Rattle.rt_cache.proofs.ByPaths.{any_at, none_of}
use Rattle.rt_cache.proofs.handover.has_other_staying.Goals as goal

abbrev stays : List Query → Bool → Query → Window → Bool
stays those among q w = is_other_supplier w.query q && is_staying those among w.query

and_no : (b : Bool) → (b && false) ≡ false
and_no true = refl
and_no false = refl

-- none behind a place both supplies and stays, where none behind the count supplies and none between stays
behind : (those : List Query) (among : Bool) (q : Query) (ws : List Window) (from count : ℕ)
    → ((k : ℕ) (d : Window) → count ≤ k → k < length ws → is_other_supplier (get_or ws k d).query q ≡ false)
    → ((k : ℕ) (d : Window) → from ≤ k → k < count → k < length ws → is_staying those among (get_or ws k d).query ≡ false)
    → (k : ℕ) (d : Window) → from ≤ k → k < length ws → stays those among q (get_or ws k d) ≡ false
behind those among q ws from count misses gone k d le lt = at (nat_lt k count) refl
  where
    at : (b : Bool) → nat_lt k count ≡ b → stays those among q (get_or ws k d) ≡ false
    at true e = ap (λ b. is_other_supplier (get_or ws k d).query q && b) (gone k d le (ltb-true k count e) lt) ∙ and_no (is_other_supplier (get_or ws k d).query q)
    at false e = ap (λ b. b && is_staying those among (get_or ws k d).query) (misses k d (ltb-false k count e) lt)

pub returns-in_default : goal.returns-in_default
returns-in_default c = λ those among h.
    let ws : List Window = c.args.windows.now in
    let q : Query = c.args.query.now in
    let count : ℕ = c.count_to_supplier-count.result in
    let last : IsLastBefore c.args.staying.now count c.last_before.result = c.last_before.ensures.last (length ws) h.order h.filled in
    let was : c.last_before.result ≡ None = search rules in
    let none : (k : ℕ) → k < count → have_place c.args.staying.now k ≡ false = subst (IsLastBefore c.args.staying.now count) was last in
    sym (none_of (stays those among q) ws (λ k d lt. behind those among q ws 0 count c.count_to_supplier-count.ensures.behind
    (λ j e le l m. sym (h.places j e m) ∙ none j l) k d (omega arith) lt))

pub returns : goal.returns
returns c = λ those among h.
    let ws : List Window = c.args.windows.now in
    let q : Query = c.args.query.now in
    let count : ℕ = c.count_to_supplier-count.result in
    let n : ℕ = c.in-Some.place in
    let item : Window = c.index-windows-place.result in
    let within : n < length ws = search rules in
    let front : n < count = search rules in
    let last : IsLastBefore c.args.staying.now count c.last_before.result = c.last_before.ensures.last (length ws) h.order h.filled in
    let was : c.last_before.result ≡ Some n = search rules in
    let known : IsLastBefore c.args.staying.now count (Some n) = subst (IsLastBefore c.args.staying.now count) was last in
    let here : is_staying those among (get_or ws n item).query ≡ true = sym (h.places n item within) ∙ known.0 in
    let told : c.is_other_supplier.result ≡ is_other_supplier (get_or ws n item).query q = search rules in
    told ∙ at those among ws q count n item within front here (c.count_to_supplier-count.ensures.up_to n item front)
    (behind those among q ws (n + 1) count c.count_to_supplier-count.ensures.behind (λ j e le l m. sym (h.places j e m) ∙ known.1 j (omega (arith, le)) l))
    c.requires.order c.requires.filtered c.requires.apart (is_other_supplier (get_or ws n item).query q) refl
  where
    at : (those : List Query) (among : Bool) (ws : List Window) (q : Query) (count n : ℕ) (item : Window) → n < length ws → n < count
        → is_staying those among (get_or ws n item).query ≡ true
        → is_gt (query_cmp (get_or ws n item).query (unlimited q)) ≡ false
        → ((k : ℕ) (d : Window) → n + 1 ≤ k → k < length ws → stays those among q (get_or ws k d) ≡ false)
        → AreByQuery query_of ws → All (λ (w : Window). is_filtered w.query ≡ true) ws → AreApart query_of ws
        → (b : Bool) → is_other_supplier (get_or ws n item).query q ≡ b → b ≡ list_any (stays those among q) ws
    at those among ws q count n item within front here up back order filtered apart true e = sym (any_at (stays those among q) ws n item within (λ i. e i && here i))
    at those among ws q count n item within front here up back order filtered apart false e =
        sym (none_passes query_of q ws order filtered apart (is_staying those among) n item within up e back)
