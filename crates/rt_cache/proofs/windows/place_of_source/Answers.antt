use Rattle.std.proofs.Common.{rules, ◌≡◌, ◌∙◌, ℕ, ◌+◌, ◌<◌, ◌≤◌, length, get_or, ap, sym, subst, List, Some, None, true, false, is_some, ◌&&◌, Bool, IfSome, IfNone}
use Rattle.std.specs.FinMap as map_of
use Rattle.std.specs.List.{find, All}
use Rattle.rt_tree.specs.PathTree.{Path, path_eq, path_eq-same}
use Rattle.rt_tree.specs.TreeEq.{both_second, both}
use Rattle.rt_query.specs.Queries.{Query, is_filtered}
use Rattle.rt_query.specs.QueryEq.{query_eq}
use Rattle.rt_query.specs.Supply.{does_supply}
use Rattle.rt_query.specs.laws.QueryEq.{query_eq_tells}
use Rattle.rt_query.specs.QueryOrder.{query_cmp}
use Rattle.rt_cache.specs.Recover.{in_query_order}
use Rattle.rt_cache.specs.declared.windows.Window.{Window}
use Rattle.rt_cache.specs.inside.ByPath.{is_other_supplier}
use Rattle.rt_cache.specs.inside.Held.{entries_of}
use Rattle.rt_cache.specs.inside.Listed.{queries_of}
use Rattle.rt_cache.specs.inside.Sources.{source_among}
use Rattle.rt_cache.proofs.Apart.{windows_apart}
use Rattle.rt_cache.proofs.ByPaths.{none_of}
use Rattle.rt_cache.proofs.Listing.{find-listed}
use Rattle.rt_cache.proofs.Sources.{all_kept, has_it, source_kept, own_source}
use Rattle.rt_cache.proofs.Suppliers.{first_alone, one_source, without_source, found_filtered_form, supplies_of_path}
use Rattle.rt_cache.proofs.windows.place_of_source.Goals as goal

pub returns-in-Some-clause-source : goal.returns-in-Some-clause-source
returns-in-Some-clause-source c = λ d.
    let ws : List Window = c.args.windows.now in
    let q : Query = c.args.query.now in
    let some : is_some (map_of.find query_cmp q (entries_of ws)) ≡ true = search rules in
    let own : query_eq (get_or ws c.in-Some.place d).query q ≡ true = search rules in
    source_kept ws c.args.registered.now q
    ∙ own_source c.args.registered.now (in_query_order (entries_of ws)) q c.requires.belongs (ap is_some (find-listed q (entries_of ws)) ∙ some)
    ∙ ap (λ x. Some x) (sym ((query_eq_tells (get_or ws c.in-Some.place d).query q).0 own))

pub returns-in-Some-clause-first : goal.returns-in-Some-clause-first
returns-in-Some-clause-first c = λ k d lt.
    let ws : List Window = c.args.windows.now in
    let q : Query = c.args.query.now in
    let own : query_eq (get_or ws c.in-Some.place d).query q ≡ true = search rules in
    let first : (j : ℕ) (e : Window) → j < c.in-Some.place → query_eq (get_or ws j e).query q ≡ false = search rules in
    ap (query_eq (get_or ws k d).query) ((query_eq_tells (get_or ws c.in-Some.place d).query q).0 own) ∙ first k d lt

pub last_supplier-requires-clause-filtered : goal.last_supplier-requires-clause-filtered
last_supplier-requires-clause-filtered c = all_kept (λ q. is_filtered q ≡ true) c.args.windows.now c.requires.belongs.filtered

pub last_supplier-requires-clause-apart : goal.last_supplier-requires-clause-apart
last_supplier-requires-clause-apart c = windows_apart c.args.registered.now c.args.windows.now c.requires.belongs

pub returns-in_default-last_supplier-clause-none : goal.returns-in_default-last_supplier-clause-none
returns-in_default-last_supplier-clause-none c =
    let ws : List Window = c.args.windows.now in
    let q : Query = c.args.query.now in
    let none : map_of.find query_cmp q (entries_of ws) ≡ None = search rules in
    let no_other : (k : ℕ) (d : Window) → k < length ws → is_other_supplier (get_or ws k d).query q ≡ false = search rules in
    without_source c.args.registered.now ws q c.requires.belongs none (none_of (λ (w : Window). is_other_supplier w.query q) ws no_other)

pub is_only_supplier-requires-clause-filtered : goal.is_only_supplier-requires-clause-filtered
is_only_supplier-requires-clause-filtered c = all_kept (λ q. is_filtered q ≡ true) c.args.windows.now c.requires.belongs.filtered

pub is_only_supplier-requires-clause-apart : goal.is_only_supplier-requires-clause-apart
is_only_supplier-requires-clause-apart c = windows_apart c.args.registered.now c.args.windows.now c.requires.belongs

pub returns-then-is_only_supplier-clause-source : goal.returns-then-is_only_supplier-clause-source
returns-then-is_only_supplier-clause-source c =
    let ws : List Window = c.args.windows.now in
    let q : Query = c.args.query.now in
    let last : ℕ = c.in-Some-last_supplier.last in
    let none : map_of.find query_cmp q (entries_of ws) ≡ None = search rules in
    let within : last < length ws = search rules in
    let own : (d : Window) → is_other_supplier (get_or ws last d).query q ≡ true = search rules in
    let before : (k : ℕ) (d : Window) → k < last → is_other_supplier (get_or ws k d).query q ≡ false = search rules in
    let behind : (k : ℕ) (d : Window) → last + 1 ≤ k → k < length ws → is_other_supplier (get_or ws k d).query q ≡ false = search rules in
    one_source c.args.registered.now ws q last c.requires.belongs none within own before behind

pub returns-then-is_only_supplier-clause-first : goal.returns-then-is_only_supplier-clause-first
returns-then-is_only_supplier-clause-first c =
    let ws : List Window = c.args.windows.now in
    let q : Query = c.args.query.now in
    let last : ℕ = c.in-Some-last_supplier.last in
    let none : map_of.find query_cmp q (entries_of ws) ≡ None = search rules in
    let within : last < length ws = search rules in
    let own : (d : Window) → is_other_supplier (get_or ws last d).query q ≡ true = search rules in
    let before : (k : ℕ) (d : Window) → k < last → is_other_supplier (get_or ws k d).query q ≡ false = search rules in
    first_alone c.args.registered.now ws q last c.requires.belongs none within own before

pub place_of_first-requires-clause-filtered : goal.place_of_first-requires-clause-filtered
place_of_first-requires-clause-filtered c = all_kept (λ q. is_filtered q ≡ true) c.args.windows.now c.requires.belongs.filtered

-- what supplies the query and has a window is filtered and of its path
only_of_path : (ws : List Window) (q : Query) → All (λ (w : Window). is_filtered w.query ≡ true) ws → (f : Query) → has_it (entries_of ws) q f ≡ true → (is_filtered f && path_eq f.path q.path) ≡ true
only_of_path ws q filtered f e =
    both (is_filtered f) (path_eq f.path q.path) (found_filtered_form ws f filtered (both_second (does_supply f q) (is_some (map_of.find query_cmp f (entries_of ws))) e))
    (ap (path_eq f.path) (sym (supplies_of_path ws q f filtered e)) ∙ path_eq-same f.path)

same_source : (ws : List Window) (fs gs : List Query) (q : Query) → All (λ (w : Window). is_filtered w.query ≡ true) ws
    → ((p : Query → Bool) (path : Path) → ((f : Query) → p f ≡ true → (is_filtered f && path_eq f.path path) ≡ true) → find p gs ≡ find p fs)
    → source_among (entries_of ws) fs q ≡ source_among (entries_of ws) gs q
same_source ws fs gs q filtered found = sym (found (has_it (entries_of ws) q) q.path (only_of_path ws q filtered))

pub returns-clause-source : goal.returns-clause-source
returns-clause-source c =
    let ws : List Window = c.args.windows.now in
    let same : source_among (entries_of ws) c.args.registered.now c.args.query.now ≡ source_among (entries_of ws) (queries_of c.filtered.result.now) c.args.query.now =
    same_source ws c.args.registered.now (queries_of c.filtered.result.now) c.args.query.now (all_kept (λ q. is_filtered q ≡ true) ws c.requires.belongs.filtered) c.filtered.ensures.first in
    subst (λ o. IfSome c.place_of_first.result (λ n. (d : Window) → o ≡ Some (get_or ws n d).query)) (sym same) c.place_of_first.ensures.source

pub returns-clause-none : goal.returns-clause-none
returns-clause-none c =
    let ws : List Window = c.args.windows.now in
    let same : source_among (entries_of ws) c.args.registered.now c.args.query.now ≡ source_among (entries_of ws) (queries_of c.filtered.result.now) c.args.query.now =
    same_source ws c.args.registered.now (queries_of c.filtered.result.now) c.args.query.now (all_kept (λ q. is_filtered q ≡ true) ws c.requires.belongs.filtered) c.filtered.ensures.first in
    subst (λ o. IfNone c.place_of_first.result (o ≡ None)) (sym same) c.place_of_first.ensures.none
