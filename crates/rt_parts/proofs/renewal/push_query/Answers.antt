use Rattle.std.proofs.Common.{◌≡◌, ◌==◌, ◌++◌, ◌∷◌, ◌||◌, ◌&&◌, [], List, get_or, true, false, Some, None, sym, ap, rules, ◌∙◌}
use Rattle.std.specs.List.{position}
use Rattle.rt_tree.specs.PathTree.{path_eq}
use Rattle.rt_query.specs.Queries.{Query, is_filtered}
use Rattle.rt_query.specs.QueryEq.{query_eq}
use Rattle.rt_cache.specs.Recover.{is_among}
use Rattle.rt_parts.specs.declared.listeners.HeldListener.{HeldListener}
use Rattle.rt_writes.specs.laws.Places.{found_at, any_found, any_none}
use Rattle.rt_parts.proofs.RenewalLaws.{has_of, none_one, passed_one, pushed_one}
use Rattle.rt_parts.proofs.renewal.push_query.Goals as goal

pub returns-in_default : goal.returns-in_default
returns-in_default c = λ q.
    let none : position (λ (l : HeldListener). l.number == c.args.number) c.args.listeners.now ≡ None = search rules in
    none_one c.args.queries.now.items q c.args.path.now q (has_of c.args.listeners.now q c.args.number)
    (any_none (λ (l : HeldListener). l.number) (λ (l : HeldListener). query_eq l.query q) c.args.listeners.now c.args.number none)

pub returns-then-not-is_filtered_at : goal.returns-then-not-is_filtered_at
returns-then-not-is_filtered_at c = λ q.
    let ls : List HeldListener = c.args.listeners.now in
    let d : HeldListener = c.index-listeners-at.result in
    let at : position (λ (l : HeldListener). l.number == c.args.number) ls ≡ Some c.in-Some.at = search rules in
    let here : d ≡ get_or ls c.in-Some.at d = search rules in
    let passed : (is_filtered d.query && path_eq (d.query).path c.args.path.now) ≡ false = search rules in
    passed_one c.args.queries.now.items d.query c.args.path.now q passed
    ∙ ap (λ b. is_among c.args.queries.now.items q || (is_filtered q && path_eq q.path c.args.path.now && b))
    (ap (λ (x : HeldListener). query_eq x.query q) here
    ∙ sym (any_found (λ (l : HeldListener). l.number) (λ (l : HeldListener). query_eq l.query q) ls c.args.number (get_or ls c.in-Some.at d) c.requires
    (found_at (λ (l : HeldListener). l.number == c.args.number) ls c.in-Some.at d at)))

pub returns : goal.returns
returns c = λ q.
    let ls : List HeldListener = c.args.listeners.now in
    let d : HeldListener = c.index-listeners-at.result in
    let at : position (λ (l : HeldListener). l.number == c.args.number) ls ≡ Some c.in-Some.at = search rules in
    let here : d ≡ get_or ls c.in-Some.at d = search rules in
    let wanted : (is_filtered d.query && path_eq (d.query).path c.args.path.now) ≡ true = search rules in
    let pushed : c.push.new.self.items ≡ c.args.queries.now.items ++ d.query ∷ [] = search rules in
    ap (λ (qs : List Query). is_among qs q) pushed
    ∙ pushed_one c.args.queries.now.items d.query c.args.path.now q wanted
    ∙ ap (λ b. is_among c.args.queries.now.items q || (is_filtered q && path_eq q.path c.args.path.now && b))
    (ap (λ (x : HeldListener). query_eq x.query q) here
    ∙ sym (any_found (λ (l : HeldListener). l.number) (λ (l : HeldListener). query_eq l.query q) ls c.args.number (get_or ls c.in-Some.at d) c.requires
    (found_at (λ (l : HeldListener). l.number == c.args.number) ls c.in-Some.at d at)))
