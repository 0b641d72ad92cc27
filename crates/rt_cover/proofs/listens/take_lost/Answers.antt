use Rattle.std.proofs.Common.{◌≡◌, ◌<◌, ◌≤◌, ◌==◌, rules, not, Bool, true, List, length, get_or, sym, subst, ◌∙◌}
use Rattle.std.specs.List.{list_any, count_by}
use Rattle.std.proofs.lemmas.Fn.{filter_same}
use Rattle.rt_cover.specs.Cover.{Tagged}
use Rattle.rt_cover.proofs.ListenLaws.{none_lost}
use Rattle.rt_cover.proofs.TakenLaws.{one_taken}
use Rattle.rt_cover.proofs.listens.take_lost.Goals as goal

pub returns-then-is_empty-clause-left : goal.returns-then-is_empty-clause-left
returns-then-is_empty-clause-left c =
    let none : length c.args.lost.now ≡ 0 = search rules in
    sym (none_lost c.args.lost.now c.args.listens.now.items none)

pub returns-then-is_lost_at-clause-left : goal.returns-then-is_lost_at-clause-left
returns-then-is_lost_at-clause-left c =
    let ks : List Tagged = c.args.listens.now.items in
    let goes : Tagged → Bool = λ k. list_any (λ (j : Tagged). j.tag == k.tag) c.args.lost.now in
    let yes : c.is_lost_at.result ≡ true = search rules in
    let same : c.deref.result.now ≡ ks = c.deref.ensures.value in
    let once : count_by goes ks ≤ 1 = c.requires.once (c.is_lost_at.ensures.one yes) in
    let within : c.args.place < length ks = subst (λ xs. c.args.place < length xs) same (c.is_lost_at.ensures.within yes) in
    let here : goes (get_or ks c.args.place c.remove-lost.result) ≡ true =
    subst (λ xs. goes (get_or xs c.args.place c.remove-lost.result) ≡ true) same (c.is_lost_at.ensures.lost yes c.remove-lost.result) in
    c.remove-lost.ensures.items ∙ sym (one_taken goes ks c.args.place c.remove-lost.result once within here)

pub returns-clause-left : goal.returns-clause-left
returns-clause-left c = filter_same _ (λ (k : Tagged). not (list_any (λ (j : Tagged). j.tag == k.tag) c.args.lost.now)) _ (λ x b f' k. search rules) _ _ c.retain.ensures.filtered
