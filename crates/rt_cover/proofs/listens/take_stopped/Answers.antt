use Rattle.std.proofs.Common.{◌≡◌, ◌<◌, rules, not, Bool, true, List, length, get_or, sym, subst, arith, ◌∙◌}
use Rattle.std.specs.List.{count_by}
use Rattle.std.proofs.lemmas.Fn.{filter_same}
use Rattle.rt_query.specs.Supply.{does_supply}
use Rattle.rt_cover.specs.Cover.{Tagged}
use Rattle.rt_cover.proofs.ListenLaws.{none_taken}
use Rattle.rt_cover.proofs.TakenLaws.{none_counted, one_taken}
use Rattle.rt_cover.proofs.listens.take_stopped.Goals as goal

pub returns-then-is_empty-clause-left : goal.returns-then-is_empty-clause-left
returns-then-is_empty-clause-left c =
    let none : length c.args.stopped.now ≡ 0 = search rules in
    sym (none_taken (λ k. does_supply c.args.form.now k.form) c.args.listens.now.items
    (none_counted (λ k. does_supply c.args.form.now k.form) c.args.listens.now.items (sym c.requires ∙ none)))

pub returns-then-is_stopped_at-clause-left : goal.returns-then-is_stopped_at-clause-left
returns-then-is_stopped_at-clause-left c =
    let ks : List Tagged = c.args.listens.now.items in
    let goes : Tagged → Bool = λ k. does_supply c.args.form.now k.form in
    let yes : c.is_stopped_at.result ≡ true = search rules in
    let same : c.deref.result.now ≡ ks = c.deref.ensures.value in
    let alone : length c.args.stopped.now ≡ 1 = c.is_stopped_at.ensures.one yes in
    let all : length c.args.stopped.now ≡ count_by goes ks = c.requires in
    let within : c.args.place < length ks = subst (λ xs. c.args.place < length xs) same (c.is_stopped_at.ensures.within yes) in
    let here : goes (get_or ks c.args.place c.remove-stopped.result) ≡ true =
    subst (λ xs. goes (get_or xs c.args.place c.remove-stopped.result) ≡ true) same (c.is_stopped_at.ensures.stopped yes c.remove-stopped.result) in
    c.remove-stopped.ensures.items ∙ sym (one_taken goes ks c.args.place c.remove-stopped.result (omega (arith, alone, all)) within here)

pub returns-clause-left : goal.returns-clause-left
returns-clause-left c = filter_same _ (λ (k : Tagged). not (does_supply c.args.form.now k.form)) _ (λ x b f' k. search rules) _ _ c.retain.ensures.filtered
