use Rattle.std.proofs.Common.{rules, ◌≡◌, sym, ap, subst, ◌∙◌}
use Rattle.std.specs.List.{insert}
use Rattle.rt_forms.specs.inside.Places.{place, Rises}
use Rattle.rt_forms.proofs.NumberLaws.{insert_place, rises_with}
use Rattle.rt_forms.proofs.numbers.insert_number.Goals as goal

pub returns-clause-ok : goal.returns-clause-ok
returns-clause-ok c =
    let ns = c.args.numbers.now.items in
    let n = c.args.number in
    let items : c.insert.new.self.items ≡ insert ns c.place_of-place.result n = search rules in
    let at : c.place_of-place.result ≡ place n ns = c.place_of-place.ensures.first ∙ ap (place n) c.deref.ensures.value in
    items ∙ ap (λ p. insert ns p n) at ∙ insert_place n ns c.requires.rise c.requires.free

pub returns-clause-rise : goal.returns-clause-rise
returns-clause-rise c =
    let ns = c.args.numbers.now.items in
    let n = c.args.number in
    let items : c.insert.new.self.items ≡ insert ns c.place_of-place.result n = search rules in
    let at : c.place_of-place.result ≡ place n ns = c.place_of-place.ensures.first ∙ ap (place n) c.deref.ensures.value in
    subst Rises (sym (items ∙ ap (λ p. insert ns p n) at ∙ insert_place n ns c.requires.rise c.requires.free)) (rises_with n ns c.requires.rise)
