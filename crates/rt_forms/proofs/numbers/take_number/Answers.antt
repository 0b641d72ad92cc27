use Rattle.std.proofs.Common.{rules, ◌≡◌, ◌∙◌, ◌==◌, ℕ, ◌<◌, List, length, get_or, sym, ap, subst, arith, not}
use Rattle.std.specs.List.{remove}
use Rattle.std.proofs.lemmas.List.{get_or_default}
use Rattle.rt_forms.specs.inside.Places.{place, Rises}
use Rattle.rt_forms.proofs.NumberLaws.{rises_filter, taken_place, kept_place}
use Rattle.rt_forms.proofs.numbers.take_number.Goals as goal

pub returns-then-place-len-clause-left : goal.returns-then-place-len-clause-left
returns-then-place-len-clause-left c =
    let ns : List ℕ = c.args.numbers.now.items in
    let n : ℕ = c.args.number in
    let end : place n ns ≡ length ns = search rules in
    sym (kept_place n ns c.requires (λ d lt at. absurd (omega (arith, lt, end))))

pub returns-then-index-number-clause-left : goal.returns-then-index-number-clause-left
returns-then-index-number-clause-left c =
    let ns : List ℕ = c.args.numbers.now.items in
    let n : ℕ = c.args.number in
    let x : ℕ = c.index.result.now in
    let at : c.place_of-place.result ≡ place n ns = c.place_of-place.ensures.first ∙ ap (place n) c.deref.ensures.value in
    let read : x ≡ get_or ns c.place_of-place.result x = search rules in
    sym (kept_place n ns c.requires (λ d lt is.
    let same : x ≡ n = read ∙ ap (λ p. get_or ns p x) at ∙ get_or_default ns (place n ns) x d lt ∙ is in
    search (rules, same)))

pub returns-clause-left : goal.returns-clause-left
returns-clause-left c =
    let ns : List ℕ = c.args.numbers.now.items in
    let n : ℕ = c.args.number in
    let x : ℕ = c.index.result.now in
    let at : c.place_of-place.result ≡ place n ns = c.place_of-place.ensures.first ∙ ap (place n) c.deref.ensures.value in
    let within : place n ns < length ns = search rules in
    let read : x ≡ get_or ns c.place_of-place.result x = search rules in
    let same : x ≡ n = search rules in
    let here : get_or ns (place n ns) 0 ≡ n = get_or_default ns (place n ns) 0 x within ∙ ap (λ p. get_or ns p x) (sym at) ∙ sym read ∙ same in
    let items : c.remove-taken.new.self.items ≡ remove ns c.place_of-place.result = search rules in
    items ∙ ap (remove ns) at ∙ taken_place n ns c.requires 0 within here

pub returns-clause-rise : goal.returns-clause-rise
returns-clause-rise c =
    subst Rises (sym (returns-clause-left c)) (rises_filter (λ m. not (m == c.args.number)) c.args.numbers.now.items c.requires)
