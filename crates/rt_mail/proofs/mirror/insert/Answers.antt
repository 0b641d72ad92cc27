use Rattle.std.proofs.Common.{◌≡◌, true, false, cond, sym, ap, ◌∙◌, rules}
use Rattle.std.specs.List.{insert}
use Rattle.rt_mail.specs.inside.Places.{does_stand}
use Rattle.rt_mail.proofs.Places.{place, with_request-place}
use Rattle.rt_mail.proofs.mirror.insert.Goals as goal

pub returns-in_ok-insert : goal.returns-in_ok-insert
returns-in_ok-insert c =
    let ns = c.args.numbers.now.items in
    let at : c.place_of-place.result ≡ place c.args.number ns = search rules in
    let not_there : does_stand ns c.place_of-place.result c.args.number ≡ false = search rules in
    let items : c.insert.new.self.items ≡ insert ns c.place_of-place.result c.args.number = search rules in
    items ∙ ap (λ p. insert ns p c.args.number) at
    ∙ sym (with_request-place c.args.number ns ∙ ap (λ b. cond b ns (insert ns (place c.args.number ns) c.args.number)) (ap (λ p. does_stand ns p c.args.number) (sym at) ∙ not_there))

pub returns-else-not-stands_at : goal.returns-else-not-stands_at
returns-else-not-stands_at c =
    let ns = c.args.numbers.now.items in
    let at : c.place_of-place.result ≡ place c.args.number ns = search rules in
    let there : does_stand ns c.place_of-place.result c.args.number ≡ true = search rules in
    sym (with_request-place c.args.number ns ∙ ap (λ b. cond b ns (insert ns (place c.args.number ns) c.args.number)) (ap (λ p. does_stand ns p c.args.number) (sym at) ∙ there))
