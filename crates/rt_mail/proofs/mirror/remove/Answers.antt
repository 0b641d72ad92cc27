use Rattle.std.proofs.Common.{◌≡◌, true, false, sym, ap, ◌∙◌, rules}
use Rattle.std.specs.List.{remove}
use Rattle.rt_mail.specs.inside.Places.{does_stand}
use Rattle.rt_mail.proofs.Halving.{without-there, without-not_there}
use Rattle.rt_mail.proofs.Places.{place}
use Rattle.rt_mail.proofs.mirror.remove.Goals as goal

pub returns-then-stands_at : goal.returns-then-stands_at
returns-then-stands_at c =
    let ns = c.args.numbers.now.items in
    let at : c.place_of-place.result ≡ place c.args.number ns = search rules in
    let there : does_stand ns c.place_of-place.result c.args.number ≡ true = search rules in
    let items : c.remove-is_number.new.self.items ≡ remove ns c.place_of-place.result = search rules in
    items ∙ ap (λ p. remove ns p) at ∙ without-there c.args.number ns c.requires (ap (λ p. does_stand ns p c.args.number) (sym at) ∙ there)

pub returns-else-stands_at : goal.returns-else-stands_at
returns-else-stands_at c =
    let ns = c.args.numbers.now.items in
    let at : c.place_of-place.result ≡ place c.args.number ns = search rules in
    let not_there : does_stand ns c.place_of-place.result c.args.number ≡ false = search rules in
    without-not_there c.args.number ns c.requires (ap (λ p. does_stand ns p c.args.number) (sym at) ∙ not_there)
