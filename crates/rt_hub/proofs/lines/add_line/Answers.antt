use Rattle.std.proofs.Common.{rules, ◌≡◌, ◌+◌, ◌<◌, ◌++◌, ◌∷◌, [], length, set, Some, sym, subst, arith}
use Rattle.rt_hub.specs.Lines.{empty_line}
use Rattle.rt_hub.proofs.Places.{IsChanged, add_last, set_line}
use Rattle.rt_hub.proofs.lines.add_line.Goals as goal

pub returns-in-Some : goal.returns-in-Some
returns-in-Some c =
    let items = c.args.lines.now.items in
    let new = set items c.in-Some.place (Some c.new.result) in
    subst (λ l. IsChanged c.args.connection (Some l) items new) c.new.ensures
    (set_line items c.args.connection c.in-Some.place (Some c.new.result) c.in-Some.ensures.here.0
    c.in-Some.ensures.here.1)

pub returns-in_ok-push-in-None : goal.returns-in_ok-push-in-None
returns-in_ok-push-in-None c =
    let items = c.args.lines.now.items in
    let less : length c.args.lines.now.items < c.args.connection =
    c.place_of.ensures.beyond c.in-None.is c.requires.from in
    let is : c.args.connection ≡ length c.args.lines.now.items + 1 = omega (arith, less, c.requires.next) in
    let pushed : c.push.new.self.items ≡ c.args.lines.now.items ++ Some c.new.result ∷ [] = search rules in
    subst (λ xs. IsChanged c.args.connection (Some empty_line) items xs) (sym pushed)
    (subst (λ l. IsChanged c.args.connection (Some l) items (items ++ Some c.new.result ∷ [])) c.new.ensures
    (add_last items c.args.connection (Some c.new.result) is))
