use Rattle.std.proofs.Common.{◌≡◌, get_or, Some, None, ap, sym, rules, ◌∙◌}
use Rattle.std.specs.Prelude.{◌==◌}
use Rattle.std.specs.List.{position}
use Rattle.rt_parts.specs.declared.listeners.HeldListener.{HeldListener}
use Rattle.rt_writes.specs.laws.Places.{found_at, any_found, any_none}
use Rattle.rt_parts.proofs.listeners.is_seats.Goals as goal

pub returns-in-Some : goal.returns-in-Some
returns-in-Some c =
    let at : position (λ (l : HeldListener). l.number == c.args.number) c.args.listeners.now ≡ Some c.in-Some.place = search rules in
    let d : HeldListener = c.index-listeners-place.result in
    let own : c.seat.result ≡ (get_or c.args.listeners.now c.in-Some.place d).seat = search rules in
    ap (λ n. n == c.args.seat) own
    ∙ sym (any_found (λ (l : HeldListener). l.number) (λ l. l.seat == c.args.seat) c.args.listeners.now c.args.number (get_or c.args.listeners.now c.in-Some.place d) c.requires
    (found_at (λ (l : HeldListener). l.number == c.args.number) c.args.listeners.now c.in-Some.place d at))

pub returns-in-None : goal.returns-in-None
returns-in-None c =
    let none : position (λ (l : HeldListener). l.number == c.args.number) c.args.listeners.now ≡ None = search rules in
    sym (any_none (λ (l : HeldListener). l.number) (λ l. l.seat == c.args.seat) c.args.listeners.now c.args.number none)
