use Rattle.std.proofs.Common.{◌≡◌, ℕ, List, Bool, true, false, not, ◌==◌, sym, ap, subst, ◌∙◌, rules}
use Rattle.std.specs.List.{remove}
use Rattle.rt_mail.specs.Mailbox.{Children, without_listener, without_request}
use Rattle.rt_mail.specs.inside.Places.{does_stand}
use Rattle.rt_mail.specs.laws.Replays.{Rise}
use Rattle.rt_mail.proofs.Halving.{without-there, left-there, left-not_there}
use Rattle.rt_mail.proofs.Places.{place, numbers, numbers-without}
use Rattle.rt_mail.proofs.Rising.{rise_filter}
use Rattle.rt_mail.proofs.mirror.Known.without_listener.Goals as goal

-- the numbers stand beside their listeners
beside : (n p : ℕ) (ls : List (ℕ × Children)) (ns : List ℕ) (b : Bool) → ns ≡ numbers ls → p ≡ place n ns → does_stand ns p n ≡ b
    → does_stand (numbers ls) (place n (numbers ls)) n ≡ b
beside n p ls ns b same at there = (λ i. does_stand (sym same i) (place n (sym same i)) n) ∙ ap (λ q. does_stand ns q n) (sym at) ∙ there

-- the listeners but for the one there
left : (n p : ℕ) (ls : List (ℕ × Children)) (ns : List ℕ) → ns ≡ numbers ls → Rise ns → p ≡ place n ns → does_stand ns p n ≡ true
    → remove ls p ≡ without_listener n ls
left n p ls ns same rise at there =
    ap (λ q. remove ls q) (at ∙ ap (place n) same)
    ∙ left-there n ls (subst Rise same rise) (beside n p ls ns true same at there)

-- and their numbers
left_numbers : (n p : ℕ) (ns : List ℕ) → Rise ns → p ≡ place n ns → does_stand ns p n ≡ true → remove ns p ≡ without_request n ns
left_numbers n p ns rise at there =
    ap (λ q. remove ns q) at ∙ without-there n ns rise (ap (λ q. does_stand ns q n) (sym at) ∙ there)

pub invariant_of-known : goal.invariant_of-known
invariant_of-known c =
    let ls = c.known.inside.heard.items in
    let ns = c.known.inside.numbers.items in
    let n = c.args.listener in
    let p = c.place_of-place.result in
    let at : p ≡ place n ns = search rules in
    let there : does_stand ns p n ≡ true = search rules in
    let same : ns ≡ numbers ls = c.known.invariant.beside in
    let rest : c.remove-is_listener.new.self.items ≡ without_request n ns = c.remove-is_listener.ensures.items ∙ left_numbers n p ns c.known.invariant.rise at there in
    let others : c.remove_at.new.heard.items ≡ without_listener n ls = c.remove_at.ensures ∙ left n p ls ns same c.known.invariant.rise at there in
    record {
      beside = rest ∙ ap (without_request n) same ∙ sym (numbers-without n ls) ∙ ap numbers (sym others);
      rise = subst Rise (sym rest) (rise_filter (λ r. not (r == n)) ns c.known.invariant.rise);
      requests_rise = c.known.invariant.requests_rise;
    }

pub returns-then-stands_at : goal.returns-then-stands_at
returns-then-stands_at c =
    let ls = c.known.inside.heard.items in
    let ns = c.known.inside.numbers.items in
    let n = c.args.listener in
    let p = c.place_of-place.result in
    let at : p ≡ place n ns = search rules in
    let there : does_stand ns p n ≡ true = search rules in
    let others : c.remove_at.new.heard.items ≡ without_listener n ls = c.remove_at.ensures ∙ left n p ls ns c.known.invariant.beside c.known.invariant.rise at there in
    let view : c.args.self.listeners ≡ ls = ap (λ v. v.listeners) (sym c.known.view_is) in
    let requests : c.args.self.requests ≡ c.known.inside.requests.items = ap (λ v. v.requests) (sym c.known.view_is) in
    λ i. record { listeners = (others ∙ ap (without_listener n) (sym view)) i; requests = sym requests i }

pub returns-else-stands_at : goal.returns-else-stands_at
returns-else-stands_at c =
    let ls = c.known.inside.heard.items in
    let ns = c.known.inside.numbers.items in
    let n = c.args.listener in
    let p = c.place_of-place.result in
    let at : p ≡ place n ns = search rules in
    let not_there : does_stand ns p n ≡ false = search rules in
    let same : ns ≡ numbers ls = c.known.invariant.beside in
    let all : ls ≡ without_listener n ls = left-not_there n ls (subst Rise same c.known.invariant.rise) (beside n p ls ns false same at not_there) in
    let view : c.args.self.listeners ≡ ls = ap (λ v. v.listeners) (sym c.known.view_is) in
    λ i. record (c.args.self) { listeners = (view ∙ all ∙ ap (without_listener n) (sym view)) i }
