use Rattle.std.proofs.Common.{◌≡◌, true, false, cond, sym, ap, subst, [], ◌∙◌, rules}
use Rattle.std.specs.List.{insert}
use Rattle.rt_mail.specs.Mailbox.{with_listener}
use Rattle.rt_mail.specs.inside.Places.{does_stand}
use Rattle.rt_mail.specs.laws.Replays.{Rise}
use Rattle.rt_mail.proofs.Halving.{rise_inserted}
use Rattle.rt_mail.proofs.Places.{place, numbers, with_listener-place, numbers-insert}
use Rattle.rt_mail.proofs.mirror.Known.with_listener.Goals as goal

pub returns-then-stands_at : goal.returns-then-stands_at
returns-then-stands_at c =
    let ls = c.known.inside.heard.items in
    let n = c.args.listener in
    let at : c.place_of-place.result ≡ place n c.known.inside.numbers.items = search rules in
    let there : does_stand c.known.inside.numbers.items c.place_of-place.result n ≡ true = search rules in
    let same : c.known.inside.numbers.items ≡ numbers ls = c.known.invariant.beside in
    let stands : does_stand (numbers ls) (place n (numbers ls)) n ≡ true = (λ i. does_stand (sym same i) (place n (sym same i)) n) ∙ ap (λ p. does_stand c.known.inside.numbers.items p n) (sym at) ∙ there in
    let done : with_listener n ls ≡ ls = with_listener-place n ls ∙ ap (λ b. cond b ls (insert ls (place n (numbers ls)) (n, []))) stands in
    let view : c.args.self.listeners ≡ ls = ap (λ v. v.listeners) (sym c.known.view_is) in
    λ i. record (c.args.self) { listeners = (view ∙ sym done ∙ ap (with_listener n) (sym view)) i }

pub invariant_of-known : goal.invariant_of-known
invariant_of-known c =
    let ls = c.known.inside.heard.items in
    let old = c.known.inside.numbers.items in
    let n = c.args.listener in
    let at : c.place_of-place.result ≡ place n old = search rules in
    let there : does_stand old c.place_of-place.result n ≡ false = search rules in
    let ns : c.insert.new.self.items ≡ insert old c.place_of-place.result n = search rules in
    let hs : c.insert_heard.new.heard.items ≡ insert ls c.place_of-place.result (n, []) = c.in_ok-insert_heard.ensures in
    record {
      beside = ns ∙ ap (λ z. insert z c.place_of-place.result n) c.known.invariant.beside ∙ sym (numbers-insert c.place_of-place.result ls (n, [])) ∙ ap numbers (sym hs);
      rise = subst Rise (sym (ns ∙ ap (λ p. insert old p n) at)) (rise_inserted n old c.known.invariant.rise (ap (λ p. does_stand old p n) (sym at) ∙ there));
      requests_rise = c.known.invariant.requests_rise;
    }

pub returns : goal.returns
returns c =
    let ls = c.known.inside.heard.items in
    let n = c.args.listener in
    let at : c.place_of-place.result ≡ place n c.known.inside.numbers.items = search rules in
    let there : does_stand c.known.inside.numbers.items c.place_of-place.result n ≡ false = search rules in
    let same : c.known.inside.numbers.items ≡ numbers ls = c.known.invariant.beside in
    let stands : does_stand (numbers ls) (place n (numbers ls)) n ≡ false = (λ i. does_stand (sym same i) (place n (sym same i)) n) ∙ ap (λ p. does_stand c.known.inside.numbers.items p n) (sym at) ∙ there in
    let done : with_listener n ls ≡ insert ls (place n (numbers ls)) (n, []) = with_listener-place n ls ∙ ap (λ b. cond b ls (insert ls (place n (numbers ls)) (n, []))) stands in
    let hs : c.insert_heard.new.heard.items ≡ insert ls c.place_of-place.result (n, []) = c.in_ok-insert_heard.ensures in
    let view : c.args.self.listeners ≡ ls = ap (λ v. v.listeners) (sym c.known.view_is) in
    let requests : c.args.self.requests ≡ c.known.inside.requests.items = ap (λ v. v.requests) (sym c.known.view_is) in
    λ i. record {
      listeners = (hs ∙ ap (λ p. insert ls p (n, [])) (at ∙ ap (place n) same) ∙ sym done ∙ ap (with_listener n) (sym view)) i;
      requests = sym requests i;
    }
