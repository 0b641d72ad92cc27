use Rattle.std.proofs.Common.{◌≡◌, ℕ, Bool, List, true, false, get_or, sym, ap, subst, ◌∙◌, Some, rules}
use Rattle.std.specs.Option.{option_map}
use Rattle.rt_mail.specs.Mailbox.{Children}
use Rattle.rt_mail.specs.inside.Places.{does_stand}
use Rattle.rt_mail.specs.laws.Replays.{Rise}
use Rattle.rt_mail.proofs.Halving.{find-there, find-not_there, stands_within}
use Rattle.rt_mail.proofs.Places.{place, numbers}
use Rattle.rt_mail.proofs.mirror.children_of.Goals as goal

-- the same of the numbers beside
stood : (n p : ℕ) (ls : List (ℕ × Children)) (ns : List ℕ) (b : Bool) → ns ≡ numbers ls → p ≡ place n ns → does_stand ns p n ≡ b → does_stand (numbers ls) (place n (numbers ls)) n ≡ b
stood n p ls ns b same at there = (λ i. does_stand (sym same i) (place n (sym same i)) n) ∙ ap (λ q. does_stand ns q n) (sym at) ∙ there

pub returns-then-not-stands_at : goal.returns-then-not-stands_at
returns-then-not-stands_at c =
    let n = c.args.listener in
    let ls = c.args.heard.now in
    let ns = c.args.numbers.now in
    let at : c.place_of-place.result ≡ place n ns = search rules in
    let there : does_stand ns c.place_of-place.result n ≡ false = search rules in
    sym (ap (option_map (λ l. l.1)) (find-not_there n ls (subst Rise c.requires.beside c.requires.rise) (stood n c.place_of-place.result ls ns false c.requires.beside at there)))

pub bounds-heard-place : goal.bounds-heard-place
bounds-heard-place c =
    let n = c.args.listener in
    let there : does_stand c.args.numbers.now c.place_of-place.result n ≡ true = search rules in
    stands_within n c.args.heard.now c.place_of-place.result (ap (λ ns. does_stand ns c.place_of-place.result n) (sym c.requires.beside) ∙ there)

pub returns : goal.returns
returns c =
    let n = c.args.listener in
    let ls = c.args.heard.now in
    let ns = c.args.numbers.now in
    let one = c.index-heard-place.result in
    let at : c.place_of-place.result ≡ place n ns = search rules in
    let there : does_stand ns c.place_of-place.result n ≡ true = search rules in
    ap (λ l. Some l.1) c.one.view_is
    ∙ ap (λ l. Some l.1) c.index-heard-place.is
    ∙ ap (λ q. Some (get_or ls q one).1) (at ∙ ap (place n) c.requires.beside)
    ∙ sym (ap (option_map (λ l. l.1)) (find-there n ls one (stood n c.place_of-place.result ls ns true c.requires.beside at there)))
