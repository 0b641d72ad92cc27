use Rattle.std.proofs.Common.{◌≡◌, ℕ, List, true, false, get_or, map, set, sym, ap, subst, [], ◌∙◌, rules}
use Rattle.rt_view.specs.declared.change.Change.{Change}
use Rattle.rt_mail.specs.Mailbox.{Children, played}
use Rattle.rt_mail.specs.inside.Places.{does_stand, after_changes}
use Rattle.rt_mail.specs.laws.Replays.{Rise}
use Rattle.rt_mail.proofs.Halving.{played-there, played-not_there, stands_within}
use Rattle.rt_mail.proofs.Places.{place, numbers, numbers-played}
use Rattle.rt_mail.proofs.mirror.Known.played.Goals as goal

abbrev none : ℕ × Children
none = (0, [])

pub returns-then-not-stands_at : goal.returns-then-not-stands_at
returns-then-not-stands_at c =
    let ls = c.known.inside.heard.items in
    let ns = c.known.inside.numbers.items in
    let n = c.args.batch.now.listener in
    let cs = c.args.batch.now.changes in
    let at : c.place_of-place.result ≡ place n ns = search rules in
    let there : does_stand ns c.place_of-place.result n ≡ false = search rules in
    let same : ns ≡ numbers ls = c.known.invariant.beside in
    let stands : does_stand (numbers ls) (place n (numbers ls)) n ≡ false = (λ i. does_stand (sym same i) (place n (sym same i)) n) ∙ ap (λ p. does_stand ns p n) (sym at) ∙ there in
    let view : c.args.self.listeners ≡ ls = ap (λ v. v.listeners) (sym c.known.view_is) in
    λ i. record (c.args.self) { listeners = (view ∙ sym (played-not_there n cs ls (subst Rise same c.known.invariant.rise) stands) ∙ ap (map (played n cs)) (sym view)) i }

pub play_at-requires : goal.play_at-requires
play_at-requires c =
    let ls = c.known.inside.heard.items in
    let ns = c.known.inside.numbers.items in
    let n = c.args.batch.now.listener in
    let there : does_stand ns c.place_of-place.result n ≡ true = search rules in
    let same : ns ≡ numbers ls = c.known.invariant.beside in
    stands_within n ls c.place_of-place.result ((λ i. does_stand (sym same i) c.place_of-place.result n) ∙ there)

-- the listeners at a place, of which one has changed, are all after the batch
all_after : (n p : ℕ) (old new : List Change) (ls hs : List (ℕ × Children)) (ns : List ℕ) → ns ≡ numbers ls → Rise ns → p ≡ place n ns → does_stand ns p n ≡ true
    → hs ≡ set ls p (after_changes new (get_or ls p none)) → new ≡ old → hs ≡ map (played n old) ls
all_after n p old new ls hs ns same rise at there is eq =
    let stands : does_stand (numbers ls) (place n (numbers ls)) n ≡ true = (λ i. does_stand (sym same i) (place n (sym same i)) n) ∙ ap (λ q. does_stand ns q n) (sym at) ∙ there in
    is
    ∙ ap (λ x. set ls p (after_changes x (get_or ls p none))) eq
    ∙ ap (λ q. set ls q (after_changes old (get_or ls q none))) (at ∙ ap (place n) same)
    ∙ sym (played-there n old ls none (subst Rise same rise) stands)

pub invariant_of-known : goal.invariant_of-known
invariant_of-known c =
    let ls = c.known.inside.heard.items in
    let ns = c.known.inside.numbers.items in
    let n = c.args.batch.now.listener in
    let cs = c.args.batch.now.changes in
    let at : c.place_of-place.result ≡ place n ns = search rules in
    let there : does_stand ns c.place_of-place.result n ≡ true = search rules in
    let eq : c.as_slice-3.result.now ≡ cs = search rules in
    let hs = all_after n c.place_of-place.result cs c.as_slice-3.result.now ls c.play_at.new.heard.items ns c.known.invariant.beside c.known.invariant.rise at there (c.in_ok-play_at.ensures none) eq in
    record {
      beside = c.known.invariant.beside ∙ sym (numbers-played n cs ls) ∙ ap numbers (sym hs);
      rise = c.known.invariant.rise;
      requests_rise = c.known.invariant.requests_rise;
    }

pub returns : goal.returns
returns c =
    let ls = c.known.inside.heard.items in
    let ns = c.known.inside.numbers.items in
    let n = c.args.batch.now.listener in
    let cs = c.args.batch.now.changes in
    let at : c.place_of-place.result ≡ place n ns = search rules in
    let there : does_stand ns c.place_of-place.result n ≡ true = search rules in
    let eq : c.as_slice-3.result.now ≡ cs = search rules in
    let hs = all_after n c.place_of-place.result cs c.as_slice-3.result.now ls c.play_at.new.heard.items ns c.known.invariant.beside c.known.invariant.rise at there (c.in_ok-play_at.ensures none) eq in
    let view : c.args.self.listeners ≡ ls = ap (λ v. v.listeners) (sym c.known.view_is) in
    let requests : c.args.self.requests ≡ c.known.inside.requests.items = ap (λ v. v.requests) (sym c.known.view_is) in
    λ i. record { listeners = (hs ∙ ap (map (played n cs)) (sym view)) i; requests = sym requests i }
