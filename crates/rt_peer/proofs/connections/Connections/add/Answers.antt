use Rattle.std.proofs.Common.{◌≡◌, ℕ, List, nat_lt, sym, ap, subst, ◌∙◌}
use Rattle.rt_peer.specs.Peers.{in_place, is_known, least_free}
use Rattle.rt_peer.specs.inside.Rising.{RisesFrom}
use Rattle.rt_peer.proofs.Numbers.{free_from-fold, IsLeastFree, least_free_from, rises-in_place}
use Rattle.rt_peer.proofs.connections.Connections.add.Goals as goal

-- what is known of the number
least : (ms : List ℕ) (n : ℕ) → n ≡ least_free ms → RisesFrom 1 ms → IsLeastFree 1 ms n
least ms n e h =
    let P : ℕ → Type 0 = IsLeastFree 1 ms in
    subst P (free_from-fold ms ∙ sym e) (least_free_from 1 ms h)

added : (ms ns : List ℕ) (n : ℕ) → ns ≡ in_place nat_lt n ms → IsLeastFree 1 ms n → RisesFrom 1 ms
    → RisesFrom 1 ns
added ms ns n e h r = subst (RisesFrom 1) (sym e) (rises-in_place 1 n ms h.from r h.fresh)

pub invariant_of-self : goal.invariant_of-self
invariant_of-self c =
    let ms = c.self.inside.numbers.items in
    let n = c.least_free-number.result in
    let is : n ≡ least_free ms = c.least_free-number.ensures ∙ ap least_free c.deref.ensures.value in
    let in_it : c.in_ok-numbers.numbers.items ≡ in_place nat_lt n ms =
    c.in_ok-numbers.ensures ∙ ap (in_place nat_lt n) c.deref-2.ensures.value in
    added ms c.in_ok-numbers.numbers.items n in_it (least ms n is c.self.invariant) c.self.invariant

pub returns-clause-fresh : goal.returns-clause-fresh
returns-clause-fresh c =
    let ms = c.self.inside.numbers.items in
    let n = c.least_free-number.result in
    let is : n ≡ least_free ms = c.least_free-number.ensures ∙ ap least_free c.deref.ensures.value in
    ap (λ xs. is_known xs n) (sym c.self.view_is) ∙ (least ms n is c.self.invariant).fresh

pub returns-clause-least : goal.returns-clause-least
returns-clause-least c k le lt =
    let ms = c.self.inside.numbers.items in
    let n = c.least_free-number.result in
    let is : n ≡ least_free ms = c.least_free-number.ensures ∙ ap least_free c.deref.ensures.value in
    ap (λ xs. is_known xs k) (sym c.self.view_is) ∙ (least ms n is c.self.invariant).least k le lt
