use Rattle.std.proofs.Common.{◌≡◌, ℕ, length, refl, subst, IfOk, Result, Ok, Err}
use Rattle.rt_parts.specs.inside.Pairs.{HaveAll}
use Rattle.rt_parts.proofs.PairLaws.{HaveOnly, handed_supplied}
use Rattle.rt_parts.proofs.hearers.pairs_supplied.Goals as goal

pub returns : goal.returns
returns c =
    let numbers = c.in_ok-numbers.numbers.items in
    let lent : c.deref.result.now ≡ numbers = c.deref.ensures.value in
    let count : ℕ = length c.args.entries.now in
    if_ok c.pairs_with.result c.pairs_with.ensures.up c.pairs_with.ensures.all c.pairs_with.ensures.only (λ pairs up all only.
    handed_supplied c.args.range.now c.args.entries.now count numbers pairs.items c.args.listeners.now refl c.in_ok-numbers.ensures up
    (subst (λ ns. HaveAll count ns pairs.items) lent all) (subst (λ ns. HaveOnly ns pairs.items) lent only))
  where
    if_ok : {X E : Type 0} {P Q R S : X → Type 0} (r : Result X E) → IfOk r P → IfOk r Q → IfOk r R → ((x : X) → P x → Q x → R x → S x) → IfOk r S
    if_ok (Ok x) p q r f = f x p q r
    if_ok (Err e) p q r f = p
