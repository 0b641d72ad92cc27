use Rattle.std.proofs.Common.{Option, ap, subst, sym, IfOk, Result, Ok, Err}
use Rattle.std.specs.Option.{option_copied}
use Rattle.rt_query.specs.Queries.{Query}
use Rattle.rt_parts.specs.inside.Pairs.{AreHanded}
use Rattle.rt_parts.proofs.PairLaws.{handed_met}
use Rattle.rt_parts.proofs.hearers.pairs_handed.Goals as goal

if_ok : {X E : Type 0} {P Q : X → Type 0} (r : Result X E) → IfOk r P → ((x : X) → P x → Q x) → IfOk r Q
if_ok (Ok x) p f = f x p
if_ok (Err e) p f = p

both_ok : {X E : Type 0} {P Q R : X → Type 0} (r : Result X E) → IfOk r P → IfOk r Q → ((x : X) → P x → Q x → R x) → IfOk r R
both_ok (Ok x) p q f = f x p q
both_ok (Err e) p q f = p

pub returns-in-Some : goal.returns-in-Some
returns-in-Some c =
    if_ok c.pairs_supplied.result c.pairs_supplied.ensures (λ pairs handed.
    subst (λ (o : Option Query). AreHanded o c.args.entries.now pairs.items c.args.listeners.now) (ap option_copied (sym c.in-Some.is)) handed)

pub pairs_met-requires : goal.pairs_met-requires
pairs_met-requires c = c.requires.index.order

pub returns-in-None : goal.returns-in-None
returns-in-None c =
    both_ok c.pairs_met.result c.pairs_met.ensures.up c.pairs_met.ensures.all (λ pairs up all.
    subst (λ (o : Option Query). AreHanded o c.args.entries.now pairs.items c.args.listeners.now) (ap option_copied (sym c.in-None.is))
    (handed_met c.args.entries.now pairs.items c.args.listeners.now c.args.places.now c.requires.index up all))
