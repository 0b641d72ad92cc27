use Rattle.std.proofs.Common.{sym, refl, subst}
use Rattle.std.specs.Prelude.{codes}
use Rattle.std.proofs.lemmas.Result.{on_ok_weaker}
use Rattle.rt_wire.specs.QueryData.{place_items}
use Rattle.rt_wire.specs.inside.Writing.{PutsItems}
use Rattle.rt_wire.proofs.Putting.{string_put}
use Rattle.rt_wire.proofs.query.write_place.Goals as goal

pub returns-in-Min-clause-put : goal.returns-in-Min-clause-put
returns-in-Min-clause-put c =
    on_ok_weaker c.string.result
    (λ e. subst (λ p. PutsItems (place_items p) c.args.out.now c.string.new.self) (sym c.in-Min.is)
    (c.string.new.self, string_put (codes "min") c.args.out.now c.string.new.self c.string.ensures.room.0 e, (refl, refl)))
    c.string.ensures.ok

pub returns-in-Max-clause-put : goal.returns-in-Max-clause-put
returns-in-Max-clause-put c =
    on_ok_weaker c.string-in-Max.result
    (λ e. subst (λ p. PutsItems (place_items p) c.args.out.now c.string-in-Max.new.self) (sym c.in-Max.is)
    (c.string-in-Max.new.self, string_put (codes "max") c.args.out.now c.string-in-Max.new.self c.string-in-Max.ensures.room.0 e, (refl, refl)))
    c.string-in-Max.ensures.ok
