use Rattle.std.proofs.Common.{Result, Ok, Err, OnOk, sym, ◌∙◌, refl, subst}
use Rattle.rt_tree.specs.Key.{IsKey}
use Rattle.rt_tree.proofs.KeyFaults.{IsKey-decimal}
use Rattle.rt_tree.proofs.key.index_key.Goals as goal

pub valid_key-requires : goal.valid_key-requires
valid_key-requires c =
    subst IsKey (sym (c.as_str.ensures.value ∙ c.in_ok-text.ensures.ok)) (IsKey-decimal c.args.index (c.in_ok-text.ensures.digits c.args.index refl c.ranges.index.fits))

on_ok : {T E P : Type 0} (r : Result T E) → P → OnOk r P
on_ok (Ok x) p = p
on_ok (Err e) p = tt

pub returns-clause-valid : goal.returns-clause-valid
returns-clause-valid c = on_ok c.valid_key.result (IsKey-decimal c.args.index (c.in_ok-text.ensures.digits c.args.index refl c.ranges.index.fits))
