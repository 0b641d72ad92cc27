use Rattle.std.proofs.Common.{◌≡◌, Some, true, false, sym, ap, ◌∙◌}
use Rattle.std.specs.Option.{option_copied}
use Rattle.rt_query.specs.Queries.{is_filtered}
use Rattle.rt_cover.proofs.ListenLaws.{plain_of_none, plain_of_first, plain_of_ranges}
use Rattle.rt_cover.proofs.listens.plain_among.Goals as goal

pub returns-in_default : goal.returns-in_default
returns-in_default c = plain_of_none c.args.listens.now (ap option_copied (sym c.in_default.is) ∙ c.first.ensures.value)

pub returns-then-is_filtered : goal.returns-then-is_filtered
returns-then-is_filtered c =
    let range : is_filtered (c.in-Some.first.now).form ≡ true = ap is_filtered (sym c.form.ensures) ∙ sym c.is_filtered.ensures ∙ c.if-is_filtered.true in
    plain_of_ranges c.in-Some.first.now c.args.listens.now (ap option_copied (sym c.in-Some.is) ∙ c.first.ensures.value) range c.requires

pub returns : goal.returns
returns c =
    let flat : is_filtered (c.in-Some.first.now).form ≡ false = ap is_filtered (sym c.form.ensures) ∙ sym c.is_filtered.ensures ∙ c.if-is_filtered.false in
    ap Some c.tag.ensures ∙ plain_of_first c.in-Some.first.now c.args.listens.now (ap option_copied (sym c.in-Some.is) ∙ c.first.ensures.value) flat
