use Rattle.std.proofs.Common.{◌≡◌, [], take, ap, sym, ◌∙◌, rules}
use Rattle.std.proofs.lemmas.List.{take_all}
use Rattle.std.specs.Option.{option_copied}
use Rattle.rt_view.specs.declared.seen.Seen.{Seen}
use Rattle.rt_view.specs.inside.Telling.{kept_by, seen_too}
use Rattle.rt_view.proofs.SeenLaws.{fold_push}
use Rattle.rt_view.proofs.TellLaws.{next_taken}
use Rattle.rt_view.proofs.seen.keep_all.Goals as goal

pub loop-one-preserved : goal.loop-one-preserved
loop-one-preserved c =
    let one : Seen = c.one-item.result in
    let old : option_copied c.as_ref.result ≡ one.old = search rules in
    let new : option_copied c.as_ref-in-loop-one.result ≡ one.new = search rules in
    c.in_ok-keep_seen.ensures
    ∙ (λ i. seen_too one.key (old i) (new i) (c.loop-one.invariant i))
    ∙ sym (fold_push (λ es (s : Seen). seen_too s.key s.old s.new es) [] (take c.loop-one.one-index c.args.noted.now) one)
    ∙ sym (ap kept_by (next_taken c.args.noted.now c.loop-one.one-index one c.loop-one-test.true c.one-item.is))

pub returns : goal.returns
returns c = c.loop-one.invariant ∙ ap kept_by (take_all c.loop-one.one-index c.args.noted.now c.loop-one-test.false)
