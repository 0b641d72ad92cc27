use Rattle.std.proofs.Common.{rules, ◌≡◌, ◌∙◌, ℕ, ◌+◌, ◌-◌, ◌<◌, arith, length, get_or, take, ap, sym, List}
use Rattle.std.specs.List.{remove}
use Rattle.std.proofs.lemmas.List.{get_or_default}
use Rattle.std.proofs.lemmas.List.Edits.{length-remove}
use Rattle.rt_cache.specs.Recover.{without_places}
use Rattle.rt_cache.specs.declared.forms.Form.{Form}
use Rattle.rt_cache.specs.inside.Listed.{form_query, queries_of}
use Rattle.rt_cache.proofs.Lending.{same_length}
use Rattle.rt_cache.proofs.Removing.{without-remove, without_none}
use Rattle.rt_cache.proofs.Stamps.{map-remove}
use Rattle.rt_cache.proofs.forms.remove_places.Goals as goal

pub loop-count-preserved : goal.loop-count-preserved
loop-count-preserved c =
    let ps : List ℕ = c.args.places.now in
    let n : ℕ = c.loop-count.count - 1 in
    let p : ℕ = get_or ps n 0 in
    let fs : List Form = c.loop-count.forms.items in
    let back : n + 1 ≡ c.loop-count.count = omega arith in
    let lt : n < length ps = omega (arith, c.loop-count.invariant.0) in
    let at : p ≡ get_or ps n p = get_or_default ps n 0 p lt in
    let within : p < length fs = c.loop-count.invariant.2 n 0 (omega arith) in
    let left : c.remove_form.new.forms.items ≡ remove fs p = search rules in (
      omega (arith, c.loop-count.invariant.0),
      ap (λ (xs : List Form). without_places (take n ps) (queries_of xs)) left
          ∙ ap (without_places (take n ps)) (map-remove form_query fs p)
          ∙ sym (without-remove ps n p (queries_of fs) lt at (omega (arith, within, same_length form_query fs)) c.requires.rising)
          ∙ ap (λ m. without_places (take m ps) (queries_of fs)) back
          ∙ c.loop-count.invariant.1,
      λ k d l.
          let last : get_or ps n d ≡ p = get_or_default ps n d 0 lt in
          let less : get_or ps k d < get_or ps n d = c.requires.rising k n d l lt in
          omega (arith, less, last, within, ap length left, length-remove fs p within),
      c.remove_form.ensures.listed,
    )

pub returns-clause-left : goal.returns-clause-left
returns-clause-left c =
    let none : c.loop-count.count ≡ 0 = omega arith in
    sym (without_none (queries_of c.loop-count.forms.items))
    ∙ ap (λ m. without_places (take m c.args.places.now) (queries_of c.loop-count.forms.items)) (sym none)
    ∙ c.loop-count.invariant.1
