use Rattle.std.proofs.Common.{◌≤◌, length, sym, subst, List}
use Rattle.std.proofs.lemmas.List.Elements.{All-append}
use Rattle.std.specs.List.{All}
use Rattle.rt_cache.specs.declared.by_path.Span.{Span}
use Rattle.rt_cache.proofs.InSpans.{each_in_order}
use Rattle.rt_cache.proofs.recovery.spans_ended.Goals as goal

pub places_beside-requires-2 : goal.places_beside-requires-2
places_beside-requires-2 c =
    let fits : Span → Type 0 = λ s. (s.start ≤ s.end) × (s.end ≤ length c.args.regions.now) in
    record {
      within = subst (λ (spans : List Span). All fits spans) (sym c.in_ok-append.ensures.items)
          (All-append fits c.in_ok-staying.staying.items c.in_ok-held.held.items
          (each_in_order 0 c.in_ok-staying.staying.items (length c.args.regions.now) c.in_ok-staying.ensures.order) c.in_ok-held.ensures.within);
    }
