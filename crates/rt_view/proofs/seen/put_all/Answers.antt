use Rattle.std.proofs.Common.{◌≡◌, ◌∷◌, ap, sym, ◌∙◌, rules}
use Rattle.std.specs.FinMap as map_of
use Rattle.std.specs.List.{fold}
use Rattle.rt_order.specs.Entries.{entry_cmp}
use Rattle.rt_view.proofs.ReplayLaws.{insert_entry-put}
use Rattle.rt_view.proofs.seen.put_all.Goals as goal

pub loop-position-preserved-in_ok-insert : goal.loop-position-preserved-in_ok-insert
loop-position-preserved-in_ok-insert g c =
    let left : c.loop-position.position-iterator.rest.items ≡ (c.in-Some.position, c.in-Some.value) ∷ c.next.new.self.rest.items = search rules in
    ap (λ es. fold (λ fs (p : _ × _). map_of.put entry_cmp p.0 p.1 fs) es c.next.new.self.rest.items)
    (c.in_ok-insert.ensures.entries ∙ insert_entry-put entry_cmp c.loop-position.map.entries c.in-Some.position c.in-Some.value)
    ∙ sym (ap (fold (λ fs (p : _ × _). map_of.put entry_cmp p.0 p.1 fs) c.loop-position.map.entries) left)
    ∙ c.loop-position.invariant

pub loop-position-preserved : goal.loop-position-preserved
loop-position-preserved g c =
    let left : c.loop-position.position-iterator.rest.items ≡ (c.in-Some.position, c.in-Some.value) ∷ c.next.new.self.rest.items = search rules in
    ap (λ es. fold (λ fs (p : _ × _). map_of.put entry_cmp p.0 p.1 fs) es c.next.new.self.rest.items)
    (c.in_ok-insert.ensures.entries ∙ insert_entry-put entry_cmp c.loop-position.map.entries c.in-Some.position c.in-Some.value)
    ∙ sym (ap (fold (λ fs (p : _ × _). map_of.put entry_cmp p.0 p.1 fs) c.loop-position.map.entries) left)
    ∙ c.loop-position.invariant
