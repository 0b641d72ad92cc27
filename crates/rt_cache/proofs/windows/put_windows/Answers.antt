use Rattle.std.proofs.Common.{◌≡◌, ◌∙◌, ◌++◌, ◌∷◌, [], ap, sym, arith, length, List}
use Rattle.std.proofs.lemmas.List.{length-append}
use Rattle.rt_cache.specs.Recover.{in_query_order}
use Rattle.rt_cache.specs.declared.windows.Window.{Window}
use Rattle.rt_cache.specs.inside.Held.{entries_of}
use Rattle.rt_cache.proofs.Listing.{one_put}
use Rattle.rt_cache.proofs.windows.put_windows.Goals as goal

pub put_window-requires-clause-room : goal.put_window-requires-clause-room
put_window-requires-clause-room c =
    let items : c.loop-window.more.items ≡ c.pop.new.self.items ++ c.in-Some.window ∷ [] = c.in-Some.ensures.items in
    omega (arith, c.loop-window.invariant.1, ap length items ∙ length-append c.pop.new.self.items (c.in-Some.window ∷ []))

pub loop-window-preserved : goal.loop-window-preserved
loop-window-preserved c =
    let items : c.loop-window.more.items ≡ c.pop.new.self.items ++ c.in-Some.window ∷ [] = c.in-Some.ensures.items in (
      c.put_window.ensures.order,
      omega (arith, c.loop-window.invariant.1, ap length items ∙ length-append c.pop.new.self.items (c.in-Some.window ∷ []), c.put_window.ensures.len, c.put_window.ensures.room),
      one_put c.pop.new.self.items c.in-Some.window c.loop-window.windows.items c.put_window.new.windows.items c.put_window.ensures.listed
          ∙ ap (λ (ws : List Window). in_query_order (entries_of ws ++ entries_of c.loop-window.windows.items)) (sym items) ∙ c.loop-window.invariant.2,
    )
