use Rattle.std.proofs.Common.{◌≡◌, drop}
use Rattle.std.specs.List.{fold}
use Rattle.std.specs.Option.{option_map, option_map_or}
use Rattle.rt_cache.specs.Brought.{Brought, push}
use Rattle.rt_cover.specs.Cover.{Tagged}
use Rattle.rt_cover.specs.State.{listen_at}
use Rattle.rt_world.specs.steps.Kind.{Part}
use Rattle.rt_sync.proofs.steps.pushes.put_parts.Given as goal

-- with what is left it is all, and what is registered stays
abbrev pub invariant-loop-part : goal.invariant-loop-part
invariant-loop-part l =
    (fold (λ (b : Brought) (p : Part). option_map_or (λ q. fold (push q) b p.1) (option_map (λ (k : Tagged). k.form) (listen_at l.cover p.0)) b) l.brought (drop l.part-index l.parts)
    ≡ fold (λ (b : Brought) (p : Part). option_map_or (λ q. fold (push q) b p.1) (option_map (λ (k : Tagged). k.form) (listen_at l.cover p.0)) b) l.initial.brought l.parts)
    × ((l.brought).registered ≡ (l.initial.brought).registered)
