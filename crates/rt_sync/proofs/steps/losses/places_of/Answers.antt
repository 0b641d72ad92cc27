use Rattle.std.proofs.Common.{rules, ◌≡◌, ◌∙◌, ℕ, ◌+◌, ◌<◌, ◌==◌, ◌++◌, ◌∷◌, [], List, length, get_or, drop, append_assoc, ap, sym, Some, None}
use Rattle.std.specs.List.{position}
use Rattle.std.specs.Option.{option_map_or}
use Rattle.std.proofs.lemmas.List.{drop_more}
use Rattle.rt_world.specs.World.{Listener}
use Rattle.rt_sync.specs.inside.Losing.{places_at}
use Rattle.rt_sync.proofs.steps.losses.places_of.Goals as goal
use Rattle.rt_sync.proofs.steps.losses.places_of.Goals.{in-Some+in_ok-push, in_default}

pub loop-number-preserved : goal.loop-number-preserved
loop-number-preserved c =
    let ls : List Listener = c.args.listeners.now.listeners in
    let ns : List ℕ = c.args.numbers.now in
    let i : ℕ = c.loop-number.number-index in
    let lt : i < length ns = search rules in
    let rest : List ℕ = places_at ls (drop (i + 1) ns) in
    let old : List ℕ = c.loop-number.places.items in
    let placed : c.place_of.result ≡ position (λ (l : Listener). l.number == get_or ns i 0) ls = search rules in
    let more : places_at ls (drop i ns) ≡ option_map_or (λ p. p ∷ rest) c.place_of.result rest =
    ap (places_at ls) (drop_more ns i 0 lt) ∙ ap (λ o. option_map_or (λ p. p ∷ rest) o rest) (sym placed) in
    let all : old ++ option_map_or (λ p. p ∷ rest) c.place_of.result rest ≡ places_at ls ns = ap (λ ps. old ++ ps) (sym more) ∙ c.loop-number.invariant in
    elim c.match-place_of.branch [
      | in-Some+in_ok-push w ↦
          let some : c.place_of.result ≡ Some w.in-Some.place = search rules in
          let pushed : c.match-place_of.places.items ≡ old ++ w.in-Some.place ∷ [] = search rules in
          ap (λ ps. ps ++ rest) pushed
          ∙ append_assoc old (w.in-Some.place ∷ []) rest
          ∙ ap (λ o. old ++ option_map_or (λ p. p ∷ rest) o rest) (sym some) ∙ all
      | in_default w ↦
          let none : c.place_of.result ≡ None = search rules in
          let same : c.match-place_of.places.items ≡ old = search rules in
          ap (λ ps. ps ++ rest) same
          ∙ ap (λ o. old ++ option_map_or (λ p. p ∷ rest) o rest) (sym none) ∙ all
    ]
