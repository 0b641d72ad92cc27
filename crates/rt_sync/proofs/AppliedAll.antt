-- Answers to steps, one more at a time.
use Rattle.std.proofs.Common.{◌≡◌, inl, inr, List, [], ◌∷◌, ◌++◌, refl, sym, ap, subst, append_assoc, Option, Some, None}
use Rattle.rt_world.specs.declared.step.Step.{Step}
use Rattle.rt_world.specs.World.{World}
use Rattle.rt_world.specs.Answers.{Answer, step}
use Rattle.rt_sync.specs.Core.{Applies, AppliesAll}
use Rattle.rt_sync.specs.laws.Runs.{MakesAll}

-- what later answers make of the core now, all answers make of the core before
abbrev pub Continues : Option World → List Step → List Answer → Option World → List Step → Type 0
Continues old steps done now rest = (told : List Answer) (v : Option World) → AppliesAll now rest told v → AppliesAll old steps (done ++ told) v

pub continues_more : (old : Option World) (steps : List Step) (done : List Answer) (now : Option World) (s : Step) (rest : List Step) (a : Answer) (next : Option World)
    → Continues old steps done now (s ∷ rest) → Applies now s a next → Continues old steps (done ++ a ∷ []) next rest
continues_more old steps done now s rest a next h applied told v more =
    subst (λ all. AppliesAll old steps all v) (sym (append_assoc done (a ∷ []) told)) (h (a ∷ told) v (next, applied, more))

-- a core that has failed stays so
fails : (steps : List Step) (told : List Answer) (v : Option World) → AppliesAll None steps told v → v ≡ None
fails [] [] v h = h
fails (s ∷ steps) (a ∷ told) v h = fails steps told v (subst (λ b. AppliesAll b steps told v) (h.1).1 h.2)
fails [] (a ∷ told) v h = absurd h
fails (s ∷ steps) [] v h = absurd h

some_none : (x : World) → ◌≡◌ {A = Option World} (Some x) None → ⊥
some_none x e = cc

-- one that has not failed at the end has made all steps
pub makes_all : (steps : List Step) (told : List Answer) (w v : World) → AppliesAll (Some w) steps told (Some v) → MakesAll w steps told v
makes_all [] [] w v h = record { answers = refl; world = some_same v v w h }
  where
    or_else : World → Option World → World
    or_else d None = d
    or_else d (Some x) = x

    some_same : (d x y : World) → ◌≡◌ {A = Option World} (Some x) (Some y) → x ≡ y
    some_same d x y e = ap (or_else d) e
makes_all (s ∷ steps) (a ∷ told) w v h = at h.1 (λ u e. makes_all steps told u v (subst (λ b. AppliesAll b steps told (Some v)) e h.2))
  where
    at : Applies (Some w) s a h.0 → ((u : World) → h.0 ≡ Some u → MakesAll u steps told v) → MakesAll w (s ∷ steps) (a ∷ told) v
    at (inl m) rest =
        let r = rest (step w s).0 m.world in
        record { answers = (λ i. m.told i ∷ r.answers i); world = r.world }
    at (inr l) rest = absurd (some_none v (fails steps told (Some v) (subst (λ b. AppliesAll b steps told (Some v)) l.failed h.2)))
makes_all [] (a ∷ told) w v h = absurd h
makes_all (s ∷ steps) [] w v h = absurd h
