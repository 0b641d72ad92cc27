-- Messages that are taken out of a core, one after another.
use Rattle.std.proofs.Common.{◌≡◌, ℕ, ◌+◌, List, [], ◌∷◌, ◌++◌, length, drop, Option, Some, None, refl, ap, sym, ◌∙◌, append_assoc, length-append}
use Rattle.std.proofs.Math.Seq.{drop-length}
use Rattle.std.proofs.lemmas.List.{drop-drop}
use Rattle.rt_wire.specs.declared.client.ClientMessage.{ClientMessage}
use Rattle.rt_world.specs.World.{World}
use Rattle.rt_sync.specs.Core.{TakesOut, first_message}
use Rattle.rt_script.specs.Doing.{OutLacks, waiting, without, without_messages}

-- so many messages were taken out, and the others wait
pub record HasTaken (old : Option World) (taken : List ClientMessage) (now : Option World) : Type 0 where
  pub core : now ≡ without (length taken) old
  pub waiting : taken ++ waiting now ≡ waiting old

pub none_taken : (core : Option World) → HasTaken core [] core
none_taken None = record { core = refl; waiting = refl }
none_taken (Some w) = record { core = refl; waiting = refl }

first_is : (xs : List ClientMessage) (m : ClientMessage) → Some m ≡ first_message xs → m ∷ drop 1 xs ≡ xs
first_is [] m e = cc
first_is (x ∷ xs) m e = let same : m ≡ x = cc in ap (λ y. y ∷ xs) same

no_first : (xs : List ClientMessage) → None ≡ first_message xs → xs ≡ []
no_first [] e = refl
no_first (x ∷ xs) e = cc

-- one more is taken
taken_first : (now new : Option World) (m : ClientMessage) → TakesOut now (Some m) new → (m ∷ waiting new ≡ waiting now) × (new ≡ without 1 now)
taken_first None new m (e, f) = cc
taken_first (Some w) new m (e, f) = (ap (λ (core : Option World). m ∷ waiting core) f ∙ first_is w.outgoing m e, f)

without_more : (n : ℕ) (core : Option World) → without 1 (without n core) ≡ without (n + 1) core
without_more n None = refl
without_more n (Some w) = ap (λ xs. Some (record w { outgoing = xs })) (drop-drop 1 n w.outgoing)

pub one_more_taken : (old now new : Option World) (taken : List ClientMessage) (m : ClientMessage) → HasTaken old taken now → TakesOut now (Some m) new → HasTaken old (taken ++ m ∷ []) new
one_more_taken old now new taken m h t = record {
  core =
      (taken_first now new m t).1 ∙ ap (without 1) h.core ∙ without_more (length taken) old ∙ ap (λ n. without n old) (sym (length-append taken (m ∷ [])));
  waiting = append_assoc taken (m ∷ []) (waiting new) ∙ ap (λ xs. taken ++ xs) (taken_first now new m t).0 ∙ h.waiting;
}

-- nothing more waits
nothing_waits : (now new : Option World) → TakesOut now None new → (waiting now ≡ []) × (new ≡ now)
nothing_waits None new (e, f) = (refl, f)
nothing_waits (Some w) new (e, f) =
    let none : w.outgoing ≡ [] = no_first w.outgoing e in
    (none, f ∙ ap (λ xs. Some (record w { outgoing = xs })) (ap (drop 1) none ∙ sym none))

all_without : (n : ℕ) (core : Option World) → waiting (without n core) ≡ [] → without n core ≡ without_messages core
all_without n None e = refl
all_without n (Some w) e = ap (λ xs. Some (record w { outgoing = xs })) e

pub all_taken : (old now new : Option World) (taken : List ClientMessage) → HasTaken old taken now → TakesOut now None new → new ≡ without_messages old
all_taken old now new taken h t =
    let is = nothing_waits now new t in
    is.1 ∙ h.core ∙ all_without (length taken) old (ap waiting (sym h.core) ∙ is.0)

pub lacks_taken : (old now : Option World) (taken : List ClientMessage) → HasTaken old taken now → OutLacks old now
lacks_taken old now taken h = (length taken, h.core)

-- all are lost
pub lacks_all : (old now : Option World) → now ≡ without_messages old → OutLacks old now
lacks_all None now e = (0, e)
lacks_all (Some w) now e = (length w.outgoing, e ∙ ap (λ xs. Some (record w { outgoing = xs })) (sym (drop-length w.outgoing)))
