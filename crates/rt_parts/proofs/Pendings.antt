-- The pending writes of requests, by number.
use Rattle.std.proofs.Common.{◌≡◌, ℕ, ◌<◌, ◌==◌, true, false, cond, List, [], ◌∷◌, ◌++◌, arith, refl, ap, ◌∙◌, Option, Some, None}
use Rattle.std.specs.List.{All, cons_option, find}
use Rattle.std.specs.Option.{option_map}
use Rattle.std.proofs.lemmas.List.Elements.{All-cons, All-head, All-tail}
use Rattle.rt_writes.specs.Writes.{Write, entries_of as entries_at}
use Rattle.rt_wire.specs.declared.request.Asked.{Asked}
use Rattle.rt_wire.specs.declared.request.Asked.TheVariants.{Now, AtDisconnect}
use Rattle.rt_world.specs.declared.step.Request.{Request}
use Rattle.rt_tree.specs.Assignments.{Assignment}
use Rattle.rt_world.specs.World.{pending, entries_of, write_asked}
use Rattle.rt_parts.specs.inside.Writes.{entries_asked}

-- the same request, if it asked for that
abbrev with_asked : Request → Asked → Request
with_asked r x = record { id = r.id; seat = r.seat; asked = x }

-- the writes of requests below a number are below it
pub writes_below : (n : ℕ) (rs : List Request) → All (λ (r : Request). r.id < n) rs → All (λ (w : Write). w.id < n) (pending rs)
writes_below n [] h = λ k d lt. absurd (omega arith)
writes_below n (r ∷ rs) h = at r.asked (All-head (λ (r : Request). r.id < n) r rs h) (writes_below n rs (All-tail (λ (r : Request). r.id < n) r rs h))
  where
    at : (x : Asked) → r.id < n → All (λ (w : Write). w.id < n) (pending rs) → All (λ (w : Write). w.id < n) (pending (with_asked r x ∷ rs))
    at (Now action) low rest = All-cons (λ (w : Write). w.id < n) (record { id = r.id; entries = entries_of action }) (pending rs) low rest
    at (AtDisconnect ending) low rest = rest

-- where no request has the number, no pending write has it
pub none_pending : (id : ℕ) (rs : List Request) → find (λ (r : Request). r.id == id) rs ≡ None → entries_at id (pending rs) ≡ None
none_pending id [] e = refl
none_pending id (r ∷ rs) e =
    elim (r.id == id) as (λ b. (r.id == id) ≡ b → cond b (Some r) (find (λ (x : Request). x.id == id) rs) ≡ None → entries_at id (pending (r ∷ rs)) ≡ None) [
      | true ↦ λ t f. cc
      | false ↦ λ t f. at t r.asked (none_pending id rs f)
    ] refl e
  where
    at : (r.id == id) ≡ false → (x : Asked) → entries_at id (pending rs) ≡ None → entries_at id (pending (with_asked r x ∷ rs)) ≡ None
    at t (Now action) rest = ap (λ b. option_map (λ (w : Write). w.entries) (cond b (Some (record { id = r.id; entries = entries_of action })) (find (λ (w : Write). w.id == id) (pending rs)))) t ∙ rest
    at t (AtDisconnect ending) rest = rest

-- what is pending once that write is asked for
pub pending_with : (rs : List Request) (id : ℕ) (seat : Option ℕ) (asked : Asked) (entries : List Assignment) → entries_asked asked ≡ Some entries
    → pending (rs ++ record { id = id; seat = seat; asked = asked } ∷ []) ≡ pending rs ++ record { id = id; entries = entries } ∷ []
pending_with [] id seat asked entries e = at asked e
  where
    at : (x : Asked) → entries_asked x ≡ Some entries → pending (record { id = id; seat = seat; asked = x } ∷ []) ≡ record { id = id; entries = entries } ∷ []
    at (Now action) f = let same : entries_of action ≡ entries = cc in λ i. record { id = id; entries = same i } ∷ []
    at (AtDisconnect ending) f = cc
pending_with (r ∷ rs) id seat asked entries e = ap (cons_option (write_asked r.id r.asked)) (pending_with rs id seat asked entries e) ∙ past (write_asked r.id r.asked)
  where
    past : (o : Option Write) → cons_option o (pending rs ++ record { id = id; entries = entries } ∷ []) ≡ cons_option o (pending rs) ++ record { id = id; entries = entries } ∷ []
    past (Some w) = refl
    past None = refl
