-- The batches of a step, played over what is known of a seat.
use Rattle.std.proofs.Common.{◌≡◌, ℕ, true, false, cond, ◌==◌, List, [], ◌∷◌, map, refl, sym, ap, ◌∙◌, Some, None}
use Rattle.std.specs.List.{filter, filter_map, cons_option, All}
use Rattle.rt_view.specs.Changes.{replay, by_keys, rows_in}
use Rattle.rt_world.specs.declared.report.Note.{Note}
use Rattle.rt_world.specs.World.{Listener}
use Rattle.rt_world.specs.Answers.{batch_note}
use Rattle.rt_world.specs.Sound.{Rises}
use Rattle.rt_mail.specs.declared.item.Item.TheVariants as item
use Rattle.rt_mail.specs.Mailbox.{Children, Known, played, known_of}
use Rattle.rt_client.specs.Seats.{told_to, shown_by}
use Rattle.rt_client.proofs.Turned as turned
use Rattle.rt_client.proofs.Turned.{KeepsOne, due}

-- their notes
abbrev pub batches : (Listener → Listener) → List Listener → List Note
batches f ls = filter_map (λ l. batch_note (f l) (due f l)) ls

-- played over those that are known
abbrev pub plays : ℕ → (Listener → Listener) → List Listener → List (ℕ × Children) → List (ℕ × Children)
plays seat f ls known = turned.plays replay seat f ls known

played_none : (n : ℕ) (known : List (ℕ × Children)) → map (played n []) known ≡ known
played_none n [] = refl
played_none n (e ∷ known) =
    let rest = played_none n known in
    elim (e.0 == n) as (λ b. cond b (e.0, replay [] e.1) e ∷ map (played n []) known ≡ e ∷ known) [ true ↦ ap (λ z. e ∷ z) rest | false ↦ ap (λ z. e ∷ z) rest ]

-- the batches that a seat is told are played
pub batches_played : (seat : ℕ) (f : Listener → Listener) (ls : List Listener) (m : Known) → known_of m (told_to seat (batches f ls)) ≡ record m { listeners = plays seat f ls m.listeners }
batches_played seat f [] m = refl
batches_played seat f (l ∷ ls) m =
    let rest = batches f ls in
    let g = f l in
    elim (due f l) as (λ cs. known_of m (told_to seat (cons_option (batch_note g cs) rest)) ≡ record m { listeners = plays seat f ls (cond (g.seat == seat) (map (played g.number cs) m.listeners) m.listeners) }) [
      | [] ↦
          batches_played seat f ls m
          ∙ (λ i. record m { listeners = plays seat f ls (same i) })
      | c ∷ cs ↦ elim (g.seat == seat) as (λ b. known_of m (cons_option (cond b (Some (item.Batch (record { listener = g.number; changes = c ∷ cs }))) None) (told_to seat rest))
          ≡ record m { listeners = plays seat f ls (cond b (map (played g.number (c ∷ cs)) m.listeners) m.listeners) }) [
            | true ↦ batches_played seat f ls (record m { listeners = map (played g.number (c ∷ cs)) m.listeners })
            | false ↦ batches_played seat f ls m
          ]
    ]
  where
    same : m.listeners ≡ cond ((f l).seat == seat) (map (played (f l).number []) m.listeners) m.listeners
    same = elim ((f l).seat == seat) as (λ b. m.listeners ≡ cond b (map (played (f l).number []) m.listeners) m.listeners) [ true ↦ sym (played_none (f l).number m.listeners) | false ↦ refl ]

-- they turn the rows before into the rows after
pub batches_turn : (seat : ℕ) (f : Listener → Listener) (ls : List Listener) → KeepsOne f → Rises ls
    → All (λ l. replay (due f l) (by_keys (rows_in l.view)) ≡ by_keys (rows_in (f l).view)) ls
    → plays seat f ls (map shown_by (filter (λ l. l.seat == seat) ls)) ≡ map shown_by (filter (λ l. l.seat == seat) (map f ls))
batches_turn seat f ls one r t = turned.batches_turn replay (λ l. by_keys (rows_in l.view)) seat f ls one r t
