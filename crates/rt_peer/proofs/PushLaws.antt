-- What one listen of a filtered query is sent, by what the query is told.
use Rattle.std.proofs.Common.{◌≡◌, Bool, true, false, cond, not, ◌||◌, List, [], ◌∷◌, map, Some, None, is_some, refl, sym, ap, ◌∙◌, if◌then◌else◌}
use mathlib.Core.Bool.{true≢false}
use Rattle.std.specs.List.{list_any}
use Rattle.std.specs.Option.{unwrap_or}
use Rattle.rt_tree.specs.PathTree.{PathTree}
use Rattle.rt_tree.specs.Trees.{tree_eq}
use Rattle.rt_tree.specs.Assignments.{Assignment, is_at_or_above}
use Rattle.rt_query.specs.Queries.{Query, is_filtered}
use Rattle.rt_wire.specs.declared.server.ServerMessage.{ServerMessage}
use Rattle.rt_wire.specs.declared.server.ServerMessage.TheVariants.{Data}
use Rattle.rt_peer.specs.declared.pushes.Sent.{Sent}
use Rattle.rt_peer.specs.declared.listens.Owner.{Owner}
use Rattle.rt_peer.specs.Peers.{Listen}
use Rattle.rt_peer.specs.Pushes.{parts_below, parts_message, push_of, pushes, seen}
use Rattle.rt_peer.specs.inside.Looked.{told_of}
use Rattle.rt_peer.specs.inside.Spots.{listen_of}

some_is : (x y : PathTree) → Some x ≡ Some y → x ≡ y
some_is x y e = ap (λ o. unwrap_or o x) e

-- all that a filtered query shows
whole : (u : PathTree) (es : List Assignment) (l : Listen) → is_filtered l.query ≡ true
    → push_of u es l ≡ Data l.tag l.query.path (seen l.query u)
whole u es l e =
    ap (λ b. if b || list_any (λ a. is_at_or_above a.0 l.query.path) es then Data l.tag l.query.path (seen l.query u)
    else parts_message l.tag (parts_below u l.query.path es)) e

module _ (t u : PathTree) (es : List Assignment) (o : Owner) (q : Query) where
  abbrev l : Listen
  l = listen_of (o, q)

  abbrev sent_so : Bool → List Sent
  sent_so b = map (λ (m : Listen). record { to = m.connection; message = push_of u es m }) (cond (not b) (l ∷ []) [])

  pub told_pushes : (tree : PathTree) → is_filtered q ≡ true → Some tree ≡ told_of t u q
      → pushes t u es (l ∷ []) ≡ record { to = o.connection; message = Data o.tag q.path tree } ∷ []
  told_pushes tree filtered told =
      elim (tree_eq (seen q t) (seen q u)) as (λ b. Some tree ≡ (if b then None else Some (seen q u))
      → sent_so b ≡ record { to = o.connection; message = Data o.tag q.path tree } ∷ []) [
        | true ↦ λ e. absurd (true≢false (ap is_some e))
        | false ↦ λ e.
            let m : ServerMessage = push_of u es l in
            let is : m ≡ Data o.tag q.path tree = whole u es l filtered ∙ ap (Data o.tag q.path) (sym (some_is tree (seen q u) e)) in
            λ i. record { to = o.connection; message = is i } ∷ []
      ] told

  pub told_nothing : None ≡ told_of t u q → pushes t u es (l ∷ []) ≡ []
  told_nothing told =
      elim (tree_eq (seen q t) (seen q u)) as (λ b. None ≡ (if b then None else Some (seen q u)) → sent_so b ≡ []) [
        | true ↦ λ e. refl
        | false ↦ λ e. absurd (true≢false (sym (ap is_some e)))
      ] told
