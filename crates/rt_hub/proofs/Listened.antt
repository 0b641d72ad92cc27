-- What a connection listens to, one listen after another.
use Rattle.std.proofs.Common.{◌≡◌, ◌∷◌, [], ℕ, Bool, true, false, List, Option, Some, None, IfSome, String, string_bytes, map, refl, sym, ap, subst, ◌∙◌}
use mathlib.Core.Bool.{true≢false}
use Rattle.std.specs.declared.alloc.Global.{Global}
use Rattle.serde_json.specs.Written.{compact_text}
use Rattle.rt_query.specs.Queries.{Query}
use Rattle.rt_wire.specs.ClientData.{listen_data}
use Rattle.rt_peer.specs.Peers.{Peer, listens_behind}
use Rattle.rt_hub.specs.Hubs.{Hub, IsNextListen, listen_text}
use Rattle.rt_hub.specs.Lines.{Line}
use Rattle.rt_hub.specs.declared.refusal.Bounds.{Bounds}
use Rattle.rt_hub.specs.inside.Lined.{AreLinedOf, hub_of}

pub next_there : (failed : Bool) (peer : Option Peer) (bounds : Bounds) (lines : List (Option Line)) (now : Option Hub)
    (n tag : ℕ) (above : Option ℕ) (q : Query) (text : String Global) → hub_of failed peer bounds lines ≡ now
    → (failed ≡ false → AreLinedOf peer lines) → failed ≡ false
    → IfSome peer (λ p. listens_behind n above p.listens
    ≡ record { connection = n; tag = tag; query = q } ∷ listens_behind n (Some tag) p.listens)
    → string_bytes text ≡ compact_text (listen_data tag q) → IsNextListen now n above (Some (tag, text))
next_there true peer bounds lines now n tag above q text view lined f next is = absurd (true≢false f)
next_there false None bounds lines now n tag above q text view lined f next is = absurd (lined refl)
next_there false (Some p) bounds lines now n tag above q text view lined f next is =
    subst (λ hub. IsNextListen hub n above (Some (tag, text))) view
    (ap (map listen_text) next ∙ ap (λ t. t ∷ map listen_text (listens_behind n (Some tag) p.listens)) (sym is))

pub none_there : (failed : Bool) (peer : Option Peer) (bounds : Bounds) (lines : List (Option Line)) (now : Option Hub)
    (n : ℕ) (above : Option ℕ) → hub_of failed peer bounds lines ≡ now
    → (failed ≡ false → IfSome peer (λ p. listens_behind n above p.listens ≡ [])) → IsNextListen now n above None
none_there true peer bounds lines now n above view none = subst (λ hub. IsNextListen hub n above None) view refl
none_there false None bounds lines now n above view none = subst (λ hub. IsNextListen hub n above None) view refl
none_there false (Some p) bounds lines now n above view none =
    subst (λ hub. IsNextListen hub n above None) view (ap (map listen_text) (none refl))
