-- What the parts of a step do, said of their values alone.
use Rattle.std.specs.Prelude.{ℕ, Bool, if◌then◌else◌, List, [], ◌++◌, map}
use Rattle.rt_cover.specs.declared.change.Delta.{Delta}
use Rattle.rt_cover.specs.declared.listen.Kept.{Kept}
use Rattle.rt_wire.specs.declared.client.ClientMessage.{ClientMessage}

-- the messages that begin these listens
abbrev pub listens_shown : List Kept → List ClientMessage
listens_shown kept = map (λ k. ClientMessage.Listen k.tag k.query) kept

-- the messages that end the listens with these tags
abbrev pub unlistens_of : List ℕ → List ClientMessage
unlistens_of tags = map (λ tag. ClientMessage.Unlisten tag) tags

-- the messages of a change of the listens kept, while there is a connection
abbrev pub changing : Bool → Delta → List ClientMessage
changing is_connected delta =
    if is_connected then listens_shown delta.started ++ unlistens_of delta.stopped else []
