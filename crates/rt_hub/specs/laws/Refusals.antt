-- What requests that can't be taken are answered, computed by the prover.
use Rattle.std.specs.Prelude.{◌≡◌, ℕ, List, ◌++◌, codes, Option, Some, None}
use Rattle.rt_hub.specs.Refusing.{refusal_of}

-- request 1 of that kind with those members
abbrev pub answer_to : List ℕ → List ℕ → Option (List ℕ)
answer_to kind members =
    refusal_of (codes "{\"k\":\"" ++ (kind ++ (codes "\",\"id\":1," ++ (members ++ codes "}"))))

-- it is refused for that
abbrev pub refused_for : List ℕ → Option (List ℕ)
refused_for why = Some (codes "{\"id\":1,\"k\":\"no\",\"why\":\"" ++ (why ++ codes "\"}"))

-- a value, a path, a name of entries and a value of entries, what is missing, and what is of another kind
abbrev pub RefusalsSayWhy : Type 0
RefusalsSayWhy =
    (answer_to (codes "put") (codes "\"path\":\"/a/y\",\"value\":1.5")
    ≡ refused_for (codes "bad value: a number must be whole, from -9007199254740991 to 9007199254740991"))
    × (answer_to (codes "od-put") (codes "\"path\":\"/a\",\"value\":{\"x\":{\"\":1}}")
    ≡ refused_for
    (codes "bad value: a key must have at least one byte, and no control character and none of . $ # [ ] /"))
    × (answer_to (codes "put") (codes "\"path\":\"/a.b\",\"value\":1.5")
    ≡ refused_for
    (codes "bad path: a key must have at least one byte, and no control character and none of . $ # [ ] /"))
    × (answer_to (codes "put") (codes "\"path\":\"/a\"")
    ≡ refused_for (codes "bad value: there must be one"))
    × (answer_to (codes "merge") (codes "\"entries\":{\"/a\":1.5,\"/b.c\":1}")
    ≡ refused_for
    (codes "bad entries: a key must have at least one byte, and no control character and none of . $ # [ ] /"))
    × (answer_to (codes "od-merge") (codes "\"entries\":{\"/a\":1,\"/b\":1.5}")
    ≡ refused_for (codes "bad entries: a number must be whole, from -9007199254740991 to 9007199254740991"))
    × (answer_to (codes "merge") (codes "\"entries\":{}")
    ≡ refused_for (codes "bad entries: it must be an object with a member"))
    × (answer_to (codes "od-cancel") (codes "\"path\":[]")
    ≡ refused_for (codes "bad path: it must be a text"))

-- what is no request, or has no number that can be read, has no answer
abbrev pub OthersAreNotAnswered : Type 0
OthersAreNotAnswered =
    (answer_to (codes "listen") (codes "\"path\":1,\"tag\":1") ≡ None)
    × (answer_to (codes "putt") (codes "\"path\":\"/a\",\"value\":1.5") ≡ None)
    × (answer_to (codes "put") (codes "\"id\":0,\"path\":\"/a\",\"value\":1.5") ≡ None)
    × (refusal_of (codes "{\"k\":\"put\",\"path\":\"/a\",\"value\":1.5}") ≡ None)
    × (refusal_of (codes "{\"id\":1,\"k\":\"put\"") ≡ None) × (refusal_of (codes "[1]") ≡ None)
