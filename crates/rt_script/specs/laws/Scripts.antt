-- Scripts that the prover runs: each line is done on what the line before it left.
use Rattle.std.specs.Prelude.{◌≡◌, ℕ, suc, List, [], ◌∷◌, ◌++◌, flat_map, codes}
use Rattle.rt_world.specs.World.{full_limits}
use Rattle.rt_lines.specs.Printing.{line}
use Rattle.rt_script.specs.State.{State, new_state}
use Rattle.rt_script.specs.Doing.{Done, asked_done}
use Rattle.rt_lines.specs.laws.Examples.{line_of_text}

-- what is printed for a line, and then for the lines after it
abbrev pub followed : Done → (State → List ℕ) → List ℕ
followed d after = d.printed ++ after d.state

-- what is printed for lines that aren't empty and whose bytes are UTF-8, the first being of that number
abbrev pub prints : ℕ → List (List ℕ) → State → List ℕ
prints number [] s = []
prints number (l ∷ ls) s = followed (asked_done number (line_of_text l) s) (prints (suc number) ls)

-- what is printed for a script
abbrev pub printed_for : List (List ℕ) → List ℕ
printed_for script = prints 1 script (new_state full_limits)

-- a listen on all there is, a push, and a write that shows at once
abbrev pub RootListen : Type 0
RootListen =
    printed_for (
    codes "[\"connected\"]"
    ∷ codes "[\"listen\",1,\"/\",[]]"
    ∷ codes "[\"data\",1,\"/\",{\"b\":1,\"a\":true}]"
    ∷ codes "[\"set\",1,\"/c\",\"x\"]" ∷ [])
    ≡ flat_map line (
    codes "done"
    ∷ codes "done 1"
    ∷ codes "done"
    ∷ codes "L1 added \"a\" true after none"
    ∷ codes "L1 added \"b\" 1 after \"a\""
    ∷ codes "L1 value {\"a\":true,\"b\":1}"
    ∷ codes "done 1"
    ∷ codes "L1 added \"c\" \"x\" after \"b\""
    ∷ codes "L1 value {\"a\":true,\"b\":1,\"c\":\"x\"}" ∷ [])

-- what a core shows: messages, which are taken out, the listens that are kept, views
abbrev pub LooksAreShown : Type 0
LooksAreShown =
    printed_for (
    codes "[\"connected\"]"
    ∷ codes "[\"cover\"]"
    ∷ codes "[\"listen\",1,\"/a\",[]]"
    ∷ codes "[\"view\",1]"
    ∷ codes "[\"out\"]"
    ∷ codes "[\"out\"]"
    ∷ codes "[\"cover\"]"
    ∷ codes "[\"data\",1,\"/a\",{\"p\":1}]"
    ∷ codes "[\"view\",1]"
    ∷ codes "[\"view\",2]" ∷ [])
    ≡ flat_map line (
    codes "done"
    ∷ codes "T none"
    ∷ codes "done 1"
    ∷ codes "unknown"
    ∷ codes "> {\"k\":\"hello\",\"version\":2}"
    ∷ codes "> {\"k\":\"listen\",\"path\":\"/a\",\"tag\":1}"
    ∷ codes "> none"
    ∷ codes "T1 /a by L1"
    ∷ codes "done"
    ∷ codes "L1 added \"p\" 1 after none"
    ∷ codes "L1 value {\"p\":1}"
    ∷ codes "row \"p\" 1"
    ∷ codes "refused core 2 UnknownListener" ∷ [])

-- what is refused, bad or stale changes nothing
abbrev pub RefusedLines : Type 0
RefusedLines =
    printed_for (
    codes "[\"data\",1,\"/a\",1]"
    ∷ codes "[\"connected\"]"
    ∷ codes "[\"connected\"]"
    ∷ codes "[\"connect\"]"
    ∷ codes "[\"set\",1,\"/a.b\",1]"
    ∷ codes "[\"listen\",1,\"/a\",[[\"limitToFirst\",0]]]"
    ∷ codes "[\"server\",\"{}\"]"
    ∷ codes "[\"ok\",9]"
    ∷ codes "[\"out\"]" ∷ [])
    ≡ flat_map line (
    codes "refused core 10 NotConnected"
    ∷ codes "done"
    ∷ codes "refused core 9 AlreadyConnected"
    ∷ codes "bad line 4"
    ∷ codes "refused tree 1 BadKey"
    ∷ codes "refused query 5 LimitZero"
    ∷ codes "refused wire 2 UnknownKind"
    ∷ codes "stale"
    ∷ codes "> {\"k\":\"hello\",\"version\":2}" ∷ [])

-- push ids go on from line to line, whatever stands between; a refusal changes nothing, and eleven
-- random numbers are no line
abbrev pub IdsGoOn : Type 0
IdsGoOn =
    printed_for (
    codes "[\"push\",1700000000000,[0,0,0,0,0,0,0,0,0,0,0,0]]"
    ∷ codes "[\"connected\"]"
    ∷ codes "[\"push\",1700000000000,[0,0,0,0,0,0,0,0,0,0,0,64]]"
    ∷ codes "[\"push\",281474976710656,[0,0,0,0,0,0,0,0,0,0,0,0]]"
    ∷ codes "[\"push\",1700000000000,[0,0,0,0,0,0,0,0,0,0,0]]"
    ∷ codes "[\"push\",1699999999999,[0,0,0,0,0,0,0,0,0,0,0,0]]" ∷ [])
    ≡ flat_map line (
    codes "id -NjEtLV-------------"
    ∷ codes "done"
    ∷ codes "refused push 3 RandomOutOfRange"
    ∷ codes "refused push 2 MomentTooLarge"
    ∷ codes "bad line 5"
    ∷ codes "id -NjEtLV------------0" ∷ [])
