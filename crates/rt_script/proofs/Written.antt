-- What lines print, which is written in pieces.
use Rattle.std.proofs.Common.{◌≡◌, ℕ, List, [], ◌∷◌, ◌++◌, ◌+◌, ◌≤◌, Bool, true, false, cond, Option, Some, None, Result, Ok, Err, IfOk, IfErr, OnOk, OnErr, rules, string_bytes, refl, sym, ap, subst, ◌∙◌, append-nil, append_assoc}
use Rattle.std.specs.Io.KnownBytes.{Appends, IsAtEnd}
use Rattle.rt_input.specs.declared.fault.ConsoleError.{ConsoleError}
use Rattle.rt_input.specs.Faults.{Counts, NoneFailed, Tells}
use Rattle.rt_input.specs.Lines.{lines_of, most_input}
use Rattle.rt_input.specs.Streams.{AppendsPart}
use Rattle.rt_script.specs.State.{State}
use Rattle.rt_script.specs.Doing.{bytes_done, is_good}
use Rattle.rt_script.specs.declared.script.Script.{Script}
use Rattle.rt_script.specs.Run.{Progress, Ran, RunsScript, after_line, after_lines, one_more, run_of, start}
use Rattle.rt_script.specs.inside.Pieces.{Begins, PrintsFirst, Runs, so_far}

-- ---- answers

pub on_ok : {A E : Type 0} (P Q : Type 0) (r : Result A E) → (P → Q) → OnOk r P → OnOk r Q
on_ok P Q (Ok x) f h = f h
on_ok P Q (Err e) f h = h

pub if_ok_three : {A E : Type 0} (P Q : Type 0) (F G : A → Type 0) (r : Result A E) → ((x : A) → P → Q → F x → G x) → OnOk r P → OnOk r Q → IfOk r F → IfOk r G
if_ok_three P Q F G (Ok x) f p q h = f x p q h
if_ok_three P Q F G (Err e) f p q h = h

-- ---- known bytes

pub Appends-nil : (a : Option (List ℕ)) → Appends a a []
Appends-nil None = tt
Appends-nil (Some x) = sym (append-nil x)

pub Appends-none : (a : Option (List ℕ)) (bs : List ℕ) → bs ≡ [] → Appends a a bs
Appends-none None bs e = tt
Appends-none (Some x) bs e = sym (append-nil x) ∙ ap (λ l. x ++ l) (sym e)

pub Appends-trans : (a b c : Option (List ℕ)) (bs cs : List ℕ) → Appends a b bs → Appends b c cs → Appends a c (bs ++ cs)
Appends-trans None b c bs cs p q = tt
Appends-trans (Some x) None c bs cs p q = absurd p
Appends-trans (Some x) (Some y) None bs cs p q = absurd q
Appends-trans (Some x) (Some y) (Some z) bs cs p q = q ∙ ap (λ l. l ++ cs) p ∙ append_assoc x bs cs

-- ---- how far a run is

abbrev progress : State → List ℕ → ℕ → ℕ → Progress
progress state printed lines bad_lines =
    record { state = state; printed = printed; lines = lines; bad_lines = bad_lines }

same_progress : (a b : State) (s t : List ℕ) (m n k l : ℕ) → a ≡ b → s ≡ t → m ≡ n → k ≡ l → progress a s m k ≡ progress b t n l
same_progress a b s t m n k l e f g h =
    ap (λ x. progress x s m k) e ∙ ap (λ x. progress b x m k) f ∙ ap (λ x. progress b t x k) g ∙ ap (λ x. progress b t n x) h

after_lines-append : (ls ms : List (List ℕ)) (p : Progress) → after_lines (ls ++ ms) p ≡ after_lines ms (after_lines ls p)
after_lines-append [] ms p = refl
after_lines-append (l ∷ ls) ms p = after_lines-append ls ms (after_line l p)

-- with so much printed before
abbrev behind : List ℕ → Progress → Progress
behind text p = progress p.state (text ++ p.printed) p.lines p.bad_lines

after_line-behind : (text line : List ℕ) (p : Progress) → after_line line (behind text p) ≡ behind text (after_line line p)
after_line-behind text line p =
    let new : Progress = after_line line p in
    let more : List ℕ = (bytes_done (one_more p.lines) line p.state).printed in
    ap (λ t. progress new.state t new.lines new.bad_lines) (append_assoc text p.printed more)

after_lines-behind : (ls : List (List ℕ)) (text : List ℕ) (p : Progress) → after_lines ls (behind text p) ≡ behind text (after_lines ls p)
after_lines-behind [] text p = refl
after_lines-behind (l ∷ ls) text p = ap (after_lines ls) (after_line-behind text l p) ∙ after_lines-behind ls text (after_line l p)

so_far-behind : (text written : List ℕ) (s : Script) → so_far (text ++ written) s ≡ behind text (so_far written s)
so_far-behind text written s =
    ap (λ t. progress s.state t s.lines s.bad_lines) (append_assoc text written (string_bytes s.printed))

-- ---- runs

-- nothing happens
pub Runs-none : (c : Option (List ℕ)) (s : Script) → Runs [] (so_far [] s) c s c
Runs-none c s = ([], Appends-nil c, refl)

-- a line is done, and nothing is written
pub Runs-line : (line : List ℕ) (c : Option (List ℕ)) (s1 s2 : Script) → so_far [] s2 ≡ after_line line (so_far [] s1) → Runs (line ∷ []) (so_far [] s1) c s2 c
Runs-line line c s1 s2 e = ([], Appends-nil c, e)

-- one run after another
pub Runs-append : (ls ms : List (List ℕ)) (old : Progress) (c0 c1 c2 : Option (List ℕ)) (s1 s2 : Script) → Runs ls old c0 s1 c1 → Runs ms (so_far [] s1) c1 s2 c2 → Runs (ls ++ ms) old c0 s2 c2
Runs-append ls ms old c0 c1 c2 s1 s2 (w, a, e) (v, b, f) = (
  w ++ v,
  Appends-trans c0 c1 c2 w v a b,
  so_far-behind w v s2 ∙ ap (behind w) f ∙ sym (after_lines-behind ms w (so_far [] s1)) ∙ ap (after_lines ms) e ∙ sym (after_lines-append ls ms old),
)

-- what waits is written
pub Runs-written : (ls : List (List ℕ)) (old : Progress) (c0 c1 c2 : Option (List ℕ)) (s1 s2 : Script) → Runs ls old c0 s1 c1 → Appends c1 c2 (string_bytes s1.printed) → string_bytes s2.printed ≡ [] → s2.state ≡ s1.state → s2.lines ≡ s1.lines → s2.bad_lines ≡ s1.bad_lines → Runs ls old c0 s2 c2
Runs-written ls old c0 c1 c2 s1 s2 (w, a, e) b nothing core lines bad =
    let more : List ℕ = w ++ string_bytes s1.printed in
    let text : more ++ string_bytes s2.printed ≡ more = ap (λ t. more ++ t) nothing ∙ append-nil more in
    (more, Appends-trans c0 c1 c2 w (string_bytes s1.printed) a b, same_progress s2.state s1.state _ _ s2.lines s1.lines s2.bad_lines s1.bad_lines core text lines bad ∙ e)

-- the whole run, of which nothing waits
pub Ran-whole : (text : List ℕ) (n : ℕ) (c0 c1 : Option (List ℕ)) (s : Script) → Runs (lines_of text) start c0 s c1 → string_bytes s.printed ≡ [] → n ≡ s.bad_lines → Ran text n c0 c1
Ran-whole text n c0 c1 s (w, a, e) nothing counted =
    let all : w ≡ (after_lines (lines_of text) start).printed = sym (append-nil w) ∙ ap (λ t. w ++ t) (sym nothing) ∙ ap (λ (p : Progress). p.printed) e in
    let P : List ℕ → Type 0 = λ t. Appends c0 c1 t in
    record { counted = counted ∙ ap (λ (p : Progress). p.bad_lines) e; written = subst P all a }

-- ---- runs that stop

abbrev printed_in : Progress → List ℕ
printed_in p = p.printed

-- what lines print grows
after_lines-grows : (ls : List (List ℕ)) (p : Progress) → (rest : List ℕ) × ((after_lines ls p).printed ≡ p.printed ++ rest)
after_lines-grows [] p = ([], sym (append-nil p.printed))
after_lines-grows (l ∷ ls) p =
    let more : List ℕ = (bytes_done (one_more p.lines) l p.state).printed in
    let g : (rest : List ℕ) × ((after_lines ls (after_line l p)).printed ≡ (p.printed ++ more) ++ rest) = after_lines-grows ls (after_line l p) in
    (more ++ g.0, g.1 ∙ append_assoc p.printed more g.0)

-- some lines were done, and no more
pub Begins-done : (done more : List (List ℕ)) (old : Progress) (c0 c1 : Option (List ℕ)) (s : Script) → Runs done old c0 s c1 → Begins (done ++ more) old c0 s c1
Begins-done done more old c0 c1 s (w, a, e) =
    let g : (rest : List ℕ) × ((after_lines more (after_lines done old)).printed ≡ (after_lines done old).printed ++ rest) = after_lines-grows more (after_lines done old) in
    (w, g.0, a, ap printed_in (after_lines-append done more old) ∙ g.1 ∙ ap (λ t. t ++ g.0) (sym (ap printed_in e)))

regrouped : (w v p r : List ℕ) → w ++ ((v ++ p) ++ r) ≡ ((w ++ v) ++ p) ++ r
regrouped w v p r = sym (append_assoc w (v ++ p) r) ∙ ap (λ t. t ++ r) (sym (append_assoc w v p))

-- some lines were done, and the next was begun
pub Begins-next : (done more : List (List ℕ)) (line : List ℕ) (old : Progress) (c0 c1 c2 : Option (List ℕ)) (s1 s2 : Script)
    → Runs done old c0 s1 c1 → Begins (line ∷ []) (so_far [] s1) c1 s2 c2 → Begins (done ++ line ∷ more) old c0 s2 c2
Begins-next done more line old c0 c1 c2 s1 s2 (w, a, e) (v, rest, b, f) =
    let at : Progress = after_lines done old in
    let waits : List ℕ = string_bytes s2.printed in
    let g : (tail : List ℕ) × ((after_lines more (after_line line at)).printed ≡ (after_line line at).printed ++ tail) = after_lines-grows more (after_line line at) in
    let all : (after_line line at).printed ≡ ((w ++ v) ++ waits) ++ rest =
    ap (λ p. (after_line line p).printed) (sym e) ∙ ap printed_in (after_line-behind w line (so_far [] s1))
    ∙ ap (λ t. w ++ t) f ∙ regrouped w v waits rest in (
      w ++ v,
      rest ++ g.0,
      Appends-trans c0 c1 c2 w v a b,
      ap printed_in (after_lines-append done (line ∷ more) old) ∙ g.1 ∙ ap (λ t. t ++ g.0) all
          ∙ append_assoc ((w ++ v) ++ waits) rest g.0,
    )

-- of what waits only the beginning was written
pub Begins-part : (ls : List (List ℕ)) (old : Progress) (c0 c1 c2 : Option (List ℕ)) (s1 s2 : Script) → Runs ls old c0 s1 c1
    → AppendsPart c1 c2 (string_bytes s1.printed) → string_bytes s2.printed ≡ [] → Begins ls old c0 s2 c2
Begins-part ls old c0 c1 c2 s1 s2 (w, a, e) (part, rest, f, b) nothing =
    let none : (w ++ part) ++ string_bytes s2.printed ≡ w ++ part = ap (λ t. (w ++ part) ++ t) nothing ∙ append-nil (w ++ part) in (
      w ++ part,
      rest,
      Appends-trans c0 c1 c2 w part a b,
      sym (ap printed_in e) ∙ ap (λ t. w ++ t) f ∙ sym (append_assoc w part rest) ∙ ap (λ t. t ++ rest) (sym none),
    )

-- a line was begun, and nothing was written
pub Begins-line : (line : List ℕ) (c : Option (List ℕ)) (s1 s2 : Script) → PrintsFirst line (so_far [] s1) s2 → Begins (line ∷ []) (so_far [] s1) c s2 c
Begins-line line c s1 s2 (rest, h) = ([], rest, Appends-nil c, h)

-- nothing was done
pub Begins-none : (ls : List (List ℕ)) (c : Option (List ℕ)) (s : Script) → Begins ls (so_far [] s) c s c
Begins-none ls c s = Begins-done [] ls (so_far [] s) c c s (Runs-none c s)

-- what was written comes first
pub first_written : (ls : List (List ℕ)) (old : Progress) (c0 c1 : Option (List ℕ)) (s : Script) → Begins ls old c0 s c1
    → AppendsPart c0 c1 (after_lines ls old).printed
first_written ls old c0 c1 s (w, rest, a, e) =
    (w, string_bytes s.printed ++ rest, e ∙ append_assoc w (string_bytes s.printed) rest, a)

-- and so it does with what waited, or its beginning
pub first_with : (ls : List (List ℕ)) (old : Progress) (c0 c1 c2 : Option (List ℕ)) (s : Script) → Begins ls old c0 s c1
    → AppendsPart c1 c2 (string_bytes s.printed) → AppendsPart c0 c2 (after_lines ls old).printed
first_with ls old c0 c1 c2 s (w, rest, a, e) (part, left, f, b) = (
  w ++ part,
  left ++ rest,
  e ∙ ap (λ t. (w ++ t) ++ rest) f ∙ ap (λ t. t ++ rest) (sym (append_assoc w part left)) ∙ append_assoc (w ++ part) left rest,
  Appends-trans c0 c1 c2 w part a b,
)

pub whole_part : (a b : Option (List ℕ)) (bs : List ℕ) → Appends a b bs → AppendsPart a b bs
whole_part a b bs h = (bs, [], sym (append-nil bs), h)

pub err_always : {A E : Type 0} (P : Type 0) (r : Result A E) → P → OnErr r P
err_always P (Ok x) h = tt
err_always P (Err e) h = h

pub on_err : {A E : Type 0} (P Q : Type 0) (r : Result A E) → (P → Q) → OnErr r P → OnErr r Q
on_err P Q (Ok x) f h = tt
on_err P Q (Err e) f h = f h

-- a line was not done: what waits is what waited before
pub prints_none : (line : List ℕ) (s1 s2 : Script) → string_bytes s2.printed ≡ string_bytes s1.printed → PrintsFirst line (so_far [] s1) s2
prints_none line s1 s2 same =
    let more : List ℕ = (bytes_done (one_more s1.lines) line s1.state).printed in
    (more, ap (λ t. t ++ more) (sym same))

-- a line was done, and then memory lacked
pub prints_all : (line : List ℕ) (s1 s2 : Script) → so_far [] s2 ≡ after_line line (so_far [] s1) → PrintsFirst line (so_far [] s1) s2
prints_all line s1 s2 e = ([], sym (ap printed_in e) ∙ sym (append-nil (string_bytes s2.printed)))

-- ---- a line

-- a line is done
pub line_done : (old new : Script) (bytes : List ℕ) (number : ℕ) → number ≡ one_more old.lines → new.lines ≡ number → new.state ≡ (bytes_done number bytes old.state).state → string_bytes new.printed ≡ string_bytes old.printed ++ (bytes_done number bytes old.state).printed → new.bad_lines ≡ cond (is_good bytes) old.bad_lines (one_more old.bad_lines) → so_far [] new ≡ after_line bytes (so_far [] old)
line_done old new bytes number counted lines core printed bad =
    let done : bytes_done number bytes old.state ≡ bytes_done (one_more old.lines) bytes old.state = ap (λ n. bytes_done n bytes old.state) counted in
    same_progress new.state _ (string_bytes new.printed) _ new.lines _ new.bad_lines _ (core ∙ ap (λ d. d.state) done) (printed ∙ ap (λ d. string_bytes old.printed ++ d.printed) done) (lines ∙ counted) bad

pub counts-good : (good : Bool) (n m k : ℕ) → good ≡ true → n ≡ m → n ≡ cond good m k
counts-good true n m k e f = f
counts-good false n m k e f = cc

pub counts-bad : (good : Bool) (n m k : ℕ) → good ≡ false → n ≡ k → n ≡ cond good m k
counts-bad true n m k e f = cc
counts-bad false n m k e f = f

-- ---- a run that is told whole

pub runs_script : (r : Result ℕ ConsoleError) (was now : Counts) (given left old new : Option (List ℕ))
    → OnOk r (IsAtEnd left)
    → IfOk r (λ n. (text : List ℕ) → given ≡ Some text → Ran text n old new)
    → OnErr r ((text : List ℕ) → given ≡ Some text → AppendsPart old new (run_of text).printed)
    → OnOk r (now.given ≤ was.given + most_input) → IfErr r (λ e. Tells e was now) → OnOk r (NoneFailed was now)
    → RunsScript r was now given left old new
runs_script r was now given left old new end ran first within fault ok = search rules
