-- What words ask for, and why they make no command.
use Rattle.std.proofs.Common.{◌≡◌, ℕ, Bool, true, false, List, [], ◌∷◌, Option, Some, None, Result, Ok, Err}
use Rattle.std.proofs.Common.{inl, inr, refl, sym, subst, ap, ap₂, ◌∙◌, codes}
use Rattle.std.specs.Borrow.{Bor}
use Rattle.std.specs.Prelude.{◌⊎◌, Box, IfOk, IfSome, IsErrAnd, is_some, if◌then◌else◌, option_map, option_and_then}
use Rattle.std.specs.Box.{box_value}
use Rattle.std.specs.declared.net.ip_addr.IpAddr.{IpAddr}
use Rattle.std.specs.Str.{bytes_eq}
use Rattle.std.proofs.lemmas.Slice.Eq.{bytes_eq-Decides}
use Rattle.clap.specs.declared.error.Error.{Error}
use Rattle.clap.specs.declared.error.kind.ErrorKind.{ErrorKind}
use Rattle.clap.specs.declared.error.kind.ErrorKind.TheVariants.{OutOfMemory, ValueValidation}
use Rattle.clap.specs.declared.parser.matches.ArgMatches.{ArgMatches}
use Rattle.clap.specs.declared.parser.matches.ArgMatches.TheViews.{out-ArgMatches, out-SubCommand}
use Rattle.clap.specs.declared.parser.matches.SubCommand.{SubCommand}
use Rattle.clap.specs.Kinds.{or_else}
use Rattle.clap.specs.Matches.{subcommand_name_of}
use Rattle.clap.specs.Values.{kind_of}
use Rattle.clap.specs.Words.{FailsBy, HasKind, IsAmong, Kinds, Row, first_of, found_of, one_of, rows_of}
use Rattle.clap.specs.Words.{subcommand_rows, subcommand_rows_of}
use Rattle.rt_emulate.specs.Emulating.{Emulation}
use Rattle.rt_emulate.specs.declared.settings.Level.{Level}
use Rattle.rt_tree.specs.Path.{path_fault, path_keys}
use Rattle.rt_tree.specs.PathTree.{Path, PathTree}
use Rattle.rt_tree.specs.declared.error.TreeError.{TreeError}
use Rattle.rt_commands.specs.Hosts.{host_of}
use Rattle.rt_commands.specs.Words.{Gives, GivesWork, all_texts, count_of, denied_of, emulation_of, flag_of, live_of}
use Rattle.rt_commands.specs.Words.{number_of, origins_of, other_of, path_of, paths_of, served_of, serving_of}
use Rattle.rt_commands.specs.Words.{tree_of, watch_of, watching_of, work_of}
use Rattle.rt_commands.specs.declared.words.Asked.{Asked}
use Rattle.rt_commands.specs.declared.words.Serving.{Serving}
use Rattle.rt_commands.specs.declared.words.Work.{Work}
use Rattle.rt_commands.specs.declared.words.Work.TheVariants.{Connect, Emulate, Script, Serve}

-- the faults of words, by those of clap and by what is asked for
abbrev pub faults_by : Kinds → Option Work → Kinds
faults_by clap work = or_else clap (if is_some work then [] else ValueValidation ∷ [])

first : (a b : Kinds) (k : ErrorKind) → IsAmong k a → IsAmong k (or_else a b)
first [] b k h = absurd h
first (x ∷ xs) b k h = h

-- an error of clap's own
pub clap_fails : (a b : Kinds) (e : Error) → HasKind a e → HasKind (or_else a b) e
clap_fails a b e (inl memory) = inl memory
clap_fails a b e (inr among) = inr (first a b (kind_of e) among)

refused_kind : (clap : Kinds) (work : Option Work) (k : ErrorKind) → clap ≡ [] → work ≡ None → k ≡ ValueValidation
    → IsAmong k (faults_by clap work)
refused_kind [] None k e f h = inl h
refused_kind [] (Some w) k e f h = cc
refused_kind (x ∷ xs) work k e f h = cc

-- the work is given
pub given : (clap : Kinds) (work : Option Work) (r : Result Asked Error) → clap ≡ []
    → GivesWork work r → FailsBy (faults_by clap work) r
given clap work (Ok a) e h = ap (λ k. faults_by k work) e ∙ ap (faults_by []) h
given clap work (Err x) e (inl memory) = inl memory
given clap work (Err x) e (inr refused) = inr (refused_kind clap work (kind_of x) e refused.1 refused.0)

pub given_work : (work : Option Work) (r : Result Asked Error) → GivesWork work r
    → IfOk r (λ a. work ≡ Some a.work)
given_work work (Ok a) h = h
given_work work (Err x) h = tt

-- an error is passed up
pub passed : {T U : Type 0} (v : Option T) (w : Option U) (e : Error) (r : Result U Error)
    → IsErrAnd r (λ y. y ≡ e) → (v ≡ None → w ≡ None)
    → (kind_of e ≡ OutOfMemory) ⊎ ((kind_of e ≡ ValueValidation) × (v ≡ None)) → Gives w r
passed v w e (Ok x) is f h = absurd is
passed v w e (Err y) is f (inl memory) = inl (ap kind_of is ∙ memory)
passed v w e (Err y) is f (inr k) = inr (ap kind_of is ∙ k.0, f k.1)

-- and so it is by what was asked for
pub passed_on : (v : Option Work) (e : Error) (r : Result Asked Error) → IsErrAnd r (λ y. y ≡ e)
    → (kind_of e ≡ OutOfMemory) ⊎ ((kind_of e ≡ ValueValidation) × (v ≡ None)) → GivesWork v r
passed_on v e (Ok x) is h = absurd is
passed_on v e (Err y) is (inl memory) = inl (ap kind_of is ∙ memory)
passed_on v e (Err y) is (inr k) = inr (ap kind_of is ∙ k.0, k.1)

-- an error of the same kind
pub same_kind : (kinds : Kinds) (a b : Error) → kind_of b ≡ kind_of a → HasKind kinds a → HasKind kinds b
same_kind kinds a b e (inl memory) = inl (e ∙ memory)
same_kind kinds a b e (inr among) = inr (subst (λ k. IsAmong k kinds) (sym e) among)

-- a path that is read has no fault
no_fault : (t : List ℕ) (path : Path) (fault : Option TreeError)
    → IfSome fault (λ e. ◌≡◌ {A = Result Path TreeError} (Ok path) (Err e)) → fault ≡ None
no_fault t path None k = refl
no_fault t path (Some e) k = cc

-- a path is read
pub path_read : (t : List ℕ) (path : Path) → path ≡ path_keys t
    → IfSome (path_fault t) (λ e. ◌≡◌ {A = Result Path TreeError} (Ok path) (Err e)) → path_of t ≡ Some path
path_read t path keys h =
    ap (λ f. if is_some f then None else Some (path_keys t)) (no_fault t path (path_fault t) h)
    ∙ ap Some (sym keys)

pub denied_read : (text : Option (Bor (List ℕ))) (t : Bor (List ℕ)) (path : Path) → text ≡ Some t
    → path ≡ path_keys t.now
    → IfSome (path_fault t.now) (λ e. ◌≡◌ {A = Result Path TreeError} (Ok path) (Err e))
    → denied_of (option_map (λ b. b.now) text) ≡ Some (Some path)
denied_read text t path is keys h =
    ap (λ o. denied_of (option_map (λ b. b.now) o)) is
    ∙ ap (λ f. if is_some f then None else Some (Some (path_keys t.now))) (no_fault t.now path (path_fault t.now) h)
    ∙ ap (λ p. Some (Some p)) (sym keys)

-- ---- the entries of serve

abbrev made : List Row → PathTree → Option Path → Serving
made rows tree denied = record {
  port = number_of (one_of (codes "PORT") rows);
  count = number_of (one_of (codes "count") rows);
  tree = tree;
  denied = denied;
}

pub no_tree : (rows : List Row) → tree_of (first_of (codes "tree") rows) ≡ None → serving_of rows ≡ None
no_tree rows e =
    ap (option_and_then (λ tree. option_map (made rows tree) (denied_of (first_of (codes "deny") rows)))) e

pub no_path : (rows : List Row) (tree : PathTree) → tree_of (first_of (codes "tree") rows) ≡ Some tree
    → denied_of (first_of (codes "deny") rows) ≡ None → serving_of rows ≡ None
no_path rows tree e f =
    ap (option_and_then (λ tree. option_map (made rows tree) (denied_of (first_of (codes "deny") rows)))) e
    ∙ ap (option_map (made rows tree)) f

abbrev some_serving : ℕ → ℕ → PathTree → Option Path → Option Serving
some_serving port count tree denied =
    Some (record { port = port; count = count; tree = tree; denied = denied })

pub served_by : (rows : List Row) (port count : ℕ) (tree : PathTree) (denied : Option Path)
    → port ≡ number_of (one_of (codes "PORT") rows) → count ≡ number_of (one_of (codes "count") rows)
    → tree_of (first_of (codes "tree") rows) ≡ Some tree
    → denied_of (first_of (codes "deny") rows) ≡ Some denied
    → serving_of rows ≡ some_serving port count tree denied
served_by rows port count tree denied p n e f =
    ap (option_and_then (λ tree. option_map (made rows tree) (denied_of (first_of (codes "deny") rows)))) e
    ∙ ap (option_map (made rows tree)) f
    ∙ ap₂ (λ (a b : ℕ). some_serving a b tree denied) (sym p) (sym n)

-- ---- the entries of emulate

abbrev asked_of : IpAddr → List Row → PathTree → List Path → List (List ℕ) → Emulation
asked_of host rows tree denied origins = record {
  host = host;
  port = number_of (one_of (codes "PORT") rows);
  count = count_of (number_of (one_of (codes "count") rows));
  tree = tree;
  seed = first_of (codes "seed") rows;
  file = first_of (codes "file") rows;
  is_synced = flag_of (one_of (codes "sync") rows);
  denied = denied;
  origins = origins;
  public = first_of (codes "public") rows;
  page = first_of (codes "page") rows;
}

-- the origins, and behind them all that is asked for
abbrev behind_paths : IpAddr → List Row → PathTree → List Path → Option Emulation
behind_paths host rows tree denied =
    option_map (asked_of host rows tree denied) (origins_of (all_texts (codes "origin") rows))

pub asked_by : (host : IpAddr) (rows : List Row) (port : ℕ) (count : Option ℕ) (tree : PathTree)
    (seed file public page : Option (List ℕ)) (is_synced : Bool) (denied : List Path) (origins : List (List ℕ))
    → port ≡ number_of (one_of (codes "PORT") rows)
    → count ≡ count_of (number_of (one_of (codes "count") rows))
    → tree_of (first_of (codes "tree") rows) ≡ Some tree → seed ≡ first_of (codes "seed") rows
    → file ≡ first_of (codes "file") rows → public ≡ first_of (codes "public") rows
    → page ≡ first_of (codes "page") rows
    → is_synced ≡ flag_of (one_of (codes "sync") rows)
    → paths_of (all_texts (codes "deny") rows) ≡ Some denied
    → origins_of (all_texts (codes "origin") rows) ≡ Some origins
    → ◌≡◌ {A = Option Emulation} (emulation_of host rows) (Some (record {
      host = host;
      port = port;
      count = count;
      tree = tree;
      seed = seed;
      file = file;
      is_synced = is_synced;
      denied = denied;
      origins = origins;
      public = public;
      page = page;
    }))
asked_by host rows port count tree seed file public page is_synced denied origins p n t e f b g s d o =
    rw (p, n, e, f, b, g, s)
    (ap (option_and_then (λ tree. option_and_then (behind_paths host rows tree)
    (paths_of (all_texts (codes "deny") rows)))) t
    ∙ ap (option_and_then (behind_paths host rows tree)) d
    ∙ ap (option_map (asked_of host rows tree denied)) o)

-- what `emulate` asks for, behind its level and its address
abbrev pub served_with : List Row → Level → IpAddr → Option Work
served_with rows level host =
    option_map (λ e. Emulate e (flag_of (one_of (codes "until-eof") rows)) level) (emulation_of host rows)

abbrev pub served_at : List Row → Level → Option Work
served_at rows level = option_and_then (served_with rows level) (host_of (first_of (codes "host") rows))

-- ---- the subcommand

same : (a b : List ℕ) → bytes_eq a b ≡ true → a ≡ b
same a b e = (bytes_eq-Decides a b).0 e

module _ {Z : Type 0} where
  named_in : (o : Option (Box SubCommand Z)) (name : List ℕ) (rows : List Row)
      → option_map (λ b. (out-SubCommand (box_value b)).name.now) o ≡ Some name
      → option_map (λ p. p.1) (subcommand_rows o) ≡ Some rows → subcommand_rows o ≡ Some (name, rows)
  named_in None name rows e f = cc
  named_in (Some b) name rows e f = cc

  live_in : (o : Option (Box SubCommand Z))
      → (option_map (λ b. (out-SubCommand (box_value b)).name.now) o ≡ Some (codes "serve") → ⊥)
      → work_of (subcommand_rows o) ≡ live_of (subcommand_rows o)
  live_in None h = refl
  live_in (Some b) h =
      let name : List ℕ = (out-SubCommand (box_value b)).name.now in
      let rows : List Row = rows_of (found_of (out-SubCommand (box_value b)).matches) in
      elim (bytes_eq name (codes "serve")) as (λ t. bytes_eq name (codes "serve") ≡ t
      → (if t then option_map Serve (serving_of rows) else live_of (Some (name, rows)))
      ≡ live_of (Some (name, rows))) [
        | true ↦ λ e. absurd (h (ap Some (same name (codes "serve") e)))
        | false ↦ λ e. refl
      ] refl

  other_in : (o : Option (Box SubCommand Z))
      → (option_map (λ b. (out-SubCommand (box_value b)).name.now) o ≡ Some (codes "emulate") → ⊥)
      → live_of (subcommand_rows o) ≡ Some (other_of (subcommand_rows o))
  other_in None h = refl
  other_in (Some b) h =
      let name : List ℕ = (out-SubCommand (box_value b)).name.now in
      let rows : List Row = rows_of (found_of (out-SubCommand (box_value b)).matches) in
      elim (bytes_eq name (codes "emulate")) as (λ t. bytes_eq name (codes "emulate") ≡ t
      → (if t then served_of rows else Some (other_of (Some (name, rows))))
      ≡ Some (other_of (Some (name, rows)))) [
        | true ↦ λ e. absurd (h (ap Some (same name (codes "emulate") e)))
        | false ↦ λ e. refl
      ] refl

  watch_in : (o : Option (Box SubCommand Z))
      → (option_map (λ b. (out-SubCommand (box_value b)).name.now) o ≡ Some (codes "connect") → ⊥)
      → other_of (subcommand_rows o) ≡ watch_of (subcommand_rows o)
  watch_in None h = refl
  watch_in (Some b) h =
      let name : List ℕ = (out-SubCommand (box_value b)).name.now in
      let rows : List Row = rows_of (found_of (out-SubCommand (box_value b)).matches) in
      elim (bytes_eq name (codes "connect")) as (λ t. bytes_eq name (codes "connect") ≡ t
      → (if t then Connect (number_of (one_of (codes "PORT") rows)) else watch_of (Some (name, rows)))
      ≡ watch_of (Some (name, rows))) [
        | true ↦ λ e. absurd (h (ap Some (same name (codes "connect") e)))
        | false ↦ λ e. refl
      ] refl

  script_in : (o : Option (Box SubCommand Z))
      → (option_map (λ b. (out-SubCommand (box_value b)).name.now) o ≡ Some (codes "watch") → ⊥)
      → watch_of (subcommand_rows o) ≡ Script
  script_in None h = refl
  script_in (Some b) h =
      let name : List ℕ = (out-SubCommand (box_value b)).name.now in
      let rows : List Row = rows_of (found_of (out-SubCommand (box_value b)).matches) in
      elim (bytes_eq name (codes "watch")) as (λ t. bytes_eq name (codes "watch") ≡ t
      → (if t then watching_of rows else Script) ≡ Script) [
        | true ↦ λ e. absurd (h (ap Some (same name (codes "watch") e)))
        | false ↦ λ e. refl
      ] refl

pub entered : (m : ArgMatches) (name : List ℕ) (rows : List Row) → subcommand_name_of m ≡ Some name
    → option_map (λ p. p.1) (subcommand_rows_of m) ≡ Some rows → subcommand_rows_of m ≡ Some (name, rows)
entered m name rows e f = named_in (out-ArgMatches m).subcommand name rows e f

pub live_entered : (m : ArgMatches) → (subcommand_name_of m ≡ Some (codes "serve") → ⊥)
    → work_of (subcommand_rows_of m) ≡ live_of (subcommand_rows_of m)
live_entered m h = live_in (out-ArgMatches m).subcommand h

pub other_live : (m : ArgMatches) → (subcommand_name_of m ≡ Some (codes "emulate") → ⊥)
    → live_of (subcommand_rows_of m) ≡ Some (other_of (subcommand_rows_of m))
other_live m h = other_in (out-ArgMatches m).subcommand h

pub watch_entered : (m : ArgMatches) → (subcommand_name_of m ≡ Some (codes "connect") → ⊥)
    → other_of (subcommand_rows_of m) ≡ watch_of (subcommand_rows_of m)
watch_entered m h = watch_in (out-ArgMatches m).subcommand h

pub script_entered : (m : ArgMatches) → (subcommand_name_of m ≡ Some (codes "watch") → ⊥)
    → watch_of (subcommand_rows_of m) ≡ Script
script_entered m h = script_in (out-ArgMatches m).subcommand h
