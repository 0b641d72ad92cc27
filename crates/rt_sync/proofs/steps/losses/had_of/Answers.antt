use Rattle.std.proofs.Common.{◌≡◌, ◌&&◌, List, length, rules, ap, sym, ◌∙◌, IfOk, Result, Ok, Err}
use Rattle.rt_query.specs.Queries.{Query}
use Rattle.rt_sync.specs.inside.Moving.{is_lent, is_of_path}
use Rattle.rt_sync.proofs.MovingLaws.{of_path_supplied, one_of_paths, one_supplied}
use Rattle.rt_sync.proofs.steps.losses.had_of.Goals as goal

if_ok : {X E : Type 0} {P Q : X → Type 0} (r : Result X E) → IfOk r P → ((x : X) → P x → Q x) → IfOk r Q
if_ok (Ok x) p f = f x p
if_ok (Err e) p f = p

pub returns-then-len-eq1-clause-only : goal.returns-then-len-eq1-clause-only
returns-then-len-eq1-clause-only c =
    let fs : List Query = c.args.forms.items in
    let long : length fs ≡ 1 = search rules in
    if_ok c.had_supplied.result c.had_supplied.ensures.those (λ had those q e. one_of_paths c.args.brought.now (c.args.listeners.now).listeners fs _ q long (search rules) (sym (those q) ∙ e))

pub returns-then-len-eq1-clause-all : goal.returns-then-len-eq1-clause-all
returns-then-len-eq1-clause-all c =
    let fs : List Query = c.args.forms.items in
    let long : length fs ≡ 1 = search rules in
    if_ok c.had_supplied.result c.had_supplied.ensures.those (λ had those q e. those q ∙ one_supplied c.args.brought.now (c.args.listeners.now).listeners fs _ q long (search rules) e)

pub returns-clause-only : goal.returns-clause-only
returns-clause-only c =
    let lent : c.deref.result.now ≡ c.take_one_of_each_path.new.forms.items = c.deref.ensures.value in
    if_ok c.had_at.result c.had_at.ensures.those (λ had those q e.
    let one : is_of_path c.deref.result.now q.path ≡ is_of_path c.args.forms.items q.path = ap (λ fs. is_of_path fs q.path) lent ∙ c.take_one_of_each_path.ensures q.path in
    ap (λ b. b && is_lent c.args.brought.now (c.args.listeners.now).listeners q) (sym one) ∙ sym (those q) ∙ e)

pub returns-clause-all : goal.returns-clause-all
returns-clause-all c =
    let lent : c.deref.result.now ≡ c.take_one_of_each_path.new.forms.items = c.deref.ensures.value in
    if_ok c.had_at.result c.had_at.ensures.those (λ had those q e.
    let one : is_of_path c.deref.result.now q.path ≡ is_of_path c.args.forms.items q.path = ap (λ fs. is_of_path fs q.path) lent ∙ c.take_one_of_each_path.ensures q.path in
    those q ∙ ap (λ b. b && is_lent c.args.brought.now (c.args.listeners.now).listeners q) one ∙ of_path_supplied c.args.forms.items q (is_lent c.args.brought.now (c.args.listeners.now).listeners q) e)
