-- Each step comes nearer to the end and keeps all ids of the bank.
use Rattle.std.proofs.Common.{◌≡◌, ℕ, zero, suc, option_map, ◌+◌, ◌≤◌, List, [], ◌∷◌, ◌++◌, length, map, Option, Some, None, slice_get, refl, sym, ap, subst, subst₂, ◌∙◌, arith}
use Rattle.std.proofs.lemmas.Option.{slice_get-map}
use Rattle.law_sig.specs.Lists.{Each}
use Rattle.law_sig.specs.Bodies.{body_nodes}
use Rattle.law_sig.specs.Signature.{symbol_at}
use Rattle.law_sig.specs.Evaluate.{chosen}
use Rattle.law_sig.specs.Relation.{Gives}
use Rattle.law_sig.specs.Relation.Gives.{field, param}
use Rattle.law_sig.specs.declared.tree.SymId.{SymId}
use Rattle.law_sig.specs.declared.tree.Tree.{Tree}
use Rattle.law_sig.specs.declared.tree.Tree.TheVariants.{App}
use Rattle.law_sig.specs.declared.tree.Body.{Body}
use Rattle.law_sig.specs.declared.tree.Body.TheOpen as b
use Rattle.law_sig.specs.declared.tree.Body.TheViews.{out-Body}
use Rattle.law_sig.specs.declared.parts.Con.{Con}
use Rattle.law_sig.specs.declared.parts.Fun.{Fun}
use Rattle.law_sig.specs.declared.parts.Sym.TheVariants as sym_is
use Rattle.law_sig.specs.declared.parts.SigParts.{SigParts}
use Rattle.law_ids.specs.declared.ids.ValueId.{ValueId}
use Rattle.law_ids.specs.Values.{IsOf, AreOf, tree_of, trees_of, fields_of, Grows}
use Rattle.law_ids.proofs.BankFacts.{tree_stays, id_stays, trees_stay, ids_stay, held_more, trees_more}
use Rattle.law_eval.specs.Work.{Todo, Running, Ids, spread_out, IsAdded, IsFirst, IsTaken, IsLeft, IsSpread}
use Rattle.law_eval.specs.Work.Todo.{eval, each, build, apply, leave}
use Rattle.law_eval.specs.Runs.{matched_fields, named_of, seen, Steps}
use Rattle.law_eval.specs.Took.{IsMatchedOf, IsFrameOf, IsSound, on_top, IsBuilt, IsChosen, Took}
use Rattle.law_eval.proofs.Tops.{same_ids}
use Rattle.law_eval.proofs.Parts.{field_parts, param_parts}
use Rattle.law_eval.proofs.BodyFacts.{nodes-Make, nodes-Call, some_nodes}
use Rattle.law_eval.proofs.StepFacts.{state, value_step, make_step, call_step, none_step, more_step, build_step, con_step, enter_step, leave_step}

abbrev pub ids : List Todo → List (List ValueId) → List Running → ℕ → Ids
ids tasks rows frames left = record { tasks = tasks; rows = rows; frames = frames; left = left }

-- between equal states
pub took_by : (parts : SigParts) (bank bank' : List Tree) {s s' t t' : Ids} → s ≡ s' → t ≡ t' → Took parts bank bank' s' t' → Took parts bank bank' s t
took_by parts bank bank' e k took = subst₂ (λ a c. Took parts bank bank' a c) (sym e) (sym k) took

-- A bank that has grown

pub rows_stay : (bank more : List Tree) (rows : List (List ValueId)) → Each (AreOf bank) rows → map (trees_of (bank ++ more)) rows ≡ map (trees_of bank) rows
rows_stay bank more [] held = refl
rows_stay bank more (row ∷ rows) held = cc (trees_stay bank more row held.0, rows_stay bank more rows held.1)

pub rows_held : (bank more : List Tree) (rows : List (List ValueId)) → Each (AreOf bank) rows → Each (AreOf (bank ++ more)) rows
rows_held bank more [] held = tt
rows_held bank more (row ∷ rows) held = (ids_stay bank more row held.0, rows_held bank more rows held.1)

matched_stays : (bank more : List Tree) (matched : Option ValueId) → IsMatchedOf bank matched → matched_fields (bank ++ more) matched ≡ matched_fields bank matched
matched_stays bank more None held = refl
matched_stays bank more (Some v) held = ap fields_of (tree_stays bank more v held)

matched_held : (bank more : List Tree) (matched : Option ValueId) → IsMatchedOf bank matched → IsMatchedOf (bank ++ more) matched
matched_held bank more None held = tt
matched_held bank more (Some v) held = id_stays bank more v held

pub frames_stay : (bank more : List Tree) (frames : List Running) → Each (IsFrameOf bank) frames → map (named_of (bank ++ more)) frames ≡ map (named_of bank) frames
frames_stay bank more [] held = refl
frames_stay bank more (frame ∷ frames) held =
    let m = matched_stays bank more frame.matched held.0.matched in
    let p = trees_stay bank more frame.params held.0.params in
    let first : named_of (bank ++ more) frame ≡ named_of bank frame = λ i. record { fields = m i; params = p i } in
    cc (first, frames_stay bank more frames held.1)

pub frames_held : (bank more : List Tree) (frames : List Running) → Each (IsFrameOf bank) frames → Each (IsFrameOf (bank ++ more)) frames
frames_held bank more [] held = tt
frames_held bank more (frame ∷ frames) held =
    (record { matched = matched_held bank more frame.matched held.0.matched; params = ids_stay bank more frame.params held.0.params }, frames_held bank more frames held.1)

length_trees : (bank : List Tree) (row : List ValueId) → length (trees_of bank row) ≡ length row
length_trees bank [] = refl
length_trees bank (v ∷ row) = ap suc (length_trees bank row)

-- The steps

-- a value at no cost
pub value_took : (parts : SigParts) (bank : List Tree) (tasks : List Todo) (row : List ValueId) (rows : List (List ValueId)) (frame : Running) (frames : List Running) (left : ℕ)
    (body : Body) (v : ValueId) → Gives parts (named_of bank frame) body (tree_of bank v) 0
    → ((w : Tree) (c : ℕ) → Gives parts (named_of bank frame) body w c → (w ≡ tree_of bank v) × (c ≡ 0)) → IsOf bank v
    → IsSound bank (ids (eval body ∷ tasks) (row ∷ rows) (frame ∷ frames) left)
    → Took parts bank bank (ids (eval body ∷ tasks) (row ∷ rows) (frame ∷ frames) left) (ids tasks ((row ++ v ∷ []) ∷ rows) (frame ∷ frames) left)
value_took parts bank tasks row rows frame frames left body v gives only held sound = record {
  steps = subst (λ r. Steps parts (seen bank (ids (eval body ∷ tasks) (row ∷ rows) (frame ∷ frames) left))
      (state tasks (r ∷ map (trees_of bank) rows) (map (named_of bank) (frame ∷ frames)) left)) (sym (trees_more bank row v))
      (value_step parts tasks (trees_of bank row) (map (trees_of bank) rows) (named_of bank frame) (map (named_of bank) frames) left body (tree_of bank v) gives only);
  falls = omega (arith, some_nodes body);
  sound = record { tasks = sound.tasks.1; rows = (held_more bank row v sound.rows.0 held, sound.rows.1); frames = sound.frames };
}

pub make_took : (parts : SigParts) (bank : List Tree) (tasks : List Todo) (rows : List (List ValueId)) (frames : List Running) (left : ℕ) (body : Body) (f : SymId) (args : List Body)
    → out-Body body ≡ b.Make f args → IsSound bank (ids (eval body ∷ tasks) rows frames left)
    → Took parts bank bank (ids (eval body ∷ tasks) rows frames left) (ids (each args ∷ build f (length args) ∷ tasks) ([] ∷ rows) frames left)
make_took parts bank tasks rows frames left body f args o sound = record {
  steps = make_step parts tasks (map (trees_of bank) rows) (map (named_of bank) frames) left body f args o;
  falls = omega (arith, nodes-Make body f args o);
  sound = record { tasks = ((omega (arith, nodes-Make body f args o, sound.tasks.0)), (tt, sound.tasks.1)); rows = (tt, sound.rows); frames = sound.frames };
}

pub call_took : (parts : SigParts) (bank : List Tree) (tasks : List Todo) (rows : List (List ValueId)) (frames : List Running) (left : ℕ) (body : Body) (f : SymId) (args : List Body)
    → out-Body body ≡ b.Call f args → IsSound bank (ids (eval body ∷ tasks) rows frames left)
    → Took parts bank bank (ids (eval body ∷ tasks) rows frames left) (ids (each args ∷ apply f (length args) ∷ tasks) ([] ∷ rows) frames left)
call_took parts bank tasks rows frames left body f args o sound = record {
  steps = call_step parts tasks (map (trees_of bank) rows) (map (named_of bank) frames) left body f args o;
  falls = omega (arith, nodes-Call body f args o);
  sound = record { tasks = ((omega (arith, nodes-Call body f args o, sound.tasks.0)), (tt, sound.tasks.1)); rows = (tt, sound.rows); frames = sound.frames };
}

pub spread_took : (parts : SigParts) (bank : List Tree) (tasks : List Todo) (row : List ValueId) (rows : List (List ValueId)) (frame : Running) (frames : List Running) (left : ℕ)
    (bodies : List Body) → IsSound bank (ids (each bodies ∷ tasks) (row ∷ rows) (frame ∷ frames) left)
    → Took parts bank bank (ids (each bodies ∷ tasks) (row ∷ rows) (frame ∷ frames) left) (ids (spread_out bodies tasks) (row ∷ rows) (frame ∷ frames) left)
spread_took parts bank tasks row rows frame frames left [] sound = record {
  steps = none_step parts tasks (trees_of bank row) (map (trees_of bank) rows) (named_of bank frame) (map (named_of bank) frames) left;
  falls = omega arith;
  sound = record { tasks = sound.tasks.1; rows = sound.rows; frames = sound.frames };
}
spread_took parts bank tasks row rows frame frames left (body ∷ bodies) sound = record {
  steps = more_step parts tasks (trees_of bank row) (map (trees_of bank) rows) (named_of bank frame) (map (named_of bank) frames) left body bodies;
  falls = omega (arith, some_nodes body);
  sound = record { tasks = ((omega (arith, sound.tasks.0)), ((omega (arith, sound.tasks.0)), sound.tasks.1)); rows = sound.rows; frames = sound.frames };
}

-- a row goes and the one below it gets what is made of it, in a bank that may have grown
row_seen : (bank more : List Tree) (tasks : List Todo) (row below : List ValueId) (rows : List (List ValueId)) (frames : List Running) (left : ℕ) (task : Todo) (f : SymId) (v : ValueId)
    → IsSound bank (ids (task ∷ tasks) (row ∷ below ∷ rows) frames (left + 1)) → tree_of (bank ++ more) v ≡ App f (trees_of bank row)
    → state tasks ((trees_of bank below ++ App f (trees_of bank row) ∷ []) ∷ map (trees_of bank) rows) (map (named_of bank) frames) left
    ≡ seen (bank ++ more) (ids tasks ((below ++ v ∷ []) ∷ rows) frames left)
row_seen bank more tasks row below rows frames left task f v sound tree =
    let first : trees_of (bank ++ more) (below ++ v ∷ []) ≡ trees_of bank below ++ App f (trees_of bank row) ∷ [] =
    trees_more (bank ++ more) below v ∙ ap (λ l. l ++ tree_of (bank ++ more) v ∷ []) (trees_stay bank more below sound.rows.1.0)
    ∙ ap (λ t. trees_of bank below ++ t ∷ []) tree in
    let others = rows_stay bank more rows sound.rows.1.1 in
    let names = frames_stay bank more frames sound.frames in
    λ i. state tasks (sym first i ∷ sym others i) (sym names i) left

row_sound : (bank more : List Tree) (tasks : List Todo) (row below : List ValueId) (rows : List (List ValueId)) (frames : List Running) (left : ℕ) (task : Todo) (v : ValueId)
    → IsSound bank (ids (task ∷ tasks) (row ∷ below ∷ rows) frames (left + 1)) → IsOf (bank ++ more) v → IsSound (bank ++ more) (ids tasks ((below ++ v ∷ []) ∷ rows) frames left)
row_sound bank more tasks row below rows frames left task v sound held = record {
  tasks = sound.tasks.1;
  rows = (held_more (bank ++ more) below v (ids_stay bank more below sound.rows.1.0) held, rows_held bank more rows sound.rows.1.1);
  frames = frames_held bank more frames sound.frames;
}

pub build_took : (parts : SigParts) (bank more : List Tree) (tasks : List Todo) (row below : List ValueId) (rows : List (List ValueId)) (frames : List Running) (left : ℕ) (f : SymId) (count : ℕ)
    (v : ValueId) → length row ≡ count → IsOf (bank ++ more) v → tree_of (bank ++ more) v ≡ App f (trees_of bank row)
    → IsSound bank (ids (build f count ∷ tasks) (row ∷ below ∷ rows) frames (left + 1))
    → Took parts bank (bank ++ more) (ids (build f count ∷ tasks) (row ∷ below ∷ rows) frames (left + 1)) (ids tasks ((below ++ v ∷ []) ∷ rows) frames left)
build_took parts bank more tasks row below rows frames left f count v fits held tree sound = record {
  steps = subst (Steps parts (seen bank (ids (build f count ∷ tasks) (row ∷ below ∷ rows) frames (left + 1)))) (row_seen bank more tasks row below rows frames left (build f count) f v sound tree)
      (build_step parts tasks (trees_of bank row) (trees_of bank below) (map (trees_of bank) rows) (map (named_of bank) frames) left f count (length_trees bank row ∙ fits));
  falls = omega arith;
  sound = row_sound bank more tasks row below rows frames left (build f count) v sound held;
}

pub con_took : (parts : SigParts) (bank more : List Tree) (tasks : List Todo) (row below : List ValueId) (rows : List (List ValueId)) (frames : List Running) (left : ℕ) (f : SymId) (count : ℕ) (con : Con)
    (v : ValueId) → symbol_at parts f ≡ Some (sym_is.Con con) → length row ≡ count → IsOf (bank ++ more) v → tree_of (bank ++ more) v ≡ App f (trees_of bank row)
    → IsSound bank (ids (apply f count ∷ tasks) (row ∷ below ∷ rows) frames (left + 1))
    → Took parts bank (bank ++ more) (ids (apply f count ∷ tasks) (row ∷ below ∷ rows) frames (left + 1)) (ids tasks ((below ++ v ∷ []) ∷ rows) frames left)
con_took parts bank more tasks row below rows frames left f count con v declared fits held tree sound = record {
  steps = subst (Steps parts (seen bank (ids (apply f count ∷ tasks) (row ∷ below ∷ rows) frames (left + 1)))) (row_seen bank more tasks row below rows frames left (apply f count) f v sound tree)
      (con_step parts tasks (trees_of bank row) (trees_of bank below) (map (trees_of bank) rows) (map (named_of bank) frames) left f count con declared (length_trees bank row ∙ fits));
  falls = omega arith;
  sound = row_sound bank more tasks row below rows frames left (apply f count) v sound held;
}

pub enter_took : (parts : SigParts) (bank : List Tree) (tasks : List Todo) (row : List ValueId) (rows : List (List ValueId)) (frames : List Running) (left : ℕ) (f : SymId) (count : ℕ) (fun : Fun)
    (body : Body) (matched : Option ValueId) → symbol_at parts f ≡ Some (sym_is.Fun fun) → chosen parts fun (trees_of bank row) ≡ Some (record { body = body; fields = matched_fields bank matched })
    → length row ≡ count → body_nodes body ≤ 4096 → IsMatchedOf bank matched → IsSound bank (ids (apply f count ∷ tasks) (row ∷ rows) frames (left + 1))
    → Took parts bank bank (ids (apply f count ∷ tasks) (row ∷ rows) frames (left + 1))
    (ids (eval body ∷ leave ∷ tasks) rows (record { matched = matched; params = row } ∷ frames) left)
enter_took parts bank tasks row rows frames left f count fun body matched declared is fits small held sound = record {
  steps = enter_step parts tasks (trees_of bank row) (map (trees_of bank) rows) (map (named_of bank) frames) left f count fun (record { body = body; fields = matched_fields bank matched }) declared is
      (length_trees bank row ∙ fits);
  falls = omega arith;
  sound = record { tasks = (small, (tt, sound.tasks.1)); rows = sound.rows.1; frames = (record { matched = held; params = sound.rows.0 }, sound.frames) };
}

pub leave_took : (parts : SigParts) (bank : List Tree) (tasks : List Todo) (rows : List (List ValueId)) (frame : Running) (frames : List Running) (left : ℕ)
    → IsSound bank (ids (leave ∷ tasks) rows (frame ∷ frames) left)
    → Took parts bank bank (ids (leave ∷ tasks) rows (frame ∷ frames) left) (ids tasks rows frames left)
leave_took parts bank tasks rows frame frames left sound = record {
  steps = leave_step parts tasks (map (trees_of bank) rows) (named_of bank frame) (map (named_of bank) frames) left;
  falls = omega arith;
  sound = record { tasks = sound.tasks.1; rows = sound.rows; frames = sound.frames.1 };
}

some_tree : (x y : Tree) → ◌≡◌ {A = Option Tree} (Some x) (Some y) → x ≡ y
some_tree x y e = cc

held_at : (bank : List Tree) (params : List ValueId) (at : ℕ) (v : ValueId) → slice_get params at ≡ Some v → AreOf bank params → IsOf bank v
held_at bank [] at v e held = cc
held_at bank (p ∷ params) zero v e held = let is : p ≡ v = cc in subst (IsOf bank) is held.0
held_at bank (p ∷ params) (suc n) v e held = held_at bank params n v e held.1

-- The steps, by what the calls that make them say

pub field_took : (parts : SigParts) (bank : List Tree) (body : Body) (number : ℕ) (old new : Ids) (v : ValueId) → out-Body body ≡ b.Field number
    → (frame : Running) × IsFirst old.frames frame × (slice_get (matched_fields bank frame.matched) number ≡ Some (tree_of bank v)) → IsOf bank v → IsAdded old v new
    → IsSound bank (on_top (eval body) old) → Took parts bank bank (on_top (eval body) old) new
field_took parts bank body number old new v o found held added sound =
    let before : on_top (eval body) old ≡ ids (eval body ∷ old.tasks) (added.row ∷ added.rows) (found.0 ∷ found.1.others) old.left = same_ids refl added.before found.1.is refl in
    let after : new ≡ ids old.tasks ((added.row ++ v ∷ []) ∷ added.rows) (found.0 ∷ found.1.others) old.left = added.after ∙ same_ids refl refl found.1.is refl in
    took_by parts bank bank before after
    (value_took parts bank old.tasks added.row added.rows found.0 found.1.others old.left body v
    (field (named_of bank found.0) body (tree_of bank v) 0 number o found.2 refl)
    (λ w c gives. let is = field_parts parts number o gives in (some_tree w (tree_of bank v) (sym is.0 ∙ found.2), is.1))
    held (subst (IsSound bank) before sound))

pub param_took : (parts : SigParts) (bank : List Tree) (body : Body) (number : ℕ) (old new : Ids) (v : ValueId) → out-Body body ≡ b.Param number
    → (frame : Running) × IsFirst old.frames frame × (slice_get frame.params number ≡ Some v) → IsAdded old v new
    → IsSound bank (on_top (eval body) old) → Took parts bank bank (on_top (eval body) old) new
param_took parts bank body number old new v o found added sound =
    let before : on_top (eval body) old ≡ ids (eval body ∷ old.tasks) (added.row ∷ added.rows) (found.0 ∷ found.1.others) old.left = same_ids refl added.before found.1.is refl in
    let after : new ≡ ids old.tasks ((added.row ++ v ∷ []) ∷ added.rows) (found.0 ∷ found.1.others) old.left = added.after ∙ same_ids refl refl found.1.is refl in
    let sound' = subst (IsSound bank) before sound in
    let tree : slice_get (trees_of bank found.0.params) number ≡ Some (tree_of bank v) = slice_get-map (tree_of bank) found.0.params number ∙ ap (option_map (tree_of bank)) found.2 in
    took_by parts bank bank before after
    (value_took parts bank old.tasks added.row added.rows found.0 found.1.others old.left body v
    (param (named_of bank found.0) body (tree_of bank v) 0 number o tree refl)
    (λ w c gives. let is = param_parts parts number o gives in (some_tree w (tree_of bank v) (sym is.0 ∙ tree), is.1))
    (held_at bank found.0.params number v found.2 sound'.frames.0.params) sound')

pub built_took : (parts : SigParts) (bank bank' : List Tree) (f : SymId) (count : ℕ) (old new : Ids) → IsBuilt bank bank' old f count new → Grows bank bank'
    → IsSound bank (on_top (build f count) old) → Took parts bank bank' (on_top (build f count) old) new
built_took parts bank bank' f count old new built grows sound =
    let before : on_top (build f count) old ≡ ids (build f count ∷ old.tasks) (built.row ∷ built.below ∷ built.rows) old.frames (built.left + 1) = same_ids refl built.before refl built.pays in
    took_by parts bank bank' before built.after
    (subst (λ (l : List Tree). Took parts bank l (ids (build f count ∷ old.tasks) (built.row ∷ built.below ∷ built.rows) old.frames (built.left + 1))
    (ids old.tasks ((built.below ++ built.value ∷ []) ∷ built.rows) old.frames built.left)) (sym grows.1)
    (build_took parts bank grows.0 old.tasks built.row built.below built.rows old.frames built.left f count built.value built.fits
    (subst (λ (l : List Tree). IsOf l built.value) grows.1 built.of_bank) (ap (λ (l : List Tree). tree_of l built.value) (sym grows.1) ∙ built.tree)
    (subst (IsSound bank) before sound)))

pub applied_took : (parts : SigParts) (bank bank' : List Tree) (f : SymId) (count : ℕ) (con : Con) (old new : Ids) → symbol_at parts f ≡ Some (sym_is.Con con)
    → IsBuilt bank bank' old f count new → Grows bank bank' → IsSound bank (on_top (apply f count) old) → Took parts bank bank' (on_top (apply f count) old) new
applied_took parts bank bank' f count con old new declared built grows sound =
    let before : on_top (apply f count) old ≡ ids (apply f count ∷ old.tasks) (built.row ∷ built.below ∷ built.rows) old.frames (built.left + 1) = same_ids refl built.before refl built.pays in
    took_by parts bank bank' before built.after
    (subst (λ (l : List Tree). Took parts bank l (ids (apply f count ∷ old.tasks) (built.row ∷ built.below ∷ built.rows) old.frames (built.left + 1))
    (ids old.tasks ((built.below ++ built.value ∷ []) ∷ built.rows) old.frames built.left)) (sym grows.1)
    (con_took parts bank grows.0 old.tasks built.row built.below built.rows old.frames built.left f count con built.value declared built.fits
    (subst (λ (l : List Tree). IsOf l built.value) grows.1 built.of_bank) (ap (λ (l : List Tree). tree_of l built.value) (sym grows.1) ∙ built.tree)
    (subst (IsSound bank) before sound)))

pub began_took : (parts : SigParts) (bank : List Tree) (f : SymId) (count : ℕ) (fun : Fun) (old taken paid new : Ids) (row : List ValueId) (body : Body) (matched : Option ValueId)
    → symbol_at parts f ≡ Some (sym_is.Fun fun) → IsTaken old row count taken → taken ≡ record paid { left = paid.left + 1 } → IsChosen parts bank fun row body matched → body_nodes body ≤ 4096
    → new ≡ record paid { tasks = eval body ∷ leave ∷ paid.tasks; frames = record { matched = matched; params = row } ∷ paid.frames }
    → IsSound bank (on_top (apply f count) old) → Took parts bank bank (on_top (apply f count) old) new
began_took parts bank f count fun old taken paid new row body matched declared took pays choice small after sound =
    let was : old ≡ ids paid.tasks (row ∷ paid.rows) paid.frames (paid.left + 1) = took.before ∙ ap (λ (i : Ids). record i { rows = row ∷ i.rows }) pays in
    let before : on_top (apply f count) old ≡ ids (apply f count ∷ paid.tasks) (row ∷ paid.rows) paid.frames (paid.left + 1) = ap (on_top (apply f count)) was in
    took_by parts bank bank before after
    (enter_took parts bank paid.tasks row paid.rows paid.frames paid.left f count fun body matched declared choice.is took.fits small choice.of_bank (subst (IsSound bank) before sound))

pub spread_taken : (parts : SigParts) (bank : List Tree) (bodies : List Body) (old new : Ids) → IsSpread old bodies new → IsSound bank (on_top (each bodies) old)
    → Took parts bank bank (on_top (each bodies) old) new
spread_taken parts bank bodies old new spread sound =
    let before : on_top (each bodies) old ≡ ids (each bodies ∷ old.tasks) (spread.row ∷ spread.rows) (spread.frame ∷ spread.frames) old.left = same_ids refl spread.has_row spread.has_frame refl in
    let after : new ≡ ids (spread_out bodies old.tasks) (spread.row ∷ spread.rows) (spread.frame ∷ spread.frames) old.left = spread.after ∙ same_ids refl spread.has_row spread.has_frame refl in
    took_by parts bank bank before after
    (spread_took parts bank old.tasks spread.row spread.rows spread.frame spread.frames old.left bodies (subst (IsSound bank) before sound))

pub left_took : (parts : SigParts) (bank : List Tree) (old new : Ids) → IsLeft old new → IsSound bank (on_top leave old) → Took parts bank bank (on_top leave old) new
left_took parts bank old new left sound =
    let before : on_top leave old ≡ ids (leave ∷ new.tasks) new.rows (left.frame ∷ new.frames) new.left = ap (on_top leave) left.before in
    took_by parts bank bank before refl
    (leave_took parts bank new.tasks new.rows left.frame new.frames new.left (subst (IsSound bank) before sound))
