-- Induction on the bodies of functions, and what the parts of an evaluation that succeeds give.
use Rattle.std.proofs.Common.{◌≡◌, ℕ, ◌+◌, ◌≤◌, Bool, true, false, nat_le, if◌then◌else◌, Option, Some, None, List, [], ◌∷◌, map, slice_get, sym, refl, ap, ◌∙◌, subst, leb-true, le-leb}
use Rattle.law_sig.specs.Lists.{Each}
use Rattle.law_sig.specs.Evaluate.{Made, MadeAll, Frame, free, costing, all_more, all_made, making, calling, body_step, evaluate, within}
use Rattle.law_sig.specs.declared.tree.SymId.{SymId}
use Rattle.law_sig.specs.declared.tree.Tree.{Tree}
use Rattle.law_sig.specs.declared.tree.Tree.TheVariants.{App}
use Rattle.law_sig.specs.declared.tree.Body.{Body}
use Rattle.law_sig.specs.declared.tree.Body.TheOpen as b
use Rattle.law_sig.specs.declared.tree.Body.TheViews.{out-Body, roll-Body, out-roll-Body}
use Rattle.law_sig.specs.declared.tree.Body.TheFolds.{map-Body, fold_out-Body, ind-Body}

-- what holds of every body whose arguments all have it holds of every body
pub body_induct : (P : Body → Type 0)
    → ((body : Body) (number : ℕ) → out-Body body ≡ b.Field number → P body)
    → ((body : Body) (number : ℕ) → out-Body body ≡ b.Param number → P body)
    → ((body : Body) (f : SymId) (args : List Body) → out-Body body ≡ b.Make f args → Each P args → P body)
    → ((body : Body) (f : SymId) (args : List Body) → out-Body body ≡ b.Call f args → Each P args → P body)
    → (body : Body) → P body
body_induct P at_field at_param at_make at_call = ind-Body P (λ x y is. again y x is (layer y))
  where
    haves : (ys : List ((t : Body) × P t)) → Each P (map (λ e. e.0) ys)
    haves [] = tt
    haves (y ∷ ys) = (y.1, haves ys)

    layer : (y : b.Body-F ((t : Body) × P t)) → P (roll-Body (map-Body ((t : Body) × P t) Body (λ e. e.0) y))
    layer (b.Field n) = at_field (roll-Body (b.Field n)) n (out-roll-Body (b.Field n))
    layer (b.Param n) = at_param (roll-Body (b.Param n)) n (out-roll-Body (b.Param n))
    layer (b.Make f ys) = at_make (roll-Body (b.Make f (map (λ e. e.0) ys))) f (map (λ e. e.0) ys) (out-roll-Body (b.Make f (map (λ e. e.0) ys))) (haves ys)
    layer (b.Call f ys) = at_call (roll-Body (b.Call f (map (λ e. e.0) ys))) f (map (λ e. e.0) ys) (out-roll-Body (b.Call f (map (λ e. e.0) ys))) (haves ys)

    again : (y : b.Body-F ((t : Body) × P t)) (x : b.Body-F Body) → map-Body ((t : Body) × P t) Body (λ e. e.0) y ≡ x
        → P (roll-Body (map-Body ((t : Body) × P t) Body (λ e. e.0) y)) → P (roll-Body x)
    again y x is h = subst (λ z. P (roll-Body z)) is h

-- a body gives what its layer gives
evaluate_at : (frame : Frame) (body : Body) (layer : b.Body-F Body) → out-Body body ≡ layer
    → evaluate frame body ≡ body_step frame (map-Body Body (Option Made) (evaluate frame) layer)
evaluate_at frame body layer e = fold_out-Body (Option Made) (body_step frame) body
    ∙ ap (λ l. body_step frame (map-Body Body (Option Made) (evaluate frame) l)) e

pub evaluate-Field : (frame : Frame) (body : Body) (number : ℕ) → out-Body body ≡ b.Field number
    → evaluate frame body ≡ free (slice_get frame.fields number)
evaluate-Field frame body number e = evaluate_at frame body (b.Field number) e

pub evaluate-Param : (frame : Frame) (body : Body) (number : ℕ) → out-Body body ≡ b.Param number
    → evaluate frame body ≡ free (slice_get frame.params number)
evaluate-Param frame body number e = evaluate_at frame body (b.Param number) e

pub evaluate-Make : (frame : Frame) (body : Body) (f : SymId) (args : List Body) → out-Body body ≡ b.Make f args
    → evaluate frame body ≡ making f (all_made (map (evaluate frame) args))
evaluate-Make frame body f args e = evaluate_at frame body (b.Make f args) e

pub evaluate-Call : (frame : Frame) (body : Body) (f : SymId) (args : List Body) → out-Body body ≡ b.Call f args
    → evaluate frame body ≡ calling frame f (all_made (map (evaluate frame) args))
evaluate-Call frame body f args e = evaluate_at frame body (b.Call f args) e

-- what stands behind a result

pub some_is : {A : Type 0} (x y : A) → ◌≡◌ {A = Option A} (Some x) (Some y) → x ≡ y
some_is x y e = cc

pub none_is : {A G : Type 0} (x : A) → ◌≡◌ {A = Option A} None (Some x) → G
none_is x e = cc

pub free_is : (o : Option Tree) (m : Made) → free o ≡ Some m → (o ≡ Some m.value) × (m.cost ≡ 0)
free_is None m e = none_is m e
free_is (Some v) m e =
    let k : ◌≡◌ {A = Made} (record { value = v; cost = 0 }) m = some_is _ m e in
    (ap (λ (z : Made). Some z.value) k, sym (ap (λ (z : Made). z.cost) k))

pub costing_is : (more : ℕ) (o : Option Made) (m : Made) → costing more o ≡ Some m
    → (made : Made) × (o ≡ Some made) × (m.value ≡ made.value) × (m.cost ≡ more + made.cost)
costing_is more None m e = none_is m e
costing_is more (Some made) m e =
    let k : ◌≡◌ {A = Made} (record { value = made.value; cost = more + made.cost }) m = some_is _ m e in
    (made, refl, sym (ap (λ (z : Made). z.value) k), sym (ap (λ (z : Made). z.cost) k))

pub making_is : (f : SymId) (o : Option MadeAll) (m : Made) → making f o ≡ Some m
    → (made : MadeAll) × (o ≡ Some made) × (m.value ≡ App f made.values) × (m.cost ≡ made.cost + 1)
making_is f None m e = none_is m e
making_is f (Some made) m e =
    let k : ◌≡◌ {A = Made} (record { value = App f made.values; cost = made.cost + 1 }) m = some_is _ m e in
    (made, refl, sym (ap (λ (z : Made). z.value) k), sym (ap (λ (z : Made). z.cost) k))

pub calling_is : (frame : Frame) (f : SymId) (o : Option MadeAll) (m : Made) → calling frame f o ≡ Some m
    → (made : MadeAll) × (applied : Made) × (o ≡ Some made) × (frame.called f made.values ≡ Some applied)
    × (m.value ≡ applied.value) × (m.cost ≡ made.cost + applied.cost)
calling_is frame f None m e = none_is m e
calling_is frame f (Some made) m e =
    let k = costing_is made.cost (frame.called f made.values) m e in
    (made, k.0, refl, k.1, k.2, k.3)

pub first_made : (o : Option Made) (os : List (Option Made)) (all : MadeAll) → all_made (o ∷ os) ≡ Some all
    → (first : Made) × (rest : MadeAll) × (o ≡ Some first) × (all_made os ≡ Some rest)
    × (all.values ≡ first.value ∷ rest.values) × (all.cost ≡ first.cost + rest.cost)
first_made None os all e = none_is all e
first_made (Some first) os all e = by (all_made os) refl e
  where
    by : (o : Option MadeAll) → all_made os ≡ o → all_more first o ≡ Some all
        → (front : Made) × (rest : MadeAll) × (◌≡◌ {A = Option Made} (Some first) (Some front)) × (all_made os ≡ Some rest)
        × (all.values ≡ front.value ∷ rest.values) × (all.cost ≡ front.cost + rest.cost)
    by None k h = none_is all h
    by (Some rest) k h =
        let l : ◌≡◌ {A = MadeAll} (record { values = first.value ∷ rest.values; cost = first.cost + rest.cost }) all = some_is _ all h in
        (first, rest, refl, k, sym (ap (λ (z : MadeAll). z.values) l), sym (ap (λ (z : MadeAll). z.cost) l))

-- a result within the budget, and what is within it stays
pub within_is : (budget : ℕ) (o : Option Made) (m : Made) → within budget o ≡ Some m → (o ≡ Some m) × (m.cost ≤ budget)
within_is budget None m e = none_is m e
within_is budget (Some made) m e = by (nat_le made.cost budget) refl e
  where
    by : (c : Bool) → nat_le made.cost budget ≡ c → (if c then Some made else None) ≡ Some m → (◌≡◌ {A = Option Made} (Some made) (Some m)) × (m.cost ≤ budget)
    by false k h = none_is m h
    by true k h = (h, subst (λ (z : Made). z.cost ≤ budget) (some_is made m h) (leb-true made.cost budget k))

pub is_within : (budget : ℕ) (m : Made) → m.cost ≤ budget → within budget (Some m) ≡ Some m
is_within budget m h = ap (λ c. if c then Some m else None) (le-leb m.cost budget h)
