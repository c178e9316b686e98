-- The variables of an equation in order, and the bindings that a substitution gives them.
use Rattle.std.proofs.Common.{◌≡◌, ℕ, ◌<◌, ◌⊎◌, ◌↔◌, inl, inr, List, [], ◌∷◌, ◌++◌, map, sym, refl, ap, ◌∙◌, subst, arith}
use Rattle.law_sig.specs.Lists.{In, Each, Rising}
use Rattle.law_sig.specs.Lists.In.{here, there}
use Rattle.law_sig.specs.Trees.{holes, Subst}
use Rattle.law_sig.specs.declared.tree.SortId.{SortId}
use Rattle.law_sig.specs.declared.parts.Equation.{Equation}
use Rattle.law_laws.proofs.ListFacts.{in_none, in_rest, in_left, in_right, in_split, in_map, of_each, each_of}
use Rattle.law_sig.specs.declared.chain.Bind.{Bind}
use Rattle.law_sig.specs.Chains.{StandsBefore, bound_in}
use Rattle.law_rewriting.proofs.Places.{numbers_decided}
use Rattle.law_rewriting.proofs.Binds.{key, looked_up}
use Rattle.law_rewriting.proofs.Vars.{Variable, vars, hole_in_vars, var_in_holes}

abbrev pub KeyBefore : Variable → Variable → Type 0
KeyBefore v w = (v.0.0 < w.0.0) ⊎ ((v.0 ≡ w.0) × (v.1 < w.1))

same_sort_number : (s t : SortId) → s.0 ≡ t.0 → s ≡ t
same_sort_number s t e = ap (λ n. let x : SortId = record { 0 = n } in x) e

keys_decided : (v w : Variable) → KeyBefore v w ⊎ ((v ≡ w) ⊎ KeyBefore w v)
keys_decided v w = by (numbers_decided v.0.0 w.0.0) (numbers_decided v.1 w.1)
  where
    by : (v.0.0 < w.0.0) ⊎ ((v.0.0 ≡ w.0.0) ⊎ (w.0.0 < v.0.0)) → (v.1 < w.1) ⊎ ((v.1 ≡ w.1) ⊎ (w.1 < v.1)) → KeyBefore v w ⊎ ((v ≡ w) ⊎ KeyBefore w v)
    by (inl h) k = inl (inl h)
    by (inr (inr h)) k = inr (inr (inl h))
    by (inr (inl e)) (inl k) = inl (inr (same_sort_number v.0 w.0 e, k))
    by (inr (inl e)) (inr (inl d)) = let s = same_sort_number v.0 w.0 e in inr (inl (λ i. (s i, d i)))
    by (inr (inl e)) (inr (inr k)) = inr (inr (inr (sym (same_sort_number v.0 w.0 e), k)))

key_chain : (u v w : Variable) → KeyBefore u v → KeyBefore v w → KeyBefore u w
key_chain u v w (inl h) (inl k) = inl (omega arith)
key_chain u v w (inl h) (inr k) = let e = ap (λ (s : SortId). s.0) k.0 in inl (omega (arith, e))
key_chain u v w (inr h) (inl k) = let e = ap (λ (s : SortId). s.0) h.0 in inl (omega (arith, e))
key_chain u v w (inr h) (inr k) = let a = h.1 in let b = k.1 in inr (h.0 ∙ k.0, omega (arith, a, b))

-- a list in order with the same members
record InOrder (vs : List Variable) : Type 0 where
  pub keys : List Variable
  pub rising : Rising KeyBefore keys
  pub to : (v : Variable) → In v vs → In v keys
  pub back : (v : Variable) → In v keys → In v vs

record Inserted (v : Variable) (ks : List Variable) : Type 0 where
  pub keys : List Variable
  pub rising : Rising KeyBefore keys
  pub new : In v keys
  pub old : (w : Variable) → In w ks → In w keys
  pub back : (w : Variable) → In w keys → (w ≡ v) ⊎ In w ks

insert : (v : Variable) (ks : List Variable) → Rising KeyBefore ks → Inserted v ks
insert v [] rising = record { keys = v ∷ []; rising = (tt, tt); new = here; old = λ w at. in_none at; back = λ w at. in_rest at }
insert v (k ∷ ks) rising = by (keys_decided v k) (insert v ks rising.1)
  where
    behind : (w : Variable) → KeyBefore v k → In w (k ∷ ks) → KeyBefore v w
    behind w h at = or (in_rest at)
      where
        or : (w ≡ k) ⊎ In w ks → KeyBefore v w
        or (inl e) = subst (KeyBefore v) (sym e) h
        or (inr l) = key_chain v k w h (of_each (KeyBefore k) l rising.0)

    later : Inserted v ks → KeyBefore k v → (w : Variable) → (w ≡ v) ⊎ In w ks → KeyBefore k w
    later r h w (inl e) = subst (KeyBefore k) (sym e) h
    later r h w (inr at) = of_each (KeyBefore k) at rising.0

    front : Inserted v ks → (w : Variable) → (w ≡ k) ⊎ In w ks → (r : List Variable) → ((w : Variable) → In w ks → In w r) → In w (k ∷ r)
    front i w (inl e) r f = subst (λ z. In z (k ∷ r)) (sym e) here
    front i w (inr at) r f = there (f w at)

    swap : (w : Variable) → (w ≡ k) ⊎ ((w ≡ v) ⊎ In w ks) → (w ≡ v) ⊎ In w (k ∷ ks)
    swap w (inl e) = inr (subst (λ z. In z (k ∷ ks)) (sym e) here)
    swap w (inr (inl e)) = inl e
    swap w (inr (inr at)) = inr (there at)

    down : (w : Variable) (r : Inserted v ks) → (w ≡ k) ⊎ In w r.keys → (w ≡ k) ⊎ ((w ≡ v) ⊎ In w ks)
    down w r (inl e) = inl e
    down w r (inr at) = inr (r.back w at)

    by : KeyBefore v k ⊎ ((v ≡ k) ⊎ KeyBefore k v) → Inserted v ks → Inserted v (k ∷ ks)
    by (inl h) r = record { keys = v ∷ k ∷ ks; rising = (each_of (KeyBefore v) (k ∷ ks) (λ w at. behind w h at), rising); new = here; old = λ w at. there at; back = λ w at. in_rest at }
    by (inr (inl e)) r = record { keys = k ∷ ks; rising = rising; new = subst (λ z. In z (k ∷ ks)) (sym e) here; old = λ w at. at; back = λ w at. inr at }
    by (inr (inr h)) r = record {
      keys = k ∷ r.keys;
      rising = (each_of (KeyBefore k) r.keys (λ w at. later r h w (r.back w at)), r.rising);
      new = there r.new;
      old = λ w at. front r w (in_rest at) r.keys r.old;
      back = λ w at. swap w (down w r (in_rest at));
    }

ordered : (vs : List Variable) → InOrder vs
ordered [] = record { keys = []; rising = tt; to = λ v at. at; back = λ v at. at }
ordered (v ∷ vs) =
    let r = ordered vs in let i = insert v r.keys r.rising in
    record { keys = i.keys; rising = i.rising; to = λ w at. to w r i (in_rest at); back = λ w at. back w r (i.back w at) }
  where
    to : (w : Variable) (r : InOrder vs) (i : Inserted v r.keys) → (w ≡ v) ⊎ In w vs → In w i.keys
    to w r i (inl e) = subst (λ z. In z i.keys) (sym e) i.new
    to w r i (inr at) = i.old w (r.to w at)

    back : (w : Variable) (r : InOrder vs) → (w ≡ v) ⊎ In w r.keys → In w (v ∷ vs)
    back w r (inl e) = subst (λ z. In z (v ∷ vs)) (sym e) here
    back w r (inr at) = there (r.back w at)

-- the variables of an equation, each once, in order
pub record AreKeys (q : Equation) (keys : List Variable) : Type 0 where
  pub rising : Rising KeyBefore keys
  pub exact : (s : SortId) (i : ℕ) → In {A = Variable} (s, i) keys ↔ (In i (holes s q.left) ⊎ In i (holes s q.right))

pub keys_of : (q : Equation) → (keys : List Variable) × AreKeys q keys
keys_of q = let r = ordered (vars q.left ++ vars q.right) in
    (r.keys, record { rising = r.rising; exact = λ s i. ((λ at. sides s i (in_split (vars q.left) (vars q.right) (r.back (s, i) at))), (λ at. r.to (s, i) (both s i at))) })
  where
    sides : (s : SortId) (i : ℕ) → In {A = Variable} (s, i) (vars q.left) ⊎ In {A = Variable} (s, i) (vars q.right) → In i (holes s q.left) ⊎ In i (holes s q.right)
    sides s i (inl at) = inl (var_in_holes q.left (s, i) at)
    sides s i (inr at) = inr (var_in_holes q.right (s, i) at)

    both : (s : SortId) (i : ℕ) → In i (holes s q.left) ⊎ In i (holes s q.right) → In {A = Variable} (s, i) (vars q.left ++ vars q.right)
    both s i (inl at) = in_left (vars q.right) (hole_in_vars q.left s i at)
    both s i (inr at) = in_right (vars q.left) (hole_in_vars q.right s i at)

-- What a substitution gives them

abbrev pub bind_by : Subst → Variable → Bind
bind_by σ v = record { sort = v.0; index = v.1; term = σ v.0 v.1 }

abbrev pub binds_by : Subst → List Variable → List Bind
binds_by σ keys = map (bind_by σ) keys

pub by_keys : (σ : Subst) (keys : List Variable) → map key (binds_by σ keys) ≡ keys
by_keys σ [] = refl
by_keys σ (v ∷ keys) = ap (λ l. v ∷ l) (by_keys σ keys)

pub rising_by : (σ : Subst) (keys : List Variable) → Rising KeyBefore keys → Rising StandsBefore (binds_by σ keys)
rising_by σ [] h = tt
rising_by σ (v ∷ keys) h = (each keys h.0, rising_by σ keys h.1)
  where
    each : (ks : List Variable) → Each (KeyBefore v) ks → Each (StandsBefore (bind_by σ v)) (binds_by σ ks)
    each [] e = tt
    each (k ∷ ks) e = (e.0, each ks e.1)

pub bound_by : (σ : Subst) (keys : List Variable) → Rising KeyBefore keys → (s : SortId) (i : ℕ) → In {A = Variable} (s, i) keys → bound_in (binds_by σ keys) s i ≡ σ s i
bound_by σ keys rising s i at = looked_up (binds_by σ keys) (rising_by σ keys rising) (bind_by σ (s, i)) (in_map (bind_by σ) at)
