-- A walk over the nodes of a term, step by step.
use Rattle.std.proofs.Common.{◌≡◌, ℕ, ◌+◌, ◌*◌, ◌<◌, ◌⊎◌, inl, inr, Bool, true, false, cond, if◌then◌else◌, List, [], ◌∷◌, ◌++◌, length, map, Some, IsSome, is_some, append_assoc, ap, sym, ◌∙◌, refl, subst, arith}
use Rattle.std.proofs.lemmas.List.{map-append}
use Rattle.std.proofs.lemmas.Bool.{eqb-true, eq-eqb}
use Rattle.indexmap.specs.IndexMap.{insert_entry}
use denote.Bor.{Bor}
use Rattle.law_sig.specs.Lists.{In, Each, total}
use Rattle.law_sig.specs.Lists.In.{here, there}
use Rattle.law_sig.specs.Trees.{Subst, substituted, node_count}
use Rattle.law_laws.proofs.ListFacts.{each_of, of_each, each_map, each_left, each_right, each_both, in_left, in_right, in_split, in_map, in_none, in_rest}
use Rattle.law_sig.specs.declared.tree.SortId.{SortId}
use Rattle.law_sig.specs.declared.tree.SymId.{SymId}
use Rattle.law_sig.specs.declared.tree.Tree.TheVariants.{App}
use Rattle.law_laws.proofs.TreeFacts.{substituted-Var, substituted-App}
use Rattle.law_bank.specs.declared.node.Head.TheVariants.{Var, Sym}
use Rattle.law_bank.specs.declared.node.Node.{Node, out-Node}
use Rattle.law_bank.specs.Terms.{tree_at, tree_of, trees_of, id_of}
use Rattle.law_bank.specs.Bank.{Terms, IsOf, AllOf, Grows}
use Rattle.law_bank.proofs.BankFacts.{tree_of-out, fits_trees, var_tree, sym_tree, here as at_root, below, same_tree, stays, grows_on, grows_none}
use Rattle.law_bank.specs.Bindings.{Binding}
use Rattle.law_term.specs.declared.change.Change.{Change}
use Rattle.law_term.specs.declared.change.Change.TheVariants as change
use Rattle.law_term.specs.declared.walk.Visit.{Visit}
use Rattle.law_term.specs.declared.walk.Visit.TheVariants as visit
use Rattle.law_term.specs.Walks.{IsChange, Done, same_id, found, AllMade, IsChanged, AllChanged, visit_id, IsVisit, IsCovered, NeedsArgs, IsReady, cost, steps, IsWalking, entered, IsEntered, IsLeft}
use Rattle.law_term.proofs.Interning.{nodes_at}

-- The table

pub found_in : (done : Done) (id : ℕ) (t : Bor Node) → found done id ≡ Some t → In {A = ℕ × Bor Node} (id, t) done
found_in [] id t e = cc
found_in (x ∷ xs) id t e = by (found_in xs id t) (same_id id x.0) refl e
  where
    by : (found xs id ≡ Some t → In {A = ℕ × Bor Node} (id, t) xs) → (b : Bool) → same_id id x.0 ≡ b → cond b (Some x.1) (found xs id) ≡ Some t → In {A = ℕ × Bor Node} (id, t) (x ∷ xs)
    by later true q k =
        let r : x.1 ≡ t = cc in
        let i : x.0 ≡ id = sym (eqb-true id x.0 q) in
        subst (λ (z : ℕ × Bor Node). In z (x ∷ xs)) (λ j. (i j, r j)) here
    by later false q k = there (later k)

-- what the arguments were changed to
pub images_are : (start : Terms) (σ : Subst) (done : Done) → AllChanged start σ done → (args made : List (Bor Node)) → AllOf start args
    → map (λ (a : Bor Node). found done (id_of a.now)) args ≡ map (λ (m : Bor Node). Some m) made → trees_of made ≡ map (substituted σ) (trees_of args)
images_are start σ done h [] [] of e = refl
images_are start σ done h [] (m ∷ ms) of e = cc
images_are start σ done h (a ∷ as') [] of e = cc
images_are start σ done h (a ∷ as') (m ∷ ms) of e =
    let first : found done (id_of a.now) ≡ Some m = cc in
    let rest : map (λ (b : Bor Node). found done (id_of b.now)) as' ≡ map (λ (b : Bor Node). Some b) ms = cc in
    let one : tree_of m.now ≡ substituted σ (tree_of a.now) = of_each (IsChanged start σ) (found_in done (id_of a.now) m first) h a.now of.0 refl in
    (λ j. one j ∷ images_are start σ done h as' ms of.1 rest j)

pub images_held : (now : Terms) (done : Done) → AllMade now done → (args made : List (Bor Node))
    → map (λ (a : Bor Node). found done (id_of a.now)) args ≡ map (λ (m : Bor Node). Some m) made → AllOf now made
images_held now done h [] [] e = tt
images_held now done h [] (m ∷ ms) e = cc
images_held now done h (a ∷ as') [] e = cc
images_held now done h (a ∷ as') (m ∷ ms) e =
    let first : found done (id_of a.now) ≡ Some m = cc in
    let rest : map (λ (b : Bor Node). found done (id_of b.now)) as' ≡ map (λ (b : Bor Node). Some b) ms = cc in
    (of_each (λ (x : ℕ × Bor Node). IsOf now x.1.now) (found_in done (id_of a.now) m first) h, images_held now done h as' ms rest)

pub each_insert : (P : ℕ × Bor Node → Type 0) (k : ℕ) (v : Bor Node) → ((j : ℕ) → same_id k j ≡ true → P (j, v)) → P (k, v) → (es : Done) → Each P es → Each P (insert_entry same_id es k v)
each_insert P k v new own [] h = (own, tt)
each_insert P k v new own (x ∷ xs) h = by (each_insert P k v new own xs h.1) (same_id k x.0) refl
  where
    by : Each P (insert_entry same_id xs k v) → (b : Bool) → same_id k x.0 ≡ b → Each P (if b then (x.0, v) ∷ xs else x ∷ insert_entry same_id xs k v)
    by later true q = (new x.0 q, h.1)
    by later false q = (h.0, later)

-- What is covered

module _ (done : Done) where
  covers_none : (id : ℕ) → IsCovered done [] id → IsSome (found done id)
  covers_none id (inl h) = h
  covers_none id (inr i) = in_none i

  covers_less : (above : List Visit) (v : Visit) → IsSome (found done (visit_id v)) → (id : ℕ) → IsCovered done (above ++ v ∷ []) id → IsCovered done above id
  covers_less above v h id (inl k) = inl k
  covers_less above v h id (inr i) = by (in_split (map visit_id above) (visit_id v ∷ []) (subst (In id) (map-append visit_id above (v ∷ [])) i))
    where
      last : (id ≡ visit_id v) ⊎ In id [] → IsSome (found done id)
      last (inl e) = subst (λ z. IsSome (found done z)) (sym e) h
      last (inr n) = in_none n

      by : In id (map visit_id above) ⊎ In id (visit_id v ∷ []) → IsCovered done above id
      by (inl j) = inr j
      by (inr j) = inl (last (in_rest j))

  covers_more : (above more : List Visit) (v w : Visit) → visit_id w ≡ visit_id v → (id : ℕ) → IsCovered done (above ++ v ∷ []) id → IsCovered done (above ++ w ∷ more) id
  covers_more above more v w e id (inl k) = inl k
  covers_more above more v w e id (inr i) = inr (subst (In id) (sym (map-append visit_id above (w ∷ more))) (by (in_split (map visit_id above) (visit_id v ∷ []) (subst (In id) (map-append visit_id above (v ∷ [])) i))))
    where
      last : (id ≡ visit_id v) ⊎ In id [] → In id (visit_id w ∷ map visit_id more)
      last (inl q) = subst (λ z. In z (visit_id w ∷ map visit_id more)) (e ∙ sym q) here
      last (inr n) = in_none n

      by : In id (map visit_id above) ⊎ In id (visit_id v ∷ []) → In id (map visit_id above ++ visit_id w ∷ map visit_id more)
      by (inl j) = in_left (visit_id w ∷ map visit_id more) j
      by (inr j) = in_right (map visit_id above) (last (in_rest j))

needs_map : (old new : Done) (above more : List Visit) (v : Visit) → ((id : ℕ) → IsCovered old above id → IsCovered new more id) → NeedsArgs old above v → NeedsArgs new more v
needs_map old new above more (visit.Enter n) f h = tt
needs_map old new above more (visit.Leave n) f h =
    each_map (λ (a : Bor Node). IsCovered old above (id_of a.now)) (λ (a : Bor Node). IsCovered new more (id_of a.now)) (λ a. f (id_of a.now)) (out-Node n.now).args.now h

pub ready_less : (done : Done) (rest : List Visit) (v : Visit) → IsSome (found done (visit_id v)) → IsReady done (rest ++ v ∷ []) → IsReady done rest
ready_less done [] v h r = tt
ready_less done (x ∷ xs) v h r = (needs_map done done (xs ++ v ∷ []) xs x (covers_less done xs v h) r.0, ready_less done xs v h r.1)

ready_more : (done : Done) (rest more : List Visit) (v w : Visit) → visit_id w ≡ visit_id v → NeedsArgs done more w → IsReady done more → IsReady done (rest ++ v ∷ []) → IsReady done (rest ++ w ∷ more)
ready_more done [] more v w e n m r = (n, m)
ready_more done (x ∷ xs) more v w e n m r = (needs_map done done (xs ++ v ∷ []) (xs ++ w ∷ more) x (covers_more done xs more v w e) r.0, ready_more done xs more v w e n m r.1)

covers_on : (old new : Done) → ((id : ℕ) → IsSome (found old id) → IsSome (found new id)) → (xs : List Visit) (id : ℕ) → IsCovered old xs id → IsCovered new xs id
covers_on old new f xs id (inl h) = inl (f id h)
covers_on old new f xs id (inr i) = inr i

ready_on : (old new : Done) → ((id : ℕ) → IsSome (found old id) → IsSome (found new id)) → (xs : List Visit) → IsReady old xs → IsReady new xs
ready_on old new f [] r = tt
ready_on old new f (x ∷ xs) r = (needs_map old new xs xs x (covers_on old new f xs) r.0, ready_on old new f xs r.1)

ready_top : (done : Done) (rest : List Visit) (v : Visit) → IsReady done (rest ++ v ∷ []) → NeedsArgs done [] v
ready_top done [] v r = r.0
ready_top done (x ∷ xs) v r = ready_top done xs v r.1

-- a visit that enters a node
abbrev IsEntering : Visit → Type 0
IsEntering v = (n : Bor Node) × (v ≡ visit.Enter n)

entering : (args : List (Bor Node)) → Each IsEntering (entered args)
entering [] = tt
entering (a ∷ as') = each_both IsEntering (entered as') (visit.Enter a ∷ []) (entering as') ((a, refl), tt)

ready_entering : (done : Done) (xs : List Visit) → Each IsEntering xs → IsReady done xs
ready_entering done [] h = tt
ready_entering done (x ∷ xs) h = (subst (NeedsArgs done xs) (sym h.0.1) tt, ready_entering done xs h.1)

pub entered_ready : (done : Done) (args : List (Bor Node)) → IsReady done (entered args)
entered_ready done args = ready_entering done (entered args) (entering args)

entered_in : {a : Bor Node} {args : List (Bor Node)} → In a args → In (visit.Enter a) (entered args)
entered_in (here {x = x} {xs = xs}) = in_right (entered xs) here
entered_in (there {y = y} at) = in_left (visit.Enter y ∷ []) (entered_in at)

entered_need : (done : Done) (n : Bor Node) → NeedsArgs done (entered (out-Node n.now).args.now) (visit.Leave n)
entered_need done n = each_of (λ (a : Bor Node). IsCovered done (entered (out-Node n.now).args.now) (id_of a.now)) (out-Node n.now).args.now
    (λ a i. inr (in_map visit_id (entered_in i)))

pub entered_visited : (start : Terms) (args : List (Bor Node)) → AllOf start args → Each (IsVisit start) (entered args)
entered_visited start [] h = tt
entered_visited start (a ∷ as') h = each_both (IsVisit start) (entered as') (visit.Enter a ∷ []) (entered_visited start as' h.1) (h.0, tt)

-- one term more is to be entered
pub entered_more : (old mid new : List Visit) (terms : List (Bor Node)) (first : Bor Node) (others : List (Bor Node)) → terms ≡ first ∷ others
    → mid ≡ old ++ entered others → new ≡ mid ++ visit.Enter first ∷ [] → new ≡ old ++ entered terms
entered_more old mid new terms first others is m e =
    e ∙ ap (λ l. l ++ visit.Enter first ∷ []) m ∙ append_assoc old (entered others) (visit.Enter first ∷ []) ∙ ap (λ l. old ++ entered l) (sym is)

-- Steps

total_append : (xs ys : List ℕ) → total (xs ++ ys) ≡ total xs + total ys
total_append [] ys = omega arith
total_append (x ∷ xs) ys = let e = total_append xs ys in omega (arith, e)

steps_append : (xs ys : List Visit) → steps (xs ++ ys) ≡ steps xs + steps ys
steps_append xs ys = ap total (map-append cost xs ys) ∙ total_append (map cost xs) (map cost ys)

entered_cost : (args : List (Bor Node)) → steps (entered args) ≡ 2 * total (map node_count (trees_of args))
entered_cost [] = refl
entered_cost (a ∷ as') = let e = entered_cost as' in let f = steps_append (entered as') (visit.Enter a ∷ []) in omega (arith, e, f)

-- A step

module _ (start : Terms) (done : Done) (before rest : List Visit) (n : Bor Node) (visited : Each (IsVisit start) before) (ready : IsReady done before) where
  module _ (is : before ≡ rest ++ visit.Enter n ∷ []) where
    pub top_entered : IsOf start n.now
    top_entered = (each_right (IsVisit start) rest (visit.Enter n ∷ []) (subst (Each (IsVisit start)) is visited)).0

    abbrev args : List (Bor Node)
    args = (out-Node n.now).args.now

    pub visited_entered : (new : List Visit) → IsEntered done n rest new → Each (IsVisit start) new
    visited_entered new (inl k) = subst (Each (IsVisit start)) (sym k.1) (each_left (IsVisit start) rest (visit.Enter n ∷ []) (subst (Each (IsVisit start)) is visited))
    visited_entered new (inr e) = subst (Each (IsVisit start)) (sym e)
        (each_both (IsVisit start) rest (visit.Leave n ∷ entered args)
        (each_left (IsVisit start) rest (visit.Enter n ∷ []) (subst (Each (IsVisit start)) is visited))
        (top_entered, entered_visited start args (below start n.now top_entered)))

    pub ready_entered : (new : List Visit) → IsEntered done n rest new → IsReady done new
    ready_entered new (inl k) = subst (IsReady done) (sym k.1) (ready_less done rest (visit.Enter n) k.0 (subst (IsReady done) is ready))
    ready_entered new (inr e) = subst (IsReady done) (sym e)
        (ready_more done rest (entered args) (visit.Enter n) (visit.Leave n) refl (entered_need done n) (entered_ready done args) (subst (IsReady done) is ready))

    pub covered_entered : (id : ℕ) → IsCovered done before id → (new : List Visit) → IsEntered done n rest new → IsCovered done new id
    covered_entered id c new (inl k) = subst (λ l. IsCovered done l id) (sym k.1) (covers_less done rest (visit.Enter n) k.0 id (subst (λ l. IsCovered done l id) is c))
    covered_entered id c new (inr e) = subst (λ l. IsCovered done l id) (sym e)
        (covers_more done rest (entered args) (visit.Enter n) (visit.Leave n) refl id (subst (λ l. IsCovered done l id) is c))

    pub fewer_entered : (new : List Visit) → IsEntered done n rest new → steps new < steps before
    fewer_entered new h =
        let count : node_count (tree_of n.now) ≡ 1 + total (map node_count (trees_of args)) =
        ap node_count (tree_of-out n.now) ∙ nodes_at (out-Node n.now).head (trees_of args) (fits_trees _ _ (at_root start n.now top_entered).fits) in
        let whole : steps before ≡ steps rest + (2 * node_count (tree_of n.now) + 0) = ap steps is ∙ steps_append rest (visit.Enter n ∷ []) in
        by h count whole
      where
        by : IsEntered done n rest new → node_count (tree_of n.now) ≡ 1 + total (map node_count (trees_of (out-Node n.now).args.now))
            → steps before ≡ steps rest + (2 * node_count (tree_of n.now) + 0) → steps new < steps before
        by (inl k) count whole = let e = ap steps k.1 in omega (arith, e, count, whole)
        by (inr e) count whole =
            let a : steps new ≡ steps rest + (1 + steps (entered (out-Node n.now).args.now)) = ap steps e ∙ steps_append rest (visit.Leave n ∷ entered (out-Node n.now).args.now) in
            let b = entered_cost (out-Node n.now).args.now in omega (arith, a, b, count, whole)

  module _ (is : before ≡ rest ++ visit.Leave n ∷ []) where
    pub top_left : IsOf start n.now
    top_left = (each_right (IsVisit start) rest (visit.Leave n ∷ []) (subst (Each (IsVisit start)) is visited)).0

    pub visited_left : Each (IsVisit start) rest
    visited_left = each_left (IsVisit start) rest (visit.Leave n ∷ []) (subst (Each (IsVisit start)) is visited)

    pub top_ready : Each (λ (a : Bor Node). IsSome (found done (id_of a.now))) (out-Node n.now).args.now
    top_ready = each_map (λ (a : Bor Node). IsCovered done [] (id_of a.now)) (λ (a : Bor Node). IsSome (found done (id_of a.now)))
        (λ a. covers_none done (id_of a.now)) (out-Node n.now).args.now (ready_top done rest (visit.Leave n) (subst (IsReady done) is ready))

    pub fewer_left : steps rest < steps before
    fewer_left = let e : steps before ≡ steps rest + 1 = ap steps is ∙ steps_append rest (visit.Leave n ∷ []) in omega (arith, e)

    -- once the node is done
    module _ (new : Done) (made : Bor Node) (finds : (id : ℕ) → found new id ≡ (if same_id (id_of n.now) id then Some made else found done id)) where
      pub done_on : (id : ℕ) → IsSome (found done id) → IsSome (found new id)
      done_on id h = by (same_id (id_of n.now) id) (finds id)
        where
          by : (b : Bool) → found new id ≡ (if b then Some made else found done id) → IsSome (found new id)
          by true e = ap is_some e
          by false e = subst IsSome (sym e) h

      pub done_own : IsSome (found new (id_of n.now))
      done_own = by (same_id (id_of n.now) (id_of n.now)) (eq-eqb (id_of n.now) (id_of n.now) refl) (finds (id_of n.now))
        where
          by : (b : Bool) → b ≡ true → found new (id_of n.now) ≡ (if b then Some made else found done (id_of n.now)) → IsSome (found new (id_of n.now))
          by true q e = ap is_some e
          by false q e = cc

      pub ready_left : IsReady new rest
      ready_left = ready_less new rest (visit.Leave n) done_own (ready_on done new done_on (rest ++ visit.Leave n ∷ []) (subst (IsReady done) is ready))

      pub covered_left : (id : ℕ) → IsCovered done before id → IsCovered new rest id
      covered_left id c = covers_less new rest (visit.Leave n) done_own id (covers_on done new done_on (rest ++ visit.Leave n ∷ []) id (subst (λ z. IsCovered done z id) is c))

-- A step of a change

module _ (start now : Terms) (σ : Subst) (term : Node) (done : Done) (before rest : List Visit) (n : Bor Node) (w : IsWalking start now σ term done before) where
  pub walk_entered : before ≡ rest ++ visit.Enter n ∷ [] → (new : List Visit) → IsEntered done n rest new → IsWalking start now σ term done new
  walk_entered is new h = record {
    grows = w.grows;
    made = w.made;
    changed = w.changed;
    visited = visited_entered start done before rest n w.visited w.ready is new h;
    ready = ready_entered start done before rest n w.visited w.ready is new h;
    covered = covered_entered start done before rest n w.visited w.ready is (id_of term) w.covered new h;
  }

  module _ (is : before ≡ rest ++ visit.Leave n ∷ []) where
    pub walk_left : (later : Terms) (new : Done) → Grows now later → IsLeft later σ n done new → IsWalking start later σ term new rest
    walk_left later new g l =
        let top = top_left start done before rest n w.visited w.ready is in
        let tree = l.is start top w.changed in
        let same : (j : ℕ) → same_id (id_of n.now) j ≡ true → IsChanged start σ (j, l.made) =
        λ j q m of e. tree ∙ ap (substituted σ) (same_tree start n.now m top of (eqb-true (id_of n.now) j q ∙ sym e)) in
        record {
          grows = grows_on start now later w.grows g;
          made = subst (AllMade later) (sym l.noted)
              (each_insert (λ (x : ℕ × Bor Node). IsOf later x.1.now) (id_of n.now) l.made (λ j q. l.held) l.held done
              (each_map (λ (x : ℕ × Bor Node). IsOf now x.1.now) (λ (x : ℕ × Bor Node). IsOf later x.1.now) (λ x. stays now later x.1.now g) done w.made));
          changed = subst (AllChanged start σ) (sym l.noted)
              (each_insert (IsChanged start σ) (id_of n.now) l.made same (λ m of e. tree ∙ ap (substituted σ) (same_tree start n.now m top of (sym e))) done w.changed);
          visited = visited_left start done before rest n w.visited w.ready is;
          ready = ready_left start done before rest n w.visited w.ready is new l.made l.finds;
          covered = covered_left start done before rest n w.visited w.ready is new l.made l.finds (id_of term) w.covered;
        }

-- The start and the end

pub walk_start : (bank : Terms) (σ : Subst) (t : Bor Node) → IsOf bank t.now → IsWalking bank bank σ t.now [] (visit.Enter t ∷ [])
walk_start bank σ t h = record { grows = grows_none bank; made = tt; changed = tt; visited = (h, tt); ready = (tt, tt); covered = inr here }

module _ (start now : Terms) (σ : Subst) (term : Node) (done : Done) (w : IsWalking start now σ term done []) where
  pub end_found : IsSome (found done (id_of term))
  end_found = covers_none done (id_of term) w.covered

  module _ (m : Bor Node) (e : found done (id_of term) ≡ Some m) where
    pub end_tree : IsOf start term → tree_of m.now ≡ substituted σ (tree_of term)
    end_tree h = of_each (IsChanged start σ) (found_in done (id_of term) m e) w.changed term h refl

    pub end_held : IsOf now m.now
    end_held = of_each (λ (x : ℕ × Bor Node). IsOf now x.1.now) (found_in done (id_of term) m e) w.made

-- A node over what its arguments were changed to

pub changed_var : (σ : Subst) (n m : Node) (s : SortId) (i : ℕ) → (out-Node n).head ≡ Var s i → tree_of m ≡ σ s i → tree_of m ≡ substituted σ (tree_of n)
changed_var σ n m s i e is = is ∙ sym (ap (substituted σ) (var_tree n s i e) ∙ substituted-Var σ s i)

pub changed_sym : (start : Terms) (σ : Subst) (n m : Node) (f : SymId) (done : Done) (made : List (Bor Node)) → (out-Node n).head ≡ Sym f → tree_of m ≡ tree_at (Sym f) (trees_of made)
    → map (λ (a : Bor Node). found done (id_of a.now)) (out-Node n).args.now ≡ map (λ (x : Bor Node). Some x) made → IsOf start n → AllChanged start σ done
    → tree_of m ≡ substituted σ (tree_of n)
changed_sym start σ n m f done made e is images of h =
    is ∙ ap (App f) (images_are start σ done h (out-Node n).args.now made (below start n of) images)
    ∙ sym (ap (substituted σ) (sym_tree n f e) ∙ substituted-App σ f (trees_of (out-Node n).args.now))

-- what is put stays of the bank
pub change_stays : (old new : Terms) (change : Change) → Grows old new → IsChange old change → IsChange new change
change_stays old new change.Flat g h = tt
change_stays old new (change.Shift by) g h = tt
change_stays old new (change.Renumber variables) g h = tt
change_stays old new (change.Bind bindings) g h = each_map (λ (b : Binding). IsOf old b.2.now) (λ (b : Binding). IsOf new b.2.now) (λ b. stays old new b.2.now g) bindings.now h

pub walk_ended : (start now : Terms) (σ : Subst) (term : Node) (done : Done) (visits : List Visit) → IsWalking start now σ term done visits → length visits ≡ 0 → IsWalking start now σ term done []
walk_ended start now σ term done [] w e = w
walk_ended start now σ term done (v ∷ visits) w e = absurd (omega (arith, e))
