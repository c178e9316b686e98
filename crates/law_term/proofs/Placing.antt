-- A term with another one at a place, an argument at a time.
use Rattle.std.proofs.Common.{◌≡◌, ℕ, zero, suc, ◌<◌, List, [], ◌∷◌, ◌++◌, length, map, take, drop, slice_get, slice_set, Some, None, append-nil, ap, sym, ◌∙◌, refl, subst, arith}
use Rattle.std.specs.Option.{option_map}
use Rattle.std.proofs.lemmas.Option.{slice_get-map, slice_get_within}
use denote.Bor.{Bor}
use Rattle.law_sig.specs.Lists.{Each}
use Rattle.law_sig.specs.Chains.{Rewrites}
use Rattle.law_sig.specs.Chains.Rewrites.{root, below}
use Rattle.law_sig.specs.declared.tree.SymId.{SymId}
use Rattle.law_sig.specs.declared.tree.Tree.{Tree}
use Rattle.law_sig.specs.declared.tree.Tree.TheVariants as tree
use Rattle.law_laws.proofs.TreeFacts.{same_app, var_no_app}
use Rattle.law_rewriting.proofs.Places.{Inside, inside}
use Rattle.law_bank.specs.declared.node.Head.{Head}
use Rattle.law_bank.specs.declared.node.Head.TheVariants.{Var, Sym}
use Rattle.law_bank.specs.declared.node.Node.{Node, out-Node}
use Rattle.law_bank.specs.Terms.{tree_at, tree_of, trees_of, Fits}
use Rattle.law_bank.proofs.BankFacts.{tree_of-out, stays, grows_on, grows_none, here as facts, below as args_held}
use Rattle.law_bank.specs.Bank.{Terms, IsOf, Grows}
use Rattle.law_term.specs.Places.{IsReplaced, HasNoPlace, IsAt, Turn, number_of, Leads, IsWay, AllTurns, IsRising}

-- A list around an item

cut : {A : Type 0} (xs : List A) (k : ℕ) (x : A) → slice_get xs k ≡ Some x → xs ≡ take k xs ++ x ∷ drop (suc k) xs
cut [] k x e = cc
cut (y ∷ xs) zero x e = let f : y ≡ x = cc in ap (λ z. z ∷ xs) f
cut (y ∷ xs) (suc k) x e = ap (λ l. y ∷ l) (cut xs k x e)

set_cut : {A : Type 0} (xs : List A) (k : ℕ) (x y : A) → slice_get xs k ≡ Some x → slice_set xs k y ≡ take k xs ++ y ∷ drop (suc k) xs
set_cut [] k x y e = cc
set_cut (z ∷ xs) zero x y e = refl
set_cut (z ∷ xs) (suc k) x y e = ap (λ l. z ∷ l) (set_cut xs k x y e)

long_take : {A : Type 0} (xs : List A) (k : ℕ) (x : A) → slice_get xs k ≡ Some x → length (take k xs) ≡ k
long_take [] k x e = cc
long_take (y ∷ xs) zero x e = refl
long_take (y ∷ xs) (suc k) x e = ap suc (long_take xs k x e)

pub get_mid : {A : Type 0} (before after : List A) (x : A) → slice_get (before ++ x ∷ after) (length before) ≡ Some x
get_mid [] after x = refl
get_mid (y ∷ before) after x = get_mid before after x

pub each_set : {A : Type 0} (P : A → Type 0) (xs : List A) (k : ℕ) (y : A) → P y → Each P xs → Each P (slice_set xs k y)
each_set P [] k y own h = tt
each_set P (x ∷ xs) zero y own h = (own, h.1)
each_set P (x ∷ xs) (suc k) y own h = (h.0, each_set P xs k y own h.1)

pub trees_append : (xs ys : List (Bor Node)) → trees_of (xs ++ ys) ≡ trees_of xs ++ trees_of ys
trees_append [] ys = refl
trees_append (x ∷ xs) ys = ap (λ l. tree_of x.now ∷ l) (trees_append xs ys)

trees_long : (xs : List (Bor Node)) → length (trees_of xs) ≡ length xs
trees_long [] = refl
trees_long (x ∷ xs) = ap suc (trees_long xs)

-- what has an argument isn't a variable
pub fits_set : (h : Head) (xs ys : List (Bor Node)) (k : ℕ) → Fits h xs → k < length xs → Fits h ys
fits_set (Var s i) xs ys k e within = let n = ap length e in absurd (omega (arith, n, within))
fits_set (Sym f) xs ys k e within = tt

-- the arguments of an application
args_are : (n : Node) (f : SymId) (ts : List Tree) → tree_of n ≡ tree.App f ts → trees_of (out-Node n).args.now ≡ ts
args_are n f ts e = by (out-Node n).head (sym (tree_of-out n) ∙ e)
  where
    by : (h : Head) → tree_at h (trees_of (out-Node n).args.now) ≡ tree.App f ts → trees_of (out-Node n).args.now ≡ ts
    by (Var s i) q = absurd (var_no_app s i f ts q)
    by (Sym g) q = (same_app g f (trees_of (out-Node n).args.now) ts q).1

-- the argument that stands around a place
item_at : (n : Node) (k : ℕ) (rest : List ℕ) (from to t : Tree) (p : Inside from to k rest (tree_of n) t) → option_map (λ (b : Bor Node). tree_of b.now) (slice_get (out-Node n).args.now k) ≡ Some p.x
item_at n k rest from to t p =
    sym (slice_get-map (λ (b : Bor Node). tree_of b.now) (out-Node n).args.now k)
    ∙ ap (λ l. slice_get l k) (args_are n p.f (p.before ++ p.x ∷ p.after) p.was) ∙ ap (slice_get (p.before ++ p.x ∷ p.after)) (sym p.at) ∙ get_mid p.before p.after p.x

module _ (n : Node) (k : ℕ) (rest place : List ℕ) (is : place ≡ k ∷ rest) where
  pub no_arg : slice_get (out-Node n).args.now k ≡ None → HasNoPlace place (tree_of n)
  no_arg none from to t r =
      let p = inside (subst (λ l. Rewrites from to l (tree_of n) t) is r) in
      let e : None ≡ Some p.x = ap (option_map (λ (b : Bor Node). tree_of b.now)) (sym none) ∙ item_at n k rest from to t p in cc

  module _ (m : Bor Node) (at : slice_get (out-Node n).args.now k ≡ Some m) where
    pub arg_no : HasNoPlace rest (tree_of m.now) → HasNoPlace place (tree_of n)
    arg_no none from to t r =
        let p = inside (subst (λ l. Rewrites from to l (tree_of n) t) is r) in
        let e : Some (tree_of m.now) ≡ Some p.x = ap (option_map (λ (b : Bor Node). tree_of b.now)) (sym at) ∙ item_at n k rest from to t p in
        let f : p.x ≡ tree_of m.now = cc in
        none from to p.y (subst (λ z. Rewrites from to rest z p.y) f p.rewrites)

    pub arg_yes : (new : Tree) (u : Bor Node) (w : Node) → IsReplaced new rest (tree_of m.now) (tree_of u.now) → Fits (out-Node n).head (out-Node n).args.now
        → tree_of w ≡ tree_at (out-Node n).head (trees_of (slice_set (out-Node n).args.now k u)) → IsReplaced new place (tree_of n) (tree_of w)
    arg_yes new u w r fits e = by (out-Node n).head fits (tree_of-out n) e
      where
        args : List (Bor Node)
        args = (out-Node n).args.now

        by : (h : Head) → Fits h args → tree_of n ≡ tree_at h (trees_of args) → tree_of w ≡ tree_at h (trees_of (slice_set args k u)) → IsReplaced new place (tree_of n) (tree_of w)
        by (Var s i) fits p q = let z : slice_get [] k ≡ Some m = ap (λ l. slice_get l k) (sym fits) ∙ at in absurd (cc)
        by (Sym f) fits p q = record {
          from = r.from;
          rewrites = subst (λ l. Rewrites r.from new l (tree_of n) (tree_of w)) (sym is)
              (subst (λ j. Rewrites r.from new (j ∷ rest) (tree_of n) (tree_of w)) (trees_long (take k args) ∙ long_take args k m at)
              (subst (λ z. Rewrites r.from new (length (trees_of (take k args)) ∷ rest) z (tree_of w))
              (sym (p ∙ ap (tree.App f) (ap trees_of (cut args k m at) ∙ trees_append (take k args) (m ∷ drop (suc k) args))))
              (subst (λ z. Rewrites r.from new (length (trees_of (take k args)) ∷ rest) (tree.App f (trees_of (take k args) ++ tree_of m.now ∷ trees_of (drop (suc k) args))) z)
              (sym (q ∙ ap (tree.App f) (ap trees_of (set_cut args k m u at) ∙ trees_append (take k args) (u ∷ drop (suc k) args))))
              (below f (trees_of (take k args)) (trees_of (drop (suc k) args)) rest (tree_of m.now) (tree_of u.now) r.rewrites))));
        }

    -- what stands at a place of the argument stands at one of the term
    pub arg_at : (u : Tree) → IsAt u rest (tree_of m.now) → Fits (out-Node n).head (out-Node n).args.now → IsAt u place (tree_of n)
    arg_at u r fits = by (out-Node n).head fits (tree_of-out n)
      where
        args : List (Bor Node)
        args = (out-Node n).args.now

        by : (h : Head) → Fits h args → tree_of n ≡ tree_at h (trees_of args) → IsAt u place (tree_of n)
        by (Var s i) fits p = let z : slice_get [] k ≡ Some m = ap (λ l. slice_get l k) (sym fits) ∙ at in absurd (cc)
        by (Sym f) fits p = subst (λ l. Rewrites u u l (tree_of n) (tree_of n)) (sym is)
            (subst (λ j. Rewrites u u (j ∷ rest) (tree_of n) (tree_of n)) (trees_long (take k args) ∙ long_take args k m at)
            (subst (λ z. Rewrites u u (length (trees_of (take k args)) ∷ rest) z z)
            (sym (p ∙ ap (tree.App f) (ap trees_of (cut args k m at) ∙ trees_append (take k args) (m ∷ drop (suc k) args))))
            (below f (trees_of (take k args)) (trees_of (drop (suc k) args)) rest (tree_of m.now) (tree_of m.now) r)))

pub at_the_root : (new s : Tree) (place : List ℕ) → length place ≡ 0 → IsReplaced new place s new
at_the_root new s [] e = record { from = s; rewrites = root }
at_the_root new s (k ∷ place) e = absurd (omega (arith, e))

-- what holds of each item holds of the one that is read
pub each_at : {A : Type 0} (P : A → Type 0) (xs : List A) (k : ℕ) (x : A) → Each P xs → slice_get xs k ≡ Some x → P x
each_at P [] k x h e = cc
each_at P (y ∷ xs) zero x h e = let f : y ≡ x = cc in subst P f h.0
each_at P (y ∷ xs) (suc k) x h e = each_at P xs k x h.1 e

-- On the way to a place

-- what is found from here on is found from the term on
pub record IsOnWay (bank : Terms) (term : Node) (place : List ℕ) (here : Node) (rest : List ℕ) : Type 0 where
  pub held : IsOf bank here
  pub none : HasNoPlace rest (tree_of here) → HasNoPlace place (tree_of term)
  pub some : (u : Tree) → IsAt u rest (tree_of here) → IsAt u place (tree_of term)

abbrev pub GoesOn : Node → List ℕ → Node → List ℕ → Type 0
GoesOn term place here rest = (bank : Terms) → IsOf bank term → IsOnWay bank term place here rest

-- and these are the turns so far
pub record GoesBy (bank : Terms) (term : Node) (place : List ℕ) (turns : List Turn) (here : Node) (rest : List ℕ) : Type 0 where
  pub on : IsOnWay bank term place here rest
  pub leads : Leads term turns here
  pub numbers : map number_of turns ++ rest ≡ place

pub way_start : (bank : Terms) (term : Node) (place : List ℕ) → IsOf bank term → IsOnWay bank term place term place
way_start bank term place h = record { held = h; none = λ n. n; some = λ u r. r }

module _ (bank : Terms) (term : Node) (place : List ℕ) (here' : Node) (k : ℕ) (rest more : List ℕ) (is : rest ≡ k ∷ more) (w : IsOnWay bank term place here' rest) where
  pub way_stops : slice_get (out-Node here').args.now k ≡ None → HasNoPlace place (tree_of term)
  way_stops none = w.none (no_arg here' k more rest is none)

  pub way_on : (m : Bor Node) → slice_get (out-Node here').args.now k ≡ Some m → IsOnWay bank term place m.now more
  way_on m at = record {
    held = each_at (λ (b : Bor Node). IsOf bank b.now) (out-Node here').args.now k m (args_held bank here' w.held) at;
    none = λ n. w.none (arg_no here' k more rest is m at n);
    some = λ u r. w.some u (arg_at here' k more rest is m at u r (facts bank here' w.held).fits);
  }

pub way_ends : (bank : Terms) (term : Node) (place : List ℕ) (here' : Node) (rest : List ℕ) → rest ≡ [] → IsOnWay bank term place here' rest → IsAt (tree_of here') place (tree_of term)
way_ends bank term place here' rest e w = w.some (tree_of here') (subst (λ l. Rewrites (tree_of here') (tree_of here') l (tree_of here') (tree_of here')) (sym e) root)

-- The turns of a way

lead_more : (top : Node) (turns : List Turn) (n : Bor Node) (k : ℕ) (m : Bor Node) → Leads top turns n.now → slice_get (out-Node n.now).args.now k ≡ Some m → Leads top (turns ++ (n, k) ∷ []) m.now
lead_more top [] n k m e at = (m, e, at, refl)
lead_more top (turn ∷ turns) n k m h at = (h.0, h.1, h.2, lead_more h.0.now turns n k m h.3 at)

-- the last turn of a way
pub record IsLast (top : Node) (turns : List Turn) (n : Bor Node) (k : ℕ) (bottom : Node) : Type 0 where
  pub leads : Leads top turns n.now
  pub below : Bor Node
  pub at : slice_get (out-Node n.now).args.now k ≡ Some below
  pub is : below.now ≡ bottom

lead_less : (top : Node) (turns : List Turn) (n : Bor Node) (k : ℕ) (bottom : Node) → Leads top (turns ++ (n, k) ∷ []) bottom → IsLast top turns n k bottom
lead_less top [] n k bottom h = record { leads = h.1; below = h.0; at = h.2; is = h.3 }
lead_less top (turn ∷ turns) n k bottom h =
    let r = lead_less h.0.now turns n k bottom h.3 in
    record { leads = (h.0, h.1, h.2, r.leads); below = r.below; at = r.at; is = r.is }

numbers_more : (turns : List Turn) (n : Bor Node) (k : ℕ) (rest : List ℕ) → map number_of (turns ++ (n, k) ∷ []) ++ rest ≡ map number_of turns ++ k ∷ rest
numbers_more [] n k rest = refl
numbers_more (turn ∷ turns) n k rest = ap (λ l. number_of turn ∷ l) (numbers_more turns n k rest)

pub by_start : (bank : Terms) (term : Node) (place : List ℕ) → IsOf bank term → GoesBy bank term place [] term place
by_start bank term place h = record { on = way_start bank term place h; leads = refl; numbers = refl }

pub by_on : (bank : Terms) (term : Node) (place : List ℕ) (turns new : List Turn) (n : Bor Node) (k : ℕ) (rest more : List ℕ) → rest ≡ k ∷ more → (m : Bor Node)
    → slice_get (out-Node n.now).args.now k ≡ Some m → new ≡ turns ++ (n, k) ∷ [] → GoesBy bank term place turns n.now rest → GoesBy bank term place new m.now more
by_on bank term place turns new n k rest more is m at pushed g = record {
  on = way_on bank term place n.now k rest more is g.on m at;
  leads = subst (λ l. Leads term l m.now) (sym pushed) (lead_more term turns n k m g.leads at);
  numbers = ap (λ l. map number_of l ++ more) pushed ∙ numbers_more turns n k more ∙ ap (λ l. map number_of turns ++ l) (sym is) ∙ g.numbers;
}

pub by_ends : (bank : Terms) (term : Node) (place : List ℕ) (turns : List Turn) (here' : Node) (rest : List ℕ) → rest ≡ [] → GoesBy bank term place turns here' rest → IsWay term turns place
by_ends bank term place turns here' rest e g = record {
  bottom = here';
  leads = g.leads;
  numbers = sym (append-nil (map number_of turns)) ∙ ap (λ l. map number_of turns ++ l) (sym e) ∙ g.numbers;
}

-- Up again

lead_held : (bank : Terms) (top : Node) (turns : List Turn) (bottom : Node) → IsOf bank top → Leads top turns bottom → AllTurns bank turns
lead_held bank top [] bottom h e = tt
lead_held bank top (turn ∷ turns) bottom h l =
    let own = subst (IsOf bank) l.1 h in
    (own, lead_held bank l.0.now turns bottom (each_at (λ (b : Bor Node). IsOf bank b.now) (out-Node turn.0.now).args.now turn.1 l.0 (args_held bank turn.0.now own) l.2) l.3)

turns_stay : (old new : Terms) (turns : List Turn) → Grows old new → AllTurns old turns → AllTurns new turns
turns_stay old new [] g h = tt
turns_stay old new (turn ∷ turns) g h = (stays old new turn.0.now g h.0, turns_stay old new turns g h.1)

turns_less : (bank : Terms) (turns : List Turn) (turn : Turn) → AllTurns bank (turns ++ turn ∷ []) → AllTurns bank turns × IsOf bank turn.0.now
turns_less bank [] turn h = (tt, h.0)
turns_less bank (t ∷ turns) turn h = let r = turns_less bank turns turn h.1 in ((h.0, r.0), r.1)

pub rise_start : (bank : Terms) (top : Node) (place : List ℕ) (new : Node) (turns : List Turn) → IsOf bank top → IsOf bank new → IsWay top turns place
    → IsRising bank bank top place (tree_of new) turns new
rise_start bank top place new turns h k w = record {
  grows = grows_none bank;
  held = k;
  turns_held = lead_held bank top turns w.bottom h w.leads;
  bottom = w.bottom;
  leads = w.leads;
  below = [];
  numbers = append-nil (map number_of turns) ∙ w.numbers;
  is = record { from = tree_of w.bottom; rewrites = root };
}

module _ (start now : Terms) (top : Node) (place : List ℕ) (new : Tree) (before turns : List Turn) (n : Bor Node) (k : ℕ) (h : Bor Node) (w : IsRising start now top place new before h.now)
    (popped : before ≡ turns ++ (n, k) ∷ []) where
  last_turn : IsLast top turns n k w.bottom
  last_turn = lead_less top turns n k w.bottom (subst (λ l. Leads top l w.bottom) popped w.leads)

  last_held : AllTurns now turns × IsOf now n.now
  last_held = turns_less now turns (n, k) (subst (AllTurns now) popped w.turns_held)

  pub rise_held : IsOf now n.now
  rise_held = last_held.1

  pub rise_within : k < length (out-Node n.now).args.now
  rise_within = slice_get_within (out-Node n.now).args.now k last_turn.below last_turn.at

  pub rise_on : (later : Terms) (u : Node) → Grows now later → IsOf later u → tree_of u ≡ tree_at (out-Node n.now).head (trees_of (slice_set (out-Node n.now).args.now k h))
      → IsRising start later top place new turns u
  rise_on later u g held e = record {
    grows = grows_on start now later w.grows g;
    held = held;
    turns_held = turns_stay now later turns g last_held.0;
    bottom = n.now;
    leads = last_turn.leads;
    below = k ∷ w.below;
    numbers = sym (numbers_more turns n k w.below) ∙ ap (λ l. map number_of l ++ w.below) (sym popped) ∙ w.numbers;
    is = arg_yes n.now k w.below (k ∷ w.below) refl last_turn.below last_turn.at new h u
        (subst (λ z. IsReplaced new w.below (tree_of z) (tree_of h.now)) (sym last_turn.is) w.is) (facts now n.now last_held.1).fits e;
  }

pub rise_end : (start now : Terms) (top : Node) (place : List ℕ) (new : Tree) (turns : List Turn) (h : Node) → length turns ≡ 0 → IsRising start now top place new turns h
    → IsReplaced new place (tree_of top) (tree_of h)
rise_end start now top place new (turn ∷ turns) h e w = absurd (omega (arith, e))
rise_end start now top place new [] h e w = subst (λ l. IsReplaced new l (tree_of top) (tree_of h)) w.numbers (subst (λ z. IsReplaced new w.below (tree_of z) (tree_of h)) (sym w.leads) w.is)
