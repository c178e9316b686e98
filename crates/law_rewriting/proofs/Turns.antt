-- The turns of unification keep the unifiers.
use Rattle.std.proofs.Common.{◌≡◌, ◌≢◌, ℕ, suc, ◌+◌, ◌≤◌, ◌<◌, ◌⊎◌, inl, inr, Bool, true, false, if◌then◌else◌, List, [], ◌∷◌, ◌++◌, map, length, sym, refl, ap, ap₂, ◌∙◌, subst, arith, Some}
use Rattle.law_sig.specs.Lists.{In, Each, total}
use Rattle.law_sig.specs.Trees.{joined, holes, node_count, Subst, substituted}
use Rattle.law_sig.specs.declared.tree.SortId.{SortId}
use Rattle.law_sig.specs.declared.tree.SymId.{SymId}
use Rattle.law_sig.specs.declared.tree.Tree.{Tree}
use Rattle.law_sig.specs.declared.tree.Tree.TheVariants.{Var, App}
use Rattle.law_laws.proofs.TreeFacts.{tree_induct, tree_cases, same_app, var_no_app, holes-App, nodes-App, substituted-Var, substituted-App, substituted_itself}
use Rattle.law_laws.proofs.ListFacts.{in_none, in_left, in_right, in_split, of_each, each_of}
use Rattle.law_laws.proofs.Derivation.{then as after, substituted_twice}
use Rattle.law_sig.specs.declared.chain.Bind.{Bind}
use Rattle.law_sig.specs.Chains.{is_bound, bound_in}
use Rattle.law_sig.specs.Signature.{sort_of, args_of}
use Rattle.law_sig.specs.declared.parts.SigParts.{SigParts}
use Rattle.law_laws.proofs.BodyFacts.{some_is}
use Rattle.law_laws.proofs.Sorts.{HaveSorts, sorted_app, sorted_var, substituted_sort}
use Rattle.law_rewriting.proofs.Heads.{binds_keep_sorts}
use Rattle.law_rewriting.specs.Heads.{Sorts, head_sort}
use Rattle.law_rewriting.specs.Unifiers.{NoUnifier, AreUnifier}
use Rattle.law_rewriting.specs.UnifyingState.{HaveOneSort, AreWell, BindWell, Problems, single, put_problems, put_binds, bound_more, Solves, Follows, Rests, AllRest, AreClean, Among, IsOpen, both_args}
use Rattle.law_rewriting.proofs.Variables.{hole_here, hole_is, agreed}
use Rattle.law_rewriting.proofs.Binds.{bound_is}
use Rattle.law_rewriting.proofs.Putting.{same_all, single_own, put_same, solves_put, put_solves, follows_put, put_follows, more_is, single_keeps, single_rests, comes_from}
use Rattle.law_rewriting.proofs.Heads.{head-Var, head_kept}

-- A variable that doesn't stand in the term is bound to it.
module _ (r : Sorts) (a b : Tree) (s : SortId) (i : ℕ) (t : Tree) (ps : Problems) (bs : List Bind) (g : IsOpen r a b ((Var s i, t) ∷ ps) bs)
    (n : In i (holes s t) → ⊥) (k : head_sort r t ≡ s) where
  pub free : bound_in bs s i ≡ Var s i
  free = sym (substituted-Var (bound_in bs) s i) ∙ g.rest.0.0

  now_is : (u : Tree) → substituted (bound_in (bound_more s i t bs)) u ≡ substituted (single s i t) (substituted (bound_in bs) u)
  now_is u = same_all (bound_in (bound_more s i t bs)) (after (bound_in bs) (single s i t)) (more_is s i t bs free) u ∙ sym (substituted_twice (bound_in bs) (single s i t) u)

  rests_now : Rests (bound_in (bound_more s i t bs)) t
  rests_now = now_is t ∙ ap (substituted (single s i t)) g.rest.0.1 ∙ single_rests s i t t n

  meets : bound_in (bound_more s i t bs) s i ≡ substituted (bound_in (bound_more s i t bs)) t
  meets = more_is s i t bs free s i ∙ ap (substituted (single s i t)) free ∙ substituted-Var (single s i t) s i ∙ single_own s i t ∙ sym rests_now

  still : (cs : List Bind) → Follows (bound_in bs) cs → Follows (bound_in (bound_more s i t bs)) cs
  still [] h = tt
  still (c ∷ cs) h = (more_is s i t bs free c.sort c.index ∙ ap (substituted (single s i t)) h.0 ∙ sym (now_is c.term), still cs h.1)

  rest_put : (u : Tree) → Rests (bound_in bs) u → Rests (bound_in (bound_more s i t bs)) (substituted (single s i t) u)
  rest_put u h = put_same (bound_in (bound_more s i t bs)) s i t meets u ∙ now_is u ∙ ap (substituted (single s i t)) h

  all_rest : (qs : Problems) → AllRest (bound_in bs) qs → AllRest (bound_in (bound_more s i t bs)) (put_problems (single s i t) qs)
  all_rest [] h = tt
  all_rest (q ∷ qs) h = ((rest_put q.0 h.0.0, rest_put q.1 h.0.1), all_rest qs h.1)

  not_itself : t ≢ Var s i
  not_itself e = n (subst (λ z. In i (holes s z)) (sym e) (hole_here s i))

  -- a bound term that became its variable would have been it before
  own_apart : (c : Bind) → bound_in bs c.sort c.index ≡ c.term → c.term ≢ Var c.sort c.index → substituted (single s i t) c.term ≢ Var c.sort c.index
  own_apart c is differ e = tree_cases (λ u. c.term ≡ u → substituted (single s i t) u ≡ Var c.sort c.index → ⊥)
      (λ w j q d. by w j q (is_bound w j (record { sort = s; index = i; term = t })) refl (sym (substituted-Var (single s i t) w j) ∙ d))
      (λ f args q d. var_no_app c.sort c.index f (map (substituted (single s i t)) args) (sym d ∙ substituted-App (single s i t) f args))
      c.term refl e
    where
      by : (w : SortId) (j : ℕ) → c.term ≡ Var w j → (x : Bool) → is_bound w j (record { sort = s; index = i; term = t }) ≡ x → (if x then t else Var w j) ≡ Var c.sort c.index → ⊥
      by w j q true p d = differ (sym is ∙ sym (substituted-Var (bound_in bs) c.sort c.index) ∙ ap (substituted (bound_in bs)) (sym d) ∙ g.rest.0.1 ∙ d)
      by w j q false p d = differ (q ∙ d)

  clean_put : (cs : List Bind) → Follows (bound_in bs) cs → AreClean (bound_in bs) cs → AreClean (bound_in (bound_more s i t bs)) (put_binds (single s i t) cs)
  clean_put [] f h = tt
  clean_put (c ∷ cs) f h = ((rest_put c.term h.0.0, own_apart c (f.0 ∙ h.0.0) h.0.1), clean_put cs f.1 h.1)

  at_var : (τ : Subst) → substituted τ (Var s i) ≡ substituted τ t → τ s i ≡ substituted τ t
  at_var τ e = sym (substituted-Var τ s i) ∙ e

  among_single : (w : SortId) (j : ℕ) → In j (holes w a) ⊎ In j (holes w b) → Among a b (single s i t w j)
  among_single w j at v l h = by (is_bound w j (record { sort = s; index = i; term = t })) h
    where
      by : (x : Bool) → In l (holes v (if x then t else Var w j)) → In l (holes v a) ⊎ In l (holes v b)
      by true h = g.among.0.1 v l h
      by false h = let p = hole_is v w l j h in
          subst (λ z. In l (holes z a) ⊎ In l (holes z b)) p.0 (subst (λ z. In z (holes w a) ⊎ In z (holes w b)) (sym p.1) at)

  among_put : (u : Tree) → Among a b u → Among a b (substituted (single s i t) u)
  among_put u h v l at = let c = comes_from (single s i t) u v l at in among_single c.sort c.index (h c.sort c.index c.stands) v l c.inside

  all_among : (qs : Problems) → Each (λ (p : Tree × Tree). Among a b p.0 × Among a b p.1) qs → Each (λ (p : Tree × Tree). Among a b p.0 × Among a b p.1) (put_problems (single s i t) qs)
  all_among [] h = tt
  all_among (q ∷ qs) h = ((among_put q.0 h.0.0, among_put q.1 h.0.1), all_among qs h.1)

  term_well : (parts : SigParts) → HaveOneSort parts (Var s i) t → sort_of parts t ≡ Some s
  term_well parts h = h.right ∙ ap Some (sym (sorted_var parts s i h.sort h.left).1)

  problems_well : (parts : SigParts) → sort_of parts t ≡ Some s → (qs : Problems) → AreWell parts qs → AreWell parts (put_problems (single s i t) qs)
  problems_well parts e [] h = tt
  problems_well parts e (q ∷ qs) h =
      let keeps = binds_keep_sorts parts (record { sort = s; index = i; term = t } ∷ []) (e, tt) in (
        record { sort = h.0.sort; left = substituted_sort parts (single s i t) keeps q.0 h.0.sort h.0.left; right = substituted_sort parts (single s i t) keeps q.1 h.0.sort h.0.right },
        problems_well parts e qs h.1,
      )

  binds_well : (parts : SigParts) → sort_of parts t ≡ Some s → (cs : List Bind) → BindWell parts cs → BindWell parts (put_binds (single s i t) cs)
  binds_well parts e [] h = tt
  binds_well parts e (c ∷ cs) h =
      (substituted_sort parts (single s i t) (binds_keep_sorts parts (record { sort = s; index = i; term = t } ∷ []) (e, tt)) c.term c.sort h.0, binds_well parts e cs h.1)

  pub bind_turn : IsOpen r a b (put_problems (single s i t) ps) (bound_more s i t bs)
  bind_turn = record {
    sound = λ τ x y. g.sound τ (substituted-Var τ s i ∙ y.0, put_solves τ s i t y.0 ps x) (put_follows τ s i t y.0 bs y.1);
    solves = λ τ z e. let h = g.solves τ z e in solves_put τ s i t (at_var τ h.0) ps h.1;
    follows = λ τ z e. let h = g.solves τ z e in (at_var τ h.0, follows_put τ s i t (at_var τ h.0) bs (g.follows τ z e));
    keeps = λ u j. ap (head_sort r) (more_is s i t bs free u j) ∙ head_kept r (single s i t) (single_keeps r s i t k) (bound_in bs u j) ∙ g.keeps u j;
    own = (meets, follows_put (bound_in (bound_more s i t bs)) s i t meets bs (still bs g.own));
    rest = all_rest ps g.rest.1;
    clean = ((rests_now, not_itself), clean_put bs g.own g.clean);
    among = all_among ps g.among.1;
    well = λ parts same o. let h = g.well parts same o in let e = term_well parts h.0.0 in
        (problems_well parts e ps h.0.1, (e, binds_well parts e bs h.1));
  }

  -- the variable is one of the two terms', and isn't bound yet
  pub stands_in : In i (holes s a) ⊎ In i (holes s b)
  stands_in = g.among.0.0 s i (hole_here s i)

-- a variable that stands for itself isn't bound
pub not_bound_yet : (σ : Subst) (bs : List Bind) → Follows σ bs → AreClean σ bs → (s : SortId) (i : ℕ) → σ s i ≡ Var s i → (b : Bind) → In b bs → is_bound s i b ≡ false
not_bound_yet σ bs f c s i e b at = by (is_bound s i b) refl
  where
    by : (x : Bool) → is_bound s i b ≡ x → x ≡ false
    by true q =
        let p = bound_is s i b q in
        let h = of_each (λ (b : Bind). σ b.sort b.index ≡ substituted σ b.term) at f in
        let k = of_each (λ (b : Bind). Rests σ b.term × (b.term ≢ Var b.sort b.index)) at c in
        absurd (k.1 (sym (h ∙ k.0) ∙ (λ j. σ (p.0 j) (p.1 j)) ∙ e ∙ sym (λ j. Var (p.0 j) (p.1 j))))
    by false q = refl

-- Nothing is left to do.
follows_at : (τ : Subst) (bs : List Bind) → Follows τ bs → (s : SortId) (i : ℕ) → τ s i ≡ substituted τ (bound_in bs s i)
follows_at τ [] h s i = sym (substituted-Var τ s i)
follows_at τ (b ∷ bs) h s i = by (is_bound s i b) refl (follows_at τ bs h.1 s i)
  where
    by : (c : Bool) → is_bound s i b ≡ c → τ s i ≡ substituted τ (bound_in bs s i) → τ s i ≡ substituted τ (if c then b.term else bound_in bs s i)
    by true q ih = let p = bound_is s i b q in (λ k. τ (sym p.0 k) (sym p.1 k)) ∙ h.0
    by false q ih = ih

pub all_done : (r : Sorts) (a b : Tree) (bs : List Bind) → IsOpen r a b [] bs → AreUnifier r a b bs
all_done r a b bs g = record {
  general = record {
    unifies = record { keeps = g.keeps; same = g.sound (bound_in bs) tt g.own };
    general = λ τ u. record { rest = τ; keeps = u.keeps; is = follows_at τ bs (g.follows τ u.keeps u.same) };
  };
  sorted = each_of (λ (c : Bind). head_sort r c.term ≡ c.sort) bs (λ c at. ap (head_sort r) (sym (term_is c at)) ∙ g.keeps c.sort c.index);
  absent = λ c d at there_too stands.
      let h = agreed (bound_in bs) Var d.term (rests d there_too ∙ sym (substituted_itself d.term)) c.sort c.index stands in
      (of_each (λ (b : Bind). Rests (bound_in bs) b.term × (b.term ≢ Var b.sort b.index)) at g.clean).1 (sym (term_is c at) ∙ h);
}
  where
    rests : (c : Bind) → In c bs → Rests (bound_in bs) c.term
    rests c at = (of_each (λ (b : Bind). Rests (bound_in bs) b.term × (b.term ≢ Var b.sort b.index)) at g.clean).0

    term_is : (c : Bind) → In c bs → bound_in bs c.sort c.index ≡ c.term
    term_is c at = of_each (λ (b : Bind). bound_in bs b.sort b.index ≡ substituted (bound_in bs) b.term) at g.own ∙ rests c at

pub begun : (r : Sorts) (a b : Tree) → IsOpen r a b ((a, b) ∷ []) []
begun r a b = record {
  sound = λ τ x y. x.0;
  solves = λ τ k e. (e, tt);
  follows = λ τ k e. tt;
  keeps = λ s i. head-Var r s i;
  own = tt;
  rest = ((substituted_itself a, substituted_itself b), tt);
  clean = tt;
  among = (((λ s i h. inl h), (λ s i h. inr h)), tt);
  well = λ parts same o. ((o, tt), tt);
}

-- Turns without a binding

map_split : (τ : Subst) (xs ys : List Tree) (ps : Problems) → map (substituted τ) xs ≡ map (substituted τ) ys → Solves τ ps → Solves τ (both_args xs ys ++ ps)
map_split τ [] ys ps e h = h
map_split τ (x ∷ xs) [] ps e h = h
map_split τ (x ∷ xs) (y ∷ ys) ps e h =
    let p : substituted τ x ≡ substituted τ y = cc in let q : map (substituted τ) xs ≡ map (substituted τ) ys = cc in (p, map_split τ xs ys ps q h)

map_join : (τ : Subst) (xs ys : List Tree) (ps : Problems) → length xs ≡ length ys → Solves τ (both_args xs ys ++ ps) → (map (substituted τ) xs ≡ map (substituted τ) ys) × Solves τ ps
map_join τ [] [] ps n h = (refl, h)
map_join τ [] (y ∷ ys) ps n h = absurd (omega arith)
map_join τ (x ∷ xs) [] ps n h = absurd (omega arith)
map_join τ (x ∷ xs) (y ∷ ys) ps n h =
    let k : length xs ≡ length ys = omega arith in
    let r = map_join τ xs ys ps k h.1 in (ap₂ ◌∷◌ h.0 r.0, r.1)

heads_rest : (σ : Subst) (xs : List Tree) → map (substituted σ) xs ≡ xs → (ys : List Tree) → map (substituted σ) ys ≡ ys → (ps : Problems) → AllRest σ ps → AllRest σ (both_args xs ys ++ ps)
heads_rest σ [] e ys d ps h = h
heads_rest σ (x ∷ xs) e [] d ps h = h
heads_rest σ (x ∷ xs) e (y ∷ ys) d ps h =
    let p : substituted σ x ≡ x = cc in let q : map (substituted σ) xs ≡ xs = cc in
    let p' : substituted σ y ≡ y = cc in let q' : map (substituted σ) ys ≡ ys = cc in
    ((p, p'), heads_rest σ xs q ys q' ps h)

abbrev AreAmong : Tree → Tree → Problems → Type 0
AreAmong a b ps = Each (λ (p : Tree × Tree). Among a b p.0 × Among a b p.1) ps

abbrev ListAmong : Tree → Tree → List Tree → Type 0
ListAmong a b ts = (s : SortId) (i : ℕ) → In i (joined (map (holes s) ts)) → In i (holes s a) ⊎ In i (holes s b)

args_among : (a b : Tree) (xs ys : List Tree) (ps : Problems) → ListAmong a b xs → ListAmong a b ys → AreAmong a b ps → AreAmong a b (both_args xs ys ++ ps)
args_among a b [] ys ps h k m = m
args_among a b (x ∷ xs) [] ps h k m = m
args_among a b (x ∷ xs) (y ∷ ys) ps h k m = (
  ((λ s i at. h s i (in_left (joined (map (holes s) xs)) at)), (λ s i at. k s i (in_left (joined (map (holes s) ys)) at))),
  args_among a b xs ys ps (λ s i at. h s i (in_right (holes s x) at)) (λ s i at. k s i (in_right (holes s y) at)) m,
)

args_rest : (σ : Subst) (f : SymId) (xs : List Tree) → Rests σ (App f xs) → map (substituted σ) xs ≡ xs
args_rest σ f xs h = (same_app f f (map (substituted σ) xs) xs (sym (substituted-App σ f xs) ∙ h)).1

sub_args : (τ : Subst) (f g : SymId) (xs ys : List Tree) → substituted τ (App f xs) ≡ substituted τ (App g ys) → map (substituted τ) xs ≡ map (substituted τ) ys
sub_args τ f g xs ys e = (same_app f g (map (substituted τ) xs) (map (substituted τ) ys) (sym (substituted-App τ f xs) ∙ e ∙ substituted-App τ g ys)).1

args_well : (parts : SigParts) (xs ys : List Tree) (ws : List SortId) (ps : Problems) → HaveSorts parts xs ws → HaveSorts parts ys ws → AreWell parts ps → AreWell parts (both_args xs ys ++ ps)
args_well parts [] ys ws ps h k m = m
args_well parts (x ∷ xs) [] ws ps h k m = m
args_well parts (x ∷ xs) (y ∷ ys) [] ps h k m = absurd h
args_well parts (x ∷ xs) (y ∷ ys) (w ∷ ws) ps h k m = (record { sort = w; left = h.0; right = k.0 }, args_well parts xs ys ws ps h.1 k.1 m)

split_well : (parts : SigParts) (f : SymId) (xs ys : List Tree) (ps : Problems) → HaveOneSort parts (App f xs) (App f ys) → AreWell parts ps → AreWell parts (both_args xs ys ++ ps)
split_well parts f xs ys ps o m =
    let a = sorted_app parts f xs o.sort o.left in
    let b = sorted_app parts f ys o.sort o.right in
    let e = some_is a.symbol b.symbol (sym a.declared ∙ b.declared) in
    args_well parts xs ys (args_of a.symbol) ps a.sorts (subst (λ z. HaveSorts parts ys (args_of z)) (sym e) b.sorts) m

pub split_turn : (r : Sorts) (a b : Tree) (f : SymId) (xs ys : List Tree) (ps : Problems) (bs : List Bind) → length xs ≡ length ys
    → IsOpen r a b ((App f xs, App f ys) ∷ ps) bs → IsOpen r a b (both_args xs ys ++ ps) bs
split_turn r a b f xs ys ps bs n g = record {
  sound = λ τ x y. let k = map_join τ xs ys ps n x in g.sound τ (substituted-App τ f xs ∙ ap (App f) k.0 ∙ sym (substituted-App τ f ys), k.1) y;
  solves = λ τ k e. let h = g.solves τ k e in map_split τ xs ys ps (sub_args τ f f xs ys h.0) h.1;
  follows = g.follows;
  keeps = g.keeps;
  own = g.own;
  clean = g.clean;
  rest = heads_rest (bound_in bs) xs (args_rest (bound_in bs) f xs g.rest.0.0) ys (args_rest (bound_in bs) f ys g.rest.0.1) ps g.rest.1;
  among = args_among a b xs ys ps (λ s i at. g.among.0.0 s i (subst (In i) (sym (holes-App s f xs)) at)) (λ s i at. g.among.0.1 s i (subst (In i) (sym (holes-App s f ys)) at)) g.among.1;
  well = λ parts same o. let h = g.well parts same o in (split_well parts f xs ys ps h.0.0 h.0.1, h.1);
}

pub same_turn : (r : Sorts) (a b t : Tree) (ps : Problems) (bs : List Bind) → IsOpen r a b ((t, t) ∷ ps) bs → IsOpen r a b ps bs
same_turn r a b t ps bs g = record {
  sound = λ τ x y. g.sound τ (refl, x) y;
  solves = λ τ k e. (g.solves τ k e).1;
  follows = g.follows;
  keeps = g.keeps;
  own = g.own;
  rest = g.rest.1;
  clean = g.clean;
  among = g.among.1;
  well = λ parts same o. let h = g.well parts same o in (h.0.1, h.1);
}

pub swap_turn : (r : Sorts) (a b s t : Tree) (ps : Problems) (bs : List Bind) → IsOpen r a b ((s, t) ∷ ps) bs → IsOpen r a b ((t, s) ∷ ps) bs
swap_turn r a b s t ps bs g = record {
  sound = λ τ x y. g.sound τ (sym x.0, x.1) y;
  solves = λ τ k e. (sym (g.solves τ k e).0, (g.solves τ k e).1);
  follows = g.follows;
  keeps = g.keeps;
  own = g.own;
  rest = ((g.rest.0.1, g.rest.0.0), g.rest.1);
  clean = g.clean;
  among = ((g.among.0.1, g.among.0.0), g.among.1);
  well = λ parts same o. let h = g.well parts same o in ((record { sort = h.0.0.sort; left = h.0.0.right; right = h.0.0.left }, h.0.1), h.1);
}

-- Where there is no unifier

-- an open problem without a unifier
pub stuck : (r : Sorts) (a b s t : Tree) (ps : Problems) (bs : List Bind) → IsOpen r a b ((s, t) ∷ ps) bs → NoUnifier r s t → NoUnifier r a b
stuck r a b s t ps bs g n τ u = n τ (record { keeps = u.keeps; same = (g.solves τ u.keeps u.same).0 })

pub clash : (r : Sorts) (f g : SymId) (xs ys : List Tree) → f ≢ g → NoUnifier r (App f xs) (App g ys)
clash r f g xs ys n τ u = n (same_app f g (map (substituted τ) xs) (map (substituted τ) ys) (sym (substituted-App τ f xs) ∙ u.same ∙ substituted-App τ g ys)).0

map_long : (τ : Subst) (xs : List Tree) → length (map (substituted τ) xs) ≡ length xs
map_long τ [] = refl
map_long τ (x ∷ xs) = ap suc (map_long τ xs)

pub unlike : (r : Sorts) (f g : SymId) (xs ys : List Tree) → length xs ≢ length ys → NoUnifier r (App f xs) (App g ys)
unlike r f g xs ys n τ u = n (sym (map_long τ xs) ∙ ap length (sub_args τ f g xs ys u.same) ∙ map_long τ ys)

pub other_sort : (r : Sorts) (s t : Tree) → head_sort r s ≢ head_sort r t → NoUnifier r s t
other_sort r s t n τ u = n (sym (head_kept r τ u.keeps s) ∙ ap (head_sort r) u.same ∙ head_kept r τ u.keeps t)

-- what stands for a variable is no larger than the instance, and smaller than that of an application
abbrev Holds : Subst → Tree → Type 0
Holds τ t = (s : SortId) (i : ℕ) → In i (holes s t) → node_count (τ s i) ≤ node_count (substituted τ t)

all_hold : (τ : Subst) (ts : List Tree) → Each (Holds τ) ts → (s : SortId) (i : ℕ) → In i (joined (map (holes s) ts)) → node_count (τ s i) ≤ total (map node_count (map (substituted τ) ts))
all_hold τ [] have s i h = in_none h
all_hold τ (t ∷ ts) have s i h = by (λ k. all_hold τ ts have.1 s i k) (in_split (holes s t) (joined (map (holes s) ts)) h)
  where
    by : (In i (joined (map (holes s) ts)) → node_count (τ s i) ≤ total (map node_count (map (substituted τ) ts))) → In i (holes s t) ⊎ In i (joined (map (holes s) ts))
        → node_count (τ s i) ≤ node_count (substituted τ t) + total (map node_count (map (substituted τ) ts))
    by rest (inl k) = let q = have.0 s i k in omega (arith, q)
    by rest (inr k) = let q = rest k in omega (arith, q)

app_holds : (τ : Subst) (f : SymId) (ts : List Tree) → Each (Holds τ) ts → (s : SortId) (i : ℕ) → In i (holes s (App f ts)) → node_count (τ s i) < node_count (substituted τ (App f ts))
app_holds τ f ts have s i h =
    let q = all_hold τ ts have s i (subst (In i) (holes-App s f ts) h) in
    let e = ap node_count (substituted-App τ f ts) in let w = nodes-App f (map (substituted τ) ts) in omega (arith, q, e, w)

pub holds : (τ : Subst) (t : Tree) → Holds τ t
holds τ = tree_induct (Holds τ)
    (λ u j s i h. let p = hole_is s u i j h in let e = ap node_count (substituted-Var τ u j) in
    let q : node_count (τ s i) ≡ node_count (τ u j) = (λ k. node_count (τ (sym p.0 k) (p.1 k))) in omega (arith, e, q))
    (λ f ts have s i h. let q = app_holds τ f ts have s i h in omega (arith, q))

pub occurs : (r : Sorts) (s : SortId) (i : ℕ) (t : Tree) → t ≢ Var s i → In i (holes s t) → NoUnifier r (Var s i) t
occurs r s i = tree_cases (λ t. t ≢ Var s i → In i (holes s t) → NoUnifier r (Var s i) t)
    (λ u j n h τ k. let p = hole_is s u i j h in n (λ l. Var (p.0 l) (sym p.1 l)))
    (λ f ts n h τ k. let q = app_holds τ f ts (each_of (Holds τ) ts (λ t at. holds τ t)) s i h in
    let d = ap node_count (sym (substituted-Var τ s i) ∙ k.same) in omega (arith, q, d))
