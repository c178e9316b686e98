-- The order of bindings doesn't matter, where none binds a variable a second time.
use Rattle.std.proofs.Common.{◌≡◌, ℕ, ◌||◌, ◌⊎◌, inl, inr, Bool, true, false, true≢false, if◌then◌else◌, Some, List, [], ◌∷◌, ◌++◌, sym, refl, ap, ap₂, ◌∙◌, subst}
use Rattle.law_sig.specs.Lists.{In, Each, Rising}
use Rattle.law_sig.specs.Lists.In.{here, there}
use Rattle.law_sig.specs.Trees.{substituted}
use Rattle.law_sig.specs.Signature.{sort_of}
use Rattle.law_sig.specs.declared.tree.SortId.{SortId}
use Rattle.law_sig.specs.declared.tree.Tree.{Tree}
use Rattle.law_sig.specs.declared.tree.Tree.TheVariants.{Var}
use Rattle.law_sig.specs.declared.chain.Bind.{Bind}
use Rattle.law_sig.specs.Chains.{StandsBefore, is_bound, bound_in}
use Rattle.law_laws.proofs.ListFacts.{in_none, in_rest, in_left, in_right, in_split, of_each, each_of}
use Rattle.law_rewriting.specs.Heads.{Sorts, head_sort}
use Rattle.law_rewriting.specs.Unifiers.{AreUnifier}
use Rattle.law_rewriting.specs.UnifyingState.{Problems, Rests, AllRest, IsOpen}
use Rattle.law_rewriting.proofs.Binds.{bound_is, bound_itself, looked_up}
use Rattle.law_rewriting.proofs.Falling.{has_bind}
use Rattle.law_rewriting.proofs.Putting.{same_all}
use Rattle.law_rewriting.proofs.Vars.{Variable}

-- the same bindings, and the same substitution
pub record SameBinds (bs cs : List Bind) : Type 0 where
  pub to : (b : Bind) → In b bs → In b cs
  pub back : (b : Bind) → In b cs → In b bs
  pub is : (s : SortId) (i : ℕ) → bound_in bs s i ≡ bound_in cs s i

-- each binding is what its variable stands for
abbrev pub AreSole : List Bind → Type 0
AreSole bs = Each (λ (b : Bind). bound_in bs b.sort b.index ≡ b.term) bs

pub rising_sole : (bs : List Bind) → Rising StandsBefore bs → AreSole bs
rising_sole bs r = each_of (λ (b : Bind). bound_in bs b.sort b.index ≡ b.term) bs (looked_up bs r)

-- a variable is bound by one of these, or stands for itself
pub record BoundBy (bs : List Bind) (s : SortId) (i : ℕ) : Type 0 where
  pub bind : Bind
  pub at : In bind bs
  pub sort : bind.sort ≡ s
  pub index : bind.index ≡ i

pub bound_or_not : (bs : List Bind) (s : SortId) (i : ℕ) → BoundBy bs s i ⊎ (has_bind bs (s, i) ≡ false)
bound_or_not [] s i = inr refl
bound_or_not (b ∷ bs) s i = by (is_bound s i b) refl (bound_or_not bs s i)
  where
    later : is_bound s i b ≡ false → BoundBy bs s i ⊎ (has_bind bs (s, i) ≡ false) → BoundBy (b ∷ bs) s i ⊎ (has_bind (b ∷ bs) (s, i) ≡ false)
    later e (inl k) = inl (record { bind = k.bind; at = there k.at; sort = k.sort; index = k.index })
    later e (inr n) = inr (ap₂ ◌||◌ e n)

    by : (x : Bool) → is_bound s i b ≡ x → BoundBy bs s i ⊎ (has_bind bs (s, i) ≡ false) → BoundBy (b ∷ bs) s i ⊎ (has_bind (b ∷ bs) (s, i) ≡ false)
    by true e k = let p = bound_is s i b e in inl (record { bind = b; at = here; sort = p.0; index = p.1 })
    by false e k = later e k

pub unbound_itself : (bs : List Bind) (s : SortId) (i : ℕ) → has_bind bs (s, i) ≡ false → bound_in bs s i ≡ Var s i
unbound_itself [] s i e = refl
unbound_itself (b ∷ bs) s i e = by (is_bound s i b) refl (unbound_itself bs s i)
  where
    by : (x : Bool) → is_bound s i b ≡ x → (has_bind bs (s, i) ≡ false → bound_in bs s i ≡ Var s i) → (if x then b.term else bound_in bs s i) ≡ Var s i
    by true q ih = absurd (true≢false (sym (ap (λ c. c || has_bind bs (s, i)) q) ∙ e))
    by false q ih = ih (sym (ap (λ c. c || has_bind bs (s, i)) q) ∙ e)

-- what is bound by one of these is bound
pub has_bind_in : (bs : List Bind) (b : Bind) → In b bs → has_bind bs (b.sort, b.index) ≡ true
has_bind_in [] b at = in_none at
has_bind_in (c ∷ bs) b at = by (in_rest at) (has_bind_in bs b)
  where
    or_true : (x y : Bool) → y ≡ true → (x || y) ≡ true
    or_true true y e = refl
    or_true false y e = e

    by : (b ≡ c) ⊎ In b bs → (In b bs → has_bind bs (b.sort, b.index) ≡ true) → has_bind (c ∷ bs) (b.sort, b.index) ≡ true
    by (inl e) ih = ap (λ x. x || has_bind bs (b.sort, b.index)) (ap (is_bound b.sort b.index) (sym e) ∙ bound_itself b)
    by (inr k) ih = or_true (is_bound b.sort b.index c) (has_bind bs (b.sort, b.index)) (ih k)

-- lists with the same members are the same substitution
pub same_binds : (bs cs : List Bind) → AreSole bs → AreSole cs → ((b : Bind) → In b bs → In b cs) → ((b : Bind) → In b cs → In b bs) → SameBinds bs cs
same_binds bs cs own other to back = record { to = to; back = back; is = λ s i. by s i (bound_or_not bs s i) (bound_or_not cs s i) }
  where
    at_bind : (ds : List Bind) → AreSole ds → (s : SortId) (i : ℕ) (k : BoundBy ds s i) → bound_in ds s i ≡ k.bind.term
    at_bind ds sole s i k = (λ j. bound_in ds (sym k.sort j) (sym k.index j)) ∙ of_each (λ (b : Bind). bound_in ds b.sort b.index ≡ b.term) k.at sole

    by : (s : SortId) (i : ℕ) → BoundBy bs s i ⊎ (has_bind bs (s, i) ≡ false) → BoundBy cs s i ⊎ (has_bind cs (s, i) ≡ false) → bound_in bs s i ≡ bound_in cs s i
    by s i (inl k) m = at_bind bs own s i k ∙ sym (at_bind cs other s i (record { bind = k.bind; at = to k.bind k.at; sort = k.sort; index = k.index }))
    by s i (inr n) (inl k) = at_bind bs own s i (record { bind = k.bind; at = back k.bind k.at; sort = k.sort; index = k.index }) ∙ sym (at_bind cs other s i k)
    by s i (inr n) (inr m) = unbound_itself bs s i n ∙ sym (unbound_itself cs s i m)

-- one more at the end is one more at the front
pub added_last : (b : Bind) (bs : List Bind) → has_bind bs (b.sort, b.index) ≡ false → SameBinds (b ∷ bs) (bs ++ b ∷ [])
added_last b bs n = record { to = λ c at. to c (in_rest at); back = λ c at. back c (in_split bs (b ∷ []) at); is = λ s i. is s i bs n }
  where
    to : (c : Bind) → (c ≡ b) ⊎ In c bs → In c (bs ++ b ∷ [])
    to c (inl e) = in_right bs (subst (λ z. In z (b ∷ [])) (sym e) here)
    to c (inr at) = in_left (b ∷ []) at

    first : (c : Bind) → (c ≡ b) ⊎ In c [] → In c (b ∷ bs)
    first c (inl e) = subst (λ z. In z (b ∷ bs)) (sym e) here
    first c (inr none) = in_none none

    back : (c : Bind) → In c bs ⊎ In c (b ∷ []) → In c (b ∷ bs)
    back c (inl at) = there at
    back c (inr at) = first c (in_rest at)

    either_false : (x y : Bool) → (x || y) ≡ false → (x ≡ false) × (y ≡ false)
    either_false true y e = cc
    either_false false y e = (refl, e)

    is : (s : SortId) (i : ℕ) (ds : List Bind) → has_bind ds (b.sort, b.index) ≡ false → bound_in (b ∷ ds) s i ≡ bound_in (ds ++ b ∷ []) s i
    is s i [] n = refl
    is s i (d ∷ ds) n = by (is_bound s i b) (is_bound s i d) refl refl (is s i ds (either_false (is_bound b.sort b.index d) (has_bind ds (b.sort, b.index)) n).1)
      where
        apart : is_bound s i b ≡ true → is_bound s i d ≡ true → ⊥
        apart p q =
            let x = bound_is s i b p in
            true≢false (sym q ∙ (λ j. is_bound (sym x.0 j) (sym x.1 j) d) ∙ (either_false (is_bound b.sort b.index d) (has_bind ds (b.sort, b.index)) n).0)

        by : (x y : Bool) → is_bound s i b ≡ x → is_bound s i d ≡ y → (if x then b.term else bound_in ds s i) ≡ bound_in (ds ++ b ∷ []) s i
            → (if x then b.term else (if y then d.term else bound_in ds s i)) ≡ (if y then d.term else bound_in (ds ++ b ∷ []) s i)
        by true true p q ih = absurd (apart p q)
        by true false p q ih = ih
        by false true p q ih = refl
        by false false p q ih = ih

-- What is said of bindings

each_same : (P Q : Bind → Type 0) (bs cs : List Bind) → ((b : Bind) → In b cs → In b bs) → ((b : Bind) → P b → Q b) → Each P bs → Each Q cs
each_same P Q bs cs back f h = each_of Q cs (λ b at. f b (of_each P (back b at) h))

pub open_same : (r : Sorts) (a b : Tree) (ps : Problems) (bs cs : List Bind) → SameBinds bs cs → IsOpen r a b ps bs → IsOpen r a b ps cs
open_same r a b ps bs cs same g = record {
  sound = λ τ x y. g.sound τ x (each_same (λ (b : Bind). τ b.sort b.index ≡ substituted τ b.term) (λ (b : Bind). τ b.sort b.index ≡ substituted τ b.term) cs bs same.to (λ b h. h) y);
  solves = g.solves;
  follows = λ τ k e. each_same (λ (b : Bind). τ b.sort b.index ≡ substituted τ b.term) (λ (b : Bind). τ b.sort b.index ≡ substituted τ b.term) bs cs same.back (λ b h. h) (g.follows τ k e);
  keeps = λ s i. ap (head_sort r) (sym (same.is s i)) ∙ g.keeps s i;
  own = each_same (λ (b : Bind). bound_in bs b.sort b.index ≡ substituted (bound_in bs) b.term) (λ (b : Bind). bound_in cs b.sort b.index ≡ substituted (bound_in cs) b.term) bs cs same.back
      (λ b h. sym (same.is b.sort b.index) ∙ h ∙ instance b.term) g.own;
  rest = all_rest ps g.rest;
  clean = each_same (λ (b : Bind). Rests (bound_in bs) b.term × (b.term ≡ Var b.sort b.index → ⊥)) (λ (b : Bind). Rests (bound_in cs) b.term × (b.term ≡ Var b.sort b.index → ⊥)) bs cs same.back
      (λ b h. (sym (instance b.term) ∙ h.0, h.1)) g.clean;
  among = g.among;
  well = λ parts sorts one. let h = g.well parts sorts one in
      (h.0, each_same (λ (b : Bind). sort_of parts b.term ≡ Some b.sort) (λ (b : Bind). sort_of parts b.term ≡ Some b.sort) bs cs same.back (λ b k. k) h.1);
}
  where
    instance : (t : Tree) → substituted (bound_in bs) t ≡ substituted (bound_in cs) t
    instance t = same_all (bound_in bs) (bound_in cs) same.is t

    all_rest : (qs : Problems) → AllRest (bound_in bs) qs → AllRest (bound_in cs) qs
    all_rest [] h = tt
    all_rest (q ∷ qs) h = ((sym (instance q.0) ∙ h.0.0, sym (instance q.1) ∙ h.0.1), all_rest qs h.1)

pub unifier_same : (r : Sorts) (a b : Tree) (bs cs : List Bind) → SameBinds bs cs → AreUnifier r a b bs → AreUnifier r a b cs
unifier_same r a b bs cs same g = record {
  general = record {
    unifies = record { keeps = λ s i. ap (head_sort r) (sym (same.is s i)) ∙ g.general.unifies.keeps s i; same = sym (instance a) ∙ g.general.unifies.same ∙ instance b };
    general = λ τ u. let t = g.general.general τ u in record { rest = t.rest; keeps = t.keeps; is = λ s i. t.is s i ∙ ap (substituted t.rest) (same.is s i) };
  };
  sorted = each_same (λ (b : Bind). head_sort r b.term ≡ b.sort) (λ (b : Bind). head_sort r b.term ≡ b.sort) bs cs same.back (λ b h. h) g.sorted;
  absent = λ c d at there_too. g.absent c d (same.back c at) (same.back d there_too);
}
  where
    instance : (t : Tree) → substituted (bound_in bs) t ≡ substituted (bound_in cs) t
    instance t = same_all (bound_in bs) (bound_in cs) same.is t

-- the bindings of an open state are sole
pub open_sole : (r : Sorts) (a b : Tree) (ps : Problems) (bs : List Bind) → IsOpen r a b ps bs → AreSole bs
open_sole r a b ps bs g = each_of (λ (b : Bind). bound_in bs b.sort b.index ≡ b.term) bs
    (λ b at. of_each (λ (b : Bind). bound_in bs b.sort b.index ≡ substituted (bound_in bs) b.term) at g.own
    ∙ (of_each (λ (b : Bind). Rests (bound_in bs) b.term × (b.term ≡ Var b.sort b.index → ⊥)) at g.clean).0)

-- a bound variable stays bound, in whatever order
pub has_bind_same : (bs cs : List Bind) → SameBinds bs cs → (v : Variable) → has_bind bs v ≡ has_bind cs v
has_bind_same bs cs same v = by (bound_or_not bs v.0 v.1) (bound_or_not cs v.0 v.1)
  where
    at_bind : (ds : List Bind) (k : BoundBy ds v.0 v.1) → has_bind ds v ≡ true
    at_bind ds k = (λ j. has_bind ds (sym k.sort j, sym k.index j)) ∙ has_bind_in ds k.bind k.at

    by : BoundBy bs v.0 v.1 ⊎ (has_bind bs v ≡ false) → BoundBy cs v.0 v.1 ⊎ (has_bind cs v ≡ false) → has_bind bs v ≡ has_bind cs v
    by (inl k) m = at_bind bs k ∙ sym (at_bind cs (record { bind = k.bind; at = same.to k.bind k.at; sort = k.sort; index = k.index }))
    by (inr n) (inl k) = at_bind bs (record { bind = k.bind; at = same.back k.bind k.at; sort = k.sort; index = k.index }) ∙ sym (at_bind cs k)
    by (inr n) (inr m) = n ∙ sym m
