-- What an agenda knows after an instance, which is live or moved.
use Rattle.std.proofs.Common.{◌≡◌, ℕ, zero, suc, ◌-◌, ◌≤◌, ◌⊎◌, inl, inr, Bool, true, false, if◌then◌else◌, List, [], ◌∷◌, ◌++◌, length, take, drop, Option, Some, None, refl, sym, ap, ap₂, ◌∙◌, subst, subst₂, arith, append_assoc, append-nil}
use Rattle.std.specs.Option.{MatchOption}
use Rattle.std.proofs.lemmas.List.{length-append}
use Rattle.std.proofs.Math.Seq.{drop-append_seam}
use Rattle.law_sig.specs.Lists.{In, Each, Rising}
use Rattle.law_sig.specs.Lists.In.{here}
use Rattle.law_sig.specs.Trees.{schema_of}
use Rattle.law_sig.specs.Tests.{is_bounded}
use Rattle.law_sig.specs.Order.{IsBefore}
use Rattle.law_sig.specs.declared.tree.SymId.{SymId}
use Rattle.law_sig.specs.declared.tree.Tree.{Tree}
use Rattle.law_sig.specs.declared.tree.Tree.TheVariants.{App}
use Rattle.law_sig.specs.declared.parts.SigParts.{SigParts}
use Rattle.law_laws.proofs.TreeFacts.{same_app, var_no_app}
use Rattle.law_laws.proofs.ListFacts.{of_each, each_map, in_left, in_right, in_split, in_map, each_both, rising_both}
use Rattle.law_laws.proofs.Orders.{never_before_itself, before_chain}
use Rattle.law_sig.specs.Expected.{IsFirstAbove, IsSpent}
use Rattle.law_sig.specs.Schemas.{IsConsidered, IsInstance}
use Rattle.law_sig.specs.Schemas.IsConsidered.{variable, application}
use Rattle.law_valid.specs.Order.{IsBlockSpent, IsNextTerm, with_term, Progress, after_term, AreSpent, IsSchemaNext, IsTermNext}
use Rattle.law_agenda.specs.declared.agenda.Agenda.{Agenda}
use Rattle.law_agenda.specs.declared.agenda.Going.{Going}
use Rattle.law_agenda.specs.declared.candidates.Candidate.{Candidate}
use Rattle.law_agenda.specs.declared.instances.Instance.{Instance}
use Rattle.law_agenda.specs.declared.instances.Instance.TheVariants as instance
use Rattle.law_agenda.specs.declared.instances.Range.{Range}
use Rattle.law_agenda.specs.declared.shelves.Spread.{Spread}
use Rattle.law_agenda.specs.declared.stores.Store.{Store}
use Rattle.law_agenda.specs.declared.stores.Found.{Found}
use Rattle.law_agenda.specs.Agendas.{IsReady, IsGoing, IsAt, IsFinished, Continues, AreKept, AreRanged}
use Rattle.law_agenda.specs.Candidates.{IsCandidate, NextOf}
use Rattle.law_listing.specs.Choices.{counts_of, IsTermOf}
use Rattle.law_agenda.specs.Instances.{piece, pieces, IsRange, AreRanges, IsInstanceOf, IsHeld, NextInstance}
use Rattle.law_agenda.specs.Stores.{IsStore, IsItem, IsFitting, IsClosed, Closes}
use Rattle.law_agenda.specs.Walking.{IsWalk}
use Rattle.law_agenda.proofs.AgendaFacts.{term_one}
use Rattle.law_agenda.proofs.Storing.{longer}
use Rattle.law_listing.proofs.Staging.{first_after, spent_after}

-- Ranges

take_front : (n : ℕ) (xs ys : List Tree) → n ≤ length xs → take n (xs ++ ys) ≡ take n xs
take_front zero xs ys h = refl
take_front (suc n) [] ys h = absurd (omega arith)
take_front (suc n) (x ∷ xs) ys h = ap (λ l. x ∷ l) (take_front n xs ys (omega arith))

piece_front : (from n : ℕ) (xs ys : List Tree) → n ≤ length xs - from → take n (drop from (xs ++ ys)) ≡ take n (drop from xs)
piece_front zero n xs ys h = take_front n xs ys (omega arith)
piece_front (suc from) zero xs ys h = refl
piece_front (suc from) (suc n) [] ys h = absurd (omega arith)
piece_front (suc from) (suc n) (x ∷ xs) ys h = piece_front from (suc n) xs ys (omega arith)

take_whole : (n : ℕ) (xs : List Tree) → n ≡ length xs → take n xs ≡ xs
take_whole zero [] e = refl
take_whole zero (x ∷ xs) e = absurd (omega arith)
take_whole (suc n) [] e = absurd (omega arith)
take_whole (suc n) (x ∷ xs) e = ap (λ l. x ∷ l) (take_whole n xs (omega arith))

piece_kept : (lives more : List Tree) (r : Range) → r.to ≤ length lives → piece (lives ++ more) r ≡ piece lives r
piece_kept lives more r h = piece_front r.from (r.to - r.from) lives more (omega arith)

-- the last ones are a range
piece_last : (old new : List Tree) (r : Range) → r.from ≡ length old → r.to ≡ length (old ++ new) → piece (old ++ new) r ≡ new
piece_last old new r f l =
    let k = length-append old new in
    ap (λ n. take (r.to - r.from) (drop n (old ++ new))) f ∙ ap (take (r.to - r.from)) (drop-append_seam old new) ∙ take_whole (r.to - r.from) new (omega arith)

-- with more live terms, all of a schema, the ranges of other schemas and the instances over them stay

module _ (parts : SigParts) (lives more : List Tree) (c : Tree) (owned : Each (λ s. schema_of s ≡ c) more) where
  range_kept : (d : Tree) (r : Range) → (d ≡ c → ⊥) → IsRange parts lives d r → IsRange parts (lives ++ more) d r
  range_kept d r other is = record {
    within = let h = is.within in let k = length-append lives more in omega arith;
    members = λ s. (
      λ at. let h = (is.members s).0 (subst (In s) (piece_kept lives more r is.within) at) in (in_left more h.0, h.1),
      λ h. subst (In s) (sym (piece_kept lives more r is.within)) (by s h.1 (in_split lives more h.0)),
    );
    rising = subst (Rising (IsBefore parts)) (sym (piece_kept lives more r is.within)) is.rising;
  }
    where
      by : (s : Tree) → schema_of s ≡ d → In s lives ⊎ In s more → In s (piece lives r)
      by s e (inl at) = (is.members s).1 (at, e)
      by s e (inr at) = absurd (other (sym e ∙ of_each (λ s. schema_of s ≡ c) at owned))

  ranges_kept : (cs : List Tree) (rs : List Range) → Each (λ d. d ≡ c → ⊥) cs → AreRanges parts lives cs rs → AreRanges parts (lives ++ more) cs rs
  ranges_kept [] [] others is = tt
  ranges_kept [] (r ∷ rs) others is = absurd is
  ranges_kept (d ∷ cs) [] others is = absurd is
  ranges_kept (d ∷ cs) (r ∷ rs) others is = (range_kept d r others.0 is.0, ranges_kept cs rs others.1 is.1)

  pieces_kept : (cs : List Tree) (rs : List Range) → AreRanges parts lives cs rs → pieces (lives ++ more) rs ≡ pieces lives rs
  pieces_kept [] [] is = refl
  pieces_kept [] (r ∷ rs) is = absurd is
  pieces_kept (d ∷ cs) [] is = absurd is
  pieces_kept (d ∷ cs) (r ∷ rs) is = ap₂ (λ p l. (p ∷ []) ∷ l) (piece_kept lives more r is.0.within) (pieces_kept cs rs is.1)

  held_kept : (i : Instance) (Earlier : Tree → Type 0) → ((d : Tree) → Earlier d → d ≡ c → ⊥) → ((f : SymId) (cs : List Tree) → c ≡ App f cs → Each Earlier cs) → Each (λ t. is_bounded parts t ≡ true) more
      → IsHeld parts lives i c → IsHeld parts (lives ++ more) i c
  held_kept (instance.Var sort index count) Earlier others args bounded is = is
  held_kept (instance.App f rs walk) Earlier others args bounded (cs, e, is) = (
    cs,
    e,
    record {
      ranges = ranges_kept cs rs (each_map Earlier (λ d. d ≡ c → ⊥) others cs (args f cs e)) is.ranges;
      explored = is.explored;
      sort = is.sort;
      sorted = is.sorted;
      small = is.small;
      bounded = each_both (λ t. is_bounded parts t ≡ true) lives more is.bounded bounded;
    },
  )

  instance_kept : (i : Instance) (t : Tree) → IsHeld parts lives i c → IsInstanceOf lives i t → IsInstanceOf (lives ++ more) i t
  instance_kept (instance.Var sort index count) t held is = is
  instance_kept (instance.App f rs walk) t (cs, e, open') is =
      subst (λ l. IsWalk walk (counts_of l) 0 × IsTermOf l f walk.row t) (sym (pieces_kept cs rs open'.ranges)) is

-- Schemas

considered_args : (parts : SigParts) (spreads : List Tree) (c : Tree) → IsConsidered parts spreads c → (f : SymId) (cs : List Tree) → c ≡ App f cs → Each (λ d. In d spreads) cs
considered_args parts spreads c (variable sort declared some) f cs e = absurd (var_no_app sort 0 f cs e)
considered_args parts spreads c (application g ds sort explored each sorted small) f cs e = subst (Each (λ d. In d spreads)) (same_app g f ds cs e).1 each

earlier_other : (parts : SigParts) (spreads : List Tree) (c : Tree) → IsClosed parts spreads c → (d : Tree) → In d spreads → d ≡ c → ⊥
earlier_other parts spreads c closed d at e = never_before_itself parts c (subst (λ z. IsBefore parts z c) e (of_each (λ z. IsBefore parts z c) at closed.after))

item_spread : (parts : SigParts) (spreads : List Tree) (store : Store) (e : Spread) → IsStore parts spreads store → IsItem store e → In e.schema spreads
item_spread parts spreads store e is (inl at) = (is.level_is.sound e.schema (in_map (λ (x : Spread). x.schema) at)).0
item_spread parts spreads store e is (inr s) = (is.stock.shelf_is.sound s.own s.sort e.schema (in_map (λ (x : Spread). x.schema) s.at)).0

some_same : {A : Type 0} {x y : A} → Some x ≡ Some y → x ≡ y
some_same e = cc

-- After the next instance: with these live terms, and with it among them where it is live

abbrev After : Progress → Tree → List Tree → Progress
After p t lives = record { parts = p.parts; spreads = p.spreads; schemas = p.schemas; lives = lives; block = with_term p.block t }

module _ (a : Agenda) (g : Going) (p : Progress) (is : IsGoing a g p) (t : Tree) (next : IsTermNext p t) (more : List Tree) (same : Each (λ s. s ≡ t) more) (rises : Rising (IsBefore p.parts) more) where
  first : IsFirstAbove (IsBefore p.parts) (IsInstance p.parts p.lives g.spread.schema) is.terms t
  first = subst (λ o. IsNextTerm p.parts p.lives o t) is.block_is next

  term_same : is.term ≡ t
  term_same = term_one p.parts p.lives p.block is.term t is.next next

  owned : Each (λ s. schema_of s ≡ g.spread.schema) more
  owned = each_map (λ s. s ≡ t) (λ s. schema_of s ≡ g.spread.schema) (λ s e. ap schema_of e ∙ first.is.schema) more same

  bounded : Each (λ s. is_bounded p.parts s ≡ true) more
  bounded = each_map (λ s. s ≡ t) (λ s. is_bounded p.parts s ≡ true) (λ s e. ap (is_bounded p.parts) e ∙ first.is.bounded.bounded) more same

  other : (d : Tree) → In d is.earlier → d ≡ g.spread.schema → ⊥
  other = earlier_other p.parts is.earlier g.spread.schema is.closed

  held : IsHeld p.parts (p.lives ++ more) g.instance g.spread.schema
  held = held_kept p.parts p.lives more g.spread.schema owned g.instance (λ d. In d is.earlier) other (considered_args p.parts is.earlier g.spread.schema is.closed.considered) bounded is.held

  instance_is : IsInstanceOf (p.lives ++ more) g.instance t
  instance_is = instance_kept p.parts p.lives more g.spread.schema owned g.instance t is.held (subst (IsInstanceOf p.lives g.instance) term_same is.term_is)

  kept : AreKept p.parts p.spreads (p.lives ++ more)
  kept = record {
    bounded = each_both (λ s. is_bounded p.parts s ≡ true) p.lives more is.kept.bounded bounded;
    owned = λ s at. by s (in_split p.lives more at);
  }
    where
      by : (s : Tree) → In s p.lives ⊎ In s more → In (schema_of s) p.spreads
      by s (inl at) = is.kept.owned s at
      by s (inr at) = subst₂ In (sym (of_each (λ s. schema_of s ≡ g.spread.schema) at owned)) (sym is.spreads_are) (in_right is.earlier here)

  ranged : AreRanged p.parts (p.lives ++ more) a.store
  ranged = λ e at. range_kept p.parts p.lives more g.spread.schema owned e.schema (record { from = e.from; to = e.to }) (other e.schema (item_spread p.parts is.earlier a.store e is.store_is at)) (is.ranged e at)

  lives_are : p.lives ++ more ≡ is.old ++ (is.new ++ more)
  lives_are = ap (λ l. l ++ more) is.lives_are ∙ append_assoc is.old is.new more

  new_owned : Each (λ s. schema_of s ≡ g.spread.schema) (is.new ++ more)
  new_owned = each_both (λ s. schema_of s ≡ g.spread.schema) is.new more is.new_owned owned

  before_term : Each (λ s. IsBefore p.parts s t) is.new
  before_term = subst (λ z. Each (λ s. IsBefore p.parts s z) is.new) term_same is.later

  rising : Rising (IsBefore p.parts) (is.new ++ more)
  rising = rising_both (IsBefore p.parts) is.new more is.rising rises
      (each_map (λ s. IsBefore p.parts s t) (λ s. Each (IsBefore p.parts s) more) (λ s b. each_map (λ z. z ≡ t) (IsBefore p.parts s) (λ z e. subst (IsBefore p.parts s) (sym e) b) more same) is.new before_term)

  block_is : with_term p.block t ≡ Some (record { schema = g.spread.schema; terms = is.terms ++ t ∷ [] })
  block_is = ap (λ o. with_term o t) is.block_is

  going_on : (s : Option Candidate) (o : Option Going) (n : ℕ) (i : Instance) → s ≡ a.schema → length (p.lives ++ more) ≡ n → NextInstance p.parts (p.lives ++ more) g.spread.schema t (Some i)
      → IsGoing (record { store = a.store; schema = s; going = o; lives = n }) (record { spread = g.spread; instance = i }) (After p t (p.lives ++ more))
  going_on s o n i s_is long (u, u_is, u_held, after) = record {
    earlier = is.earlier;
    before = is.before;
    terms = is.terms ++ t ∷ [];
    spreads_are = is.spreads_are;
    schemas_are = is.schemas_are;
    block_is = block_is;
    above = is.above;
    done = is.done;
    store_is = is.store_is;
    ranged = ranged;
    closed = is.closed;
    long = long;
    kept = kept;
    candidate = is.candidate;
    schema_is = s_is ∙ is.schema_is;
    candidate_is = is.candidate_is;
    fitting = is.fitting;
    old = is.old;
    new = is.new ++ more;
    lives_are = lives_are;
    from_is = is.from_is;
    old_owned = is.old_owned;
    new_owned = new_owned;
    rising = rising;
    term = u;
    term_is = u_is;
    held = u_held;
    next = subst (λ b. IsNextTerm p.parts (p.lives ++ more) b u) (sym block_is) (first_after p.parts (IsInstance p.parts (p.lives ++ more) g.spread.schema) is.terms t u first.above after);
    later = each_both (λ s. IsBefore p.parts s u) is.new more
        (each_map (λ s. IsBefore p.parts s t) (λ s. IsBefore p.parts s u) (λ s b. before_chain p.parts s t u b after.above.0) is.new before_term)
        (each_map (λ s. s ≡ t) (λ s. IsBefore p.parts s u) (λ s e. subst (λ z. IsBefore p.parts z u) (sym e) after.above.0) more same);
  }

  last_range : (n : ℕ) → length (p.lives ++ more) ≡ n → IsRange p.parts (p.lives ++ more) g.spread.schema (record { from = g.spread.from; to = n })
  last_range n long = record {
    within = omega (arith, long);
    members = λ s. (
      λ at. let h = subst (In s) piece_is at in (subst (In s) (sym lives_are) (in_right is.old h), of_each (λ s. schema_of s ≡ g.spread.schema) h new_owned),
      λ h. subst (In s) (sym piece_is) (by s h.1 (in_split is.old (is.new ++ more) (subst (In s) lives_are h.0))),
    );
    rising = subst (Rising (IsBefore p.parts)) (sym piece_is) rising;
  }
    where
      piece_is : piece (p.lives ++ more) (record { from = g.spread.from; to = n }) ≡ is.new ++ more
      piece_is = ap (λ l. piece l (record { from = g.spread.from; to = n })) lives_are ∙ piece_last is.old (is.new ++ more) (record { from = g.spread.from; to = n }) (sym is.from_is) (sym long ∙ ap length lives_are)

      by : (s : Tree) → schema_of s ≡ g.spread.schema → In s is.old ⊎ In s (is.new ++ more) → In s (is.new ++ more)
      by s e (inl at) = absurd (other (schema_of s) (is.old_owned s at) e)
      by s e (inr at) = at

  ready_on : (store : Store) (found : Option Candidate) (n : ℕ) → length (p.lives ++ more) ≡ n → IsSpent (IsBefore p.parts) (IsInstance p.parts (p.lives ++ more) g.spread.schema) (t ∷ [])
      → ((e : Spread) → IsItem store e → IsItem a.store e ⊎ (e ≡ record { schema = g.spread.schema; from = g.spread.from; to = n }))
      → IsStore p.parts (is.earlier ++ g.spread.schema ∷ []) store
      → NextOf p.parts store.shelf store.weight (IsConsidered p.parts (is.earlier ++ g.spread.schema ∷ [])) g.spread.schema found
      → IsReady (record { store = store; schema = found; going = None; lives = n }) (After p t (p.lives ++ more))
  ready_on store found n long spent items store_is behind = record {
    spent = subst (λ b. IsBlockSpent p.parts (p.lives ++ more) b) (sym block_is) (spent_after p.parts (IsInstance p.parts (p.lives ++ more) g.spread.schema) is.terms t spent);
    store_is = subst (λ l. IsStore p.parts l store) (sym is.spreads_are) store_is;
    ranged = λ e at. range_by e (items e at);
    kept = kept;
    long = long;
    done = λ d at. subst (In d) (sym is.schemas_are) (done_by d (in_split is.earlier (g.spread.schema ∷ []) (subst (In d) is.spreads_are at)));
    next = next_by found behind;
  }
    where
      range_by : (e : Spread) → IsItem a.store e ⊎ (e ≡ record { schema = g.spread.schema; from = g.spread.from; to = n }) → IsRange p.parts (p.lives ++ more) e.schema (record { from = e.from; to = e.to })
      range_by e (inl at) = ranged e at
      range_by e (inr k) = subst (λ (z : Spread). IsRange p.parts (p.lives ++ more) z.schema (record { from = z.from; to = z.to })) (sym k) (last_range n long)

      done_by : (d : Tree) → In d is.earlier ⊎ In d (g.spread.schema ∷ []) → In d (is.before ++ g.spread.schema ∷ [])
      done_by d (inl at) = in_left (g.spread.schema ∷ []) (is.done d at)
      done_by d (inr at) = in_right is.before at

      next_by : (k : Option Candidate) → NextOf p.parts store.shelf store.weight (IsConsidered p.parts (is.earlier ++ g.spread.schema ∷ [])) g.spread.schema k
          → MatchOption k (AreSpent (After p t (p.lives ++ more))) (λ k. (c : Tree) × IsCandidate p.parts store.shelf store.weight k c × IsSchemaNext (After p t (p.lives ++ more)) c)
      next_by None h = subst₂ (λ s d. IsSpent (IsBefore p.parts) (IsConsidered p.parts s) d) (sym is.spreads_are) (sym is.schemas_are)
          (spent_after p.parts (IsConsidered p.parts (is.earlier ++ g.spread.schema ∷ [])) is.before g.spread.schema h)
      next_by (Some k) (d, d_is, f) = (
        d,
        d_is,
        subst₂ (λ s e. IsFirstAbove (IsBefore p.parts) (IsConsidered p.parts s) e d) (sym is.spreads_are) (sym is.schemas_are)
            (first_after p.parts (IsConsidered p.parts (is.earlier ++ g.spread.schema ∷ [])) is.before g.spread.schema d is.above f),
      )

-- From the code's names

abbrev Longer : Bool → List Tree → Tree → List Tree
Longer live lives t = if live then lives ++ t ∷ [] else lives

longer_by : (parts : SigParts) (live : Bool) (lives : List Tree) (t : Tree) (P : List Tree → Type 0)
    → ((more : List Tree) → Each (λ s. s ≡ t) more → Rising (IsBefore parts) more → P (lives ++ more)) → P (Longer live lives t)
longer_by parts true lives t P f = f (t ∷ []) (refl, tt) (tt, tt)
longer_by parts false lives t P f = subst P (append-nil lives) (f [] tt tt)

longer_length : (live : Bool) (lives : List Tree) (t : Tree) (count n : ℕ) → length lives ≡ count → n ≡ (if live then suc count else count) → length (Longer live lives t) ≡ n
longer_length true lives t count n h e = longer lives t ∙ ap suc h ∙ sym e
longer_length false lives t count n h e = h ∙ sym e

abbrev pub GoesOn : Instance → Option Instance → Type 0
GoesOn last r = (parts : SigParts) (lives : List Tree) (c : Tree) (t : Tree) → IsHeld parts lives last c → IsInstanceOf lives last t → NextInstance parts lives c t r

pub taken_going : (a : Agenda) (g : Going) (p : Progress) (t : Tree) (live : Bool) (n : ℕ) (s : Option Candidate) (o : Option Going) (r : Option Instance) (i : Instance) → IsGoing a g p → IsTermNext p t
    → n ≡ (if live then suc a.lives else a.lives) → s ≡ a.schema → r ≡ Some i → GoesOn g.instance r
    → IsGoing (record { store = a.store; schema = s; going = o; lives = n }) (record { spread = g.spread; instance = i }) (after_term p t live)
taken_going a g p t live n s o r i is next n_is s_is r_is go = longer_by p.parts live p.lives t
    (λ l. length l ≡ n → IsGoing (record { store = a.store; schema = s; going = o; lives = n }) (record { spread = g.spread; instance = i }) (After p t l))
    (λ more same rises long. going_on a g p is t next more same rises s o n i s_is long
    (subst (NextInstance p.parts (p.lives ++ more) g.spread.schema t) r_is
    (go p.parts (p.lives ++ more) g.spread.schema t (held a g p is t next more same rises) (instance_is a g p is t next more same rises))))
    (longer_length live p.lives t a.lives n is.long n_is)

pub taken_ready : (a : Agenda) (g : Going) (p : Progress) (t : Tree) (live : Bool) (n : ℕ) (last : Candidate) (r : Option Instance) (found : Found) → IsGoing a g p → IsTermNext p t
    → n ≡ (if live then suc a.lives else a.lives) → a.schema ≡ Some last → r ≡ None → GoesOn g.instance r
    → ((e : Spread) → IsItem found.store e → IsItem a.store e ⊎ (e ≡ record { schema = g.spread.schema; from = g.spread.from; to = n })) → Closes p.parts a.store last g.spread.schema found.store found.next
    → IsReady (record { store = found.store; schema = found.next; going = None; lives = n }) (after_term p t live)
taken_ready a g p t live n last r found is next n_is s_is r_is go items closes =
    let same_last : is.candidate ≡ last = some_same (sym is.schema_is ∙ s_is) in
    let (store_is, behind) = closes is.earlier is.store_is (subst (λ k. IsCandidate p.parts a.store.shelf a.store.weight k g.spread.schema) same_last is.candidate_is) (subst (IsFitting a.store) same_last is.fitting) is.closed in
    longer_by p.parts live p.lives t (λ l. length l ≡ n → IsReady (record { store = found.store; schema = found.next; going = None; lives = n }) (After p t l))
    (λ more same rises long. ready_on a g p is t next more same rises found.store found.next n long
    (subst (NextInstance p.parts (p.lives ++ more) g.spread.schema t) r_is
    (go p.parts (p.lives ++ more) g.spread.schema t (held a g p is t next more same rises) (instance_is a g p is t next more same rises)))
    items store_is behind)
    (longer_length live p.lives t a.lives n is.long n_is)

-- The same of an agenda by what it has

abbrev Made : Store → Candidate → Spread → Instance → ℕ → Agenda
Made store k e i n = record { store = store; schema = Some k; going = Some (record { spread = e; instance = i }); lives = n }

pub gone_on : (parts : SigParts) (store : Store) (k : Candidate) (g : Going) (n : ℕ) (r : Option Instance) (i : Instance) (a : Agenda) → r ≡ Some i → GoesOn g.instance r
    → a ≡ Made store k g.spread i n → Continues parts store k g n a
gone_on parts store k g n r i a some go made old p t live is store_is schema_is sig_is next n_is =
    subst (λ b. IsAt b (after_term p t live)) (sym made)
    (subst (λ s. IsAt (Made s k g.spread i n) (after_term p t live)) store_is
    (taken_going old g p t live n (Some k) (Some (record { spread = g.spread; instance = i })) r i is next n_is (sym schema_is) some go))

pub gone_over : (parts : SigParts) (store : Store) (k : Candidate) (g : Going) (n : ℕ) (r : Option Instance) (a : Agenda) → r ≡ None → GoesOn g.instance r
    → IsFinished parts store k (record { schema = g.spread.schema; from = g.spread.from; to = n }) n a → Continues parts store k g n a
gone_over parts store k g n r a none go done old p t live is store_is schema_is sig_is next n_is =
    subst₂ (λ h m. IsAt (record { store = a.store; schema = a.schema; going = h; lives = m }) (after_term p t live)) (sym done.rests) (sym done.long)
    (taken_ready old g p t live n k r (record { store = a.store; next = a.schema }) is next n_is schema_is none go
    (subst (λ s. (e : Spread) → IsItem a.store e → IsItem s e ⊎ (e ≡ record { schema = g.spread.schema; from = g.spread.from; to = n })) (sym store_is) done.items)
    (subst₂ (λ q s. Closes q s k g.spread.schema a.store a.schema) sig_is (sym store_is) done.closes))
